use Rattle.std.proofs.Common.{◌≡◌, ℕ, ◌≤◌, ◌++◌, [], length, take, drop, refl, sym, ap, ◌∙◌, subst, arith, vec_capacity}
use Rattle.std.proofs.lemmas.List.{length-map}
use Rattle.loader.specs.CatalogueView.{CatalogueView}
use Rattle.verifier.specs.declared.refusal.Mode.TheVariants.{Update}
use Rattle.store_steps.specs.Pipelines.{AreMembers, MayAskAt}
use Rattle.store_steps.specs.Questions.{MayAskEach}
use Rattle.store_steps.specs.EachMember.{AscendEach}
use Rattle.store.specs.Opening.{AreOf}
use Rattle.store.specs.Pipelines.{AreInOrder, AreJoined, AsksFirst, EachGoes, EachGoesOn, HeldTwice, OthersStay, TellsEach, known_at, views_of}
use Rattle.store.specs.PolledPipelines.{SetsFirst}
use Rattle.store_steps.specs.Holds.{session_at}
use Rattle.store_steps.proofs.Export.{updates_as}
use Rattle.store.proofs.Held.{HoldNothing, is_seen, was_seen}
use Rattle.store.proofs.AskedEach.{are_in_order, asked_ascend, asked_may, asked_members, at_taken, each_goes, each_goes_on, lent_back, others_stay, replaced_long, shared_of, stays_on, still_joined, tells_each}
use Rattle.store.proofs.pipeline.Pipeline.invoke_each.Goals as goal

pub returns-in_err-check_each-clause-sessions : goal.returns-in_err-check_each-clause-sessions
returns-in_err-check_each-clause-sessions g c = subst (λ z. EachGoesOn c.args.store.now z (views_of c.self.inside.members.items)) c.self.view_is (stays_on c.args.store.now c.self.inside.members.items c.self.inside.rooms.items c.self.invariant.0 (subst (AreOf c.args.store.now) (sym c.self.view_is) c.requires.own))

pub returns-then-is_empty-clause-sessions : goal.returns-then-is_empty-clause-sessions
returns-then-is_empty-clause-sessions g c = subst (λ z. EachGoesOn c.args.store.now z (views_of c.self.inside.members.items)) c.self.view_is (stays_on c.args.store.now c.self.inside.members.items c.self.inside.rooms.items c.self.invariant.0 (subst (AreOf c.args.store.now) (sym c.self.view_is) c.requires.own))

-- ---- what is asked of the first sessions

pub ask_first-requires-clause-members : goal.ask_first-requires-clause-members
ask_first-requires-clause-members g c =
    subst (λ z. AreMembers c.shared.result.shelf.now.id (take (length c.args.calls.now) z)) (sym c.deref_mut.ensures.value)
    (asked_members c.args.store.now c.shared.result (shared_of c.args.store.now c.shared.result c.shared.ensures.shelf c.shared.ensures.places c.shared.ensures.nodes c.shared.ensures.config c.shared.ensures.catalogue) c.self.inside.members.items c.self.inside.rooms.items c.self.invariant.0 (subst (AreOf c.args.store.now) (sym c.self.view_is) c.requires.own) (take (length c.args.calls.now) c.self.inside.members.items) (λ j m at. at_taken (length c.args.calls.now) c.self.inside.members.items j m at))

pub ask_first-requires-clause-idle : goal.ask_first-requires-clause-idle
ask_first-requires-clause-idle g c =
    subst (λ z. (j : ℕ) → MayAskAt c.shared.result (take (length c.args.calls.now) z) j) (sym c.deref_mut.ensures.value)
    (asked_may c.args.store.now c.shared.result (shared_of c.args.store.now c.shared.result c.shared.ensures.shelf c.shared.ensures.places c.shared.ensures.nodes c.shared.ensures.config c.shared.ensures.catalogue) c.self.inside.members.items c.self.inside.rooms.items c.self.invariant.0 (subst (AreOf c.args.store.now) (sym c.self.view_is) c.requires.own) (take (length c.args.calls.now) c.self.inside.members.items) (λ j m at. at_taken (length c.args.calls.now) c.self.inside.members.items j m at))

pub ask_first-requires-clause-calls : goal.ask_first-requires-clause-calls
ask_first-requires-clause-calls g c = subst (λ (z : CatalogueView). MayAskEach Update z c.args.calls.now) (c.catalogue.ensures.catalogue ∙ sym c.shared.ensures.catalogue) c.in_ok-check_each.ensures.may

pub ask_first-requires-clause-ascend : goal.ask_first-requires-clause-ascend
ask_first-requires-clause-ascend g c =
    subst (λ z. AscendEach (take (length c.args.calls.now) z)) (sym c.deref_mut.ensures.value)
    (asked_ascend c.args.store.now c.shared.result (shared_of c.args.store.now c.shared.result c.shared.ensures.shelf c.shared.ensures.places c.shared.ensures.nodes c.shared.ensures.config c.shared.ensures.catalogue) c.self.inside.members.items c.self.inside.rooms.items c.self.invariant.0 (subst (AreOf c.args.store.now) (sym c.self.view_is) c.requires.own) (take (length c.args.calls.now) c.self.inside.members.items) (λ j m at. at_taken (length c.args.calls.now) c.self.inside.members.items j m at))

-- ---- what they have done

pub invariant_of-self-2 : goal.invariant_of-self-2
invariant_of-self-2 g c =
    let fits : length c.args.calls.now ≤ length c.self.inside.members.items = let few = c.requires.few in let seen = ap length (sym c.self.view_is) ∙ length-map c.self.inside.members.items _ in omega (arith, few, seen) in
    let d : AsksFirst c.self.inside.members.items c.ask_first.new.members c.args.calls.now c.ask_first.new.replies = subst (λ z. AsksFirst z c.ask_first.new.members c.args.calls.now c.ask_first.new.replies) c.deref_mut.ensures.value c.ask_first.ensures.asked in
    let whole : length c.ask_first.new.members ≡ c.self.inside.members.len = ap length d.is ∙ (replaced_long (length c.args.calls.now) d.asked c.self.inside.members.items d.long fits ∙ (ap length (sym c.deref_mut.ensures.value) ∙ c.deref_mut.ensures.len)) in
    let back : (take c.self.inside.members.len (c.ask_first.new.members ++ drop (length c.ask_first.new.members) c.self.inside.members.items)) ≡ d.asked ++ drop (length c.args.calls.now) c.self.inside.members.items = lent_back c.self.inside.members.len c.ask_first.new.members c.self.inside.members.items whole ∙ d.is in
    let still = still_joined c.args.store.now c.self.inside.members.items c.self.inside.rooms.items c.self.invariant.0 (subst (AreOf c.args.store.now) (sym c.self.view_is) c.requires.own) c.args.calls.now c.ask_first.new.replies d.asked (length c.args.calls.now) fits refl d.long d.same d.asks in
    let size = replaced_long (length c.args.calls.now) d.asked c.self.inside.members.items d.long fits in
    let room = c.self.invariant.2 in
    let all = subst (λ xs. AreJoined xs c.self.inside.rooms.items × (c.self.inside.emptied.items ≡ []) × (length xs ≤ vec_capacity c.self.inside.emptied)) (sym back) (still, c.self.invariant.1, omega (arith, size, room)) in
    (all.0, all.1, all.2, c.self.invariant.3, c.self.invariant.4)

pub returns-clause-sessions : goal.returns-clause-sessions
returns-clause-sessions g c =
    let fits : length c.args.calls.now ≤ length c.self.inside.members.items = let few = c.requires.few in let seen = ap length (sym c.self.view_is) ∙ length-map c.self.inside.members.items _ in omega (arith, few, seen) in
    let d : AsksFirst c.self.inside.members.items c.ask_first.new.members c.args.calls.now c.ask_first.new.replies = subst (λ z. AsksFirst z c.ask_first.new.members c.args.calls.now c.ask_first.new.replies) c.deref_mut.ensures.value c.ask_first.ensures.asked in
    let whole : length c.ask_first.new.members ≡ c.self.inside.members.len = ap length d.is ∙ (replaced_long (length c.args.calls.now) d.asked c.self.inside.members.items d.long fits ∙ (ap length (sym c.deref_mut.ensures.value) ∙ c.deref_mut.ensures.len)) in
    let back : (take c.self.inside.members.len (c.ask_first.new.members ++ drop (length c.ask_first.new.members) c.self.inside.members.items)) ≡ d.asked ++ drop (length c.args.calls.now) c.self.inside.members.items = lent_back c.self.inside.members.len c.ask_first.new.members c.self.inside.members.items whole ∙ d.is in
    subst (λ z. EachGoesOn c.args.store.now z (views_of (take c.self.inside.members.len (c.ask_first.new.members ++ drop (length c.ask_first.new.members) c.self.inside.members.items)))) c.self.view_is (subst (λ xs. EachGoesOn c.args.store.now (views_of c.self.inside.members.items) (views_of xs)) (sym back) (each_goes_on c.args.store.now c.self.inside.members.items c.self.inside.rooms.items c.self.invariant.0 (subst (AreOf c.args.store.now) (sym c.self.view_is) c.requires.own) c.args.calls.now c.ask_first.new.replies d.asked (length c.args.calls.now) fits refl d.long d.same d.asks))

pub returns-clause-answered : goal.returns-clause-answered
returns-clause-answered g c may = (
  refl,
  let fits : length c.args.calls.now ≤ length c.self.inside.members.items = let few = c.requires.few in let seen = ap length (sym c.self.view_is) ∙ length-map c.self.inside.members.items _ in omega (arith, few, seen) in
      let d : AsksFirst c.self.inside.members.items c.ask_first.new.members c.args.calls.now c.ask_first.new.replies = subst (λ z. AsksFirst z c.ask_first.new.members c.args.calls.now c.ask_first.new.replies) c.deref_mut.ensures.value c.ask_first.ensures.asked in
      let whole : length c.ask_first.new.members ≡ c.self.inside.members.len = ap length d.is ∙ (replaced_long (length c.args.calls.now) d.asked c.self.inside.members.items d.long fits ∙ (ap length (sym c.deref_mut.ensures.value) ∙ c.deref_mut.ensures.len)) in
      let back : (take c.self.inside.members.len (c.ask_first.new.members ++ drop (length c.ask_first.new.members) c.self.inside.members.items)) ≡ d.asked ++ drop (length c.args.calls.now) c.self.inside.members.items = lent_back c.self.inside.members.len c.ask_first.new.members c.self.inside.members.items whole ∙ d.is in
      subst (λ z. TellsEach z (views_of (take c.self.inside.members.len (c.ask_first.new.members ++ drop (length c.ask_first.new.members) c.self.inside.members.items))) c.args.calls.now c.say_each.new.answers) c.self.view_is
      (subst (λ xs. TellsEach (views_of c.self.inside.members.items) (views_of xs) c.args.calls.now c.say_each.new.answers) (sym back)
      (subst (λ a. TellsEach (views_of c.self.inside.members.items) (views_of (d.asked ++ drop (length c.args.calls.now) c.self.inside.members.items)) c.args.calls.now a) (sym c.say_each.ensures.said) (tells_each c.args.store.now c.self.inside.members.items c.self.inside.rooms.items c.self.invariant.0 (subst (AreOf c.args.store.now) (sym c.self.view_is) c.requires.own) c.args.calls.now c.ask_first.new.replies d.asked (length c.args.calls.now) fits refl d.long d.same d.asks))),
)

pub returns-clause-in_order : goal.returns-clause-in_order
returns-clause-in_order g c may = subst AreInOrder (sym c.say_each.ensures.said) (are_in_order c.ask_first.new.replies c.ask_first.ensures.asked.in_order)

pub returns-clause-others : goal.returns-clause-others
returns-clause-others g c =
    let fits : length c.args.calls.now ≤ length c.self.inside.members.items = let few = c.requires.few in let seen = ap length (sym c.self.view_is) ∙ length-map c.self.inside.members.items _ in omega (arith, few, seen) in
    let d : AsksFirst c.self.inside.members.items c.ask_first.new.members c.args.calls.now c.ask_first.new.replies = subst (λ z. AsksFirst z c.ask_first.new.members c.args.calls.now c.ask_first.new.replies) c.deref_mut.ensures.value c.ask_first.ensures.asked in
    let whole : length c.ask_first.new.members ≡ c.self.inside.members.len = ap length d.is ∙ (replaced_long (length c.args.calls.now) d.asked c.self.inside.members.items d.long fits ∙ (ap length (sym c.deref_mut.ensures.value) ∙ c.deref_mut.ensures.len)) in
    let back : (take c.self.inside.members.len (c.ask_first.new.members ++ drop (length c.ask_first.new.members) c.self.inside.members.items)) ≡ d.asked ++ drop (length c.args.calls.now) c.self.inside.members.items = lent_back c.self.inside.members.len c.ask_first.new.members c.self.inside.members.items whole ∙ d.is in
    subst (λ z. OthersStay (length c.args.calls.now) z (views_of (take c.self.inside.members.len (c.ask_first.new.members ++ drop (length c.ask_first.new.members) c.self.inside.members.items)))) c.self.view_is (subst (λ xs. OthersStay (length c.args.calls.now) (views_of c.self.inside.members.items) (views_of xs)) (sym back) (others_stay c.args.store.now c.self.inside.members.items c.self.inside.rooms.items c.self.invariant.0 (subst (AreOf c.args.store.now) (sym c.self.view_is) c.requires.own) c.args.calls.now c.ask_first.new.replies d.asked (length c.args.calls.now) fits refl d.long d.same d.asks))

pub returns-clause-goes : goal.returns-clause-goes
returns-clause-goes g c may =
    let fits : length c.args.calls.now ≤ length c.self.inside.members.items = let few = c.requires.few in let seen = ap length (sym c.self.view_is) ∙ length-map c.self.inside.members.items _ in omega (arith, few, seen) in
    let d : AsksFirst c.self.inside.members.items c.ask_first.new.members c.args.calls.now c.ask_first.new.replies = subst (λ z. AsksFirst z c.ask_first.new.members c.args.calls.now c.ask_first.new.replies) c.deref_mut.ensures.value c.ask_first.ensures.asked in
    let whole : length c.ask_first.new.members ≡ c.self.inside.members.len = ap length d.is ∙ (replaced_long (length c.args.calls.now) d.asked c.self.inside.members.items d.long fits ∙ (ap length (sym c.deref_mut.ensures.value) ∙ c.deref_mut.ensures.len)) in
    let back : (take c.self.inside.members.len (c.ask_first.new.members ++ drop (length c.ask_first.new.members) c.self.inside.members.items)) ≡ d.asked ++ drop (length c.args.calls.now) c.self.inside.members.items = lent_back c.self.inside.members.len c.ask_first.new.members c.self.inside.members.items whole ∙ d.is in
    subst (λ z. EachGoes z (views_of (take c.self.inside.members.len (c.ask_first.new.members ++ drop (length c.ask_first.new.members) c.self.inside.members.items))) c.args.calls.now c.say_each.new.answers) c.self.view_is
    (subst (λ xs. EachGoes (views_of c.self.inside.members.items) (views_of xs) c.args.calls.now c.say_each.new.answers) (sym back)
    (subst (λ a. EachGoes (views_of c.self.inside.members.items) (views_of (d.asked ++ drop (length c.args.calls.now) c.self.inside.members.items)) c.args.calls.now a) (sym c.say_each.ensures.said) (each_goes c.args.store.now c.self.inside.members.items c.self.inside.rooms.items c.self.invariant.0 (subst (AreOf c.args.store.now) (sym c.self.view_is) c.requires.own) c.args.calls.now c.ask_first.new.replies d.asked (length c.args.calls.now) fits refl d.long d.same d.asks)))

pub returns-clause-held : goal.returns-clause-held
returns-clause-held g c may some =
    let fits : length c.args.calls.now ≤ length c.self.inside.members.items = let few = c.requires.few in let seen = ap length (sym c.self.view_is) ∙ length-map c.self.inside.members.items _ in omega (arith, few, seen) in
    let d : AsksFirst c.self.inside.members.items c.ask_first.new.members c.args.calls.now c.ask_first.new.replies = subst (λ z. AsksFirst z c.ask_first.new.members c.args.calls.now c.ask_first.new.replies) c.deref_mut.ensures.value c.ask_first.ensures.asked in
    let whole : length c.ask_first.new.members ≡ c.self.inside.members.len = ap length d.is ∙ (replaced_long (length c.args.calls.now) d.asked c.self.inside.members.items d.long fits ∙ (ap length (sym c.deref_mut.ensures.value) ∙ c.deref_mut.ensures.len)) in
    let back : (take c.self.inside.members.len (c.ask_first.new.members ++ drop (length c.ask_first.new.members) c.self.inside.members.items)) ≡ d.asked ++ drop (length c.args.calls.now) c.self.inside.members.items = lent_back c.self.inside.members.len c.ask_first.new.members c.self.inside.members.items whole ∙ d.is in
    let still = still_joined c.args.store.now c.self.inside.members.items c.self.inside.rooms.items c.self.invariant.0 (subst (AreOf c.args.store.now) (sym c.self.view_is) c.requires.own) c.args.calls.now c.ask_first.new.replies d.asked (length c.args.calls.now) fits refl d.long d.same d.asks in
    let all = d.asked ++ drop (length c.args.calls.now) c.self.inside.members.items in
    let sets : SetsFirst (length c.args.calls.now) c.self.inside.members.items all d.asked = record { long = d.long; is = refl; same = d.same } in
    let had : HoldNothing c.self.inside.members.items = λ j m at. let i = c.self.invariant.0.idle j m at in (i.known, i.is, i.free.held) in
    let has : HoldNothing all = λ j m at. let i = still.idle j m at in (i.known, i.is, i.free.held) in
    let held = updates_as (session_at (take (length c.args.calls.now) c.self.inside.members.items)) (session_at d.asked) (known_at (views_of c.self.inside.members.items)) (known_at (views_of all)) c.args.calls.now c.ask_first.new.replies (omega (arith, some, c.ask_first.ensures.count))
    (was_seen (length c.args.calls.now) c.self.inside.members.items all d.asked fits sets had has) (λ j lt. is_seen (length c.args.calls.now) c.self.inside.members.items all d.asked fits sets had has j (omega (arith, lt, c.ask_first.ensures.count))) d.held in
    subst (λ z. HeldTwice z (views_of (take c.self.inside.members.len (c.ask_first.new.members ++ drop (length c.ask_first.new.members) c.self.inside.members.items))) c.args.calls.now c.say_each.new.answers) c.self.view_is
    (subst (λ xs. HeldTwice (views_of c.self.inside.members.items) (views_of xs) c.args.calls.now c.say_each.new.answers) (sym back)
    (c.ask_first.new.replies, c.say_each.ensures.said, held))
