use Rattle.std.proofs.Common.{rules, ◌≡◌, ◌≤◌, ◌<◌, ◌++◌, length, take, drop, sym, ap, ◌∙◌, subst, arith, None, Some}
use Rattle.std.proofs.lemmas.List.{length-map}
use Rattle.std.proofs.lemmas.Option.{none-some}
use Rattle.store_steps.specs.Pipelines.{AreMembers}
use Rattle.store_steps.specs.PollingEach.{AreOn, AreOut}
use Rattle.store.specs.Opening.{AreOf}
use Rattle.store.specs.Pipelines.{AreInOrder, EachGoesOn, OthersStay, known_at, views_of}
use Rattle.store.specs.PolledPipelines.{AreListed, AreWaiting, CollectedAtOnce, EachIsTold, FinishesFirst, WaitsFirst}
use Rattle.store.proofs.AskedEach.{are_in_order, lent_back, replaced_long, shared_of, stays_on}
use Rattle.store_steps.specs.Holds.{session_at}
use Rattle.store_steps.proofs.Export.{goes_as}
use Rattle.store.specs.Sessions.{said}
use Rattle.store.proofs.Held.{is_seen, was_seen}
use Rattle.store.proofs.PolledEach.{all_idle, each_completes, each_waits, hold_nothing, listed_goes_on, listed_members, listed_on, listed_others, posted_is, still_completed, still_waits, tells_completes, tells_waits}
use Rattle.store.proofs.polled_pipeline.PolledPipeline.poll.Goals as goal

pub returns-then-is_empty-clause-sessions : goal.returns-then-is_empty-clause-sessions
returns-then-is_empty-clause-sessions c =
    let fits : length c.args.answers.now ≤ length c.self.inside.members.items = let few = c.requires.few in let seen = ap length (sym c.self.view_is) ∙ length-map c.self.inside.members.items _ in omega (arith, few, seen) in
    let is : c.self.inside.list.posted ≡ length c.args.answers.now = posted_is c.self.inside.members.items c.self.inside.rooms.items c.self.inside.list.posted c.self.inside.list.room.combining.batch c.self.inside.list.room.combining.replies c.self.inside.list.stage c.self.invariant.0 (length c.args.answers.now) fits (subst (AreWaiting (length c.args.answers.now)) (sym c.self.view_is) c.requires.waiting) in
    let empty : length c.args.answers.now ≡ 0 = search rules in
    subst (λ z. EachGoesOn c.args.store.now z (views_of c.self.inside.members.items)) c.self.view_is (stays_on c.args.store.now c.self.inside.members.items c.self.inside.rooms.items (all_idle c.self.inside.members.items c.self.inside.rooms.items c.self.inside.list.posted c.self.inside.list.room.combining.batch c.self.inside.list.room.combining.replies c.self.inside.list.stage c.self.invariant.0 (omega (arith, is, empty))) (subst (AreOf c.args.store.now) (sym c.self.view_is) c.requires.own))

pub returns-then-is_empty-clause-answered : goal.returns-then-is_empty-clause-answered
returns-then-is_empty-clause-answered c j s t o at there is =
    let empty : length c.args.answers.now ≡ 0 = search rules in
    absurd (none-some o (sym ((c.requires.waiting j s at).1 (omega (arith, empty))) ∙ is))

-- ---- what is asked of the first sessions

pub finish_first-requires-clause-members : goal.finish_first-requires-clause-members
finish_first-requires-clause-members c =
    let fits : length c.args.answers.now ≤ length c.self.inside.members.items = let few = c.requires.few in let seen = ap length (sym c.self.view_is) ∙ length-map c.self.inside.members.items _ in omega (arith, few, seen) in
    let is : c.self.inside.list.posted ≡ length c.args.answers.now = posted_is c.self.inside.members.items c.self.inside.rooms.items c.self.inside.list.posted c.self.inside.list.room.combining.batch c.self.inside.list.room.combining.replies c.self.inside.list.stage c.self.invariant.0 (length c.args.answers.now) fits (subst (AreWaiting (length c.args.answers.now)) (sym c.self.view_is) c.requires.waiting) in
    subst (λ z. AreMembers c.shared.result.shelf.now.id (take (length c.args.answers.now) z)) (sym c.deref_mut.ensures.value) (subst (λ k. AreMembers c.shared.result.shelf.now.id (take k c.self.inside.members.items)) is (listed_members c.args.store.now c.shared.result (shared_of c.args.store.now c.shared.result c.shared.ensures.shelf c.shared.ensures.places c.shared.ensures.nodes c.shared.ensures.config c.shared.ensures.catalogue) c.self.inside.members.items c.self.inside.rooms.items c.self.inside.list.posted c.self.inside.list.room.combining.batch c.self.inside.list.room.combining.replies c.self.inside.list.stage c.self.invariant.0 (subst (AreOf c.args.store.now) (sym c.self.view_is) c.requires.own)))

pub finish_first-requires-clause-on : goal.finish_first-requires-clause-on
finish_first-requires-clause-on c =
    let fits : length c.args.answers.now ≤ length c.self.inside.members.items = let few = c.requires.few in let seen = ap length (sym c.self.view_is) ∙ length-map c.self.inside.members.items _ in omega (arith, few, seen) in
    let is : c.self.inside.list.posted ≡ length c.args.answers.now = posted_is c.self.inside.members.items c.self.inside.rooms.items c.self.inside.list.posted c.self.inside.list.room.combining.batch c.self.inside.list.room.combining.replies c.self.inside.list.stage c.self.invariant.0 (length c.args.answers.now) fits (subst (AreWaiting (length c.args.answers.now)) (sym c.self.view_is) c.requires.waiting) in
    subst (λ z. AreOn c.shared.result (take (length c.args.answers.now) z)) (sym c.deref_mut.ensures.value) (subst (λ k. AreOn c.shared.result (take k c.self.inside.members.items)) is (listed_on c.args.store.now c.shared.result (shared_of c.args.store.now c.shared.result c.shared.ensures.shelf c.shared.ensures.places c.shared.ensures.nodes c.shared.ensures.config c.shared.ensures.catalogue) c.self.inside.members.items c.self.inside.rooms.items c.self.inside.list.posted c.self.inside.list.room.combining.batch c.self.inside.list.room.combining.replies c.self.inside.list.stage c.self.invariant.0 (subst (AreOf c.args.store.now) (sym c.self.view_is) c.requires.own)))

pub finish_first-requires-clause-out : goal.finish_first-requires-clause-out
finish_first-requires-clause-out c =
    let fits : length c.args.answers.now ≤ length c.self.inside.members.items = let few = c.requires.few in let seen = ap length (sym c.self.view_is) ∙ length-map c.self.inside.members.items _ in omega (arith, few, seen) in
    let is : c.self.inside.list.posted ≡ length c.args.answers.now = posted_is c.self.inside.members.items c.self.inside.rooms.items c.self.inside.list.posted c.self.inside.list.room.combining.batch c.self.inside.list.room.combining.replies c.self.inside.list.stage c.self.invariant.0 (length c.args.answers.now) fits (subst (AreWaiting (length c.args.answers.now)) (sym c.self.view_is) c.requires.waiting) in
    let some : 0 < length c.args.answers.now = search rules in
    let room = c.self.inside.list.room.combining in
    subst (λ z. AreOut (take (length c.args.answers.now) z) room.batch room.replies c.self.inside.list.stage) (sym c.deref_mut.ensures.value) (subst (λ k. AreOut (take k c.self.inside.members.items) room.batch room.replies c.self.inside.list.stage) is (c.self.invariant.0.out (omega (arith, is, some))))

-- ---- they wait still

pub invariant_of-self-in_default : goal.invariant_of-self-in_default
invariant_of-self-in_default c =
    let fits : length c.args.answers.now ≤ length c.self.inside.members.items = let few = c.requires.few in let seen = ap length (sym c.self.view_is) ∙ length-map c.self.inside.members.items _ in omega (arith, few, seen) in
    let is : c.self.inside.list.posted ≡ length c.args.answers.now = posted_is c.self.inside.members.items c.self.inside.rooms.items c.self.inside.list.posted c.self.inside.list.room.combining.batch c.self.inside.list.room.combining.replies c.self.inside.list.stage c.self.invariant.0 (length c.args.answers.now) fits (subst (AreWaiting (length c.args.answers.now)) (sym c.self.view_is) c.requires.waiting) in
    let d : WaitsFirst c.self.inside.members.items c.finish_first.new.members (length c.args.answers.now) c.finish_first.new.self.room.combining c.finish_first.new.self.stage = subst (λ z. WaitsFirst z c.finish_first.new.members (length c.args.answers.now) c.finish_first.new.self.room.combining c.finish_first.new.self.stage) c.deref_mut.ensures.value c.in_default.ensures.waits in
    let whole : length c.finish_first.new.members ≡ c.self.inside.members.len = ap length d.sets.is ∙ (replaced_long (length c.args.answers.now) d.now c.self.inside.members.items d.sets.long fits ∙ (ap length (sym c.deref_mut.ensures.value) ∙ c.deref_mut.ensures.len)) in
    let back : (take c.self.inside.members.len (c.finish_first.new.members ++ drop (length c.finish_first.new.members) c.self.inside.members.items)) ≡ c.finish_first.new.members = lent_back c.self.inside.members.len c.finish_first.new.members c.self.inside.members.items whole in (
      subst (λ xs. AreListed xs c.self.inside.rooms.items c.finish_first.new.self.posted c.finish_first.new.self.room.combining.batch c.finish_first.new.self.room.combining.replies c.finish_first.new.self.stage) (sym back)
          (still_waits c.args.store.now c.self.inside.members.items c.self.inside.rooms.items c.self.inside.list.posted c.self.inside.list.room.combining.batch c.self.inside.list.room.combining.replies c.self.inside.list.stage c.self.invariant.0 (subst (AreOf c.args.store.now) (sym c.self.view_is) c.requires.own) (length c.args.answers.now) fits c.finish_first.new.members d.now d.sets is c.finish_first.new.self.room.combining.batch c.finish_first.new.self.room.combining.replies c.finish_first.new.self.stage d.waits d.out c.finish_first.new.self.posted c.in_default.ensures.stays),
      c.self.invariant.1,
      c.self.invariant.2,
    )

pub returns-in_default-clause-sessions : goal.returns-in_default-clause-sessions
returns-in_default-clause-sessions c =
    let fits : length c.args.answers.now ≤ length c.self.inside.members.items = let few = c.requires.few in let seen = ap length (sym c.self.view_is) ∙ length-map c.self.inside.members.items _ in omega (arith, few, seen) in
    let is : c.self.inside.list.posted ≡ length c.args.answers.now = posted_is c.self.inside.members.items c.self.inside.rooms.items c.self.inside.list.posted c.self.inside.list.room.combining.batch c.self.inside.list.room.combining.replies c.self.inside.list.stage c.self.invariant.0 (length c.args.answers.now) fits (subst (AreWaiting (length c.args.answers.now)) (sym c.self.view_is) c.requires.waiting) in
    let d : WaitsFirst c.self.inside.members.items c.finish_first.new.members (length c.args.answers.now) c.finish_first.new.self.room.combining c.finish_first.new.self.stage = subst (λ z. WaitsFirst z c.finish_first.new.members (length c.args.answers.now) c.finish_first.new.self.room.combining c.finish_first.new.self.stage) c.deref_mut.ensures.value c.in_default.ensures.waits in
    let whole : length c.finish_first.new.members ≡ c.self.inside.members.len = ap length d.sets.is ∙ (replaced_long (length c.args.answers.now) d.now c.self.inside.members.items d.sets.long fits ∙ (ap length (sym c.deref_mut.ensures.value) ∙ c.deref_mut.ensures.len)) in
    let back : (take c.self.inside.members.len (c.finish_first.new.members ++ drop (length c.finish_first.new.members) c.self.inside.members.items)) ≡ c.finish_first.new.members = lent_back c.self.inside.members.len c.finish_first.new.members c.self.inside.members.items whole in
    subst (λ z. EachGoesOn c.args.store.now z (views_of (take c.self.inside.members.len (c.finish_first.new.members ++ drop (length c.finish_first.new.members) c.self.inside.members.items)))) c.self.view_is (subst (λ xs. EachGoesOn c.args.store.now (views_of c.self.inside.members.items) (views_of xs)) (sym back) (listed_goes_on c.args.store.now c.self.inside.members.items c.self.inside.rooms.items c.self.inside.list.posted c.self.inside.list.room.combining.batch c.self.inside.list.room.combining.replies c.self.inside.list.stage c.self.invariant.0 (subst (AreOf c.args.store.now) (sym c.self.view_is) c.requires.own) (length c.args.answers.now) fits c.finish_first.new.members d.now d.sets (each_waits c.args.store.now c.self.inside.members.items c.self.inside.rooms.items c.self.inside.list.posted c.self.inside.list.room.combining.batch c.self.inside.list.room.combining.replies c.self.inside.list.stage c.self.invariant.0 (subst (AreOf c.args.store.now) (sym c.self.view_is) c.requires.own) (length c.args.answers.now) fits c.finish_first.new.members d.now d.sets is c.finish_first.new.self.room.combining.batch c.finish_first.new.self.room.combining.replies c.finish_first.new.self.stage d.waits)))

pub returns-in_default-clause-answered : goal.returns-in_default-clause-answered
returns-in_default-clause-answered c =
    let fits : length c.args.answers.now ≤ length c.self.inside.members.items = let few = c.requires.few in let seen = ap length (sym c.self.view_is) ∙ length-map c.self.inside.members.items _ in omega (arith, few, seen) in
    let is : c.self.inside.list.posted ≡ length c.args.answers.now = posted_is c.self.inside.members.items c.self.inside.rooms.items c.self.inside.list.posted c.self.inside.list.room.combining.batch c.self.inside.list.room.combining.replies c.self.inside.list.stage c.self.invariant.0 (length c.args.answers.now) fits (subst (AreWaiting (length c.args.answers.now)) (sym c.self.view_is) c.requires.waiting) in
    let d : WaitsFirst c.self.inside.members.items c.finish_first.new.members (length c.args.answers.now) c.finish_first.new.self.room.combining c.finish_first.new.self.stage = subst (λ z. WaitsFirst z c.finish_first.new.members (length c.args.answers.now) c.finish_first.new.self.room.combining c.finish_first.new.self.stage) c.deref_mut.ensures.value c.in_default.ensures.waits in
    let whole : length c.finish_first.new.members ≡ c.self.inside.members.len = ap length d.sets.is ∙ (replaced_long (length c.args.answers.now) d.now c.self.inside.members.items d.sets.long fits ∙ (ap length (sym c.deref_mut.ensures.value) ∙ c.deref_mut.ensures.len)) in
    let back : (take c.self.inside.members.len (c.finish_first.new.members ++ drop (length c.finish_first.new.members) c.self.inside.members.items)) ≡ c.finish_first.new.members = lent_back c.self.inside.members.len c.finish_first.new.members c.self.inside.members.items whole in
    subst (λ z. EachIsTold {A = Unit {0}} z (views_of (take c.self.inside.members.len (c.finish_first.new.members ++ drop (length c.finish_first.new.members) c.self.inside.members.items))) c.args.answers.now None) c.self.view_is (subst (λ xs. EachIsTold {A = Unit {0}} (views_of c.self.inside.members.items) (views_of xs) c.args.answers.now None) (sym back) (tells_waits c.args.store.now c.self.inside.members.items c.self.inside.rooms.items c.self.inside.list.posted c.self.inside.list.room.combining.batch c.self.inside.list.room.combining.replies c.self.inside.list.stage c.self.invariant.0 (subst (AreOf c.args.store.now) (sym c.self.view_is) c.requires.own) (length c.args.answers.now) fits c.finish_first.new.members d.now d.sets is c.finish_first.new.self.room.combining.batch c.finish_first.new.self.room.combining.replies c.finish_first.new.self.stage d.waits c.args.answers.now))

pub returns-in_default-clause-others : goal.returns-in_default-clause-others
returns-in_default-clause-others c =
    let fits : length c.args.answers.now ≤ length c.self.inside.members.items = let few = c.requires.few in let seen = ap length (sym c.self.view_is) ∙ length-map c.self.inside.members.items _ in omega (arith, few, seen) in
    let is : c.self.inside.list.posted ≡ length c.args.answers.now = posted_is c.self.inside.members.items c.self.inside.rooms.items c.self.inside.list.posted c.self.inside.list.room.combining.batch c.self.inside.list.room.combining.replies c.self.inside.list.stage c.self.invariant.0 (length c.args.answers.now) fits (subst (AreWaiting (length c.args.answers.now)) (sym c.self.view_is) c.requires.waiting) in
    let d : WaitsFirst c.self.inside.members.items c.finish_first.new.members (length c.args.answers.now) c.finish_first.new.self.room.combining c.finish_first.new.self.stage = subst (λ z. WaitsFirst z c.finish_first.new.members (length c.args.answers.now) c.finish_first.new.self.room.combining c.finish_first.new.self.stage) c.deref_mut.ensures.value c.in_default.ensures.waits in
    let whole : length c.finish_first.new.members ≡ c.self.inside.members.len = ap length d.sets.is ∙ (replaced_long (length c.args.answers.now) d.now c.self.inside.members.items d.sets.long fits ∙ (ap length (sym c.deref_mut.ensures.value) ∙ c.deref_mut.ensures.len)) in
    let back : (take c.self.inside.members.len (c.finish_first.new.members ++ drop (length c.finish_first.new.members) c.self.inside.members.items)) ≡ c.finish_first.new.members = lent_back c.self.inside.members.len c.finish_first.new.members c.self.inside.members.items whole in
    subst (λ z. OthersStay (length c.args.answers.now) z (views_of (take c.self.inside.members.len (c.finish_first.new.members ++ drop (length c.finish_first.new.members) c.self.inside.members.items)))) c.self.view_is (subst (λ xs. OthersStay (length c.args.answers.now) (views_of c.self.inside.members.items) (views_of xs)) (sym back) (listed_others c.args.store.now c.self.inside.members.items c.self.inside.rooms.items c.self.inside.list.posted c.self.inside.list.room.combining.batch c.self.inside.list.room.combining.replies c.self.inside.list.stage c.self.invariant.0 (subst (AreOf c.args.store.now) (sym c.self.view_is) c.requires.own) (length c.args.answers.now) fits c.finish_first.new.members d.now d.sets (each_waits c.args.store.now c.self.inside.members.items c.self.inside.rooms.items c.self.inside.list.posted c.self.inside.list.room.combining.batch c.self.inside.list.room.combining.replies c.self.inside.list.stage c.self.invariant.0 (subst (AreOf c.args.store.now) (sym c.self.view_is) c.requires.own) (length c.args.answers.now) fits c.finish_first.new.members d.now d.sets is c.finish_first.new.self.room.combining.batch c.finish_first.new.self.room.combining.replies c.finish_first.new.self.stage d.waits)))

-- ---- they have their answers

pub invariant_of-self-2 : goal.invariant_of-self-2
invariant_of-self-2 c =
    let fits : length c.args.answers.now ≤ length c.self.inside.members.items = let few = c.requires.few in let seen = ap length (sym c.self.view_is) ∙ length-map c.self.inside.members.items _ in omega (arith, few, seen) in
    let is : c.self.inside.list.posted ≡ length c.args.answers.now = posted_is c.self.inside.members.items c.self.inside.rooms.items c.self.inside.list.posted c.self.inside.list.room.combining.batch c.self.inside.list.room.combining.replies c.self.inside.list.stage c.self.invariant.0 (length c.args.answers.now) fits (subst (AreWaiting (length c.args.answers.now)) (sym c.self.view_is) c.requires.waiting) in
    let d : FinishesFirst c.self.inside.members.items c.finish_first.new.members (length c.args.answers.now) c.finish_first.new.self.room.combining c.finish_first.new.replies = subst (λ z. FinishesFirst z c.finish_first.new.members (length c.args.answers.now) c.finish_first.new.self.room.combining c.finish_first.new.replies) c.deref_mut.ensures.value c.in-Some.ensures.finished in
    let whole : length c.finish_first.new.members ≡ c.self.inside.members.len = ap length d.sets.is ∙ (replaced_long (length c.args.answers.now) d.now c.self.inside.members.items d.sets.long fits ∙ (ap length (sym c.deref_mut.ensures.value) ∙ c.deref_mut.ensures.len)) in
    let back : (take c.self.inside.members.len (c.finish_first.new.members ++ drop (length c.finish_first.new.members) c.self.inside.members.items)) ≡ c.finish_first.new.members = lent_back c.self.inside.members.len c.finish_first.new.members c.self.inside.members.items whole in (
      subst (λ xs. AreListed xs c.self.inside.rooms.items c.finish_first.new.self.posted c.finish_first.new.self.room.combining.batch c.finish_first.new.self.room.combining.replies c.finish_first.new.self.stage) (sym back)
          (still_completed c.args.store.now c.self.inside.members.items c.self.inside.rooms.items c.self.inside.list.posted c.self.inside.list.room.combining.batch c.self.inside.list.room.combining.replies c.self.inside.list.stage c.self.invariant.0 (subst (AreOf c.args.store.now) (sym c.self.view_is) c.requires.own) (length c.args.answers.now) fits c.finish_first.new.members d.now d.sets is c.finish_first.new.self.room.combining.batch c.finish_first.new.self.room.combining.replies c.finish_first.new.replies d.completes c.finish_first.new.self.posted c.in-Some.ensures.posted _ _ _),
      c.self.invariant.1,
      c.self.invariant.2,
    )

pub returns-clause-sessions : goal.returns-clause-sessions
returns-clause-sessions c =
    let fits : length c.args.answers.now ≤ length c.self.inside.members.items = let few = c.requires.few in let seen = ap length (sym c.self.view_is) ∙ length-map c.self.inside.members.items _ in omega (arith, few, seen) in
    let is : c.self.inside.list.posted ≡ length c.args.answers.now = posted_is c.self.inside.members.items c.self.inside.rooms.items c.self.inside.list.posted c.self.inside.list.room.combining.batch c.self.inside.list.room.combining.replies c.self.inside.list.stage c.self.invariant.0 (length c.args.answers.now) fits (subst (AreWaiting (length c.args.answers.now)) (sym c.self.view_is) c.requires.waiting) in
    let d : FinishesFirst c.self.inside.members.items c.finish_first.new.members (length c.args.answers.now) c.finish_first.new.self.room.combining c.finish_first.new.replies = subst (λ z. FinishesFirst z c.finish_first.new.members (length c.args.answers.now) c.finish_first.new.self.room.combining c.finish_first.new.replies) c.deref_mut.ensures.value c.in-Some.ensures.finished in
    let whole : length c.finish_first.new.members ≡ c.self.inside.members.len = ap length d.sets.is ∙ (replaced_long (length c.args.answers.now) d.now c.self.inside.members.items d.sets.long fits ∙ (ap length (sym c.deref_mut.ensures.value) ∙ c.deref_mut.ensures.len)) in
    let back : (take c.self.inside.members.len (c.finish_first.new.members ++ drop (length c.finish_first.new.members) c.self.inside.members.items)) ≡ c.finish_first.new.members = lent_back c.self.inside.members.len c.finish_first.new.members c.self.inside.members.items whole in
    subst (λ z. EachGoesOn c.args.store.now z (views_of (take c.self.inside.members.len (c.finish_first.new.members ++ drop (length c.finish_first.new.members) c.self.inside.members.items)))) c.self.view_is (subst (λ xs. EachGoesOn c.args.store.now (views_of c.self.inside.members.items) (views_of xs)) (sym back) (listed_goes_on c.args.store.now c.self.inside.members.items c.self.inside.rooms.items c.self.inside.list.posted c.self.inside.list.room.combining.batch c.self.inside.list.room.combining.replies c.self.inside.list.stage c.self.invariant.0 (subst (AreOf c.args.store.now) (sym c.self.view_is) c.requires.own) (length c.args.answers.now) fits c.finish_first.new.members d.now d.sets (each_completes c.args.store.now c.self.inside.members.items c.self.inside.rooms.items c.self.inside.list.posted c.self.inside.list.room.combining.batch c.self.inside.list.room.combining.replies c.self.inside.list.stage c.self.invariant.0 (subst (AreOf c.args.store.now) (sym c.self.view_is) c.requires.own) (length c.args.answers.now) fits c.finish_first.new.members d.now d.sets is c.finish_first.new.self.room.combining.batch c.finish_first.new.self.room.combining.replies c.finish_first.new.replies d.completes)))

pub returns-clause-answered : goal.returns-clause-answered
returns-clause-answered c =
    let fits : length c.args.answers.now ≤ length c.self.inside.members.items = let few = c.requires.few in let seen = ap length (sym c.self.view_is) ∙ length-map c.self.inside.members.items _ in omega (arith, few, seen) in
    let is : c.self.inside.list.posted ≡ length c.args.answers.now = posted_is c.self.inside.members.items c.self.inside.rooms.items c.self.inside.list.posted c.self.inside.list.room.combining.batch c.self.inside.list.room.combining.replies c.self.inside.list.stage c.self.invariant.0 (length c.args.answers.now) fits (subst (AreWaiting (length c.args.answers.now)) (sym c.self.view_is) c.requires.waiting) in
    let d : FinishesFirst c.self.inside.members.items c.finish_first.new.members (length c.args.answers.now) c.finish_first.new.self.room.combining c.finish_first.new.replies = subst (λ z. FinishesFirst z c.finish_first.new.members (length c.args.answers.now) c.finish_first.new.self.room.combining c.finish_first.new.replies) c.deref_mut.ensures.value c.in-Some.ensures.finished in
    let whole : length c.finish_first.new.members ≡ c.self.inside.members.len = ap length d.sets.is ∙ (replaced_long (length c.args.answers.now) d.now c.self.inside.members.items d.sets.long fits ∙ (ap length (sym c.deref_mut.ensures.value) ∙ c.deref_mut.ensures.len)) in
    let back : (take c.self.inside.members.len (c.finish_first.new.members ++ drop (length c.finish_first.new.members) c.self.inside.members.items)) ≡ c.finish_first.new.members = lent_back c.self.inside.members.len c.finish_first.new.members c.self.inside.members.items whole in
    subst (λ z. EachIsTold {A = Unit {0}} z (views_of (take c.self.inside.members.len (c.finish_first.new.members ++ drop (length c.finish_first.new.members) c.self.inside.members.items))) c.say_each.new.answers (Some tt)) c.self.view_is (subst (λ xs. EachIsTold {A = Unit {0}} (views_of c.self.inside.members.items) (views_of xs) c.say_each.new.answers (Some tt)) (sym back) (subst (λ a. EachIsTold {A = Unit {0}} (views_of c.self.inside.members.items) (views_of c.finish_first.new.members) a (Some tt)) (sym c.say_each.ensures.said) (tells_completes c.args.store.now c.self.inside.members.items c.self.inside.rooms.items c.self.inside.list.posted c.self.inside.list.room.combining.batch c.self.inside.list.room.combining.replies c.self.inside.list.stage c.self.invariant.0 (subst (AreOf c.args.store.now) (sym c.self.view_is) c.requires.own) (length c.args.answers.now) fits c.finish_first.new.members d.now d.sets is c.finish_first.new.self.room.combining.batch c.finish_first.new.self.room.combining.replies c.finish_first.new.replies d.completes)))

pub returns-clause-in_order : goal.returns-clause-in_order
returns-clause-in_order c = subst AreInOrder (sym c.say_each.ensures.said) (are_in_order c.finish_first.new.replies c.in-Some.ensures.finished.in_order)

pub returns-clause-others : goal.returns-clause-others
returns-clause-others c =
    let fits : length c.args.answers.now ≤ length c.self.inside.members.items = let few = c.requires.few in let seen = ap length (sym c.self.view_is) ∙ length-map c.self.inside.members.items _ in omega (arith, few, seen) in
    let is : c.self.inside.list.posted ≡ length c.args.answers.now = posted_is c.self.inside.members.items c.self.inside.rooms.items c.self.inside.list.posted c.self.inside.list.room.combining.batch c.self.inside.list.room.combining.replies c.self.inside.list.stage c.self.invariant.0 (length c.args.answers.now) fits (subst (AreWaiting (length c.args.answers.now)) (sym c.self.view_is) c.requires.waiting) in
    let d : FinishesFirst c.self.inside.members.items c.finish_first.new.members (length c.args.answers.now) c.finish_first.new.self.room.combining c.finish_first.new.replies = subst (λ z. FinishesFirst z c.finish_first.new.members (length c.args.answers.now) c.finish_first.new.self.room.combining c.finish_first.new.replies) c.deref_mut.ensures.value c.in-Some.ensures.finished in
    let whole : length c.finish_first.new.members ≡ c.self.inside.members.len = ap length d.sets.is ∙ (replaced_long (length c.args.answers.now) d.now c.self.inside.members.items d.sets.long fits ∙ (ap length (sym c.deref_mut.ensures.value) ∙ c.deref_mut.ensures.len)) in
    let back : (take c.self.inside.members.len (c.finish_first.new.members ++ drop (length c.finish_first.new.members) c.self.inside.members.items)) ≡ c.finish_first.new.members = lent_back c.self.inside.members.len c.finish_first.new.members c.self.inside.members.items whole in
    subst (λ z. OthersStay (length c.args.answers.now) z (views_of (take c.self.inside.members.len (c.finish_first.new.members ++ drop (length c.finish_first.new.members) c.self.inside.members.items)))) c.self.view_is (subst (λ xs. OthersStay (length c.args.answers.now) (views_of c.self.inside.members.items) (views_of xs)) (sym back) (listed_others c.args.store.now c.self.inside.members.items c.self.inside.rooms.items c.self.inside.list.posted c.self.inside.list.room.combining.batch c.self.inside.list.room.combining.replies c.self.inside.list.stage c.self.invariant.0 (subst (AreOf c.args.store.now) (sym c.self.view_is) c.requires.own) (length c.args.answers.now) fits c.finish_first.new.members d.now d.sets (each_completes c.args.store.now c.self.inside.members.items c.self.inside.rooms.items c.self.inside.list.posted c.self.inside.list.room.combining.batch c.self.inside.list.room.combining.replies c.self.inside.list.stage c.self.invariant.0 (subst (AreOf c.args.store.now) (sym c.self.view_is) c.requires.own) (length c.args.answers.now) fits c.finish_first.new.members d.now d.sets is c.finish_first.new.self.room.combining.batch c.finish_first.new.self.room.combining.replies c.finish_first.new.replies d.completes)))

pub returns-clause-held : goal.returns-clause-held
returns-clause-held c some =
    let fits : length c.args.answers.now ≤ length c.self.inside.members.items = let few = c.requires.few in let seen = ap length (sym c.self.view_is) ∙ length-map c.self.inside.members.items _ in omega (arith, few, seen) in
    let is : c.self.inside.list.posted ≡ length c.args.answers.now = posted_is c.self.inside.members.items c.self.inside.rooms.items c.self.inside.list.posted c.self.inside.list.room.combining.batch c.self.inside.list.room.combining.replies c.self.inside.list.stage c.self.invariant.0 (length c.args.answers.now) fits (subst (AreWaiting (length c.args.answers.now)) (sym c.self.view_is) c.requires.waiting) in
    let d : FinishesFirst c.self.inside.members.items c.finish_first.new.members (length c.args.answers.now) c.finish_first.new.self.room.combining c.finish_first.new.replies = subst (λ z. FinishesFirst z c.finish_first.new.members (length c.args.answers.now) c.finish_first.new.self.room.combining c.finish_first.new.replies) c.deref_mut.ensures.value c.in-Some.ensures.finished in
    let whole : length c.finish_first.new.members ≡ c.self.inside.members.len = ap length d.sets.is ∙ (replaced_long (length c.args.answers.now) d.now c.self.inside.members.items d.sets.long fits ∙ (ap length (sym c.deref_mut.ensures.value) ∙ c.deref_mut.ensures.len)) in
    let back : (take c.self.inside.members.len (c.finish_first.new.members ++ drop (length c.finish_first.new.members) c.self.inside.members.items)) ≡ c.finish_first.new.members = lent_back c.self.inside.members.len c.finish_first.new.members c.self.inside.members.items whole in
    let all = c.finish_first.new.members in
    let count = c.finish_first.ensures.room in
    let had = hold_nothing c.self.inside.members.items c.self.inside.rooms.items c.self.inside.list.posted c.self.inside.list.room.combining.batch c.self.inside.list.room.combining.replies c.self.inside.list.stage c.self.invariant.0 in
    let has = hold_nothing all c.self.inside.rooms.items c.finish_first.new.self.posted c.finish_first.new.self.room.combining.batch c.finish_first.new.self.room.combining.replies c.finish_first.new.self.stage (still_completed c.args.store.now c.self.inside.members.items c.self.inside.rooms.items c.self.inside.list.posted c.self.inside.list.room.combining.batch c.self.inside.list.room.combining.replies c.self.inside.list.stage c.self.invariant.0 (subst (AreOf c.args.store.now) (sym c.self.view_is) c.requires.own) (length c.args.answers.now) fits c.finish_first.new.members d.now d.sets is c.finish_first.new.self.room.combining.batch c.finish_first.new.self.room.combining.replies c.finish_first.new.replies d.completes c.finish_first.new.self.posted c.in-Some.ensures.posted _ _ _) in
    let held = goes_as (session_at (take (length c.args.answers.now) c.self.inside.members.items)) (session_at d.now) (known_at (views_of c.self.inside.members.items)) (known_at (views_of all)) c.finish_first.new.replies (let long = ap length c.say_each.ensures.said ∙ length-map c.finish_first.new.replies said in omega (arith, some, long)) (λ j lt. was_seen (length c.args.answers.now) c.self.inside.members.items all d.now fits d.sets had has j (omega (arith, lt, count))) (λ j lt. is_seen (length c.args.answers.now) c.self.inside.members.items all d.now fits d.sets had has j (omega (arith, lt, count))) d.held in
    subst (λ z. CollectedAtOnce z (views_of (take c.self.inside.members.len (c.finish_first.new.members ++ drop (length c.finish_first.new.members) c.self.inside.members.items))) c.say_each.new.answers) c.self.view_is
    (subst (λ xs. CollectedAtOnce (views_of c.self.inside.members.items) (views_of xs) c.say_each.new.answers) (sym back) (c.finish_first.new.replies, c.say_each.ensures.said, held))
