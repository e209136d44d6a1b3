use Rattle.std.proofs.Common.{◌≡◌, ℕ, ◌≤◌, ◌++◌, length, take, drop, refl, sym, ap, ◌∙◌, subst, arith}
use Rattle.std.proofs.lemmas.List.{length-map}
use Rattle.loader.specs.CatalogueView.{CatalogueView}
use Rattle.verifier.specs.declared.refusal.Mode.TheVariants.{Update}
use Rattle.store_steps.specs.Pipelines.{AreMembers, MayAskAt}
use Rattle.store_steps.specs.PollingEach.{AreIdle}
use Rattle.store_steps.specs.Questions.{MayAskEach}
use Rattle.store_steps.specs.EachMember.{AscendEach}
use Rattle.store.specs.Opening.{AreOf}
use Rattle.store.specs.Pipelines.{EachGoesOn, OthersStay, known_at, views_of}
use Rattle.store.specs.PolledPipelines.{AreListed, AreWaiting, BeginsFirst, EachAsks, EachLooks, LooksFirst, PostedAtOnce}
use Rattle.store.proofs.AskedEach.{asked_ascend, asked_may, asked_members, at_taken, lent_back, replaced_long, shared_of, stays_on}
use Rattle.store_steps.specs.Holds.{session_at}
use Rattle.store_steps.proofs.Export.{posts_as}
use Rattle.store.proofs.Held.{is_seen, was_seen}
use Rattle.store.proofs.PolledEach.{all_idle, each_began, each_looked, hold_nothing, listed_goes_on, listed_others, posted_is, still_began, still_looked, tells_began, tells_looked}
use Rattle.store.proofs.polled_pipeline.PolledPipeline.try_invoke_each.Goals as goal

pub returns-in_err-check_each-clause-sessions : goal.returns-in_err-check_each-clause-sessions
returns-in_err-check_each-clause-sessions c =
    let none : c.self.inside.list.posted ≡ 0 = posted_is c.self.inside.members.items c.self.inside.rooms.items c.self.inside.list.posted c.self.inside.list.room.combining.batch c.self.inside.list.room.combining.replies c.self.inside.list.stage c.self.invariant.0 0 (omega arith) (subst (AreWaiting 0) (sym c.self.view_is) c.requires.idle) in
    subst (λ z. EachGoesOn c.args.store.now z (views_of c.self.inside.members.items)) c.self.view_is (stays_on c.args.store.now c.self.inside.members.items c.self.inside.rooms.items (all_idle c.self.inside.members.items c.self.inside.rooms.items c.self.inside.list.posted c.self.inside.list.room.combining.batch c.self.inside.list.room.combining.replies c.self.inside.list.stage c.self.invariant.0 none) (subst (AreOf c.args.store.now) (sym c.self.view_is) c.requires.own))

pub returns-then-is_empty-clause-sessions : goal.returns-then-is_empty-clause-sessions
returns-then-is_empty-clause-sessions c =
    let none : c.self.inside.list.posted ≡ 0 = posted_is c.self.inside.members.items c.self.inside.rooms.items c.self.inside.list.posted c.self.inside.list.room.combining.batch c.self.inside.list.room.combining.replies c.self.inside.list.stage c.self.invariant.0 0 (omega arith) (subst (AreWaiting 0) (sym c.self.view_is) c.requires.idle) in
    subst (λ z. EachGoesOn c.args.store.now z (views_of c.self.inside.members.items)) c.self.view_is (stays_on c.args.store.now c.self.inside.members.items c.self.inside.rooms.items (all_idle c.self.inside.members.items c.self.inside.rooms.items c.self.inside.list.posted c.self.inside.list.room.combining.batch c.self.inside.list.room.combining.replies c.self.inside.list.stage c.self.invariant.0 none) (subst (AreOf c.args.store.now) (sym c.self.view_is) c.requires.own))

-- ---- what is asked of the first sessions

pub begin_first-requires-clause-members : goal.begin_first-requires-clause-members
begin_first-requires-clause-members c =
    let none : c.self.inside.list.posted ≡ 0 = posted_is c.self.inside.members.items c.self.inside.rooms.items c.self.inside.list.posted c.self.inside.list.room.combining.batch c.self.inside.list.room.combining.replies c.self.inside.list.stage c.self.invariant.0 0 (omega arith) (subst (AreWaiting 0) (sym c.self.view_is) c.requires.idle) in
    subst (λ z. AreMembers c.shared.result.shelf.now.id (take (length c.args.calls.now) z)) (sym c.deref_mut.ensures.value) (asked_members c.args.store.now c.shared.result (shared_of c.args.store.now c.shared.result c.shared.ensures.shelf c.shared.ensures.places c.shared.ensures.nodes c.shared.ensures.config c.shared.ensures.catalogue) c.self.inside.members.items c.self.inside.rooms.items (all_idle c.self.inside.members.items c.self.inside.rooms.items c.self.inside.list.posted c.self.inside.list.room.combining.batch c.self.inside.list.room.combining.replies c.self.inside.list.stage c.self.invariant.0 none) (subst (AreOf c.args.store.now) (sym c.self.view_is) c.requires.own) (take (length c.args.calls.now) c.self.inside.members.items) (λ j m at. at_taken (length c.args.calls.now) c.self.inside.members.items j m at))

pub begin_first-requires-clause-may : goal.begin_first-requires-clause-may
begin_first-requires-clause-may c =
    let none : c.self.inside.list.posted ≡ 0 = posted_is c.self.inside.members.items c.self.inside.rooms.items c.self.inside.list.posted c.self.inside.list.room.combining.batch c.self.inside.list.room.combining.replies c.self.inside.list.stage c.self.invariant.0 0 (omega arith) (subst (AreWaiting 0) (sym c.self.view_is) c.requires.idle) in
    subst (λ z. (j : ℕ) → MayAskAt c.shared.result (take (length c.args.calls.now) z) j) (sym c.deref_mut.ensures.value) (asked_may c.args.store.now c.shared.result (shared_of c.args.store.now c.shared.result c.shared.ensures.shelf c.shared.ensures.places c.shared.ensures.nodes c.shared.ensures.config c.shared.ensures.catalogue) c.self.inside.members.items c.self.inside.rooms.items (all_idle c.self.inside.members.items c.self.inside.rooms.items c.self.inside.list.posted c.self.inside.list.room.combining.batch c.self.inside.list.room.combining.replies c.self.inside.list.stage c.self.invariant.0 none) (subst (AreOf c.args.store.now) (sym c.self.view_is) c.requires.own) (take (length c.args.calls.now) c.self.inside.members.items) (λ j m at. at_taken (length c.args.calls.now) c.self.inside.members.items j m at))

pub begin_first-requires-clause-idle : goal.begin_first-requires-clause-idle
begin_first-requires-clause-idle c =
    let none : c.self.inside.list.posted ≡ 0 = posted_is c.self.inside.members.items c.self.inside.rooms.items c.self.inside.list.posted c.self.inside.list.room.combining.batch c.self.inside.list.room.combining.replies c.self.inside.list.stage c.self.invariant.0 0 (omega arith) (subst (AreWaiting 0) (sym c.self.view_is) c.requires.idle) in
    subst (λ z. AreIdle (take (length c.args.calls.now) z)) (sym c.deref_mut.ensures.value) (λ j m at. (all_idle c.self.inside.members.items c.self.inside.rooms.items c.self.inside.list.posted c.self.inside.list.room.combining.batch c.self.inside.list.room.combining.replies c.self.inside.list.stage c.self.invariant.0 none).idle j m (at_taken (length c.args.calls.now) c.self.inside.members.items j m at))

pub begin_first-requires-clause-calls : goal.begin_first-requires-clause-calls
begin_first-requires-clause-calls c = subst (λ (z : CatalogueView). MayAskEach Update z c.args.calls.now) (c.catalogue.ensures.catalogue ∙ sym c.shared.ensures.catalogue) c.in_ok-check_each.ensures.may

pub begin_first-requires-clause-ascend : goal.begin_first-requires-clause-ascend
begin_first-requires-clause-ascend c =
    let none : c.self.inside.list.posted ≡ 0 = posted_is c.self.inside.members.items c.self.inside.rooms.items c.self.inside.list.posted c.self.inside.list.room.combining.batch c.self.inside.list.room.combining.replies c.self.inside.list.stage c.self.invariant.0 0 (omega arith) (subst (AreWaiting 0) (sym c.self.view_is) c.requires.idle) in
    subst (λ z. AscendEach (take (length c.args.calls.now) z)) (sym c.deref_mut.ensures.value) (asked_ascend c.args.store.now c.shared.result (shared_of c.args.store.now c.shared.result c.shared.ensures.shelf c.shared.ensures.places c.shared.ensures.nodes c.shared.ensures.config c.shared.ensures.catalogue) c.self.inside.members.items c.self.inside.rooms.items (all_idle c.self.inside.members.items c.self.inside.rooms.items c.self.inside.list.posted c.self.inside.list.room.combining.batch c.self.inside.list.room.combining.replies c.self.inside.list.stage c.self.invariant.0 none) (subst (AreOf c.args.store.now) (sym c.self.view_is) c.requires.own) (take (length c.args.calls.now) c.self.inside.members.items) (λ j m at. at_taken (length c.args.calls.now) c.self.inside.members.items j m at))

-- ---- another session is in the way

pub invariant_of-self-in_default : goal.invariant_of-self-in_default
invariant_of-self-in_default c =
    let none : c.self.inside.list.posted ≡ 0 = posted_is c.self.inside.members.items c.self.inside.rooms.items c.self.inside.list.posted c.self.inside.list.room.combining.batch c.self.inside.list.room.combining.replies c.self.inside.list.stage c.self.invariant.0 0 (omega arith) (subst (AreWaiting 0) (sym c.self.view_is) c.requires.idle) in
    let fits : length c.args.calls.now ≤ length c.self.inside.members.items = let few = c.requires.few in let seen = ap length (sym c.self.view_is) ∙ length-map c.self.inside.members.items _ in omega (arith, few, seen) in
    let d : LooksFirst c.self.inside.members.items c.begin_first.new.members (length c.args.calls.now) = subst (λ z. LooksFirst z c.begin_first.new.members (length c.args.calls.now)) c.deref_mut.ensures.value c.in_default.ensures.looked in
    let whole : length c.begin_first.new.members ≡ c.self.inside.members.len = ap length d.sets.is ∙ (replaced_long (length c.args.calls.now) d.now c.self.inside.members.items d.sets.long fits ∙ (ap length (sym c.deref_mut.ensures.value) ∙ c.deref_mut.ensures.len)) in
    let back : (take c.self.inside.members.len (c.begin_first.new.members ++ drop (length c.begin_first.new.members) c.self.inside.members.items)) ≡ c.begin_first.new.members = lent_back c.self.inside.members.len c.begin_first.new.members c.self.inside.members.items whole in (
      subst (λ xs. AreListed xs c.self.inside.rooms.items c.begin_first.new.self.posted c.begin_first.new.self.room.combining.batch c.begin_first.new.self.room.combining.replies c.begin_first.new.self.stage) (sym back)
          (still_looked c.args.store.now c.self.inside.members.items c.self.inside.rooms.items c.self.inside.list.posted c.self.inside.list.room.combining.batch c.self.inside.list.room.combining.replies c.self.inside.list.stage c.self.invariant.0 (subst (AreOf c.args.store.now) (sym c.self.view_is) c.requires.own) (length c.args.calls.now) fits c.begin_first.new.members d.now d.sets none d.looks d.idle c.begin_first.new.self.posted (c.in_default.ensures.stays ∙ none) _ _ _),
      c.self.invariant.1,
      c.self.invariant.2,
    )

pub returns-in_default-clause-sessions : goal.returns-in_default-clause-sessions
returns-in_default-clause-sessions c =
    let none : c.self.inside.list.posted ≡ 0 = posted_is c.self.inside.members.items c.self.inside.rooms.items c.self.inside.list.posted c.self.inside.list.room.combining.batch c.self.inside.list.room.combining.replies c.self.inside.list.stage c.self.invariant.0 0 (omega arith) (subst (AreWaiting 0) (sym c.self.view_is) c.requires.idle) in
    let fits : length c.args.calls.now ≤ length c.self.inside.members.items = let few = c.requires.few in let seen = ap length (sym c.self.view_is) ∙ length-map c.self.inside.members.items _ in omega (arith, few, seen) in
    let d : LooksFirst c.self.inside.members.items c.begin_first.new.members (length c.args.calls.now) = subst (λ z. LooksFirst z c.begin_first.new.members (length c.args.calls.now)) c.deref_mut.ensures.value c.in_default.ensures.looked in
    let whole : length c.begin_first.new.members ≡ c.self.inside.members.len = ap length d.sets.is ∙ (replaced_long (length c.args.calls.now) d.now c.self.inside.members.items d.sets.long fits ∙ (ap length (sym c.deref_mut.ensures.value) ∙ c.deref_mut.ensures.len)) in
    let back : (take c.self.inside.members.len (c.begin_first.new.members ++ drop (length c.begin_first.new.members) c.self.inside.members.items)) ≡ c.begin_first.new.members = lent_back c.self.inside.members.len c.begin_first.new.members c.self.inside.members.items whole in
    subst (λ z. EachGoesOn c.args.store.now z (views_of (take c.self.inside.members.len (c.begin_first.new.members ++ drop (length c.begin_first.new.members) c.self.inside.members.items)))) c.self.view_is (subst (λ xs. EachGoesOn c.args.store.now (views_of c.self.inside.members.items) (views_of xs)) (sym back) (listed_goes_on c.args.store.now c.self.inside.members.items c.self.inside.rooms.items c.self.inside.list.posted c.self.inside.list.room.combining.batch c.self.inside.list.room.combining.replies c.self.inside.list.stage c.self.invariant.0 (subst (AreOf c.args.store.now) (sym c.self.view_is) c.requires.own) (length c.args.calls.now) fits c.begin_first.new.members d.now d.sets (each_looked c.args.store.now c.self.inside.members.items c.self.inside.rooms.items c.self.inside.list.posted c.self.inside.list.room.combining.batch c.self.inside.list.room.combining.replies c.self.inside.list.stage c.self.invariant.0 (subst (AreOf c.args.store.now) (sym c.self.view_is) c.requires.own) (length c.args.calls.now) fits c.begin_first.new.members d.now d.sets none d.looks)))

pub returns-in_default-clause-asked : goal.returns-in_default-clause-asked
returns-in_default-clause-asked c may =
    let none : c.self.inside.list.posted ≡ 0 = posted_is c.self.inside.members.items c.self.inside.rooms.items c.self.inside.list.posted c.self.inside.list.room.combining.batch c.self.inside.list.room.combining.replies c.self.inside.list.stage c.self.invariant.0 0 (omega arith) (subst (AreWaiting 0) (sym c.self.view_is) c.requires.idle) in
    let fits : length c.args.calls.now ≤ length c.self.inside.members.items = let few = c.requires.few in let seen = ap length (sym c.self.view_is) ∙ length-map c.self.inside.members.items _ in omega (arith, few, seen) in
    let d : LooksFirst c.self.inside.members.items c.begin_first.new.members (length c.args.calls.now) = subst (λ z. LooksFirst z c.begin_first.new.members (length c.args.calls.now)) c.deref_mut.ensures.value c.in_default.ensures.looked in
    let whole : length c.begin_first.new.members ≡ c.self.inside.members.len = ap length d.sets.is ∙ (replaced_long (length c.args.calls.now) d.now c.self.inside.members.items d.sets.long fits ∙ (ap length (sym c.deref_mut.ensures.value) ∙ c.deref_mut.ensures.len)) in
    let back : (take c.self.inside.members.len (c.begin_first.new.members ++ drop (length c.begin_first.new.members) c.self.inside.members.items)) ≡ c.begin_first.new.members = lent_back c.self.inside.members.len c.begin_first.new.members c.self.inside.members.items whole in
    subst (λ z. EachLooks z (views_of (take c.self.inside.members.len (c.begin_first.new.members ++ drop (length c.begin_first.new.members) c.self.inside.members.items)))) c.self.view_is (subst (λ xs. EachLooks (views_of c.self.inside.members.items) (views_of xs)) (sym back) (tells_looked c.args.store.now c.self.inside.members.items c.self.inside.rooms.items c.self.inside.list.posted c.self.inside.list.room.combining.batch c.self.inside.list.room.combining.replies c.self.inside.list.stage c.self.invariant.0 (subst (AreOf c.args.store.now) (sym c.self.view_is) c.requires.own) (length c.args.calls.now) fits c.begin_first.new.members d.now d.sets none d.looks))

pub returns-in_default-clause-others : goal.returns-in_default-clause-others
returns-in_default-clause-others c =
    let none : c.self.inside.list.posted ≡ 0 = posted_is c.self.inside.members.items c.self.inside.rooms.items c.self.inside.list.posted c.self.inside.list.room.combining.batch c.self.inside.list.room.combining.replies c.self.inside.list.stage c.self.invariant.0 0 (omega arith) (subst (AreWaiting 0) (sym c.self.view_is) c.requires.idle) in
    let fits : length c.args.calls.now ≤ length c.self.inside.members.items = let few = c.requires.few in let seen = ap length (sym c.self.view_is) ∙ length-map c.self.inside.members.items _ in omega (arith, few, seen) in
    let d : LooksFirst c.self.inside.members.items c.begin_first.new.members (length c.args.calls.now) = subst (λ z. LooksFirst z c.begin_first.new.members (length c.args.calls.now)) c.deref_mut.ensures.value c.in_default.ensures.looked in
    let whole : length c.begin_first.new.members ≡ c.self.inside.members.len = ap length d.sets.is ∙ (replaced_long (length c.args.calls.now) d.now c.self.inside.members.items d.sets.long fits ∙ (ap length (sym c.deref_mut.ensures.value) ∙ c.deref_mut.ensures.len)) in
    let back : (take c.self.inside.members.len (c.begin_first.new.members ++ drop (length c.begin_first.new.members) c.self.inside.members.items)) ≡ c.begin_first.new.members = lent_back c.self.inside.members.len c.begin_first.new.members c.self.inside.members.items whole in
    subst (λ z. OthersStay (length c.args.calls.now) z (views_of (take c.self.inside.members.len (c.begin_first.new.members ++ drop (length c.begin_first.new.members) c.self.inside.members.items)))) c.self.view_is (subst (λ xs. OthersStay (length c.args.calls.now) (views_of c.self.inside.members.items) (views_of xs)) (sym back) (listed_others c.args.store.now c.self.inside.members.items c.self.inside.rooms.items c.self.inside.list.posted c.self.inside.list.room.combining.batch c.self.inside.list.room.combining.replies c.self.inside.list.stage c.self.invariant.0 (subst (AreOf c.args.store.now) (sym c.self.view_is) c.requires.own) (length c.args.calls.now) fits c.begin_first.new.members d.now d.sets (each_looked c.args.store.now c.self.inside.members.items c.self.inside.rooms.items c.self.inside.list.posted c.self.inside.list.room.combining.batch c.self.inside.list.room.combining.replies c.self.inside.list.stage c.self.invariant.0 (subst (AreOf c.args.store.now) (sym c.self.view_is) c.requires.own) (length c.args.calls.now) fits c.begin_first.new.members d.now d.sets none d.looks)))

-- ---- the calls are posted

pub invariant_of-self-2 : goal.invariant_of-self-2
invariant_of-self-2 c =
    let none : c.self.inside.list.posted ≡ 0 = posted_is c.self.inside.members.items c.self.inside.rooms.items c.self.inside.list.posted c.self.inside.list.room.combining.batch c.self.inside.list.room.combining.replies c.self.inside.list.stage c.self.invariant.0 0 (omega arith) (subst (AreWaiting 0) (sym c.self.view_is) c.requires.idle) in
    let fits : length c.args.calls.now ≤ length c.self.inside.members.items = let few = c.requires.few in let seen = ap length (sym c.self.view_is) ∙ length-map c.self.inside.members.items _ in omega (arith, few, seen) in
    let d : BeginsFirst c.self.inside.members.items c.begin_first.new.members c.args.calls.now c.begin_first.new.self.room.combining c.begin_first.new.self.stage = subst (λ z. BeginsFirst z c.begin_first.new.members c.args.calls.now c.begin_first.new.self.room.combining c.begin_first.new.self.stage) c.deref_mut.ensures.value c.in-Some.ensures.begun in
    let whole : length c.begin_first.new.members ≡ c.self.inside.members.len = ap length d.sets.is ∙ (replaced_long (length c.args.calls.now) d.now c.self.inside.members.items d.sets.long fits ∙ (ap length (sym c.deref_mut.ensures.value) ∙ c.deref_mut.ensures.len)) in
    let back : (take c.self.inside.members.len (c.begin_first.new.members ++ drop (length c.begin_first.new.members) c.self.inside.members.items)) ≡ c.begin_first.new.members = lent_back c.self.inside.members.len c.begin_first.new.members c.self.inside.members.items whole in (
      subst (λ xs. AreListed xs c.self.inside.rooms.items c.begin_first.new.self.posted c.begin_first.new.self.room.combining.batch c.begin_first.new.self.room.combining.replies c.begin_first.new.self.stage) (sym back)
          (still_began c.args.store.now c.self.inside.members.items c.self.inside.rooms.items c.self.inside.list.posted c.self.inside.list.room.combining.batch c.self.inside.list.room.combining.replies c.self.inside.list.stage c.self.invariant.0 (subst (AreOf c.args.store.now) (sym c.self.view_is) c.requires.own) (length c.args.calls.now) fits c.begin_first.new.members d.now d.sets none c.args.calls.now refl c.begin_first.new.self.room.combining.batch c.begin_first.new.self.room.combining.replies c.begin_first.new.self.stage d.begins d.out c.begin_first.new.self.posted c.in-Some.ensures.posted),
      c.self.invariant.1,
      c.self.invariant.2,
    )

pub returns-clause-sessions : goal.returns-clause-sessions
returns-clause-sessions c =
    let none : c.self.inside.list.posted ≡ 0 = posted_is c.self.inside.members.items c.self.inside.rooms.items c.self.inside.list.posted c.self.inside.list.room.combining.batch c.self.inside.list.room.combining.replies c.self.inside.list.stage c.self.invariant.0 0 (omega arith) (subst (AreWaiting 0) (sym c.self.view_is) c.requires.idle) in
    let fits : length c.args.calls.now ≤ length c.self.inside.members.items = let few = c.requires.few in let seen = ap length (sym c.self.view_is) ∙ length-map c.self.inside.members.items _ in omega (arith, few, seen) in
    let d : BeginsFirst c.self.inside.members.items c.begin_first.new.members c.args.calls.now c.begin_first.new.self.room.combining c.begin_first.new.self.stage = subst (λ z. BeginsFirst z c.begin_first.new.members c.args.calls.now c.begin_first.new.self.room.combining c.begin_first.new.self.stage) c.deref_mut.ensures.value c.in-Some.ensures.begun in
    let whole : length c.begin_first.new.members ≡ c.self.inside.members.len = ap length d.sets.is ∙ (replaced_long (length c.args.calls.now) d.now c.self.inside.members.items d.sets.long fits ∙ (ap length (sym c.deref_mut.ensures.value) ∙ c.deref_mut.ensures.len)) in
    let back : (take c.self.inside.members.len (c.begin_first.new.members ++ drop (length c.begin_first.new.members) c.self.inside.members.items)) ≡ c.begin_first.new.members = lent_back c.self.inside.members.len c.begin_first.new.members c.self.inside.members.items whole in
    subst (λ z. EachGoesOn c.args.store.now z (views_of (take c.self.inside.members.len (c.begin_first.new.members ++ drop (length c.begin_first.new.members) c.self.inside.members.items)))) c.self.view_is (subst (λ xs. EachGoesOn c.args.store.now (views_of c.self.inside.members.items) (views_of xs)) (sym back) (listed_goes_on c.args.store.now c.self.inside.members.items c.self.inside.rooms.items c.self.inside.list.posted c.self.inside.list.room.combining.batch c.self.inside.list.room.combining.replies c.self.inside.list.stage c.self.invariant.0 (subst (AreOf c.args.store.now) (sym c.self.view_is) c.requires.own) (length c.args.calls.now) fits c.begin_first.new.members d.now d.sets (each_began c.args.store.now c.self.inside.members.items c.self.inside.rooms.items c.self.inside.list.posted c.self.inside.list.room.combining.batch c.self.inside.list.room.combining.replies c.self.inside.list.stage c.self.invariant.0 (subst (AreOf c.args.store.now) (sym c.self.view_is) c.requires.own) (length c.args.calls.now) fits c.begin_first.new.members d.now d.sets none c.args.calls.now refl c.begin_first.new.self.room.combining.batch c.begin_first.new.self.room.combining.replies c.begin_first.new.self.stage d.begins)))

pub returns-clause-asked : goal.returns-clause-asked
returns-clause-asked c may =
    let none : c.self.inside.list.posted ≡ 0 = posted_is c.self.inside.members.items c.self.inside.rooms.items c.self.inside.list.posted c.self.inside.list.room.combining.batch c.self.inside.list.room.combining.replies c.self.inside.list.stage c.self.invariant.0 0 (omega arith) (subst (AreWaiting 0) (sym c.self.view_is) c.requires.idle) in
    let fits : length c.args.calls.now ≤ length c.self.inside.members.items = let few = c.requires.few in let seen = ap length (sym c.self.view_is) ∙ length-map c.self.inside.members.items _ in omega (arith, few, seen) in
    let d : BeginsFirst c.self.inside.members.items c.begin_first.new.members c.args.calls.now c.begin_first.new.self.room.combining c.begin_first.new.self.stage = subst (λ z. BeginsFirst z c.begin_first.new.members c.args.calls.now c.begin_first.new.self.room.combining c.begin_first.new.self.stage) c.deref_mut.ensures.value c.in-Some.ensures.begun in
    let whole : length c.begin_first.new.members ≡ c.self.inside.members.len = ap length d.sets.is ∙ (replaced_long (length c.args.calls.now) d.now c.self.inside.members.items d.sets.long fits ∙ (ap length (sym c.deref_mut.ensures.value) ∙ c.deref_mut.ensures.len)) in
    let back : (take c.self.inside.members.len (c.begin_first.new.members ++ drop (length c.begin_first.new.members) c.self.inside.members.items)) ≡ c.begin_first.new.members = lent_back c.self.inside.members.len c.begin_first.new.members c.self.inside.members.items whole in
    subst (λ z. EachAsks z (views_of (take c.self.inside.members.len (c.begin_first.new.members ++ drop (length c.begin_first.new.members) c.self.inside.members.items))) c.args.calls.now) c.self.view_is (subst (λ xs. EachAsks (views_of c.self.inside.members.items) (views_of xs) c.args.calls.now) (sym back) (tells_began c.args.store.now c.self.inside.members.items c.self.inside.rooms.items c.self.inside.list.posted c.self.inside.list.room.combining.batch c.self.inside.list.room.combining.replies c.self.inside.list.stage c.self.invariant.0 (subst (AreOf c.args.store.now) (sym c.self.view_is) c.requires.own) (length c.args.calls.now) fits c.begin_first.new.members d.now d.sets none c.args.calls.now refl c.begin_first.new.self.room.combining.batch c.begin_first.new.self.room.combining.replies c.begin_first.new.self.stage d.begins))

pub returns-clause-others : goal.returns-clause-others
returns-clause-others c =
    let none : c.self.inside.list.posted ≡ 0 = posted_is c.self.inside.members.items c.self.inside.rooms.items c.self.inside.list.posted c.self.inside.list.room.combining.batch c.self.inside.list.room.combining.replies c.self.inside.list.stage c.self.invariant.0 0 (omega arith) (subst (AreWaiting 0) (sym c.self.view_is) c.requires.idle) in
    let fits : length c.args.calls.now ≤ length c.self.inside.members.items = let few = c.requires.few in let seen = ap length (sym c.self.view_is) ∙ length-map c.self.inside.members.items _ in omega (arith, few, seen) in
    let d : BeginsFirst c.self.inside.members.items c.begin_first.new.members c.args.calls.now c.begin_first.new.self.room.combining c.begin_first.new.self.stage = subst (λ z. BeginsFirst z c.begin_first.new.members c.args.calls.now c.begin_first.new.self.room.combining c.begin_first.new.self.stage) c.deref_mut.ensures.value c.in-Some.ensures.begun in
    let whole : length c.begin_first.new.members ≡ c.self.inside.members.len = ap length d.sets.is ∙ (replaced_long (length c.args.calls.now) d.now c.self.inside.members.items d.sets.long fits ∙ (ap length (sym c.deref_mut.ensures.value) ∙ c.deref_mut.ensures.len)) in
    let back : (take c.self.inside.members.len (c.begin_first.new.members ++ drop (length c.begin_first.new.members) c.self.inside.members.items)) ≡ c.begin_first.new.members = lent_back c.self.inside.members.len c.begin_first.new.members c.self.inside.members.items whole in
    subst (λ z. OthersStay (length c.args.calls.now) z (views_of (take c.self.inside.members.len (c.begin_first.new.members ++ drop (length c.begin_first.new.members) c.self.inside.members.items)))) c.self.view_is (subst (λ xs. OthersStay (length c.args.calls.now) (views_of c.self.inside.members.items) (views_of xs)) (sym back) (listed_others c.args.store.now c.self.inside.members.items c.self.inside.rooms.items c.self.inside.list.posted c.self.inside.list.room.combining.batch c.self.inside.list.room.combining.replies c.self.inside.list.stage c.self.invariant.0 (subst (AreOf c.args.store.now) (sym c.self.view_is) c.requires.own) (length c.args.calls.now) fits c.begin_first.new.members d.now d.sets (each_began c.args.store.now c.self.inside.members.items c.self.inside.rooms.items c.self.inside.list.posted c.self.inside.list.room.combining.batch c.self.inside.list.room.combining.replies c.self.inside.list.stage c.self.invariant.0 (subst (AreOf c.args.store.now) (sym c.self.view_is) c.requires.own) (length c.args.calls.now) fits c.begin_first.new.members d.now d.sets none c.args.calls.now refl c.begin_first.new.self.room.combining.batch c.begin_first.new.self.room.combining.replies c.begin_first.new.self.stage d.begins)))

pub returns-clause-held : goal.returns-clause-held
returns-clause-held c some =
    let none : c.self.inside.list.posted ≡ 0 = posted_is c.self.inside.members.items c.self.inside.rooms.items c.self.inside.list.posted c.self.inside.list.room.combining.batch c.self.inside.list.room.combining.replies c.self.inside.list.stage c.self.invariant.0 0 (omega arith) (subst (AreWaiting 0) (sym c.self.view_is) c.requires.idle) in
    let fits : length c.args.calls.now ≤ length c.self.inside.members.items = let few = c.requires.few in let seen = ap length (sym c.self.view_is) ∙ length-map c.self.inside.members.items _ in omega (arith, few, seen) in
    let d : BeginsFirst c.self.inside.members.items c.begin_first.new.members c.args.calls.now c.begin_first.new.self.room.combining c.begin_first.new.self.stage = subst (λ z. BeginsFirst z c.begin_first.new.members c.args.calls.now c.begin_first.new.self.room.combining c.begin_first.new.self.stage) c.deref_mut.ensures.value c.in-Some.ensures.begun in
    let whole : length c.begin_first.new.members ≡ c.self.inside.members.len = ap length d.sets.is ∙ (replaced_long (length c.args.calls.now) d.now c.self.inside.members.items d.sets.long fits ∙ (ap length (sym c.deref_mut.ensures.value) ∙ c.deref_mut.ensures.len)) in
    let back : (take c.self.inside.members.len (c.begin_first.new.members ++ drop (length c.begin_first.new.members) c.self.inside.members.items)) ≡ c.begin_first.new.members = lent_back c.self.inside.members.len c.begin_first.new.members c.self.inside.members.items whole in
    let all = c.begin_first.new.members in
    let had = hold_nothing c.self.inside.members.items c.self.inside.rooms.items c.self.inside.list.posted c.self.inside.list.room.combining.batch c.self.inside.list.room.combining.replies c.self.inside.list.stage c.self.invariant.0 in
    let has = hold_nothing all c.self.inside.rooms.items c.begin_first.new.self.posted c.begin_first.new.self.room.combining.batch c.begin_first.new.self.room.combining.replies c.begin_first.new.self.stage (still_began c.args.store.now c.self.inside.members.items c.self.inside.rooms.items c.self.inside.list.posted c.self.inside.list.room.combining.batch c.self.inside.list.room.combining.replies c.self.inside.list.stage c.self.invariant.0 (subst (AreOf c.args.store.now) (sym c.self.view_is) c.requires.own) (length c.args.calls.now) fits c.begin_first.new.members d.now d.sets none c.args.calls.now refl c.begin_first.new.self.room.combining.batch c.begin_first.new.self.room.combining.replies c.begin_first.new.self.stage d.begins d.out c.begin_first.new.self.posted c.in-Some.ensures.posted) in
    let held = posts_as (session_at (take (length c.args.calls.now) c.self.inside.members.items)) (session_at d.now) (known_at (views_of c.self.inside.members.items)) (known_at (views_of all)) c.args.calls.now c.begin_first.new.self.room.combining.batch some (was_seen (length c.args.calls.now) c.self.inside.members.items all d.now fits d.sets had has) (is_seen (length c.args.calls.now) c.self.inside.members.items all d.now fits d.sets had has) d.held in
    subst (λ z. PostedAtOnce z (views_of (take c.self.inside.members.len (c.begin_first.new.members ++ drop (length c.begin_first.new.members) c.self.inside.members.items))) c.args.calls.now) c.self.view_is
    (subst (λ xs. PostedAtOnce (views_of c.self.inside.members.items) (views_of xs) c.args.calls.now) (sym back) (c.begin_first.new.self.room.combining.batch, held))
