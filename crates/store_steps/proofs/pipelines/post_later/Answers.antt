use Rattle.std.proofs.Common.{◌≡◌, ℕ, suc, ◌-◌, ◌<◌, ◌≤◌, length, refl, sym, ap, ◌∙◌, subst, arith, true}
use Rattle.std.specs.Prelude.{[]}
use Rattle.maps.specs.declared.shapes.TheConstants.{MOST_ARG_LEN}
use Rattle.ownlock.specs.Seats.{At, HoldsNone}
use Rattle.verifier.specs.declared.refusal.Mode.TheVariants.{Update}
use Rattle.replica.specs.StoreMeaning.{is_operation}
use Rattle.accounts.proofs.Export.{at_below, at_there}
use Rattle.store_steps.specs.Asking.{asked_op}
use Rattle.store_steps.specs.Pipelines.{Begins, HoldsAt, KnownAt, MayAskAt}
use Rattle.store_steps.specs.declared.steps.Question.{Question}
use Rattle.store_steps.proofs.AskingEach.{are_members}
use Rattle.store_steps.proofs.Handing.{holds_none}
use Rattle.store_steps.proofs.Posting.{alone_now, has_now, may_now, next_some, or_at, member_at, posting_on, second_at}
use Rattle.store_steps.proofs.pipelines.post_later.Goals as goal

pub loop-number-init : goal.loop-number-init
loop-number-init c =
    let count = c.requires.count in
    record {
      posting = record {
        spots = refl;
        shelf = c.requires.own;
        upto = omega (arith, count.0);
        before = λ i lt. refl;
        holder = λ f b. b.0 refl;
        desk = λ member at. (c.requires.has member at).0;
        posted = λ j f q lt at b. let far = at_below c.args.calls.now j q at in absurd (omega (arith, lt, far));
        free = λ none. none;
        asks = λ x j f is lt b. let known = b.1 (λ e. omega (arith, lt, e)) in let far = at_below c.args.members.now j known.0 known.1 in let long = count.1 in absurd (omega (arith, lt, far, long));
        next = λ j f a b lt few. absurd (omega (arith, lt, few));
        comes = λ t b few. absurd (omega (arith, few, count.0));
      };
    }

pub run-op-requires : goal.run-op-requires
run-op-requires c =
    let up = c.loop-number.invariant.posting.upto in
    let q = at_there c.args.calls.now c.loop-number.number up in
    record { fits = subst (λ (z : Question). length z.argument.now ≤ MOST_ARG_LEN) (sym (or_at c.args.calls.now c.loop-number.number _ q.0 q.1)) (c.requires.calls c.loop-number.number q.0 q.1).1 }

pub split-next-requires-clause-own : goal.split-next-requires-clause-own
split-next-requires-clause-own c =
    let inv = c.loop-number.invariant.posting in
    let there = member_at c.loop-number.members (c.loop-number.number - 1) c.index-members-previous.result (omega (arith, c.loop-number-test.true, c.loop-number.invariant.posting.upto, c.requires.count.1, c.loop-number.auto.members)) c.index-members-previous.is in
    c.requires.members.own (c.loop-number.number - 1) _ (sym (inv.before (c.loop-number.number - 1) (omega (arith, c.loop-number-test.true))) ∙ there)

pub split-next-requires-clause-some : goal.split-next-requires-clause-some
split-next-requires-clause-some c =
    let inv = c.loop-number.invariant.posting in
    let there = member_at c.loop-number.members (c.loop-number.number - 1) c.index-members-previous.result (omega (arith, c.loop-number-test.true, c.loop-number.invariant.posting.upto, c.requires.count.1, c.loop-number.auto.members)) c.index-members-previous.is in
    let may = c.requires.idle (c.loop-number.number - 1) (omega (arith, c.loop-number-test.true, c.loop-number.invariant.posting.upto)) _ (sym (inv.before (c.loop-number.number - 1) (omega (arith, c.loop-number-test.true))) ∙ there) in
    (may.0, [], may.1)

pub split-next-requires-clause-idle : goal.split-next-requires-clause-idle
split-next-requires-clause-idle c =
    let inv = c.loop-number.invariant.posting in
    let there = member_at c.loop-number.members (c.loop-number.number - 1) c.index-members-previous.result (omega (arith, c.loop-number-test.true, c.loop-number.invariant.posting.upto, c.requires.count.1, c.loop-number.auto.members)) c.index-members-previous.is in
    let may = c.requires.idle (c.loop-number.number - 1) (omega (arith, c.loop-number-test.true, c.loop-number.invariant.posting.upto)) _ (sym (inv.before (c.loop-number.number - 1) (omega (arith, c.loop-number-test.true))) ∙ there) in
    subst HoldsNone (sym may.1) (holds_none may.0 may.2.held)

pub post_and_hand_on-again-requires-clause-own : goal.post_and_hand_on-again-requires-clause-own
post_and_hand_on-again-requires-clause-own c =
    let inv = c.loop-number.invariant.posting in
    let there = member_at c.loop-number.members (c.loop-number.number - 1) c.index-members-previous.result (omega (arith, c.loop-number-test.true, c.loop-number.invariant.posting.upto, c.requires.count.1, c.loop-number.auto.members)) c.index-members-previous.is in
    (inv.shelf, c.split-next.ensures.same.1 ∙ c.requires.members.own (c.loop-number.number - 1) _ (sym (inv.before (c.loop-number.number - 1) (omega (arith, c.loop-number-test.true))) ∙ there))

pub post_and_hand_on-again-requires-clause-place : goal.post_and_hand_on-again-requires-clause-place
post_and_hand_on-again-requires-clause-place c =
    let inv = c.loop-number.invariant.posting in
    inv.desk _ (second_at c.loop-number.members (c.loop-number.number - 1) c.loop-number.number _ c.index-members-number.result (λ e. omega (arith, e, c.loop-number-test.true)) (omega (arith, c.loop-number.invariant.posting.upto, c.requires.count.1, c.loop-number.auto.members)) c.index-members-number.is)

pub post_and_hand_on-again-requires-clause-has : goal.post_and_hand_on-again-requires-clause-has
post_and_hand_on-again-requires-clause-has c =
    let inv = c.loop-number.invariant.posting in
    let own = second_at c.loop-number.members (c.loop-number.number - 1) c.loop-number.number _ c.index-members-number.result (λ e. omega (arith, e, c.loop-number-test.true)) (omega (arith, c.loop-number.invariant.posting.upto, c.requires.count.1, c.loop-number.auto.members)) c.index-members-number.is in
    let idle : (j : ℕ) → j < length c.args.calls.now - 1 → MayAskAt c.args.shared c.args.members.now j = λ j lt. c.requires.idle j (omega (arith, lt)) in
    let cur = may_now c.args.shared c.args.members.now (length c.args.calls.now - 1) c.args.last.0 c.args.last.1 c.requires.has idle c.loop-number.number (omega (arith, c.loop-number.invariant.posting.upto)) (omega (arith, c.loop-number.invariant.posting.upto, c.requires.count.1)) in
    let w = has_now c.args.shared c.args.members.now c.args.calls.now c.args.last.0 c.args.last.1 c.loop-number.members c.loop-number.number c.loop-number.at c.loop-number.held inv _ own cur.0 cur.1 in
    (cur.0, w.0, w.1, alone_now c.args.shared c.args.members.now (length c.args.calls.now - 1) c.args.last.0 c.args.last.1 c.requires.has idle c.loop-number.number (omega (arith, c.loop-number.invariant.posting.upto)) cur.0 cur.1)

pub post_and_hand_on-again-requires-clause-next : goal.post_and_hand_on-again-requires-clause-next
post_and_hand_on-again-requires-clause-next c =
    let inv = c.loop-number.invariant.posting in
    let there = member_at c.loop-number.members (c.loop-number.number - 1) c.index-members-previous.result (omega (arith, c.loop-number-test.true, c.loop-number.invariant.posting.upto, c.requires.count.1, c.loop-number.auto.members)) c.index-members-previous.is in
    let own = second_at c.loop-number.members (c.loop-number.number - 1) c.loop-number.number _ c.index-members-number.result (λ e. omega (arith, e, c.loop-number-test.true)) (omega (arith, c.loop-number.invariant.posting.upto, c.requires.count.1, c.loop-number.auto.members)) c.index-members-number.is in
    let are = are_members c.args.shared c.args.members.now c.loop-number.members inv.spots c.requires.members in
    next_some c.args.shared c.args.members.now c.args.calls.now c.args.last.0 c.args.last.1 c.loop-number.members c.loop-number.number c.loop-number.at c.loop-number.held inv (c.loop-number.number - 1) (omega (arith, c.loop-number-test.true)) _ _ there own c.requires.idle (are.near c.loop-number.number (c.loop-number.number - 1) _ _ own there) c.split-next.result (λ k ks is. (c.split-next.ensures.apart k ks is).1)

pub post_and_hand_on-again-requires-clause-update : goal.post_and_hand_on-again-requires-clause-update
post_and_hand_on-again-requires-clause-update c =
    let q = at_there c.args.calls.now c.loop-number.number c.loop-number.invariant.posting.upto in
    subst (λ z. is_operation Update c.args.shared.catalogue.now z ≡ true) (sym (c.run-op.ensures.call ∙ ap asked_op (or_at c.args.calls.now c.loop-number.number _ q.0 q.1))) (c.requires.calls c.loop-number.number q.0 q.1).0

pub loop-number-preserved : goal.loop-number-preserved
loop-number-preserved c =
    let inv = c.loop-number.invariant.posting in
    let there = member_at c.loop-number.members (c.loop-number.number - 1) c.index-members-previous.result (omega (arith, c.loop-number-test.true, c.loop-number.invariant.posting.upto, c.requires.count.1, c.loop-number.auto.members)) c.index-members-previous.is in
    let own = second_at c.loop-number.members (c.loop-number.number - 1) c.loop-number.number _ c.index-members-number.result (λ e. omega (arith, e, c.loop-number-test.true)) (omega (arith, c.loop-number.invariant.posting.upto, c.requires.count.1, c.loop-number.auto.members)) c.index-members-number.is in
    let are = are_members c.args.shared c.args.members.now c.loop-number.members inv.spots c.requires.members in
    let idle : (j : ℕ) → j < length c.args.calls.now - 1 → MayAskAt c.args.shared c.args.members.now j = λ j lt. c.requires.idle j (omega (arith, lt)) in
    let cur = may_now c.args.shared c.args.members.now (length c.args.calls.now - 1) c.args.last.0 c.args.last.1 c.requires.has idle c.loop-number.number (omega (arith, c.loop-number.invariant.posting.upto)) (omega (arith, c.loop-number.invariant.posting.upto, c.requires.count.1)) in
    let alone = alone_now c.args.shared c.args.members.now (length c.args.calls.now - 1) c.args.last.0 c.args.last.1 c.requires.has idle c.loop-number.number (omega (arith, c.loop-number.invariant.posting.upto)) in
    record {
      posting = posting_on c.args.shared c.args.members.now c.args.calls.now c.args.last.0 c.args.last.1 c.loop-number.members c.loop-number.number c.loop-number.at c.loop-number.held inv (c.loop-number.number - 1) (omega (arith, c.loop-number-test.true)) _ _ there own c.requires.idle (are.near c.loop-number.number (c.loop-number.number - 1) _ _ own there) c.split-next.result (λ k ks is. (c.split-next.ensures.apart k ks is).1) cur alone c.split-next.new.seat c.post_and_hand_on-again.result.1
          c.split-next.ensures.same.0 (c.post_and_hand_on-again.ensures.same.1 ∙ (inv.shelf ∙ sym (are.own c.loop-number.number _ own))) _ refl c.post_and_hand_on-again.new.at (c.post_and_hand_on-again.ensures.same.0 ∙ inv.shelf) c.post_and_hand_on-again.result.0 c.run-op.result (λ q at. c.run-op.ensures.call ∙ ap asked_op (or_at c.args.calls.now c.loop-number.number _ q at))
          c.post_and_hand_on-again.ensures.handed c.post_and_hand_on-again.ensures.posted c.post_and_hand_on-again.ensures.same.2;
    }

pub returns-clause-holds : goal.returns-clause-holds
returns-clause-holds c =
    let inv = c.loop-number.invariant.posting in
    let none : c.loop-number.number ≡ 0 = let past = c.loop-number-test.false in omega (arith, past) in (
      λ f b. subst (λ i. HoldsAt c.args.shared c.loop-number.members c.loop-number.at c.loop-number.held i f) none (inv.holder f (subst (λ i. Begins c.args.shared c.args.members.now (length c.args.calls.now - 1) c.args.last.0 c.args.last.1 i f) (sym none) b)),
      λ member at. inv.desk member (subst (λ i. At i member c.loop-number.members) (sym none) at),
    )

pub returns-clause-desk : goal.returns-clause-desk
returns-clause-desk c =
    let inv = c.loop-number.invariant.posting in
    let past = c.loop-number-test.false in
    (inv.free, λ x j f is lt b. inv.asks x j f is (omega (arith, past, lt)) b)

pub returns-clause-next : goal.returns-clause-next
returns-clause-next c =
    let inv = c.loop-number.invariant.posting in
    let past = c.loop-number-test.false in
    let none : c.loop-number.number ≡ 0 = omega (arith, past) in (
      λ j f a b lt few. inv.next j f a b (omega (arith, lt, none)) few,
      λ t b few at known. inv.comes t b (omega (arith, few, none)) at (subst (λ i. KnownAt c.loop-number.members (suc i) b) (sym none) known),
    )
