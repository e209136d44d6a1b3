use Rattle.std.proofs.Common.{◌≡◌, ◌+◌, ◌-◌, length, set, slice_index_or, refl, sym, ap, ◌∙◌, subst, arith}
use Rattle.std.specs.Prelude.{[]}
use Rattle.ownlock.specs.Seats.{At, HoldsNone}
use Rattle.store_steps.specs.Pipelines.{AnswerWaits, here_of, spot_of}
use Rattle.store_steps.proofs.AskingEach.{are_members}
use Rattle.store_steps.proofs.Collecting.{all_collected, all_next, begins_below, collecting_on, collects_some, has, next_member, place_here, turn_at}
use Rattle.store_steps.proofs.Handing.{desk_is, holds_none, session_turns, taken, was_turn}
use Rattle.store_steps.proofs.Posting.{map_set, member_at, second_at, set_size}
use Rattle.store_steps.proofs.pipelines.collect_each.Goals as goal

pub loop-number-init : goal.loop-number-init
loop-number-init c =
    let count = c.requires.count in
    record {
      collecting = record {
        spots = refl;
        shelf = c.requires.own;
        upto = count.0;
        long = count.1;
        later = λ i lt. refl;
        holder = λ f b. b.0 refl;
        desk = λ member at. (c.requires.has member at).0;
        done = λ x j f o is lt b asked. absurd (omega (arith, lt));
        left = λ x x0 j f is is0 le b. let r = c.requires.answered x j f is b in (r.0, r.1, subst (λ z. AnswerWaits z f r.0) (desk_is c.args.first.1.value x x0 is is0) r.1);
        still = λ e t is. is;
        begun = λ lt. absurd (omega (arith, lt));
        next = λ j f a b lt. absurd (omega (arith, lt));
        comes = λ j t a e. absurd (omega (arith, e));
      };
    }

pub split-next-requires-clause-own : goal.split-next-requires-clause-own
split-next-requires-clause-own c =
    let inv = c.loop-number.invariant.collecting in
    let after = member_at c.loop-number.members (c.loop-number.number + 1) c.index-members-later.result (omega (arith, c.loop-number-test.true, c.loop-number.auto.members)) c.index-members-later.is in
    c.requires.members.own (c.loop-number.number + 1) _ (sym (inv.later (c.loop-number.number + 1) (omega arith)) ∙ after)

pub split-next-requires-clause-some : goal.split-next-requires-clause-some
split-next-requires-clause-some c =
    let inv = c.loop-number.invariant.collecting in
    let after = member_at c.loop-number.members (c.loop-number.number + 1) c.index-members-later.result (omega (arith, c.loop-number-test.true, c.loop-number.auto.members)) c.index-members-later.is in
    let w = c.requires.waits (c.loop-number.number + 1) (omega arith) _ (sym (inv.later (c.loop-number.number + 1) (omega arith)) ∙ after) in
    (w.0, [], w.2)

pub split-next-requires-clause-idle : goal.split-next-requires-clause-idle
split-next-requires-clause-idle c =
    let inv = c.loop-number.invariant.collecting in
    let after = member_at c.loop-number.members (c.loop-number.number + 1) c.index-members-later.result (omega (arith, c.loop-number-test.true, c.loop-number.auto.members)) c.index-members-later.is in
    let w = c.requires.waits (c.loop-number.number + 1) (omega arith) _ (sym (inv.later (c.loop-number.number + 1) (omega arith)) ∙ after) in
    subst HoldsNone (sym w.2) (holds_none w.0 w.3.held)

pub turn_and_hand_on-again-requires-clause-own : goal.turn_and_hand_on-again-requires-clause-own
turn_and_hand_on-again-requires-clause-own c =
    let inv = c.loop-number.invariant.collecting in
    let after = member_at c.loop-number.members (c.loop-number.number + 1) c.index-members-later.result (omega (arith, c.loop-number-test.true, c.loop-number.auto.members)) c.index-members-later.is in
    (inv.shelf, c.split-next.ensures.same.1 ∙ c.requires.members.own (c.loop-number.number + 1) _ (sym (inv.later (c.loop-number.number + 1) (omega arith)) ∙ after))

pub turn_and_hand_on-again-requires-clause-place : goal.turn_and_hand_on-again-requires-clause-place
turn_and_hand_on-again-requires-clause-place c =
    let inv = c.loop-number.invariant.collecting in
    let own = second_at c.loop-number.members (c.loop-number.number + 1) c.loop-number.number _ c.index-members-number.result (λ e. omega (arith, e)) (omega (arith, c.loop-number-test.true, c.loop-number.auto.members)) c.index-members-number.is in
    inv.desk _ own

pub turn_and_hand_on-again-requires-clause-has : goal.turn_and_hand_on-again-requires-clause-has
turn_and_hand_on-again-requires-clause-has c =
    let inv = c.loop-number.invariant.collecting in
    let own = second_at c.loop-number.members (c.loop-number.number + 1) c.loop-number.number _ c.index-members-number.result (λ e. omega (arith, e)) (omega (arith, c.loop-number-test.true, c.loop-number.auto.members)) c.index-members-number.is in
    let cur = turn_at c.args.shared c.args.members.now c.args.first.0 c.args.first.1 c.requires.count.0 c.requires.has c.requires.waits c.loop-number.number inv.upto in
    let w = has c.args.shared c.args.members.now c.args.first.0 c.args.first.1 c.loop-number.members c.loop-number.number c.loop-number.at c.loop-number.held c.loop-number.replies inv _ own cur.4.0 cur.4.1 (cur.0, cur.2) cur.0 cur.2 in
    (cur.0, w.0, cur.1, w.1, cur.3)

pub turn_and_hand_on-again-requires-clause-next : goal.turn_and_hand_on-again-requires-clause-next
turn_and_hand_on-again-requires-clause-next c =
    let inv = c.loop-number.invariant.collecting in
    let after = member_at c.loop-number.members (c.loop-number.number + 1) c.index-members-later.result (omega (arith, c.loop-number-test.true, c.loop-number.auto.members)) c.index-members-later.is in
    let own = second_at c.loop-number.members (c.loop-number.number + 1) c.loop-number.number _ c.index-members-number.result (λ e. omega (arith, e)) (omega (arith, c.loop-number-test.true, c.loop-number.auto.members)) c.index-members-number.is in
    let are = are_members c.args.shared c.args.members.now c.loop-number.members inv.spots c.requires.members in
    let after_member = slice_index_or c.loop-number.members (c.loop-number.number + 1) c.index-members-later.result in
    let own_member = slice_index_or (set c.loop-number.members (c.loop-number.number + 1) (record after_member { seat = c.split-next.new.seat })) c.loop-number.number c.index-members-number.result in
    next_member c.args.shared own_member after_member (are.near c.loop-number.number (c.loop-number.number + 1) _ _ own after) c.split-next.result (λ k ks is. (c.split-next.ensures.apart k ks is).1) (c.requires.waits (c.loop-number.number + 1) (omega arith) _ (sym (inv.later (c.loop-number.number + 1) (omega arith)) ∙ after))

pub reply_of-requires : goal.reply_of-requires
reply_of-requires c =
    let inv = c.loop-number.invariant.collecting in
    let own = second_at c.loop-number.members (c.loop-number.number + 1) c.loop-number.number _ c.index-members-number.result (λ e. omega (arith, e)) (omega (arith, c.loop-number-test.true, c.loop-number.auto.members)) c.index-members-number.is in
    let cur = turn_at c.args.shared c.args.members.now c.args.first.0 c.args.first.1 c.requires.count.0 c.requires.has c.requires.waits c.loop-number.number inv.upto in
    record { collects = collects_some c.args.shared c.args.members.now c.args.first.0 c.args.first.1 c.loop-number.members c.loop-number.number c.loop-number.at c.loop-number.held c.loop-number.replies inv _ own cur.4.0 cur.4.1 (cur.0, cur.2) c.turn_and_hand_on-again.new.batch c.turn_and_hand_on-again.result.2 _ c.turn_and_hand_on-again.ensures.turn }

pub loop-number-preserved : goal.loop-number-preserved
loop-number-preserved c =
    let inv = c.loop-number.invariant.collecting in
    let after = member_at c.loop-number.members (c.loop-number.number + 1) c.index-members-later.result (omega (arith, c.loop-number-test.true, c.loop-number.auto.members)) c.index-members-later.is in
    let own = second_at c.loop-number.members (c.loop-number.number + 1) c.loop-number.number _ c.index-members-number.result (λ e. omega (arith, e)) (omega (arith, c.loop-number-test.true, c.loop-number.auto.members)) c.index-members-number.is in
    let are = are_members c.args.shared c.args.members.now c.loop-number.members inv.spots c.requires.members in
    let cur = turn_at c.args.shared c.args.members.now c.args.first.0 c.args.first.1 c.requires.count.0 c.requires.has c.requires.waits c.loop-number.number inv.upto in
    record {
      collecting = collecting_on c.args.shared c.args.members.now c.args.first.0 c.args.first.1 c.loop-number.members c.loop-number.number c.loop-number.at c.loop-number.held c.loop-number.replies inv _ own cur.4.0 cur.4.1 (cur.0, cur.2) c.turn_and_hand_on-again.new.batch c.turn_and_hand_on-again.result.2 _ c.turn_and_hand_on-again.ensures.turn c.reply_of.result c.reply_of.ensures.reply _ refl (c.loop-number.number + 1) (omega arith) (omega (arith, c.loop-number-test.true, inv.upto)) c.requires.waits c.requires.ascend _ after (are.near c.loop-number.number (c.loop-number.number + 1) _ _ own after)
          c.split-next.result c.split-next.new.seat c.turn_and_hand_on-again.result.1 (λ k ks is. (c.split-next.ensures.apart k ks is).1) c.split-next.ensures.same.0 (c.turn_and_hand_on-again.ensures.same.1 ∙ (inv.shelf ∙ sym (are.own c.loop-number.number _ own))) _ refl
          c.turn_and_hand_on-again.new.at (c.turn_and_hand_on-again.ensures.same.0 ∙ inv.shelf) c.turn_and_hand_on-again.result.0 c.turn_and_hand_on-again.ensures.handed (λ y e. e) c.turn_and_hand_on-again.ensures.same.2 cur.1 cur.3;
    }

pub turn_and_put-requires-clause-there : goal.turn_and_put-requires-clause-there
turn_and_put-requires-clause-there c =
    let inv = c.loop-number.invariant.collecting in
    let end : c.loop-number.number ≡ length c.args.members.now - 1 = omega (arith, c.loop-number-test.false, c.loop-number.invariant.collecting.upto) in
    let there = member_at c.loop-number.members (length c.args.members.now - 1) c.index-members-last.result (omega (arith, c.requires.count.0, c.loop-number.auto.members)) c.index-members-last.is in
    let own = subst (λ i. At i (slice_index_or c.loop-number.members (length c.args.members.now - 1) c.index-members-last.result) c.loop-number.members) (sym end) there in
    let cur = turn_at c.args.shared c.args.members.now c.args.first.0 c.args.first.1 c.requires.count.0 c.requires.has c.requires.waits c.loop-number.number inv.upto in
    place_here c.args.shared c.args.members.now c.args.first.0 c.args.first.1 c.loop-number.members c.loop-number.number c.loop-number.at c.loop-number.held c.loop-number.replies inv _ own cur.4.0 cur.4.1 (cur.0, cur.2)

pub turn_and_put-requires-clause-asked : goal.turn_and_put-requires-clause-asked
turn_and_put-requires-clause-asked c =
    let inv = c.loop-number.invariant.collecting in
    let end : c.loop-number.number ≡ length c.args.members.now - 1 = omega (arith, c.loop-number-test.false, c.loop-number.invariant.collecting.upto) in
    let there = member_at c.loop-number.members (length c.args.members.now - 1) c.index-members-last.result (omega (arith, c.requires.count.0, c.loop-number.auto.members)) c.index-members-last.is in
    let own = subst (λ i. At i (slice_index_or c.loop-number.members (length c.args.members.now - 1) c.index-members-last.result) c.loop-number.members) (sym end) there in
    let cur = turn_at c.args.shared c.args.members.now c.args.first.0 c.args.first.1 c.requires.count.0 c.requires.has c.requires.waits c.loop-number.number inv.upto in
    let w = has c.args.shared c.args.members.now c.args.first.0 c.args.first.1 c.loop-number.members c.loop-number.number c.loop-number.at c.loop-number.held c.loop-number.replies inv _ own cur.4.0 cur.4.1 (cur.0, cur.2) cur.0 cur.2 in
    (cur.0, w.0, cur.1, w.1.is, taken c.loop-number.at (here_of c.args.shared (slice_index_or c.loop-number.members (length c.args.members.now - 1) c.index-members-last.result)) c.loop-number.held cur.0 w.0 w.1 (inv.desk _ own), cur.3)

pub reply_of-requires-2 : goal.reply_of-requires-2
reply_of-requires-2 c =
    let inv = c.loop-number.invariant.collecting in
    let end : c.loop-number.number ≡ length c.args.members.now - 1 = omega (arith, c.loop-number-test.false, c.loop-number.invariant.collecting.upto) in
    let there = member_at c.loop-number.members (length c.args.members.now - 1) c.index-members-last.result (omega (arith, c.requires.count.0, c.loop-number.auto.members)) c.index-members-last.is in
    let own = subst (λ i. At i (slice_index_or c.loop-number.members (length c.args.members.now - 1) c.index-members-last.result) c.loop-number.members) (sym end) there in
    let cur = turn_at c.args.shared c.args.members.now c.args.first.0 c.args.first.1 c.requires.count.0 c.requires.has c.requires.waits c.loop-number.number inv.upto in
    record { collects = collects_some c.args.shared c.args.members.now c.args.first.0 c.args.first.1 c.loop-number.members c.loop-number.number c.loop-number.at c.loop-number.held c.loop-number.replies inv _ own cur.4.0 cur.4.1 (cur.0, cur.2) c.turn_and_put.new.batch c.turn_and_put.result _ (was_turn (here_of c.args.shared (slice_index_or c.loop-number.members (length c.args.members.now - 1) c.index-members-last.result)) c.loop-number.held c.turn_and_put.new.batch c.turn_and_put.result c.turn_and_put.ensures.turn) }

pub returns-clause-same : goal.returns-clause-same
returns-clause-same c =
    let inv = c.loop-number.invariant.collecting in
    let there = member_at c.loop-number.members (length c.args.members.now - 1) c.index-members-last.result (omega (arith, c.requires.count.0, c.loop-number.auto.members)) c.index-members-last.is in
    let are = are_members c.args.shared c.args.members.now c.loop-number.members inv.spots c.requires.members in
    let member = slice_index_or c.loop-number.members (length c.args.members.now - 1) c.index-members-last.result in
    let shelf = c.turn_and_put.ensures.same ∙ (inv.shelf ∙ sym (are.own (length c.args.members.now - 1) member there)) in
    (map_set spot_of c.loop-number.members (length c.args.members.now - 1) member (record member { seat = c.turn_and_put.new.seat }) there (λ i. (member.caller, shelf i)) ∙ inv.spots, set_size c.loop-number.replies (length c.args.members.now - 1) c.reply_of-2.result ∙ (inv.long ∙ sym c.requires.count.1))

pub returns-clause-collected : goal.returns-clause-collected
returns-clause-collected c x j f o is b asked =
    let inv = c.loop-number.invariant.collecting in
    let end : c.loop-number.number ≡ length c.args.members.now - 1 = omega (arith, c.loop-number-test.false, c.loop-number.invariant.collecting.upto) in
    let there = member_at c.loop-number.members (length c.args.members.now - 1) c.index-members-last.result (omega (arith, c.requires.count.0, c.loop-number.auto.members)) c.index-members-last.is in
    let own = subst (λ i. At i (slice_index_or c.loop-number.members (length c.args.members.now - 1) c.index-members-last.result) c.loop-number.members) (sym end) there in
    let cur = turn_at c.args.shared c.args.members.now c.args.first.0 c.args.first.1 c.requires.count.0 c.requires.has c.requires.waits c.loop-number.number inv.upto in
    let are = are_members c.args.shared c.args.members.now c.loop-number.members inv.spots c.requires.members in
    let member = slice_index_or c.loop-number.members (length c.args.members.now - 1) c.index-members-last.result in
    let below = begins_below c.args.shared c.args.members.now c.args.first.0 c.args.first.1 j f c.requires.count.0 b in
    all_collected c.args.shared c.args.members.now c.args.first.0 c.args.first.1 c.loop-number.members c.loop-number.number c.loop-number.at c.loop-number.held c.loop-number.replies inv _ own cur.4.0 cur.4.1 (cur.0, cur.2) c.turn_and_put.new.batch c.turn_and_put.result _ (was_turn (here_of c.args.shared member) c.loop-number.held c.turn_and_put.new.batch c.turn_and_put.result c.turn_and_put.ensures.turn) c.reply_of-2.result c.reply_of-2.ensures.reply _ (ap (λ i. set c.loop-number.replies i c.reply_of-2.result) (sym end)) _ c.turn_and_put.new.seat (c.turn_and_put.ensures.same ∙ (inv.shelf ∙ sym (are.own (length c.args.members.now - 1) member there))) (ap (λ i. set c.loop-number.members i (record member { seat = c.turn_and_put.new.seat })) (sym end)) (session_turns c.loop-number.at c.turn_and_put.new.seat (here_of c.args.shared member) c.loop-number.held (inv.desk _ own) c.turn_and_put.new.batch c.turn_and_put.result c.turn_and_put.ensures.turned)
    x j f o is (omega (arith, below, end)) b asked

pub returns-clause-next : goal.returns-clause-next
returns-clause-next c =
    let member = slice_index_or c.loop-number.members (length c.args.members.now - 1) c.index-members-last.result in
    let inv = c.loop-number.invariant.collecting in
    let are = are_members c.args.shared c.args.members.now c.loop-number.members inv.spots c.requires.members in
    let cur = turn_at c.args.shared c.args.members.now c.args.first.0 c.args.first.1 c.requires.count.0 c.requires.has c.requires.waits c.loop-number.number inv.upto in
    let end : c.loop-number.number ≡ length c.args.members.now - 1 = omega (arith, c.loop-number-test.false, c.loop-number.invariant.collecting.upto) in
    let there = member_at c.loop-number.members (length c.args.members.now - 1) c.index-members-last.result (omega (arith, c.requires.count.0, c.loop-number.auto.members)) c.index-members-last.is in
    let own = subst (λ i. At i (slice_index_or c.loop-number.members (length c.args.members.now - 1) c.index-members-last.result) c.loop-number.members) (sym end) there in
    all_next c.args.shared c.args.members.now c.args.first.0 c.args.first.1 c.loop-number.members c.loop-number.number c.loop-number.at c.loop-number.held c.loop-number.replies inv _ own cur.4.0 cur.4.1 (cur.0, cur.2) c.turn_and_put.new.batch c.turn_and_put.result _ (was_turn (here_of c.args.shared member) c.loop-number.held c.turn_and_put.new.batch c.turn_and_put.result c.turn_and_put.ensures.turn) c.reply_of-2.result c.reply_of-2.ensures.reply _ (ap (λ i. set c.loop-number.replies i c.reply_of-2.result) (sym end)) _ c.turn_and_put.new.seat (c.turn_and_put.ensures.same ∙ (inv.shelf ∙ sym (are.own (length c.args.members.now - 1) member there))) (ap (λ i. set c.loop-number.members i (record member { seat = c.turn_and_put.new.seat })) (sym end)) (session_turns c.loop-number.at c.turn_and_put.new.seat (here_of c.args.shared member) c.loop-number.held (inv.desk _ own) c.turn_and_put.new.batch c.turn_and_put.result c.turn_and_put.ensures.turned)
    (omega (arith, c.requires.count.0, end)) cur.1 cur.3 c.requires.waits
