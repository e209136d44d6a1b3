use Rattle.std.proofs.Common.{rules, ◌≡◌, ℕ, suc, ◌<◌, ◌+◌, set, slice_index_or, refl, sym, ap, ◌∙◌, subst, arith}
use Rattle.std.specs.Prelude.{[]}
use Rattle.atomic_table.proofs.Lists.{set_again, set_else, set_here}
use Rattle.combiner.specs.Desks.{replied}
use Rattle.ownlock.proofs.Export.{one_known}
use Rattle.store_steps.specs.Combining.{HasCombined}
use Rattle.store_steps.specs.Whole.{HandsOver}
use Rattle.combiner.specs.declared.slots.Reply.{Reply}
use Rattle.ownlock.specs.Held.{held_place}
use Rattle.ownlock.specs.Seats.{At}
use Rattle.accounts.proofs.Export.{at_one, at_there}
use Rattle.accounts.specs.declared.sessions.Pending.{Pending}
use Rattle.store_steps.specs.AtDesk.{HasAsked}
use Rattle.store_steps.specs.AtOnce.{StillWaits}
use Rattle.store_steps.specs.Pipelines.{CollectsAt, KnownAt, MayTurnWith, here_of, spot_of}
use Rattle.store_steps.specs.Standing.{SessionKnown, StoreSeat}
use Rattle.store_steps.specs.declared.pipelines.Member.{Member}
use Rattle.store_steps.proofs.AskingEach.{are_members}
use Rattle.store_steps.proofs.AtOnce.{asks_still}
use Rattle.store_steps.proofs.GivenEach.{all_answered, answer_of, answers_as, ascends, begins_first, begins_later, given_of, has_taken, in_order_so, requested_still}
use Rattle.store_steps.proofs.Holds.{collects_held}
use Rattle.store_steps.proofs.Posting.{known_as, map_set, member_at}
use Rattle.store_steps.proofs.pipelines.try_give_each.Goals as goal

pub take_desk-requires-clause-idle : goal.take_desk-requires-clause-idle
take_desk-requires-clause-idle c =
    let own = slice_index_or c.args.members.now 0 c.index-members-0.result in
    let there = member_at c.args.members.now 0 c.index-members-0.result c.requires.count.0 c.index-members-0.is in
    let r = c.requires.may.ready own there in
    (r.0, (c.split-at.ensures.apart r.0 [] r.1).1, (r.2.0, r.2.2))

pub give_and_settle-held-requires-clause-has : goal.give_and_settle-held-requires-clause-has
give_and_settle-held-requires-clause-has c =
    let own = slice_index_or c.args.members.now 0 c.index-members-0.result in
    let there = member_at c.args.members.now 0 c.index-members-0.result c.requires.count.0 c.index-members-0.is in
    let r = c.requires.may.ready own there in
    let t = c.in-Some.ensures.taken r.0 (c.split-at.ensures.apart r.0 [] r.1).1 in
    (r.0, t.0, has_taken c.args.shared own c.take_desk.new.seat c.in-Some.held (1 + c.args.shared.nodes + own.caller.node) r.0 t.0 t.2 r.2.0 r.2.2 c.in-Some.ensures.place t.1, r.2.1, r.2.3)

pub collect_each-requires-clause-members : goal.collect_each-requires-clause-members
collect_each-requires-clause-members c =
    let own = slice_index_or c.args.members.now 0 c.index-members-0.result in
    let there = member_at c.args.members.now 0 c.index-members-0.result c.requires.count.0 c.index-members-0.is in
    are_members c.args.shared c.args.members.now (set c.args.members.now 0 (record own { seat = c.split-at.new.seat })) (map_set spot_of c.args.members.now 0 own (record own { seat = c.split-at.new.seat }) there (λ i. (own.caller, c.split-at.ensures.same.0 i))) c.requires.members

pub collect_each-requires-clause-waits : goal.collect_each-requires-clause-waits
collect_each-requires-clause-waits c j lt member at =
    let own = slice_index_or c.args.members.now 0 c.index-members-0.result in
    c.requires.may.waits j lt member (sym (set_else c.args.members.now 0 j (record own { seat = c.split-at.new.seat }) (λ e. omega (arith, e, lt))) ∙ at)

pub collect_each-requires-clause-has : goal.collect_each-requires-clause-has
collect_each-requires-clause-has c member at =
    let own = slice_index_or c.args.members.now 0 c.index-members-0.result in
    let there = member_at c.args.members.now 0 c.index-members-0.result c.requires.count.0 c.index-members-0.is in
    let w = given_of c.args.shared own c.args.batch.now c.args.kept.now c.split-at.result c.take_desk.new.seat c.in-Some.held c.give_and_settle-held.new.seat c.give_and_settle-held.result c.give_and_settle-held.new.batch (λ k is. (c.split-at.ensures.apart k [] is).1) (c.requires.may.ready own there) c.in-Some.ensures.taken (c.in-Some.ensures.place, c.in-Some.ensures.there) c.give_and_settle-held.ensures.kept c.give_and_settle-held.ensures.replied c.give_and_settle-held.ensures.answered in
    let new = record own { seat = c.split-at.new.seat } in
    subst (λ (z : Member). MayTurnWith (here_of c.args.shared z) c.give_and_settle-held.new.seat c.give_and_settle-held.result) (at_one (set c.args.members.now 0 new) 0 new member (set_here c.args.members.now 0 new c.requires.count.0) at)
    (c.give_and_settle-held.ensures.same.1, (w.combined, w.now, w.o, w.desk, asks_still w.k w.combined w.o w.waits w.has))

pub collect_each-requires-clause-ascend : goal.collect_each-requires-clause-ascend
collect_each-requires-clause-ascend c =
    let own = slice_index_or c.args.members.now 0 c.index-members-0.result in
    let there = member_at c.args.members.now 0 c.index-members-0.result c.requires.count.0 c.index-members-0.is in
    let w = given_of c.args.shared own c.args.batch.now c.args.kept.now c.split-at.result c.take_desk.new.seat c.in-Some.held c.give_and_settle-held.new.seat c.give_and_settle-held.result c.give_and_settle-held.new.batch (λ k is. (c.split-at.ensures.apart k [] is).1) (c.requires.may.ready own there) c.in-Some.ensures.taken (c.in-Some.ensures.place, c.in-Some.ensures.there) c.give_and_settle-held.ensures.kept c.give_and_settle-held.ensures.replied c.give_and_settle-held.ensures.answered in
    ascends c.args.shared c.args.members.now own there c.split-at.new.seat c.give_and_settle-held.new.seat c.give_and_settle-held.result w.k w.combined w.now w.known w.has w.desk c.give_and_settle-held.ensures.same.1 c.requires.may.ascend

pub collect_each-requires-clause-answered : goal.collect_each-requires-clause-answered
collect_each-requires-clause-answered c =
    let own = slice_index_or c.args.members.now 0 c.index-members-0.result in
    let there = member_at c.args.members.now 0 c.index-members-0.result c.requires.count.0 c.index-members-0.is in
    let w = given_of c.args.shared own c.args.batch.now c.args.kept.now c.split-at.result c.take_desk.new.seat c.in-Some.held c.give_and_settle-held.new.seat c.give_and_settle-held.result c.give_and_settle-held.new.batch (λ k is. (c.split-at.ensures.apart k [] is).1) (c.requires.may.ready own there) c.in-Some.ensures.taken (c.in-Some.ensures.place, c.in-Some.ensures.there) c.give_and_settle-held.ensures.kept c.give_and_settle-held.ensures.replied c.give_and_settle-held.ensures.answered in
    all_answered c.args.shared c.args.members.now own there c.split-at.new.seat c.give_and_settle-held.new.seat c.give_and_settle-held.result w.k w.combined w.now w.known w.has w.desk c.give_and_settle-held.ensures.same.1 c.give_and_settle-held.new.batch (requested_still c.args.members.now c.args.batch.now c.give_and_settle-held.new.batch c.args.kept.now c.give_and_settle-held.ensures.answered c.requires.may.requests) w.x0 (replied c.give_and_settle-held.new.batch w.x0) w.is2 refl w.of w.all

pub returns-clause-gives : goal.returns-clause-gives
returns-clause-gives c =
    let own = slice_index_or c.args.members.now 0 c.index-members-0.result in
    let there = member_at c.args.members.now 0 c.index-members-0.result c.requires.count.0 c.index-members-0.is in
    let w = given_of c.args.shared own c.args.batch.now c.args.kept.now c.split-at.result c.take_desk.new.seat c.in-Some.held c.give_and_settle-held.new.seat c.give_and_settle-held.result c.give_and_settle-held.new.batch (λ k is. (c.split-at.ensures.apart k [] is).1) (c.requires.may.ready own there) c.in-Some.ensures.taken (c.in-Some.ensures.place, c.in-Some.ensures.there) c.give_and_settle-held.ensures.kept c.give_and_settle-held.ensures.replied c.give_and_settle-held.ensures.answered in
    let e0 = c.collect_each.ensures.collected (replied c.give_and_settle-held.new.batch w.x0) 0 w.combined w.o w.is2 (begins_first c.args.shared c.args.members.now own there c.split-at.new.seat c.give_and_settle-held.new.seat c.give_and_settle-held.result w.k w.combined w.now w.known w.has w.desk c.give_and_settle-held.ensures.same.1) (asks_still w.k w.combined w.o w.waits w.has) in
    let others : (j : ℕ) (k : SessionKnown) (o0 : Pending) → 0 < j → KnownAt c.args.members.now j k → HasAsked k o0 → (reply : Reply) × At j reply c.collect_each.new.replies × CollectsAt c.collect_each.new.members j k o0 reply =
    λ j k o0 lt known asked. let e = c.collect_each.ensures.collected (replied c.give_and_settle-held.new.batch w.x0) j k o0 w.is2 (begins_later c.args.shared c.args.members.now own there c.split-at.new.seat c.give_and_settle-held.new.seat c.give_and_settle-held.result w.k w.combined w.now w.known w.has w.desk c.give_and_settle-held.ensures.same.1 j k lt known) asked in (e.0, e.1, e.3) in
    record {
      first = λ member k o0 at known waits.
          let is_own = at_one c.args.members.now 0 own member there at in
          let one = one_known own.seat w.k k w.known (known_as c.args.members.now 0 k own there known) in
          let e = c.collect_each.ensures.collected (replied c.give_and_settle-held.new.batch w.x0) 0 w.combined o0 w.is2 (begins_first c.args.shared c.args.members.now own there c.split-at.new.seat c.give_and_settle-held.new.seat c.give_and_settle-held.result w.k w.combined w.now w.known w.has w.desk c.give_and_settle-held.ensures.same.1) (asks_still w.k w.combined o0 (subst (λ z. StillWaits z o0) (sym one) waits) w.has) in
          (w.combined, e.0, e.1, subst (λ z. HasCombined z w.combined) one w.has, subst (λ (u : Member × SessionKnown). HandsOver u.0.caller.node u.1 w.combined c.args.batch.now c.args.kept.now) (λ i. (is_own i, one i)) w.gives, e.3);
      others = others;
      in_order = in_order_so c.args.members.now c.args.batch.now c.args.kept.now c.collect_each.new.replies c.requires.may.ascend w.ready.ascend
          (answers_as c.args.members.now c.args.batch.now c.give_and_settle-held.new.batch c.args.kept.now c.collect_each.new.replies c.give_and_settle-held.ensures.answered
          (answer_of c.args.shared c.args.members.now own there c.split-at.new.seat c.give_and_settle-held.new.seat c.give_and_settle-held.result w.k w.combined w.now w.known w.has w.desk c.give_and_settle-held.ensures.same.1 c.give_and_settle-held.new.batch (requested_still c.args.members.now c.args.batch.now c.give_and_settle-held.new.batch c.args.kept.now c.give_and_settle-held.ensures.answered c.requires.may.requests) w.x0 (replied c.give_and_settle-held.new.batch w.x0) w.is2 refl w.of w.all c.requires.may.waits w.o (asks_still w.k w.combined w.o w.waits w.has) c.collect_each.new.members c.collect_each.new.replies (c.collect_each.ensures.same.1 ∙ c.requires.count.1) c.collect_each.ensures.collected));
      held = collects_held c.args.members.now c.collect_each.new.members c.args.batch.now c.args.kept.now c.collect_each.new.replies w.k w.combined (own, there, w.known) own.caller.node w.gives w.o e0.0 e0.1 e0.3
          (record { place = held_place c.give_and_settle-held.result; value = c.give_and_settle-held.result.value; now = w.now; took = w.desk.took; next = w.next; put = c.collect_each.ensures.next.0 (record own { seat = c.split-at.new.seat }) w.combined w.now e0.3.after (set_here c.args.members.now 0 (record own { seat = c.split-at.new.seat }) c.requires.count.0) w.desk e0.3.is })
          (λ j up lt. let p = at_there c.args.members.now j (omega (arith, lt, c.collect_each.ensures.same.1, c.requires.count.1)) in let v = c.requires.may.waits j up p.0 p.1 in (v.0, v.1, (p.0, p.1, v.2), v.4))
          others
          (λ j f a b is_f. c.collect_each.ensures.next.1 j f a b (is_f.0, set_else c.args.members.now 0 (suc j) (record own { seat = c.split-at.new.seat }) (λ e. omega (arith, e)) ∙ is_f.1, is_f.2));
    }

pub returns-in_default-clause-stays : goal.returns-in_default-clause-stays
returns-in_default-clause-stays c =
    let own = slice_index_or c.args.members.now 0 c.index-members-0.result in
    let there = member_at c.args.members.now 0 c.index-members-0.result c.requires.count.0 c.index-members-0.is in
    let r = c.requires.may.ready own there in
    let same : c.take_desk.new.seat ≡ c.split-at.result = search rules in
    let back : record own { seat = c.take_desk.new.seat } ≡ own = ap (λ (z : StoreSeat). record own { seat = z }) (same ∙ λ i. record { shelf = c.split-at.ensures.same.1 i; sessions = ((c.split-at.ensures.apart r.0 [] r.1).1 ∙ sym r.1) i }) in
    (ap (set c.args.members.now 0) back ∙ set_again c.args.members.now 0 own there, refl)

pub give_and_settle-held-requires-clause-own : goal.give_and_settle-held-requires-clause-own
give_and_settle-held-requires-clause-own c =
    let own = slice_index_or c.args.members.now 0 c.index-members-0.result in
    let there = member_at c.args.members.now 0 c.index-members-0.result c.requires.count.0 c.index-members-0.is in
    c.take_desk.ensures.same ∙ (c.split-at.ensures.same.1 ∙ c.requires.members.own 0 own there)

pub collect_each-requires-clause-own : goal.collect_each-requires-clause-own
collect_each-requires-clause-own c =
    let own = slice_index_or c.args.members.now 0 c.index-members-0.result in
    let there = member_at c.args.members.now 0 c.index-members-0.result c.requires.count.0 c.index-members-0.is in
    c.give_and_settle-held.ensures.same.0 ∙ (c.take_desk.ensures.same ∙ (c.split-at.ensures.same.1 ∙ c.requires.members.own 0 own there))
