use Rattle.std.proofs.Common.{◌≡◌, ◌<◌, ◌≤◌, arith, sym, ap, ◌∙◌, length}
use Rattle.oplog.specs.declared.configuration.TheConstants.{MAX_NODE_SLOTS}
use Rattle.combiner.proofs.Replies.{answered_length, used_few, desk_turn, next_turn, answer_there, replied_whole, replied_then}
use Rattle.combiner.proofs.desks.Desk.reply.Goals as goal

pub answer_slot-next-requires-clause-slot : goal.answer_slot-next-requires-clause-slot
answer_slot-next-requires-clause-slot c =
    let same : length c.loop-slot.self.slots ≡ length c.args.self.now.slots =
    ap (λ d. length d.slots) c.loop-slot.invariant.desk ∙ answered_length c.loop-slot.slot c.args.batch.now.answers c.args.self.now.slots in
    let count = c.slot_count-slot-end.ensures.count in
    let more = c.loop-slot-test.true in
    omega arith

pub answer_slot-next-requires-clause-few : goal.answer_slot-next-requires-clause-few
answer_slot-next-requires-clause-few c =
    let next = c.loop-slot.invariant.next in
    let few = used_few c.loop-slot.slot c.args.self.now.slots in
    let most = c.slot_count-slot-end.ensures.few in
    let more = c.loop-slot-test.true in
    let bound : c.loop-slot.next ≤ MAX_NODE_SLOTS = omega arith in
    bound

pub answer_slot-next-requires-clause-answer : goal.answer_slot-next-requires-clause-answer
answer_slot-next-requires-clause-answer c =
    let count = c.slot_count-slot-end.ensures.count in
    let more = c.loop-slot-test.true in
    let lt : c.loop-slot.slot < length c.args.self.now.slots = omega arith in
    answer_there c.args.self.now c.loop-slot.self c.args.batch.now c.loop-slot.slot c.loop-slot.next lt c.loop-slot.invariant.desk c.loop-slot.invariant.next c.requires.own c.requires.answered

pub loop-slot-preserved : goal.loop-slot-preserved
loop-slot-preserved c =
    let count = c.slot_count-slot-end.ensures.count in
    let more = c.loop-slot-test.true in
    let lt : c.loop-slot.slot < length c.args.self.now.slots = omega arith in
    record {
      desk = desk_turn c.args.self.now c.loop-slot.self c.answer_slot-next.new.self c.args.batch.now.answers c.loop-slot.slot c.loop-slot.next lt c.loop-slot.invariant.desk c.loop-slot.invariant.next c.answer_slot-next.ensures.desk;
      next = next_turn c.args.self.now c.loop-slot.self c.args.batch.now.answers c.loop-slot.slot c.loop-slot.next c.answer_slot-next.result lt c.loop-slot.invariant.desk c.loop-slot.invariant.next c.answer_slot-next.ensures.next;
    }

pub returns-after-loop-slot : goal.returns-after-loop-slot
returns-after-loop-slot c =
    let count = c.slot_count-slot-end.ensures.count in
    let past = c.loop-slot-test.false in
    let upto = c.loop-slot.auto.slot-end in
    let all : c.loop-slot.slot ≡ length c.args.self.now.slots = omega arith in
    record { replied = replied_whole c.args.self.now c.loop-slot.self c.args.batch.now c.loop-slot.slot all c.loop-slot.invariant.desk c.requires.own c.requires.answered }

pub returns-then-not-claimed : goal.returns-then-not-claimed
returns-then-not-claimed c = record {
  replied = replied_then c.args.self.now c.loop-slot.self c.args.batch.now c.loop-slot.slot c.loop-slot.invariant.desk (sym c.claimed.ensures.claimed ∙ c.if-not-claimed.true) c.requires.own c.requires.answered;
}
