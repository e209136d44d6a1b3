use Rattle.std.proofs.Common.{◌≡◌, arith, sym, ap, ◌∙◌, length, ◌<◌}
use Rattle.oplog.specs.declared.configuration.TheConstants.{MAX_NODE_SLOTS}
use Rattle.combiner.proofs.Claims.{desk_turn, records_turn, answers_turn, claimed_whole, batch_whole, claimed_then, batch_then, claimed_length, requests_few}
use Rattle.combiner.specs.Desks.{first_author}
use Rattle.combiner.specs.Claiming.{requests_up_to}
use Rattle.combiner.proofs.desks.Desk.claim_posted.Goals as goal

pub claim_slot-requires-clause-slot : goal.claim_slot-requires-clause-slot
claim_slot-requires-clause-slot c =
    let same : length c.loop-slot.self.slots ≡ length c.args.self.now.slots = ap (λ d. length d.slots) c.loop-slot.invariant.desk ∙ claimed_length c.loop-slot.slot c.args.self.now.slots in
    let count = c.slot_count-slots.ensures.count in
    let more = c.loop-slot-test.true in
    omega arith

pub claim_slot-requires-clause-room : goal.claim_slot-requires-clause-room
claim_slot-requires-clause-room c =
    let records : length c.loop-slot.batch.records ≡ length (requests_up_to (first_author c.args.self.now) c.loop-slot.slot c.args.self.now.slots) = ap length c.loop-slot.invariant.records in
    let few = requests_few (first_author c.args.self.now) c.loop-slot.slot c.args.self.now.slots in
    let most = c.slot_count-slots.ensures.few in
    let more = c.loop-slot-test.true in
    let bound : length c.loop-slot.batch.records < MAX_NODE_SLOTS = omega arith in
    bound

pub loop-slot-preserved : goal.loop-slot-preserved
loop-slot-preserved c =
    let count = c.slot_count-slots.ensures.count in
    let more = c.loop-slot-test.true in
    let lt : c.loop-slot.slot < length c.args.self.now.slots = omega arith in
    record {
      desk = desk_turn c.args.self.now c.loop-slot.self c.claim_slot.new.self c.loop-slot.slot lt c.loop-slot.invariant.desk c.claim_slot.ensures.desk;
      records = records_turn c.args.self.now c.loop-slot.self c.loop-slot.batch c.claim_slot.new.batch c.loop-slot.slot lt c.loop-slot.invariant.desk c.claim_slot.ensures.claims c.loop-slot.invariant.records;
      answers = answers_turn c.args.self.now c.loop-slot.self c.loop-slot.batch c.claim_slot.new.batch c.loop-slot.slot lt c.loop-slot.invariant.desk c.claim_slot.ensures.claims c.loop-slot.invariant.answers;
    }

pub returns-after-loop-slot-clause-desk : goal.returns-after-loop-slot-clause-desk
returns-after-loop-slot-clause-desk c =
    let count = c.slot_count-slots.ensures.count in
    let past = c.loop-slot-test.false in
    let upto = c.loop-slot.auto.slot-end in
    let all : c.loop-slot.slot ≡ length c.args.self.now.slots = omega arith in
    claimed_whole c.args.self.now c.loop-slot.self c.loop-slot.slot all c.loop-slot.invariant.desk

pub returns-after-loop-slot-clause-batch : goal.returns-after-loop-slot-clause-batch
returns-after-loop-slot-clause-batch c =
    let count = c.slot_count-slots.ensures.count in
    let past = c.loop-slot-test.false in
    let upto = c.loop-slot.auto.slot-end in
    let all : c.loop-slot.slot ≡ length c.args.self.now.slots = omega arith in
    batch_whole c.args.self.now c.loop-slot.batch c.loop-slot.slot all c.loop-slot.invariant.records c.loop-slot.invariant.answers

pub returns-then-not-has_request-clause-desk : goal.returns-then-not-has_request-clause-desk
returns-then-not-has_request-clause-desk c =
    claimed_then c.args.self.now c.loop-slot.self c.loop-slot.slot c.loop-slot.invariant.desk (sym c.has_request.ensures.request ∙ c.if-not-has_request.true)

pub returns-then-not-has_request-clause-batch : goal.returns-then-not-has_request-clause-batch
returns-then-not-has_request-clause-batch c =
    batch_then c.args.self.now c.loop-slot.self c.loop-slot.batch c.loop-slot.slot c.loop-slot.invariant.desk (sym c.has_request.ensures.request ∙ c.if-not-has_request.true) c.loop-slot.invariant.records c.loop-slot.invariant.answers
