use Rattle.std.proofs.Common.{◌≡◌}
use Rattle.combiner.specs.Answering.{used_by, answered_to}
use Rattle.combiner.proofs.desks.Desk.reply.Given as goal

abbrev pub invariant-loop-slot : goal.invariant-loop-slot
invariant-loop-slot l = record {
  desk : l.self ≡ answered_to l.slot l.batch.answers l.initial.self;
  next : l.next ≡ used_by l.slot l.initial.self.slots;
}
