use Rattle.std.proofs.Common.{◌≡◌, length}
use Rattle.store_steps.proofs.pipelines.give_each.Given as goal

abbrev pub invariant-loop : goal.invariant-loop
invariant-loop g l = (l.members ≡ l.initial.members) × (l.room.batch ≡ l.initial.room.batch) × (l.room.replies ≡ l.initial.room.replies) × (length l.replies ≡ length l.initial.replies)
