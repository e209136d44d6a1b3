use Rattle.std.proofs.Common.{rules, refl}
use Rattle.store.proofs.polled_pipeline.Listed.finish_first.Goals as goal

pub returns-in_default-clause-waits : goal.returns-in_default-clause-waits
returns-in_default-clause-waits c =
    record { now = c.go_on_each.new.members; sets = record { long = search rules; is = refl; same = c.go_on_each.ensures.same.0 }; out = c.in_default.ensures.out; waits = c.in_default.ensures.waits }

pub returns-clause-finished : goal.returns-clause-finished
returns-clause-finished c =
    record { now = c.go_on_each.new.members; sets = record { long = search rules; is = refl; same = c.go_on_each.ensures.same.0 }; completes = c.in-Some.ensures.completed; in_order = c.in-Some.ensures.in_order; held = c.in-Some.ensures.held }
