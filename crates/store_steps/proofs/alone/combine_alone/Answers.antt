use Rattle.std.proofs.Common.{◌∙◌, ap}
use Rattle.combiner.specs.Desks.{only}
use Rattle.store_steps.specs.Standing.{StoreSeat}
use Rattle.store_steps.proofs.Tried.{answered_since, answers_since}
use Rattle.store_steps.proofs.alone.combine_alone.Goals as goal

pub returns-clause-combined : goal.returns-clause-combined
returns-clause-combined g c k is =
    let m = c.in_default.ensures.stays k is in
    let t = c.append_and_replay.ensures.combined m.0 (ap (λ (z : StoreSeat). z.sessions) c.let_line_go.ensures.same ∙ m.1) in
    let b = only c.args.new.now in
    let kept = c.append_and_replay.new.replies in
    (t.0, t.1, answered_since k m.0 t.0 b kept m.2 t.2, answers_since c.args.here.caller.node k m.0 t.0 b kept m.2 t.3)
