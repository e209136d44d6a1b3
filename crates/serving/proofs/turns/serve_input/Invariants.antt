use Rattle.std.proofs.Common.{◌≡◌}
use Rattle.running.specs.Running.{IsSteady}
use Rattle.serving.specs.ServeAnswer.{ports}
use Rattle.serving.specs.ServiceKept.{Going}
use Rattle.serving.proofs.turns.serve_input.Given as goal

abbrev pub invariant-loop : goal.invariant-loop
invariant-loop g l =
    IsSteady l.service.catalogue l.service.node
    × (l.service.catalogue ≡ l.fn.service.catalogue)
    × Going l.fn.service.has_values l.fn.service.catalogue l.service (ports g.R.Feed.remaining l.fn.reader l.reader g.W.Sink.contents l.fn.writer l.writer)
