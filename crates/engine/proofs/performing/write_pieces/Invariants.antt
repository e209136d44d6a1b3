use Rattle.std.proofs.Common.{◌≡◌, length}
use Rattle.engine.proofs.SentPieces.{Sent}
use Rattle.engine.proofs.performing.write_pieces.Given as goal

abbrev pub invariant-loop-pieces : goal.invariant-loop-pieces
invariant-loop-pieces g l =
    Sent (g.W.Sink.contents l.initial.writer) (g.W.Sink.contents l.writer) l.initial.pieces l.pieces × (length l.room ≡ 40960) × (g.W.Sink.has_failed l.writer → g.W.Sink.has_failed l.initial.writer)

abbrev pub decreases-loop-pieces : goal.decreases-loop-pieces
decreases-loop-pieces g l = length l.pieces
