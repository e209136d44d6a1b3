use Rattle.std.proofs.Common.{◌≡◌, ◌++◌, drop}
use Rattle.std.specs.String.{string_bytes}
use Rattle.explain.proofs.Pieces.{joined}
use Rattle.explain.proofs.sentences.put_all.Given as goal

abbrev pub invariant-loop-piece : goal.invariant-loop-piece
invariant-loop-piece l = string_bytes l.out ++ joined (drop l.piece-index l.pieces) ≡ string_bytes l.initial.out ++ joined l.pieces
