use Rattle.dumps.specs.Pieces.{HaveLines, rows_of}
use Rattle.dumps.proofs.pieces.sorted_tables.Given as goal

abbrev pub invariant-loop-m : goal.invariant-loop-m
invariant-loop-m l = HaveLines l.maps l.m (rows_of l.tables.items)
