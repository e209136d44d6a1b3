use Rattle.maps.proofs.Copied.{IsCopied}
use Rattle.maps.proofs.table.copy_tables.Given as goal

abbrev pub invariant-loop-m : goal.invariant-loop-m
invariant-loop-m l = IsCopied l.m l.tables.items l.source.items
