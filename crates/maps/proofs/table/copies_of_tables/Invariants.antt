use Rattle.std.proofs.Common.{◌≡◌, take}
use Rattle.std.specs.List.{AllByRecursion}
use Rattle.maps.specs.Blocks.{contents, IsTable}
use Rattle.maps.proofs.table.copies_of_tables.Given as goal

abbrev pub invariant-loop-table : goal.invariant-loop-table
invariant-loop-table l = record { same : contents l.tables.items ≡ contents (take l.table-index l.source.items); each : AllByRecursion IsTable l.tables.items }
