-- What a block is once a `&mut` to a part of it has ended.
use Rattle.std.specs.Prelude.{ℕ, List}
use Rattle.std.specs.Borrow.{Lends, MutBor, Fml, Array, u8}
use Rattle.std.specs.Vec.{with_items_from}
use Rattle.maps.specs.declared.table.Table.{Table}
use Rattle.maps.specs.contracts.table.Table.{the_row}

-- the block has what was written from a place on, and is else as it was
abbrev pub with_bytes : Table → ℕ → List ℕ → Table
with_bytes t start w = record t { block = with_items_from t.block start w }

-- what is left behind the reference stands in the block from `start` on
abbrev pub LendsBlock : MutBor Table → ℕ → MutBor (List ℕ) → Fml
LendsBlock t start r = Lends the_row (Array u8 0) t r (with_bytes t.now start)
