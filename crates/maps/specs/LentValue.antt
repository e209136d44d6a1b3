-- What a set of maps is once a `&mut` to a value, or to all values of a map, has ended.
use Rattle.std.specs.Prelude.{ℕ, List}
use Rattle.std.specs.Borrow.{Lends, MutBor, Fml, Array, u8}
use Rattle.maps.specs.MapSets.{Contents, write_value, write_block}
use Rattle.maps.specs.declared.entry.Entry.{Entry}
use Rattle.maps.specs.contracts.map_set.MapSet.{the_row}

-- what is left behind the reference is written over the value of the entry
abbrev pub LendsValue : MutBor Contents → Entry → MutBor (List ℕ) → Fml
LendsValue c e r = Lends the_row (Array u8 0) c r (write_value c.now e)

-- what is left behind the reference is written over all values of map m
abbrev pub LendsValues : MutBor Contents → ℕ → MutBor (List ℕ) → Fml
LendsValues c m r = Lends the_row (Array u8 0) c r (write_block c.now m)
