use Rattle.std.proofs.Common.{◌≡◌, ℕ, Bool, true, false, List, length, Some, None, refl, ◌∙◌, ap, sym}
use Rattle.std.specs.Prelude.{slice_get, option_and_then, is_some, ◌<◌}
use Rattle.maps.specs.Shapes.{key_size, entry_count}
use Rattle.maps.specs.declared.table.Table.{Table}
use Rattle.maps.specs.MapSets.{Contents, key_at, flat}
use Rattle.maps.specs.Blocks.{stored}
use Rattle.maps.proofs.Stored.{IsAt, within, is_at, for_shape, key_stands}
use Rattle.maps.proofs.map_set.MapSet.key.Goals as goal

-- whether a key stands there, as the table tells
told : (c : Contents) (m place : ℕ) (t : Table) (key : List ℕ) (there : Bool) → IsAt c m t → (there ≡ true → slice_get (stored t).keys place ≡ Some (Some key)) → (there ≡ false → slice_get (stored t).keys place ≡ Some None)
    → there ≡ is_some (key_at c m place)
told c m place t key true at stands free = sym (ap is_some (key_stands c m place t key at (stands refl)))
told c m place t key false at stands free = sym (ap is_some (ap (option_and_then (λ s. flat (slice_get s.keys place))) at.there ∙ ap flat (free refl)))

pub key-requires-clause-place : goal.key-requires-clause-place
key-requires-clause-place c =
    let t = c.index.result.now in
    let at = is_at c.self.inside.tables.items c.args.self.now c.args.m t c.self.view_is c.self.invariant (within c.args.self.now c.args.m c.requires.map) c.index.ensures in
    for_shape (λ s. c.args.place < entry_count s) c.args.self.now c.args.m (stored t) at.there c.requires.place

pub key-requires-clause-room : goal.key-requires-clause-room
key-requires-clause-room c =
    let t = c.index.result.now in
    let at = is_at c.self.inside.tables.items c.args.self.now c.args.m t c.self.view_is c.self.invariant (within c.args.self.now c.args.m c.requires.map) c.index.ensures in
    for_shape (λ s. length c.args.key.now ≡ key_size s) c.args.self.now c.args.m (stored t) at.there c.requires.room

pub returns-clause-there : goal.returns-clause-there
returns-clause-there c =
    let t = c.index.result.now in
    let at = is_at c.self.inside.tables.items c.args.self.now c.args.m t c.self.view_is c.self.invariant (within c.args.self.now c.args.m c.requires.map) c.index.ensures in
    told c.args.self.now c.args.m c.args.place t c.key.new.key c.key.result at c.key.ensures.there c.key.ensures.free

pub returns-clause-key : goal.returns-clause-key
returns-clause-key c =
    let t = c.index.result.now in
    let at = is_at c.self.inside.tables.items c.args.self.now c.args.m t c.self.view_is c.self.invariant (within c.args.self.now c.args.m c.requires.map) c.index.ensures in
    λ e. key_stands c.args.self.now c.args.m c.args.place t c.key.new.key at (c.key.ensures.there e)
