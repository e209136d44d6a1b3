use Rattle.std.proofs.Common.{sym, ◌∙◌, ap}
use Rattle.std.specs.Prelude.{is_some}
use Rattle.maps.specs.Shapes.{entry_count}
use Rattle.dumps.specs.Loading.{is_hash}
use Rattle.dumps.proofs.Faults.{alike, known_key, hash_room, array_room}
use Rattle.dumps.proofs.Entries.{same_shape}
use Rattle.helpers.proofs.Export.{value_there}
use Rattle.dumps.proofs.loading.has_room.Goals as goal

pub returns-then-is_some : goal.returns-then-is_some
returns-then-is_some c s h =
    known_key s _ (ap is_some (sym (value_there _ c.args.m s c.args.key.now h)) ∙ sym (alike _ _ c.lookup.ensures.absent) ∙ sym c.is_some.ensures ∙ c.if-is_some.true)

pub returns-then-is_hash : goal.returns-then-is_hash
returns-then-is_hash c s h =
    let shape = same_shape c.args.maps.now c.args.m s _ c.requires.map h c.shape-shape.ensures.shape in
    hash_room s _ _ _
    (ap is_some (sym (value_there _ c.args.m s c.args.key.now h)) ∙ sym (alike _ _ c.lookup.ensures.absent) ∙ sym c.is_some.ensures ∙ c.if-is_some.false)
    (ap is_hash (sym shape) ∙ sym c.is_hash.ensures ∙ c.if-is_hash.true)
    (rw h at c.len.ensures.keys)
    (c.entry_count.ensures.entries ∙ ap entry_count shape)

pub returns-else-is_hash : goal.returns-else-is_hash
returns-else-is_hash c s h =
    let shape = same_shape c.args.maps.now c.args.m s _ c.requires.map h c.shape-shape.ensures.shape in
    c.if-is_hash.false
    ∙ array_room s _ (ap is_some (sym (value_there _ c.args.m s c.args.key.now h)) ∙ sym (alike _ _ c.lookup.ensures.absent) ∙ sym c.is_some.ensures ∙ c.if-is_some.false)
    (ap is_hash (sym shape) ∙ sym c.is_hash.ensures ∙ c.if-is_hash.false)
