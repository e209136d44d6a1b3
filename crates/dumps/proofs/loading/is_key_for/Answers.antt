use Rattle.std.proofs.Common.{sym, ◌∙◌, ap}
use Rattle.std.specs.Prelude.{is_some}
use Rattle.maps.specs.Shapes.{key_size}
use Rattle.dumps.specs.Loading.{is_hash}
use Rattle.dumps.proofs.Faults.{alike, other_size, hash_key, array_key}
use Rattle.dumps.proofs.Entries.{same_shape}
use Rattle.helpers.proofs.Export.{value_there}
use Rattle.dumps.proofs.loading.is_key_for.Goals as goal

pub returns-then-key-key_bytes : goal.returns-then-key-key_bytes
returns-then-key-key_bytes c s h =
    let shape = same_shape c.args.maps.now c.args.m s _ c.requires.map h c.shape-shape.ensures.shape in
    other_size s _ (λ size. c.if-key-key_bytes.true (size ∙ ap key_size (sym shape) ∙ sym c.key_bytes.ensures.key))

pub returns-then-is_hash : goal.returns-then-is_hash
returns-then-is_hash c s h =
    let shape = same_shape c.args.maps.now c.args.m s _ c.requires.map h c.shape-shape.ensures.shape in
    c.if-is_hash.true
    ∙ hash_key s _ (c.if-key-key_bytes.false ∙ c.key_bytes.ensures.key ∙ ap key_size shape) (ap is_hash (sym shape) ∙ sym c.is_hash.ensures ∙ c.if-is_hash.true)

pub returns-else-is_hash : goal.returns-else-is_hash
returns-else-is_hash c s h =
    let shape = same_shape c.args.maps.now c.args.m s _ c.requires.map h c.shape-shape.ensures.shape in
    array_key s _ _ (c.if-key-key_bytes.false ∙ c.key_bytes.ensures.key ∙ ap key_size shape) (ap is_hash (sym shape) ∙ sym c.is_hash.ensures ∙ c.if-is_hash.false)
    (c.is_some.ensures ∙ alike _ _ c.lookup.ensures.absent ∙ ap is_some (value_there _ c.args.m s c.args.key.now h))
