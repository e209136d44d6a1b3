use Rattle.std.proofs.Common.{◌≡◌, true, false, length, sym, ◌∙◌, ap}
use Rattle.maps.specs.Shapes.{value_size}
use Rattle.maps.proofs.Export.{map_there}
use Rattle.dumps.specs.Loading.{is_key_for}
use Rattle.dumps.specs.Shown.{view_of, entry_of}
use Rattle.dumps.proofs.Faults.{bad_key, bad_value, out_of_order, zero_value, full, none}
use Rattle.dumps.proofs.Entries.{same_shape, key_fits}
use Rattle.dumps.proofs.loading.entry_fault.Goals as goal

pub returns-then-not-is_key_for : goal.returns-then-not-is_key_for
returns-then-not-is_key_for c s h =
    let key : is_key_for s c.args.entry.now.key.items ≡ false = cc (c.is_key_for.ensures s h) in
    bad_key (view_of c.args.so_far.now) (entry_of c.args.entry.now) s key

pub returns-then-entry-value_bytes : goal.returns-then-entry-value_bytes
returns-then-entry-value_bytes c s h =
    let shape = same_shape c.args.so_far.now.maps c.args.m s _ c.requires.map h c.shape-shape.ensures.shape in
    let key : is_key_for s c.args.entry.now.key.items ≡ true = cc (c.is_key_for.ensures s h) in
    bad_value (view_of c.args.so_far.now) (entry_of c.args.entry.now) s key
    (λ size. c.if-entry-value_bytes.true (size ∙ ap value_size (sym shape) ∙ sym c.value_bytes.ensures.value))

pub returns-then-not-is_in_order : goal.returns-then-not-is_in_order
returns-then-not-is_in_order c s h =
    let shape = same_shape c.args.so_far.now.maps c.args.m s _ c.requires.map h c.shape-shape.ensures.shape in
    let key : is_key_for s c.args.entry.now.key.items ≡ true = cc (c.is_key_for.ensures s h) in
    let size : length c.args.entry.now.value.now ≡ value_size s.shape = cc (shape) in
    out_of_order (view_of c.args.so_far.now) (entry_of c.args.entry.now) s key size (cc)

pub returns-then-is_left_out : goal.returns-then-is_left_out
returns-then-is_left_out c s h =
    let shape = same_shape c.args.so_far.now.maps c.args.m s _ c.requires.map h c.shape-shape.ensures.shape in
    let key : is_key_for s c.args.entry.now.key.items ≡ true = cc (c.is_key_for.ensures s h) in
    let size : length c.args.entry.now.value.now ≡ value_size s.shape = cc (shape) in
    zero_value (view_of c.args.so_far.now) (entry_of c.args.entry.now) s key size (cc) (cc (shape))

pub has_room-requires-clause-key : goal.has_room-requires-clause-key
has_room-requires-clause-key c =
    let there = map_there c.args.so_far.now.maps c.args.m c.requires.map in
    let key : is_key_for there.0 c.as_slice-2.result.now ≡ true = cc (c.is_key_for.ensures there.0 there.1) in
    rw there.2 (key_fits there.0 _ key)

pub returns-then-not-has_room : goal.returns-then-not-has_room
returns-then-not-has_room c s h =
    let shape = same_shape c.args.so_far.now.maps c.args.m s _ c.requires.map h c.shape-shape.ensures.shape in
    let key : is_key_for s c.args.entry.now.key.items ≡ true = cc (c.is_key_for.ensures s h) in
    let size : length c.args.entry.now.value.now ≡ value_size s.shape = cc (shape) in
    full (view_of c.args.so_far.now) (entry_of c.args.entry.now) s key size (cc) (cc (shape)) (cc (c.has_room.ensures s h))

pub returns : goal.returns
returns c s h =
    let shape = same_shape c.args.so_far.now.maps c.args.m s _ c.requires.map h c.shape-shape.ensures.shape in
    let key : is_key_for s c.args.entry.now.key.items ≡ true = cc (c.is_key_for.ensures s h) in
    let size : length c.args.entry.now.value.now ≡ value_size s.shape = cc (shape) in
    none (view_of c.args.so_far.now) (entry_of c.args.entry.now) s key size (cc) (cc (shape)) (cc (c.has_room.ensures s h))
