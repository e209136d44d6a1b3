use Rattle.std.proofs.Common.{◌<◌, length, ap, arith}
use Rattle.maps.specs.MapSets.{stored_shapes}
use Rattle.maps.proofs.Export.{map_there}
use Rattle.dumps.specs.Shown.{view_of, entry_of}
use Rattle.dumps.proofs.Entries.{passes, key_fits, room_for, put_in, kept_out}
use Rattle.dumps.proofs.loading.take_entry.Goals as goal

pub put_entry-requires-clause-key : goal.put_entry-requires-clause-key
put_entry-requires-clause-key c =
    let within : c.args.entry.map < length (stored_shapes c.args.so_far.now.maps) = rw c.requires.so_far.maps (omega (arith, ap length c.shapes.ensures.shapes)) in
    let there = map_there c.args.so_far.now.maps c.args.entry.map within in
    let p = passes (view_of c.args.so_far.now) (entry_of c.args.entry) there.0 (c.in-None.ensures there.0 there.1) in
    rw (there.2, c.as_slice.ensures.value) (key_fits there.0 _ p.key)

pub put_entry-requires-clause-value : goal.put_entry-requires-clause-value
put_entry-requires-clause-value c =
    let within : c.args.entry.map < length (stored_shapes c.args.so_far.now.maps) = rw c.requires.so_far.maps (omega (arith, ap length c.shapes.ensures.shapes)) in
    let there = map_there c.args.so_far.now.maps c.args.entry.map within in
    let p = passes (view_of c.args.so_far.now) (entry_of c.args.entry) there.0 (c.in-None.ensures there.0 there.1) in
    rw there.2 p.value

pub put_entry-requires-clause-room : goal.put_entry-requires-clause-room
put_entry-requires-clause-room c =
    let within : c.args.entry.map < length (stored_shapes c.args.so_far.now.maps) = rw c.requires.so_far.maps (omega (arith, ap length c.shapes.ensures.shapes)) in
    let there = map_there c.args.so_far.now.maps c.args.entry.map within in
    let p = passes (view_of c.args.so_far.now) (entry_of c.args.entry) there.0 (c.in-None.ensures there.0 there.1) in
    rw c.as_slice.ensures.value (room_for _ c.args.entry.map there.0 _ there.1 p.room)

pub returns-in-Some-clause-made : goal.returns-in-Some-clause-made
returns-in-Some-clause-made c =
    let within : c.args.entry.map < length (stored_shapes c.args.so_far.now.maps) = rw c.requires.so_far.maps (omega (arith, ap length c.shapes.ensures.shapes)) in
    let there = map_there c.args.so_far.now.maps c.args.entry.map within in
    kept_out (view_of c.args.so_far.now) (entry_of c.args.entry) there.0 _ there.1 (c.in-Some.ensures there.0 there.1)

pub returns-in-None-clause-made : goal.returns-in-None-clause-made
returns-in-None-clause-made c =
    let within : c.args.entry.map < length (stored_shapes c.args.so_far.now.maps) = rw c.requires.so_far.maps (omega (arith, ap length c.shapes.ensures.shapes)) in
    let there = map_there c.args.so_far.now.maps c.args.entry.map within in
    let put = put_in (view_of c.args.so_far.now) (entry_of c.args.entry) there.0 there.1 (c.in-None.ensures there.0 there.1) in
    rw (c.put_entry.ensures.updated, c.as_slice.ensures.value) put
