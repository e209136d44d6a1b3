use Rattle.std.proofs.Common.{◌∙◌, ◌*◌, sym, ap, arith}
use Rattle.maps.specs.Shapes.{value_size}
use Rattle.maps.specs.MapSets.{entries_of}
use Rattle.maps.specs.Blocks.{stored}
use Rattle.maps.specs.Lent.{with_bytes}
use Rattle.maps.proofs.TableKeys.{IsClaimed, claimed_at, claimed_room, put_entries, has_place}
use Rattle.maps.proofs.table.Table.put.Goals as goal

pub unwrap-place-requires : goal.unwrap-place-requires
unwrap-place-requires c = has_place c.args.self.now c.args.key.now c.claim.result c.requires.room c.claim.ensures.absent c.claim.ensures.full

pub bytes_mut-bytes-requires : goal.bytes_mut-bytes-requires
bytes_mut-bytes-requires c =
    let t = c.args.self.now in let u = c.claim.new.self in let h = c.claim.ensures in let r = c.unwrap-place.result in
    let is : IsClaimed t u c.args.key.now r.place = claimed_at t u c.args.key.now c.claim.result r c.unwrap-place.ensures h.shape h.block h.table h.claimed in
    let fits = claimed_room t u c.args.key.now r.place c.value_bytes-size.result c.requires.shape is c.value_bytes-size.ensures.value in
    let len = u.block.ok.0 in omega (arith, fits.0, len)

pub copy_from_slice-requires : goal.copy_from_slice-requires
copy_from_slice-requires c =
    c.bytes_mut-bytes.ensures.size ∙ (c.value_bytes-size.ensures.value ∙ (ap value_size c.claim.ensures.shape ∙ sym c.requires.value))

pub returns-clause-entries : goal.returns-clause-entries
returns-clause-entries c =
    let t = c.args.self.now in let u = c.claim.new.self in let h = c.claim.ensures in let r = c.unwrap-place.result in
    let is : IsClaimed t u c.args.key.now r.place = claimed_at t u c.args.key.now c.claim.result r c.unwrap-place.ensures h.shape h.block h.table h.claimed in
    ap (λ w. entries_of (stored (with_bytes u (r.place * c.value_bytes-size.result) w))) c.copy_from_slice.ensures.after
    ∙ put_entries t u c.args.key.now c.args.value.now r.place c.value_bytes-size.result c.requires.shape is c.value_bytes-size.ensures.value c.requires.value
