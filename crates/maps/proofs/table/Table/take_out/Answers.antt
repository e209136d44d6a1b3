use Rattle.std.proofs.Common.{◌≡◌, ◌∙◌, ◌-◌, ◌*◌, ◌+◌, length, sym, arith, subst}
use Rattle.maps.proofs.TableKeys.{IsTakenOut, IsMoved, moved_by, place_room, kept_entries, taken_entries, taken_from, hash_missing}
use Rattle.maps.proofs.table.Table.take_out.Goals as goal

pub copy_within-requires-clause-dest_in_bounds : goal.copy_within-requires-clause-dest_in_bounds
copy_within-requires-clause-dest_in_bounds c =
    let t = c.args.self.now in let x = c.in-Some.index in let r = c.in-Some-remove.removed in
    let h = c.in-Some-remove.ensures in
    let out : IsTakenOut x c.remove.new.self c.args.key.now r.place r.from = record { low = h.place; was = h.was; keys = h.keys } in
    let fits = place_room t x c.remove.new.self c.args.key.now r.place r.from c.value_bytes-size.result c.requires.shape c.requires.table c.in-Some.is out c.value_bytes-size.ensures.value in
    let len = t.block.ok.0 in
    omega (arith, fits.0, len)

pub returns-clause-entries : goal.returns-clause-entries
returns-clause-entries c =
    let t = c.args.self.now in let x = c.in-Some.index in let r = c.in-Some-remove.removed in
    let h = c.in-Some-remove.ensures in
    let y = c.remove.new.self in
    let size = c.value_bytes-size.result in
    let out : IsTakenOut x y c.args.key.now r.place r.from = record { low = h.place; was = h.was; keys = h.keys } in
    let b = t.block.items in
    let d = c.copy_within.new.self.items in
    let same : length d ≡ length b = sym c.copy_within.new.self.ok.0 ∙ (c.copy_within.ensures.len ∙ t.block.ok.0) in
    let moved : IsMoved size b d r.from r.place = moved_by size (r.from * size + size - r.from * size) b d r.from r.place (omega arith) same c.copy_within.ensures.by_index in
    taken_entries t x y d c.args.key.now r.place r.from c.requires.shape c.requires.table c.in-Some.is out (subst (λ n. IsMoved n b d r.from r.place) c.value_bytes-size.ensures.value moved)

pub returns-clause-was : goal.returns-clause-was
returns-clause-was c = λ _.
    let r = c.in-Some-remove.removed in let h = c.in-Some-remove.ensures in
    (r.place, taken_from c.args.self.now c.in-Some.index c.args.key.now r.place c.in-Some.is h.place.0 h.was)

pub returns-in_default-remove-clause-entries : goal.returns-in_default-remove-clause-entries
returns-in_default-remove-clause-entries c =
    let h = c.in_default-remove.ensures in
    kept_entries c.args.self.now c.in-Some.index c.remove.new.self c.args.key.now c.requires.shape c.in-Some.is h.absent h.unchanged

pub returns-in_default-remove-clause-absent : goal.returns-in_default-remove-clause-absent
returns-in_default-remove-clause-absent c = λ _. hash_missing c.args.self.now c.in-Some.index c.args.key.now c.in-Some.is c.in_default-remove.ensures.absent
