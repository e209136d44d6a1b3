use Rattle.std.proofs.Common.{◌≡◌, true, false, length, refl, arith, ap, ◌∙◌}
use Rattle.std.specs.Prelude.{is_some}
use Rattle.std.specs.FinMap as finite_map
use Rattle.maps.specs.Maps.{value_at}
use Rattle.maps.specs.MapSets.{maps_of, stored_shapes, write_value, put_value}
use Rattle.helpers.specs.Helpers.{enoent, e2big, exist}
use Rattle.helpers.proofs.MapChanges.{named_map, its_shape, update_refused, update_done, nowhere_in_array, nowhere_in_hash, put_over, sizes_agree, some_not_none, others_written}
use Rattle.helpers.proofs.changes.replace.Goals as goal

pub returns-in-Array-clause-answers : goal.returns-in-Array-clause-answers
returns-in-Array-clause-answers c =
    let before = c.args.maps.now in let m = c.args.m in let key = c.args.key.now in
    let map = named_map before m key false c.requires.map (c.in_default.ensures.absent.0 refl) in
    let shape = its_shape before m key false map.0 c.shape.result map.1 c.shape.ensures.shape ∙ c.in-Array.is in
    update_refused before m key c.args.value.now exist false map.0 e2big c.negative.result map.1 (nowhere_in_array map.0.shape c.in-Array.value c.in-Array.entries (finite_map.len map.0.entries) shape) c.negative.ensures.number

pub returns-in-Hash-clause-answers : goal.returns-in-Hash-clause-answers
returns-in-Hash-clause-answers c =
    let before = c.args.maps.now in let m = c.args.m in let key = c.args.key.now in
    let map = named_map before m key false c.requires.map (c.in_default.ensures.absent.0 refl) in
    let shape = its_shape before m key false map.0 c.shape.result map.1 c.shape.ensures.shape ∙ c.in-Hash.is in
    update_refused before m key c.args.value.now exist false map.0 enoent c.negative-in-Hash.result map.1 (nowhere_in_hash map.0.shape c.in-Hash.key c.in-Hash.value c.in-Hash.entries (finite_map.len map.0.entries) shape) c.negative-in-Hash.ensures.number

pub copy_from_slice-requires : goal.copy_from_slice-requires
copy_from_slice-requires c =
    sizes_agree (stored_shapes c.args.maps.now) c.args.m c.in-Some.entry.map (length c.value_mut.result.now) (length c.args.value.now) c.in-Some.ensures.found.0 c.requires.map c.value_mut.ensures.size c.requires.value

pub returns-clause-answers : goal.returns-clause-answers
returns-clause-answers c =
    let before = c.args.maps.now in let m = c.args.m in let key = c.args.key.now in
    let e = c.in-Some.entry in let found = c.in-Some.ensures.found in let w = c.copy_from_slice.new.self in
    let map = named_map before m key true c.requires.map (some_not_none (is_some (value_at (maps_of before) m key)) c.in-Some.ensures.absent.1) in
    let after : maps_of (write_value before e w) ≡ put_value (maps_of before) m key c.args.value.now =
    c.value_mut.ensures.written key w found.1 c.copy_from_slice.ensures.len
    ∙ (ap (λ n. put_value (maps_of before) n key w) found.0 ∙ ap (put_value (maps_of before) m key) c.copy_from_slice.ensures.after) in
    update_done before (write_value before e w) m key c.args.value.now exist true map.0 map.1 (put_over map.0.shape (finite_map.len map.0.entries) exist (omega arith) (λ is. omega (arith, is))) after

pub returns-clause-others : goal.returns-clause-others
returns-clause-others c =
    λ n ne. others_written c.args.maps.now c.in-Some.entry c.copy_from_slice.new.self c.args.m n c.in-Some.ensures.found.0 ne
