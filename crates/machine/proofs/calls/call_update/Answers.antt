use Rattle.std.proofs.Common.{pos, ◌≡◌, ℕ, ◌<◌, arith, List, length, take, ap, sym, subst, ◌∙◌}
use Rattle.std.specs.Prelude.{slice_set, IfSome}
use Rattle.std.proofs.lemmas.Option.{slice_get_within}
use Rattle.maps.specs.Shapes.{AreShapesSupported, key_size}
use Rattle.machine.specs.Accesses.{IsRead}
use Rattle.machine.proofs.Looking.{same_map}
use Rattle.machine.proofs.Leading.{with_word, same_leads}
use Rattle.machine.proofs.Altering.{key_room, shape_ok, update_key_told, update_value_told, updated_leads}
use Rattle.machine.proofs.calls.call_update.Goals as goal

pub slice_bounds-key_room-end : goal.slice_bounds-key_room-end
slice_bounds-key_room-end c =
    let s = c.requires.told in
    let room = key_room c.args.maps.now s.signature c.from-m.result c.shape-shape.result s.limits s.shapes c.shape-shape.ensures.shape c.key_bytes-key_bytes.result c.key_bytes-key_bytes.ensures.key in
    room.few

pub slice_bounds-key-end : goal.slice_bounds-key-end
slice_bounds-key-end c =
    let s = c.requires.told in
    let room = key_room c.args.maps.now s.signature c.from-m.result c.shape-shape.result s.limits s.shapes c.shape-shape.ensures.shape c.key_bytes-key_bytes.result c.key_bytes-key_bytes.ensures.key in
    sym room.count

pub fetch-requires-clause-some : goal.fetch-requires-clause-some
fetch-requires-clause-some c =
    let s = c.requires.told in
    let room = key_room c.args.maps.now s.signature c.from-m.result c.shape-shape.result s.limits s.shapes c.shape-shape.ensures.shape c.key_bytes-key_bytes.result c.key_bytes-key_bytes.ensures.key in
    subst (λ k. 0 < k) (sym room.count) room.some

pub fetch-requires-clause-limits : goal.fetch-requires-clause-limits
fetch-requires-clause-limits c =
    subst AreShapesSupported c.requires.told.shapes c.requires.told.limits

pub fetch-requires-clause-told : goal.fetch-requires-clause-told
fetch-requires-clause-told c =
    let s = c.requires.told in
    let room = key_room c.args.maps.now s.signature c.from-m.result c.shape-shape.result s.limits s.shapes c.shape-shape.ensures.shape c.key_bytes-key_bytes.result c.key_bytes-key_bytes.ensures.key in
    subst (λ k. (bs : List ℕ) × IsRead c.args.machine.now.stack c.args.maps.now c.args.argument.now c.at-key_base.result k bs) (sym room.count)
    (subst (λ b. (bs : List ℕ) × IsRead c.args.machine.now.stack c.args.maps.now c.args.argument.now b c.key_bytes-key_bytes.result bs) (sym c.at-key_base.ensures.base)
    (update_key_told c.args.next.now c.args.machine.now c.args.maps.now c.args.argument.now s c.from-m.result c.key_bytes-key_bytes.result c.value_bytes-value_bytes.result c.shape-shape.result (same_map (pos 2) c.args.next.now c.args.machine.now c.args.maps.now c.args.argument.now s c.from-m.result c.from-m.ensures) c.shape-shape.ensures.shape c.key_bytes-key_bytes.ensures.key c.value_bytes-value_bytes.ensures.value))

pub update-requires-clause-key : goal.update-requires-clause-key
update-requires-clause-key c =
    let s = c.requires.told in
    let room = key_room c.args.maps.now s.signature c.from-m.result c.shape-shape.result s.limits s.shapes c.shape-shape.ensures.shape c.key_bytes-key_bytes.result c.key_bytes-key_bytes.ensures.key in
    subst (λ o. IfSome o (λ shape. length c.fetch.new.room ≡ key_size shape)) (sym c.shape-shape.ensures.shape) (c.fetch.ensures.count ∙ room.count ∙ c.key_bytes-key_bytes.ensures.key)

pub fetch_value-requires-clause-some : goal.fetch_value-requires-clause-some
fetch_value-requires-clause-some c =
    let s = c.requires.told in
    let ok = shape_ok c.args.maps.now s.signature c.from-m.result c.shape-shape.result s.limits s.shapes c.shape-shape.ensures.shape in
    let is = c.value_bytes-value_bytes.ensures.value in
    omega (arith, ok.value.0, is)

pub fetch_value-requires-clause-few : goal.fetch_value-requires-clause-few
fetch_value-requires-clause-few c =
    let s = c.requires.told in
    let ok = shape_ok c.args.maps.now s.signature c.from-m.result c.shape-shape.result s.limits s.shapes c.shape-shape.ensures.shape in
    let is = c.value_bytes-value_bytes.ensures.value in
    omega (arith, ok.value.1, is)

pub shared_ref_as_front-update : goal.shared_ref_as_front-update
shared_ref_as_front-update c =
    let s = c.requires.told in
    let ok = shape_ok c.args.maps.now s.signature c.from-m.result c.shape-shape.result s.limits s.shapes c.shape-shape.ensures.shape in
    let is = c.value_bytes-value_bytes.ensures.value in
    omega (arith, ok.value.1, is)

pub fetch_value-requires-clause-limits : goal.fetch_value-requires-clause-limits
fetch_value-requires-clause-limits c =
    subst AreShapesSupported c.requires.told.shapes c.requires.told.limits

pub fetch_value-requires-clause-told : goal.fetch_value-requires-clause-told
fetch_value-requires-clause-told c =
    let s = c.requires.told in
    (subst (λ b. (bs : List ℕ) × IsRead c.args.machine.now.stack c.args.maps.now c.args.argument.now b c.value_bytes-value_bytes.result bs) (sym c.at-value_base.ensures.base)
    (update_value_told c.args.next.now c.args.machine.now c.args.maps.now c.args.argument.now s c.from-m.result c.key_bytes-key_bytes.result c.value_bytes-value_bytes.result c.shape-shape.result (same_map (pos 2) c.args.next.now c.args.machine.now c.args.maps.now c.args.argument.now s c.from-m.result c.from-m.ensures) c.shape-shape.ensures.shape c.key_bytes-key_bytes.ensures.key c.value_bytes-value_bytes.ensures.value))

pub update-requires-clause-map : goal.update-requires-clause-map
update-requires-clause-map c =
    slice_get_within _ c.from-m.result c.shape-shape.result c.shape-shape.ensures.shape

pub returns : goal.returns
returns c =
    let s = c.requires.told in
    let key = key_room c.args.maps.now s.signature c.from-m.result c.shape-shape.result s.limits s.shapes c.shape-shape.ensures.shape c.key_bytes-key_bytes.result c.key_bytes-key_bytes.ensures.key in
    let room = take c.value_bytes-value_bytes.result c.fetch_value.new.machine.value in
    record {
      executes = λ s.
          same_leads _ _ _ (with_word c.args.machine.now 0 c.update.result) _ _ _ (ap (λ ws. slice_set ws 0 c.update.result) c.fetch_value.ensures.words) c.fetch_value.ensures.stack (updated_leads c.args.next.now c.args.machine.now c.args.maps.now c.args.argument.now s c.from-m.result c.key_bytes-key_bytes.result c.value_bytes-value_bytes.result c.shape-shape.result (same_map (pos 2) c.args.next.now c.args.machine.now c.args.maps.now c.args.argument.now s c.from-m.result c.from-m.ensures) c.shape-shape.ensures.shape c.key_bytes-key_bytes.ensures.key c.value_bytes-value_bytes.ensures.value
          c.fetch.new.room room c.update.new.maps c.update.result (λ bs told. c.fetch.ensures.copied bs (subst (λ k. IsRead c.args.machine.now.stack c.args.maps.now c.args.argument.now c.at-key_base.result k bs) (sym key.count) (subst (λ b. IsRead c.args.machine.now.stack c.args.maps.now c.args.argument.now b c.key_bytes-key_bytes.result bs) (sym c.at-key_base.ensures.base) told))) (λ bs told. c.fetch_value.ensures.copied bs (subst (λ b. IsRead c.args.machine.now.stack c.args.maps.now c.args.argument.now b c.value_bytes-value_bytes.result bs) (sym c.at-value_base.ensures.base) told)) c.update.ensures.answers
          (record { maps = c.update.ensures.others; shapes = c.update.ensures.shapes }));
    }
