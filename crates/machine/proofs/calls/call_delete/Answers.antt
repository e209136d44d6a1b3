use Rattle.std.proofs.Common.{pos, ◌≡◌, ℕ, ◌<◌, List, length, sym, subst, ◌∙◌}
use Rattle.std.specs.Prelude.{IfSome}
use Rattle.std.proofs.lemmas.Option.{slice_get_within}
use Rattle.maps.specs.Shapes.{AreShapesSupported, key_size}
use Rattle.machine.specs.Accesses.{IsRead}
use Rattle.machine.proofs.Looking.{same_map}
use Rattle.machine.proofs.Altering.{key_room, delete_key_told, deleted_leads}
use Rattle.machine.proofs.calls.call_delete.Goals as goal

pub slice_bounds-key_room-end : goal.slice_bounds-key_room-end
slice_bounds-key_room-end c =
    let s = c.requires.told in
    let room = key_room c.args.maps.now s.signature c.from-m.result c.shape.result s.limits s.shapes c.shape.ensures.shape c.key_bytes-key_bytes.result c.key_bytes-key_bytes.ensures.key in
    room.few

pub slice_bounds-key-end : goal.slice_bounds-key-end
slice_bounds-key-end c =
    let s = c.requires.told in
    let room = key_room c.args.maps.now s.signature c.from-m.result c.shape.result s.limits s.shapes c.shape.ensures.shape c.key_bytes-key_bytes.result c.key_bytes-key_bytes.ensures.key in
    sym room.count

pub fetch-requires-clause-some : goal.fetch-requires-clause-some
fetch-requires-clause-some c =
    let s = c.requires.told in
    let room = key_room c.args.maps.now s.signature c.from-m.result c.shape.result s.limits s.shapes c.shape.ensures.shape c.key_bytes-key_bytes.result c.key_bytes-key_bytes.ensures.key in
    subst (λ k. 0 < k) (sym room.count) room.some

pub fetch-requires-clause-told : goal.fetch-requires-clause-told
fetch-requires-clause-told c =
    let s = c.requires.told in
    let room = key_room c.args.maps.now s.signature c.from-m.result c.shape.result s.limits s.shapes c.shape.ensures.shape c.key_bytes-key_bytes.result c.key_bytes-key_bytes.ensures.key in
    subst (λ k. (bs : List ℕ) × IsRead c.args.machine.now.stack c.args.maps.now c.args.argument.now c.at-key_base.result k bs) (sym room.count)
    (subst (λ b. (bs : List ℕ) × IsRead c.args.machine.now.stack c.args.maps.now c.args.argument.now b c.key_bytes-key_bytes.result bs) (sym c.at-key_base.ensures.base)
    (delete_key_told c.args.next.now c.args.machine.now c.args.maps.now c.args.argument.now s c.from-m.result c.key_bytes-key_bytes.result c.shape.result (same_map (pos 3) c.args.next.now c.args.machine.now c.args.maps.now c.args.argument.now s c.from-m.result c.from-m.ensures) c.shape.ensures.shape c.key_bytes-key_bytes.ensures.key))

pub fetch-requires-clause-limits : goal.fetch-requires-clause-limits
fetch-requires-clause-limits c =
    subst AreShapesSupported c.requires.told.shapes c.requires.told.limits

pub delete-requires-clause-key : goal.delete-requires-clause-key
delete-requires-clause-key c =
    let s = c.requires.told in
    let room = key_room c.args.maps.now s.signature c.from-m.result c.shape.result s.limits s.shapes c.shape.ensures.shape c.key_bytes-key_bytes.result c.key_bytes-key_bytes.ensures.key in
    subst (λ o. IfSome o (λ shape. length c.fetch.new.room ≡ key_size shape)) (sym c.shape.ensures.shape) (c.fetch.ensures.count ∙ room.count ∙ c.key_bytes-key_bytes.ensures.key)

pub delete-requires-clause-map : goal.delete-requires-clause-map
delete-requires-clause-map c =
    slice_get_within _ c.from-m.result c.shape.result c.shape.ensures.shape

pub returns : goal.returns
returns c =
    let s = c.requires.told in
    let key = key_room c.args.maps.now s.signature c.from-m.result c.shape.result s.limits s.shapes c.shape.ensures.shape c.key_bytes-key_bytes.result c.key_bytes-key_bytes.ensures.key in
    record {
      executes = λ s.
          deleted_leads c.args.next.now c.args.machine.now c.args.maps.now c.args.argument.now s c.from-m.result c.key_bytes-key_bytes.result c.shape.result (same_map (pos 3) c.args.next.now c.args.machine.now c.args.maps.now c.args.argument.now s c.from-m.result c.from-m.ensures) c.shape.ensures.shape c.key_bytes-key_bytes.ensures.key
          c.fetch.new.room c.delete.new.maps c.delete.result (λ bs told. c.fetch.ensures.copied bs (subst (λ k. IsRead c.args.machine.now.stack c.args.maps.now c.args.argument.now c.at-key_base.result k bs) (sym key.count) (subst (λ b. IsRead c.args.machine.now.stack c.args.maps.now c.args.argument.now b c.key_bytes-key_bytes.result bs) (sym c.at-key_base.ensures.base) told))) c.delete.ensures.answers
          (record { maps = c.delete.ensures.others; shapes = c.delete.ensures.shapes });
    }
