use Rattle.std.proofs.Common.{◌≡◌, ◌∙◌, ◌<◌, length, refl, sym, ap, subst}
use Rattle.std.specs.Prelude.{slice_get, slice_set, is_some, IfSome, IfNone, IsNone}
use Rattle.maps.specs.Shapes.{key_size, entry_count}
use Rattle.maps.specs.Maps.{AreBytes, HasShapes, value_at}
use Rattle.maps.specs.MapSets.{maps_of, stored_shapes, IsFull}
use Rattle.maps.specs.Blocks.{stored, contents}
use Rattle.maps.proofs.Stored.{table_at, for_shape, of_shape, below, missing}
use Rattle.maps.proofs.Written.{kept_shapes, tables_kept, others_kept, view_exchanged}
use Rattle.maps.proofs.TableKeys.{IsClaimed}
use Rattle.maps.proofs.Exchanged.{exchanged, within_tables, entry_stands, puts_written, exchanged_same, was_found, has_room, is_full}
use Rattle.maps.proofs.Kept.{are_bytes, fits_room, put_has_shapes, there_now}
use Rattle.maps.proofs.map_set.MapSet.insert.Goals as goal

pub claim-requires-clause-shape : goal.claim-requires-clause-shape
claim-requires-clause-shape c =
    (table_at c.self.inside.tables.items c.args.self.now c.args.m c.index_mut-table.result.now c.self.view_is c.self.invariant c.requires.map c.index_mut-table.ensures.value).ok

pub claim-requires-clause-key : goal.claim-requires-clause-key
claim-requires-clause-key c =
    let ts = c.self.inside.tables.items in let t = c.index_mut-table.result.now in
    let before = c.args.self.now in let m = c.args.m in
    let e = c.index_mut-table.ensures.value in
    let at = table_at ts before m t c.self.view_is c.self.invariant c.requires.map e in
    for_shape (λ s. length c.args.key.now ≡ key_size s) before m (stored t) at.there c.requires.key

pub invariant_of-self : goal.invariant_of-self
invariant_of-self c =
    tables_kept c.self.inside.tables.items c.args.m c.index_mut-table.result.now c.claim.new.self c.self.invariant c.index_mut-table.ensures.value c.claim.ensures.shape c.claim.ensures.table

pub invariant_of-self-2 : goal.invariant_of-self-2
invariant_of-self-2 c =
    tables_kept c.self.inside.tables.items c.args.m c.index_mut-table.result.now c.claim.new.self c.self.invariant c.index_mut-table.ensures.value c.claim.ensures.shape c.claim.ensures.table

pub returns-in_err-claimed-clause-absent : goal.returns-in_err-claimed-clause-absent
returns-in_err-claimed-clause-absent c =
    let ts = c.self.inside.tables.items in let t = c.index_mut-table.result.now in
    let before = c.args.self.now in let m = c.args.m in let key = c.args.key.now in
    let e = c.index_mut-table.ensures.value in
    let at = table_at ts before m t c.self.view_is c.self.invariant c.requires.map e in
    subst (λ o. IfNone o (IsNone (value_at (maps_of before) m key))) (sym c.from_residual.ensures) (ap is_some (missing before m t key at c.in_err-claimed.ensures.absent))

pub returns-in_err-claimed-clause-full : goal.returns-in_err-claimed-clause-full
returns-in_err-claimed-clause-full c =
    let ts = c.self.inside.tables.items in let t = c.index_mut-table.result.now in
    let before = c.args.self.now in let m = c.args.m in
    let e = c.index_mut-table.ensures.value in
    let at = table_at ts before m t c.self.view_is c.self.invariant c.requires.map e in
    subst (λ o. IfNone o (IfSome (slice_get (maps_of before) m) IsFull)) (sym c.from_residual.ensures) (is_full before m t at c.in_err-claimed.ensures.full)

pub returns-in_err-claimed-clause-unchanged : goal.returns-in_err-claimed-clause-unchanged
returns-in_err-claimed-clause-unchanged c =
    let ts = c.self.inside.tables.items in let t = c.index_mut-table.result.now in let u = c.claim.new.self in
    let before = c.args.self.now in let m = c.args.m in
    let e = c.index_mut-table.ensures.value in
    let x = exchanged ts before m t u c.self.view_is c.self.invariant c.requires.map e in
    let h = c.in_err-claimed.ensures in
    subst (λ o. IfNone o (contents (slice_set ts m u) ≡ before)) (sym c.from_residual.ensures) (exchanged_same ts before m t u x h.shape h.block h.unchanged)

pub returns-in_err-claimed-clause-others : goal.returns-in_err-claimed-clause-others
returns-in_err-claimed-clause-others c =
    let ts = c.self.inside.tables.items in let t = c.index_mut-table.result.now in let u = c.claim.new.self in
    let before = c.args.self.now in let m = c.args.m in
    let e = c.index_mut-table.ensures.value in
    let x = exchanged ts before m t u c.self.view_is c.self.invariant c.requires.map e in
    λ n ne. ap (λ y. slice_get y n) (view_exchanged ts before m t u c.self.view_is (within_tables ts before m t u x) e) ∙ others_kept _ before m n ne

pub returns-in_err-claimed-clause-shapes : goal.returns-in_err-claimed-clause-shapes
returns-in_err-claimed-clause-shapes c =
    kept_shapes c.self.inside.tables.items c.args.m c.index_mut-table.result.now c.claim.new.self c.index_mut-table.ensures.value c.claim.ensures.shape ∙ ap stored_shapes c.self.view_is

pub returns-clause-entry : goal.returns-clause-entry
returns-clause-entry c =
    let ts = c.self.inside.tables.items in let t = c.index_mut-table.result.now in let u = c.claim.new.self in
    let before = c.args.self.now in let m = c.args.m in let key = c.args.key.now in
    let e = c.index_mut-table.ensures.value in
    let x = exchanged ts before m t u c.self.view_is c.self.invariant c.requires.map e in
    let h = c.in_ok-claimed.ensures in
    let is : IsClaimed t u key c.in_ok-claimed.claimed.place = record { shape = h.shape; block = h.block; table = h.table; claimed = h.claimed } in
    (refl, entry_stands ts before m t u key c.in_ok-claimed.claimed.place x is)

pub returns-clause-place : goal.returns-clause-place
returns-clause-place c =
    let ts = c.self.inside.tables.items in let t = c.index_mut-table.result.now in let u = c.claim.new.self in
    let before = c.args.self.now in let m = c.args.m in
    let e = c.index_mut-table.ensures.value in
    let at = table_at ts before m t c.self.view_is c.self.invariant c.requires.map e in
    let h = c.in_ok-claimed.ensures in
    let low = below u.shape u.index c.in_ok-claimed.claimed.place c.args.key.now h.table.index h.claimed.stands in
    of_shape (λ s. c.in_ok-claimed.claimed.place < entry_count s) before m (stored t) at.there (subst (λ s. c.in_ok-claimed.claimed.place < entry_count s) h.shape low)

pub returns-clause-written : goal.returns-clause-written
returns-clause-written c =
    let ts = c.self.inside.tables.items in let t = c.index_mut-table.result.now in let u = c.claim.new.self in
    let before = c.args.self.now in let m = c.args.m in let key = c.args.key.now in
    let e = c.index_mut-table.ensures.value in
    let x = exchanged ts before m t u c.self.view_is c.self.invariant c.requires.map e in
    let h = c.in_ok-claimed.ensures in
    let is : IsClaimed t u key c.in_ok-claimed.claimed.place = record { shape = h.shape; block = h.block; table = h.table; claimed = h.claimed } in
    puts_written ts before m t u key (record { map = m; place = c.in_ok-claimed.claimed.place }) x is refl

pub returns-clause-found : goal.returns-clause-found
returns-clause-found c =
    let ts = c.self.inside.tables.items in let t = c.index_mut-table.result.now in
    let before = c.args.self.now in let m = c.args.m in let key = c.args.key.now in
    let e = c.index_mut-table.ensures.value in
    let at = table_at ts before m t c.self.view_is c.self.invariant c.requires.map e in
    was_found before m c.in_ok-claimed.claimed.place t key c.in_ok-claimed.claimed.is_new at c.in_ok-claimed.ensures.found c.in_ok-claimed.ensures.new

pub returns-clause-kept : goal.returns-clause-kept
returns-clause-kept c =
    let ts = c.self.inside.tables.items in let t = c.index_mut-table.result.now in let u = c.claim.new.self in
    let before = c.args.self.now in let m = c.args.m in
    let e = c.index_mut-table.ensures.value in
    let x = exchanged ts before m t u c.self.view_is c.self.invariant c.requires.map e in
    let h = c.in_ok-claimed.ensures in λ old. exchanged_same ts before m t u x h.shape h.block (h.kept old)

pub returns-clause-others : goal.returns-clause-others
returns-clause-others c =
    let ts = c.self.inside.tables.items in let t = c.index_mut-table.result.now in let u = c.claim.new.self in
    let before = c.args.self.now in let m = c.args.m in
    let e = c.index_mut-table.ensures.value in
    let x = exchanged ts before m t u c.self.view_is c.self.invariant c.requires.map e in
    λ n ne. ap (λ y. slice_get y n) (view_exchanged ts before m t u c.self.view_is (within_tables ts before m t u x) e) ∙ others_kept _ before m n ne

pub returns-clause-shapes : goal.returns-clause-shapes
returns-clause-shapes c =
    kept_shapes c.self.inside.tables.items c.args.m c.index_mut-table.result.now c.claim.new.self c.index_mut-table.ensures.value c.claim.ensures.shape ∙ ap stored_shapes c.self.view_is

pub returns-clause-room : goal.returns-clause-room
returns-clause-room c =
    let ts = c.self.inside.tables.items in let t = c.index_mut-table.result.now in
    let before = c.args.self.now in let m = c.args.m in let key = c.args.key.now in
    let e = c.index_mut-table.ensures.value in
    let at = table_at ts before m t c.self.view_is c.self.invariant c.requires.map e in
    has_room before m c.in_ok-claimed.claimed.place t key c.in_ok-claimed.claimed.is_new at c.in_ok-claimed.ensures.found c.in_ok-claimed.ensures.room

pub returns-in_err-claimed-clause-maps : goal.returns-in_err-claimed-clause-maps
returns-in_err-claimed-clause-maps c = λ shapes has.
    let ts = c.self.inside.tables.items in let t = c.index_mut-table.result.now in let u = c.claim.new.self in
    let before = c.args.self.now in let m = c.args.m in
    let e = c.index_mut-table.ensures.value in
    let x = exchanged ts before m t u c.self.view_is c.self.invariant c.requires.map e in
    let h = c.in_err-claimed.ensures in
    subst (λ y. HasShapes shapes (maps_of y)) (sym (exchanged_same ts before m t u x h.shape h.block h.unchanged)) has

pub returns-clause-maps : goal.returns-clause-maps
returns-clause-maps c = λ shapes has.
    let ts = c.self.inside.tables.items in let t = c.index_mut-table.result.now in let u = c.claim.new.self in
    let before = c.args.self.now in let m = c.args.m in let key = c.args.key.now in
    let e = c.index_mut-table.ensures.value in
    let at = table_at ts before m t c.self.view_is c.self.invariant c.requires.map e in
    let x = exchanged ts before m t u c.self.view_is c.self.invariant c.requires.map e in
    let h = c.in_ok-claimed.ensures in
    let place = c.in_ok-claimed.claimed.place in
    let is : IsClaimed t u key place = record { shape = h.shape; block = h.block; table = h.table; claimed = h.claimed } in
    let stands = there_now ts before m t u key (record { map = m; place = place }) x is refl in
    let bytes : AreBytes u.block.items = subst AreBytes c.bytes-bytes.ensures.bytes c.bytes-bytes.ensures.are_bytes in
    let room = has_room before m place t key c.in_ok-claimed.claimed.is_new at h.found h.room in
    let fits = fits_room before m key stands.0 room (are_bytes key c.type_inv.key) (stands.2 bytes) c.requires.key stands.3 in
    subst (HasShapes shapes) (sym stands.1) (put_has_shapes (maps_of before) m key stands.0 fits shapes has)
