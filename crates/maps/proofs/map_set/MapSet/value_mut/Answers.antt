use Rattle.std.proofs.Common.{◌≡◌, ◌*◌, ◌<◌, length, Some, refl, sym, subst, ap, ◌∙◌, arith}
use Rattle.std.proofs.lemmas.List.{length-map}
use Rattle.std.proofs.lemmas.Option.{slice_get_within}
use Rattle.maps.specs.Shapes.{value_size}
use Rattle.maps.specs.Maps.{HasShapes}
use Rattle.maps.specs.MapSets.{Contents, maps_of}
use Rattle.maps.specs.Blocks.{stored}
use Rattle.maps.proofs.Kept.{fits_there, put_has_shapes}
use Rattle.maps.proofs.Stored.{size_is, bounds, present, value_is, standing}
use Rattle.maps.proofs.Written.{view_written, full_written, maps_written, keys_kept, shapes_kept}
use Rattle.maps.proofs.map_set.MapSet.value_mut.Goals as goal

pub overflow_mul-entry : goal.overflow_mul-entry
overflow_mul-entry c =
    let fits = bounds c.self.inside.tables.items c.args.self.now c.args.entry.map c.args.entry.place c.index_mut-table.result.now c.value_bytes-size.result c.self.view_is c.self.invariant c.requires.stands c.index_mut-table.ensures.value c.value_bytes-size.ensures.value in
    omega (arith, fits.1)

pub bytes_mut-requires : goal.bytes_mut-requires
bytes_mut-requires c =
    let fits = bounds c.self.inside.tables.items c.args.self.now c.args.entry.map c.args.entry.place c.index_mut-table.result.now c.value_bytes-size.result c.self.view_is c.self.invariant c.requires.stands c.index_mut-table.ensures.value c.value_bytes-size.ensures.value in
    let len = c.index_mut-table.result.now.block.ok.0 in
    omega (arith, fits.0, len)

pub invariant_of-self-lent : goal.invariant_of-self-lent
invariant_of-self-lent c w =
    full_written c.self.inside.tables.items c.args.self.now c.args.entry.map c.args.entry.place c.index_mut-table.result.now (c.args.entry.place * c.value_bytes-size.result) w c.self.view_is c.self.invariant c.requires.stands c.index_mut-table.ensures.value

pub returns : goal.returns
returns c =
    let is = value_is c.self.inside.tables.items c.args.self.now c.args.entry.map c.args.entry.place c.index_mut-table.result.now c.value_bytes-size.result c.self.view_is c.self.invariant c.requires.stands c.index_mut-table.ensures.value c.value_bytes-size.ensures.value in
    let ts = c.self.inside.tables.items in
    let t = c.index_mut-table.result.now in
    let size = c.value_bytes-size.result in
    let at = standing ts c.args.self.now c.args.entry.map c.args.entry.place t c.self.view_is c.self.invariant c.requires.stands c.index_mut-table.ensures.value in
    let within : c.args.entry.map < length ts = subst (λ n. c.args.entry.map < n) (length-map ts stored) (subst (λ (x : Contents). c.args.entry.map < length x) (sym c.self.view_is) (slice_get_within c.args.self.now c.args.entry.map (stored t) at.0.there)) in
    let many : length c.bytes_mut.result.now ≡ value_size t.shape = c.bytes_mut.ensures.size ∙ c.value_bytes-size.ensures.value in (
      (refl, λ w. view_written ts c.args.self.now c.args.entry t size w c.self.view_is within c.index_mut-table.ensures.value c.value_bytes-size.ensures.value),
      record {
        writes_back = tt;
        value = is ∙ ap Some (sym c.bytes_mut.ensures.value);
        size = size_is c.args.self.now c.args.entry.map (length c.bytes_mut.result.now) (stored t) at.0.there many;
        written = λ key w has same. maps_written ts c.args.self.now c.args.entry t key w c.self.view_is c.self.invariant c.index_mut-table.ensures.value has (same ∙ many);
        maps = λ shapes w has bytes same.
            let before = c.args.self.now in
            let m = c.args.entry.map in
            let key = at.1 in
            let full : length w ≡ value_size t.shape = same ∙ many in
            let fits = fits_there before m key _ w (present before m c.args.entry.place t key at.0 at.2) bytes (size_is before m (length w) (stored t) at.0.there full) in
            subst (HasShapes shapes) (sym (maps_written ts before c.args.entry t key w c.self.view_is c.self.invariant c.index_mut-table.ensures.value at.3 full)) (put_has_shapes (maps_of before) m key w fits shapes has);
        places = λ w other. keys_kept c.args.self.now c.args.entry w other;
        shapes = λ w. shapes_kept c.args.self.now c.args.entry w;
      },
    )
