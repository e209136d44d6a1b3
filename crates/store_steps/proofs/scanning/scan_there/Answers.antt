use Rattle.std.proofs.Common.{◌<◌, length, ap, sym, subst, ◌∙◌}
use Rattle.std.specs.Prelude.{IfSome, slice_get}
use Rattle.maps.specs.Maps.{shapes_of}
use Rattle.maps.specs.Shapes.{entry_count}
use Rattle.maps.specs.MapSets.{Stored, map_of}
use Rattle.maps.specs.Scans.{IsPage, given}
use Rattle.maps.proofs.Export.{stored_there, stored_are}
use Rattle.store_steps.proofs.scanning.scan_there.Goals as goal

pub scan-scanned-requires-clause-place : goal.scan-scanned-requires-clause-place
scan-scanned-requires-clause-place c =
    let m = c.maps-maps.result.now in
    let same = stored_are m ∙ ap shapes_of c.maps-maps.ensures.maps in
    subst (λ z. IfSome (slice_get z c.args.begin.map) (λ s. c.args.begin.from < entry_count s)) (sym same) c.requires.place.1

pub returns-clause-gives : goal.returns-clause-gives
returns-clause-gives c =
    let m = c.maps-maps.result.now in
    let map = c.args.begin.map in
    let scanned = c.scan-scanned.result in
    let same = stored_are m ∙ ap shapes_of c.maps-maps.ensures.maps in
    let there = stored_there m map (subst (λ z. map < length z) (sym same) c.requires.place.0) in
    let page = subst (λ o. IfSome o (λ (s : Stored). IsPage s c.args.begin.from (given s.shape scanned.count c.scan-scanned.new.keys c.scan-scanned.new.values) scanned.next)) there.1 c.scan-scanned.ensures.page in
    (there.0, ap (λ z. slice_get z map) (sym c.maps-maps.ensures.maps) ∙ there.2, c.scan-scanned.ensures.scanned (map_of there.0) there.2, page)
