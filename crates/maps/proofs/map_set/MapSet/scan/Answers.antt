use Rattle.std.proofs.Common.{◌≡◌, ◌<◌, ◌≤◌, Some, sym, subst, length, ◌∙◌, arith}
use Rattle.maps.specs.Shapes.{entry_count}
use Rattle.maps.specs.Maps.{MapState}
use Rattle.std.specs.Prelude.{IfSome}
use Rattle.maps.specs.MapSets.{Stored, map_of}
use Rattle.maps.specs.Blocks.{stored}
use Rattle.maps.specs.Scans.{IsPage, Scans, given, room_in}
use Rattle.maps.proofs.Stored.{within, is_at, for_shape, map_at}
use Rattle.maps.proofs.EntriesAt.{given_long, scans}
use Rattle.maps.proofs.Pages.{is_page}
use Rattle.maps.proofs.map_set.MapSet.scan.Goals as goal

pub room_in-room-requires : goal.room_in-room-requires
room_in-room-requires c =
    record { shape = (is_at c.self.inside.tables.items c.args.self.now c.args.m c.index-table.result.now c.self.view_is c.self.invariant (within c.args.self.now c.args.m c.requires.map) c.index-table.ensures).ok }

pub scan_end-end-requires : goal.scan_end-end-requires
scan_end-end-requires c =
    record { shape = (is_at c.self.inside.tables.items c.args.self.now c.args.m c.index-table.result.now c.self.view_is c.self.invariant (within c.args.self.now c.args.m c.requires.map) c.index-table.ensures).ok }

pub scan-count-requires-clause-shape : goal.scan-count-requires-clause-shape
scan-count-requires-clause-shape c =
    (is_at c.self.inside.tables.items c.args.self.now c.args.m c.index-table.result.now c.self.view_is c.self.invariant (within c.args.self.now c.args.m c.requires.map) c.index-table.ensures).ok

pub scan-count-requires-clause-from : goal.scan-count-requires-clause-from
scan-count-requires-clause-from c =
    let t = c.index-table.result.now in
    let at = is_at c.self.inside.tables.items c.args.self.now c.args.m c.index-table.result.now c.self.view_is c.self.invariant (within c.args.self.now c.args.m c.requires.map) c.index-table.ensures in
    let low : c.args.from < entry_count t.shape = for_shape (λ s. c.args.from < entry_count s) c.args.self.now c.args.m (stored t) at.there c.requires.place in
    let end = c.scan_end-end.ensures.end in
    omega (arith, low, end)

pub returns-clause-page : goal.returns-clause-page
returns-clause-page c =
    let t = c.index-table.result.now in
    let at = is_at c.self.inside.tables.items c.args.self.now c.args.m t c.self.view_is c.self.invariant (within c.args.self.now c.args.m c.requires.map) c.index-table.ensures in
    let keys = c.scan-count.new.keys in
    let values = c.scan-count.new.values in
    let count = c.scan-count.result.0 in
    let place = c.scan-count.result.1 in
    let next = c.next_place-next.result in
    let ended = c.scan-count.ensures.place in
    let last = c.scan_end-end.ensures.end in
    let far : place ≤ entry_count t.shape = omega (arith, ended.1, last) in
    let page = is_page t c.args.from place (given t.shape count keys values) next at.ok at.table (ended.0, far) c.scan-count.ensures.given (record { on = c.next_place-next.ensures.on; done = c.next_place-next.ensures.done }) in
    subst (λ o. IfSome o (λ (y : Stored). IsPage y c.args.from (given y.shape count keys values) next)) (sym at.there) page

pub returns-clause-scanned : goal.returns-clause-scanned
returns-clause-scanned c =
    let t = c.index-table.result.now in
    let s = stored t in
    let at = is_at c.self.inside.tables.items c.args.self.now c.args.m t c.self.view_is c.self.invariant (within c.args.self.now c.args.m c.requires.map) c.index-table.ensures in
    let low : c.args.from < entry_count t.shape = for_shape (λ s. c.args.from < entry_count s) c.args.self.now c.args.m s at.there c.requires.place in
    let keys = c.scan-count.new.keys in
    let values = c.scan-count.new.values in
    let count = c.scan-count.result.0 in
    let next = c.next_place-next.result in
    let told =
    scans t c.args.from c.room_in-room.result c.scan_end-end.result count c.scan-count.result.1 (given t.shape count keys values) next
    (record { ok = at.ok; table = at.table; began = low; told = c.scan-count.ensures.given; many = given_long t.shape count keys values; few = c.scan-count.ensures.room; ended = c.scan-count.ensures.place; stop = c.scan-count.ensures.stop; last = c.scan_end-end.ensures.end })
    (record { on = c.next_place-next.ensures.on; done = c.next_place-next.ensures.done }) in
    λ x is.
    let same : map_of s ≡ x = (let both : Some (map_of s) ≡ Some x = sym (map_at c.args.self.now c.args.m s at.there) ∙ is in cc) in
    subst (λ (y : MapState). Scans y c.args.from (room_in y.shape (length c.args.keys.now) (length c.args.values.now)) (given y.shape count keys values) next) same
    (subst (λ r. Scans (map_of s) c.args.from r (given t.shape count keys values) next) c.room_in-room.ensures.room told)
