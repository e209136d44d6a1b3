use Rattle.std.proofs.Common.{◌≡◌, ℕ, ◌+◌, ◌-◌, ◌*◌, ◌≤◌, List, length, take, drop, Some, sym, ap, ◌∙◌, subst, arith, length-take, length-drop}
use Rattle.maps.specs.Blocks.{stored}
use Rattle.maps.proofs.Stored.{size_is, standing, bounds, value_is}
use Rattle.maps.proofs.map_set.MapSet.value.Goals as goal

pub overflow_mul-start : goal.overflow_mul-start
overflow_mul-start c =
    let fits = bounds c.self.inside.tables.items c.args.self.now c.args.entry.map c.args.entry.place c.index-table.result.now c.value_bytes-size.result c.self.view_is c.self.invariant c.requires.stands c.index-table.ensures c.value_bytes-size.ensures.value in
    omega (arith, fits.1)

pub overflow_add-result : goal.overflow_add-result
overflow_add-result c =
    let fits = bounds c.self.inside.tables.items c.args.self.now c.args.entry.map c.args.entry.place c.index-table.result.now c.value_bytes-size.result c.self.view_is c.self.invariant c.requires.stands c.index-table.ensures c.value_bytes-size.ensures.value in
    omega (arith, fits.1)

pub slice_bounds-result-end : goal.slice_bounds-result-end
slice_bounds-result-end c =
    let fits = bounds c.self.inside.tables.items c.args.self.now c.args.entry.map c.args.entry.place c.index-table.result.now c.value_bytes-size.result c.self.view_is c.self.invariant c.requires.stands c.index-table.ensures c.value_bytes-size.ensures.value in
    let within : c.args.entry.place * c.value_bytes-size.result + c.value_bytes-size.result ≤ length c.deref.result.now = subst (λ (xs : List ℕ). c.args.entry.place * c.value_bytes-size.result + c.value_bytes-size.result ≤ length xs) (sym c.deref.ensures.value) fits.0 in
    omega (arith, within)

pub returns-clause-value : goal.returns-clause-value
returns-clause-value c =
    let is = value_is c.self.inside.tables.items c.args.self.now c.args.entry.map c.args.entry.place c.index-table.result.now c.value_bytes-size.result c.self.view_is c.self.invariant c.requires.stands c.index-table.ensures c.value_bytes-size.ensures.value in
    let size = c.value_bytes-size.result in
    let start = c.args.entry.place * size in
    is ∙ (ap (λ n. Some (take n (drop start c.index-table.result.now.block.items))) (omega arith) ∙ ap (λ xs. Some (take (start + size - start) (drop start xs))) (sym c.deref.ensures.value))

pub returns-clause-size : goal.returns-clause-size
returns-clause-size c =
    let fits = bounds c.self.inside.tables.items c.args.self.now c.args.entry.map c.args.entry.place c.index-table.result.now c.value_bytes-size.result c.self.view_is c.self.invariant c.requires.stands c.index-table.ensures c.value_bytes-size.ensures.value in
    let t = c.index-table.result.now in
    let size = c.value_bytes-size.result in
    let start = c.args.entry.place * size in
    let at = standing c.self.inside.tables.items c.args.self.now c.args.entry.map c.args.entry.place t c.self.view_is c.self.invariant c.requires.stands c.index-table.ensures in
    let long : length c.deref.result.now ≡ length t.block.items = ap length c.deref.ensures.value in
    let taken = length-take (start + size - start) (drop start c.deref.result.now) in
    let dropped = length-drop start c.deref.result.now in
    size_is c.args.self.now c.args.entry.map _ (stored t) at.0.there (let many : length (take (start + size - start) (drop start c.deref.result.now)) ≡ size = omega (arith, taken, dropped, long, fits.0) in many ∙ c.value_bytes-size.ensures.value)
