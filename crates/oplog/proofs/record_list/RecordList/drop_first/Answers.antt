use Rattle.std.proofs.Common.{rules, ◌≡◌, ℕ, ◌-◌, ◌≤◌, List, length, take, drop, sym, ap, ◌∙◌, subst, arith}
use Rattle.std.proofs.lemmas.List.{drop-map}
use Rattle.std.specs.List.{copy_within}
use Rattle.oplog.specs.declared.rows.Row.{Row}
use Rattle.oplog.specs.Lists.{RecordListView}
use Rattle.oplog.specs.Laid.{record_in, records_in, each_of, begin_of, AreLaid}
use Rattle.oplog.proofs.Laying.{laid_behind, begins_within}
use Rattle.oplog.proofs.Pushing.{few_in_all, new_view, within_kept}
use Rattle.oplog.proofs.Rooms.{moved_to_front}
use Rattle.oplog.proofs.record_list.RecordList.drop_first.Goals as goal

-- the rows that are left stand in front
left : (rows moved : List Row) (i j : ℕ) → i ≤ j → j ≤ length rows → moved ≡ copy_within rows i j 0 → take (j - i) moved ≡ drop i (take j rows)
left rows moved i j le within is = ap (take (j - i)) is ∙ moved_to_front rows i j le within

view_left : (rows : List Row) (beside : List ℕ) (count room long n : ℕ) (v : RecordListView) → new_view rows beside count room long ≡ v → records_in beside (drop n (take count rows)) ≡ drop n v.records
view_left rows beside count room long n v is = sym (drop-map (record_in beside) n (take count rows)) ∙ ap (λ x. drop n x.records) is

pub close_gap-requires-clause-laid : goal.close_gap-requires-clause-laid
close_gap-requires-clause-laid c =
    let k = c.self.inside in
    let is = c.self.invariant in
    let up : c.args.count ≤ k.count = within_kept k.filled.items k.beside.items k.count k.room k.long c.args.count c.args.self.now c.self.view_is is.0 c.requires.within in
    let here : take (k.count - c.args.count) c.copy_within.new.self.items ≡ drop c.args.count (take k.count k.filled.items) = left k.filled.items c.copy_within.new.self.items c.args.count k.count up is.0 c.copy_within.ensures.items in
    (each_of k.long, subst (λ rs. AreLaid (each_of k.long) rs (length k.beside.items)) (sym here) (laid_behind (each_of k.long) c.args.count (take k.count k.filled.items) (length k.beside.items) is.2))

pub close_gap-requires-clause-few : goal.close_gap-requires-clause-few
close_gap-requires-clause-few c =
    let k = c.self.inside in
    let is = c.self.invariant in
    few_in_all k.filled.items k.beside.items k.count k.long k.room (is.0, is.2, is.3) is.7 is.5

pub invariant_of-self : goal.invariant_of-self
invariant_of-self c =
    let k = c.self.inside in
    let is = c.self.invariant in
    let n : ℕ = k.count - c.args.count in
    let up : c.args.count ≤ k.count = within_kept k.filled.items k.beside.items k.count k.room k.long c.args.count c.args.self.now c.self.view_is is.0 c.requires.within in
    let here : take n c.copy_within.new.self.items ≡ drop c.args.count (take k.count k.filled.items) = left k.filled.items c.copy_within.new.self.items c.args.count k.count up is.0 c.copy_within.ensures.items in
    let laid : AreLaid (each_of k.long) (take n c.copy_within.new.self.items) (length k.beside.items) =
    subst (λ rs. AreLaid (each_of k.long) rs (length k.beside.items)) (sym here) (laid_behind (each_of k.long) c.args.count (take k.count k.filled.items) (length k.beside.items) is.2) in
    let most = is.7 in
    let all : length c.copy_within.new.self.items ≡ length k.filled.items = search rules in
    let rows = c.close_gap.ensures.same in
    let some = is.0 in
    let enough : n ≤ length c.close_gap.new.filled.items = omega (arith, all, rows, some) in
    let full = c.close_gap.ensures.room in
    let full2 = c.copy_within.ensures.capacity in
    let has = is.1 in
    let room : k.room ≤ c.close_gap.new.filled.cap = omega (arith, full, full2, has) in
    let cap = c.close_gap.ensures.capacity in
    let bytes = is.4 in (
      enough,
      room,
      c.close_gap.ensures.laid (each_of k.long) laid,
      c.close_gap.ensures.begin,
      omega (arith, cap, bytes),
      is.5,
      is.6,
      omega (arith, most),
    )

pub invariant_of-self-else-len-gt0 : goal.invariant_of-self-else-len-gt0
invariant_of-self-else-len-gt0 c =
    let k = c.self.inside in
    let is = c.self.invariant in
    let n : ℕ = k.count - c.args.count in
    let up : c.args.count ≤ k.count = within_kept k.filled.items k.beside.items k.count k.room k.long c.args.count c.args.self.now c.self.view_is is.0 c.requires.within in
    let here : take n c.copy_within.new.self.items ≡ drop c.args.count (take k.count k.filled.items) = left k.filled.items c.copy_within.new.self.items c.args.count k.count up is.0 c.copy_within.ensures.items in
    let laid : AreLaid (each_of k.long) (drop c.args.count (take k.count k.filled.items)) (length k.beside.items) = laid_behind (each_of k.long) c.args.count (take k.count k.filled.items) (length k.beside.items) is.2 in
    let none : length k.beside.items ≡ 0 = search rules in
    let begins = begins_within (each_of k.long) (drop c.args.count (take k.count k.filled.items)) (length k.beside.items) laid in
    let most = is.7 in
    let enough : n ≤ length c.copy_within.new.self.items = search rules in
    let room : k.room ≤ c.copy_within.new.self.cap = search rules in (
      enough,
      room,
      subst (λ rs. AreLaid (each_of k.long) rs (length k.beside.items)) (sym here) laid,
      ap (λ rs. begin_of rs (length k.beside.items)) here ∙ omega (arith, begins, none),
      is.4,
      is.5,
      is.6,
      omega (arith, most),
    )

pub returns-then-len-gt0 : goal.returns-then-len-gt0
returns-then-len-gt0 c =
    let k = c.self.inside in
    let is = c.self.invariant in
    let n : ℕ = k.count - c.args.count in
    let up : c.args.count ≤ k.count = within_kept k.filled.items k.beside.items k.count k.room k.long c.args.count c.args.self.now c.self.view_is is.0 c.requires.within in
    let here : take n c.copy_within.new.self.items ≡ drop c.args.count (take k.count k.filled.items) = left k.filled.items c.copy_within.new.self.items c.args.count k.count up is.0 c.copy_within.ensures.items in
    let view : records_in c.close_gap.new.beside.items (take n c.close_gap.new.filled.items) ≡ drop c.args.count c.args.self.now.records =
    c.close_gap.ensures.records ∙ ap (records_in k.beside.items) here ∙ view_left k.filled.items k.beside.items k.count k.room k.long c.args.count c.args.self.now c.self.view_is in
    record { dropped = λ i. record { records = view i; room = (ap (λ v. v.room) c.self.view_is) i; long = (ap (λ v. v.long) c.self.view_is) i } }

pub returns-else-len-gt0 : goal.returns-else-len-gt0
returns-else-len-gt0 c =
    let k = c.self.inside in
    let is = c.self.invariant in
    let n : ℕ = k.count - c.args.count in
    let up : c.args.count ≤ k.count = within_kept k.filled.items k.beside.items k.count k.room k.long c.args.count c.args.self.now c.self.view_is is.0 c.requires.within in
    let here : take n c.copy_within.new.self.items ≡ drop c.args.count (take k.count k.filled.items) = left k.filled.items c.copy_within.new.self.items c.args.count k.count up is.0 c.copy_within.ensures.items in
    let view : records_in k.beside.items (take n c.copy_within.new.self.items) ≡ drop c.args.count c.args.self.now.records =
    ap (records_in k.beside.items) here ∙ view_left k.filled.items k.beside.items k.count k.room k.long c.args.count c.args.self.now c.self.view_is in
    record { dropped = λ i. record { records = view i; room = (ap (λ v. v.room) c.self.view_is) i; long = (ap (λ v. v.long) c.self.view_is) i } }
