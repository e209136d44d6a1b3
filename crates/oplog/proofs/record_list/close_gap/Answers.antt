use Rattle.std.proofs.Common.{rules, vec_len, ◌≡◌, ℕ, ◌-◌, ◌≤◌, List, length, take, drop, sym, ap, ap₂, ◌∙◌, subst, arith}
use Rattle.std.proofs.lemmas.List.{take_all, length-drop}
use Rattle.std.specs.List.{copy_within}
use Rattle.oplog.specs.declared.rows.Row.{Row}
use Rattle.oplog.specs.Laid.{records_in, begin_of, AreLaid}
use Rattle.oplog.proofs.Laying.{begins_within, rows_pulled, laid_pulled, begin_pulled}
use Rattle.oplog.proofs.Rooms.{moved_to_front}
use Rattle.oplog.proofs.record_list.close_gap.Goals as goal

-- the gap is within the bytes
gap_within : (rows : List Row) (end gap : ℕ) → ((long : ℕ) × AreLaid long rows end) → gap ≡ begin_of rows end → gap ≤ end
gap_within rows end gap laid is = let within = begins_within laid.0 rows end laid.1 in omega (arith, is, within)

-- what is left of the bytes
left_of : (beside moved left : List ℕ) (gap n : ℕ) → moved ≡ copy_within beside gap (length beside) 0 → left ≡ take n moved → gap ≤ length beside → n ≡ length beside - gap → left ≡ drop gap beside
left_of beside moved left gap n is cut le count =
    cut ∙ ap₂ take count is ∙ moved_to_front beside gap (length beside) le (omega arith) ∙ ap (drop gap) (take_all (length beside) beside (omega arith))

pub copy_within-requires-clause-start_le_end : goal.copy_within-requires-clause-start_le_end
copy_within-requires-clause-start_le_end c =
    let first : c.first_byte-gap.result ≡ begin_of (take c.args.count c.args.filled.now.items) (length c.args.beside.now.items) = search rules in
    let within = gap_within (take c.args.count c.args.filled.now.items) (length c.args.beside.now.items) c.first_byte-gap.result c.requires.laid first in
    let all : length c.args.beside.now.items ≡ vec_len c.args.beside.now = search rules in
    omega (arith, within, all)

pub overflow_sub-left : goal.overflow_sub-left
overflow_sub-left c =
    let all : length c.args.beside.now.items ≡ vec_len c.args.beside.now = search rules in
    let first : c.first_byte-gap.result ≡ begin_of (take c.args.count c.args.filled.now.items) (length c.args.beside.now.items) = search rules in
    let within = gap_within (take c.args.count c.args.filled.now.items) (length c.args.beside.now.items) c.first_byte-gap.result c.requires.laid first in
    let after = c.len-2.ensures in
    let same = c.copy_within.ensures.len in
    omega (arith, within, after, same, all)

-- the bytes after the gap, where it is known
closed : (c : goal.After-pull_all) → (c.first_byte-gap.result ≡ begin_of (take c.args.count c.args.filled.now.items) (length c.args.beside.now.items)) × (c.truncate.new.self.items ≡ drop c.first_byte-gap.result c.args.beside.now.items)
closed c =
    let beside : List ℕ = c.args.beside.now.items in
    let gap : ℕ = c.first_byte-gap.result in
    let all : length beside ≡ vec_len c.args.beside.now = search rules in
    let first : gap ≡ begin_of (take c.args.count c.args.filled.now.items) (length beside) = search rules in
    let within = gap_within (take c.args.count c.args.filled.now.items) (length beside) gap c.requires.laid first in
    let after = c.len-2.ensures in
    let same = c.copy_within.ensures.len in
    let moved : c.copy_within.new.self.items ≡ copy_within beside gap (length beside) 0 = c.copy_within.ensures.items ∙ ap (λ n. copy_within beside gap n 0) (sym all) in
    (first, left_of beside c.copy_within.new.self.items c.truncate.new.self.items gap _ moved c.truncate.ensures.items within (omega (arith, after, same, all)))

pub returns-clause-records : goal.returns-clause-records
returns-clause-records c =
    let rows : List Row = take c.args.count c.args.filled.now.items in
    let k = closed c in
    let first = k.0 in
    ap₂ records_in k.1 c.pull_all.ensures.pulled ∙ rows_pulled c.requires.laid.0 c.first_byte-gap.result c.args.beside.now.items rows (length c.args.beside.now.items) c.requires.laid.1 (omega (arith, first))

pub returns-clause-laid : goal.returns-clause-laid
returns-clause-laid c =
    let end : ℕ = length c.args.beside.now.items in
    let gap : ℕ = c.first_byte-gap.result in
    let k = closed c in
    let first = k.0 in
    let few : length c.truncate.new.self.items ≡ end - gap = ap length k.1 ∙ length-drop gap c.args.beside.now.items in
    λ long laid. subst (AreLaid long (take c.args.count c.pull_all.new.filled.items)) (sym few)
    (subst (λ rs. AreLaid long rs (end - gap)) (sym c.pull_all.ensures.pulled) (laid_pulled long gap (take c.args.count c.args.filled.now.items) end laid (omega (arith, first))))

pub returns-clause-begin : goal.returns-clause-begin
returns-clause-begin c =
    let rows : List Row = take c.args.count c.args.filled.now.items in
    let end : ℕ = length c.args.beside.now.items in
    let k = closed c in
    let first = k.0 in
    let few : length c.truncate.new.self.items ≡ end - c.first_byte-gap.result = ap length k.1 ∙ length-drop c.first_byte-gap.result c.args.beside.now.items in
    let none : begin_of rows end - c.first_byte-gap.result ≡ 0 = omega (arith, first) in
    ap₂ begin_of c.pull_all.ensures.pulled few ∙ begin_pulled c.first_byte-gap.result rows end ∙ none
