-- Rows next to bytes: what stays as bytes are put behind them, as rows are dropped, and as bytes are dropped in front.
use Rattle.std.proofs.Common.{◌⊎◌, inl, inr, ◌≡◌, ℕ, zero, suc, ◌+◌, ◌-◌, ◌*◌, ◌<◌, ◌≤◌, List, [], ◌∷◌, ◌++◌, length, take, drop, refl, sym, ap, ap₂, ◌∙◌, subst, arith}
use Rattle.std.specs.Prelude.{slice_get, slice_index_or, slice_set, nat_le, Bool, true, false, if◌then◌else◌, Some}
use Rattle.std.proofs.Math.Nat.{suc-mul}
use Rattle.std.proofs.lemmas.Option.{none-some, same_Some}
use Rattle.std.proofs.lemmas.List.{drop-append-le, take-append-le, length-drop, drop-drop, length-take, length-take-le, take-append-drop}
use Rattle.std.proofs.Math.Seq.{drop-append-add}
use Rattle.std.proofs.lemmas.Bool.{le-leb, leb-true, leb-false}
use Rattle.maps.specs.declared.shapes.TheConstants.{MAX_ARG_LEN, MOST_ARG_LEN}
use Rattle.oplog.specs.declared.long.LongHead.{LongHead}
use Rattle.oplog.specs.declared.long.LongHead.TheVariants.{Run, Install as InstallLong}
use Rattle.oplog.specs.declared.laid.LaidOp.{LaidOp}
use Rattle.oplog.specs.declared.laid.LaidOp.TheVariants.{Short, Long, Install}
use Rattle.oplog.specs.declared.records.TheConstants.{MAX_INSTALLED_BYTES}
use Rattle.oplog.specs.declared.records.Op.TheVariants.{Run as run, Install as install}
use Rattle.oplog.specs.declared.rows.Row.{Row}
use Rattle.oplog.specs.Operations.{Operation, long_part, FitsIn}
use Rattle.oplog.specs.History.{AllFit}
use Rattle.oplog.specs.Long.{LongView, text_in, long_op}
use Rattle.oplog.specs.Laid.{op_in, record_in, records_in, pulled, pulled_row, pulled_rows, each_of, begin_by, begin_of, IsWithin, IsNext, IsAfter, KeepsApart, EndsAt, AreWithin, AreLaid}

-- ---- bytes are put behind

text_before : (beside more : List ℕ) (c : LongView) → c.begin + c.len ≤ length beside → text_in (beside ++ more) c ≡ text_in beside c
text_before beside more c within =
    let rest = length-drop c.begin beside in
    ap (take c.len) (drop-append-le c.begin beside more (omega (arith, within))) ∙ take-append-le c.len (drop c.begin beside) more (omega (arith, within, rest))

pub op_before : (beside more : List ℕ) (op : LaidOp) → IsWithin (length beside) op → op_in (beside ++ more) op ≡ op_in beside op
op_before beside more (Short call) h = refl
op_before beside more (Long o) h = ap (long_op o.head) (text_before beside more o h.0)
op_before beside more (Install new) h = refl

pub rows_before : (beside more : List ℕ) (rows : List Row) → AreWithin (length beside) rows → records_in (beside ++ more) rows ≡ records_in beside rows
rows_before beside more [] h = refl
rows_before beside more (r ∷ rs) h =
    ap₂ (λ op rest. record { author = r.author; op = op; seq = r.seq } ∷ rest) (op_before beside more r.op h.0) (rows_before beside more rs h.1)

pub within_more : (m n : ℕ) (op : LaidOp) → m ≤ n → IsWithin m op → IsWithin n op
within_more m n (Short call) le h = h
within_more m n (Long o) le h = let fits = h.0 in (omega (arith, fits, le), h.1)
within_more m n (Install new) le h = h

-- ---- bytes are written from a place on

read_before : (xs text : List ℕ) (begin : ℕ) (c : LongView) → begin ≤ length xs → c.begin + c.len ≤ begin → text_in (take begin xs ++ text) c ≡ text_in xs c
read_before xs text begin c le apart =
    let kept : length (take begin xs) ≡ begin = length-take-le begin xs le in
    let first : text_in (take begin xs ++ text) c ≡ text_in (take begin xs) c = text_before (take begin xs) text c (omega (arith, kept, apart)) in
    let again : text_in (take begin xs ++ drop begin xs) c ≡ text_in (take begin xs) c = text_before (take begin xs) (drop begin xs) c (omega (arith, kept, apart)) in
    first ∙ sym again ∙ ap (λ ys. text_in ys c) (take-append-drop begin xs)

read_behind : (xs text : List ℕ) (begin : ℕ) (c : LongView) → begin ≤ length xs → begin + length text ≤ c.begin
    → text_in (take begin xs ++ (text ++ drop (begin + length text) xs)) c ≡ text_in xs c
read_behind xs text begin c le apart =
    let kept : length (take begin xs) ≡ begin = length-take-le begin xs le in
    let place : c.begin ≡ length (take begin xs) + (length text + (c.begin - (begin + length text))) = omega (arith, kept, apart) in
    let rest : (begin + length text) + (c.begin - (begin + length text)) ≡ c.begin = omega (arith, apart) in
    ap (take c.len)
    (ap (λ i. drop i (take begin xs ++ (text ++ drop (begin + length text) xs))) place
    ∙ drop-append-add (take begin xs) (text ++ drop (begin + length text) xs) (length text + (c.begin - (begin + length text)))
    ∙ drop-append-add text (drop (begin + length text) xs) (c.begin - (begin + length text))
    ∙ drop-drop (c.begin - (begin + length text)) (begin + length text) xs
    ∙ ap (λ i. drop i xs) rest)

apart_text : (old grown text : List ℕ) (begin : ℕ) (c : LongView) → begin + length text ≤ length (old ++ grown) → length text ≤ MOST_ARG_LEN → c.begin + c.len ≤ length old
    → (c.begin + c.len ≤ begin) ⊎ (begin + MOST_ARG_LEN ≤ c.begin)
    → text_in (take begin (old ++ grown) ++ (text ++ drop (begin + length text) (old ++ grown))) c ≡ text_in old c
apart_text old grown text begin c fits few within (inl before) =
    read_before (old ++ grown) (text ++ drop (begin + length text) (old ++ grown)) begin c (omega (arith, fits)) before ∙ text_before old grown c within
apart_text old grown text begin c fits few within (inr behind) =
    read_behind (old ++ grown) text begin c (omega (arith, fits)) (omega (arith, behind, few)) ∙ text_before old grown c within

-- a text that was written from a place on leaves what lies apart
pub keeps_apart : (old grown text new : List ℕ) (begin : ℕ) → begin + length text ≤ length (old ++ grown) → length text ≤ MOST_ARG_LEN
    → new ≡ take begin (old ++ grown) ++ (text ++ drop (begin + length text) (old ++ grown)) → KeepsApart begin old new
keeps_apart old grown text new begin fits few is (Short call) h apart = refl
keeps_apart old grown text new begin fits few is (Long o) h apart =
    ap (λ b. long_op o.head (text_in b o)) is ∙ ap (long_op o.head) (apart_text old grown text begin o fits few h.0 apart)
keeps_apart old grown text new begin fits few is (Install m) h apart = refl

-- ---- parts

pub within_first : (n k : ℕ) (rows : List Row) → AreWithin n rows → AreWithin n (take k rows)
within_first n zero rows h = _
within_first n (suc k) [] h = h
within_first n (suc k) (r ∷ rs) h = (h.0, within_first n k rs h.1)

pub within_behind : (n k : ℕ) (rows : List Row) → AreWithin n rows → AreWithin n (drop k rows)
within_behind n zero rows h = h
within_behind n (suc k) [] h = h
within_behind n (suc k) (r ∷ rs) h = within_behind n k rs h.1

pub within_at : (n k : ℕ) (rows : List Row) (d : Row) → k < length rows → AreWithin n rows → IsWithin n (slice_index_or rows k d).op
within_at n k [] d low h = absurd (omega (arith, low))
within_at n zero (r ∷ rs) d low h = h.0
within_at n (suc k) (r ∷ rs) d low h = within_at n k rs d (omega (arith, low)) h.1

pub record_at : (beside : List ℕ) (k : ℕ) (rows : List Row) (d : Row) → k < length rows → slice_get (records_in beside rows) k ≡ Some (record_in beside (slice_index_or rows k d))
record_at beside k [] d low = absurd (omega (arith, low))
record_at beside zero (r ∷ rs) d low = refl
record_at beside (suc k) (r ∷ rs) d low = record_at beside k rs d (omega (arith, low))

-- ---- what is laid is within

begins_by : (long : ℕ) (op : LaidOp) (next end : ℕ) → EndsAt long op next → next ≤ end → begin_by op next ≤ end
begins_by long (Short call) next end e le = le
begins_by long (Long o) next end e le = let ends = e.0 in omega (arith, le, ends)
begins_by long (Install new) next end e le = le

pub begins_within : (long : ℕ) (rows : List Row) (end : ℕ) → AreLaid long rows end → begin_of rows end ≤ end
begins_within long [] end h = omega arith
begins_within long (r ∷ rs) end h = begins_by long r.op (begin_of rs end) end h.0 (begins_within long rs end h.1)

is_within : (long : ℕ) (op : LaidOp) (next end : ℕ) → long ≤ MOST_ARG_LEN → EndsAt long op next → next ≤ end → IsWithin end op
is_within long (Short call) next end most e le = e
is_within long (Long o) next end most e le =
    let ends = e.0 in
    let few = e.1 in
    (omega (arith, le, ends), omega (arith, few, most))
is_within long (Install new) next end most e le = e

pub laid_within : (long : ℕ) (rows : List Row) (end : ℕ) → long ≤ MOST_ARG_LEN → AreLaid long rows end → AreWithin end rows
laid_within long [] end most h = _
laid_within long (r ∷ rs) end most h = (is_within long r.op (begin_of rs end) end most h.0 (begins_within long rs end h.1), laid_within long rs end most h.1)

few_by : (long : ℕ) (op : LaidOp) (next n end : ℕ) → EndsAt long op next → end ≤ next + n → end ≤ begin_by op next + (long + n)
few_by long (Short call) next n end e le = omega (arith, le)
few_by long (Long o) next n end e le = let ends = e.0 in let few = e.1 in omega (arith, le, ends, few)
few_by long (Install new) next n end e le = omega (arith, le)

-- so many rows have at most so many bytes
pub few_bytes : (long : ℕ) (rows : List Row) (end : ℕ) → AreLaid long rows end → end ≤ begin_of rows end + length rows * long
few_bytes long [] end h = omega arith
few_bytes long (r ∷ rs) end h =
    let more = suc-mul (length rs) long in
    let all = few_by long r.op (begin_of rs end) (length rs * long) end h.0 (few_bytes long rs end h.1) in
    omega (arith, more, all)

-- ---- a row more

pub begin_onto : (rows : List Row) (r : Row) (end : ℕ) → begin_of (rows ++ r ∷ []) end ≡ begin_of rows (begin_by r.op end)
begin_onto [] r end = refl
begin_onto (x ∷ rows) r end = ap (begin_by x.op) (begin_onto rows r end)

pub laid_onto : (long : ℕ) (rows : List Row) (r : Row) (begin end : ℕ) → begin_by r.op end ≡ begin → EndsAt long r.op end → AreLaid long rows begin → AreLaid long (rows ++ r ∷ []) end
laid_onto long [] r begin end is ends h = (ends, _)
laid_onto long (x ∷ rows) r begin end is ends h =
    let same : begin_of rows begin ≡ begin_of (rows ++ r ∷ []) end = ap (begin_of rows) (sym is) ∙ sym (begin_onto rows r end) in
    (subst (EndsAt long x.op) same h.0, laid_onto long rows r begin end is ends h.1)

-- what an operation has that was put behind the bytes
pub next_begins : (b e : ℕ) (op : LaidOp) → IsNext b op e → begin_by op e ≡ b
next_begins b e (Short call) h = h.0
next_begins b e (Long o) h = h.0
next_begins b e (Install new) h = h.0

pub next_ends : (long b e : ℕ) (op : LaidOp) → IsNext b op e → e ≤ b + long → EndsAt long op e
next_ends long b e (Short call) h le = h.1
next_ends long b e (Long o) h le = let begins = h.0 in let ends = h.1 in (ends, omega (arith, begins, ends, le))
next_ends long b e (Install new) h le = h.1

-- ---- what lies in a list fits there

each_few : (long : ℕ) (b : Bool) → nat_le long MAX_ARG_LEN ≡ b → (if b then 0 else long) ≤ long
each_few long true is = omega arith
each_few long false is = omega arith

pub each_at_most : (long : ℕ) → each_of long ≤ long
each_at_most long = each_few long (nat_le long MAX_ARG_LEN) refl

part_few : (text : List ℕ) (b : Bool) → length (if b then [] else text) ≤ length text
part_few text true = omega arith
part_few text false = omega arith

-- the part of a text that is too long for a room is no longer than the text
part_within : (room : ℕ) (text : List ℕ) → length (if nat_le (length text) room then [] else text) ≤ length text
part_within room text = part_few text (nat_le (length text) room)

pub part_at_most : (argument : List ℕ) → length (if nat_le (length argument) MAX_ARG_LEN then [] else argument) ≤ length argument
part_at_most = part_within MAX_ARG_LEN

pub program_at_most : (bytes : List ℕ) → length (if nat_le (length bytes) MAX_INSTALLED_BYTES then [] else bytes) ≤ length bytes
program_at_most = part_within MAX_INSTALLED_BYTES

-- a part that fits in `long` bytes is none where a list keeps no bytes for each record
each_by : (long room : ℕ) (text : List ℕ) (b d : Bool) → MAX_ARG_LEN ≤ room → nat_le long MAX_ARG_LEN ≡ b → nat_le (length text) room ≡ d → length (if d then [] else text) ≤ long
    → length (if d then [] else text) ≤ (if b then 0 else long)
each_by long room text true true le e f h = omega arith
each_by long room text true false le e f h = let few = leb-true long MAX_ARG_LEN e in let many = leb-false (length text) room f in omega (arith, few, many, le, h)
each_by long room text false d le e f h = h

pub part_fits : (long : ℕ) (op : Operation) → FitsIn long op → length (long_part op) ≤ each_of long
part_fits long (run call) h = each_by long MAX_ARG_LEN call.argument (nat_le long MAX_ARG_LEN) (nat_le (length call.argument) MAX_ARG_LEN) (omega arith) refl refl h
part_fits long (install new) h = each_by long MAX_INSTALLED_BYTES new.bytes (nat_le long MAX_ARG_LEN) (nat_le (length new.bytes) MAX_INSTALLED_BYTES) (omega arith) refl refl h

pub short_part : (argument : List ℕ) → length argument ≤ MAX_ARG_LEN → length (if nat_le (length argument) MAX_ARG_LEN then [] else argument) ≤ 0
short_part argument le = rw (le-leb (length argument) MAX_ARG_LEN le) (omega arith)

pub short_program : (bytes : List ℕ) → length bytes ≤ MAX_INSTALLED_BYTES → length (if nat_le (length bytes) MAX_INSTALLED_BYTES then [] else bytes) ≤ 0
short_program bytes le = rw (le-leb (length bytes) MAX_INSTALLED_BYTES le) (omega arith)

-- the part of an operation that is too long for a record is no longer than its text
long_few : (head : LongHead) (text : List ℕ) → length (long_part (long_op head text)) ≤ length text
long_few (Run program) text = part_at_most text
long_few (InstallLong mode arg_len) text = program_at_most text

text_few : (beside : List ℕ) (c : LongView) → length (text_in beside c) ≤ c.len
text_few beside c = let long = length-take c.len (drop c.begin beside) in omega (arith, long)

fits_laid : (long next : ℕ) (beside : List ℕ) (op : LaidOp) → EndsAt (each_of long) op next → FitsIn long (op_in beside op)
fits_laid long next beside (Short call) e = let none = short_part call.argument e in omega (arith, none)
fits_laid long next beside (Long o) e =
    let few = e.1 in
    let each = each_at_most long in
    let text = text_few beside o in
    let part = long_few o.head (text_in beside o) in
    omega (arith, few, each, text, part)
fits_laid long next beside (Install new) e = let none = short_program new.bytes e in omega (arith, none)

pub all_fit : (long : ℕ) (beside : List ℕ) (rows : List Row) (end : ℕ) → AreLaid (each_of long) rows end → AllFit long (records_in beside rows)
all_fit long beside [] end h k r at = absurd (none-some r at)
all_fit long beside (x ∷ rs) end h zero r at = subst (λ z. FitsIn long z.op) (same_Some (record_in beside x) r at) (fits_laid long (begin_of rs end) beside x.op h.0)
all_fit long beside (x ∷ rs) end h (suc k) r at = all_fit long beside rs end h.1 k r at

-- ---- rows are dropped

pub laid_behind : (long n : ℕ) (rows : List Row) (end : ℕ) → AreLaid long rows end → AreLaid long (drop n rows) end
laid_behind long zero rows end h = h
laid_behind long (suc n) [] end h = h
laid_behind long (suc n) (r ∷ rs) end h = laid_behind long n rs end h.1

-- ---- bytes are dropped in front

text_pulled : (gap : ℕ) (beside : List ℕ) (c : LongView) → gap ≤ c.begin → take c.len (drop (c.begin - gap) (drop gap beside)) ≡ text_in beside c
text_pulled gap beside c after =
    let place : gap + (c.begin - gap) ≡ c.begin = omega (arith, after) in
    ap (take c.len) (drop-drop (c.begin - gap) gap beside ∙ ap (λ i. drop i beside) place)

op_pulled : (gap : ℕ) (beside : List ℕ) (op : LaidOp) → IsAfter gap op → op_in (drop gap beside) (pulled gap op) ≡ op_in beside op
op_pulled gap beside (Short call) h = refl
op_pulled gap beside (Long o) h = ap (long_op o.head) (text_pulled gap beside o h)
op_pulled gap beside (Install new) h = refl

pub after_by : (long gap : ℕ) (op : LaidOp) (next : ℕ) → EndsAt long op next → gap ≤ begin_by op next → IsAfter gap op × (gap ≤ next)
after_by long gap (Short call) next e le = (_, le)
after_by long gap (Long o) next e le = let ends = e.0 in (le, omega (arith, le, ends))
after_by long gap (Install new) next e le = (_, le)

pub after_at : (long gap k : ℕ) (rows : List Row) (end : ℕ) (d : Row) → k < length rows → AreLaid long rows end → gap ≤ begin_of rows end → IsAfter gap (slice_index_or rows k d).op
after_at long gap k [] end d low h le = absurd (omega (arith, low))
after_at long gap zero (r ∷ rs) end d low h le = (after_by long gap r.op (begin_of rs end) h.0 le).0
after_at long gap (suc k) (r ∷ rs) end d low h le = after_at long gap k rs end d (omega (arith, low)) h.1 (after_by long gap r.op (begin_of rs end) h.0 le).1

-- the first k rows are pulled: the next one is as it was
pub next_row : (gap k : ℕ) (rows : List Row) (d : Row) → k < length rows → slice_index_or (pulled_rows gap (take k rows) ++ drop k rows) k d ≡ slice_index_or rows k d
next_row gap k [] d low = absurd (omega (arith, low))
next_row gap zero (r ∷ rs) d low = refl
next_row gap (suc k) (r ∷ rs) d low = next_row gap k rs d (omega (arith, low))

pub row_pulled : (gap k : ℕ) (rows : List Row) (d : Row) → k < length rows
    → slice_set (pulled_rows gap (take k rows) ++ drop k rows) k (pulled_row gap (slice_index_or rows k d)) ≡ pulled_rows gap (take (suc k) rows) ++ drop (suc k) rows
row_pulled gap k [] d low = absurd (omega (arith, low))
row_pulled gap zero (r ∷ rs) d low = refl
row_pulled gap (suc k) (r ∷ rs) d low = ap (λ xs. pulled_row gap r ∷ xs) (row_pulled gap k rs d (omega (arith, low)))

pub rows_pulled : (long gap : ℕ) (beside : List ℕ) (rows : List Row) (end : ℕ) → AreLaid long rows end → gap ≤ begin_of rows end
    → records_in (drop gap beside) (pulled_rows gap rows) ≡ records_in beside rows
rows_pulled long gap beside [] end h le = refl
rows_pulled long gap beside (r ∷ rs) end h le =
    let after = after_by long gap r.op (begin_of rs end) h.0 le in
    ap₂ (λ op rest. record { author = r.author; op = op; seq = r.seq } ∷ rest) (op_pulled gap beside r.op after.0) (rows_pulled long gap beside rs end h.1 after.1)

begin_by_pulled : (gap : ℕ) (op : LaidOp) (next : ℕ) → begin_by (pulled gap op) (next - gap) ≡ begin_by op next - gap
begin_by_pulled gap (Short call) next = refl
begin_by_pulled gap (Long o) next = refl
begin_by_pulled gap (Install new) next = refl

pub begin_pulled : (gap : ℕ) (rows : List Row) (end : ℕ) → begin_of (pulled_rows gap rows) (end - gap) ≡ begin_of rows end - gap
begin_pulled gap [] end = refl
begin_pulled gap (r ∷ rs) end = ap (begin_by (pulled gap r.op)) (begin_pulled gap rs end) ∙ begin_by_pulled gap r.op (begin_of rs end)

ends_pulled : (long gap : ℕ) (op : LaidOp) (next : ℕ) → EndsAt long op next → IsAfter gap op → EndsAt long (pulled gap op) (next - gap)
ends_pulled long gap (Short call) next e after = e
ends_pulled long gap (Long o) next e after = let ends = e.0 in (omega (arith, ends, after), e.1)
ends_pulled long gap (Install new) next e after = e

pub laid_pulled : (long gap : ℕ) (rows : List Row) (end : ℕ) → AreLaid long rows end → gap ≤ begin_of rows end → AreLaid long (pulled_rows gap rows) (end - gap)
laid_pulled long gap [] end h le = _
laid_pulled long gap (r ∷ rs) end h le =
    let after = after_by long gap r.op (begin_of rs end) h.0 le in
    (subst (EndsAt long (pulled gap r.op)) (sym (begin_pulled gap rs end)) (ends_pulled long gap r.op (begin_of rs end) h.0 after.0), laid_pulled long gap rs end h.1 after.1)
