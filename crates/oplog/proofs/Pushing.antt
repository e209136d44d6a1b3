-- One record more in a list.
use Rattle.std.proofs.Common.{◌≡◌, ℕ, suc, ◌+◌, ◌*◌, ◌^◌, ◌<◌, ◌≤◌, List, [], ◌∷◌, ◌++◌, length, take, vec_capacity, sym, ap, ap₂, ◌∙◌, subst, arith}
use Rattle.std.specs.Prelude.{slice_set}
use Rattle.std.proofs.Math.Seq.{take-suc-set}
use Rattle.std.proofs.Math.Nat.{mul-le-mul_right, suc-mul}
use Rattle.std.proofs.lemmas.List.{map-append, length-append, length-map, length-set, length-take-le}
use Rattle.oplog.specs.declared.records.Record.{Record}
use Rattle.oplog.specs.declared.rows.Row.{Row}
use Rattle.oplog.specs.declared.record_list.RecordList.TheInside.{Inside}
use Rattle.oplog.specs.contracts.record_list.RecordList as list
use Rattle.maps.specs.declared.shapes.TheConstants.{MOST_ARG_LEN}
use Rattle.oplog.specs.Operations.{Operation, long_part, FitsIn}
use Rattle.oplog.specs.History.{History}
use Rattle.oplog.specs.Lists.{RecordListView}
use Rattle.oplog.specs.Laid.{record_in, records_in, each_of, begin_of, AreWithin, AreLaid, IsPutAfter}
use Rattle.oplog.proofs.Laying.{rows_before, few_bytes, begin_onto, laid_onto, next_begins, next_ends, part_fits, each_at_most, laid_within}

abbrev pub new_view : List Row → List ℕ → ℕ → ℕ → ℕ → RecordListView
new_view rows beside count room long = record { records = records_in beside (take count rows); room = room; long = long }

-- there is room for one more
pub is_low : (rows : List Row) (beside : List ℕ) (count room long : ℕ) (v : RecordListView) → new_view rows beside count room long ≡ v → count ≤ length rows → length v.records < v.room → count < room
is_low rows beside count room long v is within low =
    let same : length (records_in beside (take count rows)) ≡ length v.records = ap (λ x. length x.records) is in
    let all : length (records_in beside (take count rows)) ≡ count = length-map (take count rows) (record_in beside) ∙ length-take-le count rows within in
    let most : room ≡ v.room = ap (λ x. x.room) is in
    omega (arith, same, all, most, low)

pub within_kept : (rows : List Row) (beside : List ℕ) (count room long n : ℕ) (v : RecordListView) → new_view rows beside count room long ≡ v → count ≤ length rows → n ≤ length v.records → n ≤ count
within_kept rows beside count room long n v is within low =
    let same : length (records_in beside (take count rows)) ≡ length v.records = ap (λ x. length x.records) is in
    let all : length (records_in beside (take count rows)) ≡ count = length-map (take count rows) (record_in beside) ∙ length-take-le count rows within in
    omega (arith, same, all, low)

module _ (rows : List Row) (beside : List ℕ) (count long : ℕ) where
  -- the rows that are kept, as they lie
  abbrev pub Kept : Type 0
  Kept = (count ≤ length rows) × AreLaid (each_of long) (take count rows) (length beside) × (begin_of (take count rows) (length beside) ≡ 0)

  pub few_in_all : (room : ℕ) → Kept → count ≤ room → room * each_of long < 2 ^ 32 → length beside < 2 ^ 32
  few_in_all room kept low few =
      let bytes = few_bytes (each_of long) (take count rows) (length beside) kept.1 in
      let first = kept.2 in
      let many : length (take count rows) ≡ count = length-take-le count rows kept.0 in
      let used : length (take count rows) * each_of long ≡ count * each_of long = ap (λ n. n * each_of long) many in
      let more : count * each_of long ≤ room * each_of long = mul-le-mul_right (each_of long) low in
      omega (arith, bytes, first, used, more, few)

  pub has_room : (room cap : ℕ) (op : Operation) → Kept → room * each_of long ≤ cap → room * each_of long < 2 ^ 32 → count < room → FitsIn long op
      → (length beside + length (long_part op) ≤ cap) × (length beside < 2 ^ 32)
  has_room room cap op kept fits few low part =
      let bytes = few_bytes (each_of long) (take count rows) (length beside) kept.1 in
      let first = kept.2 in
      let many : length (take count rows) ≡ count = length-take-le count rows kept.0 in
      let used : length (take count rows) * each_of long ≡ count * each_of long = ap (λ n. n * each_of long) many in
      let more : suc count * each_of long ≤ room * each_of long = mul-le-mul_right (each_of long) (omega (arith, low)) in
      let next : suc count * each_of long ≡ count * each_of long + each_of long = suc-mul count (each_of long) in
      let one = part_fits long op part in
      (omega (arith, bytes, first, used, more, next, one, fits), omega (arith, bytes, first, used, more, next, few))

  module _ (rows' : List Row) (beside' : List ℕ) (row : Row) (op : Operation) (there : count < length rows') (before : take count rows' ≡ take count rows)
      (kept : Kept) (put : IsPutAfter op beside row.op beside') (part : FitsIn long op) where
    abbrev after : List Row
    after = take (count + 1) (slice_set rows' count row)

    with_row : after ≡ take count rows ++ row ∷ []
    with_row =
        let more : suc count ≡ count + 1 = omega arith in
        ap (λ n. take n (slice_set rows' count row)) (sym more) ∙ take-suc-set rows' count row there ∙ ap (λ xs. xs ++ row ∷ []) before

    few : length beside' ≤ length beside + each_of long
    few =
        let grows : length beside' ≡ length beside + length (long_part op) = ap length put.bytes ∙ length-append beside (long_part op) in
        let one = part_fits long op part in
        omega (arith, grows, one)

    pub enough : count + 1 ≤ length (slice_set rows' count row)
    enough = let same = length-set rows' count row in omega (arith, same, there)

    pub laid : AreLaid (each_of long) after (length beside')
    laid =
        subst (λ rs. AreLaid (each_of long) rs (length beside')) (sym with_row)
        (laid_onto (each_of long) (take count rows) row (length beside) (length beside') (next_begins (length beside) (length beside') row.op put.place)
        (next_ends (each_of long) (length beside) (length beside') row.op put.place few) kept.1)

    pub begins : begin_of after (length beside') ≡ 0
    begins =
        ap (λ rs. begin_of rs (length beside')) with_row
        ∙ begin_onto (take count rows) row (length beside')
        ∙ ap (begin_of (take count rows)) (next_begins (length beside) (length beside') row.op put.place)
        ∙ kept.2

    pub view : (author seq : ℕ) (most : AreWithin (length beside) (take count rows)) → row.author ≡ author → row.seq ≡ seq
        → records_in beside' after ≡ records_in beside (take count rows) ++ record { author = author; op = op; seq = seq } ∷ []
    view author seq most a s =
        let old : History = records_in beside (take count rows) in
        let one : Record = record { author = author; op = op; seq = seq } in
        let first : records_in beside' (take count rows) ≡ old = ap (λ b. records_in b (take count rows)) put.bytes ∙ rows_before beside (long_part op) (take count rows) most in
        let last : record_in beside' row ≡ one = λ i. record { author = a i; op = put.same i; seq = s i } in
        ap (records_in beside') with_row ∙ map-append (record_in beside') (take count rows) (row ∷ []) ∙ ap₂ (λ xs r. xs ++ r ∷ []) first last

-- ---- what a list is after that

-- what is asked of the list, and of the operation
pub record MayPush (k : Inside) (v : RecordListView) (op : Operation) : Type 0 where
  pub is : list.the_invariant k
  pub seen : list.the_view k ≡ v
  pub room : length v.records < v.room
  pub fits : FitsIn v.long op

module _ (k : Inside) (v : RecordListView) (op : Operation) (m : MayPush k v op) where
  abbrev rows : List Row
  rows = take k.count k.filled.items

  kept : Kept k.filled.items k.beside.items k.count k.long
  kept = (m.is.0, m.is.2, m.is.3)

  low : k.count < k.room
  low = is_low k.filled.items k.beside.items k.count k.room k.long v m.seen m.is.0 m.room

  part : FitsIn k.long op
  part = subst (λ n. FitsIn n op) (sym (ap (λ (x : RecordListView). x.long) m.seen)) m.fits

  pub bytes_fit : (length k.beside.items + length (long_part op) ≤ vec_capacity k.beside) × (length k.beside.items < 2 ^ 32)
  bytes_fit = has_room k.filled.items k.beside.items k.count k.long k.room (vec_capacity k.beside) op kept m.is.4 m.is.5 low part

  module _ (rows' : List Row) (cap bytes : ℕ) (beside' : List ℕ) (row : Row) (there : k.count < length rows') (before : take k.count rows' ≡ take k.count k.filled.items)
      (same : cap ≡ vec_capacity k.filled) (put : IsPutAfter op k.beside.items row.op beside') (more : vec_capacity k.beside ≤ bytes) where
    pub stays : (k.count + 1 ≤ length (slice_set rows' k.count row)) × (k.room ≤ cap) × AreLaid (each_of k.long) (take (k.count + 1) (slice_set rows' k.count row)) (length beside')
        × (begin_of (take (k.count + 1) (slice_set rows' k.count row)) (length beside') ≡ 0) × (k.room * each_of k.long ≤ bytes) × (k.room * each_of k.long < 2 ^ 32) × (k.long ≤ MOST_ARG_LEN) × (k.count + 1 ≤ k.room)
    stays =
        let enough_bytes = m.is.4 in
        let enough_rows = m.is.1 in (
          enough k.filled.items k.beside.items k.count k.long rows' beside' row op there before kept put part,
          omega (arith, same, enough_rows),
          laid k.filled.items k.beside.items k.count k.long rows' beside' row op there before kept put part,
          begins k.filled.items k.beside.items k.count k.long rows' beside' row op there before kept put part,
          omega (arith, enough_bytes, more),
          m.is.5,
          m.is.6,
          omega (arith, low),
        )

    pub pushed : (author seq : ℕ) → row.author ≡ author → row.seq ≡ seq → new_view (slice_set rows' k.count row) beside' (k.count + 1) k.room k.long ≡ record v { records = v.records ++ record { author = author; op = op; seq = seq } ∷ [] }
    pushed author seq a s =
        let each = each_at_most k.long in
        let long = m.is.6 in
        let one : Record = record { author = author; op = op; seq = seq } in
        let most = laid_within (each_of k.long) rows (length k.beside.items) (omega (arith, each, long)) m.is.2 in
        let grows = view k.filled.items k.beside.items k.count k.long rows' beside' row op there before kept put part author seq most a s in
        λ i. record {
          records = (grows ∙ ap (λ (x : RecordListView). x.records ++ one ∷ []) m.seen) i;
          room = (ap (λ (x : RecordListView). x.room) m.seen) i;
          long = (ap (λ (x : RecordListView). x.long) m.seen) i;
        }
