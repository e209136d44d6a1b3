-- Outcomes that are kept.
use Rattle.std.proofs.Common.{◌≡◌, ℕ, zero, suc, ◌+◌, ◌-◌, ◌<◌, ◌≤◌, Bool, true, false, List, [], ◌∷◌, length, take, set, Option, Some, slice_get, refl, sym, ap, ◌∙◌, arith, add-one, subst, ◌⊎◌, inl, inr}
use Rattle.std.specs.Prelude.{nat_le, if◌then◌else◌}
use Rattle.std.proofs.lemmas.Bool.{le-leb}
use Rattle.std.proofs.lemmas.Bool.Decides.{leb_tells}
use Rattle.std.proofs.lemmas.List.{length-set, length-take-le}
use Rattle.std.proofs.lemmas.Option.{slice_get_within}
use Rattle.std.proofs.Math.Nat.{eq-or-lt_of_le}
use Rattle.std.proofs.Math.Seq.{take-set-lt}
use Rattle.machine.specs.declared.running.Outcome.{Outcome}
use Rattle.loader.specs.CatalogueView.{CatalogueView}
use Rattle.loader.specs.StoreState.{StoreState}
use Rattle.oplog.specs.declared.records.Record.{Record}
use Rattle.oplog.specs.History.{History, after, left_by}
use Rattle.oplog.specs.Operations.{Operation}
use Rattle.replica.specs.StoreMeaning.{answered, updated, store_meaning}
use Rattle.replica.specs.Views.{RepliesView, with_outcome}
use Rattle.replica.specs.Replaying.{IsAnswered, KeepsOutcomes}

pub kept_within : (first count index : ℕ) (xs : List (Option Outcome)) (o : Outcome) → first ≤ index → index - first < count
    → (let kept : RepliesView = record { first = first; outcomes = take count (set xs (index - first) (Some o)) } in kept)
    ≡ with_outcome (record { first = first; outcomes = take count xs }) index o
kept_within first count index xs o le lt =
    ap (λ (ys : List (Option Outcome)). (let kept : RepliesView = record { first = first; outcomes = ys } in kept))
    (take-set-lt count xs (index - first) (Some o) lt
    ∙ sym (ap (λ (b : Bool). if b then set (take count xs) (index - first) (Some o) else take count xs) (le-leb first index le)))

pub get-set_same : {X : Type 0} (xs : List X) (i : ℕ) (x : X) → i < length xs → slice_get (set xs i x) i ≡ Some x
get-set_same [] i x lt = absurd (omega arith)
get-set_same (y ∷ ys) zero x lt = refl
get-set_same (y ∷ ys) (suc i) x lt = get-set_same ys i x (omega arith)

pub get-set_other : {X : Type 0} (xs : List X) (i j : ℕ) (x : X) → (j ≡ i → ⊥) → slice_get (set xs i x) j ≡ slice_get xs j
get-set_other [] i j x ne = refl
get-set_other (y ∷ ys) zero zero x ne = absurd (ne refl)
get-set_other (y ∷ ys) zero (suc j) x ne = refl
get-set_other (y ∷ ys) (suc i) zero x ne = refl
get-set_other (y ∷ ys) (suc i) (suc j) x ne = get-set_other ys i j x (λ e. ne (ap suc e))

-- ---- one outcome kept

count_by : (b : Bool) (xs : List (Option Outcome)) (i : ℕ) (o : Option Outcome) → length (if b then set xs i o else xs) ≡ length xs
count_by true xs i o = length-set xs i o
count_by false xs i o = refl

pub count_with : (m : RepliesView) (p : ℕ) (o : Outcome) → length (with_outcome m p o).outcomes ≡ length m.outcomes
count_with m p o = count_by (nat_le m.first p) m.outcomes (p - m.first) (Some o)

pub at_with : (m : RepliesView) (p k : ℕ) (o : Outcome) → m.first + k ≡ p → k < length m.outcomes → slice_get (with_outcome m p o).outcomes k ≡ Some (Some o)
at_with m p k o e lt =
    let le : m.first ≤ p = omega arith in
    let i : p - m.first ≡ k = omega arith in
    ap (λ (b : Bool). slice_get (if b then set m.outcomes (p - m.first) (Some o) else m.outcomes) k) (le-leb m.first p le)
    ∙ ap (λ (j : ℕ). slice_get (set m.outcomes j (Some o)) k) i
    ∙ get-set_same m.outcomes k (Some o) lt

pub off_with : (m : RepliesView) (p k : ℕ) (o : Outcome) → (m.first + k ≡ p → ⊥) → slice_get (with_outcome m p o).outcomes k ≡ slice_get m.outcomes k
off_with m p k o ne =
    elim (leb_tells m.first p) [
      | inl t ↦ ap (λ (b : Bool). slice_get (if b then set m.outcomes (p - m.first) (Some o) else m.outcomes) k) t.0
          ∙ get-set_other m.outcomes (p - m.first) k (Some o) (λ (e : k ≡ p - m.first). (let le : m.first ≤ p = t.1 in ne (omega arith)))
      | inr f ↦ ap (λ (b : Bool). slice_get (if b then set m.outcomes (p - m.first) (Some o) else m.outcomes) k) f.0
    ]

-- ---- records replayed

get-take : {X : Type 0} (xs : List X) (n i : ℕ) → i < n → slice_get (take n xs) i ≡ slice_get xs i
get-take xs zero i lt = absurd (omega arith)
get-take [] (suc n) i lt = refl
get-take (x ∷ xs) (suc n) zero lt = refl
get-take (x ∷ xs) (suc n) (suc i) lt = get-take xs n i (omega arith)

pub keeps_none : (c : CatalogueView) (state : StoreState) (begin : ℕ) (m : RepliesView) → KeepsOutcomes c state begin [] m m
keeps_none c state begin m = record {
  first = refl;
  count = refl;
  replayed = λ k i r lt e at. absurd cc;
  others = λ k h. refl;
}

take-take : {X : Type 0} (xs : List X) (n i : ℕ) → i ≤ n → take i (take n xs) ≡ take i xs
take-take xs n zero le = refl
take-take xs zero (suc i) le = absurd (omega arith)
take-take [] (suc n) (suc i) le = refl
take-take (x ∷ xs) (suc n) (suc i) le = ap (λ (ys : List _). x ∷ ys) (take-take xs n i (omega arith))

-- the k-th record is replayed behind the first k
module _ (c : CatalogueView) (state : StoreState) (begin : ℕ) (records : History) (old mid : RepliesView) (k : ℕ) (r : Record) (o : Outcome)
    (so_far : KeepsOutcomes c state begin (take k records) old mid) (is : slice_get records k ≡ Some r)
    (outcome : IsAnswered c r.op (after store_meaning c state (take k records)) o) where
  within : k < length records
  within = slice_get_within records k r is

  Answer : ℕ → Record → ℕ → Type 0
  Answer j s i =
      (p : Outcome) × (slice_get (with_outcome mid (begin + k) o).outcomes j ≡ Some (Some p)) × IsAnswered c s.op (after store_meaning c state (take i (take (suc k) records))) p

  -- the record itself
  last : (j i : ℕ) (s : Record) → j < length old.outcomes → slice_get (take (suc k) records) i ≡ Some s → old.first + j ≡ begin + i → i ≡ k
      → Answer j s i
  unfolding Answer
  last j i s lt e at at_k =
      let there : mid.first + j ≡ begin + k = omega (arith, so_far.first) in
      let inside : j < length mid.outcomes = omega (arith, so_far.count) in
      let le : i ≤ k = omega arith in
      let under : i < suc k = omega arith in
      let same : r ≡ s = (let found : Some r ≡ Some s = sym is ∙ ap (slice_get records) (sym at_k) ∙ sym (get-take records (suc k) i under) ∙ e in cc) in
      let before : take i (take (suc k) records) ≡ take k records = take-take records (suc k) i (omega arith) ∙ ap (λ (n : ℕ). take n records) at_k in
      let here : IsAnswered c s.op (after store_meaning c state (take i (take (suc k) records))) o =
      subst (λ (rs : History). IsAnswered c s.op (after store_meaning c state rs) o) (sym before) (subst (λ (s : Record). IsAnswered c s.op (after store_meaning c state (take k records)) o) same outcome) in
      (o, at_with mid (begin + k) j o there inside, here)

  -- one before it
  earlier : (j i : ℕ) (s : Record) → j < length old.outcomes → slice_get (take (suc k) records) i ≡ Some s → old.first + j ≡ begin + i → i < k
      → Answer j s i
  unfolding Answer
  earlier j i s lt e at lt_k =
      let away : mid.first + j ≡ begin + k → ⊥ = λ (q : mid.first + j ≡ begin + k). (omega (arith, so_far.first)) in
      let under : i < suc k = omega arith in
      let le : i ≤ k = omega arith in
      let le_suc : i ≤ suc k = omega arith in
      let found : slice_get (take k records) i ≡ Some s = get-take records k i lt_k ∙ sym (get-take records (suc k) i under) ∙ e in
      let was = so_far.replayed j i s lt found at in
      let same : take i (take k records) ≡ take i (take (suc k) records) = take-take records k i le ∙ sym (take-take records (suc k) i le_suc) in
      (was.0, off_with mid (begin + k) j o away ∙ was.1, subst (λ (rs : History). IsAnswered c s.op (after store_meaning c state rs) was.0) same was.2)

  either : (j i : ℕ) (s : Record) → j < length old.outcomes → slice_get (take (suc k) records) i ≡ Some s → old.first + j ≡ begin + i
      → Answer j s i
  either j i s lt e at =
      let under : i < length (take (suc k) records) = slice_get_within (take (suc k) records) i s e in
      let size : length (take (suc k) records) ≡ suc k = length-take-le (suc k) records within in
      let le : i ≤ k = omega arith in
      elim (eq-or-lt_of_le le) [ inl at_k ↦ last j i s lt e at at_k | inr lt_k ↦ earlier j i s lt e at lt_k ]

  untouched : (j : ℕ) → (old.first + j < begin) ⊎ (begin + length (take (suc k) records) ≤ old.first + j)
      → slice_get (with_outcome mid (begin + k) o).outcomes j ≡ slice_get old.outcomes j
  untouched j h =
      let size : length (take (suc k) records) ≡ suc k = length-take-le (suc k) records within in
      let size_k : length (take k records) ≡ k = length-take-le k records (omega (arith, within)) in
      let away : mid.first + j ≡ begin + k → ⊥ = λ (q : mid.first + j ≡ begin + k). (elim h [ inl l ↦ omega (arith, so_far.first) | inr g ↦ omega (arith, so_far.first) ]) in
      let before : (old.first + j < begin) ⊎ (begin + length (take k records) ≤ old.first + j) = elim h [ inl l ↦ inl l | inr g ↦ inr (omega arith) ] in
      off_with mid (begin + k) j o away ∙ so_far.others j before

  keeps_suc : KeepsOutcomes c state begin (take (suc k) records) old (with_outcome mid (begin + k) o)
  unfolding Answer
  keeps_suc = record {
    first = so_far.first;
    count = count_with mid (begin + k) o ∙ so_far.count;
    replayed = either;
    others = untouched;
  }

  keeps_next : KeepsOutcomes c state begin (take (k + 1) records) old (with_outcome mid (begin + k) o)
  keeps_next = rw add-one keeps_suc

-- as the loop has it: the record was run on this state, and its outcome kept at its index
pub keeps_one_more : (c : CatalogueView) (state before : StoreState) (begin index : ℕ) (records : History) (old mid new : RepliesView) (k : ℕ) (r : Record) (o : Outcome)
    → KeepsOutcomes c state begin (take k records) old mid → slice_get records k ≡ Some r → before ≡ after store_meaning c state (take k records)
    → IsAnswered c r.op before o → index ≡ begin → new ≡ with_outcome mid (index + k) o
    → KeepsOutcomes c state begin (take (k + 1) records) old new
keeps_one_more c state before begin index records old mid new k r o so_far is state_is outcome there kept =
    subst (λ (m : RepliesView). KeepsOutcomes c state begin (take (k + 1) records) old m)
    (sym (kept ∙ ap (λ (p : ℕ). with_outcome mid (p + k) o) there))
    (keeps_next c state begin records old mid k r o so_far is (subst (λ (m : StoreState). IsAnswered c r.op m o) state_is outcome))

-- ---- what an outcome says

pub is_answered : (c : CatalogueView) (op : Operation) (s left : StoreState) (o : Outcome) → updated c op s ≡ Some (answered o left) → IsAnswered c op s o
is_answered c op s left o takes = record { done = answered o left; takes = takes; outcome = refl }

pub leaves : (c : CatalogueView) (op : Operation) (s left : StoreState) (o : Outcome) → updated c op s ≡ Some (answered o left) → left ≡ left_by (store_meaning.update c op s) s
leaves c op s left o takes = sym (ap (λ e. left_by e s) takes)
