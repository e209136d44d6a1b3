-- Records behind others.
use Rattle.std.proofs.Common.{◌≡◌, ℕ, ◌+◌, ◌-◌, ◌<◌, ◌≤◌, [], ◌∷◌, ◌++◌, length, take, Some, slice_get, refl, sym, ap, ◌∙◌, arith, subst, ◌⊎◌, inl, inr}
use Rattle.std.proofs.lemmas.Bool.{cases_lt}
use Rattle.std.proofs.lemmas.List.{length-append, take-append-le}
use Rattle.std.proofs.Math.Seq.{take-append-add}
use Rattle.loader.specs.CatalogueView.{CatalogueView}
use Rattle.loader.specs.StoreState.{StoreState}
use Rattle.oplog.specs.declared.records.Record.{Record}
use Rattle.oplog.specs.History.{History, after, left_by}
use Rattle.replica.specs.StoreMeaning.{AreUpdates, store_meaning}
use Rattle.replica.specs.Views.{RepliesView}
use Rattle.replica.specs.Replaying.{IsAnswered, KeepsOutcomes}
use Rattle.replica.proofs.Kept.{keeps_none}
use Rattle.verifier.proofs.Export.{get_left, behind as get_later}

pub after_joined : (c : CatalogueView) (s : StoreState) (xs ys : History) → after store_meaning c s (xs ++ ys) ≡ after store_meaning c (after store_meaning c s xs) ys
after_joined c s [] ys = refl
after_joined c s (x ∷ xs) ys = after_joined c (left_by (store_meaning.update c x.op s) s) xs ys

pub updates_later : (c : CatalogueView) (xs ys : History) → AreUpdates c (xs ++ ys) → AreUpdates c ys
updates_later c xs ys all k r is = all (length xs + k) r (get_later xs ys k ∙ is)

-- the first of them were replayed, and then the others
module _ (c : CatalogueView) (s : StoreState) (begin : ℕ) (xs ys : History) (old mid new : RepliesView) (h : KeepsOutcomes c s begin xs old mid)
    (g : KeepsOutcomes c (after store_meaning c s xs) (begin + length xs) ys mid new) where
  Answer : ℕ → ℕ → Record → Type 0
  Answer k i r = (o : _) × (slice_get new.outcomes k ≡ Some (Some o)) × IsAnswered c r.op (after store_meaning c s (take i (xs ++ ys))) o

  earlier : (k i : ℕ) (r : Record) → k < length old.outcomes → slice_get (xs ++ ys) i ≡ Some r → old.first + k ≡ begin + i → i < length xs → Answer k i r
  unfolding Answer
  earlier k i r lt is at low =
      let was = h.replayed k i r lt (sym (get_left xs ys i low) ∙ is) at in
      let first = h.first in
      let stays = g.others k (inl (omega (arith, first))) in
      (was.0, stays ∙ was.1, subst (λ rs. IsAnswered c r.op (after store_meaning c s rs) was.0) (sym (take-append-le i xs ys (omega arith))) was.2)

  later : (k i : ℕ) (r : Record) → k < length old.outcomes → slice_get (xs ++ ys) i ≡ Some r → old.first + k ≡ begin + i → length xs ≤ i → Answer k i r
  unfolding Answer
  later k i r lt is at high =
      let first = h.first in
      let count = h.count in
      let split : length xs + (i - length xs) ≡ i = omega arith in
      let there : slice_get ys (i - length xs) ≡ Some r = sym (get_later xs ys (i - length xs)) ∙ ap (slice_get (xs ++ ys)) split ∙ is in
      let done = g.replayed k (i - length xs) r (omega (arith, count)) there (omega (arith, first)) in
      let same : after store_meaning c (after store_meaning c s xs) (take (i - length xs) ys) ≡ after store_meaning c s (take i (xs ++ ys)) =
      sym (after_joined c s xs (take (i - length xs) ys)) ∙ ap (after store_meaning c s) (sym (take-append-add xs ys (i - length xs)) ∙ ap (λ n. take n (xs ++ ys)) split) in
      (done.0, done.1, subst (λ m. IsAnswered c r.op m done.0) same done.2)

  either : (k i : ℕ) (r : Record) → k < length old.outcomes → slice_get (xs ++ ys) i ≡ Some r → old.first + k ≡ begin + i → Answer k i r
  either k i r lt is at = elim (cases_lt i (length xs)) [ inl low ↦ earlier k i r lt is at low | inr high ↦ later k i r lt is at high ]

  untouched : (k : ℕ) → (old.first + k < begin) ⊎ (begin + length (xs ++ ys) ≤ old.first + k) → slice_get new.outcomes k ≡ slice_get old.outcomes k
  untouched k off =
      let first = h.first in
      let size = length-append xs ys in
      elim off [
        | inl low ↦ g.others k (inl (omega (arith, first))) ∙ h.others k (inl low)
        | inr high ↦ g.others k (inr (omega (arith, first, size))) ∙ h.others k (inr (omega (arith, size)))
      ]

  pub keeps_joined : KeepsOutcomes c s begin (xs ++ ys) old new
  unfolding Answer
  keeps_joined = record { first = g.first ∙ h.first; count = g.count ∙ h.count; replayed = either; others = untouched }

-- there is no record: all is kept
pub keeps_empty : (c : CatalogueView) (s : StoreState) (begin : ℕ) (rs : History) (m : RepliesView) → length rs ≡ 0 → KeepsOutcomes c s begin rs m m
keeps_empty c s begin [] m none = keeps_none c s begin m
keeps_empty c s begin (r ∷ rs) m none = absurd (omega arith)
