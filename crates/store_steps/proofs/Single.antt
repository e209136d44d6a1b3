-- The outcome of one record that is replayed behind those in a hand, and of none.
use Rattle.std.proofs.Common.{◌≡◌, ℕ, ◌+◌, ◌≤◌, ◌++◌, ⊎_elim, [], ◌∷◌, length, take, Some, refl, sym, ap, ◌∙◌, subst, arith}
use Rattle.std.specs.Prelude.{slice_get}
use Rattle.std.proofs.lemmas.Option.{same_Some, slice_get_past}
use Rattle.std.proofs.Math.Seq.{take-append_seam}
use Rattle.std.proofs.lemmas.List.{length-append}
use Rattle.machine.specs.declared.running.Outcome.{Outcome}
use Rattle.loader.specs.CatalogueView.{CatalogueView}
use Rattle.loader.specs.StoreState.{StoreState}
use Rattle.oplog.specs.declared.records.Record.{Record}
use Rattle.oplog.specs.History.{History, after}
use Rattle.replica.specs.Replaying.{IsAnswered, KeepsOutcomes}
use Rattle.replica.specs.StoreMeaning.{store_meaning}
use Rattle.replica.specs.Views.{RepliesView}

-- the record behind a list
last_of : (xs : History) (r : Record) → slice_get (xs ++ r ∷ []) (length xs) ≡ Some r
last_of [] r = refl
last_of (x ∷ xs) r = last_of xs r

-- of the record behind the others the outcome is kept, if its index is the only one
pub keeps_one : (c : CatalogueView) (s : StoreState) (begin : ℕ) (hand : History) (r : Record) (o : Outcome)
    (old new : RepliesView) → old.first ≡ begin + length hand → length old.outcomes ≡ 1
    → new ≡ record { first = old.first; outcomes = Some o ∷ [] } → IsAnswered c r.op (after store_meaning c s hand) o
    → KeepsOutcomes c s begin (hand ++ r ∷ []) old new
keeps_one c s begin hand r o old new at one is answered = record {
  first = ap (λ (z : RepliesView). z.first) is;
  count = ap (λ (z : RepliesView). length z.outcomes) is ∙ sym one;
  replayed = λ k i q within there place.
      let none : k ≡ 0 = omega (arith, one, within) in
      let last : i ≡ length hand = omega (arith, none, place, at) in
      let same : r ≡ q = same_Some r q (sym (last_of hand r) ∙ (ap (slice_get (hand ++ r ∷ [])) (sym last) ∙ there)) in (
        o,
        ap (λ (z : RepliesView). slice_get z.outcomes k) is ∙ ap (slice_get (Some o ∷ [])) none,
        subst (λ (z : Record × History). IsAnswered c z.0.op (after store_meaning c s z.1) o)
            (λ j. (same j, (sym (take-append_seam hand (r ∷ [])) ∙ ap (λ n. take n (hand ++ r ∷ [])) (sym last)) j))
            answered,
      );
  others = λ k off.
      let long = length-append hand (r ∷ []) in
      let past : 1 ≤ k = ⊎_elim (λ low. omega (arith, low, at)) (λ high. omega (arith, high, at, long)) off in
      ap (λ (z : RepliesView). slice_get z.outcomes k) is
      ∙ (slice_get_past (Some o ∷ []) k past ∙ sym (slice_get_past old.outcomes k (omega (arith, one, past))));
}

-- if no index is kept, nothing is
pub keeps_none : (c : CatalogueView) (s : StoreState) (begin : ℕ) (records : History) (kept : RepliesView)
    → length kept.outcomes ≡ 0 → KeepsOutcomes c s begin records kept kept
keeps_none c s begin records kept none = record {
  first = refl;
  count = refl;
  replayed = λ k i q within there place. absurd (omega (arith, none, within));
  others = λ k off. refl;
}
