-- Questions, one after another.
use Rattle.std.proofs.Common.{◌≡◌, ℕ, zero, suc, ◌+◌, ◌<◌, ◌≤◌, Bool, true, false, List, [], ◌∷◌, length, drop, Some, None, slice_get, slice_index_or, slice_set, nat_lt, refl, sym, ◌∙◌, subst, arith, ⊎_elim}
use Rattle.std.proofs.lemmas.Bool.{cases_lt, ltb-true, ltb-false}
use Rattle.ownlock.specs.Seats.{At}
use Rattle.std.proofs.lemmas.Option.{same_Some}
use Rattle.verifier.specs.declared.refusal.Mode.{Mode}
use Rattle.loader.specs.CatalogueView.{CatalogueView}
use Rattle.loader.specs.StoreState.{StoreState}
use Rattle.replica.proofs.Export.{get-set_other, get-set_same}
use Rattle.store_steps.specs.declared.steps.Question.{Question}
use Rattle.store_steps.specs.Asking.{asked_op}
use Rattle.store_steps.specs.Questions.{MayAskFor, first_refused_in, refusal_in, refused_or}
use Rattle.store_steps.specs.Views.{RepliesIn}
use Rattle.store_steps.proofs.Posting.{or_at}

-- the first of those that are left, and the others
pub one_more : (mode : Mode) (c : CatalogueView) (number n : ℕ) (qs : List Question) (d : Question) → n < length qs
    → first_refused_in mode c number (drop n qs) ≡ refused_or number (refusal_in mode c (slice_index_or qs n d)) (first_refused_in mode c (suc number) (drop (suc n) qs))
one_more mode c number n [] d lt = absurd (omega (arith, lt))
one_more mode c number zero (q ∷ qs) d lt = refl
one_more mode c number (suc n) (q ∷ qs) d lt = one_more mode c number n qs d (omega (arith, lt))

-- none is left
pub no_more : (mode : Mode) (c : CatalogueView) (number n : ℕ) (qs : List Question) → length qs ≤ n → first_refused_in mode c number (drop n qs) ≡ None
no_more mode c number zero [] le = refl
no_more mode c number (suc n) [] le = refl
no_more mode c number zero (q ∷ qs) le = absurd (omega (arith, le))
no_more mode c number (suc n) (q ∷ qs) le = no_more mode c number n qs (omega (arith, le))

at_or : (qs : List Question) (n : ℕ) (d q : Question) → slice_get qs n ≡ Some q → slice_index_or qs n d ≡ q
at_or [] n d q e = absurd cc
at_or (x ∷ qs) zero d q e = same_Some x q e
at_or (x ∷ qs) (suc n) d q e = at_or qs n d q e

-- each of the first n questions has its reply on that state
abbrev pub FirstReplies : CatalogueView → StoreState → List Question → (n : ℕ) → (replies : List ℕ) → Type 0
FirstReplies c state questions n replies =
    (i : ℕ) (asked : Question) → i < n → slice_get questions i ≡ Some asked → (reply : ℕ) × (slice_get replies i ≡ Some reply) × RepliesIn c (asked_op asked) state reply

-- one more has its reply
pub one_more_reply : (c : CatalogueView) (state : StoreState) (qs : List Question) (n : ℕ) (replies : List ℕ) (d : Question) (reply : ℕ) → n < length replies → FirstReplies c state qs n replies → (m : StoreState) → m ≡ state → RepliesIn c (asked_op (slice_index_or qs n d)) m reply
    → FirstReplies c state qs (n + 1) (slice_set replies n reply)
one_more_reply c state qs n replies d reply lt first m same_state is i asked low at = by (nat_lt i n) refl
  where
    by : (b : Bool) → nat_lt i n ≡ b → (r : ℕ) × (slice_get (slice_set replies n reply) i ≡ Some r) × RepliesIn c (asked_op asked) state r
    by true e =
        let below = ltb-true i n e in
        let r = first i asked below at in
        (r.0, get-set_other replies n i reply (λ (same : i ≡ n). omega (arith, below, same)) ∙ r.1, r.2)
    by false e =
        let above = ltb-false i n e in
        let same : i ≡ n = omega (arith, above, low) in
        (reply, subst (λ j. slice_get (slice_set replies n reply) j ≡ Some reply) (sym same) (get-set_same replies n reply lt), subst (λ q. RepliesIn c (asked_op q) state reply) (at_or qs n d asked (subst (λ j. slice_get qs j ≡ Some asked) same at)) (subst (λ z. RepliesIn c (asked_op (slice_index_or qs n d)) z reply) same_state is))

-- each of the first n questions may be asked, and fits
abbrev pub FirstMay : Mode → CatalogueView → List Question → (n : ℕ) → Type 0
FirstMay mode c questions n = (j : ℕ) (q : Question) → j < n → At j q questions → MayAskFor mode c q.program q.argument.now

-- one more may
pub one_more_may : (mode : Mode) (c : CatalogueView) (qs : List Question) (n : ℕ) (d : Question) → FirstMay mode c qs n
    → MayAskFor mode c (slice_index_or qs n d).program (slice_index_or qs n d).argument.now → FirstMay mode c qs (n + 1)
one_more_may mode c qs n d first may j q lt at = ⊎_elim (λ below. first j q below at)
    (λ above. let same : j ≡ n = omega (arith, above, lt) in subst (λ z. MayAskFor mode c z.program z.argument.now) (or_at qs n d q (subst (λ i. At i q qs) same at)) may) (cases_lt j n)
