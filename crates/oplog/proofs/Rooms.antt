-- What stands in a room behind what is in use.
use Rattle.std.specs.Prelude.{slice_get, Some}
use Rattle.std.proofs.lemmas.Option.{none-some, same_Some}
use Rattle.std.proofs.Common.{◌≡◌, ℕ, zero, suc, [], ◌∷◌, ◌+◌, ◌-◌, ◌≤◌, List, ◌++◌, length, take, drop, replicate, ap, sym, ◌∙◌, arith}
use Rattle.std.proofs.lemmas.List.{drop-drop, drop_at, drop-replicate, take_at, drop-take, length-take-le, length-drop}
use Rattle.std.specs.List.{copy_within}
use Rattle.oplog.specs.Calls.{padded}

past_zeros : (n k m : ℕ) (xs : List ℕ) → length xs ≡ n → n ≤ k → drop k (xs ++ replicate m 0) ≡ replicate (m - (k - n)) 0
past_zeros n k m xs count above =
    let place : k ≡ n + (k - n) = omega arith in
    ap (λ i. drop i (xs ++ replicate m 0)) place ∙ sym (drop-drop (k - n) n (xs ++ replicate m 0)) ∙ ap (drop (k - n)) (drop_at xs (replicate m 0) n count) ∙ drop-replicate (k - n) m 0

-- from any place on behind what is in use there are zeros
pub zeros_from : (size n k : ℕ) (room : List ℕ) → length (take n room) ≡ n → room ≡ padded size (take n room) → n ≤ k → drop k room ≡ replicate (size - k) 0
zeros_from size n k room count is above =
    ap (drop k) is ∙ past_zeros n k (size - length (take n room)) (take n room) count above ∙ ap (λ m. replicate m 0) (omega (arith, count))

-- a part that was copied to the front is what stood there
pub moved_to_front : {X : Type 0} (xs : List X) (i j : ℕ) → i ≤ j → j ≤ length xs → take (j - i) (copy_within xs i j 0) ≡ drop i (take j xs)
moved_to_front xs i j up within =
    let place : i + (j - i) ≡ j = omega (arith, up) in
    take_at (take (j - i) (drop i xs)) _ (j - i) (length-take-le (j - i) (drop i xs) (omega (arith, length-drop i xs, within))) ∙ sym (drop-take i (j - i) xs) ∙ ap (λ m. drop i (take m xs)) place

-- one element more of a list
pub take_more : {X : Type 0} (xs : List X) (k : ℕ) (x : X) → slice_get xs k ≡ Some x → take (k + 1) xs ≡ take k xs ++ x ∷ []
take_more [] k x at = absurd (none-some x at)
take_more (y ∷ xs) zero x at = ap (λ z. z ∷ []) (same_Some y x at)
take_more (y ∷ xs) (suc k) x at =
    let next : suc k + 1 ≡ suc (k + 1) = omega arith in
    ap (λ n. take n (y ∷ xs)) next ∙ ap (λ zs. y ∷ zs) (take_more xs k x at)
