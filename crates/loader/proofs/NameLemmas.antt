-- What stands behind the last space, and the files that lines name.
use Rattle.std.proofs.Common.{◌≡◌, ℕ, ◌+◌, ◌-◌, ◌<◌, ◌≤◌, not, eqb, true, false, List, length, get_or, drop, Some, refl, ap, ◌∙◌, arith, lit<}
use Rattle.std.specs.List.{suffix_len, after_last}
use Rattle.std.specs.Str.{NoCharPasses}
use Rattle.std.specs.Str.Pattern.{RFindsChar}
use Rattle.std.proofs.lemmas.Bool.{ne_eqb}
use Rattle.std.proofs.lemmas.List.{get_or-drop, length-drop}
use Rattle.std.proofs.lemmas.List.Sums.{suffix_len_is}
use Rattle.std.proofs.lemmas.Str.Pattern.{NoCharPasses-char}

-- What stands behind the last space, from the place at which `rsplit_once` found it.
pub after_last-at : (bs : List ℕ) (i j : ℕ) → RFindsChar 32 bs (Some (i, j)) → j ≤ length bs → drop j bs ≡ after_last (λ b. eqb b 32) bs
after_last-at bs i j found le =
    let ends : j ≡ i + 1 = found.1.ends in
    let at : get_or bs i 0 ≡ 32 = found.1.byte (lit< tt) in
    let none : (k : ℕ) → j ≤ k → k < length bs → not (eqb (get_or bs k 0) 32) ≡ true =
    λ k low lt.
    let back : get_or (drop j bs) (k - j) 0 ≡ get_or bs k 0 = get_or-drop j bs (k - j) 0 ∙ ap (λ m. get_or bs m 0) (omega arith) in
    let short : k - j < length (drop j bs) = omega (arith, length-drop j bs) in
    let other : eqb (get_or (drop j bs) (k - j) 0) 32 ≡ false = ne_eqb _ _ (NoCharPasses-char 32 (drop j bs) (k - j) found.0 (lit< tt) short) in
    rw (← back, other) refl in
    let before : get_or bs (j - 1) 0 ≡ 32 = rw (ends) (ap (λ m. get_or bs m 0) (omega arith) ∙ at) in
    let here : 0 < j → not (eqb (get_or bs (j - 1) 0) 32) ≡ false = λ _. rw before refl in
    let len : suffix_len (λ b. not (eqb b 32)) bs ≡ length bs - j = suffix_len_is (λ b. not (eqb b 32)) bs j 0 le none here in
    ap (λ m. drop m bs) (omega (arith, len))

pub after_last-none : (bs : List ℕ) → NoCharPasses (λ d. eqb d 32) bs → bs ≡ after_last (λ b. eqb b 32) bs
after_last-none bs free =
    let none : (k : ℕ) → 0 ≤ k → k < length bs → not (eqb (get_or bs k 0) 32) ≡ true =
    λ k low lt. let other : eqb (get_or bs k 0) 32 ≡ false = ne_eqb _ _ (NoCharPasses-char 32 bs k free (lit< tt) lt) in rw other refl in
    let len : suffix_len (λ b. not (eqb b 32)) bs ≡ length bs - 0 = suffix_len_is (λ b. not (eqb b 32)) bs 0 0 (omega arith) none (λ lt. absurd (omega arith)) in
    let zero_left : length bs - suffix_len (λ b. not (eqb b 32)) bs ≡ 0 = omega arith in
    rw zero_left refl
