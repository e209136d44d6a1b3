-- Where a part of a text ends.
use Rattle.std.proofs.Common.{◌≡◌, ℕ, ◌<◌, ◌≤◌, true, false, List, [], length, get_or, take, drop, refl, sym, ap, arith}
use Rattle.std.specs.List.{position_or_len}
use Rattle.std.proofs.lemmas.List.{length-append, take-append-drop}
use Rattle.std.proofs.lemmas.List.Sums.{position_or_len_is}
use Rattle.std.proofs.Math.Seq.{take-length, drop-length}
use Rattle.asm.specs.declared.tokens.Stop.{Stop}
use Rattle.asm.specs.Tokens.{stops, before, rest_from}

module _ (stop : Stop) (text : List ℕ) where
  pub before_at : (i : ℕ) → i < length text → ((k : ℕ) → k < i → stops stop (get_or text k 0) ≡ false) → stops stop (get_or text i 0) ≡ true → take i text ≡ before stop text
  unfolding before
  before_at i lt none here = rw (position_or_len_is (stops stop) text i 0 (omega arith) none (λ _. here)) refl

  pub rest_at : (i : ℕ) → i < length text → ((k : ℕ) → k < i → stops stop (get_or text k 0) ≡ false) → stops stop (get_or text i 0) ≡ true → drop i text ≡ rest_from stop text
  unfolding rest_from
  rest_at i lt none here = rw (position_or_len_is (stops stop) text i 0 (omega arith) none (λ _. here)) refl

  pub before_none : ((k : ℕ) → k < length text → stops stop (get_or text k 0) ≡ false) → text ≡ before stop text
  unfolding before
  before_none none = rw (position_or_len_is (stops stop) text (length text) 0 (omega arith) none (λ lt. absurd (omega arith))) (sym (take-length text))

  pub rest_none : ((k : ℕ) → k < length text → stops stop (get_or text k 0) ≡ false) → [] ≡ rest_from stop text
  unfolding rest_from
  rest_none none = rw (position_or_len_is (stops stop) text (length text) 0 (omega arith) none (λ lt. absurd (omega arith))) (sym (drop-length text))

  -- a part is no longer than the text
  pub before_short : length (before stop text) ≤ length text
  unfolding before
  before_short = let n = position_or_len (stops stop) text in omega (arith, length-append (take n text) (drop n text), ap length (take-append-drop n text))
