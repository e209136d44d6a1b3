-- The bytes that digits spell.
use Rattle.std.proofs.Common.{◌≡◌, ℕ, not, List, Some, Result, Ok, Err}
use Rattle.std.specs.Prelude.{filter}
use Rattle.hex.specs.Hex.{IsBytes}
use Rattle.hex.proofs.HexLemmas.{decode_of-ok}
use Rattle.text.specs.Digits.{good, is_blank, spaced_bytes}

pub good_from : {E : Type 0} (r : Result (List ℕ) E) (bytes : List ℕ) → good r ≡ Some bytes → r ≡ Ok bytes
good_from (Ok b) bytes e = cc
good_from (Err why) bytes e = absurd cc

pub spaced_are_bytes : (text bytes : List ℕ) → spaced_bytes text ≡ Some bytes → IsBytes bytes
unfolding spaced_bytes
spaced_are_bytes text bytes e = (decode_of-ok (filter (λ c. not (is_blank c)) text) bytes (good_from _ bytes e)).3
