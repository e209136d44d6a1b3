-- Where a byte stands first, and a text cut there.
use Rattle.std.proofs.Common.{◌≡◌, ℕ, ◌+◌, ◌<◌, Bool, true, false, cond, ltb, eqb, List, length, get_or, take, drop, Some, None, refl, ap, sym, ◌∙◌, arith}
use Rattle.std.specs.List.{position_or_len, position_from}
use Rattle.std.proofs.lemmas.Bool.{ltb-true, lt-ltb, eqb-true}
use Rattle.std.proofs.lemmas.List.Sums.{passes_at_first}
use Rattle.std.proofs.lemmas.Iterator.Adapters.{position_from-zero}
use Rattle.std.proofs.lemmas.Option.{cond_some}
use Rattle.text.specs.Fields.{cut_at}

abbrev pub is_byte : ℕ → ℕ → Bool
is_byte wanted b = eqb b wanted

-- the byte stands first at this index
pub record IsFirst (wanted : ℕ) (text : List ℕ) (at : ℕ) : Type 0 where
  pub first : position_or_len (is_byte wanted) text ≡ at
  pub inside : at < length text
  pub there : get_or text at 0 ≡ wanted

where_none : {A : Type 0} (t : Bool) (x : A) → None ≡ cond t (Some x) None → t ≡ false
where_none true x e = absurd cc
where_none false x e = refl

pub first_is : (wanted : ℕ) (text : List ℕ) (at : ℕ) → Some at ≡ position_from (is_byte wanted) 0 text → IsFirst wanted text at
first_is wanted text at e =
    let first = position_or_len (is_byte wanted) text in
    let parts = cond_some (ltb first (length text)) first at (position_from-zero (is_byte wanted) text ∙ sym e) in
    let lt : first < length text = ltb-true _ _ parts.0 in
    let is : first ≡ at = parts.1 in
    let there : get_or text first 0 ≡ wanted = eqb-true _ _ (passes_at_first (is_byte wanted) text 0 lt) in
    record { first = is; inside = omega (arith, is, lt); there = ap (λ k. get_or text k 0) (sym is) ∙ there }

pub cut_some : (wanted : ℕ) (text : List ℕ) (at : ℕ) → IsFirst wanted text at → Some (take at text, drop (at + 1) text) ≡ cut_at wanted text
cut_some wanted text at s =
    let lt : ltb at (length text) ≡ true = lt-ltb _ _ s.inside in
    let first : position_or_len (is_byte wanted) text ≡ at = s.first in
    rw (first, lt) refl

pub cut_none : (wanted : ℕ) (text : List ℕ) → None ≡ position_from (is_byte wanted) 0 text → None ≡ cut_at wanted text
cut_none wanted text e =
    let no = where_none (ltb (position_or_len (is_byte wanted) text) (length text)) (position_or_len (is_byte wanted) text) (e ∙ sym (position_from-zero (is_byte wanted) text)) in
    rw no refl
