-- Where no rule is broken, none of them is, and the other way round.
use Rattle.std.proofs.Common.{◌≡◌, Bool, true, false, cond, List, [], ◌∷◌, Option, Some, None, refl, sym}
use Rattle.std.specs.Prelude.{◌||◌, find}
use Rattle.std.specs.List.{AllByRecursion}
use Rattle.std.proofs.lemmas.Bool.{false≢true}
use Rattle.insn.specs.declared.instruction.Form.{Form}
use Rattle.regkind.specs.Frames.{Frame}
use Rattle.verifier.specs.Signature.{Signature}
use Rattle.verifier.specs.Rules.{breaks, first_broken, rules_in_order}

-- ---- tests

pub or_parts : (a b : Bool) → a || b ≡ false → (a ≡ false) × (b ≡ false)
or_parts true b e = absurd (false≢true (sym e))
or_parts false b e = (refl, e)

pub or_from : (a b : Bool) → a ≡ false → b ≡ false → a || b ≡ false
or_from true b e g = absurd (false≢true (sym e))
or_from false b e g = g

-- ---- the first that is found

not_end : {A : Type 0} (b : Bool) (x : A) (o : Option A) → cond b (Some x) o ≡ None → (b ≡ false) × (o ≡ None)
not_end true x o e = cc
not_end false x o e = (refl, e)

at_end : {A : Type 0} (b : Bool) (x : A) (o : Option A) → b ≡ false → o ≡ None → cond b (Some x) o ≡ None
at_end true x o e g = absurd (false≢true (sym e))
at_end false x o e g = g

-- nothing is found, element by element
pub find_none : {A : Type 0} (test : A → Bool) (xs : List A) → find test xs ≡ None → AllByRecursion (λ x. test x ≡ false) xs
find_none test [] e = tt
find_none test (x ∷ xs) e = let h = not_end (test x) x (find test xs) e in (h.0, find_none test xs h.1)

-- a test that fails wherever another does finds nothing where the other doesn't
pub find_none_too : {A : Type 0} (test other : A → Bool) (xs : List A) → ((x : A) → test x ≡ false → other x ≡ false) → find test xs ≡ None → find other xs ≡ None
find_none_too test other [] h e = refl
find_none_too test other (x ∷ xs) h e =
    let parts = not_end (test x) x (find test xs) e in
    at_end (other x) x (find other xs) (h x parts.0) (find_none_too test other xs h parts.1)

-- no rule is broken, rule by rule
pub unbroken_rules : (l : Signature) (i : Form) (f : Frame) → first_broken l i f ≡ None → AllByRecursion (λ v. breaks v l i f ≡ false) rules_in_order
unbroken_rules l i f e = find_none (λ v. breaks v l i f) rules_in_order e
