-- What the programs of a manifest are called by, and how each is found by its name.
use Rattle.std.proofs.Common.{◌≡◌, ◌∙◌, ℕ, zero, suc, ◌+◌, ◌≤◌, Bool, true, false, List, [], ◌∷◌, ◌++◌, map, bytes_eq, slice_get, Some, Ok, ap, subst, arith}
use Rattle.std.specs.Prelude.{filter, if◌then◌else◌}
use Rattle.std.specs.List.{AllByRecursion, AllZip, IsDistinct, position_from}
use Rattle.std.proofs.lemmas.Option.{same_Some}
use Rattle.std.proofs.lemmas.Slice.Eq.{bytes_eq-Decides}
use Rattle.maps.specs.declared.shapes.Shape.{Shape}
use Rattle.text.specs.Lines.{lines_of}
use Rattle.text.specs.Words.{is_name}
use Rattle.verifier.specs.Accepted.{Checked}
use Rattle.loader.specs.CatalogueView.{CatalogueView, Entry, names_of, number_named}
use Rattle.loader.specs.Grammar.{ProgramLine, Meaning, Comment, Map, Program, line_meaning}
use Rattle.maps.specs.declared.shapes.MapLimits.{MapLimits}
use Rattle.maps.specs.Shapes.{AreLimits}
use Rattle.loader.specs.Loading.{loaded_within}
use Rattle.loader.specs.Offers.{IsEntryFor, says_something}
use Rattle.loader.specs.ProgramFiles.{Files}
use Rattle.loader.proofs.Export.{loaded_is_offered, spelled}

-- ---- names

-- a program of a manifest has a name, and its argument is within the limits
abbrev IsNamed : MapLimits → Meaning → Type 0
IsNamed l Comment = Unit {0}
IsNamed l (Map shape) = Unit {0}
IsNamed l (Program p) = (is_name p.name ≡ true) × (p.arg_len ≤ l.argument)

one_named : (l : MapLimits) (line : List ℕ) (m : Meaning) → line_meaning l line ≡ Some m → IsNamed l m
one_named l line Comment e = tt
one_named l line (Map shape) e = tt
one_named l line (Program p) e = let s = spelled l line (Program p) e in (s.1.1, s.1.2)

all_named : (lim : MapLimits) (ls : List (List ℕ)) (ms : List Meaning) → map (line_meaning lim) ls ≡ map Some ms → AllByRecursion (IsNamed lim) ms
all_named lim ls [] e = tt
all_named lim [] (m ∷ ms) e = absurd cc
all_named lim (l ∷ ls) (m ∷ ms) e =
    let first : line_meaning lim l ≡ Some m = cc in
    let rest : map (line_meaning lim) ls ≡ map Some ms = cc in
    (one_named lim l m first, all_named lim ls ms rest)

among : (l : MapLimits) (ms : List Meaning) → AllByRecursion (IsNamed l) ms → AllByRecursion (IsNamed l) (filter says_something ms)
among l [] h = tt
among l (m ∷ ms) h = by (says_something m) (among l ms h.1)
  where
    by : (b : Bool) → AllByRecursion (IsNamed l) (filter says_something ms) → AllByRecursion (IsNamed l) (if b then m ∷ filter says_something ms else filter says_something ms)
    by true rest = (h.0, rest)
    by false rest = rest

behind_maps : (l : MapLimits) (shapes : List Shape) (ps : List ProgramLine) → AllByRecursion (IsNamed l) (map Map shapes ++ map Program ps) → AllByRecursion (IsNamed l) (map Program ps)
behind_maps l [] ps h = h
behind_maps l (s ∷ shapes) ps h = behind_maps l shapes ps h.1

-- a program has a name, and a short argument
abbrev pub IsWithin : MapLimits → Entry → Type 0
IsWithin l e = (is_name e.name ≡ true) × (e.checked.arg_len ≤ l.argument)

of_line : (l : MapLimits) (files : Files) (shapes : List Shape) (p : ProgramLine) (e : Entry) → IsNamed l (Program p) → IsEntryFor files shapes p e → IsWithin l e
of_line l files shapes p e named is =
    let same : e.checked.arg_len ≡ p.arg_len = ap (λ (c : Checked). c.arg_len) is.checked_for in
    let few = named.1 in
    (ap is_name is.name ∙ named.0, omega (arith, same, few))

of_entry : (l : MapLimits) (files : Files) (shapes : List Shape) (ps : List ProgramLine) (es : List Entry) (k : ℕ) (e : Entry) → AllByRecursion (IsNamed l) (map Program ps) → AllZip (IsEntryFor files shapes) ps es → slice_get es k ≡ Some e
    → IsWithin l e
of_entry l files shapes ps [] k e named each is = absurd cc
of_entry l files shapes [] (x ∷ es) k e named each is = absurd each
of_entry l files shapes (p ∷ ps) (x ∷ es) zero e named each is = subst (IsWithin l) (same_Some x e is) (of_line l files shapes p x named.0 each.0)
of_entry l files shapes (p ∷ ps) (x ∷ es) (suc k) e named each is = of_entry l files shapes ps es k e named.1 each.1 is

-- each program of a loaded manifest has a name, and an argument within the limits
pub is_within : (l : MapLimits) (manifest : List ℕ) (files : Files) (c : CatalogueView) (k : ℕ) (e : Entry) → AreLimits l → loaded_within l manifest files ≡ Ok c → slice_get c.programs k ≡ Some e → IsWithin l e
is_within l manifest files c k e ok is at =
    let o = ((loaded_is_offered l manifest files c ok).0 is).0 in
    let all = subst (AllByRecursion (IsNamed l)) o.in_order (among l o.meanings (all_named l (lines_of manifest) o.meanings o.each)) in
    of_entry l files c.shapes o.programs c.programs k e (behind_maps l c.shapes o.programs all) o.checked at

-- ---- numbers

at_each : (P : List ℕ → Type 0) (es : List Entry) (k : ℕ) (e : Entry) → AllByRecursion P (names_of es) → slice_get es k ≡ Some e → P e.name
at_each P [] k e all is = absurd cc
at_each P (x ∷ es) zero e all is = subst (λ (y : Entry). P y.name) (same_Some x e is) all.0
at_each P (x ∷ es) (suc k) e all is = at_each P es k e all.1 is

number_from : (es : List Entry) (i k : ℕ) (e : Entry) → IsDistinct bytes_eq (names_of es) → slice_get es k ≡ Some e → position_from (λ (x : Entry). bytes_eq x.name e.name) i es ≡ Some (i + k)
unfolding IsDistinct
number_from [] i k e apart is = absurd cc
number_from (x ∷ es) i zero e apart is =
    let here : bytes_eq x.name e.name ≡ true = (bytes_eq-Decides x.name e.name).1 (ap (λ (y : Entry). y.name) (same_Some x e is)) in
    let place : i ≡ i + 0 = omega arith in
    rw here (ap Some place)
number_from (x ∷ es) i (suc k) e apart is =
    let other : bytes_eq x.name e.name ≡ false = at_each (λ n. bytes_eq x.name n ≡ false) es k e apart.0 is in
    let place : i + 1 + k ≡ i + suc k = omega arith in
    rw other (number_from es (i + 1) k e apart.1 is ∙ ap Some place)

-- of distinct names each is that of one number
pub number_is : (es : List Entry) (k : ℕ) (e : Entry) → IsDistinct bytes_eq (names_of es) → slice_get es k ≡ Some e → number_named es e.name ≡ Some k
number_is es k e apart is = number_from es 0 k e apart is ∙ ap Some (let place : 0 + k ≡ k = omega arith in place)
