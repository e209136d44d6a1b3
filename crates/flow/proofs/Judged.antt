-- What the computed fault says of an answer.
use Rattle.std.proofs.Common.{◌≡◌, ℕ, Bool, cond, List, Option, Some, None, Result, Ok, Err, refl, sym, ap, ◌∙◌, ⊎_elim, subst}
use Rattle.std.specs.Prelude.{◌↔◌, IsOk, IfErr, MatchResult}
use Rattle.std.proofs.lemmas.Bool.{cases_Bool, false≢true}
use Rattle.std.proofs.lemmas.Option.{none-some}
use Rattle.insn.specs.declared.instruction.Form.{Form}
use Rattle.insn.specs.Layout.{size}
use Rattle.flow.specs.declared.rules.StructureRule.TheVariants.{RunsOffTheEnd}
use Rattle.flow.specs.declared.rules.Broken.{Broken}
use Rattle.flow.specs.Structure.{IsStructured, FirstBroken}
use Rattle.flow.specs.Faults.{fault, has_good_size, lowest_fault, structure_fault}
use Rattle.flow.proofs.Lowest.{structured_from_fault, broken_from_fault, broken_is_not_structured}

-- the answer is the computed one
abbrev pub Reads : List Form → Result (Unit {0}) Broken → Type 0
Reads p answer = MatchResult answer (λ u. structure_fault p ≡ None) (λ b. structure_fault p ≡ Some b)

abbrev chosen : List Form → Bool → Option Broken
chosen p b = cond b (lowest_fault p (size p)) (Some (fault 0 RunsOffTheEnd))

abbrev sized : List Form → Bool → Option ℕ
sized p b = cond b (Some (size p)) None

fault_of_good : (p : List Form) (n : ℕ) → Some n ≡ sized p (has_good_size p) → lowest_fault p n ≡ structure_fault p
unfolding structure_fault
fault_of_good p n h =
    ⊎_elim
    (λ good.
    let e : Some n ≡ Some (size p) = h ∙ ap (sized p) good in
    let same : n ≡ size p = cc in
    ap (lowest_fault p) same ∙ sym (ap (chosen p) good))
    (λ bad. absurd (none-some n (sym (h ∙ ap (sized p) bad))))
    (cases_Bool (has_good_size p))

pub fault_of_bad : (p : List Form) → None ≡ sized p (has_good_size p) → structure_fault p ≡ Some (fault 0 RunsOffTheEnd)
unfolding structure_fault
fault_of_bad p h =
    ⊎_elim
    (λ good. absurd (none-some (size p) (h ∙ ap (sized p) good)))
    (λ bad. ap (chosen p) bad)
    (cases_Bool (has_good_size p))

pub reads : (p : List Form) (n : ℕ) (answer : Result (Unit {0}) Broken) → Some n ≡ sized p (has_good_size p) → MatchResult answer (λ u. lowest_fault p n ≡ None) (λ b. lowest_fault p n ≡ Some b) → Reads p answer
reads p n answer h read = subst (λ o. MatchResult answer (λ u. o ≡ None) (λ b. o ≡ Some b)) (fault_of_good p n h) read

pub decides : (p : List Form) (answer : Result (Unit {0}) Broken) → Reads p answer → IsOk answer ↔ IsStructured p
decides p (Ok u) read = (λ ok. structured_from_fault p read, λ good. refl)
decides p (Err b) read = (λ ok. absurd (false≢true ok), λ good. absurd (broken_is_not_structured p b.slot b.rule (broken_from_fault p b read) good))

pub names_first : (p : List Form) (answer : Result (Unit {0}) Broken) → Reads p answer → IfErr answer (λ b. FirstBroken p b.slot b.rule)
names_first p (Ok u) read = tt
names_first p (Err b) read = broken_from_fault p b read
