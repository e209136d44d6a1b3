-- What slots begin with: an instruction, or a fault.
use Rattle.std.proofs.Common.{◌≡◌, Bool, true, false, List, [], ◌∷◌, ◌++◌, Option, Some, None, refl, sym, ap, ◌∙◌, inl, inr, subst}
use Rattle.std.specs.Prelude.{Ok, Err, ◌⊎◌, if◌then◌else◌}
use Rattle.insn.specs.declared.instruction.Fields.{Fields}
use Rattle.insn.specs.declared.instruction.Form.{Form}
use Rattle.insn.specs.declared.decoding.DecodeFault.{DecodeFault}
use Rattle.insn.specs.declared.decoding.DecodeFault.TheVariants.{CutOff, BadSecondHalf}
use Rattle.std.specs.List.{AllByRecursion}
use Rattle.insn.specs.Encoding.{slots, HasEncoding}
use Rattle.insn.specs.Refusal.{first_fault, is_wide, is_bad_half}
use Rattle.insn.specs.Decoded.{narrow_form, wide_form, form_of, unless_fault, front}
use Rattle.insn.proofs.Slots.{FieldsFit}
use Rattle.insn.proofs.Rows.{own_fault, is_clean, no_own, fault_first, fault_narrow, fault_cut, fault_half, fault_wide}
use Rattle.insn.proofs.Opcodes.{IsSpelled, narrow_begins, wide_begins}
use Rattle.insn.proofs.Spelled.{Narrow, Wide, spelled}

-- ---- by the faults

front_fault : (all : List Fields) (why : DecodeFault) → first_fault all ≡ Some why → front all ≡ Err why
front_fault all why e = ap (λ o. unless_fault o (form_of all)) e

front_form : (all : List Fields) (i : Form) → first_fault all ≡ None → form_of all ≡ Some i → front all ≡ Ok i
front_form all i e h = ap (λ o. unless_fault o (form_of all)) e ∙ ap (unless_fault None) h

form_narrow : (f : Fields) (rest : List Fields) → is_wide f ≡ false → form_of (f ∷ rest) ≡ narrow_form f
form_narrow f [] w = refl
form_narrow f (g ∷ rest) w = ap (λ b. if b then Some (wide_form f g) else narrow_form f) w

form_wide : (f g : Fields) (rest : List Fields) → is_wide f ≡ true → form_of (f ∷ g ∷ rest) ≡ Some (wide_form f g)
form_wide f g rest w = ap (λ b. if b then Some (wide_form f g) else narrow_form f) w

pub front_first : (f : Fields) (rest : List Fields) (why : DecodeFault) → own_fault f ≡ Some why → front (f ∷ rest) ≡ Err why
front_first f rest why e = front_fault (f ∷ rest) why (fault_first f rest why e)

pub front_narrow : (f : Fields) (rest : List Fields) (i : Form) → own_fault f ≡ None → is_wide f ≡ false → narrow_form f ≡ Some i → front (f ∷ rest) ≡ Ok i
front_narrow f rest i e w h = front_form (f ∷ rest) i (fault_narrow f rest e w) (form_narrow f rest w ∙ h)

pub front_cut : (f : Fields) → own_fault f ≡ None → is_wide f ≡ true → front (f ∷ []) ≡ Err CutOff
front_cut f e w = front_fault (f ∷ []) CutOff (fault_cut f e w)

pub front_half : (f g : Fields) (rest : List Fields) → own_fault f ≡ None → is_wide f ≡ true → is_bad_half f g ≡ true → front (f ∷ g ∷ rest) ≡ Err BadSecondHalf
front_half f g rest e w h = front_fault (f ∷ g ∷ rest) BadSecondHalf (fault_half f g rest e w h)

pub front_wide : (f g : Fields) (rest : List Fields) → own_fault f ≡ None → is_wide f ≡ true → is_bad_half f g ≡ false → front (f ∷ g ∷ rest) ≡ Ok (wide_form f g)
front_wide f g rest e w h = front_form (f ∷ g ∷ rest) (wide_form f g) (fault_wide f g rest e w h) (form_wide f g rest w)

-- ---- a slot that breaks no rule

-- the instruction of such a slot is what is read
pub record Reads (f : Fields) : Type 0 where
  pub form : Form
  pub encoded : HasEncoding form
  pub spelled : slots form ≡ f ∷ []
  pub read : narrow_form f ≡ Some form

pub reads : (f : Fields) → FieldsFit f → own_fault f ≡ None → is_wide f ≡ false → Reads f
reads f fit own w = by (spelled s.form s.encoded)
  where
    s : IsSpelled f
    s = narrow_begins f fit (is_clean f own) w

    by : Narrow s.form ⊎ Wide s.form → Reads f
    by (inl n) =
        let e : f ∷ [] ≡ n.fields ∷ [] = sym s.spelled ∙ n.spelled in
        let same : f ≡ n.fields = cc in
        record { form = s.form; encoded = s.encoded; spelled = s.spelled; read = ap narrow_form same ∙ n.form }
    by (inr v) = let e : f ∷ [] ≡ v.first ∷ v.second ∷ [] = sym s.spelled ∙ v.spelled in cc

-- ---- by what is read

no_fault : (all : List Fields) (i : Form) → front all ≡ Ok i → first_fault all ≡ None
no_fault all i e = by (first_fault all) refl
  where
    by : (o : Option DecodeFault) → first_fault all ≡ o → first_fault all ≡ None
    by None h = h
    by (Some d) h = let g = sym (front_fault all d h) ∙ e in cc

-- slots that begin with no instruction break a rule
some_read : (f : Fields) (rest : List Fields) → FieldsFit f → first_fault (f ∷ rest) ≡ None → (i : Form) × (front (f ∷ rest) ≡ Ok i)
some_read f rest fit e = by rest (is_wide f) refl e
  where
    by : (rest : List Fields) (b : Bool) → is_wide f ≡ b → first_fault (f ∷ rest) ≡ None → (i : Form) × (front (f ∷ rest) ≡ Ok i)
    by rest false w e = let r = reads f fit (no_own f rest e) w in (r.form, front_narrow f rest r.form (no_own f rest e) w r.read)
    by [] true w e = let g = sym (fault_cut f (no_own f [] e) w) ∙ e in cc
    by (g ∷ rest) true w e = (wide_form f g, front_form (f ∷ g ∷ rest) (wide_form f g) e (form_wide f g rest w))

pub front_fails : (f : Fields) (rest : List Fields) (why : DecodeFault) → FieldsFit f → front (f ∷ rest) ≡ Err why → first_fault (f ∷ rest) ≡ Some why
front_fails f rest why fit e = by (first_fault (f ∷ rest)) refl
  where
    by : (o : Option DecodeFault) → first_fault (f ∷ rest) ≡ o → first_fault (f ∷ rest) ≡ Some why
    by None h = let r = some_read f rest fit h in let g = sym r.1 ∙ e in cc
    by (Some d) h = let g = sym (front_fault (f ∷ rest) d h) ∙ e in h ∙ ap Some (cc)

-- ---- slots to an instruction

-- slots that begin with this instruction
pub record Begins (all : List Fields) (i : Form) : Type 0 where
  pub encoded : HasEncoding i
  pub rest : List Fields
  pub joined : all ≡ slots i ++ rest

begins_by : (f : Fields) (rest : List Fields) (i : Form) → AllByRecursion FieldsFit (f ∷ rest) → own_fault f ≡ None → front (f ∷ rest) ≡ Ok i → (b : Bool) → is_wide f ≡ b → Begins (f ∷ rest) i
begins_by f rest i fit own e false w =
    let r = reads f fit.0 own w in
    let g = sym (front_narrow f rest r.form own w r.read) ∙ e in
    let same : r.form ≡ i = cc in
    subst (Begins (f ∷ rest)) same (record { encoded = r.encoded; rest = rest; joined = ap (λ x. x ++ rest) (sym r.spelled) })
begins_by f [] i fit own e true w = let g = sym (front_cut f own w) ∙ e in cc
begins_by f (s ∷ rest) i fit own e true w = by (is_bad_half f s) refl
  where
    by : (b : Bool) → is_bad_half f s ≡ b → Begins (f ∷ s ∷ rest) i
    by true h = let g = sym (front_half f s rest own w h) ∙ e in cc
    by false h =
        let n = wide_begins f s fit.0 fit.1.0 (is_clean f own) w h in
        let g = sym (front_wide f s rest own w h) ∙ e in
        let same : wide_form f s ≡ i = cc in
        subst (Begins (f ∷ s ∷ rest)) same (record { encoded = n.encoded; rest = rest; joined = ap (λ x. x ++ rest) (sym n.spelled) })

pub front_begins : (f : Fields) (rest : List Fields) (i : Form) → AllByRecursion FieldsFit (f ∷ rest) → front (f ∷ rest) ≡ Ok i → Begins (f ∷ rest) i
front_begins f rest i fit e =
    begins_by f rest i fit (no_own f rest (no_fault (f ∷ rest) i e)) e (is_wide f) refl

-- ---- an instruction to its slots

pub front_of : (i : Form) (rest : List Fields) → HasEncoding i → front (slots i ++ rest) ≡ Ok i
front_of i rest h = by (spelled i h)
  where
    by : Narrow i ⊎ Wide i → front (slots i ++ rest) ≡ Ok i
    by (inl n) = ap (λ x. front (x ++ rest)) n.spelled ∙ front_narrow n.fields rest i n.clean n.narrow n.form
    by (inr w) = ap (λ x. front (x ++ rest)) w.spelled ∙ front_wide w.first w.second rest w.clean w.wide w.good ∙ ap Ok w.form
