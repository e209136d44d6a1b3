-- In a structured program every edge leads forward, to an instruction.
use Rattle.std.proofs.Common.{◌≡◌, ℕ, ◌+◌, ◌<◌, List, length, get_or, Option, Some, None, refl, ap, ◌∙◌, inl, inr, ⊎_elim, arith}
use Rattle.std.specs.Prelude.{ℤ, pos, negsuc, ◌⊎◌, slice_get, option_and_then}
use Rattle.std.proofs.lemmas.Bool.{cases_lt}
use Rattle.std.proofs.lemmas.Int.{ints}
use Rattle.std.proofs.lemmas.Option.{slice_get-get_or}
use Rattle.insn.specs.declared.instruction.Form.{Form}
use Rattle.insn.specs.declared.instruction.Form.TheVariants.{Imm64, MapRef}
use Rattle.insn.specs.Layout.{layout, size, slot_count, instruction_at, LeadsTo}
use Rattle.insn.specs.declared.instruction.Edge.{Edge}
use Rattle.insn.specs.declared.instruction.Edge.TheVariants.{Fall, Jump}
use Rattle.insn.proofs.Export.{next_stands}
use Rattle.flow.specs.declared.rules.StructureRule.TheVariants.{TargetOutside, TargetNotForward, TargetInsideWide, RunsOffTheEnd}
use Rattle.flow.specs.Structure.{IsStructured, StandsAt}

-- an instruction takes a slot at least
pub width_some : (i : Form) → 0 < slot_count i
width_some (Imm64 dst value) = omega arith
width_some (MapRef dst index) = omega arith
width_some i = omega arith

-- every edge goes to a higher slot
pub leads_on : (p : List Form) (i : Form) (s t : ℕ) (e : Edge) → IsStructured p → StandsAt p i s → LeadsTo i s e (pos t) → s < t
leads_on p i s t Fall structured stands leads =
    let n : 0 < slot_count i = width_some i in
    let m : t ≡ s + slot_count i = cc (leads.1) in
    omega arith
leads_on p i s t Jump structured stands leads =
    ⊎_elim (λ lt. lt) (λ le. absurd (structured.each i s tt stands TargetNotForward (pos t, leads, omega (arith, ints), omega (arith, ints)))) (cases_lt s t)

-- what stands in a slot is an instruction or a second half
pub contents : (xs : List (Option Form)) (t : ℕ) → t < length xs → (slice_get xs t ≡ Some None) ⊎ ((j : Form) × (slice_get xs t ≡ Some (Some j)))
contents xs t h = one_of (get_or xs t None) (slice_get-get_or xs t None h)
  where
    one_of : (o : Option Form) → slice_get xs t ≡ Some o → (slice_get xs t ≡ Some None) ⊎ ((j : Form) × (slice_get xs t ≡ Some (Some j)))
    one_of None e = inl e
    one_of (Some j) e = inr (j, e)

jump_stands : (p : List Form) (i : Form) (s : ℕ) (z : ℤ) → IsStructured p → StandsAt p i s → LeadsTo i s Jump z → (t : ℕ) × (j : Form) × (z ≡ pos t) × StandsAt p j t
jump_stands p i s (negsuc k) structured stands leads = absurd (structured.each i s tt stands TargetOutside (negsuc k, leads, inl (omega (arith, ints))))
jump_stands p i s (pos t) structured stands leads =
    ⊎_elim
    (λ inside.
    ⊎_elim
    (λ half. absurd (structured.each i s tt stands TargetInsideWide (t, leads, leads_on p i s t Jump structured stands leads, half)))
    (λ j. (t, j.0, refl, ap (option_and_then (λ o. o)) j.1))
    (contents (layout p) t inside))
    (λ outside. absurd (structured.each i s tt stands TargetOutside (pos t, leads, inr (omega (arith, ints)))))
    (cases_lt t (size p))

-- every edge leads to a slot at which an instruction stands
pub edge_stands : (p : List Form) (i : Form) (s : ℕ) (e : Edge) (z : ℤ) → IsStructured p → StandsAt p i s → LeadsTo i s e z → (t : ℕ) × (j : Form) × (z ≡ pos t) × StandsAt p j t
edge_stands p i s Fall z structured stands leads =
    ⊎_elim
    (λ end. absurd (structured.each i s tt stands RunsOffTheEnd (leads.0, end)))
    (λ j. (s + slot_count i, j.0, leads.1, j.1))
    (next_stands p s i stands)
edge_stands p i s Jump z structured stands leads = jump_stands p i s z structured stands leads

same_slot : (p : List Form) (z t : ℕ) (j : Form) → pos t ≡ pos z → StandsAt p j z → StandsAt p j t
same_slot p z t j e h = let m : t ≡ z = cc in ap (instruction_at p) m ∙ h

pub target_stands : (p : List Form) (i : Form) (s t : ℕ) (e : Edge) → IsStructured p → StandsAt p i s → LeadsTo i s e (pos t) → (j : Form) × StandsAt p j t
target_stands p i s t e structured stands leads =
    let h = edge_stands p i s e (pos t) structured stands leads in
    (h.1, same_slot p h.0 t h.1 h.2 h.3)
