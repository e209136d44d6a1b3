-- The computed tests on jumps and edges say what the relations say.
use Rattle.std.proofs.Common.{◌≡◌, ℕ, ◌+◌, ◌<◌, Bool, true, Option, Some, None, refl, sym, ap, ◌∙◌, inl, inr, ⊎_elim, arith, eqb-true, eq-eqb}
use Rattle.std.specs.Prelude.{ℤ, pos, negsuc, ◌+ℤ◌, ◌≤ℤ◌, ◌<ℤ◌, ◌⊎◌, ◌&&◌, nat_eq, option_map}
use Rattle.std.proofs.lemmas.Bool.{false≢true, or_cases, or_left, or_right, and_parts, and_from, ltb-true, leb-true, le-leb}
use Rattle.std.proofs.lemmas.Int.{ints}
use Rattle.insn.specs.declared.instruction.Form.{Form}
use Rattle.insn.specs.Layout.{slot_count, falls_through, displacement, LeadsTo}
use Rattle.insn.specs.declared.instruction.Edge.{Edge}
use Rattle.insn.specs.declared.instruction.Edge.TheVariants.{Fall, Jump}
use Rattle.flow.specs.Faults.{jump_target, jump_is, is_slot, is_outside, is_backward, is_inside_wide, leads_to}

mapped : (test : ℤ → Bool) (f : ℤ → ℤ) (o : Option ℤ) → jump_is test (option_map f o) ≡ true → (d : ℤ) × (o ≡ Some d) × (test (f d) ≡ true)
mapped test f None h = absurd (false≢true h)
mapped test f (Some d) h = (d, refl, h)

-- a test holds of the target where i jumps to a slot for which it does
pub jump_found : (test : ℤ → Bool) (i : Form) (s : ℕ) → jump_is test (jump_target i s) ≡ true → (z : ℤ) × LeadsTo i s Jump z × (test z ≡ true)
jump_found test i s h =
    let m = mapped test (λ d. pos (s + 1) +ℤ d) (displacement i) h in
    (pos (s + 1) +ℤ m.0, (m.0, m.1, refl), m.2)

pub jump_tested : (test : ℤ → Bool) (i : Form) (s : ℕ) (z : ℤ) → LeadsTo i s Jump z → test z ≡ true → jump_is test (jump_target i s) ≡ true
jump_tested test i s z leads h = ap (λ o. jump_is test (option_map (λ d. pos (s + 1) +ℤ d) o)) leads.1 ∙ ap test (sym leads.2) ∙ h

-- ---- the tests of a target

pub slot_is : (t : ℕ) (z : ℤ) → is_slot t z ≡ true → z ≡ pos t
slot_is t (negsuc k) h = absurd (false≢true h)
slot_is t (pos u) h = ap pos (eqb-true u t h)

pub outside_is : (n : ℕ) (z : ℤ) → is_outside n z ≡ true → (z <ℤ pos 0) ⊎ (pos n ≤ℤ z)
outside_is n (negsuc k) h = inl (omega (arith, ints))
outside_is n (pos t) h = inr (omega (arith, ints, leb-true n t h))

pub is_outside_from : (n : ℕ) (z : ℤ) → (z <ℤ pos 0) ⊎ (pos n ≤ℤ z) → is_outside n z ≡ true
is_outside_from n (negsuc k) h = refl
is_outside_from n (pos t) (inl h) = absurd (omega (arith, ints, h))
is_outside_from n (pos t) (inr h) = le-leb n t (omega (arith, ints, h))

pub backward_is : (s : ℕ) (z : ℤ) → is_backward s z ≡ true → (pos 0 ≤ℤ z) × (z ≤ℤ pos s)
backward_is s (negsuc k) h = absurd (false≢true h)
backward_is s (pos t) h = (omega (arith, ints), omega (arith, ints, leb-true t s h))

pub is_backward_from : (s : ℕ) (z : ℤ) → pos 0 ≤ℤ z → z ≤ℤ pos s → is_backward s z ≡ true
is_backward_from s (negsuc k) h g = absurd (omega (arith, ints, h))
is_backward_from s (pos t) h g = le-leb t s (omega (arith, ints, g))

pub inside_is : (halves : ℕ → Bool) (s : ℕ) (z : ℤ) → is_inside_wide halves s z ≡ true → (t : ℕ) × (z ≡ pos t) × (s < t) × (halves t ≡ true)
inside_is halves s (negsuc k) h = absurd (false≢true h)
inside_is halves s (pos t) h = let both = and_parts _ _ h in (t, refl, ltb-true s t both.0, both.1)

-- ---- edges

pub edge_found : (o : Option Form) (s t : ℕ) → leads_to o s t ≡ true → (i : Form) × (e : Edge) × (o ≡ Some i) × LeadsTo i s e (pos t)
edge_found None s t h = absurd (false≢true h)
edge_found (Some i) s t h =
    ⊎_elim
    (λ falls. let both = and_parts _ _ falls in (i, Fall, refl, (both.0, ap pos (sym (eqb-true _ t both.1)))))
    (λ jumps.
    let m = jump_found (is_slot t) i s jumps in
    (i, Jump, refl, (m.1.0, m.1.1, sym (slot_is t m.0 m.2) ∙ m.1.2)))
    (or_cases (falls_through i && nat_eq (s + slot_count i) t) (jump_is (is_slot t) (jump_target i s)) h)

pub edge_tested : (i : Form) (s t : ℕ) (e : Edge) → LeadsTo i s e (pos t) → leads_to (Some i) s t ≡ true
edge_tested i s t Fall leads =
    let n : s + slot_count i ≡ t = cc (leads.1) in
    or_left _ _ (and_from _ _ (leads.0) (eq-eqb (s + slot_count i) t n))
edge_tested i s t Jump leads = or_right _ _ (jump_tested (is_slot t) i s (pos t) leads (eq-eqb t t refl))
