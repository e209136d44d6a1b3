-- The computed slots that are reached are those that are reached.
use Rattle.std.proofs.Common.{◌≡◌, ℕ, zero, suc, ◌<◌, Bool, true, false, cond, List, ◌∷◌, refl, sym, ap, ◌∙◌, inl, inr, ⊎_elim, arith, subst, eqb-true}
use Rattle.std.specs.Prelude.{◌⊎◌, ◌||◌, nat_eq}
use Rattle.std.specs.List.{list_any}
use Rattle.std.proofs.lemmas.Bool.{false≢true, or_cases, or_left, or_right, cases_Bool, cases_lt}
use Rattle.insn.specs.declared.instruction.Form.{Form}
use Rattle.insn.specs.Layout.{instruction_at}
use Rattle.flow.specs.Structure.{Reached, first, next}
use Rattle.flow.specs.Faults.{leads_to, reached_slots, is_reached}
use Rattle.flow.proofs.Jumps.{edge_found, edge_tested}

-- what is said of one of the reached slots below k
abbrev SomeReached : List Form → ℕ → (ℕ → Bool) → Type 0
SomeReached p k test = (s : ℕ) × (s < k) × Reached p s × (test s ≡ true)

-- the computed slots below k are right
record AreReached (p : List Form) (k : ℕ) : Type 0 where
  sound : (test : ℕ → Bool) → list_any test (reached_slots p k) ≡ true → SomeReached p k test
  complete : (test : ℕ → Bool) → SomeReached p k test → list_any test (reached_slots p k) ≡ true

reached_sound : (p : List Form) (k : ℕ) → AreReached p k → is_reached p k ≡ true → Reached p k
reached_sound p k right h =
    ⊎_elim
    (λ start. let z : k ≡ 0 = eqb-true k 0 start in subst (Reached p) (sym z) first)
    (λ some.
    let m = right.sound (λ s. leads_to (instruction_at p s) s k) some in
    let edge = edge_found (instruction_at p m.0) m.0 k m.3 in
    next edge.1 m.2 edge.2 edge.3 m.1)
    (or_cases (nat_eq k 0) (list_any (λ s. leads_to (instruction_at p s) s k) (reached_slots p k)) h)

reached_complete : (p : List Form) (k : ℕ) → AreReached p k → Reached p k → is_reached p k ≡ true
reached_complete p zero right first = refl
reached_complete p k right (next {s} {t} {i} e reached stands leads lt) =
    or_right (nat_eq k 0) _ (right.complete (λ u. leads_to (instruction_at p u) u k) (s, lt, reached, ap (λ o. leads_to o s k) stands ∙ edge_tested i s k e leads))

none_reached : (p : List Form) → AreReached p 0
unfolding reached_slots
none_reached p = record { sound = λ test h. absurd (false≢true h); complete = λ test m. absurd (omega (arith, m.1)) }

pub kept_slots : (p : List Form) (k : ℕ) (test : ℕ → Bool) → is_reached p k ≡ true → list_any test (reached_slots p (suc k)) ≡ (test k || list_any test (reached_slots p k))
unfolding reached_slots
kept_slots p k test h = ap (λ b. list_any test (cond b (k ∷ reached_slots p k) (reached_slots p k))) h

pub same_slots : (p : List Form) (k : ℕ) (test : ℕ → Bool) → is_reached p k ≡ false → list_any test (reached_slots p (suc k)) ≡ list_any test (reached_slots p k)
unfolding reached_slots
same_slots p k test h = ap (λ b. list_any test (cond b (k ∷ reached_slots p k) (reached_slots p k))) h

pub last_or_below : (s k : ℕ) → s < suc k → (s < k) ⊎ (s ≡ k)
last_or_below s k h = ⊎_elim (λ lt. inl lt) (λ le. inr (omega arith)) (cases_lt s k)

with_slot : (p : List Form) (k : ℕ) → AreReached p k → is_reached p k ≡ true → AreReached p (suc k)
with_slot p k right h = record {
  sound = λ test any.
      ⊎_elim
      (λ here. (k, omega arith, reached_sound p k right h, here))
      (λ below. let m = right.sound test below in (m.0, omega (arith, m.1), m.2, m.3))
      (or_cases (test k) (list_any test (reached_slots p k)) (sym (kept_slots p k test h) ∙ any));
  complete = λ test m.
      kept_slots p k test h
      ∙ ⊎_elim
      (λ lt. or_right (test k) _ (right.complete test (m.0, lt, m.2, m.3)))
      (λ e. or_left (test k) _ (ap test (sym e) ∙ m.3))
      (last_or_below m.0 k m.1);
}

without_slot : (p : List Form) (k : ℕ) → AreReached p k → is_reached p k ≡ false → AreReached p (suc k)
without_slot p k right h = record {
  sound = λ test any. let m = right.sound test (sym (same_slots p k test h) ∙ any) in (m.0, omega (arith, m.1), m.2, m.3);
  complete = λ test m.
      same_slots p k test h
      ∙ ⊎_elim
      (λ lt. right.complete test (m.0, lt, m.2, m.3))
      (λ e. absurd (false≢true (sym h ∙ reached_complete p k right (subst (Reached p) e m.2))))
      (last_or_below m.0 k m.1);
}

right_below : (p : List Form) (k : ℕ) → AreReached p k
right_below p zero = none_reached p
right_below p (suc k) =
    let right = right_below p k in
    ⊎_elim (λ h. with_slot p k right h) (λ h. without_slot p k right h) (cases_Bool (is_reached p k))

pub reached_from_test : (p : List Form) (s : ℕ) → is_reached p s ≡ true → Reached p s
reached_from_test p s h = reached_sound p s (right_below p s) h

pub test_from_reached : (p : List Form) (s : ℕ) → Reached p s → is_reached p s ≡ true
test_from_reached p s h = reached_complete p s (right_below p s) h
