-- Where the instructions stand, front by front.
use Rattle.std.proofs.Common.{◌≡◌, ℕ, zero, suc, ◌+◌, ◌<◌, ◌≤◌, false, List, [], ◌∷◌, ◌++◌, length, get_or, take, drop, Option, Some, None, refl, sym, ap, ◌∙◌, inl, inr, ⊎_elim, arith, length-append, add-one, drop-cons}
use Rattle.std.specs.Prelude.{◌⊎◌, ◌||◌, ◌≢◌, nat_eq, slice_get, option_and_then}
use Rattle.std.proofs.lemmas.List.{take-append-drop, flat_map_more}
use Rattle.std.proofs.lemmas.Grind.{flat_map-append}
use Rattle.std.proofs.Math.Seq.{take-suc}
use Rattle.std.proofs.lemmas.Bool.{cases_eq, ne_eqb, eq-eqb}
use Rattle.insn.specs.declared.instruction.Form.{Form}
use Rattle.insn.specs.Layout.{slot_contents, slot_count, layout, size, instruction_at}
use Rattle.insn.proofs.Export.{cells_shape}
use Rattle.flow.specs.Structure.{StandsAt}
use Rattle.flow.specs.Faults.{is_half, is_second_half}
use Rattle.flow.proofs.Forward.{width_some}

abbrev Cells : Type 0
Cells = List (Option Form)

-- ---- fronts

-- the front of a program up to an instruction, and that instruction
next_front : (p : List Form) (k : ℕ) (i : Form) → k < length p → i ≡ get_or p k i → take (k + 1) p ≡ take k p ++ i ∷ []
next_front p k i h e = ap (λ n. take n p) (add-one k) ∙ take-suc p k i h ∙ ap (λ j. take k p ++ j ∷ []) (sym e)

size_more : (xs : List Form) (i : Form) → size (xs ++ i ∷ []) ≡ size xs + slot_count i
size_more xs i = ap length (sym (flat_map_more slot_contents [] xs i)) ∙ length-append (layout xs) (slot_contents i)

pub size_next : (p : List Form) (k : ℕ) (i : Form) → k < length p → i ≡ get_or p k i → size (take (k + 1) p) ≡ size (take k p) + slot_count i
size_next p k i h e = ap size (next_front p k i h e) ∙ size_more (take k p) i

in_two : (p : List Form) (k : ℕ) → layout p ≡ layout (take k p) ++ layout (drop k p)
in_two p k = ap layout (sym (take-append-drop k p)) ∙ flat_map-append slot_contents (take k p) (drop k p)

pub size_within : (p : List Form) (k : ℕ) → size (take k p) ≤ size p
size_within p k = let n = ap length (in_two p k) ∙ length-append (layout (take k p)) (layout (drop k p)) in omega (arith, n)

-- ---- what stands behind a front

behind : (xs ys : Cells) (n : ℕ) → slice_get (xs ++ ys) (length xs + n) ≡ slice_get ys n
behind [] ys n = let e : 0 + n ≡ n = omega arith in ap (slice_get ys) e
behind (x ∷ xs) ys n = let e : suc (length xs) + n ≡ suc (length xs + n) = omega arith in ap (slice_get (x ∷ xs ++ ys)) e ∙ behind xs ys n

behind_front : (p : List Form) (k n : ℕ) (i : Form) → k < length p → i ≡ get_or p k i → slice_get (layout p) (size (take k p) + n) ≡ slice_get (slot_contents i ++ layout (drop (suc k) p)) n
behind_front p k n i h e =
    ap (λ xs. slice_get xs (size (take k p) + n)) (in_two p k)
    ∙ behind (layout (take k p)) (layout (drop k p)) n
    ∙ ap (λ xs. slice_get (layout xs) n) (drop-cons p k i h ∙ ap (λ j. j ∷ drop (suc k) p) (sym e))

-- the instruction behind a front stands in the slot behind it
stands_next : (p : List Form) (k : ℕ) (i : Form) → k < length p → i ≡ get_or p k i → StandsAt p i (size (take k p))
stands_next p k i h e = let n : size (take k p) ≡ size (take k p) + 0 = omega arith in
    ap (instruction_at p) n
    ∙ ap (option_and_then (λ o. o)) (behind_front p k 0 i h e)
    ∙ ⊎_elim
    (λ c. ap (λ f. option_and_then (λ o. o) (slice_get (f ++ layout (drop (suc k) p)) 0)) c)
    (λ c. ap (λ f. option_and_then (λ o. o) (slice_get (f ++ layout (drop (suc k) p)) 0)) c)
    (cells_shape i)

pub one_or_two : (i : Form) → (slot_count i ≡ 1) ⊎ ((slot_count i ≡ 2) × (slot_contents i ≡ Some i ∷ None ∷ []))
one_or_two i = ⊎_elim (λ c. inl (ap length c)) (λ c. inr (ap length c, c)) (cells_shape i)

-- no instruction stands in a second half
behind_wide : (p : List Form) (k : ℕ) (i : Form) → k < length p → i ≡ get_or p k i → slot_contents i ≡ Some i ∷ None ∷ [] → instruction_at p (suc (size (take k p))) ≡ None
behind_wide p k i h e c = let n : suc (size (take k p)) ≡ size (take k p) + 1 = omega arith in
    ap (instruction_at p) n
    ∙ ap (option_and_then (λ o. o)) (behind_front p k 1 i h e)
    ∙ ap (λ f. option_and_then (λ o. o) (slice_get (f ++ layout (drop (suc k) p)) 1)) c

-- i stands at s, with its second half behind it if it is wide, and lies in the program
pub record Placed (p : List Form) (i : Form) (s : ℕ) : Type 0 where
  pub stands : StandsAt p i s
  pub wide : slot_contents i ≡ Some i ∷ None ∷ [] → instruction_at p (suc s) ≡ None
  pub within : s + slot_count i ≤ size p

-- the k-th instruction does, behind the slots of those before it
pub placed : (p : List Form) (k s : ℕ) (i : Form) → k < length p → i ≡ get_or p k i → s ≡ size (take k p) → Placed p i s
placed p k s i h e at = record {
  stands = ap (instruction_at p) at ∙ stands_next p k i h e;
  wide = λ c. ap (λ n. instruction_at p (suc n)) at ∙ behind_wide p k i h e c;
  within = omega (arith, at, size_next p k i h e, size_within p (k + 1));
}

-- an instruction begins before the program's end
pub begins_within : {p : List Form} {i : Form} {s : ℕ} → Placed p i s → s < size p
begins_within {p} {i} at = omega (arith, at.within, width_some i)

-- ---- second halves

suc_tested : (a b : ℕ) → nat_eq (suc a) (suc b + 1) ≡ nat_eq a (b + 1)
suc_tested a b =
    ⊎_elim
    (λ e. eq-eqb (suc a) (suc b + 1) (omega (arith, e)) ∙ sym (eq-eqb a (b + 1) e))
    (λ ne. ne_eqb (suc a) (suc b + 1) (λ e. ne (omega (arith, e))) ∙ sym (ne_eqb a (b + 1) ne))
    (cases_eq a (b + 1))

wide_cells : (xs : Cells) (i : Form) (t : ℕ) → is_half (slice_get (xs ++ Some i ∷ None ∷ []) t) ≡ (nat_eq t (length xs + 1) || is_half (slice_get xs t))
wide_cells [] i zero = refl
wide_cells [] i (suc zero) = refl
wide_cells [] i (suc (suc t)) = ap (λ b. b || false) (sym (ne_eqb (suc (suc t)) 1 (λ e. omega (arith, e))))
wide_cells (x ∷ xs) i zero = ap (λ b. b || is_half (Some x)) (sym (ne_eqb 0 (suc (length xs) + 1) (λ e. omega (arith, e))))
wide_cells (x ∷ xs) i (suc t) = wide_cells xs i t ∙ ap (λ b. b || is_half (slice_get xs t)) (sym (suc_tested t (length xs)))

narrow_cells : (xs : Cells) (i : Form) (t : ℕ) → is_half (slice_get (xs ++ Some i ∷ []) t) ≡ is_half (slice_get xs t)
narrow_cells [] i zero = refl
narrow_cells [] i (suc t) = refl
narrow_cells (x ∷ xs) i zero = refl
narrow_cells (x ∷ xs) i (suc t) = narrow_cells xs i t

front_halves : (p : List Form) (k : ℕ) (i : Form) (t : ℕ) → k < length p → i ≡ get_or p k i → is_second_half (take (k + 1) p) t ≡ is_half (slice_get (layout (take k p) ++ slot_contents i) t)
front_halves p k i t h e = ap (λ xs. is_second_half xs t) (next_front p k i h e) ∙ ap (λ xs. is_half (slice_get xs t)) (sym (flat_map_more slot_contents [] (take k p) i))

pub wide_halves : (p : List Form) (k : ℕ) (i : Form) → k < length p → i ≡ get_or p k i → slot_count i ≡ 2 → (t : ℕ) → is_second_half (take (k + 1) p) t ≡ (nat_eq t (size (take k p) + 1) || is_second_half (take k p) t)
wide_halves p k i h e two t =
    front_halves p k i t h e
    ∙ ⊎_elim
    (λ c. let one : slot_count i ≡ 1 = ap length c in absurd (omega (arith, one, two)))
    (λ c. ap (λ f. is_half (slice_get (layout (take k p) ++ f) t)) c ∙ wide_cells (layout (take k p)) i t)
    (cells_shape i)

pub narrow_halves : (p : List Form) (k : ℕ) (i : Form) → k < length p → i ≡ get_or p k i → slot_count i ≢ 2 → (t : ℕ) → is_second_half (take (k + 1) p) t ≡ is_second_half (take k p) t
narrow_halves p k i h e not_two t =
    front_halves p k i t h e
    ∙ ⊎_elim
    (λ c. ap (λ f. is_half (slice_get (layout (take k p) ++ f) t)) c ∙ narrow_cells (layout (take k p)) i t)
    (λ c. absurd (not_two (ap length c)))
    (cells_shape i)
