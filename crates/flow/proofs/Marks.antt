-- One bit of a set of slots.
use Rattle.std.proofs.Common.{◌≡◌, ℕ, ◌*◌, ◌/◌, ◌%◌, ◌^◌, ◌<◌, true, false, List, length, get_or, set, replicate, sym, ap, ◌∙◌, ⊎_elim, arith, eq-eqb, bit_and, bit_or}
use Rattle.std.specs.Prelude.{◌≢◌, ◌||◌, nat_eq}
use Rattle.std.specs.Int.{w64, bit_at}
use Rattle.std.proofs.lemmas.Bool.{cases_eq, cases_lt, ne_eqb}
use Rattle.std.proofs.lemmas.List.{get_or-set_same, get_or-set_other, get_or-replicate, get_or_past, length-replicate}
use Rattle.std.proofs.lemmas.Nat.{div-add-mod'}
use Rattle.std.proofs.lemmas.Nat.Bits.{bit_at_set_same, bit_at_set_other, bit_at-zero, shr_and_one}
use Rattle.flow.specs.declared.slot_set.SlotSet.{SlotSet}
use Rattle.flow.specs.SlotSets.{has_slot}

abbrev of_words : List ℕ → SlotSet
of_words words = record { words = words }

abbrev with_bit : List ℕ → ℕ → List ℕ
with_bit words slot = set words (slot / 64) (bit_or (get_or words (slot / 64) 0) (1 * 2 ^ (slot % 64) % 18446744073709551616))

pub bit_read : (words : List ℕ) (slot : ℕ) → nat_eq (bit_and (get_or words (slot / 64) 0 / 2 ^ (slot % 64)) 1) 1 ≡ has_slot (of_words words) slot
unfolding has_slot
bit_read words slot = ap (λ b. nat_eq b 1) (shr_and_one (get_or words (slot / 64) 0) (slot % 64))

same_slot : (words : List ℕ) (slot : ℕ) → length words ≡ 64 → slot < 4096 → has_slot (of_words (with_bit words slot)) slot ≡ true
unfolding has_slot
same_slot words slot n h =
    let within : slot / 64 < length words = omega (arith, n, h) in
    let low : slot % 64 < 64 = omega arith in
    eq-eqb _ 1
    (ap (λ w. bit_at w (slot % 64)) (get_or-set_same words (slot / 64) _ 0 within) ∙ bit_at_set_same w64 (get_or words (slot / 64) 0) (slot % 64) low)

other_word : (words : List ℕ) (slot s : ℕ) → s / 64 ≢ slot / 64 → has_slot (of_words (with_bit words slot)) s ≡ has_slot (of_words words) s
unfolding has_slot
other_word words slot s ne = ap (λ w. nat_eq (bit_at w (s % 64)) 1) (get_or-set_other words (slot / 64) (s / 64) _ 0 ne)

other_bit : (words : List ℕ) (slot s : ℕ) → length words ≡ 64 → slot < 4096 → s / 64 ≡ slot / 64 → s % 64 ≢ slot % 64 → has_slot (of_words (with_bit words slot)) s ≡ has_slot (of_words words) s
unfolding has_slot
other_bit words slot s n h e ne =
    let within : slot / 64 < length words = omega (arith, n, h) in
    let low : slot % 64 < 64 = omega arith in
    ap (λ k. nat_eq (bit_at (get_or (with_bit words slot) k 0) (s % 64)) 1) e
    ∙ ap (λ w. nat_eq (bit_at w (s % 64)) 1) (get_or-set_same words (slot / 64) _ 0 within)
    ∙ ap (λ b. nat_eq b 1) (bit_at_set_other w64 (get_or words (slot / 64) 0) (slot % 64) low (s % 64) ne)
    ∙ ap (λ k. nat_eq (bit_at (get_or words k 0) (s % 64)) 1) (sym e)

pub bit_set : (words : List ℕ) (slot : ℕ) → length words ≡ 64 → slot < 4096 → (s : ℕ) → has_slot (of_words (with_bit words slot)) s ≡ (nat_eq s slot || has_slot (of_words words) s)
bit_set words slot n h s =
    ⊎_elim
    (λ e. ap (has_slot (of_words (with_bit words slot))) e ∙ same_slot words slot n h ∙ sym (ap (λ b. b || has_slot (of_words words) s) (eq-eqb s slot e)))
    (λ ne.
    ⊎_elim
    (λ word. other_bit words slot s n h word (λ bit. ne (omega (arith, div-add-mod' s 64, div-add-mod' slot 64, word, bit))))
    (λ word. other_word words slot s word)
    (cases_eq (s / 64) (slot / 64))
    ∙ sym (ap (λ b. b || has_slot (of_words words) s) (ne_eqb s slot ne)))
    (cases_eq s slot)

zero_word : (k : ℕ) → get_or (replicate {A = ℕ} 64 0) k 0 ≡ 0
zero_word k =
    ⊎_elim
    (λ h. get_or-replicate 64 k 0 0 h)
    (λ h. get_or_past (replicate {A = ℕ} 64 0) k 0 (omega (arith, h, length-replicate {A = ℕ} 64 0)))
    (cases_lt k 64)

pub no_bit : (s : ℕ) → has_slot (of_words (replicate 64 0)) s ≡ false
unfolding has_slot
no_bit s = ap (λ w. nat_eq (bit_at w (s % 64)) 1) (zero_word (s / 64)) ∙ ap (λ b. nat_eq b 1) (bit_at-zero (s % 64))
