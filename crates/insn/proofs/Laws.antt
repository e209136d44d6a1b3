-- The function `decoded` is the relations `Decodes` and `Refuses`.
use Rattle.std.proofs.Common.{◌≡◌, ℕ, ◌*◌, ◌%◌, ◌<◌, ◌≤◌, Bool, true, false, List, length, Option, Some, None, refl, sym, ap, ◌∙◌, arith, subst}
use Rattle.std.specs.Prelude.{Ok, Err, ◌==◌, nat_lt}
use Rattle.std.specs.List.{flat_map}
use Rattle.std.proofs.lemmas.Bool.Decides.{nat_tests}
use Rattle.insn.specs.declared.instruction.Form.{Form}
use Rattle.insn.specs.declared.instruction.TheConstants.{MAX_SLOTS}
use Rattle.insn.specs.declared.decoding.DecodeFault.{DecodeFault}
use Rattle.insn.specs.declared.decoding.DecodeRefusal.{DecodeRefusal}
use Rattle.insn.specs.Encoding.{slot_bytes, program_slots}
use Rattle.insn.specs.Refusal.{slots_in, AreBytes, Decodes, Refuses, RefusesBy, length_fault}
use Rattle.insn.specs.Decoded.{decoded, program_from, unless_refused}
use Rattle.insn.proofs.Slots.{slots_fit, slots_back, slots_again, length_slots, slot_bytes_length, size_is}
use Rattle.insn.proofs.Programs.{Explained, explained, reads_program, refuses_fault}
use Rattle.insn.proofs.Fit.{program_fits}

-- how many bytes a program has
pub record Lengths (n : ℕ) : Type 0 where
  pub whole : n % 8 ≡ 0
  pub some : 0 < n
  pub few : n ≤ 8 * MAX_SLOTS

pub no_length_fault : (n : ℕ) → Lengths n → length_fault n ≡ None
no_length_fault n h =
    let a : (n % 8 == 0) ≡ true = grind (arith, nat_tests, h.whole) in
    let b : (n == 0) ≡ false = grind (arith, nat_tests, h.some) in
    let c : nat_lt (8 * MAX_SLOTS) n ≡ false = grind (arith, nat_tests, h.few) in
    rw (a, b, c) refl

pub good_length : (n : ℕ) → length_fault n ≡ None → Lengths n
good_length n e = by (n % 8 == 0) (n == 0) (nat_lt (8 * MAX_SLOTS) n) refl refl refl
  where
    by : (a b c : Bool) → (n % 8 == 0) ≡ a → (n == 0) ≡ b → nat_lt (8 * MAX_SLOTS) n ≡ c → Lengths n
    by true false false p q r = record { whole = grind (arith, nat_tests); some = grind (arith, nat_tests); few = grind (arith, nat_tests) }
    by false b c p q r = let g = rw p at e in cc
    by true true c p q r = let g = rw (p, q) at e in cc
    by true false true p q r = let g = rw (p, q, r) at e in cc

lengths : (bytes : List ℕ) (p : List Form) → Decodes bytes p → Lengths (length bytes)
lengths bytes p d =
    let n : length bytes ≡ 8 * length (program_slots p) = ap length d.spelled ∙ slot_bytes_length (program_slots p) in
    record { whole = omega (arith, n); some = omega (arith, d.some, n, size_is p); few = omega (arith, d.few, n, size_is p) }

-- ---- by what is wrong with the number of bytes

pub decoded_as : (bytes : List ℕ) (o : Option DecodeFault) → length_fault (length bytes) ≡ o → decoded bytes ≡ unless_refused o (program_from 0 false (slots_in bytes))
unfolding decoded
decoded_as bytes o e = ap (λ x. unless_refused x (program_from 0 false (slots_in bytes))) e

pub spelled_is_read : (bytes : List ℕ) (p : List Form) → Decodes bytes p → decoded bytes ≡ Ok p
spelled_is_read bytes p d =
    decoded_as bytes None (no_length_fault (length bytes) (lengths bytes p d))
    ∙ ap (λ b. program_from 0 false (slots_in b)) d.spelled
    ∙ ap (program_from 0 false) (slots_again (program_slots p) (program_fits p d.each))
    ∙ reads_program p d.each

pub read_is_spelled : (bytes : List ℕ) (p : List Form) → AreBytes bytes → decoded bytes ≡ Ok p → Decodes bytes p
read_is_spelled bytes p h e = by (length_fault (length bytes)) refl
  where
    by : (o : Option DecodeFault) → length_fault (length bytes) ≡ o → Decodes bytes p
    by (Some why) f = let g = sym (decoded_as bytes (Some why) f) ∙ e in cc
    by None f =
        let n = good_length (length bytes) f in
        let read : program_from 0 false (slots_in bytes) ≡ Ok p = sym (decoded_as bytes None f) ∙ e in
        let x = subst (Explained 0 (slots_in bytes)) read (explained 0 (slots_in bytes) (slots_fit bytes h)) in
        let count : length (slots_in bytes) ≡ length (program_slots p) = ap length x.1 in
        record {
          each = x.0;
          spelled = sym (slots_back bytes h n.whole) ∙ ap (flat_map slot_bytes) x.1;
          some = omega (arith, n.some, length_slots bytes n.whole, count, size_is p);
          few = omega (arith, n.few, length_slots bytes n.whole, count, size_is p);
        }

pub read_is_refused : (bytes : List ℕ) (e : DecodeRefusal) → AreBytes bytes → decoded bytes ≡ Err e → Refuses bytes e
read_is_refused bytes e h d = by (length_fault (length bytes)) refl
  where
    by : (o : Option DecodeFault) → length_fault (length bytes) ≡ o → Refuses bytes e
    by (Some why) f =
        let g = sym (decoded_as bytes (Some why) f) ∙ d in
        let same : e ≡ record { slot = 0; why = why } = cc in
        subst (λ o. RefusesBy o bytes e) (sym f) same
    by None f =
        let read : program_from 0 false (slots_in bytes) ≡ Err e = sym (decoded_as bytes None f) ∙ d in
        let x = subst (Explained 0 (slots_in bytes)) read (explained 0 (slots_in bytes) (slots_fit bytes h)) in
        subst (λ o. RefusesBy o bytes e) (sym f) (record { before = x.before; each = x.each; rest = x.rest; joined = x.joined; place = omega (arith, x.place); first = x.first })

pub refused_is_read : (bytes : List ℕ) (e : DecodeRefusal) → Refuses bytes e → decoded bytes ≡ Err e
refused_is_read bytes e r = by (length_fault (length bytes)) refl
  where
    by : (o : Option DecodeFault) → length_fault (length bytes) ≡ o → decoded bytes ≡ Err e
    by (Some why) f = decoded_as bytes (Some why) f ∙ ap Err (sym (subst (λ o. RefusesBy o bytes e) f r))
    by None f = decoded_as bytes None f ∙ refuses_fault (slots_in bytes) e (subst (λ o. RefusesBy o bytes e) f r)
