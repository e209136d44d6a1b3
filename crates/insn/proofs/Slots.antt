-- Bytes cut into slots, and slots written as bytes.
use Rattle.std.proofs.Common.{◌≡◌, ℕ, zero, suc, ◌+◌, ◌*◌, ◌/◌, ◌%◌, ◌^◌, ◌<◌, ◌≤◌, List, [], ◌∷◌, ◌++◌, length, get_or, drop, refl, sym, ap, ◌∙◌, arith, drop-cons, length-append, subst}
use Rattle.std.specs.Prelude.{ℤ, pos, negsuc, FitsSigned}
use Rattle.std.specs.List.{flat_map, AllByRecursion}
use Rattle.std.proofs.Math.Seq.{drop-length}
use Rattle.std.specs.Int.{w16, w32, cast_unsigned, cast_signed, to_le_bytes, from_le_bytes}
use Rattle.std.proofs.lemmas.Int.{of_z-to_z, to_z-of_z, ints}
use Rattle.std.proofs.lemmas.Nat.{le_bytes_2, le_bytes_4, from_le_bytes-to_le_bytes_2, from_le_bytes-to_le_bytes_4}
use Rattle.insn.specs.declared.instruction.Fields.{Fields}
use Rattle.insn.specs.declared.instruction.Form.{Form}
use Rattle.insn.specs.declared.instruction.Form.TheVariants.{Imm64, MapRef}
use Rattle.insn.specs.Encoding.{slot_bytes, slots, program_slots}
use Rattle.insn.specs.Layout.{slot_count, slot_contents, layout, size}
use Rattle.insn.specs.Refusal.{slots_in, AreBytes}

-- what the fields of a slot that bytes are may be
pub record FieldsFit (f : Fields) : Type 0 where
  pub dst : f.dst < 16
  pub src : f.src < 16
  pub offset : FitsSigned w16 f.offset
  pub imm : FitsSigned w32 f.imm

-- ---- the number in two or four bytes

half_of : (a b : ℕ) → a < 256 → b < 256 → from_le_bytes w16 (a ∷ b ∷ []) < 2 ^ 16
half_of a b p q = omega arith

word_of : (a b c d : ℕ) → a < 256 → b < 256 → c < 256 → d < 256 → from_le_bytes w32 (a ∷ b ∷ c ∷ d ∷ []) < 2 ^ 32
word_of a b c d p q r s = omega arith

half_fits : (n : ℕ) → n < 2 ^ 16 → FitsSigned w16 (cast_signed w16 n)
half_fits n h = omega (arith, ints)

pub word_fits : (n : ℕ) → n < 2 ^ 32 → FitsSigned w32 (cast_signed w32 n)
word_fits n h = omega (arith, ints)

in2 : (a b : ℕ) → a < 256 → b < 256 → (i : ℕ) → get_or (a ∷ b ∷ []) i 0 < 256
in2 a b p q zero = p
in2 a b p q (suc zero) = q
in2 a b p q (suc (suc i)) = omega arith

in4 : (a b c d : ℕ) → a < 256 → b < 256 → c < 256 → d < 256 → (i : ℕ) → get_or (a ∷ b ∷ c ∷ d ∷ []) i 0 < 256
in4 a b c d p q r s zero = p
in4 a b c d p q r s (suc zero) = q
in4 a b c d p q r s (suc (suc zero)) = r
in4 a b c d p q r s (suc (suc (suc zero))) = s
in4 a b c d p q r s (suc (suc (suc (suc i)))) = omega arith

half_back : (a b : ℕ) → a < 256 → b < 256 → to_le_bytes w16 (cast_unsigned w16 (cast_signed w16 (from_le_bytes w16 (a ∷ b ∷ [])))) ≡ a ∷ b ∷ []
half_back a b p q =
    ap (to_le_bytes w16) (of_z-to_z w16 _ (half_of a b p q)) ∙ le_bytes_2 (a ∷ b ∷ []) _ refl (in2 a b p q) refl

word_back : (a b c d : ℕ) → a < 256 → b < 256 → c < 256 → d < 256 → to_le_bytes w32 (cast_unsigned w32 (cast_signed w32 (from_le_bytes w32 (a ∷ b ∷ c ∷ d ∷ [])))) ≡ a ∷ b ∷ c ∷ d ∷ []
word_back a b c d p q r s =
    ap (to_le_bytes w32) (of_z-to_z w32 _ (word_of a b c d p q r s)) ∙ le_bytes_4 (a ∷ b ∷ c ∷ d ∷ []) _ refl (in4 a b c d p q r s) refl

byte_back : (r : ℕ) → r % 16 + 16 * (r / 16) ≡ r
byte_back r = omega arith

-- ---- bytes to slots and back

pub slots_fit : (bytes : List ℕ) → AreBytes bytes → AllByRecursion FieldsFit (slots_in bytes)
slots_fit (o ∷ r ∷ a ∷ b ∷ c ∷ d ∷ e ∷ f ∷ rest) h = (
  record { dst = omega arith; src = omega (arith, h.1.0); offset = half_fits _ (half_of a b h.1.1.0 h.1.1.1.0); imm = word_fits _ (word_of c d e f h.1.1.1.1.0 h.1.1.1.1.1.0 h.1.1.1.1.1.1.0 h.1.1.1.1.1.1.1.0) },
  slots_fit rest h.1.1.1.1.1.1.1.1,
)
slots_fit bytes h = tt

pub slots_back : (bytes : List ℕ) → AreBytes bytes → length bytes % 8 ≡ 0 → flat_map slot_bytes (slots_in bytes) ≡ bytes
slots_back (o ∷ r ∷ a ∷ b ∷ c ∷ d ∷ e ∷ f ∷ rest) h n =
    ap (λ x. o ∷ x ∷ ((to_le_bytes w16 (cast_unsigned w16 (cast_signed w16 (from_le_bytes w16 (a ∷ b ∷ [])))) ++ to_le_bytes w32 (cast_unsigned w32 (cast_signed w32 (from_le_bytes w32 (c ∷ d ∷ e ∷ f ∷ []))))) ++ flat_map slot_bytes (slots_in rest))) (byte_back r)
    ∙ ap (λ x. o ∷ r ∷ ((x ++ to_le_bytes w32 (cast_unsigned w32 (cast_signed w32 (from_le_bytes w32 (c ∷ d ∷ e ∷ f ∷ []))))) ++ flat_map slot_bytes (slots_in rest))) (half_back a b h.1.1.0 h.1.1.1.0)
    ∙ ap (λ x. o ∷ r ∷ a ∷ b ∷ (x ++ flat_map slot_bytes (slots_in rest))) (word_back c d e f h.1.1.1.1.0 h.1.1.1.1.1.0 h.1.1.1.1.1.1.0 h.1.1.1.1.1.1.1.0)
    ∙ ap (λ x. o ∷ r ∷ a ∷ b ∷ c ∷ d ∷ e ∷ f ∷ x) (slots_back rest h.1.1.1.1.1.1.1.1 (omega arith))
slots_back [] h n = refl
slots_back bytes h n = absurd (omega arith)

pub length_slots : (bytes : List ℕ) → length bytes % 8 ≡ 0 → length bytes ≡ 8 * length (slots_in bytes)
length_slots (o ∷ r ∷ a ∷ b ∷ c ∷ d ∷ e ∷ f ∷ rest) n = omega (arith, length_slots rest (omega arith))
length_slots [] n = refl
length_slots bytes n = absurd (omega arith)

half_small : (z : ℤ) → FitsSigned w16 z → cast_unsigned w16 z < 2 ^ 16
half_small (pos n) h = let m = h.sfits in omega arith
half_small (negsuc n) h = omega arith

pub word_small : (z : ℤ) → FitsSigned w32 z → cast_unsigned w32 z < 2 ^ 32
word_small (pos n) h = let m = h.sfits in omega arith
word_small (negsuc n) h = omega arith

half_again : (z : ℤ) → FitsSigned w16 z → cast_signed w16 (from_le_bytes w16 (to_le_bytes w16 (cast_unsigned w16 z))) ≡ z
half_again z h = ap (cast_signed w16) (from_le_bytes-to_le_bytes_2 _ (half_small z h)) ∙ to_z-of_z w16 z h

word_again : (z : ℤ) → FitsSigned w32 z → cast_signed w32 (from_le_bytes w32 (to_le_bytes w32 (cast_unsigned w32 z))) ≡ z
word_again z h = ap (cast_signed w32) (from_le_bytes-to_le_bytes_4 _ (word_small z h)) ∙ to_z-of_z w32 z h

pub slots_again : (fs : List Fields) → AllByRecursion FieldsFit fs → slots_in (flat_map slot_bytes fs) ≡ fs
slots_again [] h = refl
slots_again (f ∷ fs) h =
    let dst : (f.dst + 16 * f.src) % 16 ≡ f.dst = omega (arith, h.0.dst) in
    let src : (f.dst + 16 * f.src) / 16 ≡ f.src = omega (arith, h.0.dst) in
    let offset = half_again f.offset h.0.offset in
    let imm = word_again f.imm h.0.imm in
    let rest = slots_again fs h.1 in
    λ i. record { opcode = f.opcode; dst = dst i; src = src i; offset = offset i; imm = imm i } ∷ rest i

pub all_drop : {A : Type 0} (P : A → Type 0) (n : ℕ) (xs : List A) → AllByRecursion P xs → AllByRecursion P (drop n xs)
all_drop P zero xs h = h
all_drop P (suc n) [] h = h
all_drop P (suc n) (x ∷ xs) h = all_drop P n xs h.1

-- a byte slice holds bytes
pub are_bytes : (bytes : List ℕ) → ((i : ℕ) → get_or bytes i 0 < 256) → AreBytes bytes
are_bytes [] h = tt
are_bytes (b ∷ bytes) h = (h 0, are_bytes bytes (λ i. h (suc i)))

-- ---- the slot at a place

abbrev at_slot : ℕ → List ℕ → List ℕ
at_slot at bs =
    get_or bs at 0 ∷ get_or bs (at + 1) 0 ∷ get_or bs (at + 2) 0 ∷ get_or bs (at + 3) 0 ∷ get_or bs (at + 4) 0 ∷ get_or bs (at + 5) 0 ∷ get_or bs (at + 6) 0 ∷ get_or bs (at + 7) 0 ∷ drop (at + 8) bs

next_byte : (bs : List ℕ) (n m : ℕ) → n < length bs → m ≡ suc n → drop n bs ≡ get_or bs n 0 ∷ drop m bs
next_byte bs n m h e = drop-cons bs n 0 h ∙ ap (λ k. get_or bs n 0 ∷ drop k bs) (sym e)

pub drop_slot : (bs : List ℕ) (at : ℕ) → at + 8 ≤ length bs → drop at bs ≡ at_slot at bs
drop_slot bs at h =
    let a = next_byte bs at (at + 1) (omega arith) (omega arith) in
    let b = next_byte bs (at + 1) (at + 2) (omega arith) (omega arith) in
    let c = next_byte bs (at + 2) (at + 3) (omega arith) (omega arith) in
    let d = next_byte bs (at + 3) (at + 4) (omega arith) (omega arith) in
    let e = next_byte bs (at + 4) (at + 5) (omega arith) (omega arith) in
    let f = next_byte bs (at + 5) (at + 6) (omega arith) (omega arith) in
    let g = next_byte bs (at + 6) (at + 7) (omega arith) (omega arith) in
    let i = next_byte bs (at + 7) (at + 8) (omega arith) (omega arith) in
    cc

-- the slots from a place on
pub slots_drop : (n : ℕ) (bytes : List ℕ) → 8 * n ≤ length bytes → slots_in (drop (8 * n) bytes) ≡ drop n (slots_in bytes)
slots_drop zero bytes h = refl
slots_drop (suc n) (o ∷ r ∷ a ∷ b ∷ c ∷ d ∷ e ∷ f ∷ rest) h =
    let m : 8 * suc n ≡ suc (suc (suc (suc (suc (suc (suc (suc (8 * n)))))))) = omega arith in
    ap (λ k. slots_in (drop k (o ∷ r ∷ a ∷ b ∷ c ∷ d ∷ e ∷ f ∷ rest))) m ∙ slots_drop n rest (omega arith)
slots_drop (suc n) bytes h = absurd (omega arith)

-- ---- how many slots

pub count_is : (i : Form) → length (slots i) ≡ slot_count i
count_is (Imm64 dst value) = refl
count_is (MapRef dst index) = refl
count_is i = refl

pub size_is : (p : List Form) → size p ≡ length (program_slots p)
size_is [] = refl
size_is (i ∷ p) =
    length-append (slot_contents i) (layout p) ∙ omega (arith, count_is i, size_is p, length-append (slots i) (program_slots p))

pub slot_bytes_length : (fs : List Fields) → length (flat_map slot_bytes fs) ≡ 8 * length fs
slot_bytes_length [] = refl
slot_bytes_length (f ∷ fs) = length-append (slot_bytes f) (flat_map slot_bytes fs) ∙ omega (arith, slot_bytes_length fs)

-- ---- a slot that was read

half_read : (a b : ℕ) (z : ℤ) → a < 256 → b < 256 → z ≡ cast_signed w16 (from_le_bytes w16 (a ∷ b ∷ [])) → cast_signed w16 (from_le_bytes w16 (a ∷ b ∷ [])) ≡ cast_signed w16 (cast_unsigned w16 z)
half_read a b z p q e =
    ap (cast_signed w16) (sym (of_z-to_z w16 _ (half_of a b p q)) ∙ ap (cast_unsigned w16) (sym e))

word_read : (a b c d : ℕ) (z : ℤ) → a < 256 → b < 256 → c < 256 → d < 256 → z ≡ cast_signed w32 (from_le_bytes w32 (a ∷ b ∷ c ∷ d ∷ [])) → cast_signed w32 (from_le_bytes w32 (a ∷ b ∷ c ∷ d ∷ [])) ≡ cast_signed w32 (cast_unsigned w32 z)
word_read a b c d z p q r s e =
    ap (cast_signed w32) (sym (of_z-to_z w32 _ (word_of a b c d p q r s)) ∙ ap (cast_unsigned w32) (sym e))

pub slot_read : (bs : List ℕ) (at : ℕ) (y z : ℤ) → at + 8 ≤ length bs → ((i : ℕ) → get_or bs i 0 < 256) → y ≡ cast_signed w16 (get_or bs (at + 2) 0 + get_or bs (at + 3) 0 * 256) → z ≡ cast_signed w32 (get_or bs (at + 4) 0 + get_or bs (at + 5) 0 * 256 + get_or bs (at + 6) 0 * 65536 + get_or bs (at + 7) 0 * 16777216) → slots_in (drop at bs) ≡ record { opcode = get_or bs at 0; dst = get_or bs (at + 1) 0 % 16; src = get_or bs (at + 1) 0 / 16; offset = cast_signed w16 (cast_unsigned w16 y); imm = cast_signed w32 (cast_unsigned w32 z) } ∷ slots_in (drop (at + 8) bs)
slot_read bs at y z h b e f =
    let offset = half_read (get_or bs (at + 2) 0) (get_or bs (at + 3) 0) y (b _) (b _) e in
    let imm = word_read (get_or bs (at + 4) 0) (get_or bs (at + 5) 0) (get_or bs (at + 6) 0) (get_or bs (at + 7) 0) z (b _) (b _) (b _) (b _) f in
    ap slots_in (drop_slot bs at h)
    ∙ (λ i. record { opcode = get_or bs at 0; dst = get_or bs (at + 1) 0 % 16; src = get_or bs (at + 1) 0 / 16; offset = offset i; imm = imm i } ∷ slots_in (drop (at + 8) bs))

pub slot_fits : (bs : List ℕ) (n : ℕ) (f : Fields) (rest : List Fields) → AreBytes bs → slots_in (drop n bs) ≡ f ∷ rest → FieldsFit f
slot_fits bs n f rest h e =
    (subst (AllByRecursion FieldsFit) e (slots_fit (drop n bs) (all_drop (λ b. b < 256) n bs h))).0

pub two_slots : (bs : List ℕ) (at : ℕ) (f g : Fields) (rest : List Fields) → slots_in (drop (8 * at) bs) ≡ f ∷ slots_in (drop (8 * at + 8) bs) → slots_in (drop (8 * (at + 1)) bs) ≡ g ∷ rest → slots_in (drop (8 * at) bs) ≡ f ∷ g ∷ rest
two_slots bs at f g rest a b =
    let e : 8 * at + 8 ≡ 8 * (at + 1) = omega arith in
    a ∙ ap (λ k. f ∷ slots_in (drop k bs)) e ∙ ap (λ x. f ∷ x) b

-- the last slot of whole slots
pub last_slot : (bs : List ℕ) (at : ℕ) (f : Fields) → length bs % 8 ≡ 0 → 8 * at + 8 ≤ length bs → length bs < 8 * at + 16 → slots_in (drop (8 * at) bs) ≡ f ∷ slots_in (drop (8 * at + 8) bs) → slots_in (drop (8 * at) bs) ≡ f ∷ []
last_slot bs at f whole within short a =
    let e : 8 * at + 8 ≡ length bs = omega arith in
    a ∙ ap (λ k. f ∷ slots_in (drop k bs)) e ∙ ap (λ x. f ∷ slots_in x) (drop-length bs)
