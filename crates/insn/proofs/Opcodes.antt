-- A slot that breaks no rule is an instruction's, row by row of the table of opcodes.
use Rattle.std.proofs.Common.{◌≡◌, ℕ, ◌+◌, ◌*◌, ◌/◌, ◌%◌, ◌^◌, ◌≤◌, Bool, true, false, List, [], ◌∷◌, Some, refl, sym, ap, ◌∙◌, inl, inr, arith, subst}
use Rattle.std.specs.Prelude.{ℤ, pos, ◌==◌, ◌||◌, ◌&&◌, ◌⊎◌, not, map, find, option_map, FitsSigned}
use Rattle.std.specs.Int.{w32, cast_unsigned, cast_signed}
use Rattle.std.specs.Ordering.{int_eq}
use Rattle.std.specs.Cmp.{signed_Decides}
use Rattle.std.specs.List.{list_any, AllByRecursion}
use Rattle.std.proofs.lemmas.Bool.Decides.{nat_tests}
use Rattle.std.proofs.lemmas.Int.{to_z-of_z}
use Rattle.std.proofs.lemmas.Bool.{not-false}
use Rattle.insn.specs.declared.instruction.Source.TheVariants.{Reg, Imm}
use Rattle.insn.specs.declared.instruction.Operation.{Operation}
use Rattle.insn.specs.declared.instruction.Operation.TheVariants.{Add, Sub, Mul, Div, Or, And, Lsh, Rsh, Mod, Xor, Mov, Arsh, Sdiv, Smod}
use Rattle.insn.specs.declared.instruction.Order.{Order}
use Rattle.insn.specs.declared.instruction.Order.TheVariants.{Little, Big, Always}
use Rattle.insn.specs.declared.instruction.Size.{Size}
use Rattle.insn.specs.declared.instruction.Size.TheVariants.{Word, Half, Byte, Double}
use Rattle.insn.specs.declared.instruction.Condition.{Condition}
use Rattle.insn.specs.declared.instruction.Condition.TheVariants.{Jeq, Jgt, Jge, Jset, Jne, Jsgt, Jsge, Jlt, Jle, Jslt, Jsle}
use Rattle.insn.specs.declared.instruction.Fields.{Fields}
use Rattle.insn.specs.declared.instruction.Form.{Form}
use Rattle.insn.specs.declared.instruction.Form.TheVariants.{Alu, Neg, MovSx, Swap, Load, Store, Imm64, MapRef, Ja, Branch, Call, Exit}
use Rattle.opcodes.specs.declared.Use.TheVariants.{Unused, AnyValue, Signedness, Extension, Extension64, SwapBits, WideSource, OnlyZero}
use Rattle.opcodes.specs.declared.Use.{Use}
use Rattle.opcodes.specs.declared.Uses.{Uses}
use Rattle.insn.specs.Encoding.{slot, slots, HasEncoding, alu_class, jump_class, operation_code, operation_offset, condition_code, swap_opcode, size_code, load_mode, MayLoad, low_imm}
use Rattle.opcodes.specs.Table.{Row, table, uses_of, is_among}
use Rattle.insn.specs.Refusal.{is_wide, is_bad_half}
use Rattle.insn.specs.Decoded.{wide_form}
use Rattle.insn.proofs.Slots.{FieldsFit, word_small}
use Rattle.insn.proofs.Rows.{or_left, or_right, FitsUse, FollowsUses, Clean}

-- one slot that an instruction spells
pub record IsSpelled (f : Fields) : Type 0 where
  pub form : Form
  pub encoded : HasEncoding form
  pub spelled : slots form ≡ f ∷ []

-- a slot with this opcode that has these uses is an instruction's, if that is not wide
abbrev IsRead : Uses → ℕ → Type 0
IsRead u o = (f : Fields) → (o == 0x18) ≡ false → f.opcode ≡ o → FieldsFit f → f.dst ≤ 10 → f.src ≤ 10 → FollowsUses u f → IsSpelled f

abbrev uses : Use → Use → Use → Use → Uses
uses dst src offset imm = record { dst = dst; src = src; offset = offset; imm = imm }

same_slot : (f : Fields) (o dst src : ℕ) (offset imm : ℤ) → o ≡ f.opcode → dst ≡ f.dst → src ≡ f.src → offset ≡ f.offset → imm ≡ f.imm → slot o dst src offset imm ≡ f
same_slot f o dst src offset imm a b c d e =
    λ i. record { opcode = a i; dst = b i; src = c i; offset = d i; imm = e i }

-- the one slot of a form is f
pub is_slot : (i : Form) (f : Fields) (o dst src : ℕ) (offset imm : ℤ) → HasEncoding i → slots i ≡ slot o dst src offset imm ∷ [] → o ≡ f.opcode → dst ≡ f.dst → src ≡ f.src → offset ≡ f.offset → imm ≡ f.imm → IsSpelled f
is_slot i f o dst src offset imm h s a b c d e =
    record { form = i; encoded = h; spelled = s ∙ ap (λ x. x ∷ []) (same_slot f o dst src offset imm a b c d e) }

zero_of : (n : ℕ) → pos n ≡ pos 0 → 0 ≡ n
zero_of n e = cc

-- what holds at each value holds at one among them
among_ints : (P : ℤ → Type 0) (z : ℤ) (values : List ℤ) → list_any (int_eq z) values ≡ true → AllByRecursion P values → P z
among_ints P z [] e h = cc
among_ints P z (v ∷ vs) e h = by (int_eq z v) refl (λ g. among_ints P z vs g h.1)
  where
    by : (b : Bool) → int_eq z v ≡ b → (list_any (int_eq z) vs ≡ true → P z) → P z
    by true q rest = subst P (sym ((signed_Decides z v).0 q)) h.0
    by false q rest = rest (rw q at e)

among : (P : ℕ → Type 0) (o : ℕ) (os : List ℕ) → is_among o os ≡ true → AllByRecursion P os → P o
among P o [] e h = cc
among P o (x ∷ os) e h = by (o == x) refl (λ g. among P o os g h.1)
  where
    by : (b : Bool) → (o == x) ≡ b → (is_among o os ≡ true → P o) → P o
    by true q rest = let same : o ≡ x = grind (arith, nat_tests) in subst P (sym same) h.0
    by false q rest = rest (rw q at e)

-- what holds of each kind of opcode holds of each opcode
each_of : {A : Type 0} (Q : A → Type 0) (P : ℕ → Type 0) (opcode : A → ℕ) (xs : List A) → ((x : A) → Q x → P (opcode x)) → AllByRecursion Q xs → AllByRecursion P (map opcode xs)
each_of Q P opcode [] h q = tt
each_of Q P opcode (x ∷ xs) h q = (h x q.0, each_of Q P opcode xs h q.1)

every : {A : Type 0} (P : ℕ → Type 0) (opcode : A → ℕ) (xs : List A) → ((x : A) → P (opcode x)) → AllByRecursion P (map opcode xs)
every P opcode [] h = tt
every P opcode (x ∷ xs) h = (h x, every P opcode xs h)

-- what holds of each row holds of the uses of an opcode
abbrev EachRow : (Uses → ℕ → Type 0) → List Row → Type 0
EachRow P rows = AllByRecursion (λ r. AllByRecursion (P r.uses) r.opcodes) rows

at_row : (P : Uses → ℕ → Type 0) (o : ℕ) (u : Uses) (rows : List Row) → EachRow P rows → option_map (λ r. r.uses) (find (λ r. is_among o r.opcodes) rows) ≡ Some u → P u o
at_row P o u [] h e = cc
at_row P o u (r ∷ rows) h e = by (is_among o r.opcodes) refl (λ g. at_row P o u rows h.1 g)
  where
    by : (b : Bool) → is_among o r.opcodes ≡ b → (option_map (λ x. x.uses) (find (λ x. is_among o x.opcodes) rows) ≡ Some u → P u o) → P u o
    by true q rest =
        let g = rw q at e in
        let same : r.uses ≡ u = cc in
        subst (λ x. P x o) same (among (P r.uses) o r.opcodes q h.0)
    by false q rest = rest (rw q at e)

-- ---- arithmetic

abbrev IsUnsigned : Operation → Type 0
IsUnsigned op = operation_offset op ≡ pos 0

alu_imm : (w64 : Bool) (op : Operation) → IsUnsigned op → IsRead (uses AnyValue Unused Unused AnyValue) (16 * operation_code op + alu_class w64)
alu_imm w64 op z f w o fit dst src row =
    is_slot (Alu w64 op f.dst (Imm f.imm)) f _ f.dst 0 (operation_offset op) f.imm (dst, fit.imm) refl (sym o) refl (zero_of f.src row.1) (z ∙ sym row.2) refl

alu_reg : (w64 : Bool) (op : Operation) → IsUnsigned op → IsRead (uses AnyValue AnyValue Unused Unused) (16 * operation_code op + alu_class w64 + 8)
alu_reg w64 op z f w o fit dst src row =
    is_slot (Alu w64 op f.dst (Reg f.src)) f _ f.dst f.src (operation_offset op) (pos 0) (dst, src) refl (sym o) refl refl (z ∙ sym row.2) (sym row.3)

-- a division or remainder without a sign, and the same with one
pub record IsDivision (op signed : Operation) : Type 0 where
  pub unsigned_offset : operation_offset op ≡ pos 0
  pub signed_offset : operation_offset signed ≡ pos 1
  pub same_code : operation_code signed ≡ operation_code op

div : IsDivision Div Sdiv
div = record { unsigned_offset = refl; signed_offset = refl; same_code = refl }

mod_ : IsDivision Mod Smod
mod_ = record { unsigned_offset = refl; signed_offset = refl; same_code = refl }

div_imm : (w64 : Bool) (op signed : Operation) → IsDivision op signed → IsRead (uses AnyValue Unused Signedness AnyValue) (16 * operation_code op + alu_class w64)
div_imm w64 op signed d f w o fit dst src row =
    let spelled : (i : Operation) → operation_code i ≡ operation_code op → operation_offset i ≡ f.offset → IsSpelled f =
    λ i c z. is_slot (Alu w64 i f.dst (Imm f.imm)) f _ f.dst 0 (operation_offset i) f.imm (dst, fit.imm) refl (ap (λ n. 16 * n + alu_class w64) c ∙ sym o) refl (zero_of f.src row.1) z refl in
    among_ints (λ z. z ≡ f.offset → IsSpelled f) f.offset (pos 0 ∷ pos 1 ∷ []) row.2 (λ e. spelled op refl (d.unsigned_offset ∙ e), (λ e. spelled signed d.same_code (d.signed_offset ∙ e), tt)) refl

div_reg : (w64 : Bool) (op signed : Operation) → IsDivision op signed → IsRead (uses AnyValue AnyValue Signedness Unused) (16 * operation_code op + alu_class w64 + 8)
div_reg w64 op signed d f w o fit dst src row =
    let spelled : (i : Operation) → operation_code i ≡ operation_code op → operation_offset i ≡ f.offset → IsSpelled f =
    λ i c z. is_slot (Alu w64 i f.dst (Reg f.src)) f _ f.dst f.src (operation_offset i) (pos 0) (dst, src) refl (ap (λ n. 16 * n + alu_class w64 + 8) c ∙ sym o) refl refl z (sym row.3) in
    among_ints (λ z. z ≡ f.offset → IsSpelled f) f.offset (pos 0 ∷ pos 1 ∷ []) row.2 (λ e. spelled op refl (d.unsigned_offset ∙ e), (λ e. spelled signed d.same_code (d.signed_offset ∙ e), tt)) refl

mov : IsRead (uses AnyValue AnyValue Extension Unused) 0xbc
mov f w o fit dst src row =
    let extends : (bits : ℕ) → (bits ≡ 8) ⊎ (bits ≡ 16) → pos bits ≡ f.offset → IsSpelled f =
    λ bits may z. is_slot (MovSx false bits f.dst f.src) f 0xbc f.dst f.src (pos bits) (pos 0) (dst, src, may) refl (sym o) refl refl z (sym row.3) in
    among_ints (λ z. z ≡ f.offset → IsSpelled f) f.offset (pos 0 ∷ pos 8 ∷ pos 16 ∷ []) row.2 (λ z. is_slot (Alu false Mov f.dst (Reg f.src)) f 0xbc f.dst f.src (pos 0) (pos 0) (dst, src) refl (sym o) refl refl z (sym row.3), (extends 8 (inl refl), (extends 16 (inr refl), tt))) refl

mov64 : IsRead (uses AnyValue AnyValue Extension64 Unused) 0xbf
mov64 f w o fit dst src row =
    let extends : (bits : ℕ) → ((bits ≡ 8) ⊎ (bits ≡ 16)) ⊎ (bits ≡ 32) → pos bits ≡ f.offset → IsSpelled f =
    λ bits may z. is_slot (MovSx true bits f.dst f.src) f 0xbf f.dst f.src (pos bits) (pos 0) (dst, src, may) refl (sym o) refl refl z (sym row.3) in
    among_ints (λ z. z ≡ f.offset → IsSpelled f) f.offset (pos 0 ∷ pos 8 ∷ pos 16 ∷ pos 32 ∷ []) row.2 (λ z. is_slot (Alu true Mov f.dst (Reg f.src)) f 0xbf f.dst f.src (pos 0) (pos 0) (dst, src) refl (sym o) refl refl z (sym row.3), (extends 8 (inl (inl refl)), (extends 16 (inl (inr refl)), (extends 32 (inr refl), tt)))) refl

neg : (w64 : Bool) → IsRead (uses AnyValue Unused Unused Unused) (0x80 + alu_class w64)
neg w64 f w o fit dst src row =
    is_slot (Neg w64 f.dst) f _ f.dst 0 (pos 0) (pos 0) dst refl (sym o) refl (zero_of f.src row.1) (sym row.2) (sym row.3)

swap : (order : Order) → IsRead (uses AnyValue Unused Unused SwapBits) (swap_opcode order)
swap order f w o fit dst src row =
    let swaps : (bits : ℕ) → ((bits ≡ 16) ⊎ (bits ≡ 32)) ⊎ (bits ≡ 64) → pos bits ≡ f.imm → IsSpelled f =
    λ bits may z. is_slot (Swap order bits f.dst) f _ f.dst 0 (pos 0) (pos bits) (dst, may) refl (sym o) refl (zero_of f.src row.1) (sym row.2) z in
    among_ints (λ z. z ≡ f.imm → IsSpelled f) f.imm (pos 16 ∷ pos 32 ∷ pos 64 ∷ []) row.3 (swaps 16 (inl (inl refl)), (swaps 32 (inl (inr refl)), (swaps 64 (inr refl), tt))) refl

-- ---- loads, stores, jumps

load : (signed : Bool) (size : Size) → MayLoad size signed → IsRead (uses AnyValue AnyValue AnyValue Unused) (load_mode signed + size_code size)
load signed size may f w o fit dst src row =
    is_slot (Load size signed f.dst f.src f.offset) f _ f.dst f.src f.offset (pos 0) (dst, src, fit.offset, may) refl (sym o) refl refl refl (sym row.3)

store_imm : (size : Size) → IsRead (uses AnyValue Unused AnyValue AnyValue) (0x62 + size_code size)
store_imm size f w o fit dst src row =
    is_slot (Store size f.dst f.offset (Imm f.imm)) f _ f.dst 0 f.offset f.imm (dst, fit.imm, fit.offset) refl (sym o) refl (zero_of f.src row.1) refl refl

store_reg : (size : Size) → IsRead (uses AnyValue AnyValue AnyValue Unused) (0x63 + size_code size)
store_reg size f w o fit dst src row =
    is_slot (Store size f.dst f.offset (Reg f.src)) f _ f.dst f.src f.offset (pos 0) (dst, src, fit.offset) refl (sym o) refl refl refl (sym row.3)

-- a wide instruction has two slots
wide : IsRead (uses AnyValue WideSource Unused AnyValue) 0x18
wide f w o fit dst src row = cc

ja : IsRead (uses Unused Unused AnyValue Unused) 0x05
ja f w o fit dst src row =
    is_slot (Ja false f.offset) f 0x05 0 0 f.offset (pos 0) fit.offset refl (sym o) (zero_of f.dst row.0) (zero_of f.src row.1) refl (sym row.3)

ja_long : IsRead (uses Unused Unused Unused AnyValue) 0x06
ja_long f w o fit dst src row =
    is_slot (Ja true f.imm) f 0x06 0 0 (pos 0) f.imm fit.imm refl (sym o) (zero_of f.dst row.0) (zero_of f.src row.1) (sym row.2) refl

branch_imm : (w64 : Bool) (cond : Condition) → IsRead (uses AnyValue Unused AnyValue AnyValue) (16 * condition_code cond + jump_class w64)
branch_imm w64 cond f w o fit dst src row =
    is_slot (Branch w64 cond f.dst (Imm f.imm) f.offset) f _ f.dst 0 f.offset f.imm (dst, fit.imm, fit.offset) refl (sym o) refl (zero_of f.src row.1) refl refl

branch_reg : (w64 : Bool) (cond : Condition) → IsRead (uses AnyValue AnyValue AnyValue Unused) (16 * condition_code cond + jump_class w64 + 8)
branch_reg w64 cond f w o fit dst src row =
    is_slot (Branch w64 cond f.dst (Reg f.src) f.offset) f _ f.dst f.src f.offset (pos 0) (dst, src, fit.offset) refl (sym o) refl refl refl (sym row.3)

call : IsRead (uses Unused OnlyZero Unused AnyValue) 0x85
call f w o fit dst src row =
    among_ints (λ z. z ≡ pos f.src → IsSpelled f) (pos f.src) (pos 0 ∷ []) row.1 (λ z. is_slot (Call f.imm) f 0x85 0 0 (pos 0) f.imm fit.imm refl (sym o) (zero_of f.dst row.0) (zero_of f.src (sym z)) (sym row.2) refl, tt) refl

exit : IsRead (uses Unused Unused Unused Unused) 0x95
exit f w o fit dst src row =
    is_slot Exit f 0x95 0 0 (pos 0) (pos 0) tt refl (sym o) (zero_of f.dst row.0) (zero_of f.src row.1) (sym row.2) (sym row.3)

-- ---- the table, row by row

abbrev operations : List Operation
operations = Add ∷ Sub ∷ Mul ∷ Or ∷ And ∷ Lsh ∷ Rsh ∷ Xor ∷ Mov ∷ Arsh ∷ []

abbrev operations_but_mov : List Operation
operations_but_mov = Add ∷ Sub ∷ Mul ∷ Or ∷ And ∷ Lsh ∷ Rsh ∷ Xor ∷ Arsh ∷ []

abbrev conditions : List Condition
conditions = Jeq ∷ Jgt ∷ Jge ∷ Jset ∷ Jne ∷ Jsgt ∷ Jsge ∷ Jlt ∷ Jle ∷ Jslt ∷ Jsle ∷ []

abbrev sizes : List Size
sizes = Word ∷ Half ∷ Byte ∷ Double ∷ []

all_alu_imm : (w64 : Bool) → AllByRecursion (IsRead (uses AnyValue Unused Unused AnyValue)) (map (λ op. 16 * operation_code op + alu_class w64) operations)
all_alu_imm w64 =
    each_of IsUnsigned (IsRead (uses AnyValue Unused Unused AnyValue)) (λ op. 16 * operation_code op + alu_class w64) operations (alu_imm w64) (refl, (refl, (refl, (refl, (refl, (refl, (refl, (refl, (refl, (refl, tt))))))))))

all_alu_reg : (w64 : Bool) → AllByRecursion (IsRead (uses AnyValue AnyValue Unused Unused)) (map (λ op. 16 * operation_code op + alu_class w64 + 8) operations_but_mov)
all_alu_reg w64 =
    each_of IsUnsigned (IsRead (uses AnyValue AnyValue Unused Unused)) (λ op. 16 * operation_code op + alu_class w64 + 8) operations_but_mov (alu_reg w64) (refl, (refl, (refl, (refl, (refl, (refl, (refl, (refl, (refl, tt)))))))))

all_branch_imm : (w64 : Bool) → AllByRecursion (IsRead (uses AnyValue Unused AnyValue AnyValue)) (map (λ cond. 16 * condition_code cond + jump_class w64) conditions)
all_branch_imm w64 = every (IsRead (uses AnyValue Unused AnyValue AnyValue)) (λ cond. 16 * condition_code cond + jump_class w64) conditions (branch_imm w64)

all_branch_reg : (w64 : Bool) → AllByRecursion (IsRead (uses AnyValue AnyValue AnyValue Unused)) (map (λ cond. 16 * condition_code cond + jump_class w64 + 8) conditions)
all_branch_reg w64 = every (IsRead (uses AnyValue AnyValue AnyValue Unused)) (λ cond. 16 * condition_code cond + jump_class w64 + 8) conditions (branch_reg w64)

all_loads : AllByRecursion (IsRead (uses AnyValue AnyValue AnyValue Unused)) (map (λ size. 0x61 + size_code size) sizes)
all_loads = each_of (λ size. MayLoad size false) (IsRead (uses AnyValue AnyValue AnyValue Unused)) (λ size. 0x61 + size_code size) sizes (load false) (tt, (tt, (tt, (tt, tt))))

all_signed_loads : AllByRecursion (IsRead (uses AnyValue AnyValue AnyValue Unused)) (map (λ size. 0x81 + size_code size) (Word ∷ Half ∷ Byte ∷ []))
all_signed_loads =
    each_of (λ size. MayLoad size true) (IsRead (uses AnyValue AnyValue AnyValue Unused)) (λ size. 0x81 + size_code size) (Word ∷ Half ∷ Byte ∷ []) (load true) (tt, (tt, (tt, tt)))

each_row : EachRow IsRead table
each_row = (
  all_alu_imm false,
  (
    all_alu_imm true,
    (
      (div_imm false Div Sdiv div, (div_imm false Mod Smod mod_, tt)),
      (
        (div_imm true Div Sdiv div, (div_imm true Mod Smod mod_, tt)),
        (
          all_alu_reg false,
          (
            all_alu_reg true,
            (
              (div_reg false Div Sdiv div, (div_reg false Mod Smod mod_, tt)),
              (
                (div_reg true Div Sdiv div, (div_reg true Mod Smod mod_, tt)),
                (
                  (mov, tt),
                  (
                    (mov64, tt),
                    (
                      (neg false, (neg true, tt)),
                      (
                        (swap Little, (swap Big, (swap Always, tt))),
                        (
                          all_loads,
                          (
                            all_signed_loads,
                            (
                              every (IsRead (uses AnyValue Unused AnyValue AnyValue)) (λ size. 0x62 + size_code size) sizes store_imm,
                              (
                                every (IsRead (uses AnyValue AnyValue AnyValue Unused)) (λ size. 0x63 + size_code size) sizes store_reg,
                                (
                                  (wide, tt),
                                  (
                                    (ja, tt),
                                    (
                                      (ja_long, tt),
                                      (
                                        all_branch_imm true,
                                        (
                                          all_branch_imm false,
                                          (
                                            all_branch_reg true,
                                            (
                                              all_branch_reg false,
                                              (
                                                (call, tt),
                                                ((exit, tt), tt),
                                              ),
                                            ),
                                          ),
                                        ),
                                      ),
                                    ),
                                  ),
                                ),
                              ),
                            ),
                          ),
                        ),
                      ),
                    ),
                  ),
                ),
              ),
            ),
          ),
        ),
      ),
    ),
  ),
)

pub narrow_begins : (f : Fields) → FieldsFit f → Clean f → is_wide f ≡ false → IsSpelled f
narrow_begins f fit clean w =
    at_row IsRead f.opcode clean.uses table each_row clean.known f w refl fit clean.dst clean.src clean.follows_uses

-- ---- an opcode of the table is an instruction's

-- a value that the field may have
abbrev value_of : Use → ℤ
value_of SwapBits = pos 16
value_of _ = pos 0

value_fits : (u : Use) → FitsUse u (value_of u) × FitsSigned w32 (value_of u)
value_fits SwapBits = (refl, record { sfits = omega arith })
value_fits AnyValue = (tt, record { sfits = omega arith })
value_fits u = (refl, record { sfits = omega arith })

abbrev TakesZero : Use → Type 0
TakesZero SwapBits = ⊥
TakesZero _ = Unit {0}

zero_fits : (u : Use) → TakesZero u → FitsUse u (pos 0)
zero_fits SwapBits h = absurd h
zero_fits AnyValue h = tt
zero_fits u h = refl

-- dst, src and offset may be zero
abbrev TakesZeros : Uses → ℕ → Type 0
TakesZeros u o = TakesZero u.dst × TakesZero u.src × TakesZero u.offset

each_takes_zeros : (rows : List Row) → AllByRecursion (λ r. TakesZeros r.uses 0) rows → EachRow TakesZeros rows
each_takes_zeros [] h = tt
each_takes_zeros (r ∷ rows) h = (all r.opcodes, each_takes_zeros rows h.1)
  where
    all : (os : List ℕ) → AllByRecursion (TakesZeros r.uses) os
    all [] = tt
    all (o ∷ os) = (h.0, all os)

zeros : Unit {0} × Unit {0} × Unit {0}
zeros = (tt, tt, tt)

takes_zeros : AllByRecursion (λ r. TakesZeros r.uses 0) table
takes_zeros = (zeros, (zeros, (zeros, (zeros, (zeros, (zeros, (zeros, (zeros, (zeros, (zeros, (zeros, (zeros, (zeros, (zeros, (zeros, (zeros, (zeros, (zeros, (zeros, (zeros, (zeros, (zeros, (zeros, (zeros, (zeros, tt)))))))))))))))))))))))))

pub narrow_opcode : (o : ℕ) (u : Uses) → uses_of o ≡ Some u → (o == 0x18) ≡ false → (f : Fields) × (f.opcode ≡ o) × IsSpelled f
narrow_opcode o u known narrow =
    let f = slot o 0 0 (pos 0) (value_of u.imm) in
    let zero = at_row TakesZeros o u table (each_takes_zeros table takes_zeros) known in
    let imm = value_fits u.imm in
    let fit : FieldsFit f = record { dst = omega arith; src = omega arith; offset = record { sfits = omega arith }; imm = imm.1 } in
    (f, refl, at_row IsRead o u table each_row known f narrow refl fit (omega arith) (omega arith) (zero_fits u.dst zero.0, zero_fits u.src zero.1, zero_fits u.offset zero.2, imm.0))

-- ---- two slots

true_left : (b : Bool) → true && not b ≡ false → b ≡ true
true_left true e = refl
true_left false e = cc

zero_is : (n : ℕ) → not (n == 0) ≡ false → 0 ≡ n
zero_is n e = let h = not-false (n == 0) e in grind (arith, nat_tests)

zero_int : (z : ℤ) → not (int_eq z (pos 0)) ≡ false → pos 0 ≡ z
zero_int z e = sym ((signed_Decides z (pos 0)).0 (not-false (int_eq z (pos 0)) e))

pub wide_opcode : (f : Fields) → is_wide f ≡ true → f.opcode ≡ 0x18
wide_opcode f e = grind (arith, nat_tests)

pub is_wide_at : (f : Fields) → f.opcode ≡ 0x18 → is_wide f ≡ true
is_wide_at f e = grind (arith, nat_tests)

pub is_narrow_at : (f : Fields) → (f.opcode ≡ 0x18 → ⊥) → is_wide f ≡ false
is_narrow_at f e = by (is_wide f) refl
  where
    by : (b : Bool) → is_wide f ≡ b → is_wide f ≡ false
    by true h = absurd (e (wide_opcode f h))
    by false h = h

-- two slots that an instruction spells
pub record IsSpelledWide (f g : Fields) : Type 0 where
  pub encoded : HasEncoding (wide_form f g)
  pub spelled : slots (wide_form f g) ≡ f ∷ g ∷ []

-- what the second slot of a wide instruction has, but for next_imm
record IsHalf (f g : Fields) : Type 0 where
  opcode : 0 ≡ g.opcode
  dst : 0 ≡ g.dst
  src : 0 ≡ g.src
  offset : pos 0 ≡ g.offset
  next : f.src ≡ 5 → pos 0 ≡ g.imm

is_half : (f g : Fields) → is_bad_half f g ≡ false → IsHalf f g
is_half f g good =
    let a = not (g.opcode == 0) in
    let b = not (g.dst == 0) in
    let c = not (g.src == 0) in
    let d = not (int_eq g.offset (pos 0)) in
    let e = f.src == 5 && not (int_eq g.imm (pos 0)) in
    let abcd = or_left (a || b || c || d) e good in
    let abc = or_left (a || b || c) d abcd in
    let ab = or_left (a || b) c abc in
    record {
      opcode = zero_is g.opcode (or_left a b ab);
      dst = zero_is g.dst (or_right a b ab);
      src = zero_is g.src (or_right (a || b) c abc);
      offset = zero_int g.offset (or_right (a || b || c) d abcd);
      next = λ five.
          let is5 : (f.src == 5) ≡ true = grind (arith, nat_tests) in
          let last : true && not (int_eq g.imm (pos 0)) ≡ false = ap (λ t. t && not (int_eq g.imm (pos 0))) (sym is5) ∙ or_right (a || b || c || d) e good in
          sym ((signed_Decides g.imm (pos 0)).0 (true_left (int_eq g.imm (pos 0)) last));
    }

wide_slots : (f g : Fields) (src : ℕ) (low high : ℤ) → f.opcode ≡ 0x18 → src ≡ f.src → f.offset ≡ pos 0 → low ≡ f.imm → IsHalf f g → high ≡ g.imm → slot 0x18 f.dst src (pos 0) low ∷ slot 0 0 0 (pos 0) high ∷ [] ≡ f ∷ g ∷ []
wide_slots f g src low high o s z l half h =
    let first = same_slot f 0x18 f.dst src (pos 0) low (sym o) refl s (sym z) l in
    let second = same_slot g 0 0 0 (pos 0) high half.opcode half.dst half.src half.offset h in
    λ i. first i ∷ second i ∷ []

low_of : (low high : ℤ) → FitsSigned w32 low → FitsSigned w32 high → low_imm (cast_unsigned w32 high * 2 ^ 32 + cast_unsigned w32 low) ≡ low
low_of low high h k =
    let same : (cast_unsigned w32 high * 2 ^ 32 + cast_unsigned w32 low) % 2 ^ 32 ≡ cast_unsigned w32 low = omega (arith, word_small low h) in
    ap (cast_signed w32) same ∙ to_z-of_z w32 low h

high_of : (low high : ℤ) → FitsSigned w32 low → FitsSigned w32 high → low_imm ((cast_unsigned w32 high * 2 ^ 32 + cast_unsigned w32 low) / 2 ^ 32) ≡ high
high_of low high h k =
    let same : (cast_unsigned w32 high * 2 ^ 32 + cast_unsigned w32 low) / 2 ^ 32 % 2 ^ 32 ≡ cast_unsigned w32 high = omega (arith, word_small low h, word_small high k) in
    ap (cast_signed w32) same ∙ to_z-of_z w32 high k

wide_map : (f g : Fields) → FieldsFit f → f.dst ≤ 10 → f.opcode ≡ 0x18 → f.offset ≡ pos 0 → IsHalf f g → pos f.src ≡ pos 5 → IsSpelledWide f g
wide_map f g fit dst o z half s =
    let five : f.src ≡ 5 = cc in
    let is5 : (f.src == 5) ≡ true = grind (arith, nat_tests) in
    let form : wide_form f g ≡ MapRef f.dst f.imm = rw is5 refl in record {
      encoded = subst HasEncoding (sym form) (dst, fit.imm);
      spelled = ap slots form ∙ wide_slots f g 5 f.imm (pos 0) o (sym five) z refl half (half.next five);
    }

wide_imm : (f g : Fields) → FieldsFit f → FieldsFit g → f.dst ≤ 10 → f.opcode ≡ 0x18 → f.offset ≡ pos 0 → IsHalf f g → pos f.src ≡ pos 0 → IsSpelledWide f g
wide_imm f g fit fit2 dst o z half s =
    let zero : f.src ≡ 0 = cc in
    let is0 : (f.src == 5) ≡ false = rw zero refl in
    let form : wide_form f g ≡ Imm64 f.dst (cast_unsigned w32 g.imm * 2 ^ 32 + cast_unsigned w32 f.imm) = rw is0 refl in record {
      encoded = subst HasEncoding (sym form) (dst, omega (arith, word_small f.imm fit.imm, word_small g.imm fit2.imm));
      spelled = ap slots form ∙ wide_slots f g 0 _ _ o (sym zero) z (low_of f.imm g.imm fit.imm fit2.imm) half (high_of f.imm g.imm fit.imm fit2.imm);
    }

wide_source : (z : ℤ) → list_any (int_eq z) (pos 0 ∷ pos 5 ∷ []) ≡ true → (z ≡ pos 0) ⊎ (z ≡ pos 5)
wide_source z e = among_ints (λ v. v ≡ z → (z ≡ pos 0) ⊎ (z ≡ pos 5)) z (pos 0 ∷ pos 5 ∷ []) e (λ h. inl (sym h), (λ h. inr (sym h), tt)) refl

pub wide_begins : (f g : Fields) → FieldsFit f → FieldsFit g → Clean f → is_wide f ≡ true → is_bad_half f g ≡ false → IsSpelledWide f g
wide_begins f g fit fit2 clean w good =
    let o = wide_opcode f w in
    let same : Some clean.uses ≡ Some (uses AnyValue WideSource Unused AnyValue) = sym clean.known ∙ ap uses_of o in
    let equal : clean.uses ≡ uses AnyValue WideSource Unused AnyValue = cc in
    let row = subst (λ u. FollowsUses u f) equal clean.follows_uses in
    by o row.2 (wide_source (pos f.src) row.1)
  where
    by : f.opcode ≡ 0x18 → f.offset ≡ pos 0 → (pos f.src ≡ pos 0) ⊎ (pos f.src ≡ pos 5) → IsSpelledWide f g
    by o z (inl s) = wide_imm f g fit fit2 clean.dst o z (is_half f g good) s
    by o z (inr s) = wide_map f g fit clean.dst o z (is_half f g good) s
