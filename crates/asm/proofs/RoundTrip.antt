-- What is written is read back.
use Rattle.std.proofs.Common.{◌≡◌, inl, inr, ℕ, ◌+◌, ◌-◌, ◌^◌, ◌<◌, ◌≤◌, Bool, true, false, not, cond, ◌||◌, ◌&&◌, eqb, pos, List, [], ◌∷◌, ◌++◌, length, map, Some, Ok, refl, sym, ap, ◌∙◌, arith, append_assoc}
use Rattle.std.specs.List.{list_all, flat_map, AllByRecursion}
use Rattle.std.specs.Fmt.{decimal, signed_decimal}
use Rattle.std.specs.Ordering.{int_eq}
use Rattle.std.proofs.lemmas.Bool.{le-ltb, le-leb, ne_eqb, and_parts, not-true}
use Rattle.std.proofs.lemmas.List.{append-nil, length-append}
use Rattle.insn.specs.declared.instruction.TheConstants.{MAX_SLOTS}
use Rattle.insn.specs.declared.instruction.Source.TheVariants as sources
use Rattle.insn.specs.declared.instruction.Form.{Form}
use Rattle.insn.specs.declared.instruction.Form.TheVariants.{Alu, Neg, MovSx, Swap, Load, Store, Imm64, MapRef, Ja, Branch, Call, Exit}
use Rattle.insn.specs.Encoding.{HasEncoding, MayExtend}
use Rattle.insn.specs.Layout.{size, slot_count}
use Rattle.text.specs.Lines.{lines_of, next_line}
use Rattle.asm.specs.declared.tokens.Stop.{Stop}
use Rattle.asm.specs.declared.tokens.Stop.TheVariants.{LineFeed, Semicolon, Visible, TokenEnd, Colon}
use Rattle.asm.specs.Tokens.{Parts, parts, stops, operands_of, before, rest_from}
use Rattle.asm.specs.Words.{word_of, operand_count, HasWord}
use Rattle.asm.specs.Labels.{Marks, Word, word_or_label, line_of}
use Rattle.asm.specs.Forms.{alu_of, movsx_of, load_of, store_imm_of, store_reg_of, imm64_of, map_ref_of, ja_of, branch_of, form_of}
use Rattle.asm.specs.Text.{mnemonic, register, source, with_sign, address, operands, operand_text, line_text, text_of}
use Rattle.asm.specs.Assembled.{word_of_line, instruction_of, assembled_from, assembled}
use Rattle.asm.specs.Laws.{IsReadBack}
use Rattle.asm.proofs.Table.{word_is_read}
use Rattle.asm.proofs.Parts.{is_plain, IsToken, passes, ends, list_all-append, before-cut, rest-cut, no_feed, no_semicolon, no_end, no_colon, is_visible, no_operand, one_operand, two_operands, three_operands}
use Rattle.asm.proofs.PlainWords.{word-token}
use Rattle.asm.proofs.ReadBack.{register-register, source-source, written-form, number-decimal, number-signed_decimal, target-with_sign, address-address, imm-fits, off-fits, near-fits, far-fits, small_16, small_32, decimal-token, register-token, signed-token, with_sign-token, source-token, address-token}
use Rattle.insn.proofs.Export.{size_more}

has_word : (i : Form) → HasEncoding i → HasWord (mnemonic i)
has_word (Alu w op dst src) h = tt
has_word (Neg w dst) h = tt
has_word (MovSx w bits dst src) h = tt
has_word (Swap order bits dst) h = h.1
has_word (Load size signed dst src off) h = h.3
has_word (Store size dst off (sources.Imm imm)) h = tt
has_word (Store size dst off (sources.Reg src)) h = tt
has_word (Imm64 dst value) h = tt
has_word (MapRef dst index) h = tt
has_word (Ja long by) h = tt
has_word (Branch w cond dst src off) h = tt
has_word (Call id) h = tt
has_word Exit h = tt

-- the operands of an instruction, as they are split
abbrev pub operand_parts : Form → Parts
operand_parts (Alu w op dst src) = parts (register dst) (source src) [] []
operand_parts (Neg w dst) = parts (register dst) [] [] []
operand_parts (MovSx w bits dst src) = parts (register dst) (register src) (decimal bits) []
operand_parts (Swap order bits dst) = parts (register dst) [] [] []
operand_parts (Load size signed dst src off) = parts (register dst) (address src off) [] []
operand_parts (Store size dst off src) = parts (address dst off) (source src) [] []
operand_parts (Imm64 dst value) = parts (register dst) (decimal value) [] []
operand_parts (MapRef dst index) = parts (register dst) (signed_decimal index) [] []
operand_parts (Ja long by) = parts (with_sign by) [] [] []
operand_parts (Branch w cond dst src off) = parts (register dst) (source src) (with_sign off) []
operand_parts (Call id) = parts (signed_decimal id) [] [] []
operand_parts Exit = parts [] [] [] []

extended_is_small : (w : Bool) (bits : ℕ) → MayExtend w bits → bits < 2 ^ 64
extended_is_small true bits (inl (inl e)) = omega (arith, e)
extended_is_small true bits (inl (inr e)) = omega (arith, e)
extended_is_small true bits (inr e) = omega (arith, e)
extended_is_small false bits (inl e) = omega (arith, e)
extended_is_small false bits (inr e) = omega (arith, e)

extended_is_read : (w : Bool) (bits : ℕ) → MayExtend w bits → (int_eq (pos bits) (pos 8) || int_eq (pos bits) (pos 16) || (w && int_eq (pos bits) (pos 32))) ≡ true
extended_is_read true bits (inl (inl e)) = rw e refl
extended_is_read true bits (inl (inr e)) = rw e refl
extended_is_read true bits (inr e) = rw e refl
extended_is_read false bits (inl e) = rw e refl
extended_is_read false bits (inr e) = rw e refl

-- each form is read from its operands
form_back : (marks : Marks) (slot : ℕ) (i : Form) → HasEncoding i → form_of marks slot (mnemonic i) (operand_parts i) ≡ Ok i
unfolding form_of alu_of movsx_of load_of store_imm_of store_reg_of imm64_of map_ref_of ja_of branch_of
form_back marks slot (Alu w op dst src) h = rw (register-register dst h.0, source-source src h.1, written-form src h.1) refl
form_back marks slot (Neg w dst) h = rw (register-register dst h) refl
form_back marks slot (MovSx w bits dst src) h = rw (register-register dst h.0, register-register src h.1, number-decimal bits (extended_is_small w bits h.2), extended_is_read w bits h.2) refl
form_back marks slot (Swap order bits dst) h = rw (register-register dst h.0) refl
form_back marks slot (Load size signed dst src off) h = rw (register-register dst h.0, address-address src off h.1 h.2, off-fits off h.2) refl
form_back marks slot (Store size dst off (sources.Imm imm)) h = rw (address-address dst off h.0 h.2, number-signed_decimal imm (small_32 imm h.1), off-fits off h.2, imm-fits imm h.1) refl
form_back marks slot (Store size dst off (sources.Reg src)) h = rw (address-address dst off h.0 h.2, register-register src h.1, off-fits off h.2) refl
form_back marks slot (Imm64 dst value) h = rw (register-register dst h.0, number-decimal value h.1, le-leb value (2 ^ 64 - 1) (omega (arith, h.1))) refl
form_back marks slot (MapRef dst index) h = rw (register-register dst h.0, number-signed_decimal index (small_32 index h.1), imm-fits index h.1) refl
form_back marks slot (Ja false by) h = rw (target-with_sign by (small_16 by h), near-fits by h) refl
form_back marks slot (Ja true by) h = rw (target-with_sign by (small_32 by h), far-fits by h) refl
form_back marks slot (Branch w cond dst src off) h = rw (register-register dst h.0, source-source src h.1, target-with_sign off (small_16 off h.2), written-form src h.1, near-fits off h.2) refl
form_back marks slot (Call id) h = rw (number-signed_decimal id (small_32 id h), imm-fits id h) refl
form_back marks slot Exit h = refl

jump_is_small : (long : Bool) (by : _) → HasEncoding (Ja long by) → IsToken (with_sign by)
jump_is_small false by h = with_sign-token by (small_16 by h)
jump_is_small true by h = with_sign-token by (small_32 by h)

-- each operand is a token
operand_tokens : (i : Form) → HasEncoding i → AllByRecursion IsToken (operands i)
operand_tokens (Alu w op dst src) h = (register-token dst h.0, (source-token src h.1, tt))
operand_tokens (Neg w dst) h = (register-token dst h, tt)
operand_tokens (MovSx w bits dst src) h = (register-token dst h.0, (register-token src h.1, (decimal-token bits (extended_is_small w bits h.2), tt)))
operand_tokens (Swap order bits dst) h = (register-token dst h.0, tt)
operand_tokens (Load size signed dst src off) h = (register-token dst h.0, (address-token src off h.1 h.2, tt))
operand_tokens (Store size dst off src) h = (address-token dst off h.0 h.2, (source-token src h.1, tt))
operand_tokens (Imm64 dst value) h = (register-token dst h.0, (decimal-token value h.1, tt))
operand_tokens (MapRef dst index) h = (register-token dst h.0, (signed-token index (small_32 index h.1), tt))
operand_tokens (Ja long by) h = (jump_is_small long by h, tt)
operand_tokens (Branch w cond dst src off) h = (register-token dst h.0, (source-token src h.1, (with_sign-token off (small_16 off h.2), tt)))
operand_tokens (Call id) h = (signed-token id (small_32 id h), tt)
operand_tokens Exit h = tt

operands_back : (i : Form) → HasEncoding i → operands_of (operand_count (mnemonic i)) (operand_text (operands i)) ≡ Ok (operand_parts i)
operands_back (Alu w op dst src) h = two_operands (register dst) (source src) (register-token dst h.0) (source-token src h.1)
operands_back (Neg w dst) h = one_operand (register dst) (register-token dst h)
operands_back (MovSx w bits dst src) h = three_operands (register dst) (register src) (decimal bits) (register-token dst h.0) (register-token src h.1) (decimal-token bits (extended_is_small w bits h.2))
operands_back (Swap order bits dst) h = one_operand (register dst) (register-token dst h.0)
operands_back (Load size signed dst src off) h = two_operands (register dst) (address src off) (register-token dst h.0) (address-token src off h.1 h.2)
operands_back (Store size dst off (sources.Imm imm)) h = two_operands (address dst off) (signed_decimal imm) (address-token dst off h.0 h.2) (source-token (sources.Imm imm) h.1)
operands_back (Store size dst off (sources.Reg src)) h = two_operands (address dst off) (register src) (address-token dst off h.0 h.2) (source-token (sources.Reg src) h.1)
operands_back (Imm64 dst value) h = two_operands (register dst) (decimal value) (register-token dst h.0) (decimal-token value h.1)
operands_back (MapRef dst index) h = two_operands (register dst) (signed_decimal index) (register-token dst h.0) (signed-token index (small_32 index h.1))
operands_back (Ja long by) h = one_operand (with_sign by) (jump_is_small long by h)
operands_back (Branch w cond dst src off) h = three_operands (register dst) (source src) (with_sign off) (register-token dst h.0) (source-token src h.1) (with_sign-token off (small_16 off h.2))
operands_back (Call id) h = one_operand (signed_decimal id) (signed-token id (small_32 id h))
operands_back Exit h = no_operand

rest_is_empty : (i : Form) → (operand_parts i).rest ≡ []
rest_is_empty (Alu w op dst src) = refl
rest_is_empty (Neg w dst) = refl
rest_is_empty (MovSx w bits dst src) = refl
rest_is_empty (Swap order bits dst) = refl
rest_is_empty (Load size signed dst src off) = refl
rest_is_empty (Store size dst off src) = refl
rest_is_empty (Imm64 dst value) = refl
rest_is_empty (MapRef dst index) = refl
rest_is_empty (Ja long by) = refl
rest_is_empty (Branch w cond dst src off) = refl
rest_is_empty (Call id) = refl
rest_is_empty Exit = refl

-- ---- lines

-- separators and tokens end no line and begin no comment
more_passes : (stop : Stop) → ((t : List ℕ) → list_all is_plain t ≡ true → passes stop t) → passes stop (44 ∷ 32 ∷ []) → (os : List (List ℕ)) → AllByRecursion IsToken os → passes stop (flat_map (λ o. 44 ∷ 32 ∷ o) os)
more_passes stop f sep [] h = refl
more_passes stop f sep (o ∷ os) h =
    list_all-append (λ c. not (stops stop c)) (44 ∷ 32 ∷ []) (o ++ flat_map (λ o. 44 ∷ 32 ∷ o) os) sep (list_all-append (λ c. not (stops stop c)) o (flat_map (λ o. 44 ∷ 32 ∷ o) os) (f o h.0.plain) (more_passes stop f sep os h.1))

text_passes : (stop : Stop) → ((t : List ℕ) → list_all is_plain t ≡ true → passes stop t) → passes stop (44 ∷ 32 ∷ []) → passes stop (32 ∷ []) → (os : List (List ℕ)) → AllByRecursion IsToken os → passes stop (operand_text os)
text_passes stop f sep space [] h = refl
text_passes stop f sep space (o ∷ os) h =
    list_all-append (λ c. not (stops stop c)) (32 ∷ []) (o ++ flat_map (λ o. 44 ∷ 32 ∷ o) os) space (list_all-append (λ c. not (stops stop c)) o (flat_map (λ o. 44 ∷ 32 ∷ o) os) (f o h.0.plain) (more_passes stop f sep os h.1))

-- the line of an instruction, without its line feed
abbrev pub bare_line : Form → List ℕ
bare_line i = word_of (mnemonic i) ++ operand_text (operands i)

line_passes : (stop : Stop) → ((t : List ℕ) → list_all is_plain t ≡ true → passes stop t) → passes stop (44 ∷ 32 ∷ []) → passes stop (32 ∷ []) → (i : Form) → HasEncoding i → passes stop (bare_line i)
line_passes stop f sep space i h =
    list_all-append (λ c. not (stops stop c)) (word_of (mnemonic i)) (operand_text (operands i)) (f (word_of (mnemonic i)) (word-token (mnemonic i) (has_word i h)).plain) (text_passes stop f sep space (operands i) (operand_tokens i h))

begins_behind_word : (os : List (List ℕ)) → ends TokenEnd (operand_text os) ≡ true
begins_behind_word [] = refl
begins_behind_word (o ∷ os) = refl

-- the line of an instruction holds its word and its operands
line_back : (i : Form) → HasEncoding i → line_of (bare_line i) ≡ Word (word_of (mnemonic i)) (operand_text (operands i))
unfolding line_of word_or_label
line_back i h =
    let w = word_of (mnemonic i) in
    let t = operand_text (operands i) in
    let token = word-token (mnemonic i) (has_word i h) in
    let comment : before Semicolon (w ++ t) ≡ w ++ t = ap (before Semicolon) (sym (append-nil (w ++ t))) ∙ before-cut Semicolon (w ++ t) [] (line_passes Semicolon no_semicolon refl refl i h) refl in
    let visible : rest_from Visible (w ++ t) ≡ w ++ t = rest-cut Visible [] (w ++ t) refl (is_visible w t token) in
    let some : eqb (length (w ++ t)) 0 ≡ false = ne_eqb (length (w ++ t)) 0 (λ e. absurd (omega (arith, e, token.some, length-append w t))) in
    let word : before TokenEnd (w ++ t) ≡ w = before-cut TokenEnd w t (no_end w token.plain) (begins_behind_word (operands i)) in
    let rest : rest_from TokenEnd (w ++ t) ≡ t = rest-cut TokenEnd w t (no_end w token.plain) (begins_behind_word (operands i)) in
    let colon : rest_from Colon w ≡ [] = ap (rest_from Colon) (sym (append-nil w)) ∙ rest-cut Colon w [] (no_colon w token.plain) refl in
    rw (comment, visible, some, word, rest, colon) refl

-- the line of an instruction says that instruction
instruction_back : (marks : Marks) (n slot : ℕ) (i : Form) → HasEncoding i → slot + slot_count i ≤ MAX_SLOTS → instruction_of marks n slot (bare_line i) ≡ Ok (Some i)
unfolding word_of_line rest_from
instruction_back marks n slot i h few =
    rw (line_back i h, word_is_read (mnemonic i) (has_word i h), operands_back i h, form_back marks slot i h, le-ltb MAX_SLOTS (slot + slot_count i) few, rest_is_empty i) refl

-- ---- programs

program_back : (marks : Marks) (n slot : ℕ) (p : List Form) → AllByRecursion HasEncoding p → slot + size p ≤ MAX_SLOTS → assembled_from marks n slot (map bare_line p) ≡ Ok p
unfolding assembled_from
program_back marks n slot [] h few = refl
program_back marks n slot (i ∷ p) h few =
    rw (instruction_back marks n slot i h.0 (omega (arith, few, size_more i p)), program_back marks (next_line n) (slot + slot_count i) p h.1 (omega (arith, few, size_more i p))) refl

cut_line : (xs ys : List ℕ) → passes LineFeed xs → lines_of (xs ++ 10 ∷ ys) ≡ xs ∷ lines_of ys
cut_line [] ys h = refl
cut_line (x ∷ xs) ys h =
    let both = and_parts (not (eqb x 10)) (list_all (λ c. not (eqb c 10)) xs) h in
    rw (not-true (eqb x 10) both.0, cut_line xs ys both.1) refl

lines_back : (p : List Form) → AllByRecursion HasEncoding p → lines_of (text_of p) ≡ map bare_line p
unfolding text_of
lines_back [] h = refl
lines_back (i ∷ p) h =
    let w = word_of (mnemonic i) in
    let t = operand_text (operands i) in
    let cut : line_text i ++ flat_map line_text p ≡ (w ++ t) ++ (10 ∷ flat_map line_text p) =
    append_assoc w (t ++ (10 ∷ [])) (flat_map line_text p) ∙ ap (λ xs. w ++ xs) (append_assoc t (10 ∷ []) (flat_map line_text p)) ∙ sym (append_assoc w t (10 ∷ flat_map line_text p)) in
    ap lines_of cut ∙ cut_line (w ++ t) (flat_map line_text p) (line_passes LineFeed no_feed refl refl i h.0) ∙ ap (λ ls. (w ++ t) ∷ ls) (lines_back p h.1)

-- ---- for other crates

-- A number and the line of an instruction have no line feed. A text is cut at the first one
pub decimal_feedless : (n : ℕ) → n < 2 ^ 64 → list_all (λ c. not (eqb c 10)) (decimal n) ≡ true
decimal_feedless n small = no_feed (decimal n) (decimal-token n small).plain

pub line_feedless : (i : Form) → HasEncoding i → list_all (λ c. not (eqb c 10)) (bare_line i) ≡ true
line_feedless i h = line_passes LineFeed no_feed refl refl i h

pub cut_feedless : (xs ys : List ℕ) → list_all (λ c. not (eqb c 10)) xs ≡ true → lines_of (xs ++ 10 ∷ ys) ≡ xs ∷ lines_of ys
cut_feedless xs ys h = cut_line xs ys h

-- ---- all of it

pub read_back : IsReadBack
unfolding assembled
read_back p h few = rw (lines_back p h) (program_back _ 1 0 p h (omega (arith, few)))
