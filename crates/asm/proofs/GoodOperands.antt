-- What is known of an instruction's operands that were good: its slots, where it ends, their tokens, and where a jump goes.
use Rattle.std.proofs.Common.{◌≡◌, ◌≢◌, inl, inr, ℕ, suc, ◌+◌, ◌-◌, ◌^◌, ◌<◌, ◌≤◌, Bool, true, false, cond, ◌&&◌, ◌||◌, ltb, leb, eqb, ℤ, pos, negsuc, List, [], ◌∷◌, length, get_or, drop, Option, Some, None, Result, Ok, Err, refl, sym, ap, ◌∙◌, subst, arith}
use Rattle.std.specs.Prelude.{◌-ℤ◌, neg_ℤ, unsigned_abs}
use Rattle.std.specs.Ordering.{int_eq}
use Rattle.std.proofs.lemmas.Bool.{false≢true}
use Rattle.std.proofs.lemmas.Bool.Decides.{nat_tests}
use Rattle.insn.specs.declared.instruction.Form.{Form}
use Rattle.insn.specs.declared.instruction.Form.TheVariants as forms
use Rattle.insn.specs.declared.instruction.Condition.{Condition}
use Rattle.insn.specs.declared.instruction.Source.{Source}
use Rattle.insn.specs.declared.instruction.Source.TheVariants as sources
use Rattle.insn.specs.declared.instruction.Operation.{Operation}
use Rattle.insn.specs.declared.instruction.Size.{Size}
use Rattle.insn.specs.declared.instruction.TheConstants.{MAX_SLOTS}
use Rattle.insn.specs.Layout.{slot_count}
use Rattle.asm.specs.declared.refusals.AsmFault.{AsmFault}
use Rattle.asm.specs.declared.refusals.AsmFault.TheVariants.{BadOperand, TooLong, TextBehind, OutOfRange, JumpTooFar}
use Rattle.asm.specs.declared.tokens.Stop.TheVariants.{Visible, TokenEnd}
use Rattle.asm.specs.declared.words.Mnemonic.{Mnemonic}
use Rattle.asm.specs.declared.words.Mnemonic.TheVariants as words
use Rattle.asm.specs.declared.operands.Written.{Written}
use Rattle.asm.specs.declared.labels.Mark.{Mark}
use Rattle.asm.specs.Tokens.{◌>>=◌, Parts, before, rest_from, operand_of, next_operand_of, third_operand, operands_of, parts}
use Rattle.asm.specs.Operands.{Goal, By, is_label, register_of, number_of, source_of, address_of, target_of, magnitude_of, unsigned_of, within}
use Rattle.asm.specs.Operands as goals
use Rattle.asm.specs.Labels.{Marks, slots_said}
use Rattle.asm.specs.Forms.{form_of, alu_of, movsx_of, load_of, store_imm_of, store_reg_of, imm64_of, map_ref_of, ja_of, branch_of, distance_of, to_mark, jump_of, source_form, imm_of, off_of, bits_of}
use Rattle.asm.specs.Text.{with_sign}
use Rattle.asm.specs.Assembled.{ended}
use Rattle.asm.specs.Unlabelled.{said, named, distanced}
use Rattle.asm.proofs.ReadBack.{IsSmall, target-with_sign}
use Rattle.asm.proofs.Spaces.{tokens, some_bytes, ends_here, HasToken, Begins, begins, first_same, not_comma, no_tokens}

-- ---- steps that may fail

pub ok_same : {A E : Type 0} (x y : A) → (let r : Result A E = Ok x in r) ≡ Ok y → x ≡ y
ok_same x y e = cc

pub ok_then : {A B E : Type 0} (x : Result A E) (f : A → Result B E) (b : B) (P : Type 0) → ((a : A) → x ≡ Ok a → f a ≡ Ok b → P) → (x >>= f) ≡ Ok b → P
ok_then (Ok a) f b P next e = next a refl e
ok_then (Err d) f b P next e = absurd cc

ok_from : {A B E : Type 0} (x : Result A E) (f : A → Result B E) (b : B) (P : Type 0) → (x >>= f) ≡ Ok b → ((a : A) → f a ≡ Ok b → P) → P
ok_from (Ok a) f b P e next = next a e
ok_from (Err d) f b P e next = absurd cc

-- ---- slots

count_is : (k : ℕ) (i j : Form) → (let r : Result Form AsmFault = Ok i in r) ≡ Ok j → slot_count i ≡ k → slot_count j ≡ k
count_is k i j e is = ap slot_count (sym (ok_same i j e)) ∙ is

one_register : (o : Parts) (f : ℕ → Form) (i : Form) → ((dst : ℕ) → slot_count (f dst) ≡ 1) → (register_of o.first >>= (λ dst. Ok (f dst))) ≡ Ok i → slot_count i ≡ 1
one_register o f i is e = ok_from (register_of o.first) _ i _ e (λ dst e. count_is 1 (f dst) i e (is dst))

call_counts : (o : Parts) (i : Form) → (number_of o.first >>= (λ number. imm_of number >>= (λ id. Ok (forms.Call id)))) ≡ Ok i → slot_count i ≡ 1
call_counts o i e = ok_from (number_of o.first) _ i _ e (λ number e. ok_from (imm_of number) _ i _ e (λ id e. count_is 1 (forms.Call id) i e refl))

alu_counts : (w64 : Bool) (op : Operation) (o : Parts) (i : Form) → alu_of w64 op o ≡ Ok i → slot_count i ≡ 1
unfolding alu_of
alu_counts w64 op o i e =
    ok_from (register_of o.first) _ i _ e (λ dst e. ok_from (source_of o.second) _ i _ e (λ written e. ok_from (source_form written) _ i _ e (λ src e. count_is 1 (forms.Alu w64 op dst src) i e refl)))

if_ok : (b : Bool) (f i : Form) → slot_count f ≡ 1 → cond b (Ok f) (Err OutOfRange) ≡ Ok i → slot_count i ≡ 1
if_ok true f i is e = count_is 1 f i e is
if_ok false f i is e = absurd cc

movsx_counts : (w64 : Bool) (o : Parts) (i : Form) → movsx_of w64 o ≡ Ok i → slot_count i ≡ 1
unfolding movsx_of
movsx_counts w64 o i e =
    ok_from (register_of o.first) _ i _ e (λ dst e. ok_from (register_of o.second) _ i _ e (λ src e. ok_from (number_of o.third) _ i _ e (λ bits e.
    if_ok (int_eq bits (pos 8) || int_eq bits (pos 16) || (w64 && int_eq bits (pos 32))) (forms.MovSx w64 (unsigned_abs bits) dst src) i refl e)))

load_counts : (size : Size) (signed : Bool) (o : Parts) (i : Form) → load_of size signed o ≡ Ok i → slot_count i ≡ 1
unfolding load_of
load_counts size signed o i e =
    ok_from (register_of o.first) _ i _ e (λ dst e. ok_from (address_of o.second) _ i _ e (λ at e. ok_from (off_of at.off) _ i _ e (λ off e. count_is 1 (forms.Load size signed dst at.base off) i e refl)))

store_imm_counts : (size : Size) (o : Parts) (i : Form) → store_imm_of size o ≡ Ok i → slot_count i ≡ 1
unfolding store_imm_of
store_imm_counts size o i e =
    ok_from (address_of o.first) _ i _ e (λ at e. ok_from (number_of o.second) _ i _ e (λ number e. ok_from (off_of at.off) _ i _ e (λ off e. ok_from (imm_of number) _ i _ e (λ imm e.
    count_is 1 (forms.Store size at.base off (sources.Imm imm)) i e refl))))

store_reg_counts : (size : Size) (o : Parts) (i : Form) → store_reg_of size o ≡ Ok i → slot_count i ≡ 1
unfolding store_reg_of
store_reg_counts size o i e =
    ok_from (address_of o.first) _ i _ e (λ at e. ok_from (register_of o.second) _ i _ e (λ src e. ok_from (off_of at.off) _ i _ e (λ off e. count_is 1 (forms.Store size at.base off (sources.Reg src)) i e refl)))

imm64_counts : (o : Parts) (i : Form) → imm64_of o ≡ Ok i → slot_count i ≡ 2
unfolding imm64_of
imm64_counts o i e =
    ok_from (register_of o.first) _ i _ e (λ dst e. ok_from (number_of o.second) _ i _ e (λ number e. ok_from (within (neg_ℤ (pos (2 ^ 63))) (pos (2 ^ 64 - 1)) OutOfRange number) _ i _ e (λ value e.
    count_is 2 (forms.Imm64 dst (bits_of value)) i e refl)))

map_ref_counts : (o : Parts) (i : Form) → map_ref_of o ≡ Ok i → slot_count i ≡ 2
unfolding map_ref_of
map_ref_counts o i e = ok_from (register_of o.first) _ i _ e (λ dst e. ok_from (number_of o.second) _ i _ e (λ number e. ok_from (imm_of number) _ i _ e (λ index e. count_is 2 (forms.MapRef dst index) i e refl)))

ja_counts : (marks : Marks) (slot : ℕ) (long : Bool) (o : Parts) (i : Form) → ja_of marks slot long o ≡ Ok i → slot_count i ≡ 1
unfolding ja_of
ja_counts marks slot long o i e =
    ok_from (target_of o.first) _ i _ e (λ target e. ok_from (distance_of marks slot target) _ i _ e (λ by e. ok_from (jump_of long by) _ i _ e (λ fits e. count_is 1 (forms.Ja long fits) i e refl)))

branch_counts : (marks : Marks) (slot : ℕ) (w64 : Bool) (cond : Condition) (o : Parts) (i : Form) → branch_of marks slot w64 cond o ≡ Ok i → slot_count i ≡ 1
unfolding branch_of
branch_counts marks slot w64 cond o i e =
    ok_from (register_of o.first) _ i _ e (λ dst e. ok_from (source_of o.second) _ i _ e (λ written e. ok_from (target_of o.third) _ i _ e (λ target e. ok_from (source_form written) _ i _ e (λ src e.
    ok_from (distance_of marks slot target) _ i _ e (λ by e. ok_from (jump_of false by) _ i _ e (λ off e. count_is 1 (forms.Branch w64 cond dst src off) i e refl))))))

pub counted : (marks : Marks) (slot : ℕ) (m : Mnemonic) (o : Parts) (i : Form) → form_of marks slot m o ≡ Ok i → slot_count i ≡ slots_said (Some m)
unfolding form_of
counted marks slot (words.Alu w64 op) o i e = alu_counts w64 op o i e
counted marks slot (words.Neg w64) o i e = one_register o (λ dst. forms.Neg w64 dst) i (λ _. refl) e
counted marks slot (words.MovSx w64) o i e = movsx_counts w64 o i e
counted marks slot (words.Swap order bits) o i e = one_register o (λ dst. forms.Swap order bits dst) i (λ _. refl) e
counted marks slot (words.Load size signed) o i e = load_counts size signed o i e
counted marks slot (words.StoreImm size) o i e = store_imm_counts size o i e
counted marks slot (words.StoreReg size) o i e = store_reg_counts size o i e
counted marks slot words.Imm64 o i e = imm64_counts o i e
counted marks slot words.MapRef o i e = map_ref_counts o i e
counted marks slot (words.Ja long) o i e = ja_counts marks slot long o i e
counted marks slot (words.Branch w64 cond) o i e = branch_counts marks slot w64 cond o i e
counted marks slot words.Call o i e = call_counts o i e
counted marks slot words.Exit o i e = count_is 1 forms.Exit i e refl

-- ---- where an instruction ends

pub record IsEnded (slot : ℕ) (i j : Form) (rest : List ℕ) : Type 0 where
  pub same : i ≡ j
  pub fits : slot + slot_count i ≤ MAX_SLOTS
  pub none : tokens rest ≡ []

nothing_behind : (rest : List ℕ) → ltb 0 (length (rest_from Visible rest)) ≡ false → tokens rest ≡ []
nothing_behind rest e = by (begins rest)
  where
    by : Begins rest → tokens rest ≡ []
    by (inl h) = h.are
    by (inr (inl h)) = absurd (false≢true (sym e ∙ (ap (λ v. ltb 0 (length v)) h.visible ∙ (some_bytes 44 h.behind).0)))
    by (inr (inr h)) = absurd (false≢true (sym e ∙ (ap (λ v. ltb 0 (length v)) h.visible ∙ (some_bytes h.first h.shown).0)))

pub is_ended : (slot : ℕ) (i j : Form) (rest : List ℕ) → ended slot i rest ≡ Ok j → IsEnded slot i j rest
is_ended slot i j rest e = by (ltb MAX_SLOTS (slot + slot_count i)) (ltb 0 (length (rest_from Visible rest))) refl refl e
  where
    by : (long more : Bool) → ltb MAX_SLOTS (slot + slot_count i) ≡ long → ltb 0 (length (rest_from Visible rest)) ≡ more → cond long (Err TooLong) (cond more (Err TextBehind) (Ok i)) ≡ Ok j → IsEnded slot i j rest
    by true more a b e = absurd cc
    by false true a b e = absurd cc
    by false false a b e = record { same = ok_same i j e; fits = grind (arith, nat_tests); none = nothing_behind rest b }

-- ---- operands by their tokens

abbrev pub comma : List ℕ
comma = 44 ∷ []

before_nothing : before TokenEnd [] ≡ []
unfolding before
before_nothing = refl

no_first : (text : List ℕ) → Begins text → (operand_of text).0 ≢ [] → HasToken text
no_first text (inl h) some = absurd (some (ap (before TokenEnd) h.visible ∙ before_nothing))
no_first text (inr (inl h)) some = absurd (some (ap (before TokenEnd) h.visible ∙ (ends_here TokenEnd 44 h.behind refl).0))
no_first text (inr (inr h)) some = h

-- the operand is the first token, where it has a byte
pub record IsOperand (text token : List ℕ) (rest : List ℕ) : Type 0 where
  pub are : tokens text ≡ token ∷ tokens rest
  pub no_comma : token ≢ comma

pub was_operand : (text : List ℕ) → (operand_of text).0 ≢ [] → IsOperand text (operand_of text).0 (operand_of text).1
was_operand text some =
    let h = no_first text (begins text) some in
    let first : (operand_of text).0 ≡ h.first ∷ h.more = ap (before TokenEnd) h.visible ∙ h.token in
    let rest : (operand_of text).1 ≡ h.after = ap (rest_from TokenEnd) h.visible ∙ h.rest in
    record {
      are = h.are ∙ (ap (λ t. t ∷ tokens h.after) (sym first) ∙ ap (λ r. (operand_of text).0 ∷ tokens r) (sym rest));
      no_comma = λ e. not_comma h.first h.more [] [] h.no_comma (ap (λ t. t ∷ []) (sym e ∙ first));
    }

-- and the first token is the operand, if it is no comma
pub is_operand : (text token : List ℕ) (ts : List (List ℕ)) → token ≢ comma → tokens text ≡ token ∷ ts → ((operand_of text).0 ≡ token) × (tokens (operand_of text).1 ≡ ts)
is_operand text token ts none e = by (begins text)
  where
    by : Begins text → ((operand_of text).0 ≡ token) × (tokens (operand_of text).1 ≡ ts)
    by (inl h) = absurd (no_tokens token ts (sym h.are ∙ e))
    by (inr (inl h)) = let both = first_same comma token (tokens h.behind) ts (sym h.are ∙ e) in absurd (none (sym both.0))
    by (inr (inr h)) =
        let both = first_same (h.first ∷ h.more) token (tokens h.after) ts (sym h.are ∙ e) in
        (ap (before TokenEnd) h.visible ∙ (h.token ∙ both.0), ap (λ v. tokens (rest_from TokenEnd v)) h.visible ∙ (ap tokens h.rest ∙ both.1))

-- a comma, and what stands behind it
record IsNext (text : List ℕ) (p : List ℕ × List ℕ) : Type 0 where
  behind : List ℕ
  are : tokens text ≡ comma ∷ tokens behind
  is : p ≡ operand_of behind

was_next : (text : List ℕ) (p : List ℕ × List ℕ) → next_operand_of text ≡ Ok p → IsNext text p
unfolding next_operand_of
was_next text p e = by (begins text)
  where
    no_comma : eqb (get_or (rest_from Visible text) 0 0) 44 ≡ false → IsNext text p
    no_comma f = absurd (let never : Err BadOperand ≡ Ok p = sym (ap (λ b. cond b (Ok (operand_of (drop 1 (rest_from Visible text)))) (Err BadOperand)) f) ∙ e in cc)

    by : Begins text → IsNext text p
    by (inl h) = no_comma (ap (λ v. eqb (get_or v 0 0) 44) h.visible)
    by (inr (inl h)) = record {
      behind = h.behind;
      are = h.are;
      is = ok_same p (operand_of h.behind) (sym e ∙ ap (λ v. cond (eqb (get_or v 0 0) 44) (Ok (operand_of (drop 1 v))) (Err BadOperand)) h.visible);
    }
    by (inr (inr h)) = no_comma (ap (λ v. eqb (get_or v 0 0) 44) h.visible ∙ h.no_comma)

is_next : (text : List ℕ) (ts : List (List ℕ)) → tokens text ≡ comma ∷ ts → (behind : List ℕ) × (next_operand_of text ≡ Ok (operand_of behind)) × (tokens behind ≡ ts)
unfolding next_operand_of
is_next text ts e = by (begins text)
  where
    by : Begins text → (behind : List ℕ) × (next_operand_of text ≡ Ok (operand_of behind)) × (tokens behind ≡ ts)
    by (inl h) = absurd (no_tokens comma ts (sym h.are ∙ e))
    by (inr (inl h)) = (
      h.behind,
      ap (λ v. cond (eqb (get_or v 0 0) 44) (Ok (operand_of (drop 1 v))) (Err BadOperand)) h.visible,
      (first_same comma comma (tokens h.behind) ts (sym h.are ∙ e)).1,
    )
    by (inr (inr h)) = absurd (not_comma h.first h.more ts (tokens h.after) h.no_comma (sym e ∙ h.are))

-- ---- the three operands of a branch

-- the tokens of a branch that was good, and the text after them
pub record IsBranch (text : List ℕ) (o : Parts) : Type 0 where
  pub are : tokens text ≡ o.first ∷ comma ∷ o.second ∷ comma ∷ o.third ∷ tokens o.rest
  pub no_comma : o.third ≢ comma

pub was_branch : (text : List ℕ) (o : Parts) → operands_of 3 text ≡ Ok o → o.first ≢ [] → o.second ≢ [] → o.third ≢ [] → IsBranch text o
unfolding operands_of third_operand
was_branch text o e one two three = ok_then _ _ o _ (λ second is e. ok_then _ _ o _ (λ third also e. by second third is also (ok_same _ o e)) e) e
  where
    by : (second third : List ℕ × List ℕ) → next_operand_of (operand_of text).1 ≡ Ok second → next_operand_of second.1 ≡ Ok third → parts (operand_of text).0 second.0 third.0 third.1 ≡ o → IsBranch text o
    by second third is also same =
        let n = was_next (operand_of text).1 second is in
        let k = was_next second.1 third also in
        let a = was_operand text (λ z. one (sym (ap (λ (p : Parts). p.first) same) ∙ z)) in
        let b = was_operand n.behind (λ z. two (sym (ap (λ (p : Parts). p.second) same) ∙ (ap (λ (p : List ℕ × List ℕ). p.0) n.is ∙ z))) in
        let d = was_operand k.behind (λ z. three (sym (ap (λ (p : Parts). p.third) same) ∙ (ap (λ (p : List ℕ × List ℕ). p.0) k.is ∙ z))) in
        let last : tokens second.1 ≡ comma ∷ third.0 ∷ tokens third.1 =
        k.are ∙ ap (λ ts. comma ∷ ts) (d.are ∙ (ap (λ t. t ∷ tokens (operand_of k.behind).1) (sym (ap (λ (p : List ℕ × List ℕ). p.0) k.is)) ∙ ap (λ r. third.0 ∷ tokens r) (sym (ap (λ (p : List ℕ × List ℕ). p.1) k.is)))) in
        let middle : tokens (operand_of text).1 ≡ comma ∷ second.0 ∷ tokens second.1 =
        n.are ∙ ap (λ ts. comma ∷ ts) (b.are ∙ (ap (λ t. t ∷ tokens (operand_of n.behind).1) (sym (ap (λ (p : List ℕ × List ℕ). p.0) n.is)) ∙ ap (λ r. second.0 ∷ tokens r) (sym (ap (λ (p : List ℕ × List ℕ). p.1) n.is)))) in
        let all : tokens text ≡ (operand_of text).0 ∷ comma ∷ second.0 ∷ comma ∷ third.0 ∷ tokens third.1 =
        a.are ∙ ap (λ ts. (operand_of text).0 ∷ ts) (middle ∙ ap (λ ts. comma ∷ second.0 ∷ ts) last) in
        subst (IsBranch text) same (record { are = all; no_comma = λ z. d.no_comma (sym (ap (λ (p : List ℕ × List ℕ). p.0) k.is) ∙ z) })

pub is_branch : (text x y z : List ℕ) → x ≢ comma → y ≢ comma → z ≢ comma → tokens text ≡ x ∷ comma ∷ y ∷ comma ∷ z ∷ [] → (rest : List ℕ) × (operands_of 3 text ≡ Ok (parts x y z rest)) × (tokens rest ≡ [])
unfolding operands_of third_operand
is_branch text x y z no_x no_y no_z e =
    let a = is_operand text x _ no_x e in
    let n = is_next (operand_of text).1 _ a.1 in
    let b = is_operand n.0 y _ no_y n.2 in
    let k = is_next (operand_of n.0).1 _ b.1 in
    let d = is_operand k.0 z _ no_z k.2 in (
      (operand_of k.0).1,
      ap (λ r. r >>= (λ second. third_operand (operand_of text).0 second)) n.1 ∙ (ap (λ r. r >>= (λ third. Ok (parts (operand_of text).0 (operand_of n.0).0 third.0 third.1))) k.1
          ∙ (ap (λ t. Ok (parts t (operand_of n.0).0 (operand_of k.0).0 (operand_of k.0).1)) a.0 ∙ (ap (λ t. Ok (parts x t (operand_of k.0).0 (operand_of k.0).1)) b.0 ∙ ap (λ t. Ok (parts x y t (operand_of k.0).1)) d.0))),
      d.1,
    )

-- ---- targets

-- a jump that fits is short enough to be written
within_small : (z : ℤ) (low high : ℕ) (why : AsmFault) (y : ℤ) → low < 2 ^ 32 → high < 2 ^ 32 → within (negsuc low) (pos high) why z ≡ Ok y → IsSmall z
within_small (pos n) low high why y a b e = by (leb n high) refl e
  where
    by : (k : Bool) → leb n high ≡ k → cond k (Ok (pos n)) (Err why) ≡ Ok y → n < 2 ^ 64
    by true is e = grind (arith, nat_tests)
    by false is e = absurd cc
within_small (negsuc n) low high why y a b e = by (leb n low) refl e
  where
    by : (k : Bool) → leb n low ≡ k → cond (k && true) (Ok (negsuc n)) (Err why) ≡ Ok y → suc n < 2 ^ 64
    by true is e = grind (arith, nat_tests)
    by false is e = absurd cc

pub jump_small : (long : Bool) (z y : ℤ) → jump_of long z ≡ Ok y → IsSmall z
jump_small true z y e = within_small z (2 ^ 31 - 1) (2 ^ 31 - 1) JumpTooFar y (omega arith) (omega arith) e
jump_small false z y e = within_small z (2 ^ 15 - 1) (2 ^ 15 - 1) JumpTooFar y (omega arith) (omega arith) e

pub no_target : (marks : Marks) (slot : ℕ) (by : ℤ) → (target_of [] >>= distance_of marks slot) ≡ Ok by → ⊥
unfolding target_of is_label
no_target marks slot by e = cc

-- a target that is good goes as far once it is said by its distance
pub record Goes (marks later : Marks) (slot : ℕ) (target : List ℕ) (by : ℤ) : Type 0 where
  pub far : (target_of (distanced marks slot target) >>= distance_of later slot) ≡ Ok by
  pub no_comma : target ≢ comma → distanced marks slot target ≢ comma

plus_or_minus : (z : ℤ) → with_sign z ≢ comma
plus_or_minus (pos n) e = let c : 43 ≡ 44 = ap (λ t. get_or t 0 0) e in absurd (omega (arith, c))
plus_or_minus (negsuc n) e = let c : 45 ≡ 44 = ap (λ t. get_or t 0 0) e in absurd (omega (arith, c))

pub goes : (marks later : Marks) (slot : ℕ) (target : List ℕ) (by : ℤ) → IsSmall by → (target_of target >>= distance_of marks slot) ≡ Ok by → Goes marks later slot target by
goes marks later slot target by small e = cases (target_of target) refl e
  where
    cases : (r : Result Goal AsmFault) → target_of target ≡ r → (r >>= distance_of marks slot) ≡ Ok by → Goes marks later slot target by
    cases (Err why) is e = absurd cc
    cases (Ok (By d)) is e =
        let same : distanced marks slot target ≡ target = ap (named marks slot target) is in
        record { far = ap (λ t. target_of t >>= distance_of later slot) same ∙ (ap (λ r. r >>= distance_of later slot) is ∙ e); no_comma = λ none z. none (sym same ∙ z) }
    cases (Ok (goals.Label name)) is e = marked (marks name) refl e
      where
        marked : (o : Option Mark) → marks name ≡ o → to_mark slot o ≡ Ok by → Goes marks later slot target by
        marked None at e = absurd cc
        marked (Some m) at e =
            let d = pos m.slot -ℤ pos (slot + 1) in
            let far : d ≡ by = ok_same d by e in
            let same : distanced marks slot target ≡ with_sign by = ap (named marks slot target) is ∙ (ap (said slot target) at ∙ ap with_sign far) in
            record { far = ap (λ t. target_of t >>= distance_of later slot) same ∙ ap (λ r. r >>= distance_of later slot) (target-with_sign by small); no_comma = λ none z. plus_or_minus by (sym same ∙ z) }

-- ---- jumps

pub record JaOk (marks : Marks) (slot : ℕ) (long : Bool) (target : List ℕ) (i : Form) : Type 0 where
  pub by : ℤ
  pub far : (target_of target >>= distance_of marks slot) ≡ Ok by
  pub fits : ℤ
  pub short : jump_of long by ≡ Ok fits
  pub is : forms.Ja long fits ≡ i

pub ja_in : (marks : Marks) (slot : ℕ) (long : Bool) (o : Parts) (i : Form) → ja_of marks slot long o ≡ Ok i → JaOk marks slot long o.first i
unfolding ja_of
ja_in marks slot long o i e =
    ok_then _ _ i _ (λ target t e. ok_then _ _ i _ (λ by b e. ok_then _ _ i _ (λ fits f e. record { by = by; far = ap (λ r. r >>= distance_of marks slot) t ∙ b; fits = fits; short = f; is = ok_same _ i e }) e) e) e

pub ja_out : (marks : Marks) (slot : ℕ) (long : Bool) (o : Parts) (i : Form) → JaOk marks slot long o.first i → ja_of marks slot long o ≡ Ok i
unfolding ja_of
ja_out marks slot long o i h =
    ok_then _ _ h.by _ (λ target t e.
    ap (λ r. r >>= (λ target. distance_of marks slot target >>= (λ by. jump_of long by >>= (λ fits. Ok (forms.Ja long fits))))) t
    ∙ (ap (λ r. r >>= (λ by. jump_of long by >>= (λ fits. Ok (forms.Ja long fits)))) e ∙ (ap (λ r. r >>= (λ fits. Ok (forms.Ja long fits))) h.short ∙ ap Ok h.is))) h.far

pub record BranchOk (marks : Marks) (slot : ℕ) (w64 : Bool) (cond : Condition) (o : Parts) (i : Form) : Type 0 where
  pub dst : ℕ
  pub first : register_of o.first ≡ Ok dst
  pub written : Written
  pub second : source_of o.second ≡ Ok written
  pub src : Source
  pub source : source_form written ≡ Ok src
  pub by : ℤ
  pub far : (target_of o.third >>= distance_of marks slot) ≡ Ok by
  pub off : ℤ
  pub short : jump_of false by ≡ Ok off
  pub is : forms.Branch w64 cond dst src off ≡ i

pub branch_in : (marks : Marks) (slot : ℕ) (w64 : Bool) (cond : Condition) (o : Parts) (i : Form) → branch_of marks slot w64 cond o ≡ Ok i → BranchOk marks slot w64 cond o i
unfolding branch_of
branch_in marks slot w64 cond o i e =
    ok_then _ _ i _ (λ dst a e. ok_then _ _ i _ (λ written b e. ok_then _ _ i _ (λ target t e. ok_then _ _ i _ (λ src d e. ok_then _ _ i _ (λ by f e. ok_then _ _ i _ (λ off g e.
    record { dst = dst; first = a; written = written; second = b; src = src; source = d; by = by; far = ap (λ r. r >>= distance_of marks slot) t ∙ f; off = off; short = g; is = ok_same _ i e }) e) e) e) e) e) e

pub branch_out : (marks : Marks) (slot : ℕ) (w64 : Bool) (cond : Condition) (o : Parts) (i : Form) → BranchOk marks slot w64 cond o i → branch_of marks slot w64 cond o ≡ Ok i
unfolding branch_of
branch_out marks slot w64 cond o i h =
    ok_then _ _ h.by _ (λ target t e.
    ap (λ r. r >>= (λ dst. source_of o.second >>= (λ written. target_of o.third >>= (λ target. source_form written >>= (λ src. distance_of marks slot target >>= (λ by. jump_of false by >>= (λ off. Ok (forms.Branch w64 cond dst src off)))))))) h.first
    ∙ (ap (λ r. r >>= (λ written. target_of o.third >>= (λ target. source_form written >>= (λ src. distance_of marks slot target >>= (λ by. jump_of false by >>= (λ off. Ok (forms.Branch w64 cond h.dst src off))))))) h.second
    ∙ (ap (λ r. r >>= (λ target. source_form h.written >>= (λ src. distance_of marks slot target >>= (λ by. jump_of false by >>= (λ off. Ok (forms.Branch w64 cond h.dst src off)))))) t
    ∙ (ap (λ r. r >>= (λ src. distance_of marks slot target >>= (λ by. jump_of false by >>= (λ off. Ok (forms.Branch w64 cond h.dst src off))))) h.source
    ∙ (ap (λ r. r >>= (λ by. jump_of false by >>= (λ off. Ok (forms.Branch w64 cond h.dst h.src off)))) e
    ∙ (ap (λ r. r >>= (λ off. Ok (forms.Branch w64 cond h.dst h.src off))) h.short ∙ ap Ok h.is)))))) h.far

pub no_register : (n : ℕ) → register_of [] ≡ Ok n → ⊥
unfolding register_of
no_register n e = cc

pub no_source : (w : Written) → source_of [] ≡ Ok w → ⊥
unfolding source_of register_of number_of unsigned_of magnitude_of
no_source w e = cc

pub comma_register : (n : ℕ) → register_of comma ≡ Ok n → ⊥
unfolding register_of
comma_register n e = cc

pub comma_source : (w : Written) → source_of comma ≡ Ok w → ⊥
unfolding source_of register_of number_of unsigned_of magnitude_of
comma_source w e = cc
