-- White space and comments say nothing: what a line says is known from its tokens.
use Rattle.std.proofs.Common.{◌≡◌, ◌⊎◌, inl, inr, ℕ, suc, ◌+◌, Bool, true, false, not, cond, ◌&&◌, ◌||◌, ltb, eqb, List, [], ◌∷◌, ◌++◌, length, map, get_or, take, drop, Option, Some, None, Result, Ok, Err, refl, sym, ap, ◌∙◌, subst, arith, append_assoc}
use mathlib.Core.Path.{fun_ext}
use Rattle.std.specs.List.{prefix_len}
use Rattle.std.specs.Option.{ok_or, option_or}
use Rattle.std.proofs.lemmas.Bool.{false≢true, lt-ltb, ne_eqb, eqb-true}
use Rattle.std.proofs.lemmas.List.{append-nil}
use Rattle.insn.specs.declared.instruction.Form.{Form}
use Rattle.insn.specs.declared.instruction.TheConstants.{MAX_SLOTS}
use Rattle.insn.specs.Layout.{slot_count}
use Rattle.text.specs.Lines.{lines_of, next_line}
use Rattle.asm.specs.declared.refusals.AsmFault.{AsmFault}
use Rattle.asm.specs.declared.refusals.AsmFault.TheVariants.{BadOperand, UnknownWord, TooLong, TextBehind}
use Rattle.asm.specs.declared.tokens.Stop.{Stop}
use Rattle.asm.specs.declared.tokens.Stop.TheVariants.{Semicolon, Visible, TokenEnd, Colon}
use Rattle.asm.specs.declared.words.Mnemonic.{Mnemonic}
use Rattle.asm.specs.declared.words.Mnemonic.TheVariants as words
use Rattle.asm.specs.declared.labels.Mark.{Mark}
use Rattle.asm.specs.Tokens.{◌>>=◌, result_map, Parts, is_blank, stops, before, rest_from, operand_of, next_operand_of, third_operand, operands_of, parts, closed, tokens_behind, tokens_of}
use Rattle.asm.specs.Operands.{is_label}
use Rattle.asm.specs.Words.{meaning_of, operand_count}
use Rattle.asm.specs.Labels.{Marks, Held, Blank, Label, Word, line_of, word_or_label, mark, mark_here, marks_from, slots_behind}
use Rattle.asm.specs.Forms.{form_of, alu_of, movsx_of, load_of, store_imm_of, store_reg_of, imm64_of, map_ref_of, ja_of, branch_of}
use Rattle.asm.specs.Assembled.{ended, word_of_line, held_instruction, instruction_of, behind, assembled_from, assembled, slots_taken}
use Rattle.asm.specs.Laws.{TokensSayAll}

abbrev pub tokens : List ℕ → List (List ℕ)
tokens text = tokens_behind [] text

-- ---- where parts end

pub ends_here : (stop : Stop) (c : ℕ) (cs : List ℕ) → stops stop c ≡ true → (before stop (c ∷ cs) ≡ []) × (rest_from stop (c ∷ cs) ≡ c ∷ cs)
unfolding before rest_from
ends_here stop c cs e = (rw e refl, rw e refl)

pub goes_on : (stop : Stop) (c : ℕ) (cs : List ℕ) → stops stop c ≡ false → (before stop (c ∷ cs) ≡ c ∷ before stop cs) × (rest_from stop (c ∷ cs) ≡ rest_from stop cs)
unfolding before rest_from
goes_on stop c cs e =
    let n = prefix_len (λ x. not (stops stop x)) cs in
    let one : 1 + n ≡ suc n = omega arith in
    (rw e (ap (λ k. take k (c ∷ cs)) one), rw e (ap (λ k. drop k (c ∷ cs)) one))

at_end : (token : List ℕ) → closed token [] ≡ closed (token ++ before TokenEnd []) (tokens (rest_from TokenEnd []))
unfolding before rest_from
at_end token = ap (λ t. closed t []) (sym (append-nil token))

nothing_shown : rest_from Visible [] ≡ []
unfolding rest_from
nothing_shown = refl

-- a token goes on to where it ends
to_end : (token text : List ℕ) → tokens_behind token text ≡ closed (token ++ before TokenEnd text) (tokens (rest_from TokenEnd text))
to_end token [] = at_end token
to_end token (c ∷ cs) = by (is_blank c) (eqb c 44) refl refl (to_end (token ++ c ∷ []) cs)
  where
    stopped : (rest : List (List ℕ)) → stops TokenEnd c ≡ true → tokens (c ∷ cs) ≡ rest → closed token rest ≡ closed (token ++ before TokenEnd (c ∷ cs)) (tokens (rest_from TokenEnd (c ∷ cs)))
    stopped rest e is =
        let at = ends_here TokenEnd c cs e in
        ap (closed token) (sym is) ∙ ap (λ t. closed t (tokens (c ∷ cs))) (sym (append-nil token)) ∙ ap (λ w. closed (token ++ w) (tokens (c ∷ cs))) (sym at.0) ∙ ap (λ r. closed (token ++ before TokenEnd (c ∷ cs)) (tokens r)) (sym at.1)

    by : (b k : Bool) → is_blank c ≡ b → eqb c 44 ≡ k → tokens_behind (token ++ c ∷ []) cs ≡ closed ((token ++ c ∷ []) ++ before TokenEnd cs) (tokens (rest_from TokenEnd cs))
        → tokens_behind token (c ∷ cs) ≡ closed (token ++ before TokenEnd (c ∷ cs)) (tokens (rest_from TokenEnd (c ∷ cs)))
    by true k e f rest = rw e (stopped (tokens cs) (rw e refl) (rw e refl))
    by false true e f rest = rw (e, f) (stopped ((44 ∷ []) ∷ tokens cs) (rw (e, f) refl) (rw (e, f) refl))
    by false false e f rest =
        let at = goes_on TokenEnd c cs (rw (e, f) refl) in
        rw (e, f) (rest ∙ ap (λ w. closed w (tokens (rest_from TokenEnd cs))) (append_assoc token (c ∷ []) (before TokenEnd cs)) ∙ ap (λ w. closed (token ++ w) (tokens (rest_from TokenEnd cs))) (sym at.0) ∙ ap (λ r. closed (token ++ before TokenEnd (c ∷ cs)) (tokens r)) (sym at.1))

-- ---- how a text begins

pub record IsEmpty (text : List ℕ) : Type 0 where
  pub visible : rest_from Visible text ≡ []
  pub are : tokens text ≡ []

pub record HasComma (text : List ℕ) : Type 0 where
  pub behind : List ℕ
  pub visible : rest_from Visible text ≡ 44 ∷ behind
  pub are : tokens text ≡ (44 ∷ []) ∷ tokens behind

pub record HasToken (text : List ℕ) : Type 0 where
  pub first : ℕ
  pub more : List ℕ
  pub after : List ℕ
  pub shown : List ℕ
  pub visible : rest_from Visible text ≡ first ∷ shown
  pub no_comma : eqb first 44 ≡ false
  pub token : before TokenEnd (first ∷ shown) ≡ first ∷ more
  pub rest : rest_from TokenEnd (first ∷ shown) ≡ after
  pub are : tokens text ≡ (first ∷ more) ∷ tokens after

abbrev pub Begins : List ℕ → Type 0
Begins text = IsEmpty text ⊎ (HasComma text ⊎ HasToken text)

behind_blank : (text rest : List ℕ) → rest_from Visible text ≡ rest_from Visible rest → tokens text ≡ tokens rest → Begins rest → Begins text
behind_blank text rest e f (inl h) = inl (record { visible = e ∙ h.visible; are = f ∙ h.are })
behind_blank text rest e f (inr (inl h)) = inr (inl (record { behind = h.behind; visible = e ∙ h.visible; are = f ∙ h.are }))
behind_blank text rest e f (inr (inr h)) =
    inr (inr (record { first = h.first; more = h.more; after = h.after; shown = h.shown; visible = e ∙ h.visible; no_comma = h.no_comma; token = h.token; rest = h.rest; are = f ∙ h.are }))

pub begins : (text : List ℕ) → Begins text
begins [] = inl (record { visible = nothing_shown; are = refl })
begins (c ∷ cs) = by (is_blank c) (eqb c 44) refl refl (begins cs)
  where
    by : (b k : Bool) → is_blank c ≡ b → eqb c 44 ≡ k → Begins cs → Begins (c ∷ cs)
    by true k e f rest = behind_blank (c ∷ cs) cs (goes_on Visible c cs (rw e refl)).1 (rw e refl) rest
    by false true e f rest =
        let is : c ≡ 44 = eqb-true c 44 f in
        inr (inl (record { behind = cs; visible = (ends_here Visible c cs (rw e refl)).1 ∙ ap (λ d. d ∷ cs) is; are = rw (e, f) refl }))
    by false false e f rest =
        let at = goes_on TokenEnd c cs (rw (e, f) refl) in
        inr (inr (record {
          first = c;
          more = before TokenEnd cs;
          after = rest_from TokenEnd cs;
          shown = cs;
          visible = (ends_here Visible c cs (rw e refl)).1;
          no_comma = f;
          token = at.0;
          rest = at.1;
          are = rw (e, f) (to_end (c ∷ []) cs);
        }))

-- ---- two texts with the same tokens

pub record Alike (a b : List ℕ) : Type 0 where
  pub first : before TokenEnd (rest_from Visible a) ≡ before TokenEnd (rest_from Visible b)
  pub rest : tokens (rest_from TokenEnd (rest_from Visible a)) ≡ tokens (rest_from TokenEnd (rest_from Visible b))
  pub empty : eqb (length (rest_from Visible a)) 0 ≡ eqb (length (rest_from Visible b)) 0
  pub some : ltb 0 (length (rest_from Visible a)) ≡ ltb 0 (length (rest_from Visible b))
  pub comma : eqb (get_or (rest_from Visible a) 0 0) 44 ≡ eqb (get_or (rest_from Visible b) 0 0) 44
  pub behind : eqb (get_or (rest_from Visible a) 0 0) 44 ≡ true → tokens (drop 1 (rest_from Visible a)) ≡ tokens (drop 1 (rest_from Visible b))

-- of the texts from their first visible byte on
record AlikeFrom (v w : List ℕ) : Type 0 where
  first : before TokenEnd v ≡ before TokenEnd w
  rest : tokens (rest_from TokenEnd v) ≡ tokens (rest_from TokenEnd w)
  empty : eqb (length v) 0 ≡ eqb (length w) 0
  some : ltb 0 (length v) ≡ ltb 0 (length w)
  comma : eqb (get_or v 0 0) 44 ≡ eqb (get_or w 0 0) 44
  behind : eqb (get_or v 0 0) 44 ≡ true → tokens (drop 1 v) ≡ tokens (drop 1 w)

from_visible : (a b v w : List ℕ) → rest_from Visible a ≡ v → rest_from Visible b ≡ w → AlikeFrom v w → Alike a b
from_visible a b v w e f h =
    let g : AlikeFrom (rest_from Visible a) (rest_from Visible b) = subst (λ x. AlikeFrom x (rest_from Visible b)) (sym e) (subst (AlikeFrom v) (sym f) h) in
    record { first = g.first; rest = g.rest; empty = g.empty; some = g.some; comma = g.comma; behind = g.behind }

-- a text that begins with a byte is not empty
pub some_bytes : (c : ℕ) (cs : List ℕ) → (ltb 0 (length (c ∷ cs)) ≡ true) × (eqb (length (c ∷ cs)) 0 ≡ false)
some_bytes c cs = (lt-ltb 0 (length (c ∷ cs)) (omega arith), ne_eqb (length (c ∷ cs)) 0 (λ e. absurd (omega (arith, e))))

commas_alike : (xs ys : List ℕ) → tokens xs ≡ tokens ys → AlikeFrom (44 ∷ xs) (44 ∷ ys)
commas_alike xs ys same =
    let a = ends_here TokenEnd 44 xs refl in
    let b = ends_here TokenEnd 44 ys refl in
    record {
      first = a.0 ∙ sym b.0;
      rest = ap tokens a.1 ∙ (ap (λ ts. (44 ∷ []) ∷ ts) same ∙ sym (ap tokens b.1));
      empty = (some_bytes 44 xs).1 ∙ sym (some_bytes 44 ys).1;
      some = (some_bytes 44 xs).0 ∙ sym (some_bytes 44 ys).0;
      comma = refl;
      behind = λ _. same;
    }

tokens_alike : (c d : ℕ) (xs ys : List ℕ) → c ≡ d → eqb c 44 ≡ false → before TokenEnd (c ∷ xs) ≡ before TokenEnd (d ∷ ys) → tokens (rest_from TokenEnd (c ∷ xs)) ≡ tokens (rest_from TokenEnd (d ∷ ys)) → AlikeFrom (c ∷ xs) (d ∷ ys)
tokens_alike c d xs ys same none first rest = record {
  first = first;
  rest = rest;
  empty = (some_bytes c xs).1 ∙ sym (some_bytes d ys).1;
  some = (some_bytes c xs).0 ∙ sym (some_bytes d ys).0;
  comma = ap (λ k. eqb k 44) same;
  behind = λ e. absurd (false≢true (sym none ∙ e));
}

-- the first of a list of tokens is one token
pub no_tokens : (t : List ℕ) (ts : List (List ℕ)) → [] ≡ t ∷ ts → ⊥
no_tokens t ts e = cc

pub not_comma : (c : ℕ) (more : List ℕ) (ts us : List (List ℕ)) → eqb c 44 ≡ false → (44 ∷ []) ∷ ts ≡ (c ∷ more) ∷ us → ⊥
not_comma c more ts us none e = let is : 44 ≡ c = cc in false≢true (sym none ∙ ap (λ k. eqb k 44) (sym is))

alike_by : (a b : List ℕ) → Begins a → Begins b → tokens a ≡ tokens b → Alike a b
alike_by a b (inl h) (inl k) e = from_visible a b [] [] h.visible k.visible (record { first = refl; rest = refl; empty = refl; some = refl; comma = refl; behind = λ _. refl })
alike_by a b (inl h) (inr (inl k)) e = absurd (no_tokens _ _ (sym h.are ∙ (e ∙ k.are)))
alike_by a b (inl h) (inr (inr k)) e = absurd (no_tokens _ _ (sym h.are ∙ (e ∙ k.are)))
alike_by a b (inr (inl h)) (inl k) e = absurd (no_tokens _ _ (sym k.are ∙ (sym e ∙ h.are)))
alike_by a b (inr (inr h)) (inl k) e = absurd (no_tokens _ _ (sym k.are ∙ (sym e ∙ h.are)))
alike_by a b (inr (inl h)) (inr (inl k)) e =
    let same : (44 ∷ []) ∷ tokens h.behind ≡ (44 ∷ []) ∷ tokens k.behind = sym h.are ∙ (e ∙ k.are) in
    let rest : tokens h.behind ≡ tokens k.behind = cc in
    from_visible a b (44 ∷ h.behind) (44 ∷ k.behind) h.visible k.visible (commas_alike h.behind k.behind rest)
alike_by a b (inr (inl h)) (inr (inr k)) e = absurd (not_comma k.first k.more _ _ k.no_comma (sym h.are ∙ (e ∙ k.are)))
alike_by a b (inr (inr h)) (inr (inl k)) e = absurd (not_comma h.first h.more _ _ h.no_comma (sym k.are ∙ (sym e ∙ h.are)))
alike_by a b (inr (inr h)) (inr (inr k)) e =
    let same : (h.first ∷ h.more) ∷ tokens h.after ≡ (k.first ∷ k.more) ∷ tokens k.after = sym h.are ∙ (e ∙ k.are) in
    let first : h.first ∷ h.more ≡ k.first ∷ k.more = cc in
    let byte : h.first ≡ k.first = cc in
    let rest : tokens h.after ≡ tokens k.after = cc in
    from_visible a b (h.first ∷ h.shown) (k.first ∷ k.shown) h.visible k.visible
    (tokens_alike h.first k.first h.shown k.shown byte h.no_comma (h.token ∙ (first ∙ sym k.token)) (ap tokens h.rest ∙ (rest ∙ sym (ap tokens k.rest))))

pub alike : (a b : List ℕ) → tokens a ≡ tokens b → Alike a b
alike a b e = alike_by a b (begins a) (begins b) e

-- ---- operands

abbrev SamePair : Result (List ℕ × List ℕ) AsmFault → Result (List ℕ × List ℕ) AsmFault → Type 0
SamePair (Ok p) (Ok q) = (p.0 ≡ q.0) × (tokens p.1 ≡ tokens q.1)
SamePair (Ok p) (Err f) = ⊥
SamePair (Err e) (Ok q) = ⊥
SamePair (Err e) (Err f) = e ≡ f

abbrev pub SameParts : Result Parts AsmFault → Result Parts AsmFault → Type 0
SameParts (Ok p) (Ok q) = (p.first ≡ q.first) × (p.second ≡ q.second) × (p.third ≡ q.third) × (tokens p.rest ≡ tokens q.rest)
SameParts (Ok p) (Err f) = ⊥
SameParts (Err e) (Ok q) = ⊥
SameParts (Err e) (Err f) = e ≡ f

next_same : (a b : List ℕ) → tokens a ≡ tokens b → SamePair (next_operand_of a) (next_operand_of b)
unfolding next_operand_of
next_same a b e =
    let h = alike a b e in
    subst (λ k. SamePair (next_operand_of a) (cond k (Ok (operand_of (drop 1 (rest_from Visible b)))) (Err BadOperand))) h.comma (by (eqb (get_or (rest_from Visible a) 0 0) 44) h.behind)
  where
    by : (k : Bool) → (k ≡ true → tokens (drop 1 (rest_from Visible a)) ≡ tokens (drop 1 (rest_from Visible b)))
        → SamePair (cond k (Ok (operand_of (drop 1 (rest_from Visible a)))) (Err BadOperand)) (cond k (Ok (operand_of (drop 1 (rest_from Visible b)))) (Err BadOperand))
    by true behind = let h = alike (drop 1 (rest_from Visible a)) (drop 1 (rest_from Visible b)) (behind refl) in (h.first, h.rest)
    by false behind = refl

then_same : (x y : Result (List ℕ × List ℕ) AsmFault) (f g : List ℕ × List ℕ → Result Parts AsmFault) → SamePair x y
    → ((p q : List ℕ × List ℕ) → p.0 ≡ q.0 → tokens p.1 ≡ tokens q.1 → SameParts (f p) (g q)) → SameParts (x >>= f) (y >>= g)
then_same (Ok p) (Ok q) f g h more = more p q h.0 h.1
then_same (Ok p) (Err e) f g h more = absurd h
then_same (Err e) (Ok q) f g h more = absurd h
then_same (Err e) (Err d) f g h more = h

third_same : (x y : List ℕ) (p q : List ℕ × List ℕ) → x ≡ y → p.0 ≡ q.0 → tokens p.1 ≡ tokens q.1 → SameParts (third_operand x p) (third_operand y q)
unfolding third_operand
third_same x y p q first second rest = then_same (next_operand_of p.1) (next_operand_of q.1) _ _ (next_same p.1 q.1 rest) (λ r s third last. (first, second, third, last))

pub operands_same : (count : ℕ) (a b : List ℕ) → tokens a ≡ tokens b → SameParts (operands_of count a) (operands_of count b)
unfolding operands_of
operands_same count a b e = by (eqb count 0) (eqb count 1) (eqb count 2)
  where
    h : Alike a b
    h = alike a b e

    by : (none one two : Bool)
        → SameParts
        (cond none (Ok (parts [] [] [] a)) (cond one (Ok (parts (operand_of a).0 [] [] (operand_of a).1)) (next_operand_of (operand_of a).1 >>= (λ second. cond two (Ok (parts (operand_of a).0 second.0 [] second.1)) (third_operand (operand_of a).0 second)))))
        (cond none (Ok (parts [] [] [] b)) (cond one (Ok (parts (operand_of b).0 [] [] (operand_of b).1)) (next_operand_of (operand_of b).1 >>= (λ second. cond two (Ok (parts (operand_of b).0 second.0 [] second.1)) (third_operand (operand_of b).0 second)))))
    by true one two = (refl, refl, refl, e)
    by false true two = (h.first, refl, refl, h.rest)
    by false false true = then_same (next_operand_of (operand_of a).1) (next_operand_of (operand_of b).1) _ _ (next_same (operand_of a).1 (operand_of b).1 h.rest) (λ p q second rest. (h.first, second, refl, rest))
    by false false false = then_same (next_operand_of (operand_of a).1) (next_operand_of (operand_of b).1) _ _ (next_same (operand_of a).1 (operand_of b).1 h.rest) (λ p q second rest. third_same (operand_of a).0 (operand_of b).0 p q h.first second rest)

-- ---- instructions

-- what stands behind the operands says nothing of the instruction
form_alike : (marks : Marks) (slot : ℕ) (m : Mnemonic) (x y z r s : List ℕ) → form_of marks slot m (parts x y z r) ≡ form_of marks slot m (parts x y z s)
unfolding form_of alu_of movsx_of load_of store_imm_of store_reg_of imm64_of map_ref_of ja_of branch_of
form_alike marks slot (words.Alu w64 op) x y z r s = refl
form_alike marks slot (words.Neg w64) x y z r s = refl
form_alike marks slot (words.MovSx w64) x y z r s = refl
form_alike marks slot (words.Swap order bits) x y z r s = refl
form_alike marks slot (words.Load size signed) x y z r s = refl
form_alike marks slot (words.StoreImm size) x y z r s = refl
form_alike marks slot (words.StoreReg size) x y z r s = refl
form_alike marks slot words.Imm64 x y z r s = refl
form_alike marks slot words.MapRef x y z r s = refl
form_alike marks slot (words.Ja long) x y z r s = refl
form_alike marks slot (words.Branch w64 cond) x y z r s = refl
form_alike marks slot words.Call x y z r s = refl
form_alike marks slot words.Exit x y z r s = refl

pub form_same : (marks : Marks) (slot : ℕ) (m : Mnemonic) (p q : Parts) → p.first ≡ q.first → p.second ≡ q.second → p.third ≡ q.third → form_of marks slot m p ≡ form_of marks slot m q
form_same marks slot m p q first second third =
    form_alike marks slot m p.first p.second p.third p.rest q.rest
    ∙ ap (λ x. form_of marks slot m (parts x p.second p.third q.rest)) first
    ∙ ap (λ x. form_of marks slot m (parts q.first x p.third q.rest)) second
    ∙ ap (λ x. form_of marks slot m (parts q.first q.second x q.rest)) third

pub ended_same : (slot : ℕ) (i : Form) (r s : List ℕ) → tokens r ≡ tokens s → ended slot i r ≡ ended slot i s
ended_same slot i r s e = ap (λ b. cond (ltb MAX_SLOTS (slot + slot_count i)) (Err TooLong) (cond b (Err TextBehind) (Ok i))) (alike r s e).some

each_then : (x : Result Form AsmFault) (f g : Form → Result Form AsmFault) → ((i : Form) → f i ≡ g i) → (x >>= f) ≡ (x >>= g)
each_then (Ok i) f g same = same i
each_then (Err e) f g same = refl

pub parts_then : (marks : Marks) (slot : ℕ) (m : Mnemonic) (x y : Result Parts AsmFault) → SameParts x y
    → (x >>= (λ o. form_of marks slot m o >>= (λ i. ended slot i o.rest))) ≡ (y >>= (λ o. form_of marks slot m o >>= (λ i. ended slot i o.rest)))
parts_then marks slot m (Ok p) (Ok q) h =
    ap (λ r. r >>= (λ i. ended slot i p.rest)) (form_same marks slot m p q h.0 h.1 h.2) ∙ each_then (form_of marks slot m q) _ _ (λ i. ended_same slot i p.rest q.rest h.3)
parts_then marks slot m (Ok p) (Err e) h = absurd h
parts_then marks slot m (Err e) (Ok q) h = absurd h
parts_then marks slot m (Err e) (Err d) h = ap Err h

pub word_same : (marks : Marks) (slot : ℕ) (word r s : List ℕ) → tokens r ≡ tokens s → word_of_line marks slot word r ≡ word_of_line marks slot word s
unfolding word_of_line
word_same marks slot word r s e = by (meaning_of word)
  where
    by : (o : Option Mnemonic)
        → (ok_or o UnknownWord >>= (λ m. operands_of (operand_count m) r >>= (λ o. form_of marks slot m o >>= (λ i. ended slot i o.rest))))
        ≡ (ok_or o UnknownWord >>= (λ m. operands_of (operand_count m) s >>= (λ o. form_of marks slot m o >>= (λ i. ended slot i o.rest))))
    by None = refl
    by (Some m) = parts_then marks slot m (operands_of (operand_count m) r) (operands_of (operand_count m) s) (operands_same (operand_count m) r s e)

-- ---- lines

abbrev pub SameHeld : Held → Held → Type 0
SameHeld Blank Blank = Unit {0}
SameHeld (Label name followed) (Label other behind) = (name ≡ other) × (followed ≡ behind)
SameHeld (Word word r) (Word other s) = (word ≡ other) × (tokens r ≡ tokens s)
SameHeld _ _ = ⊥

word_or_label_same : (word r s : List ℕ) → tokens r ≡ tokens s → SameHeld (word_or_label word r) (word_or_label word s)
unfolding word_or_label
word_or_label_same word r s e = by (ltb 0 (length (rest_from Colon word)) && is_label (before Colon word))
  where
    by : (b : Bool)
        → SameHeld (cond b (Label (before Colon word) (ltb 1 (length (rest_from Colon word)) || ltb 0 (length (rest_from Visible r)))) (Word word r))
        (cond b (Label (before Colon word) (ltb 1 (length (rest_from Colon word)) || ltb 0 (length (rest_from Visible s)))) (Word word s))
    by true = (refl, ap (λ f. ltb 1 (length (rest_from Colon word)) || f) (alike r s e).some)
    by false = (refl, e)

pub line_same : (a b : List ℕ) → tokens_of a ≡ tokens_of b → SameHeld (line_of a) (line_of b)
unfolding line_of
line_same a b e =
    subst (λ k. SameHeld (line_of a) (cond k Blank (word_or_label (before TokenEnd v) (rest_from TokenEnd v)))) h.empty
    (subst (λ word. SameHeld (line_of a) (cond (eqb (length u) 0) Blank (word_or_label word (rest_from TokenEnd v)))) h.first (by (eqb (length u) 0)))
  where
    u : List ℕ
    u = rest_from Visible (before Semicolon a)

    v : List ℕ
    v = rest_from Visible (before Semicolon b)

    h : Alike (before Semicolon a) (before Semicolon b)
    h = alike (before Semicolon a) (before Semicolon b) e

    by : (k : Bool) → SameHeld (cond k Blank (word_or_label (before TokenEnd u) (rest_from TokenEnd u))) (cond k Blank (word_or_label (before TokenEnd u) (rest_from TokenEnd v)))
    by true = tt
    by false = word_or_label_same (before TokenEnd u) (rest_from TokenEnd u) (rest_from TokenEnd v) h.rest

pub instruction_same : (marks : Marks) (line slot : ℕ) (h k : Held) → SameHeld h k → held_instruction marks line slot h ≡ held_instruction marks line slot k
instruction_same marks line slot Blank Blank same = refl
instruction_same marks line slot Blank (Label name followed) same = absurd same
instruction_same marks line slot Blank (Word word r) same = absurd same
instruction_same marks line slot (Label name followed) Blank same = absurd same
instruction_same marks line slot (Label name followed) (Label other behind) same = ap (λ n. held_instruction marks line slot (Label n followed)) same.0 ∙ ap (λ f. held_instruction marks line slot (Label other f)) same.1
instruction_same marks line slot (Label name followed) (Word word r) same = absurd same
instruction_same marks line slot (Word word r) Blank same = absurd same
instruction_same marks line slot (Word word r) (Label name followed) same = absurd same
instruction_same marks line slot (Word word r) (Word other s) same = ap (λ w. held_instruction marks line slot (Word w r)) same.0 ∙ ap (result_map Some) (word_same marks slot other r s same.1)

mark_same : (h k : Held) (here : Mark) (q : List ℕ) → SameHeld h k → mark_here h here q ≡ mark_here k here q
mark_same Blank Blank here q same = refl
mark_same Blank (Label name followed) here q same = absurd same
mark_same Blank (Word word r) here q same = absurd same
mark_same (Label name followed) Blank here q same = absurd same
mark_same (Label name followed) (Label other behind) here q same = ap (λ n. mark_here (Label n followed) here q) same.0
mark_same (Label name followed) (Word word r) here q same = absurd same
mark_same (Word word r) Blank here q same = absurd same
mark_same (Word word r) (Label name followed) here q same = absurd same
mark_same (Word word r) (Word other s) here q same = refl

slots_same : (h k : Held) (slot : ℕ) → SameHeld h k → slots_behind h slot ≡ slots_behind k slot
slots_same Blank Blank slot same = refl
slots_same Blank (Label name followed) slot same = absurd same
slots_same Blank (Word word r) slot same = absurd same
slots_same (Label name followed) Blank slot same = absurd same
slots_same (Label name followed) (Label other behind) slot same = refl
slots_same (Label name followed) (Word word r) slot same = absurd same
slots_same (Word word r) Blank slot same = absurd same
slots_same (Word word r) (Label name followed) slot same = absurd same
slots_same (Word word r) (Word other s) slot same = ap (λ w. slots_behind (Word w r) slot) same.0

-- ---- texts

pub first_same : {A : Type 0} (a b : A) (xs ys : List A) → a ∷ xs ≡ b ∷ ys → (a ≡ b) × (xs ≡ ys)
first_same a b xs ys e = (cc, cc)

marks_same : (n slot : ℕ) (xs ys : List (List ℕ)) (q : List ℕ) → map tokens_of xs ≡ map tokens_of ys → marks_from n slot xs q ≡ marks_from n slot ys q
unfolding marks_from
marks_same n slot [] [] q e = refl
marks_same n slot [] (b ∷ ys) q e = absurd cc
marks_same n slot (a ∷ xs) [] q e = absurd cc
marks_same n slot (a ∷ xs) (b ∷ ys) q e =
    let both = first_same (tokens_of a) (tokens_of b) (map tokens_of xs) (map tokens_of ys) e in
    let held = line_same a b both.0 in
    ap (λ m. option_or m (marks_from (next_line n) (slots_behind (line_of a) slot) xs q)) (mark_same (line_of a) (line_of b) (mark slot n) q held)
    ∙ ap (λ s. option_or (mark_here (line_of b) (mark slot n) q) (marks_from (next_line n) s xs q)) (slots_same (line_of a) (line_of b) slot held)
    ∙ ap (option_or (mark_here (line_of b) (mark slot n) q)) (marks_same (next_line n) (slots_behind (line_of b) slot) xs ys q both.1)

lines_same : (marks : Marks) (n slot : ℕ) (xs ys : List (List ℕ)) → map tokens_of xs ≡ map tokens_of ys → assembled_from marks n slot xs ≡ assembled_from marks n slot ys
unfolding assembled_from
lines_same marks n slot [] [] e = refl
lines_same marks n slot [] (b ∷ ys) e = absurd cc
lines_same marks n slot (a ∷ xs) [] e = absurd cc
lines_same marks n slot (a ∷ xs) (b ∷ ys) e =
    let both = first_same (tokens_of a) (tokens_of b) (map tokens_of xs) (map tokens_of ys) e in
    ap (λ r. behind n r (λ o. assembled_from marks (next_line n) (slot + slots_taken o) xs)) (instruction_same marks n slot (line_of a) (line_of b) (line_same a b both.0))
    ∙ ap (behind n (instruction_of marks n slot b)) (fun_ext (λ o. lines_same marks (next_line n) (slot + slots_taken o) xs ys both.1))

pub tokens_say_all : TokensSayAll
unfolding assembled
tokens_say_all text other e =
    ap (λ f. assembled_from f 1 0 (lines_of text)) (fun_ext (λ q. marks_same 1 0 (lines_of text) (lines_of other) q e)) ∙ lines_same (marks_from 1 0 (lines_of other)) 1 0 (lines_of text) (lines_of other) e
