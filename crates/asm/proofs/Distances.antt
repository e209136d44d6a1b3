-- A text whose labels are replaced by their distances says the same program.
use Rattle.std.proofs.Common.{◌≡◌, ◌≢◌, inl, inr, ℕ, ◌+◌, ◌-◌, ◌^◌, ◌≤◌, min, Bool, true, false, cond, ◌&&◌, ◌||◌, ltb, eqb, List, [], ◌∷◌, ◌++◌, length, map, Option, Some, None, Result, Ok, Err, refl, sym, ap, ◌∙◌, subst, arith}
use Rattle.std.specs.Option.{ok_or}
use Rattle.insn.specs.declared.instruction.Form.{Form}
use Rattle.insn.specs.declared.instruction.Condition.{Condition}
use Rattle.insn.specs.declared.instruction.TheConstants.{MAX_SLOTS}
use Rattle.insn.specs.Layout.{slot_count}
use Rattle.text.specs.Lines.{lines_of, next_line}
use Rattle.asm.specs.declared.refusals.AsmFault.{AsmFault}
use Rattle.asm.specs.declared.refusals.AsmFault.TheVariants.{UnknownWord}
use Rattle.asm.specs.declared.refusals.AsmRefusal.{AsmRefusal}
use Rattle.asm.specs.declared.tokens.Stop.TheVariants.{Semicolon, Visible, TokenEnd, Colon}
use Rattle.asm.specs.declared.words.Mnemonic.{Mnemonic}
use Rattle.asm.specs.declared.words.Mnemonic.TheVariants as words
use Rattle.asm.specs.Tokens.{◌>>=◌, result_map, Parts, before, rest_from, operand_of, operands_of, parts, tokens_of}
use Rattle.asm.specs.Operands.{is_label, register_of, source_of, target_of}
use Rattle.asm.specs.Words.{meaning_of, operand_count}
use Rattle.asm.specs.Labels.{Marks, Held, Blank, Label, Word, line_of, word_or_label, marks_from, slots_behind, slots_said, slots_of_word}
use Rattle.asm.specs.Forms.{form_of, ja_of, branch_of, distance_of}
use Rattle.asm.specs.Assembled.{label_of, ended, word_of_line, held_instruction, instruction_of, onto, behind, listed, slots_taken, assembled_from, assembled}
use Rattle.asm.specs.Unlabelled.{distanced, is_jump, change_last, unlabelled, unlabelled_lines}
use Rattle.asm.specs.Laws.{LabelsAreDistances}
use Rattle.asm.proofs.Spaces.{tokens, some_bytes, ends_here, Begins, begins, operands_same, parts_then, ended_same, SameHeld, line_same, first_same, not_comma, no_tokens}
use Rattle.asm.proofs.GoodOperands.{ok_same, ok_then, counted, is_ended, comma, was_operand, is_operand, was_branch, is_branch, jump_small, no_target, goes, ja_in, ja_out, branch_in, branch_out, no_register, no_source, comma_register, comma_source}

-- ---- instructions

-- marks are of no matter but to jumps
no_marks : (marks later : Marks) (slot : ℕ) (m : Mnemonic) (o : Parts) → is_jump (Some m) ≡ false → form_of marks slot m o ≡ form_of later slot m o
unfolding form_of
no_marks marks later slot (words.Alu w64 op) o e = refl
no_marks marks later slot (words.Neg w64) o e = refl
no_marks marks later slot (words.MovSx w64) o e = refl
no_marks marks later slot (words.Swap order bits) o e = refl
no_marks marks later slot (words.Load size signed) o e = refl
no_marks marks later slot (words.StoreImm size) o e = refl
no_marks marks later slot (words.StoreReg size) o e = refl
no_marks marks later slot words.Imm64 o e = refl
no_marks marks later slot words.MapRef o e = refl
no_marks marks later slot (words.Ja long) o e = absurd cc
no_marks marks later slot (words.Branch w64 cond) o e = absurd cc
no_marks marks later slot words.Call o e = refl
no_marks marks later slot words.Exit o e = refl

-- the instruction with this word and these operands
abbrev made : Marks → ℕ → Mnemonic → List ℕ → Result Form AsmFault
made marks slot m rest = operands_of (operand_count m) rest >>= (λ o. form_of marks slot m o >>= (λ i. ended slot i o.rest))

abbrev later_tokens : Marks → ℕ → Mnemonic → List ℕ → List (List ℕ)
later_tokens marks slot m rest = cond (is_jump (Some m)) (change_last (distanced marks slot) (tokens rest)) (tokens rest)

plain_moved : (marks later : Marks) (slot : ℕ) (m : Mnemonic) (r s : List ℕ) (i : Form) → is_jump (Some m) ≡ false → made marks slot m r ≡ Ok i → tokens s ≡ tokens r → made later slot m s ≡ Ok i
plain_moved marks later slot m r s i none e same =
    parts_then later slot m (operands_of (operand_count m) s) (operands_of (operand_count m) r) (operands_same (operand_count m) s r same) ∙ (by (operands_of (operand_count m) r) ∙ e)
  where
    by : (x : Result Parts AsmFault) → (x >>= (λ o. form_of later slot m o >>= (λ i. ended slot i o.rest))) ≡ (x >>= (λ o. form_of marks slot m o >>= (λ i. ended slot i o.rest)))
    by (Ok o) = ap (λ f. f >>= (λ i. ended slot i o.rest)) (sym (no_marks marks later slot m o none))
    by (Err why) = refl

ended_again : (slot : ℕ) (i j : Form) (r s : List ℕ) → ended slot i r ≡ Ok j → tokens s ≡ [] → ended slot i s ≡ Ok j
ended_again slot i j r s e none = ended_same slot i s r (none ∙ sym (is_ended slot i j r e).none) ∙ e

ja_moved : (marks later : Marks) (slot : ℕ) (long : Bool) (r s : List ℕ) (j : Form) → made marks slot (words.Ja long) r ≡ Ok j → tokens s ≡ change_last (distanced marks slot) (tokens r) → made later slot (words.Ja long) s ≡ Ok j
unfolding operands_of form_of
ja_moved marks later slot long r s j e same = ok_then _ _ j _ (λ i is e.
    let h = ja_in marks slot long (parts (operand_of r).0 [] [] (operand_of r).1) i is in
    let target = (operand_of r).0 in
    let g = goes marks later slot target h.by (jump_small long h.by h.fits h.short) h.far in
    let was = was_operand r (λ z. no_target marks slot h.by (ap (λ t. target_of t >>= distance_of marks slot) (sym z) ∙ h.far)) in
    let end = is_ended slot i j (operand_of r).1 e in
    let alone : tokens r ≡ target ∷ [] = was.are ∙ ap (λ ts. target ∷ ts) end.none in
    let now = is_operand s (distanced marks slot target) [] (g.no_comma was.no_comma) (same ∙ ap (change_last (distanced marks slot)) alone) in
    let again : ja_of later slot long (parts (operand_of s).0 [] [] (operand_of s).1) ≡ Ok i =
    ja_out later slot long _ i (record { by = h.by; far = ap (λ t. target_of t >>= distance_of later slot) now.0 ∙ g.far; fits = h.fits; short = h.short; is = h.is }) in
    ap (λ f. f >>= (λ i. ended slot i (operand_of s).1)) again ∙ ended_again slot i j (operand_of r).1 (operand_of s).1 e now.1) e

branch_moved : (marks later : Marks) (slot : ℕ) (w64 : Bool) (cond : Condition) (r s : List ℕ) (j : Form) → made marks slot (words.Branch w64 cond) r ≡ Ok j
    → tokens s ≡ change_last (distanced marks slot) (tokens r) → made later slot (words.Branch w64 cond) s ≡ Ok j
unfolding form_of
branch_moved marks later slot w64 cond r s j e same = ok_then _ _ j _ (λ o read e. ok_then _ _ j _ (λ i is e.
    let h = branch_in marks slot w64 cond o i is in
    let g = goes marks later slot o.third h.by (jump_small false h.by h.off h.short) h.far in
    let was = was_branch r o read
    (λ z. no_register h.dst (ap register_of (sym z) ∙ h.first))
    (λ z. no_source h.written (ap source_of (sym z) ∙ h.second))
    (λ z. no_target marks slot h.by (ap (λ t. target_of t >>= distance_of marks slot) (sym z) ∙ h.far)) in
    let end = is_ended slot i j o.rest e in
    let alone : tokens r ≡ o.first ∷ comma ∷ o.second ∷ comma ∷ o.third ∷ [] = was.are ∙ ap (λ ts. o.first ∷ comma ∷ o.second ∷ comma ∷ o.third ∷ ts) end.none in
    let now = is_branch s o.first o.second (distanced marks slot o.third)
    (λ z. comma_register h.dst (ap register_of (sym z) ∙ h.first))
    (λ z. comma_source h.written (ap source_of (sym z) ∙ h.second))
    (g.no_comma was.no_comma) (same ∙ ap (change_last (distanced marks slot)) alone) in
    let again : branch_of later slot w64 cond (parts o.first o.second (distanced marks slot o.third) now.0) ≡ Ok i =
    branch_out later slot w64 cond _ i (record { dst = h.dst; first = h.first; written = h.written; second = h.second; src = h.src; source = h.source; by = h.by; far = g.far; off = h.off; short = h.short; is = h.is }) in
    ap (λ p. p >>= (λ o. branch_of later slot w64 cond o >>= (λ i. ended slot i o.rest))) now.1 ∙ (ap (λ f. f >>= (λ i. ended slot i now.0)) again ∙ ended_again slot i j o.rest now.0 e now.2)) e) e

made_moved : (marks later : Marks) (slot : ℕ) (m : Mnemonic) (r s : List ℕ) (j : Form) → made marks slot m r ≡ Ok j → tokens s ≡ later_tokens marks slot m r → made later slot m s ≡ Ok j
made_moved marks later slot (words.Ja long) r s j e same = ja_moved marks later slot long r s j e same
made_moved marks later slot (words.Branch w64 cond) r s j e same = branch_moved marks later slot w64 cond r s j e same
made_moved marks later slot (words.Alu w64 op) r s j e same = plain_moved marks later slot (words.Alu w64 op) r s j refl e same
made_moved marks later slot (words.Neg w64) r s j e same = plain_moved marks later slot (words.Neg w64) r s j refl e same
made_moved marks later slot (words.MovSx w64) r s j e same = plain_moved marks later slot (words.MovSx w64) r s j refl e same
made_moved marks later slot (words.Swap order bits) r s j e same = plain_moved marks later slot (words.Swap order bits) r s j refl e same
made_moved marks later slot (words.Load size signed) r s j e same = plain_moved marks later slot (words.Load size signed) r s j refl e same
made_moved marks later slot (words.StoreImm size) r s j e same = plain_moved marks later slot (words.StoreImm size) r s j refl e same
made_moved marks later slot (words.StoreReg size) r s j e same = plain_moved marks later slot (words.StoreReg size) r s j refl e same
made_moved marks later slot words.Imm64 r s j e same = plain_moved marks later slot words.Imm64 r s j refl e same
made_moved marks later slot words.MapRef r s j e same = plain_moved marks later slot words.MapRef r s j refl e same
made_moved marks later slot words.Call r s j e same = plain_moved marks later slot words.Call r s j refl e same
made_moved marks later slot words.Exit r s j e same = plain_moved marks later slot words.Exit r s j refl e same

-- an instruction that is good: its word's meaning, and its slots
record WordMoved (marks later : Marks) (slot : ℕ) (word r s : List ℕ) (j : Form) : Type 0 where
  said : word_of_line later slot word s ≡ Ok j
  slots : slot_count j ≡ slots_of_word word
  fits : slot + slot_count j ≤ MAX_SLOTS

word_moved : (marks later : Marks) (slot : ℕ) (word r s : List ℕ) (j : Form) → word_of_line marks slot word r ≡ Ok j
    → tokens s ≡ cond (is_jump (meaning_of word)) (change_last (distanced marks slot) (tokens r)) (tokens r) → WordMoved marks later slot word r s j
unfolding word_of_line
word_moved marks later slot word r s j e same = by (meaning_of word) refl e same
  where
    by : (o : Option Mnemonic) → meaning_of word ≡ o → (ok_or o UnknownWord >>= (λ m. made marks slot m r)) ≡ Ok j → tokens s ≡ cond (is_jump o) (change_last (distanced marks slot) (tokens r)) (tokens r) → WordMoved marks later slot word r s j
    by None is e same = absurd cc
    by (Some m) is e same =
        let parts_end = ok_then (operands_of (operand_count m) r) _ j ((slot_count j ≡ slots_said (Some m)) × (slot + slot_count j ≤ MAX_SLOTS)) (λ o _ e. ok_then (form_of marks slot m o) _ j _ (λ i f e.
        let end = is_ended slot i j o.rest e in
        (ap slot_count (sym end.same) ∙ counted marks slot m o i f, subst (λ k. slot + slot_count k ≤ MAX_SLOTS) end.same end.fits)) e) e in
        record {
          said = ap (λ o. ok_or o UnknownWord >>= (λ m. made later slot m s)) is ∙ made_moved marks later slot m r s j e same;
          slots = parts_end.0 ∙ ap slots_said (sym is);
          fits = parts_end.1;
        }

-- ---- lines

nothing_there : tokens_of [] ≡ []
unfolding before
nothing_there = refl

blank : line_of [] ≡ Blank
unfolding line_of before rest_from
blank = refl

blank_line : (line : List ℕ) → tokens_of line ≡ [] → line_of line ≡ Blank
blank_line line e = by (line_of []) (line_of line) blank (line_same [] line (nothing_there ∙ sym e))
  where
    by : (h k : Held) → h ≡ Blank → SameHeld h k → k ≡ Blank
    by Blank Blank is same = refl
    by Blank (Label name followed) is same = absurd same
    by Blank (Word word rest) is same = absurd same
    by (Label name followed) k is same = absurd cc
    by (Word word rest) k is same = absurd cc

-- a line that holds a word, and the tokens behind it
record IsWord (line word rest : List ℕ) : Type 0 where
  are : tokens_of line ≡ word ∷ tokens rest
  no_comma : word ≢ comma
  no_label : (ltb 0 (length (rest_from Colon word)) && is_label (before Colon word)) ≡ false

word_parts : (first behind word rest : List ℕ) → word_or_label first behind ≡ Word word rest → ((ltb 0 (length (rest_from Colon first)) && is_label (before Colon first)) ≡ false) × (first ≡ word) × (behind ≡ rest)
unfolding word_or_label
word_parts first behind word rest e = by (ltb 0 (length (rest_from Colon first)) && is_label (before Colon first)) refl e
  where
    by : (b : Bool) → (ltb 0 (length (rest_from Colon first)) && is_label (before Colon first)) ≡ b
        → cond b (Label (before Colon first) (ltb 1 (length (rest_from Colon first)) || ltb 0 (length (rest_from Visible behind)))) (Word first behind) ≡ Word word rest
        → ((ltb 0 (length (rest_from Colon first)) && is_label (before Colon first)) ≡ false) × (first ≡ word) × (behind ≡ rest)
    by true is e = absurd cc
    by false is e = (is, cc, cc)

-- what a line holds, by how it begins
line_begins : (line : List ℕ) → Begins (before Semicolon line) → Held
line_begins line (inl h) = Blank
line_begins line (inr (inl h)) = word_or_label [] (44 ∷ h.behind)
line_begins line (inr (inr h)) = word_or_label (h.first ∷ h.more) h.after

line_is : (line : List ℕ) (h : Begins (before Semicolon line)) → line_of line ≡ line_begins line h
unfolding line_of line_begins
line_is line (inl h) = ap (λ v. cond (eqb (length v) 0) Blank (word_or_label (before TokenEnd v) (rest_from TokenEnd v))) h.visible
line_is line (inr (inl h)) =
    let at = ends_here TokenEnd 44 h.behind refl in
    ap (λ v. cond (eqb (length v) 0) Blank (word_or_label (before TokenEnd v) (rest_from TokenEnd v))) h.visible
    ∙ (ap (λ b. cond b Blank (word_or_label (before TokenEnd (44 ∷ h.behind)) (rest_from TokenEnd (44 ∷ h.behind)))) (some_bytes 44 h.behind).1
    ∙ (ap (λ w. word_or_label w (rest_from TokenEnd (44 ∷ h.behind))) at.0 ∙ ap (word_or_label []) at.1))
line_is line (inr (inr h)) =
    ap (λ v. cond (eqb (length v) 0) Blank (word_or_label (before TokenEnd v) (rest_from TokenEnd v))) h.visible
    ∙ (ap (λ b. cond b Blank (word_or_label (before TokenEnd (h.first ∷ h.shown)) (rest_from TokenEnd (h.first ∷ h.shown)))) (some_bytes h.first h.shown).1
    ∙ (ap (λ w. word_or_label w (rest_from TokenEnd (h.first ∷ h.shown))) h.token ∙ ap (word_or_label (h.first ∷ h.more)) h.rest))

no_meaning : (marks : Marks) (slot : ℕ) (rest : List ℕ) (i : Form) → word_of_line marks slot [] rest ≡ Ok i → ⊥
unfolding word_of_line meaning_of
no_meaning marks slot rest i e = cc

was_word : (marks : Marks) (slot : ℕ) (line word rest : List ℕ) (i : Form) → line_of line ≡ Word word rest → word_of_line marks slot word rest ≡ Ok i → IsWord line word rest
unfolding line_begins
was_word marks slot line word rest i e good = by (begins (before Semicolon line))
  where
    by : Begins (before Semicolon line) → IsWord line word rest
    by (inl h) = absurd (let never : Blank ≡ Word word rest = sym (line_is line (inl h)) ∙ e in cc)
    by (inr (inl h)) =
        let p = word_parts [] (44 ∷ h.behind) word rest (sym (line_is line (inr (inl h))) ∙ e) in
        absurd (no_meaning marks slot rest i (ap (λ w. word_of_line marks slot w rest) p.1 ∙ good))
    by (inr (inr h)) =
        let p = word_parts (h.first ∷ h.more) h.after word rest (sym (line_is line (inr (inr h))) ∙ e) in
        record {
          are = h.are ∙ (ap (λ w. w ∷ tokens h.after) p.1 ∙ ap (λ r. word ∷ tokens r) p.2);
          no_comma = λ z. not_comma h.first h.more [] [] h.no_comma (ap (λ t. t ∷ []) (sym z ∙ sym p.1));
          no_label = subst (λ w. (ltb 0 (length (rest_from Colon w)) && is_label (before Colon w)) ≡ false) p.1 p.0;
        }

is_word : (line word : List ℕ) (ts : List (List ℕ)) → word ≢ comma → (ltb 0 (length (rest_from Colon word)) && is_label (before Colon word)) ≡ false → tokens_of line ≡ word ∷ ts
    → (rest : List ℕ) × (line_of line ≡ Word word rest) × (tokens rest ≡ ts)
unfolding line_begins word_or_label
is_word line word ts none no_label e = by (begins (before Semicolon line))
  where
    by : Begins (before Semicolon line) → (rest : List ℕ) × (line_of line ≡ Word word rest) × (tokens rest ≡ ts)
    by (inl h) = absurd (no_tokens word ts (sym h.are ∙ e))
    by (inr (inl h)) = absurd (none (sym (first_same comma word (tokens h.behind) ts (sym h.are ∙ e)).0))
    by (inr (inr h)) =
        let both = first_same (h.first ∷ h.more) word (tokens h.after) ts (sym h.are ∙ e) in (
          h.after,
          line_is line (inr (inr h)) ∙ (ap (λ w. word_or_label w h.after) both.0
              ∙ ap (λ b. cond b (Label (before Colon word) (ltb 1 (length (rest_from Colon word)) || ltb 0 (length (rest_from Visible h.after)))) (Word word h.after)) no_label),
          both.1,
        )

-- a good line, and the line with its tokens without labels
record LineMoved (marks later : Marks) (n slot : ℕ) (line other : List ℕ) (o : Option Form) : Type 0 where
  said : instruction_of later n slot other ≡ Ok o
  slots : slots_behind (line_of line) slot ≡ slot + slots_taken o

label_alone : (marks : Marks) (n : ℕ) (name : List ℕ) (followed : Bool) (o : Option Form) → result_map (λ _. None) (label_of marks n name followed) ≡ Ok o → None ≡ o
label_alone marks n name followed o e = by (label_of marks n name followed) e
  where
    by : (r : Result (Unit {0}) AsmFault) → result_map (λ _. None) r ≡ Ok o → None ≡ o
    by (Ok u) e = ok_same None o e
    by (Err why) e = absurd cc

no_slots : (slot : ℕ) (o : Option Form) → None ≡ o → slot ≡ slot + slots_taken o
no_slots slot o e = (let z : slot ≡ slot + 0 = omega arith in z) ∙ ap (λ k. slot + slots_taken k) e

small_slots : (slot k : ℕ) → slot + k ≤ MAX_SLOTS → min (slot + k) (2 ^ 64 - 1) ≡ slot + k
small_slots slot k few = omega (arith, few)

line_moved : (marks later : Marks) (n slot : ℕ) (line other : List ℕ) (o : Option Form) → instruction_of marks n slot line ≡ Ok o → tokens_of other ≡ unlabelled marks slot (line_of line) → LineMoved marks later n slot line other o
line_moved marks later n slot line other o e same = by (line_of line) refl e same
  where
    blank_moved : tokens_of other ≡ [] → None ≡ o → instruction_of later n slot other ≡ Ok o
    blank_moved none is = ap (held_instruction later n slot) (blank_line other none) ∙ ap Ok is

    by : (h : Held) → line_of line ≡ h → held_instruction marks n slot h ≡ Ok o → tokens_of other ≡ unlabelled marks slot h → LineMoved marks later n slot line other o
    by Blank is e same = record { said = blank_moved same (ok_same None o e); slots = ap (λ h. slots_behind h slot) is ∙ no_slots slot o (ok_same None o e) }
    by (Label name followed) is e same =
        let alone = label_alone marks n name followed o e in
        record { said = blank_moved same alone; slots = ap (λ h. slots_behind h slot) is ∙ no_slots slot o alone }
    by (Word word rest) is e same = result (word_of_line marks slot word rest) refl e
      where
        result : (r : Result Form AsmFault) → word_of_line marks slot word rest ≡ r → result_map Some r ≡ Ok o → LineMoved marks later n slot line other o
        result (Err why) was e = absurd cc
        result (Ok i) was e =
            let some : Some i ≡ o = ok_same (Some i) o e in
            let w = was_word marks slot line word rest i is was in
            let k = is_word other word _ w.no_comma w.no_label same in
            let m = word_moved marks later slot word rest k.0 i was k.2 in
            let few = m.fits in
            record {
              said = ap (held_instruction later n slot) k.1 ∙ (ap (result_map Some) m.said ∙ ap Ok some);
              slots = ap (λ h. slots_behind h slot) is ∙ (ap (λ c. min (slot + c) (2 ^ 64 - 1)) (sym m.slots) ∙ (small_slots slot (slot_count i) few ∙ ap (λ k. slot + slots_taken k) some));
            }

onto_ok : (xs p : List Form) (r : Result (List Form) AsmRefusal) → onto xs r ≡ Ok p → (q : List Form) × (r ≡ Ok q) × (xs ++ q ≡ p)
onto_ok xs p (Ok q) e = (q, refl, ok_same (xs ++ q) p e)
onto_ok xs p (Err why) e = absurd cc

lines_moved : (marks later : Marks) (n slot : ℕ) (lines others : List (List ℕ)) (p : List Form) → assembled_from marks n slot lines ≡ Ok p → map tokens_of others ≡ unlabelled_lines marks slot lines → assembled_from later n slot others ≡ Ok p
unfolding assembled_from
lines_moved marks later n slot [] [] p e same = e
lines_moved marks later n slot [] (other ∷ others) p e same = absurd cc
lines_moved marks later n slot (line ∷ lines) [] p e same = absurd cc
lines_moved marks later n slot (line ∷ lines) (other ∷ others) p e same = by (instruction_of marks n slot line) refl e (λ o q rest now. lines_moved marks later (next_line n) (slot + slots_taken o) lines others q rest now)
  where
    both : (tokens_of other ≡ unlabelled marks slot (line_of line)) × (map tokens_of others ≡ unlabelled_lines marks (slots_behind (line_of line) slot) lines)
    both = first_same (tokens_of other) (unlabelled marks slot (line_of line)) (map tokens_of others) (unlabelled_lines marks (slots_behind (line_of line) slot) lines) same

    by : (r : Result (Option Form) AsmFault) → instruction_of marks n slot line ≡ r → behind n r (λ o. assembled_from marks (next_line n) (slot + slots_taken o) lines) ≡ Ok p
        → ((o : Option Form) (q : List Form) → assembled_from marks (next_line n) (slot + slots_taken o) lines ≡ Ok q → map tokens_of others ≡ unlabelled_lines marks (slot + slots_taken o) lines
        → assembled_from later (next_line n) (slot + slots_taken o) others ≡ Ok q)
        → behind n (instruction_of later n slot other) (λ o. assembled_from later (next_line n) (slot + slots_taken o) others) ≡ Ok p
    by (Err why) is e more = absurd cc
    by (Ok o) is e more =
        let m = line_moved marks later n slot line other o is both.0 in
        let q = onto_ok (listed o) p (assembled_from marks (next_line n) (slot + slots_taken o) lines) e in
        let rest = more o q.0 q.1 (both.1 ∙ ap (λ k. unlabelled_lines marks k lines) m.slots) in
        ap (λ r. behind n r (λ o. assembled_from later (next_line n) (slot + slots_taken o) others)) m.said ∙ (ap (onto (listed o)) rest ∙ ap Ok q.2)

pub labels_are_distances : LabelsAreDistances
unfolding assembled
labels_are_distances text other p e same = lines_moved (marks_from 1 0 (lines_of text)) (marks_from 1 0 (lines_of other)) 1 0 (lines_of text) (lines_of other) p e same
