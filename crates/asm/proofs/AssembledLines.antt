-- The program of the lines so far: one line on, a bad line, and the end.
use Rattle.std.proofs.Common.{◌≡◌, ℕ, ◌+◌, List, [], ◌∷◌, ◌++◌, append_assoc, Option, Some, None, Result, Ok, Err, refl, sym, ap, ◌∙◌, subst, add-zero}
use mathlib.Core.Path.{fun_ext}
use Rattle.std.proofs.lemmas.List.{append-nil}
use Rattle.insn.specs.declared.instruction.Form.{Form}
use Rattle.insn.specs.Layout.{slot_count}
use Rattle.text.specs.Lines.{lines_of, next_line}
use Rattle.asm.specs.declared.refusals.AsmFault.{AsmFault}
use Rattle.asm.specs.declared.refusals.AsmRefusal.{AsmRefusal}
use Rattle.asm.specs.Labels.{Marks, marks_from}
use Rattle.asm.specs.Assembled.{instruction_of, onto, slots_taken, listed, behind, assembled_from, assembled}

onto-onto : (xs ys : List Form) (read : Result (List Form) AsmRefusal) → onto (xs ++ ys) read ≡ onto xs (onto ys read)
onto-onto xs ys (Ok p) = ap Ok (append_assoc xs ys p)
onto-onto xs ys (Err e) = refl

module _ (marks : Marks) (n number slot : ℕ) (all : List (List ℕ)) (line : List ℕ) (lines : List (List ℕ)) (before : List Form) (total : Result (List Form) AsmRefusal) (cut : all ≡ line ∷ lines) (same : number ≡ n) (so_far : onto before (assembled_from marks n slot all) ≡ total) where
  pub one_line : (after : ℕ) (o : Option Form) → after ≡ next_line n → Ok o ≡ instruction_of marks number slot line
      → onto (before ++ listed o) (assembled_from marks after (slot + slots_taken o) lines) ≡ total
  unfolding assembled_from
  one_line after o next is =
      rw next (onto-onto before (listed o) _
      ∙ ap (λ r. onto before (behind n r (λ o. assembled_from marks (next_line n) (slot + slots_taken o) lines))) (is ∙ ap (λ k. instruction_of marks k slot line) same)
      ∙ subst (λ ls. onto before (assembled_from marks n slot ls) ≡ total) cut so_far)

  pub blank_line : (after : ℕ) → after ≡ next_line n → Ok None ≡ instruction_of marks number slot line → onto before (assembled_from marks after slot lines) ≡ total
  blank_line after next is = let moved = one_line after None next is in rw (append-nil, add-zero) at moved

  pub pushed_line : (after : ℕ) (i : Form) (items : List Form) (count : ℕ) → after ≡ next_line n → items ≡ before ++ i ∷ [] → count ≡ slot_count i → Ok (Some i) ≡ instruction_of marks number slot line
      → onto items (assembled_from marks after (slot + count) lines) ≡ total
  pushed_line after i items count next pushed counted is =
      subst (λ xs. onto xs (assembled_from marks after (slot + count) lines) ≡ total) (sym pushed)
      (subst (λ k. onto (before ++ i ∷ []) (assembled_from marks after (slot + k) lines) ≡ total) (sym counted) (one_line after (Some i) next is))

  pub bad_line : (why : AsmFault) → Err why ≡ instruction_of marks number slot line → total ≡ Err (record { line = number; why = why })
  unfolding assembled_from
  bad_line why is =
      sym (subst (λ ls. onto before (assembled_from marks n slot ls) ≡ total) cut so_far)
      ∙ ap (λ r. onto before (behind n r (λ o. assembled_from marks (next_line n) (slot + slots_taken o) lines))) (sym (is ∙ ap (λ k. instruction_of marks k slot line) same))
      ∙ ap (λ k. Err (record { line = k; why = why })) (sym same)

pub no_line : (marks : Marks) (n slot : ℕ) (all : List (List ℕ)) (before : List Form) (total : Result (List Form) AsmRefusal) → all ≡ [] → onto before (assembled_from marks n slot all) ≡ total → total ≡ Ok before
unfolding assembled_from
no_line marks n slot all before total none so_far =
    sym (subst (λ ls. onto before (assembled_from marks n slot ls) ≡ total) none so_far) ∙ ap Ok (append-nil before)

pub from_labels : (marks : Marks) (text : List ℕ) → ((q : List ℕ) → marks q ≡ marks_from 1 0 (lines_of text) q) → assembled_from marks 1 0 (lines_of text) ≡ assembled text
unfolding assembled
from_labels marks text same = ap (λ f. assembled_from f 1 0 (lines_of text)) (fun_ext same)

-- nothing stands before the first line
pub onto-nil : (read : Result (List Form) AsmRefusal) → onto [] read ≡ read
onto-nil (Ok p) = refl
onto-nil (Err e) = refl
