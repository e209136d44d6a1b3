-- The lines of a program behind their columns, one after another.
use Rattle.std.proofs.Common.{◌≡◌, ℕ, ◌+◌, ◌<◌, List, [], ◌∷◌, ◌++◌, length, get_or, drop, sym, ap, ◌∙◌, append_assoc, arith}
use Rattle.std.proofs.lemmas.List.{append-nil, drop_more, length-append}
use Rattle.insn.specs.declared.instruction.Form.{Form}
use Rattle.insn.specs.Layout.{slot_contents, slot_count, layout, size}
use Rattle.console.specs.AssemblyAnswer.{slot_line, slots_text}
use Rattle.explain.proofs.Export.{none_left}

-- behind the last one all are there
pub whole : (p : List Form) (k slot : ℕ) (before all : List ℕ) → k ≡ length p
    → before ++ slots_text slot (drop k p) ≡ all → before ≡ all
unfolding slots_text
whole p k slot before all end so_far =
    sym (append-nil before) ∙ ap (λ q. before ++ slots_text slot q) (sym (ap (λ n. drop n p) end ∙ none_left p)) ∙ so_far

module _ (p : List Form) (k : ℕ) (d f : Form) (lt : k < length p) (is : f ≡ get_or p k d) where
  here : drop k p ≡ f ∷ drop (k + 1) p
  here = drop_more p k d lt ∙ ap (λ g. g ∷ drop (k + 1) p) (sym is)

  counted : size (drop k p) ≡ slot_count f + size (drop (k + 1) p)
  counted = ap size here ∙ length-append (slot_contents f) (layout (drop (k + 1) p))

  -- one line more
  pub line_more : (slot : ℕ) (before after all : List ℕ) → before ++ slots_text slot (drop k p) ≡ all
      → after ≡ before ++ slot_line slot f
      → after ++ slots_text (slot + slot_count f) (drop (k + 1) p) ≡ all
  unfolding slots_text
  line_more slot before after all so_far one =
      let rest = slots_text (slot + slot_count f) (drop (k + 1) p) in
      ap (λ t. t ++ rest) one ∙ append_assoc before (slot_line slot f) rest ∙ ap (λ q. before ++ slots_text slot q) (sym here) ∙ so_far

  -- its slots more
  pub slots_more : (slot n : ℕ) → slot + size (drop k p) ≡ n → (slot + slot_count f) + size (drop (k + 1) p) ≡ n
  slots_more slot n so_far = let c = counted in omega arith
