-- The text of the first instructions.
use Rattle.std.proofs.Common.{◌≡◌, ℕ, zero, suc, ◌+◌, ◌<◌, List, [], ◌∷◌, ◌++◌, length, get_or, take, refl, sym, ap, ◌∙◌, append_assoc, arith}
use Rattle.std.proofs.lemmas.List.{append-nil}
use Rattle.insn.specs.declared.instruction.Form.{Form}
use Rattle.asm.specs.Text.{line_text, text_of}

more : (p : List Form) (i : ℕ) (d : Form) → i < length p → text_of (take (suc i) p) ≡ text_of (take i p) ++ line_text (get_or p i d)
unfolding text_of
more [] i d lt = absurd (omega arith)
more (f ∷ p) zero d lt = append-nil (line_text f)
more (f ∷ p) (suc i) d lt = ap (λ t. line_text f ++ t) (more p i d (omega arith)) ∙ sym (append_assoc (line_text f) (text_of (take i p)) (line_text (get_or p i d)))

-- one line more
pub line_more : (p : List Form) (i : ℕ) (d f : Form) (before after : List ℕ) → i < length p → f ≡ get_or p i d → before ≡ text_of (take i p) → after ≡ before ++ line_text f → after ≡ text_of (take (i + 1) p)
line_more p i d f before after lt is so_far one =
    let count : suc i ≡ i + 1 = omega arith in
    one ∙ ap (λ t. t ++ line_text f) so_far ∙ ap (λ g. text_of (take i p) ++ line_text g) is ∙ sym (more p i d lt) ∙ ap (λ n. text_of (take n p)) count

pub text_of-nil : text_of [] ≡ []
unfolding text_of
text_of-nil = refl
