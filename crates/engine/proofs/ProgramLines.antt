-- One program's line after another.
use Rattle.std.proofs.Common.{◌≡◌, ℕ, zero, suc, ◌+◌, List, [], ◌∷◌, ◌++◌, slice_get, take, refl, sym, ap, ◌∙◌, append_assoc, arith}
use Rattle.std.proofs.lemmas.List.{append-nil}
use Rattle.loader.specs.CatalogueView.{Entry}
use Rattle.engine.specs.Texts.{program_line, line_if_any, programs_text}

more : (es : List Entry) (k : ℕ) → programs_text (take (suc k) es) ≡ programs_text (take k es) ++ line_if_any (slice_get es k)
more [] zero = refl
more [] (suc k) = refl
more (e ∷ es) zero = append-nil (program_line e)
more (e ∷ es) (suc k) = ap (λ t. program_line e ++ t) (more es k) ∙ sym (append_assoc (program_line e) (programs_text (take k es)) (line_if_any (slice_get es k)))

-- the line after those of the first k programs
pub line_more : (es : List Entry) (k : ℕ) (before after : List ℕ) → before ≡ programs_text (take k es) → after ≡ before ++ line_if_any (slice_get es k) → after ≡ programs_text (take (k + 1) es)
line_more es k before after is one =
    let count : suc k ≡ k + 1 = omega arith in
    one ∙ ap (λ t. t ++ line_if_any (slice_get es k)) is ∙ sym (more es k) ∙ ap (λ n. programs_text (take n es)) count
