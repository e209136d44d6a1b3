-- The line of assembler text that is shown, and what stands below it.
use Rattle.std.proofs.Common.{◌≡◌, ℕ, ◌+◌, ◌<◌, Bool, true, false, eqb, cond, List, [], ◌∷◌, ◌++◌, length, take, drop, get_or, Option, Some, None, refl, sym, ap, ◌∙◌, arith}
use Rattle.std.specs.Prelude.{◌-◌, ◌≢◌, MatchOption, codes, decimal}
use Rattle.std.specs.Borrow.{Bor}
use Rattle.std.specs.List.{concat, flat_map}
use Rattle.std.proofs.lemmas.List.Folds.{concat-append}
use Rattle.std.proofs.lemmas.Bool.{eqb-true}
use Rattle.std.proofs.lemmas.List.{drop_all, drop_more, length-append, take-append-drop}
use Rattle.std.proofs.Math.Seq.{take-append_seam, get_or-append_seam}
use Rattle.asm.specs.declared.refusals.AsmRefusal.{AsmRefusal}
use Rattle.asm.specs.Refusal.{fault_number}
use Rattle.explain.specs.Assembly.{below, fault_text, shown, wanted_text}
use Rattle.explain.proofs.Pieces.{both}

-- ---- the line that is shown

abbrev shown_by : Bool → ℕ → List ℕ → List ℕ
shown_by b n bs = cond b (take n bs) bs

shown_front : (xs : List ℕ) → xs ≡ shown (xs ++ 13 ∷ [])
shown_front xs =
    let n : length (xs ++ 13 ∷ []) - 1 ≡ length xs = omega (arith, length-append xs (13 ∷ [])) in
    let here : eqb (get_or (xs ++ 13 ∷ []) (length xs) 0) 13 ≡ true = ap (λ c. eqb c 13) (get_or-append_seam xs 13 [] 0) in
    sym (ap (λ k. shown_by (eqb (get_or (xs ++ 13 ∷ []) k 0) 13) k (xs ++ 13 ∷ [])) n ∙ ap (λ b. shown_by b (length xs) (xs ++ 13 ∷ [])) here ∙ take-append_seam xs (13 ∷ []))

pub shown_whole : (bs : List ℕ) → ((front : List ℕ) → bs ≢ front ++ (13 ∷ [])) → bs ≡ shown bs
shown_whole [] other = refl
shown_whole (c ∷ cs) other = by (eqb (get_or (c ∷ cs) n 0) 13) refl ∙ ap (λ k. shown_by (eqb (get_or (c ∷ cs) k 0) 13) k (c ∷ cs)) last
  where
    n : ℕ
    n = length cs

    last : n ≡ length (c ∷ cs) - 1
    last = omega arith

    lt : n < length (c ∷ cs)
    lt = omega arith

    by : (b : Bool) → eqb (get_or (c ∷ cs) n 0) 13 ≡ b → (c ∷ cs) ≡ shown_by b n (c ∷ cs)
    by false is = refl
    by true is =
        let byte : get_or (c ∷ cs) n 0 ≡ 13 = eqb-true _ _ is in
        absurd (other (take n (c ∷ cs)) (sym (take-append-drop n (c ∷ cs)) ∙ ap (λ t. take n (c ∷ cs) ++ t) (drop_more (c ∷ cs) n 0 lt ∙ ap (λ d. d ∷ drop (n + 1) (c ∷ cs)) byte ∙ ap (λ t. 13 ∷ t) (drop_all (n + 1) (c ∷ cs) (omega arith)))))

pub shown_is : (bs : List ℕ) (r : Option (Bor (List ℕ)))
    → MatchOption r ((front : List ℕ) → bs ≢ front ++ (13 ∷ [])) (λ x. bs ≡ x.now ++ (13 ∷ []))
    → MatchOption r (bs ≡ shown bs) (λ x. x.now ≡ shown bs)
shown_is bs None other = shown_whole bs other
shown_is bs (Some x) is = shown_front x.now ∙ ap shown (sym is)

-- ---- what is told

pub told_whole : (e : AsmRefusal) (at : ℕ) (wanted line number column words here space base first second all : List ℕ)
    → base ≡ [] → number ≡ decimal (fault_number e.why) → column ≡ decimal (at + 1) → words ≡ wanted
    → here ≡ shown line → space ≡ flat_map below (take at line)
    → first ≡ base ++ concat (codes "line " ∷ decimal e.line ∷ codes ": A" ∷ number ∷ [])
    → second ≡ first ++ concat (codes "," ∷ codes " column " ∷ column ∷ codes ": wanted " ∷ words ∷ [])
    → all ≡ second ++ concat (codes "\n    " ∷ here ∷ codes "\n    " ∷ space ∷ codes "^\n" ∷ [])
    → all ≡ fault_text e ++ wanted_text at wanted line
told_whole e at wanted line number column words here space base first second all empty number_is column_is words_are here_is space_is put_first put_second put_all =
    let a = codes "line " ∷ decimal e.line ∷ codes ": A" ∷ number ∷ [] in
    let b = codes "," ∷ codes " column " ∷ column ∷ codes ": wanted " ∷ words ∷ [] in
    let d = codes "\n    " ∷ here ∷ codes "\n    " ∷ space ∷ codes "^\n" ∷ [] in
    let front = codes "line " ∷ decimal e.line ∷ codes ": A" ∷ number ∷ codes "," ∷ [] in
    let back = codes " column " ∷ column ∷ codes ": wanted " ∷ words ∷ codes "\n    " ∷ here ∷ codes "\n    " ∷ space ∷ codes "^\n" ∷ [] in
    let same : concat front ++ concat back ≡ fault_text e ++ wanted_text at wanted line = rw (number_is, column_is, words_are, here_is, space_is) refl in
    both (a ++ b) d base second all (both a b base first second put_first put_second) put_all ∙ ap (λ t. t ++ concat ((a ++ b) ++ d)) empty ∙ concat-append front back ∙ same
