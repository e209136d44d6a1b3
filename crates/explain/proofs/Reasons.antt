-- Why a program is refused: a number, and what is told behind it.
use Rattle.std.proofs.Common.{◌≡◌, ℕ, List, [], ◌∷◌, ◌++◌, Option, refl, sym, ap, ◌∙◌, append_assoc}
use Rattle.std.specs.Prelude.{codes}
use Rattle.std.specs.List.{concat}
use Rattle.verifier.specs.declared.refusal.Refused.{Refused}
use Rattle.explain.specs.Listing.{refusal_text, TellsSecond, TellsStructure}
use Rattle.explain.specs.Told.{Adds, BeginsWith, EndsWith}
use Rattle.explain.proofs.Pieces.{both, one}

pub kinds_told : (number words : List ℕ) (rest : List (List ℕ)) (old now new : List ℕ) → now ≡ old ++ number
    → new ≡ now ++ concat (words ∷ rest) → Adds (BeginsWith (number ++ words)) old new
kinds_told number words rest old now new first second = (
  number ++ concat (words ∷ rest),
  second ∙ ap (λ t. t ++ concat (words ∷ rest)) first ∙ append_assoc old number (concat (words ∷ rest)),
  (concat rest, sym (append_assoc number words (concat rest))),
)

pub structure_told : (e : Refused) (kinds : Option Refused) (told old now mid new : List ℕ)
    → EndsWith (codes "\n") told → now ≡ old ++ refusal_text e → mid ≡ now ++ concat (codes "\n      " ∷ told ∷ [])
    → Adds (TellsSecond kinds) mid new → Adds (TellsStructure e kinds) old new
structure_told e kinds told old now mid new ends first second more =
    let advice = ends.0 in
    let line : concat (codes "\n      " ∷ told ∷ []) ≡ concat (codes "\n      " ∷ advice ∷ codes "\n" ∷ []) =
    ap (λ t. concat (codes "\n      " ∷ t ∷ [])) ends.1 ∙ ap (λ t. codes "\n      " ++ t) (append_assoc advice (codes "\n") []) in
    let upto = both (refusal_text e ∷ []) (codes "\n      " ∷ advice ∷ codes "\n" ∷ []) old now mid (one old now (refusal_text e) first) (second ∙ ap (λ t. now ++ t) line) in
    let all = both (refusal_text e ∷ codes "\n      " ∷ advice ∷ codes "\n" ∷ []) (more.0 ∷ []) old mid new upto (one mid new more.0 more.1) in
    (_, all, record { advice = advice; second = more.0; whole = refl; by_kinds = more.2 })
