-- What `check` writes, from the bytes that it reads to its lines.
use Rattle.std.proofs.Common.{◌≡◌, inl, inr, ℕ, List, Option, Some, None, Ok, Err, refl, sym, subst}
use Rattle.loader.specs.Loading.{Outcome}
use Rattle.engine.specs.Texts.{programs_text, refusal_text}
use Rattle.engine.specs.Answer.{Answer}
use Rattle.engine.specs.Reading.{Given, first_stranger, read}
use Rattle.engine.specs.Report.{answer_of}
use Rattle.engine.specs.Written.{loads}
use Rattle.engine.proofs.Export.{Fits, found, unless_strange, written}
use Rattle.console.specs.CheckAnswer.{check_answer, good_or_refused}
use Rattle.console.specs.CheckLaw.{CheckWrites, IsGoodText, IsRefusedText}

-- an answer to these bytes is good or refuses
abbrev FitsBytes : Given → Answer → Type 0
FitsBytes g a = Fits (IsGoodText g) (IsRefusedText g) a

by_load : (g : Given) → first_stranger g ≡ None → (out : Outcome) → loads g ≡ out
    → FitsBytes g (good_or_refused (λ c. programs_text c.programs) refusal_text out)
by_load g none (Ok c) is = inl (refl, (none, c, is, refl))
by_load g none (Err e) is = inr (refl, inr (none, e, is, refl))

by_stranger : (g : Given) (o : Option (List ℕ × List ℕ)) → first_stranger g ≡ o
    → FitsBytes g (check_answer (unless_strange o (found g)))
by_stranger g None none = by_load g none (loads g) refl
by_stranger g (Some s) is = inr (refl, inl (s, is, refl))

fits : (g : Given) (a : Answer) → a ≡ check_answer (read g) → FitsBytes g a
fits g a is = subst (FitsBytes g) (sym is) (by_stranger g (first_stranger g) refl)

pub check_writes : CheckWrites
check_writes g old new status wrote = written (IsGoodText g) (IsRefusedText g) answer_of _ (λ r is. fits g (answer_of r) is) old new status wrote
