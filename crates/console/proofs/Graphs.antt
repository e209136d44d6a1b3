-- What `explain --graph` answers.
use Rattle.std.proofs.Common.{◌≡◌, ℕ, List, ◌++◌, Option, Some, None, IfSome, sym, ap, subst, ◌∙◌}
use Rattle.engine.specs.Answer.{Answer}
use Rattle.engine.specs.Reading.{TextsRead}
use Rattle.console.specs.CheckAnswer.{Draws, IsGraph, check_answer, remark_of}

pub is_graph : (name : Option (List ℕ)) (read : Option TextsRead) (t : TextsRead) (checked : Answer) (text drawn : List ℕ) → read ≡ Some t → checked ≡ check_answer read
    → text ≡ remark_of checked.verdict checked.text ++ drawn → Draws name t drawn → IsGraph name read (record { text = text; verdict = checked.verdict })
is_graph name None t checked text drawn some is wrote draws = absurd cc
is_graph name (Some u) t checked text drawn some is wrote draws = (
  ap (λ (a : Answer). a.verdict) is,
  drawn,
  wrote ∙ ap (λ (a : Answer). remark_of a.verdict a.text ++ drawn) is,
  subst (λ o. IfSome o (λ x. Draws name x drawn)) (sym some) draws,
)
