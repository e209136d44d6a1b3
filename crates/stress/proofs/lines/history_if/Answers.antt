use Rattle.std.proofs.Common.{◌≡◌, map, sym, subst}
use Rattle.std.specs.Prelude.{IfOk}
use Rattle.stress.specs.Shown.{timed_of}
use Rattle.stress.specs.Playing.{history_if}
use Rattle.stress.proofs.lines.history_if.Goals as goal

pub returns-then-timed : goal.returns-then-timed
returns-then-timed c =
    subst (λ b. IfOk c.history_text.result (λ text. text.items ≡ history_if b (map timed_of c.args.told.now))) (sym c.if-timed.true) c.history_text.ensures
