use Rattle.std.proofs.Common.{◌∙◌, rules, arith}
use Rattle.asm.proofs.Cuts.{before_at, rest_at, before_none, rest_none}
use Rattle.asm.proofs.tokens.split.Goals as goal

pub returns-then-stops-clause-before : goal.returns-then-stops-clause-before
returns-then-stops-clause-before c =
    c.split_at.ensures.front ∙ before_at c.args.stop c.args.text.now c.loop-i.i (search rules) c.loop-i.invariant (search rules)

pub returns-then-stops-clause-rest : goal.returns-then-stops-clause-rest
returns-then-stops-clause-rest c =
    c.split_at.ensures.back ∙ rest_at c.args.stop c.args.text.now c.loop-i.i (search rules) c.loop-i.invariant (search rules)

pub returns-clause-before : goal.returns-clause-before
returns-clause-before c = before_none c.args.stop c.args.text.now (λ k lt. c.loop-i.invariant k (omega arith))

pub returns-clause-rest : goal.returns-clause-rest
returns-clause-rest c = rest_none c.args.stop c.args.text.now (λ k lt. c.loop-i.invariant k (omega arith))
