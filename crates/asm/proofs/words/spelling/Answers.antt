use Rattle.std.proofs.Common.{◌∙◌, ap, rules, add-one}
use Rattle.std.proofs.lemmas.Bool.{both_ways}
use Rattle.asm.specs.Words.{word_of, IsSpelled}
use Rattle.asm.proofs.Lists.{head_has, tail_has, said_behind}
use Rattle.asm.proofs.words.spelling.Goals as goal

pub returns-then-is_same : goal.returns-then-is_same
returns-then-is_same c =
    head_has (IsSpelled (λ text. text.now)) c.args.rows.now c.loop-spelled.spelled-index _ c.loop-spelled.invariant.0 (search rules) ∙ ap word_of (c.is_same.ensures.0 c.if-is_same.true)

pub loop-spelled-preserved : goal.loop-spelled-preserved
loop-spelled-preserved c =
    rw add-one (
      tail_has (IsSpelled (λ text. text.now)) c.args.rows.now c.loop-spelled.spelled-index c.loop-spelled.invariant.0 c.loop-spelled-test.true,
      said_behind c.args.rows.now c.args.mnemonic c.loop-spelled.spelled-index _ c.loop-spelled.invariant.1 c.loop-spelled-test.true (λ e. both_ways _ c.if-is_same.false (c.is_same.ensures.1 e)),
    )
