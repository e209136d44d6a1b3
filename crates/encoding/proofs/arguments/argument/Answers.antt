use Rattle.std.proofs.Common.{◌≡◌, ◌∷◌, [], rules}
use Rattle.std.specs.Prelude.{option_map}
use Rattle.encoding.specs.Shown.{words_behind}
use Rattle.encoding.proofs.ValueSteps.{good_value, bad_value, no_value}
use Rattle.encoding.proofs.arguments.argument.Goals as goal

pub returns-in-Err : goal.returns-in-Err
returns-in-Err c =
    let cut : words_behind (option_map (λ t. t.now) c.loop-left.left) ≡ c.first_word.result.0.now ∷ words_behind (option_map (λ t. t.now) c.first_word.result.1) = search rules in
    bad_value c.loop-left.column c.loop-left.argument.items _ c.first_word.result.0.now _ _ cut c.loop-left.invariant.0 c.in-Err.fault c.in-Err.ensures

pub loop-left-preserved : goal.loop-left-preserved
loop-left-preserved c =
    let cut : words_behind (option_map (λ t. t.now) c.loop-left.left) ≡ c.first_word.result.0.now ∷ words_behind (option_map (λ t. t.now) c.first_word.result.1) = search rules in (
      good_value c.loop-left.column c.loop-left.argument.items _ c.first_word.result.0.now _ _ cut c.loop-left.invariant.0 c.add_value.new.argument.items c.in-Ok.ensures,
      search rules,
    )

pub returns : goal.returns
returns c =
    let none : words_behind (option_map (λ t. t.now) c.loop-left.left) ≡ [] = search rules in
    no_value c.loop-left.column c.loop-left.argument.items _ (rw none at c.loop-left.invariant.0)
