use Rattle.std.proofs.Common.{◌≡◌, ◌∷◌, ◌++◌, [], rules, subst, sym}
use Rattle.std.specs.Prelude.{option_map}
use Rattle.encoding.specs.Layouts.{parts_of}
use Rattle.encoding.specs.Shown.{words_behind}
use Rattle.encoding.specs.Words.{words_of}
use Rattle.encoding.proofs.DecodeSteps.{bad_part, good_part, no_part, started}
use Rattle.encoding.proofs.layouts.parts_of.Goals as goal

pub loop-left-init : goal.loop-left-init
loop-left-init c = rw c.new-parts.ensures.items (started _)

pub returns-in-None : goal.returns-in-None
returns-in-None c =
    let cut : words_behind (option_map (λ t. t.now) c.loop-left.left) ≡ c.first_word.result.0.now ∷ words_behind (option_map (λ t. t.now) c.first_word.result.1) = search rules in
    bad_part c.loop-left.parts.items _ c.first_word.result.0.now _ _ cut c.loop-left.invariant c.in-None.ensures

pub loop-left-preserved : goal.loop-left-preserved
loop-left-preserved c =
    let cut : words_behind (option_map (λ t. t.now) c.loop-left.left) ≡ c.first_word.result.0.now ∷ words_behind (option_map (λ t. t.now) c.first_word.result.1) = search rules in
    let items : c.push.new.self.items ≡ c.loop-left.parts.items ++ c.in-Some-part_of.part ∷ [] = search rules in
    subst (λ xs. option_map (λ ps. xs ++ ps) (parts_of (words_behind (option_map (λ t. t.now) c.first_word.result.1))) ≡ parts_of (words_of c.args.words.now)) (sym items)
    (good_part c.loop-left.parts.items _ c.first_word.result.0.now _ _ cut c.loop-left.invariant c.in-Some-part_of.part c.in-Some-part_of.ensures)

pub returns : goal.returns
returns c =
    let none : words_behind (option_map (λ t. t.now) c.loop-left.left) ≡ [] = search rules in
    no_part c.loop-left.parts.items _ _ none c.loop-left.invariant
