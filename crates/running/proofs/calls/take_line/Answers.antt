use Rattle.std.proofs.Common.{◌≡◌, ap, sym, ◌∙◌, rules}
use Rattle.std.specs.Prelude.{Option, option_map}
use Rattle.scripts.specs.Script.{Meaning, call_meaning, word_meaning}
use Rattle.running.specs.RunAnswer.{taken}
use Rattle.running.proofs.RunLines.{words_turn, taken_so}
use Rattle.running.proofs.calls.take_line.Goals as goal

-- a line that is no call by a name says what its words do
pub returns-in-None-clause-taken : goal.returns-in-None-clause-taken
unfolding call_meaning
returns-in-None-clause-taken c = λ limit h follows.
    let other : word_meaning c.in-Some.word.now c.in-Some.rest.now ≡ call_meaning c.args.line.now = search rules in
    taken_so limit c.args.catalogue.now _ _ c.take_other.new.node c.args.out.now.items c.take_other.new.out.items c.take_other.result
    (ap (λ (o : Option Meaning). option_map (taken limit c.args.catalogue.now h) o) other ∙ words_turn limit c.args.catalogue.now h c.args.line.now (sym c.in-Words.is ∙ c.kind_of.ensures.kind))
    (c.take_other.ensures.taken limit h follows)
