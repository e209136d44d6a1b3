use Rattle.std.proofs.Common.{◌∙◌, arith}
use Rattle.loader.proofs.NameLemmas.{after_last-at, after_last-none}
use Rattle.loader.proofs.file_names.last_word.Goals as goal

pub returns-in-Some : goal.returns-in-Some
returns-in-Some c =
    let f = c.in-Some.ensures.cases in
    f.4 ∙ after_last-at c.args.text.now f.0 f.1 f.2 (omega (arith, f.7))

pub returns-in-None : goal.returns-in-None
returns-in-None c = after_last-none c.args.text.now c.in-None.ensures.cases
