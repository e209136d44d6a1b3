use Rattle.std.proofs.Common.{◌≡◌, ◌+◌, ◌-◌, ◌∙◌, length, take, drop, Some, ap, arith}
use Rattle.std.proofs.lemmas.List.{length-drop, take_all}
use Rattle.text.proofs.Export.{first_is, cut_some, cut_none}
use Rattle.encoding.proofs.words.cut_at_colon.Goals as goal

pub returns-in-Some-clause-parts : goal.returns-in-Some-clause-parts
returns-in-Some-clause-parts c =
    let word = c.args.word.now in
    let next = c.in-Some.at + 1 in
    let all : take (length word - next) (drop next word) ≡ drop next word = take_all (length word - next) (drop next word) (omega (arith, length-drop next word)) in
    ap (λ rest. Some (take c.in-Some.at word, rest)) all ∙ cut_some 58 word c.in-Some.at (first_is 58 word c.in-Some.at c.in-Some.ensures.first)

pub returns-in-None-clause-parts : goal.returns-in-None-clause-parts
returns-in-None-clause-parts c = cut_none 58 c.args.word.now c.in-None.ensures.first
