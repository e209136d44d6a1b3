use Rattle.std.proofs.Common.{◌≡◌, ◌+◌, ◌-◌, ◌∷◌, ◌∙◌, length, take, drop, sym, ap, subst, arith}
use Rattle.std.proofs.lemmas.List.{length-drop, take_all}
use Rattle.encoding.specs.Words.{words_of}
use Rattle.encoding.proofs.FirstWords.{AreSeen, none_seen, one_more, ended, all_seen}
use Rattle.encoding.proofs.words.first_word.Goals as goal

pub loop-i-init : goal.loop-i-init
loop-i-init c = none_seen c.args.text.now

pub loop-i-preserved : goal.loop-i-preserved
loop-i-preserved c =
    subst (λ q. AreSeen c.args.text.now (c.loop-i.i + 1) q) (sym c.is_open-quoted.ensures)
    (one_more c.args.text.now c.loop-i.i c.loop-i.quoted c.loop-i-test.true (sym c.ends_word.ensures ∙ c.if-ends_word.false) c.loop-i.invariant)

pub returns-then-ends_word-clause-words : goal.returns-then-ends_word-clause-words
returns-then-ends_word-clause-words c =
    let text = c.args.text.now in
    let next = c.loop-i.i + 1 in
    let all : take (length text - next) (drop next text) ≡ drop next text = take_all (length text - next) (drop next text) (omega (arith, length-drop next text)) in
    ended text c.loop-i.i c.loop-i.quoted c.loop-i-test.true (sym c.ends_word.ensures ∙ c.if-ends_word.true) c.loop-i.invariant
    ∙ ap (λ rest. take c.loop-i.i text ∷ words_of rest) (sym all)

pub returns-clause-words : goal.returns-clause-words
returns-clause-words c = all_seen c.args.text.now c.loop-i.i c.loop-i.quoted c.loop-i-test.false c.loop-i.invariant
