use Rattle.std.proofs.Common.{◌≡◌, ◌++◌, drop, sym, ap, ◌∙◌, subst}
use Rattle.std.specs.Prelude.{codes, option_map}
use Rattle.verifier.specs.Joined.{frame_in}
use Rattle.std.specs.String.{string_bytes}
use Rattle.explain.specs.Slots.{changes_told, reached_told, slot_told}
use Rattle.explain.proofs.Slots.{Separated, changes_separated, if_ok, told_known, told_nothing, told_of}
use Rattle.explain.proofs.programs.slots.knowledge.Goals as goal

pub after_separator-requires-clause-begins : goal.after_separator-requires-clause-begins
after_separator-requires-clause-begins c =
    let before = option_map (λ f. f.now) c.line_above-before.result in
    let now = c.in-Some.frame.now in
    let made = c.as_str.ensures.value ∙ c.in_ok-put_changes.ensures ∙ ap (λ t. t ++ changes_told before now) c.new-known.ensures.bytes in
    subst (Separated (codes "; ")) (sym made) (changes_separated before now)

pub returns-in_default : goal.returns-in_default
returns-in_default c = λ knows.
    let study = c.args.study.now in
    let p = study.subject.program.now in
    let t = c.args.slot in
    let none = sym c.frame_at.ensures ∙ ap (option_map (λ f. f.now)) c.in_default.is in
    if_ok (λ s. string_bytes s ≡ codes "nothing leads here") (λ s. string_bytes s ≡ slot_told p t) c.from_str.result
    (λ s is. is ∙ sym (told_nothing p (frame_in study.known.frames.items) t none) ∙ told_of study t c.requires knows) c.from_str.ensures.ok

pub returns : goal.returns
returns c = λ knows.
    let study = c.args.study.now in
    let p = study.subject.program.now in
    let t = c.args.slot in
    let f = frame_in study.known.frames.items in
    let before = option_map (λ f. f.now) c.line_above-before.result in
    let now = c.in-Some.frame.now in
    let jumps = c.in_ok-jumps.jumps.items in
    let falls = c.in_ok-falls.falls.items in
    let is = sym c.frame_at.ensures ∙ ap (option_map (λ f. f.now)) c.in-Some.is in
    let above = rw (c.deref.ensures.value, c.deref-2.ensures.value) at c.line_above-before.ensures in
    let made = c.as_str.ensures.value ∙ c.in_ok-put_changes.ensures ∙ ap (λ t. t ++ changes_told before now) c.new-known.ensures.bytes in
    let reached = rw (c.deref-3.ensures.value, c.deref-4.ensures.value) at c.in_ok-put_reached.ensures in
    told_known p f t now jumps falls before c.after_separator.result.now _ is (c.in_ok-jumps.ensures knows.has.few knows.has.within) (c.in_ok-falls.ensures knows.has) above
    (c.after_separator.ensures ∙ ap (drop 2) made)
    (c.in_ok-push_str.ensures.bytes ∙ ap (λ x. x ++ c.after_separator.result.now) (reached ∙ ap (λ x. x ++ reached_told t jumps falls before) c.new-out.ensures.bytes))
    ∙ told_of study t c.requires knows
