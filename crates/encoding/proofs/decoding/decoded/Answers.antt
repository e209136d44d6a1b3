use Rattle.std.proofs.Common.{◌≡◌, ◌++◌, [], rules, subst, sym, ap, ◌∙◌, true, false, Err}
use Rattle.std.specs.Prelude.{codes}
use Rattle.text.specs.Lines.{lines_of}
use Rattle.encoding.specs.declared.decode_faults.DecodeRefusal.TheVariants as refusals
use Rattle.encoding.specs.Decoded.{decoded_from, state_line}
use Rattle.encoding.specs.DecodeShown.{AddsLine, shown_layouts}
use Rattle.encoding.proofs.DecodeSteps.{bad_line, good_line, no_line, onto-nil}
use Rattle.encoding.proofs.decoding.decoded.Goals as goal

pub loop-number-init : goal.loop-number-init
loop-number-init c = rw (c.new-out.ensures.items, c.new-lines.ensures.all) (onto-nil _)

pub returns-then-not-branch : goal.returns-then-not-branch
returns-then-not-branch c =
    let taken = c.in-Some.ensures.taken in
    let no : c.in_ok-put_line.field-0 ≡ false = search rules in
    let none = subst (λ b. AddsLine c.loop-number.out.items (state_line (shown_layouts c.args.layouts.now) c.in-Some.line.now) b c.put_line.new.out.items) no c.in_ok-put_line.ensures in
    bad_line (shown_layouts c.args.layouts.now) c.loop-number.lines.number c.loop-number.lines.lines c.in-Some.line.now c.take_line.new.self.lines c.loop-number.out.items
    (decoded_from (shown_layouts c.args.layouts.now) 1 (lines_of c.args.state.now)) taken.0 c.loop-number.invariant c.put_line.new.out.items none
    ∙ ap (λ n. Err (refusals.State n)) (sym taken.1)

pub loop-number-preserved : goal.loop-number-preserved
loop-number-preserved c =
    let taken = c.in-Some.ensures.taken in
    let yes : c.in_ok-put_line.field-0 ≡ true = search rules in
    let added = subst (λ b. AddsLine c.loop-number.out.items (state_line (shown_layouts c.args.layouts.now) c.in-Some.line.now) b c.put_line.new.out.items) yes c.in_ok-put_line.ensures in
    let feed : c.extend_from_slice.new.self.items ≡ c.put_line.new.out.items ++ codes "\n" = search rules in
    good_line (shown_layouts c.args.layouts.now) c.loop-number.lines.number c.loop-number.lines.lines c.in-Some.line.now c.take_line.new.self.lines c.loop-number.out.items
    (decoded_from (shown_layouts c.args.layouts.now) 1 (lines_of c.args.state.now)) taken.0 c.loop-number.invariant c.take_line.new.self.number c.put_line.new.out.items c.extend_from_slice.new.self.items taken.2 added feed

pub returns : goal.returns
returns c =
    let none : c.loop-number.lines.lines ≡ [] = search rules in
    no_line (shown_layouts c.args.layouts.now) c.loop-number.lines.number c.loop-number.lines.lines c.loop-number.out.items
    (decoded_from (shown_layouts c.args.layouts.now) 1 (lines_of c.args.state.now)) none c.loop-number.invariant
