use Rattle.std.proofs.Common.{◌≡◌, [], rules, refl, subst, sym, ap, ◌∙◌, true, false, Err}
use Rattle.encoding.specs.declared.decode_faults.DecodeRefusal.TheVariants as refusals
use Rattle.encoding.specs.DecodeShown.{Becomes, shown_layouts}
use Rattle.encoding.specs.Layouts.{layouts_of, with_line}
use Rattle.encoding.proofs.DecodeSteps.{bad_layout, good_layout, no_layout}
use Rattle.encoding.proofs.layouts.read_layouts.Goals as goal

pub loop-number-init : goal.loop-number-init
unfolding layouts_of
loop-number-init c = rw (c.new-layouts.ensures.items, c.new-lines.ensures.all) refl

pub returns-then-not-branch : goal.returns-then-not-branch
returns-then-not-branch c =
    let taken = c.in-Some.ensures.taken in
    let no : c.in_ok-add_line.field-0 ≡ false = search rules in
    let stays = subst (λ b. Becomes (with_line (shown_layouts c.loop-number.layouts.items) c.in-Some.line.now) b (shown_layouts c.add_line.new.layouts.items)) no c.in_ok-add_line.ensures in
    bad_layout c.loop-number.lines.number (shown_layouts c.loop-number.layouts.items) c.loop-number.lines.lines c.in-Some.line.now c.take_line.new.self.lines (layouts_of c.args.text.now)
    taken.0 c.loop-number.invariant (shown_layouts c.add_line.new.layouts.items) stays
    ∙ ap (λ n. Err (refusals.Layout n)) (sym taken.1)

pub loop-number-preserved : goal.loop-number-preserved
loop-number-preserved c =
    let taken = c.in-Some.ensures.taken in
    let yes : c.in_ok-add_line.field-0 ≡ true = search rules in
    let becomes = subst (λ b. Becomes (with_line (shown_layouts c.loop-number.layouts.items) c.in-Some.line.now) b (shown_layouts c.add_line.new.layouts.items)) yes c.in_ok-add_line.ensures in
    good_layout c.loop-number.lines.number (shown_layouts c.loop-number.layouts.items) c.loop-number.lines.lines c.in-Some.line.now c.take_line.new.self.lines (layouts_of c.args.text.now)
    taken.0 c.loop-number.invariant c.take_line.new.self.number (shown_layouts c.add_line.new.layouts.items) taken.2 becomes

pub returns : goal.returns
returns c =
    let none : c.loop-number.lines.lines ≡ [] = search rules in
    no_layout c.loop-number.lines.number (shown_layouts c.loop-number.layouts.items) c.loop-number.lines.lines (layouts_of c.args.text.now) none c.loop-number.invariant
