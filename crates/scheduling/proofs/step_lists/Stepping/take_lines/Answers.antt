use Rattle.std.proofs.Common.{◌≡◌, ◌∙◌, true, false, refl, ap, rules}
use Rattle.text.specs.Lines.{LinesLeft}
use Rattle.running.specs.RunAnswer.{behind}
use Rattle.scheduling.specs.ScheduleAnswer.{steps_answer}
use Rattle.scheduling.proofs.StepLines.{goes_on, bad_here, all_taken}
use Rattle.engine.proofs.Export.{quiet_on}
use Rattle.scheduling.proofs.step_lists.Stepping.take_lines.Goals as goal

pub loop-number-init : goal.loop-number-init
loop-number-init c =
    let w = c.args.self.now.world in
    let begin = ap (λ (l : LinesLeft). behind c.args.self.now.text.items (steps_answer w.opening l.number w.world l.lines)) c.new-lines.ensures.all in
    (refl, begin, λ on. refl)

pub returns-then-not-is_good-clause-answered : goal.returns-then-not-is_good-clause-answered
returns-then-not-is_good-clause-answered c =
    let h = c.loop-number.invariant in
    let taken = c.in-Some.ensures.taken in
    let off : c.in_ok-is_good.is_good ≡ false = search rules in
    bad_here c.args.self.now.world.opening c.loop-number.lines.number c.loop-number.self.world c.loop-number.self.text.items c.loop-number.lines.lines c.in-Some.line.now c.take_line.new.self.lines taken.0 _ h.0 h.1
    c.take_step.new.self.world c.take_step.new.self.text.items c.put_bad_line.new.out.items (rw off at c.in_ok-is_good.ensures.taken) (rw taken.1 at c.in_ok-put_bad_line.ensures)

pub loop-number-preserved : goal.loop-number-preserved
loop-number-preserved c =
    let h = c.loop-number.invariant in
    let taken = c.in-Some.ensures.taken in
    let on : c.in_ok-is_good.is_good ≡ true = search rules in
    let g = goes_on c.args.self.now.world.opening c.loop-number.lines.number c.loop-number.self.world c.loop-number.self.text.items c.loop-number.lines.lines c.in-Some.line.now c.take_line.new.self.lines taken.0 _ h.0 h.1
    c.take_step.new.self.world c.take_step.new.self.text.items (rw on at c.in_ok-is_good.ensures.taken) in
    (g.0, rw taken.2 g.1, quiet_on c.args.notes.now c.loop-number.notes c.take_step.new.notes h.2 c.take_step.ensures.quiet)

pub returns-clause-answered : goal.returns-clause-answered
returns-clause-answered c =
    let h = c.loop-number.invariant in
    let taken = c.in_default.ensures.taken in
    all_taken c.args.self.now.world.opening c.loop-number.lines.number c.loop-number.self.world.world c.loop-number.self.text.items c.put_end.new.out.items c.loop-number.lines.lines taken.0 c.in_ok-put_end.ensures ∙ h.1
