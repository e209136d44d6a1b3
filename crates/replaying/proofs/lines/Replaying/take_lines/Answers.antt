use Rattle.std.proofs.Common.{◌∙◌, ap, refl}
use Rattle.text.specs.Lines.{LinesLeft}
use Rattle.replaying.specs.ReplayAnswer.{transcript_answer, nothing_replayed}
use Rattle.replaying.specs.Noted.{notes_text}
use Rattle.replaying.proofs.TranscriptLines.{goes_on, bad_here, bad_noted, differs_here, differs_noted, all_agree, none_noted}
use Rattle.replaying.proofs.lines.Replaying.take_lines.Goals as goal

pub loop-number-init : goal.loop-number-init
loop-number-init c =
    let begin = ap (λ (l : LinesLeft). transcript_answer c.args.catalogue.now l.number nothing_replayed l.lines) c.new-lines.ensures.all in
    let told = ap (λ (l : LinesLeft). notes_text c.args.catalogue.now l.number nothing_replayed l.lines) c.new-lines.ensures.all in
    (c.requires.steady, (nothing_replayed, c.requires.nothing, begin, told))

pub loop-number-preserved : goal.loop-number-preserved
loop-number-preserved c =
    let h = c.loop-number.invariant.1 in
    let taken = c.in-Some.ensures.taken in (
      c.in-Agrees.ensures.steady,
      rw taken.2 (goes_on c.args.catalogue.now c.loop-number.lines.number h.0 c.loop-number.lines.lines c.in-Some.line.now c.take_line.new.self.lines taken.0 _ h.2 _ h.3 c.take_line-in-Some.new.self (c.in-Agrees.ensures.replayed h.0 h.1)),
    )

pub returns-in-Bad-clause-answered : goal.returns-in-Bad-clause-answered
returns-in-Bad-clause-answered c =
    let h = c.loop-number.invariant.1 in
    let taken = c.in-Some.ensures.taken in
    rw taken.1 (bad_here c.args.catalogue.now c.loop-number.lines.number h.0 c.loop-number.lines.lines c.in-Some.line.now c.take_line.new.self.lines taken.0 _ h.2 _ h.3 c.take_line-in-Some.new.self (c.in-Bad.ensures.replayed h.0 h.1))

pub returns-in-Differs-clause-answered : goal.returns-in-Differs-clause-answered
returns-in-Differs-clause-answered c =
    let h = c.loop-number.invariant.1 in
    let taken = c.in-Some.ensures.taken in
    rw taken.1 (differs_here c.args.catalogue.now c.loop-number.lines.number h.0 c.loop-number.lines.lines c.in-Some.line.now c.take_line.new.self.lines taken.0 _ h.2 _ h.3 c.take_line-in-Some.new.self (c.in-Differs.ensures.replayed h.0 h.1))

pub returns-clause-answered : goal.returns-clause-answered
returns-clause-answered c =
    let h = c.loop-number.invariant.1 in
    let taken = c.in_default.ensures.taken in
    rw (h.1.placed.count, h.1.reads, h.1.ended) (all_agree c.args.catalogue.now c.loop-number.lines.number h.0 c.loop-number.lines.lines taken.0 ∙ h.2)

pub returns-in-Bad-clause-noted : goal.returns-in-Bad-clause-noted
returns-in-Bad-clause-noted c =
    let h = c.loop-number.invariant.1 in
    let taken = c.in-Some.ensures.taken in
    bad_noted c.args.catalogue.now c.loop-number.lines.number h.0 c.loop-number.lines.lines c.in-Some.line.now c.take_line.new.self.lines taken.0 _ h.2 _ h.3 c.take_line-in-Some.new.self (c.in-Bad.ensures.replayed h.0 h.1)

pub returns-in-Differs-clause-noted : goal.returns-in-Differs-clause-noted
returns-in-Differs-clause-noted c =
    let h = c.loop-number.invariant.1 in
    let taken = c.in-Some.ensures.taken in
    rw taken.1 (differs_noted c.args.catalogue.now c.loop-number.lines.number h.0 c.loop-number.lines.lines c.in-Some.line.now c.take_line.new.self.lines taken.0 _ h.2 _ h.3 c.take_line-in-Some.new.self c.take_line-in-Some.new.self.due (c.in-Differs.ensures.replayed h.0 h.1) (c.in-Differs.ensures.due h.0 h.1 refl))

pub returns-clause-noted : goal.returns-clause-noted
returns-clause-noted c =
    let h = c.loop-number.invariant.1 in
    let taken = c.in_default.ensures.taken in
    none_noted c.args.catalogue.now c.loop-number.lines.number h.0 c.loop-number.lines.lines taken.0 ∙ h.3
