use Rattle.std.proofs.Common.{◌∙◌, sym, ap, refl, rules}
use Rattle.text.specs.Lines.{lines_of}
use Rattle.asm.specs.Labels.{marks_of, marks_from, line_of, Blank, Label, Word}
use Rattle.asm.proofs.LabelLemmas.{one_line, no_line, or_none}
use Rattle.asm.proofs.labels.Labels.read.Goals as goal

pub loop-line-preserved-in-Blank : goal.loop-line-preserved-in-Blank
loop-line-preserved-in-Blank c =
    let taken = c.in-Some.ensures.taken in
    one_line (marks_of c.loop-line.labels) (marks_of c.loop-line.labels) c.loop-line.lines.number c.in-Some.line c.take_line.new.self.number c.loop-line.slot c.loop-line.slot
    c.loop-line.lines.lines c.in-Some.text.now c.take_line.new.self.lines Blank (marks_from 1 0 (lines_of c.args.text.now)) taken.0 taken.1 taken.2
    (c.in-Blank.ensures ∙ ap line_of c.as_bytes.ensures.value) (λ q. sym (or_none _)) refl c.loop-line.invariant

pub loop-line-preserved-in-Continue-1 : goal.loop-line-preserved-in-Continue-1
loop-line-preserved-in-Continue-1 c =
    let taken = c.in-Some.ensures.taken in
    one_line (marks_of c.loop-line.labels) (marks_of c.note.new.self) c.loop-line.lines.number c.in-Some.line c.take_line.new.self.number c.loop-line.slot c.loop-line.slot
    c.loop-line.lines.lines c.in-Some.text.now c.take_line.new.self.lines (Label c.in-Label.name.now c.in-Label.is_followed) (marks_from 1 0 (lines_of c.args.text.now)) taken.0 taken.1 taken.2
    (c.in-Label.ensures ∙ ap line_of c.as_bytes.ensures.value) (λ q. c.in_ok-note-in-Label.ensures q) refl c.loop-line.invariant

pub loop-line-preserved : goal.loop-line-preserved
loop-line-preserved c =
    let taken = c.in-Some.ensures.taken in
    one_line (marks_of c.loop-line.labels) (marks_of c.loop-line.labels) c.loop-line.lines.number c.in-Some.line c.take_line.new.self.number c.loop-line.slot c.saturating_add-slot.result
    c.loop-line.lines.lines c.in-Some.text.now c.take_line.new.self.lines (Word c.in-Word.word.now c.in-Word.rest.now) (marks_from 1 0 (lines_of c.args.text.now)) taken.0 taken.1 taken.2
    (c.in-Word.ensures ∙ ap line_of c.as_bytes.ensures.value) (λ q. sym (or_none _)) (search rules) c.loop-line.invariant

pub returns : goal.returns
returns c = no_line (marks_of c.loop-line.labels) c.loop-line.lines.number c.loop-line.slot c.loop-line.lines.lines (marks_from 1 0 (lines_of c.args.text.now)) (search rules) c.loop-line.invariant
