use Rattle.std.proofs.Common.{◌≡◌, ◌∙◌, sym, ap, subst, rules, arith, Ok, ◌++◌, ◌∷◌, []}
use Rattle.asm.specs.Labels.{marks_of}
use Rattle.asm.specs.Assembled.{instruction_of, assembled, MayFollow}
use Rattle.asm.proofs.AssembledLines.{blank_line, pushed_line, bad_line, no_line, from_labels, onto-nil}
use Rattle.asm.proofs.assembling.assemble.Goals as goal

pub loop-line-init : goal.loop-line-init
loop-line-init c =
    (omega arith, rw (c.new-program.ensures.items, c.new-lines.ensures.all) (onto-nil _ ∙ from_labels (marks_of c.in_ok-labels.labels) c.args.text.now c.in_ok-labels.ensures))

pub loop-line-preserved-in-Ok-None : goal.loop-line-preserved-in-Ok-None
loop-line-preserved-in-Ok-None c =
    let taken = c.in-Some.ensures.taken in
    let marks = marks_of c.in_ok-labels.labels in (
      c.loop-line.invariant.0,
      blank_line marks c.loop-line.lines.number c.in-Some.line c.loop-line.slot c.loop-line.lines.lines c.in-Some.text.now c.take_line.new.self.lines c.loop-line.program.items
          (assembled c.args.text.now) taken.0 taken.1 c.loop-line.invariant.1 c.take_line.new.self.number taken.2
          (ap Ok (sym c.in-Ok-None.field-0-is) ∙ c.in-Ok-None.ensures.value ∙ ap (instruction_of marks c.in-Some.line c.loop-line.slot) c.as_bytes.ensures.value),
    )

pub loop-line-preserved : goal.loop-line-preserved
loop-line-preserved c =
    let taken = c.in-Some.ensures.taken in
    let marks = marks_of c.in_ok-labels.labels in
    let items : c.push.new.self.items ≡ c.loop-line.program.items ++ c.in-Ok-Some.insn ∷ [] = search rules in (
      rw c.slot_count.ensures (subst (λ o. MayFollow c.loop-line.slot (Ok o)) c.in-Ok-Some.field-0-is c.in-Ok-Some.ensures.few),
      pushed_line marks c.loop-line.lines.number c.in-Some.line c.loop-line.slot c.loop-line.lines.lines c.in-Some.text.now c.take_line.new.self.lines c.loop-line.program.items
          (assembled c.args.text.now) taken.0 taken.1 c.loop-line.invariant.1 c.take_line.new.self.number c.in-Ok-Some.insn c.push.new.self.items c.slot_count.result taken.2 items c.slot_count.ensures
          (ap Ok (sym c.in-Ok-Some.field-0-is) ∙ c.in-Ok-Some.ensures.value ∙ ap (instruction_of marks c.in-Some.line c.loop-line.slot) c.as_bytes.ensures.value),
    )

pub returns-in-Err : goal.returns-in-Err
returns-in-Err c =
    let taken = c.in-Some.ensures.taken in
    let marks = marks_of c.in_ok-labels.labels in
    record {
      assembled =
          bad_line marks c.loop-line.lines.number c.in-Some.line c.loop-line.slot c.loop-line.lines.lines c.in-Some.text.now c.take_line.new.self.lines c.loop-line.program.items
          (assembled c.args.text.now) taken.0 taken.1 c.loop-line.invariant.1 c.in-Err.why
          (c.in-Err.ensures.value ∙ ap (instruction_of marks c.in-Some.line c.loop-line.slot) c.as_bytes.ensures.value);
    }

pub returns : goal.returns
returns c =
    record { assembled = no_line (marks_of c.in_ok-labels.labels) c.loop-line.lines.number c.loop-line.slot c.loop-line.lines.lines c.loop-line.program.items (assembled c.args.text.now) (search rules) c.loop-line.invariant.1 }
