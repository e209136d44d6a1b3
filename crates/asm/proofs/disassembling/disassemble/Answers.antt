use Rattle.std.proofs.Common.{◌∙◌, sym}
use Rattle.asm.proofs.TextLines.{line_more, text_of-nil}
use Rattle.asm.proofs.disassembling.disassemble.Goals as goal

pub loop-insn-init : goal.loop-insn-init
loop-insn-init c = c.new-out.ensures.bytes ∙ sym text_of-nil

pub loop-insn-preserved : goal.loop-insn-preserved
loop-insn-preserved c =
    line_more c.args.program.now c.loop-insn.insn-index _ c.form.result _ _ c.loop-insn-test.true (c.form.ensures.same ∙ c.insn-item.is) c.loop-insn.invariant c.in_ok-put_line.ensures
