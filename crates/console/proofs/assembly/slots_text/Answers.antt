use Rattle.std.proofs.Common.{◌≡◌, length, arith}
use Rattle.console.proofs.SlotLines.{line_more, slots_more, whole}
use Rattle.console.proofs.assembly.slots_text.Goals as goal

pub loop-insn-preserved : goal.loop-insn-preserved
loop-insn-preserved c =
    let p = c.args.program.now in
    let k = c.loop-insn.insn-index in
    rw c.slot_count.ensures (record {
      text = line_more p k _ _ c.loop-insn-test.true c.insn-item.is c.loop-insn.slot c.loop-insn.out.items c.put_slot_line.new.out.items _ c.loop-insn.invariant.text c.in_ok-put_slot_line.ensures;
      slots = slots_more p k _ _ c.loop-insn-test.true c.insn-item.is c.loop-insn.slot _ c.loop-insn.invariant.slots;
    })

pub returns : goal.returns
returns c =
    let past = c.loop-insn-test.false in
    let upto = c.loop-insn.auto.insn-index-end in
    let end : c.loop-insn.insn-index ≡ length c.args.program.now = omega arith in
    whole c.args.program.now c.loop-insn.insn-index c.loop-insn.slot c.loop-insn.out.items _ end c.loop-insn.invariant.text
