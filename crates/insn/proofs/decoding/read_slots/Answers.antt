use Rattle.std.proofs.Common.{ℕ, ◌<◌, false, Err, sym, ap, ◌∙◌, ⊎_elim, arith}
use Rattle.insn.specs.declared.instruction.Form.{Form}
use Rattle.insn.specs.Layout.{slot_count}
use Rattle.insn.proofs.Places.{cells_shape}
use Rattle.insn.specs.Refusal.{slots_in}
use Rattle.insn.specs.Decoded.{front}
use Rattle.insn.proofs.Slots.{are_bytes, slots_fit, slots_drop, length_slots}
use Rattle.insn.proofs.Programs.{with_all, all_err, goes_on, stops, read_more, read_all}
use Rattle.insn.proofs.decoding.read_slots.Goals as goal

-- an instruction takes a slot
some_slot : (i : Form) → 0 < slot_count i
some_slot i = ⊎_elim (λ c. omega (arith, ap Rattle.std.proofs.Common.length c)) (λ c. omega (arith, ap Rattle.std.proofs.Common.length c)) (cells_shape i)

pub loop-slot-preserved : goal.loop-slot-preserved
loop-slot-preserved c =
    let bytes = c.args.bytes.now in
    let all = slots_in bytes in
    let at = c.loop-slot.slot in
    let count = length_slots bytes c.requires.whole in
    let here = sym (ap front (slots_drop at bytes c.loop-slot.invariant.within)) ∙ c.in-Ok.ensures.found in
    let more = goes_on all at c.in-Ok.insn (slots_fit bytes (are_bytes bytes (λ k. omega (arith, c.type_inv.bytes k)))) (omega (arith, count)) here in
    record {
      within = omega (arith, count, more.within, c.slot_count-slot.ensures);
      fits = omega (arith, c.loop-slot.invariant.fits, c.push_reserved.ensures.len, some_slot c.in-Ok.insn, c.slot_count-slot.ensures);
      room = c.push_reserved.ensures.capacity ∙ c.loop-slot.invariant.room;
      read = read_more c.loop-slot.program.items _ c.in-Ok.insn all at _ _ c.loop-slot.invariant.read more c.push_reserved.ensures.items c.slot_count-slot.ensures;
    }

pub returns-in-Err : goal.returns-in-Err
returns-in-Err c =
    let bytes = c.args.bytes.now in
    let all = slots_in bytes in
    let at = c.loop-slot.slot in
    let p = c.loop-slot.program.items in
    let count = length_slots bytes c.requires.whole in
    let here = sym (ap front (slots_drop at bytes c.loop-slot.invariant.within)) ∙ c.in-Err.ensures.first in
    let stop = stops all at c.in-Err.why (slots_fit bytes (are_bytes bytes (λ k. omega (arith, c.type_inv.bytes k)))) (omega (arith, count)) here in
    record { reading = c.loop-slot.invariant.read ∙ ap (with_all p) stop ∙ all_err p _ ∙ ap Err (sym c.refused.ensures); room = c.loop-slot.invariant.room }

pub returns : goal.returns
returns c =
    let bytes = c.args.bytes.now in
    let count = length_slots bytes c.requires.whole in
    record { reading = read_all c.loop-slot.program.items (slots_in bytes) c.loop-slot.slot _ c.loop-slot.invariant.read (omega (arith, count, c.loop-slot.invariant.within)); room = c.loop-slot.invariant.room }
