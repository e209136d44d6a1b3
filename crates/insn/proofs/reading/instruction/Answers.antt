use Rattle.std.proofs.Common.{◌≡◌, Option, Some, None, ◌+◌, ◌*◌, Ok, drop, sym, ap, ◌∙◌, subst, arith}
use Rattle.insn.specs.Encoding.{HasEncoding}
use Rattle.insn.specs.Refusal.{slots_in}
use Rattle.insn.specs.Decoded.{front, narrow_form}
use Rattle.insn.specs.declared.instruction.Fields.{Fields}
use Rattle.insn.specs.declared.instruction.Form.{Form}
use Rattle.insn.proofs.Slots.{are_bytes, slot_fits, two_slots, last_slot}
use Rattle.insn.proofs.Rows.{is_clean}
use Rattle.insn.proofs.Opcodes.{is_wide_at, is_narrow_at, wide_begins}
use Rattle.insn.proofs.Fronts.{Reads, reads, front_first, front_narrow, front_cut, front_half, front_wide}
use Rattle.insn.proofs.reading.instruction.Goals as goal

pub returns-in-Some-clause-first : goal.returns-in-Some-clause-first
returns-in-Some-clause-first c =
    ap front c.slot_at-first.ensures ∙ front_first c.slot_at-first.result _ c.in-Some.why (c.fault_of.ensures ∙ c.in-Some.is)

-- the form that was read of a slot which breaks no rule is that of its instruction
same_form : (f : Fields) (r : Reads f) (read : Option Form) (i : Form) → read ≡ narrow_form f → read ≡ Some i → r.form ≡ i
same_form f r read i e h = let both : Some r.form ≡ Some i = sym r.read ∙ sym e ∙ h in cc

pub of-requires : goal.of-requires
of-requires c =
    let f = c.slot_at-first.result in
    let fit = slot_fits c.args.bytes.now (8 * c.args.slot) f _ (are_bytes c.args.bytes.now (λ i. omega (arith, c.type_inv.bytes i))) c.slot_at-first.ensures in
    let r = reads f fit (c.fault_of.ensures ∙ c.in_default.is) (is_narrow_at f c.if-first-ne-WIDE.true) in
    subst HasEncoding (same_form f r c.narrow_form.result c.in-Some-narrow_form.form c.narrow_form.ensures c.in-Some-narrow_form.is) r.encoded

pub returns-in-Some-narrow_form-clause-found : goal.returns-in-Some-narrow_form-clause-found
returns-in-Some-narrow_form-clause-found c =
    let f = c.slot_at-first.result in
    let i = c.in-Some-narrow_form.form in
    let read = ap front c.slot_at-first.ensures ∙ front_narrow f _ i (c.fault_of.ensures ∙ c.in_default.is) (is_narrow_at f c.if-first-ne-WIDE.true) (sym c.narrow_form.ensures ∙ c.in-Some-narrow_form.is) in
    read ∙ ap Ok (sym c.of.ensures)

-- what breaks no rule is read
pub returns-in-None-clause-first : goal.returns-in-None-clause-first
returns-in-None-clause-first c =
    let f = c.slot_at-first.result in
    let fit = slot_fits c.args.bytes.now (8 * c.args.slot) f _ (are_bytes c.args.bytes.now (λ i. omega (arith, c.type_inv.bytes i))) c.slot_at-first.ensures in
    let r = reads f fit (c.fault_of.ensures ∙ c.in_default.is) (is_narrow_at f c.if-first-ne-WIDE.true) in
    let none : Some r.form ≡ None = sym r.read ∙ sym c.narrow_form.ensures ∙ c.in-None.is in
    cc

pub returns-then-bytes-slot-clause-first : goal.returns-then-bytes-slot-clause-first
returns-then-bytes-slot-clause-first c =
    let f = c.slot_at-first.result in
    ap front (last_slot c.args.bytes.now c.args.slot f c.requires.whole c.requires.within c.if-bytes-slot.true c.slot_at-first.ensures)
    ∙ front_cut f (c.fault_of.ensures ∙ c.in_default.is) (is_wide_at f c.if-first-ne-WIDE.false)

pub returns-then-is_bad_half-clause-first : goal.returns-then-is_bad_half-clause-first
returns-then-is_bad_half-clause-first c =
    let f = c.slot_at-first.result in
    let g = c.slot_at-second.result in
    let rest = slots_in (drop (8 * (c.args.slot + 1) + 8) c.args.bytes.now) in
    ap front (two_slots c.args.bytes.now c.args.slot f g rest c.slot_at-first.ensures c.slot_at-second.ensures)
    ∙ front_half f g rest (c.fault_of.ensures ∙ c.in_default.is) (is_wide_at f c.if-first-ne-WIDE.false) (sym c.is_bad_half.ensures ∙ c.if-is_bad_half.true)

pub of-requires-2 : goal.of-requires-2
of-requires-2 c =
    let f = c.slot_at-first.result in
    let g = c.slot_at-second.result in
    let fit = slot_fits c.args.bytes.now (8 * c.args.slot) f _ (are_bytes c.args.bytes.now (λ i. omega (arith, c.type_inv.bytes i))) c.slot_at-first.ensures in
    let fit2 = slot_fits c.args.bytes.now (8 * (c.args.slot + 1)) g _ (are_bytes c.args.bytes.now (λ i. omega (arith, c.type_inv.bytes i))) c.slot_at-second.ensures in
    let begins = wide_begins f g fit fit2 (is_clean f (c.fault_of.ensures ∙ c.in_default.is)) (is_wide_at f c.if-first-ne-WIDE.false) (sym c.is_bad_half.ensures ∙ c.if-is_bad_half.false) in
    subst HasEncoding (sym c.wide_form.ensures) begins.encoded

pub returns-clause-found : goal.returns-clause-found
returns-clause-found c =
    let f = c.slot_at-first.result in
    let g = c.slot_at-second.result in
    let rest = slots_in (drop (8 * (c.args.slot + 1) + 8) c.args.bytes.now) in
    let read = ap front (two_slots c.args.bytes.now c.args.slot f g rest c.slot_at-first.ensures c.slot_at-second.ensures)
    ∙ front_wide f g rest (c.fault_of.ensures ∙ c.in_default.is) (is_wide_at f c.if-first-ne-WIDE.false) (sym c.is_bad_half.ensures ∙ c.if-is_bad_half.false) in
    read ∙ ap Ok (sym c.wide_form.ensures ∙ sym c.of-2.ensures)
