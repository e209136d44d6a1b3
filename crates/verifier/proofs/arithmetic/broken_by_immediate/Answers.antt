use Rattle.std.proofs.Common.{◌≡◌, true, false, None, ◌∙◌, rules}
use Rattle.insn.specs.declared.instruction.Source.TheVariants.{Imm}
use Rattle.verifier.specs.Operands.{is_mov}
use Rattle.insn.specs.Moves.{distance}
use Rattle.verifier.proofs.Immediates.{by_making, by_computing}
use Rattle.verifier.proofs.arithmetic.broken_by_immediate.Goals as goal

pub returns-in-None : goal.returns-in-None
returns-in-None c =
    let l = c.args.on.now.signature.now in
    let mov : is_mov c.args.op ≡ true = search rules in
    c.frame_pointer_written.ensures l c.args.on.now.frame.now 0 ∙ by_making l c.args.w64 c.args.op c.args.dst 0 c.args.imm c.args.on.now.frame.now mov

pub returns-in-None-2 : goal.returns-in-None-2
returns-in-None-2 c =
    let l = c.args.on.now.signature.now in
    let other : is_mov c.args.op ≡ false = search rules in
    let still : None ≡ distance c.args.w64 c.args.op (Imm c.args.imm) = search rules in
    c.broken_by_unary.ensures l true 0 ∙ by_computing l c.args.w64 true c.args.op c.args.dst 0 c.args.imm c.args.on.now.frame.now other still
