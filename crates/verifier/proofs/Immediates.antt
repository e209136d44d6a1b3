-- The rules that arithmetic with an immediate may break: those of a move of a pointer, of a number that is made, or of one that is computed.
use Rattle.std.proofs.Common.{◌≡◌, ℕ, Bool, true, false, None, refl, sym}
use Rattle.std.specs.Prelude.{ℤ}
use Rattle.std.proofs.lemmas.Bool.{false≢true}
use Rattle.insn.specs.declared.instruction.Form.TheVariants.{Alu, MovSx, Imm64}
use Rattle.insn.specs.declared.instruction.Operation.{Operation}
use Rattle.insn.specs.declared.instruction.Operation.TheVariants.{Add, Sub, Mov}
use Rattle.insn.specs.declared.instruction.Source.TheVariants.{Imm}
use Rattle.regkind.specs.Frames.{Frame}
use Rattle.verifier.specs.Signature.{Signature}
use Rattle.verifier.specs.Operands.{is_mov}
use Rattle.insn.specs.Moves.{distance}
use Rattle.verifier.specs.Rules.{first_broken}

-- MOV breaks what any making of a number breaks
pub by_making : (l : Signature) (w64 : Bool) (op : Operation) (dst value : ℕ) (imm : ℤ) (f : Frame) → is_mov op ≡ true → first_broken l (Imm64 dst value) f ≡ first_broken l (Alu w64 op dst (Imm imm)) f
by_making l true Mov dst value imm f e = refl
by_making l false Mov dst value imm f e = refl
by_making l w64 op dst value imm f e = absurd (false≢true e)

-- what moves no pointer breaks what any computation from the one register breaks
pub by_computing : (l : Signature) (w64 long : Bool) (op : Operation) (dst bits : ℕ) (imm : ℤ) (f : Frame) → is_mov op ≡ false → None ≡ distance w64 op (Imm imm) → first_broken l (MovSx long bits dst dst) f ≡ first_broken l (Alu w64 op dst (Imm imm)) f
by_computing l true long Mov dst bits imm f e g = absurd (false≢true (sym e))
by_computing l false long Mov dst bits imm f e g = absurd (false≢true (sym e))
by_computing l true long Add dst bits imm f e g = cc
by_computing l true long Sub dst bits imm f e g = cc
by_computing l w64 long op dst bits imm f e g = refl
