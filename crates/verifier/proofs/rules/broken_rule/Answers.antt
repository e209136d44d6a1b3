use Rattle.std.proofs.Common.{◌≡◌, ℤ, sym, subst, true, of_z, to_z, w32}
use Rattle.std.specs.Int.{w16}
use Rattle.std.proofs.lemmas.Int.{to_z-of_z}
use Rattle.insn.specs.declared.instruction.Form.{Form}
use Rattle.insn.specs.declared.instruction.Form.TheVariants.{Load, MapRef}
use Rattle.insn.specs.Encoding.{HasEncoding}
use Rattle.verifier.specs.Rules.{first_broken}
use Rattle.verifier.proofs.rules.broken_rule.Goals as goal

pub returns-in-MovSx : goal.returns-in-MovSx
returns-in-MovSx c =
    let l = c.args.on.now.signature.now in
    subst (λ (i : Form). c.broken_by_unary-in-MovSx.result ≡ first_broken l i c.args.on.now.frame.now) (sym c.in-MovSx.is) (c.broken_by_unary-in-MovSx.ensures l c.in-MovSx.w64 c.in-MovSx.bits)

pub returns-in-Imm64 : goal.returns-in-Imm64
returns-in-Imm64 c =
    let l = c.args.on.now.signature.now in
    subst (λ (i : Form). c.frame_pointer_written.result ≡ first_broken l i c.args.on.now.frame.now) (sym c.in-Imm64.is) (c.frame_pointer_written.ensures l c.args.on.now.frame.now c.in-Imm64.value)

pub returns-in-MapRef : goal.returns-in-MapRef
returns-in-MapRef c =
    let l = c.args.on.now.signature.now in
    let encoded : HasEncoding (MapRef c.in-MapRef.dst c.in-MapRef.index) = subst HasEncoding c.in-MapRef.is c.requires.instruction in
    let read : to_z w32 (of_z w32 c.in-MapRef.index) ≡ c.in-MapRef.index = to_z-of_z w32 c.in-MapRef.index encoded.1 in
    let found = subst (λ (z : ℤ). c.broken_by_map.result ≡ first_broken l (MapRef c.in-MapRef.dst z) c.args.on.now.frame.now) read (c.broken_by_map.ensures c.args.on.now.frame.now) in
    subst (λ (i : Form). c.broken_by_map.result ≡ first_broken l i c.args.on.now.frame.now) (sym c.in-MapRef.is) found

pub returns-in-Branch : goal.returns-in-Branch
returns-in-Branch c =
    let l = c.args.on.now.signature.now in
    subst (λ (i : Form). c.broken_by_branch.result ≡ first_broken l i c.args.on.now.frame.now) (sym c.in-Branch.is) (c.broken_by_branch.ensures l c.in-Branch.off)

pub returns-in-Exit : goal.returns-in-Exit
returns-in-Exit c =
    let l = c.args.on.now.signature.now in
    subst (λ (i : Form). c.broken_by_exit.result ≡ first_broken l i c.args.on.now.frame.now) (sym c.in-Exit.is) (c.broken_by_exit.ensures l)

pub returns-in-Neg : goal.returns-in-Neg
returns-in-Neg c =
    let l = c.args.on.now.signature.now in
    subst (λ (i : Form). c.broken_by_unary.result ≡ first_broken l i c.args.on.now.frame.now) (sym c.in-Neg.is) (c.broken_by_unary.ensures l true 0)

pub returns-in-Swap : goal.returns-in-Swap
returns-in-Swap c =
    let l = c.args.on.now.signature.now in
    subst (λ (i : Form). c.broken_by_unary-in-Swap.result ≡ first_broken l i c.args.on.now.frame.now) (sym c.in-Swap.is) (c.broken_by_unary-in-Swap.ensures l true 0)

pub returns-in-Load : goal.returns-in-Load
returns-in-Load c =
    let l = c.args.on.now.signature.now in
    let i = Load c.in-Load.size c.in-Load.signed c.in-Load.dst c.in-Load.src c.in-Load.off in
    let encoded : HasEncoding i = subst HasEncoding c.in-Load.is c.requires.instruction in
    let read : to_z w16 (of_z w16 c.in-Load.off) ≡ c.in-Load.off = to_z-of_z w16 c.in-Load.off encoded.2 in
    let found = subst (λ (z : ℤ). c.broken_by_load.result ≡ first_broken l (Load c.in-Load.size c.in-Load.signed c.in-Load.dst c.in-Load.src z) c.args.on.now.frame.now) read (c.broken_by_load.ensures c.in-Load.signed) in
    subst (λ (j : Form). c.broken_by_load.result ≡ first_broken l j c.args.on.now.frame.now) (sym c.in-Load.is) found
