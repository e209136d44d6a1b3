use Rattle.std.proofs.Common.{◌≡◌, length, sym, subst, arith}
use Rattle.insn.specs.declared.instruction.Edge.TheVariants.{Fall}
use Rattle.regkind.specs.Frames.{IsFrame}
use Rattle.verifier.specs.Pass.{FlowsInto}
use Rattle.verifier.proofs.Monotone.{after_frame}
use Rattle.verifier.proofs.Steps.{goes, goes_not}
use Rattle.verifier.proofs.visiting.fall_through.Goals as goal

pub flow-requires-clause-inside : goal.flow-requires-clause-inside
flow-requires-clause-inside c = omega (arith, ((c.forward.ensures c.in-Some.to).0 c.in-Some.is).2, c.len.ensures)

pub flow-requires-clause-frame : goal.flow-requires-clause-frame
flow-requires-clause-frame c = subst IsFrame (sym c.advance.ensures) (after_frame c.args.i c.args.f.now Fall c.requires.frame)

pub returns-in-Some-clause-follows : goal.returns-in-Some-clause-follows
returns-in-Some-clause-follows c =
    let long : c.len.result ≡ length c.args.frames.now.items = omega (arith, c.len.ensures, c.args.frames.now.ok.0) in
    goes c.args.i c.args.slot Fall _ c.args.frames.now.items c.flow.new.frames.items c.len.result c.forward.result c.in-Some.to long c.forward.ensures c.in-Some.is
    (subst (λ g. FlowsInto c.args.frames.now.items c.flow.new.frames.items c.in-Some.to g) c.advance.ensures c.flow.ensures.flows)

pub returns-in_default-clause-follows : goal.returns-in_default-clause-follows
returns-in_default-clause-follows c =
    let long : c.len.result ≡ length c.args.frames.now.items = omega (arith, c.len.ensures, c.args.frames.now.ok.0) in
    goes_not c.args.i c.args.slot Fall _ c.args.frames.now.items c.len.result c.forward.result long c.forward.ensures c.in_default.is
