use Rattle.std.proofs.Common.{◌≡◌, arith}
use Rattle.std.specs.Prelude.{option_map}
use Rattle.explain.specs.Slots.{register_told, registers_told}
use Rattle.explain.proofs.Slots.{told_all, told_more}
use Rattle.explain.proofs.programs.slots.put_registers.Goals as goal

pub loop-register-preserved : goal.loop-register-preserved
loop-register-preserved c =
    let before = option_map (λ f. f.now) c.args.before in
    told_more (register_told before c.args.frame.now) c.loop-register.register _ _ _ c.loop-register.invariant c.in_ok-put_register.ensures

pub returns : goal.returns
unfolding registers_told
returns c =
    let before = option_map (λ f. f.now) c.args.before in
    let past = c.loop-register-test.false in
    let upto = c.loop-register.auto.register-end in
    let end : c.loop-register.register ≡ 11 = omega arith in
    told_all (register_told before c.args.frame.now) c.loop-register.register 11 _ _ end c.loop-register.invariant
