use Rattle.std.proofs.Common.{◌+◌, ◌<◌, arith, cond, Some, None, sym, ap}
use Rattle.std.specs.Prelude.{nat_lt}
use Rattle.std.proofs.lemmas.Bool.{and_right, lt-leb}
use Rattle.insn.specs.Layout.{size}
use Rattle.flow.proofs.Positions.{size_next, size_within}
use Rattle.flow.proofs.deciding.good_size.Goals as goal

pub returns-then-slots-gt-MAX_SLOTS : goal.returns-then-slots-gt-MAX_SLOTS
returns-then-slots-gt-MAX_SLOTS c =
    let p = c.args.program.now in
    let k = c.loop-insn.insn-index in
    let n = size_next p k c.insn-item.result c.loop-insn-test.true c.insn-item.is in
    let bad : 4096 < size p = omega (arith, n, size_within p (k + 1)) in
    sym (ap (λ b. cond b (Some (size p)) None) (and_right (nat_lt 0 (size p)) _ (lt-leb (size p) 4096 bad)))
