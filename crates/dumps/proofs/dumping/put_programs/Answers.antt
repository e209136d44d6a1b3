use Rattle.std.proofs.Common.{◌<◌, ◌+◌, ◌++◌, length, refl, arith, flat_map}
use Rattle.dumps.specs.Written.{program_line_text}
use Rattle.dumps.proofs.Writing.{program_more}
use Rattle.dumps.proofs.dumping.put_programs.Goals as goal

pub loop-k-preserved : goal.loop-k-preserved
loop-k-preserved c =
    let some = c.loop-k-test.true in
    let many = c.len-k-end.ensures.count in
    let low : c.loop-k.k < length c.args.programs.now.programs = omega (arith, some, many) in
    program_more c.args.programs.now.programs c.loop-k.k (c.loop-k.k + 1) c.loop-k.out.items c.put_installed.new.out.items (c.args.out.now.items ++ flat_map program_line_text c.args.programs.now.programs) refl low c.in_ok-put_installed.ensures c.loop-k.invariant
