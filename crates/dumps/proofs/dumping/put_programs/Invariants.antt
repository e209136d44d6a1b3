use Rattle.std.proofs.Common.{◌≡◌, ◌++◌, drop, flat_map}
use Rattle.dumps.specs.Written.{program_line_text}
use Rattle.dumps.proofs.dumping.put_programs.Given as goal

abbrev pub invariant-loop-k : goal.invariant-loop-k
invariant-loop-k l = l.out.items ++ flat_map program_line_text (drop l.k l.programs.programs) ≡ l.initial.out.items ++ flat_map program_line_text l.programs.programs
