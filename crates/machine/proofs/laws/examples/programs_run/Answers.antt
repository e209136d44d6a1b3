use Rattle.std.proofs.Common.{refl}
use Rattle.machine.proofs.Evaluation.{runs_by, never_runs}
use Rattle.machine.proofs.laws.examples.programs_run.Goals as goal

-- every program computes
pub returns : goal.returns
returns c = record {
  arithmetic_runs = (runs_by _ _ 1 _ refl, (runs_by _ _ 3 _ refl, (runs_by _ _ 3 _ refl, (runs_by _ _ 3 _ refl, (runs_by _ _ 2 _ refl, (runs_by _ _ 2 _ refl, (runs_by _ _ 2 _ refl, (runs_by _ _ 1 _ refl, (runs_by _ _ 2 _ refl, (runs_by _ _ 1 _ refl, (runs_by _ _ 1 _ refl, (runs_by _ _ 2 _ refl, (runs_by _ _ 2 _ refl, (runs_by _ _ 2 _ refl, (runs_by _ _ 2 _ refl, (runs_by _ _ 2 _ refl, (runs_by _ _ 2 _ refl, (runs_by _ _ 2 _ refl, (runs_by _ _ 2 _ refl, (runs_by _ _ 2 _ refl, tt))))))))))))))))))));
  memory_runs = (runs_by _ _ 1 _ refl, (runs_by _ _ 1 _ refl, (runs_by _ _ 1 _ refl, (runs_by _ _ 1 _ refl, (runs_by _ _ 1 _ refl, (runs_by _ _ 1 _ refl, (runs_by _ _ 1 _ refl, (runs_by _ _ 2 _ refl, (runs_by _ _ 3 _ refl, (runs_by _ _ 2 _ refl, (runs_by _ _ 2 _ refl, (runs_by _ _ 2 _ refl, (runs_by _ _ 2 _ refl, (runs_by _ _ 3 _ refl, (runs_by _ _ 3 _ refl, (runs_by _ _ 3 _ refl, (runs_by _ _ 3 _ refl, (runs_by _ _ 4 _ refl, tt))))))))))))))))));
  control_runs = (runs_by _ _ 2 _ refl, (runs_by _ _ 2 _ refl, (runs_by _ _ 2 _ refl, (runs_by _ _ 2 _ refl, (runs_by _ _ 3 _ refl, (runs_by _ _ 3 _ refl, (runs_by _ _ 2 _ refl, (runs_by _ _ 3 _ refl, (runs_by _ _ 2 _ refl, (runs_by _ _ 3 _ refl, (runs_by _ _ 7 _ refl, tt)))))))))));
  spills_run = (runs_by _ _ 3 _ refl, (runs_by _ _ 4 _ refl, (runs_by _ _ 5 _ refl, (runs_by _ _ 5 _ refl, (runs_by _ _ 3 _ refl, (runs_by _ _ 3 _ refl, tt))))));
  stuck_do_not = (never_runs _ _ 0 refl, (never_runs _ _ 1 refl, (never_runs _ _ 0 refl, (never_runs _ _ 0 refl, (never_runs _ _ 0 refl, (never_runs _ _ 0 refl, (never_runs _ _ 0 refl, (never_runs _ _ 0 refl, (never_runs _ _ 0 refl, (never_runs _ _ 0 refl, (never_runs _ _ 0 refl, (never_runs _ _ 0 refl, (never_runs _ _ 0 refl, (never_runs _ _ 0 refl, (never_runs _ _ 0 refl, (never_runs _ _ 0 refl, (never_runs _ _ 0 refl, tt)))))))))))))))));
  stuck_spills_do_not = (never_runs _ _ 0 refl, (never_runs _ _ 0 refl, (never_runs _ _ 0 refl, (never_runs _ _ 0 refl, (never_runs _ _ 1 refl, (never_runs _ _ 2 refl, (never_runs _ _ 2 refl, (never_runs _ _ 2 refl, (never_runs _ _ 2 refl, (never_runs _ _ 2 refl, tt))))))))));
}
