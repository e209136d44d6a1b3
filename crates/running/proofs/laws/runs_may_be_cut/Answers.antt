use Rattle.running.proofs.CutRuns.{lines_cut, scripts_cut}
use Rattle.running.proofs.laws.runs_may_be_cut.Goals as goal

pub returns : goal.returns
returns c = record { lines = lines_cut; scripts = scripts_cut }
