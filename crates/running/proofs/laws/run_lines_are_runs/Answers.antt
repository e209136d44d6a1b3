use Rattle.running.proofs.RunsOfLines.{line_turns_are_runs, run_lines_are_runs, loaded_is_catalogue, opened_is_catalogue}
use Rattle.running.proofs.laws.run_lines_are_runs.Goals as goal

pub returns : goal.returns
returns c = record { turns = line_turns_are_runs; runs = run_lines_are_runs; loaded = loaded_is_catalogue; opened = opened_is_catalogue }
