use Rattle.loader.proofs.Named.{names_are_files, no_other_file}
use Rattle.loader.proofs.laws.names_are_files.Goals as goal

pub returns : goal.returns
returns c = record { files = names_are_files; no_other = no_other_file }
