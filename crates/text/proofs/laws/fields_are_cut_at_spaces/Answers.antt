use Rattle.text.proofs.Cuts.{split_to}
use Rattle.text.proofs.laws.fields_are_cut_at_spaces.Goals as goal

pub returns : goal.returns
returns c = record { cut = split_to }
