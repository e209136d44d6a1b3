use Rattle.console.proofs.Uncolumned.{slots_are_columns}
use Rattle.console.proofs.laws.slots_are_columns.Goals as goal

pub returns : goal.returns
returns c = slots_are_columns
