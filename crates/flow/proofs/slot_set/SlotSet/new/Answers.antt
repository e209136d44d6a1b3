use Rattle.flow.proofs.Marks.{no_bit}
use Rattle.flow.proofs.slot_set.SlotSet.new.Goals as goal

pub returns : goal.returns
returns c = no_bit
