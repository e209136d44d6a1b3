use Rattle.flow.proofs.Marks.{bit_read}
use Rattle.flow.proofs.slot_set.SlotSet.contains.Goals as goal

pub returns : goal.returns
returns c = bit_read c.args.self.now.words c.args.slot
