use Rattle.std.proofs.Common.{arith}
use Rattle.flow.proofs.Marks.{bit_set}
use Rattle.flow.proofs.slot_set.SlotSet.insert.Goals as goal

pub returns : goal.returns
returns c = bit_set c.args.self.now.words c.args.slot (omega arith) c.requires
