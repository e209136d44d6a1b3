use Rattle.std.proofs.Common.{◌∙◌}
use Rattle.maps.proofs.Stored.{array_len, hash_len}
use Rattle.maps.proofs.table.Table.len.Goals as goal

pub returns-in-None : goal.returns-in-None
returns-in-None c = record { keys = c.entry_count.ensures.entries ∙ array_len c.args.self.now c.requires.shape c.in-None.is }

pub returns-in-Some : goal.returns-in-Some
returns-in-Some c = record { keys = c.len.ensures.keys ∙ hash_len c.args.self.now c.in-Some.index c.requires.shape c.in-Some.is }
