use Rattle.maps.proofs.Kept.{are_bytes}
use Rattle.maps.proofs.table.as_bytes.Goals as goal

pub returns-clause-are_bytes : goal.returns-clause-are_bytes
returns-clause-are_bytes c = are_bytes c.args.bytes.now c.type_inv.bytes
