use Rattle.maps.proofs.Export.{are_bytes}
use Rattle.store.proofs.session.Session.invoke.Goals as goal

pub call-requires-clause-bytes : goal.call-requires-clause-bytes
call-requires-clause-bytes g c = are_bytes c.args.argument.now c.type_inv.argument
