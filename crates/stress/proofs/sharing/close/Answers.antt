use Rattle.store.specs.Sessions.{IsOf}
use Rattle.store.proofs.Export.{at_of_all}
use Rattle.stress.proofs.sharing.close.Goals as goal

pub close-requires : goal.close-requires
close-requires c = record { own = at_of_all (IsOf c.args.store) c.args.sessions.items c.requires.whole.1 }
