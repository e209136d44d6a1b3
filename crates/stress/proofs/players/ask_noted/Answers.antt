use Rattle.stress.proofs.OneHistory.{noted_too}
use Rattle.stress.proofs.players.ask_noted.Goals as goal

pub returns-clause-told : goal.returns-clause-told
returns-clause-told g c = noted_too c.args.session.now c.ask-told.new.session c.ask-told.result _ c.ask-told.ensures.told
