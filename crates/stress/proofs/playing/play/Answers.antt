use Rattle.stress.proofs.EachTeam.{on_one_node}
use Rattle.stress.proofs.playing.play.Goals as goal

pub ask_all-hand-requires-clause-node : goal.ask_all-hand-requires-clause-node
ask_all-hand-requires-clause-node g c = on_one_node c.args.ground.now.store.now.config c.args.ground.now.together c.args.number c.requires.whole
