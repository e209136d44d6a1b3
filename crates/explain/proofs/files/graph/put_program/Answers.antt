use Rattle.explain.proofs.Pieces.{on_ok}
use Rattle.explain.proofs.Graphs.{cluster}
use Rattle.explain.proofs.files.graph.put_program.Goals as goal

pub returns : goal.returns
returns c = on_ok c.put_all.result (λ put. cluster c.args.name.now c.as_str.result.now _ _ put) c.put_all.ensures
