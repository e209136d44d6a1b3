use Rattle.std.proofs.Common.{rules}
use Rattle.std.specs.Prelude.{option_map}
use Rattle.engine.specs.Reading.{texts_in, texts_read}
use Rattle.engine.specs.Report.{answer_of}
use Rattle.console.proofs.Graphs.{is_graph}
use Rattle.console.proofs.manifests.DrawCommand.make.Goals as goal

pub returns-clause-made : goal.returns-clause-made
returns-clause-made c =
    is_graph (option_map (λ n. n.now) c.args.self.now.name) (texts_in c.args.read) (texts_read c.in-Ok.texts) (answer_of c.in_ok-checked.checked) _ c.in_ok-drawn.drawn.items (search rules) (search rules) (search rules)
    c.in_ok-drawn.ensures
