use Rattle.explain.proofs.Graphs.{whole}
use Rattle.explain.proofs.files.graph.graph_manifest.Goals as goal

pub returns : goal.returns
returns c = record { drawn = whole _ _ _ _ _ _ _ c.new-out.ensures.bytes c.in_ok-push_str.ensures.bytes c.in_ok-put_lines.ensures c.in_ok-push_str-2.ensures.bytes }
