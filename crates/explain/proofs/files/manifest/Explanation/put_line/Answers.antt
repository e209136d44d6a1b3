use Rattle.explain.proofs.Pieces.{on_ok}
use Rattle.explain.proofs.Manifests.{comment_line, numbered}
use Rattle.explain.proofs.files.manifest.Explanation.put_line.Goals as goal

pub returns-in-None : goal.returns-in-None
returns-in-None c = on_ok c.put_bad_line.result (λ t. numbered c.args.number c.args.line.now _ _ c.args.self.now _ _ _ c.in-None.ensures.meaning t) c.put_bad_line.ensures

pub returns-in-Some-Comment : goal.returns-in-Some-Comment
returns-in-Some-Comment c =
    let same = rw c.in-Some-Comment.field-0-is at c.in-Some-Comment.ensures.meaning in
    numbered c.args.number c.args.line.now _ _ c.args.self.now _ _ _ same (comment_line (record c.args.self.now { line = c.args.number }) c.args.line.now _ c.requires)

pub returns-in-Some-Map : goal.returns-in-Some-Map
returns-in-Some-Map c =
    let same = rw c.in-Some-Map.field-0-is at c.in-Some-Map.ensures.meaning in
    on_ok c.put_map.result (λ t. numbered c.args.number c.args.line.now _ _ c.args.self.now _ _ _ same t) (c.put_map.ensures c.args.line.now)

pub returns-in-Some-Program : goal.returns-in-Some-Program
returns-in-Some-Program c =
    let same = rw c.in-Some-Program.field-0-is at c.in-Some-Program.ensures.meaning in
    on_ok c.put_named.result (λ t. numbered c.args.number c.args.line.now _ _ c.args.self.now _ _ _ same t) (c.put_named.ensures c.args.line.now)
