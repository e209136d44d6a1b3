use Rattle.std.proofs.lemmas.Result.{on_ok_weaker}
use Rattle.findings.proofs.Lines.{comment_line, numbered}
use Rattle.findings.proofs.search.Search.take_next.Goals as goal

pub returns-in-Some-Program : goal.returns-in-Some-Program
returns-in-Some-Program c =
    let same = rw c.in-Some-Program.field-0-is at c.in-Some-Program.ensures.meaning in
    on_ok_weaker c.take_program.result (λ t. numbered c.args.number c.args.line.now _ _ c.args.self.now _ _ _ same t) (c.take_program.ensures c.args.line.now)

pub returns-in-Some-Map : goal.returns-in-Some-Map
returns-in-Some-Map c =
    let same = rw c.in-Some-Map.field-0-is at c.in-Some-Map.ensures.meaning in
    on_ok_weaker c.take_map.result (λ t. numbered c.args.number c.args.line.now _ _ c.args.self.now _ _ _ same t) (c.take_map.ensures c.args.line.now)

pub returns-in-Some-Comment : goal.returns-in-Some-Comment
returns-in-Some-Comment c =
    let same = rw c.in-Some-Comment.field-0-is at c.in-Some-Comment.ensures.meaning in
    numbered c.args.number c.args.line.now _ _ c.args.self.now _ _ _ same (comment_line (record c.args.self.now { line = c.args.number }) c.args.line.now _ c.requires)

pub returns-in-None : goal.returns-in-None
returns-in-None c = on_ok_weaker c.take_bad_line.result (λ t. numbered c.args.number c.args.line.now _ _ c.args.self.now _ _ _ c.in-None.ensures.meaning t) c.take_bad_line.ensures
