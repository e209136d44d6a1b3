use Rattle.std.proofs.Common.{◌≡◌, ℕ, ◌+◌, ◌++◌, ◌≤◌, List, length, take, drop, ap, ◌∙◌, subst, arith}
use Rattle.oplog.proofs.Laying.{keeps_apart}
use Rattle.oplog.proofs.long.LongOp.at.Goals as goal

pub returns-clause-apart : goal.returns-clause-apart
returns-clause-apart c =
    let old : List ℕ = c.args.beside.now.items in
    let text : List ℕ = c.args.text.now in
    let begin : ℕ = c.args.begin in
    let rest : List ℕ = c.reach.ensures.more.0 in
    let grown : c.reach.new.beside.items ≡ old ++ rest = c.reach.ensures.more.1 in
    let fits : begin + length text ≤ length (old ++ rest) = subst (λ xs. begin + length text ≤ length xs) grown (let end = c.reach.ensures.end in omega (arith, end)) in
    let is : c.write_at.new.beside.items ≡ take begin (old ++ rest) ++ (text ++ drop (begin + length text) (old ++ rest)) =
    c.write_at.ensures.written ∙ ap (λ xs. take begin xs ++ (text ++ drop (begin + length text) xs)) grown in
    keeps_apart old rest text c.write_at.new.beside.items begin fits c.requires.fits is
