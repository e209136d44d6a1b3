use Rattle.explain.specs.Listing.{last_listed}
use Rattle.explain.proofs.Lines.{are_listed, is_listing, size_take}
use Rattle.explain.proofs.Pieces.{on_ok}
use Rattle.explain.proofs.programs.listing.put_lines.Goals as goal

pub put_instructions-requires-clause-first : goal.put_instructions-requires-clause-first
put_instructions-requires-clause-first c =
    let p = c.args.study.now.subject.program.now in
    rw c.split_at.ensures.front (size_take c.count_upto.result p)

pub returns-clause-listed : goal.returns-clause-listed
returns-clause-listed c =
    let study = c.args.study.now in
    let p = study.subject.program.now in
    let count = c.count_upto.result in
    on_ok c.put_left.result
    (λ put small.
    is_listing p study.known.kinds study.known.refused count _ _ _ _ ((rw c.split_at.ensures.front at c.in_ok-put_instructions.ensures) small) c.split_at.ensures.back_len put
    (are_listed p (last_listed study.known.kinds study.known.refused) count c.last_listed.result small c.last_listed.ensures (c.count_upto.ensures.upto small))) c.put_left.ensures
