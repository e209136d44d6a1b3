use Rattle.std.proofs.Common.{◌∙◌, ap, sym}
use Rattle.combiner.specs.Desks.{BatchView, only}
use Rattle.store_steps.proofs.AtOnce.{posted_waits}
use Rattle.store_steps.proofs.desks.claim_only.Goals as goal

pub returns-clause-turn : goal.returns-clause-turn
returns-clause-turn c =
    let i = c.requires.only in
    let seq = c.claim_only-seq.result in
    let now : BatchView = only (record { author = c.author-author.result; op = c.args.op.now; seq = seq }) in
    let same =
    ap (λ a. (let b : BatchView = only (record { author = a; op = c.args.op.now; seq = seq }) in b))
    c.author-author.ensures.author in
    let e = c.claim_only-seq.ensures in (
      posted_waits c.args.slot c.args.op.now i.0 c.args.desk.now i.2,
      e.free.0,
      e.free.1,
      e.claimed,
      same
          ∙ sym (e.batch c.args.op.now i),
    )
