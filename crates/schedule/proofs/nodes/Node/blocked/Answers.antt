use Rattle.std.proofs.Common.{◌≡◌, length, refl, sym, subst, rules, slice_get}
use Rattle.schedule.specs.Steps.{part_of, read_answer}
use Rattle.schedule.specs.Blocking.{IsTakenUnless, read_block}
use Rattle.schedule.proofs.Unless.{read_unless}
use Rattle.schedule.proofs.nodes.Node.blocked.Goals as goal

pub returns-in-ReadAnswer-clause-taken : goal.returns-in-ReadAnswer-clause-taken
returns-in-ReadAnswer-clause-taken c =
    let node = c.args.self.now in
    let why : c.read_block.result ≡ read_block (length node.reads) node.replica.tail c.args.log.now.done (slice_get node.reads c.in-ReadAnswer.slot) = search rules in
    subst (λ step. IsTakenUnless c.read_block.result (part_of c.args.opening.now step c.args.log.now node)) (sym c.in-ReadAnswer.is)
    (subst (λ b. IsTakenUnless b (read_answer c.args.opening.now c.in-ReadAnswer.slot c.args.log.now node)) (sym why) (read_unless c.requires.own c.in-ReadAnswer.slot _ refl))
