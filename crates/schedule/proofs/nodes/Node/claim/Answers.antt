use Rattle.std.proofs.Common.{◌≡◌, Some, rules}
use Rattle.combiner.specs.Desks.{claim_refusal}
use Rattle.node.specs.declared.parts.NodeBatch.TheVariants.{Absent}
use Rattle.schedule.proofs.Owned.{claim_refused}
use Rattle.schedule.proofs.nodes.Node.claim.Goals as goal
use Rattle.schedule.proofs.nodes.Node.claim.Goals.{in-Absent, in_default}

pub returns-in-Err : goal.returns-in-Err
returns-in-Err c = record {
  claimed = λ g. elim c.match-matches.branch [
    | in-Absent w ↦
        let idle : c.args.self.now.batch ≡ Absent = search rules in
        let refusal : claim_refusal c.args.self.now.desk ≡ Some c.in-Err.field-0 = search rules in
        claim_refused c.requires.own.2 idle c.in-Err.field-0 refusal g _ (search rules)
    | in_default w ↦ absurd cc
  ];
}
