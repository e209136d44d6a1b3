use Rattle.std.proofs.Common.{◌≡◌, rules, arith}
use Rattle.std.proofs.lemmas.Grind.{common_steps}
use Rattle.verifier.specs.Regions.{is_within}
use Rattle.verifier.proofs.arithmetic.broken_by_move.Goals as goal

pub returns-else-not-is_within : goal.returns-else-not-is_within
returns-else-not-is_within c =
    let within : c.is_within.result ≡ is_within c.args.on.now.signature.now c.kind-kind.result c.args.by 0 = search rules in
    grind (arith, common_steps)
