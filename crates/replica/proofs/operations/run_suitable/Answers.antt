use Rattle.std.proofs.Common.{rules, ◌≡◌, true, ap, ◌∙◌, option_map}
use Rattle.maps.specs.MapSets.{maps_of}
use Rattle.verifier.specs.Accepted.{checked_in}
use Rattle.replica.specs.StoreMeaning.{suits, run_in}
use Rattle.replica.proofs.Outcomes.{ran}
use Rattle.replica.proofs.operations.run_suitable.Goals as goal

pub returns-then-does_suit-clause-run : goal.returns-then-does_suit-clause-run
returns-then-does_suit-clause-run c =
    let suitable : suits c.args.mode c.args.argument.now (checked_in c.in-Some.accepted.now) ≡ true = search rules in
    ap (λ o. run_in c.args.mode c.args.argument.now (maps_of c.args.maps.now) (option_map (λ p. checked_in p.now) o)) c.in-Some.is
    ∙ ran c.args.mode c.args.argument.now (maps_of c.args.maps.now) (maps_of c.run_in.new.maps) (checked_in c.in-Some.accepted.now) c.run_in.result.steps c.run_in.result.reply
    suitable c.run_in.ensures.runs c.run_in.ensures.few
