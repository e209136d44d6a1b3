use Rattle.std.proofs.Common.{List, Option, None, ap}
use Rattle.std.proofs.lemmas.List.{take-replicate}
use Rattle.machine.specs.declared.running.Outcome.{Outcome}
use Rattle.replica.specs.Views.{RepliesView}
use Rattle.replica.proofs.replying.Replies.new.Goals as goal

pub returns : goal.returns
returns c = record {
  none = ap (λ (o : List (Option Outcome)). (let r : RepliesView = record { first = c.args.first; outcomes = o } in r)) (take-replicate c.args.count 16 None c.requires.few);
}
