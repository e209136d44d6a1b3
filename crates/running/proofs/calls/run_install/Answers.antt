use Rattle.std.proofs.Common.{rules, ◌≡◌, None, sym, ap, ◌∙◌, subst}
use Rattle.std.specs.Prelude.{OnOk}
use Rattle.std.specs.Option.{option_map_or}
use Rattle.oplog.specs.Calls.{NewProgram}
use Rattle.oplog.specs.Operations.{Operation}
use Rattle.oplog.specs.declared.records.Op.TheVariants.{Install}
use Rattle.oplog.specs.Logs.{Log, tail_of}
use Rattle.replica.specs.Refusals.{install_refusal}
use Rattle.node.specs.declared.following.NodeReplica.{NodeReplica}
use Rattle.running.specs.RunAnswer.{refused, submitted}
use Rattle.running.specs.Running.{Follows, IsTaken, IsUpdated}
use Rattle.scripts.specs.ScriptShown.{program_of}
use Rattle.running.proofs.Turns.{install_told, install_turn}
use Rattle.running.proofs.calls.run_install.Goals as goal

pub returns-in-Some-clause-taken : goal.returns-in-Some-clause-taken
returns-in-Some-clause-taken c = λ limit h follows.
    let catalogue = c.args.catalogue.now in
    let node = c.check.new.self in
    let log = ap (λ (g : Log). tail_of g) c.check.ensures.log in
    let here : Follows limit catalogue h node = record { limit_is = ap (λ (g : Log). g.limit) c.check.ensures.log ∙ follows.limit_is; count = log ∙ follows.count; state = ap (λ (n : NodeReplica). n.replica.state) c.check.ensures.own ∙ follows.state } in
    let none : install_refusal catalogue.shapes catalogue.long (program_of c.args.text.now) ≡ None = search rules in
    let program : NewProgram = program_of c.args.text.now in
    let updated = subst (λ (o : Operation). IsUpdated catalogue o node c.submit.new.self c.in-Some.outcome) c.in-Ok.ensures.program.0 c.in-Some.ensures.updated in
    let said =
    install_turn limit catalogue h node here (Install program) c.put_install.result c.tail-index.result c.submit.new.self c.in-Some.outcome
    c.args.out.now.items c.put_install.new.out.items (c.tail-index.ensures ∙ sym log) updated c.put_install.ensures in
    subst (λ o. OnOk c.put_install.result (IsTaken limit catalogue (option_map_or (refused h) o (submitted limit install_told catalogue h (Install (program_of c.args.text.now)))) c.submit.new.self c.args.out.now.items c.put_install.new.out.items))
    (sym none) said
