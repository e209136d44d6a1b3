use Rattle.std.proofs.Common.{rules, ◌≡◌, true, None, sym, ap₂, ◌∙◌, subst}
use Rattle.maps.specs.Maps.{AreBytes}
use Rattle.oplog.specs.Calls.{NewProgram}
use Rattle.oplog.specs.Operations.{Operation}
use Rattle.oplog.specs.declared.records.Op.TheVariants.{Install}
use Rattle.verifier.specs.declared.refusal.Mode.TheVariants.{Update}
use Rattle.replica.specs.StoreMeaning.{is_operation}
use Rattle.replica.specs.Refusals.{install_refusal}
use Rattle.replica.proofs.Export.{may_install}
use Rattle.scripts.specs.ScriptShown.{program_of}
use Rattle.running.proofs.single_node.SingleNode.check.Goals as goal

pub returns-clause-program : goal.returns-clause-program
returns-clause-program c =
    let asked : NewProgram = program_of c.args.text.now in
    let is : c.install.result ≡ Install asked = search rules in
    let none : install_refusal c.args.self.now.room.shapes c.args.self.now.room.long asked ≡ None = search rules in
    let none_here : install_refusal c.args.catalogue.now.shapes c.args.catalogue.now.long asked ≡ None = ap₂ (λ s n. install_refusal s n asked) (sym c.requires.steady.room.0) (sym c.requires.steady.room.1) ∙ none in
    let bytes : AreBytes asked.bytes = search rules in
    (is, subst (λ (op : Operation). is_operation Update c.args.catalogue.now op ≡ true) (sym is) (may_install c.args.catalogue.now asked none_here bytes))
