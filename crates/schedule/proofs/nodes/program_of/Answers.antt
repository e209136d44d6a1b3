use Rattle.std.proofs.Common.{rules, ◌≡◌, true, None, sym, ap₂, ◌∙◌, subst}
use Rattle.oplog.specs.Calls.{NewProgram}
use Rattle.verifier.specs.declared.refusal.Mode.TheVariants.{Update}
use Rattle.replica.specs.StoreMeaning.{is_operation}
use Rattle.replica.specs.Refusals.{install_refusal}
use Rattle.replica.proofs.Export.{may_install}
use Rattle.schedule.proofs.nodes.program_of.Goals as goal

pub returns-clause-program : goal.returns-clause-program
returns-clause-program c =
    let is = c.install.ensures.program in
    let asked : NewProgram = record { mode = c.args.mode; arg_len = c.args.arg_len; bytes = c.args.bytes.now } in
    let none : install_refusal c.args.room.now.shapes c.args.room.now.long asked ≡ None = search rules in
    let none_here : install_refusal c.args.catalogue.now.shapes c.args.catalogue.now.long asked ≡ None = ap₂ (λ s n. install_refusal s n asked) (sym c.requires.room.0) (sym c.requires.room.1) ∙ none in
    (is, subst (λ op. is_operation Update c.args.catalogue.now op ≡ true) (sym is) (may_install c.args.catalogue.now asked none_here c.install.ensures.bytes))
