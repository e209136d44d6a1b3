use Rattle.std.proofs.Common.{◌≡◌, true, ◌∙◌, subst, sym}
use Rattle.std.specs.Prelude.{◌↔◌}
use Rattle.insn.specs.declared.instruction.Form.{Form}
use Rattle.std.proofs.Common.{List}
use Rattle.verifier.specs.Accepted.{checked_in}
use Rattle.named_maps.specs.Naming.{IsIn, names}
use Rattle.named_maps.proofs.Named.{names_are}
use Rattle.named_maps.proofs.naming.named_maps.Goals as goal

pub returns : goal.returns
returns c = record {
  named = λ m.
      let named : IsIn c.named_in.result m ↔ (names m c.args.program.now.program ≡ true) = subst (λ (p : List Form). IsIn c.named_in.result m ↔ (names m p ≡ true)) c.program.ensures.program (c.named_in.ensures.named m) in
      let are = names_are (checked_in c.args.program.now) c.program.ensures.accepted m in
      (λ h. are.0 (named.0 h), λ h. named.1 (are.1 h));
}
