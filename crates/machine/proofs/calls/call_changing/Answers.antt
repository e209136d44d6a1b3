use Rattle.std.proofs.Common.{pos, sym, subst}
use Rattle.insn.specs.declared.instruction.Form.TheVariants as form
use Rattle.helpers.specs.Numbers.{helper_number}
use Rattle.machine.specs.Executing.{Executes}
use Rattle.machine.proofs.calls.call_changing.Goals as goal

pub returns-in-Update : goal.returns-in-Update
returns-in-Update c =
    record {
      executes = subst (λ h. Executes (form.Call (pos (helper_number h))) c.args.next.now c.args.machine.now c.args.maps.now c.args.argument.now c.call_update.new.machine c.call_update.new.maps c.call_update.result) (sym c.in-Update.is)
          c.call_update.ensures.executes;
    }

pub returns-in-Delete : goal.returns-in-Delete
returns-in-Delete c =
    record {
      executes = subst (λ h. Executes (form.Call (pos (helper_number h))) c.args.next.now c.args.machine.now c.args.maps.now c.args.argument.now c.call_delete.new.machine c.call_delete.new.maps c.call_delete.result) (sym c.in-Delete.is)
          c.call_delete.ensures.executes;
    }
