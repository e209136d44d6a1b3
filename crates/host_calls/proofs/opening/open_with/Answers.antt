use Rattle.std.proofs.Common.{◌∙◌}
use Rattle.oplog.specs.declared.configuration.OpenError.TheVariants.{NoMemory}
use Rattle.host_calls.specs.declared.opening.NotOpened.TheVariants.{Opening}
use Rattle.host_calls.specs.Openings.{state_in}
use Rattle.host_calls.proofs.Opened.{is_closed}
use Rattle.host_calls.proofs.opening.open_with.Goals as goal

pub returns-in_default : goal.returns-in_default
returns-in_default c =
    let new = c.new-in_default in
    record { opened = is_closed c.args.opening.now (state_in c.args.state) new.result (Opening NoMemory) new.ensures.own new.ensures.asked tt (new.ensures.answered ∙ c.answer_for-in_default.ensures.words) }
