use Rattle.std.proofs.Common.{subst, sym, ◌∙◌}
use Rattle.replica.specs.StoreMeaning.{AreUpdates}
use Rattle.replica.proofs.last_states.last_state.Goals as goal

pub perform_all-requires-clause-allowed : goal.perform_all-requires-clause-allowed
perform_all-requires-clause-allowed c = subst (AreUpdates c.args.catalogue.now) (sym (c.records.ensures.records ∙ c.into_base-state.ensures.records)) c.requires.allowed
