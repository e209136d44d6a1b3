-- The lemmas that other crates may cite.
pub use Rattle.replica.proofs.Afters.{after_suc}
pub use Rattle.replica.proofs.Fitting.{operation_fits, updates_fit}
pub use Rattle.replica.proofs.Asked.{is_asked, may_install}
pub use Rattle.replica.proofs.Histories.{have_effects, of_each, takes_effect}
pub use Rattle.replica.proofs.Kept.{at_with, count_with, get-set_other, get-set_same, off_with}
pub use Rattle.replica.proofs.Tested.{are_tested, offered_below, suits_so, tests_offered}
