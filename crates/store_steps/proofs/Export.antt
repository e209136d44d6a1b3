-- The lemmas that other crates may cite.
pub use Rattle.store_steps.proofs.AskingEach.{was_at}
pub use Rattle.store_steps.proofs.Begun.{deeds_on, go_deeds}
pub use Rattle.store_steps.proofs.Gone.{asks, on_known}
pub use Rattle.store_steps.proofs.Handing.{not_looked}
pub use Rattle.store_steps.proofs.Holds.{goes_as, posts_as, updates_as}
pub use Rattle.store_steps.proofs.Places.{at_drop}
pub use Rattle.store_steps.proofs.Resumed.{free_by}
pub use Rattle.store_steps.proofs.StoreLaws.{session_laws, store_laws}
pub use Rattle.store_steps.proofs.Taken.{well_formed}
pub use Rattle.store_steps.proofs.Views.{both, goes_seen, seen_as, view_known}
