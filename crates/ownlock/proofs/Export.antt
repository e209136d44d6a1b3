-- The lemmas that other crates may cite.
pub use Rattle.ownlock.proofs.Fronts.{at_below}
pub use Rattle.ownlock.proofs.Keeps.{at_one, at_only}
pub use Rattle.ownlock.proofs.Laws.{between}
pub use Rattle.ownlock.proofs.Run.{adds_on, continues_on, continues_self, own_else, own_here, since_stepped, stepped_by}
pub use Rattle.ownlock.proofs.Seats.{one_known}
