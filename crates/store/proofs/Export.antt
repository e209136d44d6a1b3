-- The lemmas that other crates may cite.
pub use Rattle.store.proofs.Ascending.{at_read}
pub use Rattle.store.proofs.AskedEach.{at_taken, lent_back}
pub use Rattle.store.proofs.Between.{goes_then}
pub use Rattle.store.proofs.EachSession.{all_of_at, at_of_all, is_read, stands}
pub use Rattle.store.proofs.Gone.{gone_self, gone_then}
pub use Rattle.store.proofs.Joined.{last_place}
pub use Rattle.store.proofs.Linear.{Notes, adds_noted, adds_still, adds_then, answered_notes, posts_notes, reads_notes}
pub use Rattle.store.proofs.Linear.{quiet, still, waits_notes}
