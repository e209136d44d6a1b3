-- The lemmas that other crates may cite.
pub use Rattle.accounts.proofs.Batches.{batch_is, claims_ascend}
pub use Rattle.accounts.proofs.DeskNotes.{batch_noted, claim_noted, collect_noted, desk_notes, desk_picked, desk_picks, post_noted}
pub use Rattle.accounts.proofs.Desks.{answered_at, answered_long, collected_is, none_claimed, posted_is}
pub use Rattle.accounts.proofs.Ended.{answered, ends, stand}
pub use Rattle.accounts.proofs.Finish.{at_replicate, grown_long, opens}
pub use Rattle.accounts.proofs.Kept.{no_next}
pub use Rattle.accounts.proofs.Lists.{at_behind, at_front, at_joined, at_none, at_of, get_of}
pub use Rattle.accounts.proofs.Moved.{one_place, some_none}
pub use Rattle.accounts.proofs.Parts.{author_is, placed_back, whole_note, whole_read}
pub use Rattle.accounts.proofs.Picked.{log_picked, log_picks, puts_account, replica_picked, replica_picks, same_picked, same_picks}
pub use Rattle.accounts.proofs.ReadNotes.{asked_may_put, heard_may_put, may_ask_there}
pub use Rattle.accounts.proofs.Puts.{at_map, at_mapped, at_there, desk_puts}
pub use Rattle.accounts.proofs.Putting.{may_take_desk, may_take_first, replica_may_put, store_opens, takes_desk, takes_its_replica, takes_log}
pub use Rattle.accounts.proofs.Seen.{sized_on}
pub use Rattle.accounts.proofs.StoreLaws.{laws_seen}
pub use Rattle.accounts.proofs.StoreRules.{desk_store}
pub use Rattle.accounts.proofs.Tellings.{placed_tells, read_on, replayed_agrees, replays, reply_on, state_on, tail_is}
pub use Rattle.ownlock.proofs.Export.{at_below, at_one}
