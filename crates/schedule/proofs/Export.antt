-- The lemmas that other crates may cite.
pub use Rattle.schedule.proofs.Answers.{of_store}
pub use Rattle.schedule.proofs.Append.{keeps_append}
pub use Rattle.schedule.proofs.Appends.{take_length, take_snoc}
pub use Rattle.schedule.proofs.Calls.{Kept, keeps_collect, keeps_post, keeps_read_answer, keeps_read_begin, right_open, session_is, stamp_of}
pub use Rattle.schedule.proofs.Desks.{keeps_claim, keeps_reply}
pub use Rattle.schedule.proofs.Explained.{Fine, Right, explains_entry, explains_event, in_trace}
pub use Rattle.schedule.proofs.Lists.{get_set, get_snoc, get_take, get_taken, set_same}
pub use Rattle.schedule.proofs.Logs.{keeps_finish, keeps_rebase, keeps_reclaim}
pub use Rattle.schedule.proofs.OnCalls.{steps_explained}
pub use Rattle.schedule.proofs.Options.{collected_is, cond_gives, free_is, map_gives, no_read_is, none_is}
pub use Rattle.schedule.proofs.ReadOff.{event_is}
pub use Rattle.schedule.proofs.Replays.{keeps_replay}
pub use Rattle.schedule.proofs.Runs.{every_schedule, opening_stands, replicate_get, replicate_length, run_stands, standing_is_explained, step_keeps}
pub use Rattle.schedule.proofs.Seats.{count_other, count_self, open_entry, open_event}
pub use Rattle.schedule.proofs.Slots.{claimed_has, requests_have}
pub use Rattle.schedule.proofs.Traces.{answers_in, answers_more, back_call, idle_back, idle_more, op_in, open_in, open_new, stamp_less, take_all_front}
pub use Rattle.schedule.proofs.Unless.{has_answer}
