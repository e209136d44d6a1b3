-- What it is that one list of operations explains a trace (a linearization: Herlihy and Wing, TOPLAS 1990). An update
-- takes effect at its index of the list, a read at a point between two of its operations, and both after all that had
-- surely happened before the call. An update that has no answer yet may be in the list, or not.
use Rattle.std.specs.Prelude.{◌≡◌, ◌≢◌, ℕ, ◌≤◌, length, take, Some, slice_get}
use Rattle.verifier.specs.declared.refusal.Mode.{Mode}
use Rattle.verifier.specs.declared.refusal.Mode.TheVariants.{Update}
use Rattle.loader.specs.CatalogueView.{CatalogueView}
use Rattle.loader.specs.StoreState.{StoreState}
use Rattle.oplog.specs.declared.records.Record.{Record}
use Rattle.oplog.specs.Operations.{Operation}
use Rattle.oplog.specs.History.{History}
use Rattle.combiner.specs.declared.slots.Reply.TheVariants.{Placed, Ended}
use Rattle.schedule.specs.Trace.{Answer, Answers, Back, Call, IsIdle, Positions, ReadBack, StampBefore, Suits}
use Rattle.schedule.specs.Trace.{Trace, Updated}
use Rattle.promise.specs.Operations.{After, ReadRepliesAt, RepliesAt}

-- The answer to this call is right. An update has the index that it was told, and replies what it replies there. A read
-- replies what it replies at its point, within the list. An update that was told that the history has ended has no
-- index, and the list is as long as it may be.
abbrev pub IsRight : CatalogueView → (limit : ℕ) → History → Positions → (call : ℕ) → Operation → Answer → Type 0
IsRight c limit history positions call op (Updated (Placed i reply)) =
    (slice_get positions i ≡ Some call) × RepliesAt c history i op reply
IsRight c limit history positions call op (ReadBack answer) =
    (answer.point ≤ length history) × ReadRepliesAt c history answer.point op answer.reply
IsRight c limit history positions call op (Updated Ended) =
    ((i : ℕ) → slice_get positions i ≢ Some call) × (length history ≡ limit)

-- This list of operations explains the trace. For each operation `positions` has which event of the trace is its call.
pub record Explains (c : CatalogueView) (limit : ℕ) (history : History) (positions : Positions) (t : Trace) : Type 0 where
  -- the list is no longer than it may be, and its operations, those of calls without an answer too, take effect one after another
  pub within : length history ≤ limit
  pub effects : (state : StoreState) × After c history state
  -- each operation is that of one update call, by its session, and no call has two
  pub each_placed : length positions ≡ length history
  pub calls : (i call : ℕ) (r : Record) → slice_get history i ≡ Some r → slice_get positions i ≡ Some call
      → slice_get t call ≡ Some (Call r.author Update r.op)
  pub once : (i j call : ℕ) → slice_get positions i ≡ Some call → slice_get positions j ≡ Some call → i ≡ j
  -- each answer is right
  pub right : (session : ℕ) (mode : Mode) (op : Operation) (call back : ℕ) (answer : Answer)
      → Answers t session mode op call back answer → IsRight c limit history positions call op answer
  -- If an answer was back before a call, the call has no index and no point below the answer's stamp: the number of
  -- operations that had then happened for sure.
  pub placed_later : (call i stamp : ℕ) → slice_get positions i ≡ Some call → StampBefore limit t call stamp → stamp ≤ i
  pub read_later : (session : ℕ) (mode : Mode) (op : Operation) (call back point reply stamp : ℕ)
      → Answers t session mode op call back (ReadBack (record { point = point; reply = reply }))
      → StampBefore limit t call stamp → stamp ≤ point
  -- a session calls when it waits for no answer, and each answer is to its session's open call
  pub calls_in_turn : (call session : ℕ) (mode : Mode) (op : Operation)
      → slice_get t call ≡ Some (Call session mode op) → IsIdle (take call t) session
  pub answers_in_turn : (back session : ℕ) (answer : Answer) → slice_get t back ≡ Some (Back session answer)
      → (mode : Mode) × (op : Operation) × (call : ℕ) × Answers t session mode op call back answer × Suits mode answer

-- some list does
abbrev pub IsLinearized : CatalogueView → (limit : ℕ) → Trace → Type 0
IsLinearized c limit t = (history : History) × (positions : Positions) × Explains c limit history positions t
