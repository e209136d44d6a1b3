-- Calls of two sessions, one after the other: who has both sessions knows which came first.
use Rattle.std.specs.Prelude.{◌≡◌, ℕ, ◌≤◌, [], ◌∷◌, Some, slice_get}
use Rattle.verifier.specs.declared.refusal.Mode.{Mode}
use Rattle.oplog.specs.Operations.{Operation}
use Rattle.combiner.specs.declared.slots.Reply.TheVariants.{Ended, Placed}
use Rattle.schedule.specs.Trace.{Answer, Back, Call, ReadBack, Updated, stamp}
use Rattle.store_steps.specs.Views.{SessionView}
use Rattle.store.specs.Linear.{Adds, AreExplained, own_events}
use Rattle.store.specs.Sessions.{StoreView}

-- the call comes after so many operations: an update has no lower index, and a read no lower point
abbrev pub IsBehind : ℕ → Answer → Type 0
IsBehind count (Updated (Placed index reply)) = count ≤ index
IsBehind count (Updated Ended) = Unit {0}
IsBehind count (ReadBack answer) = count ≤ answer.point

-- One session has an answer. Then another makes a call, and that is answered. Some list of operations explains what both have called before that call,
-- and some list, perhaps another, what both have called after it. Then the call comes after all operations that had happened for sure when the first
-- answer was back. An update that finds the history ended has no index, so nothing is said of it.
abbrev pub CallsInOrder : Type 0
CallsInOrder =
    (store : StoreView) (one other later : SessionView) (i : ℕ) (first : Answer) (mode : Mode) (op : Operation)
    (second : Answer) → slice_get (own_events one) i ≡ Some (Back one.session first)
    → AreExplained store (one ∷ other ∷ [])
    → Adds other later (Call other.session mode op ∷ Back other.session second ∷ [])
    → AreExplained store (one ∷ later ∷ []) → IsBehind (stamp store.config.limit first) second
