-- When one list of operations explains a trace: each call took its effect at one index of the list, between the call and
-- its answer (Herlihy and Wing, TOPLAS 1990: a linearization).
use Rattle.std.specs.Prelude.{◌≡◌, ◌≢◌, ℕ, ◌+◌, ◌≤◌, ◌==◌, true, [], ◌∷◌, length, take, Some, slice_get, if◌then◌else◌}
use Rattle.verifier.specs.declared.refusal.Mode.{Mode}
use Rattle.verifier.specs.declared.refusal.Mode.TheVariants.{Update}
use Rattle.oplog.specs.declared.records.Record.{Record}
use Rattle.oplog.specs.Operations.{Operation}
use Rattle.oplog.specs.History.{History, reply_at, read_reply_at}
use Rattle.combiner.specs.declared.slots.Reply.TheVariants.{Placed, Ended}
use Rattle.replica.specs.StoreMeaning.{store_meaning, is_operation}
use Rattle.schedule.specs.declared.parts.Opening.{Opening}
use Rattle.schedule.specs.Trace.{Answer, Updated, ReadBack, Call, Back, Trace, Positions, Suits, IsIdle, Answers, StampBefore}

-- how many records of a list are a session's
abbrev pub count_of : ℕ → History → ℕ
count_of x [] = 0
count_of x (r ∷ rs) = (if r.author == x then 1 else 0) + count_of x rs

-- call c was answered right: an update has its index, and what its program replies there; a read has a point within the history, and what
-- its program replies there; a call that was told that the history has ended has no index, and the history is full
abbrev pub IsRight : Opening → History → Positions → ℕ → Operation → Answer → Type 0
IsRight m h positions c op (Updated (Placed i reply)) = (slice_get positions i ≡ Some c) × (reply_at store_meaning m.catalogue h i op ≡ Some reply)
IsRight m h positions c op (ReadBack a) = (a.point ≤ length h) × (read_reply_at store_meaning m.catalogue h a.point op ≡ Some a.reply)
IsRight m h positions c op (Updated Ended) = ((i : ℕ) → slice_get positions i ≢ Some c) × (length h ≡ m.config.limit)

-- one list of operations explains the trace
pub record Explains (m : Opening) (h : History) (positions : Positions) (t : Trace) : Type 0 where
  -- each operation is an update of the catalogue
  pub updates : (i : ℕ) (r : Record) → slice_get h i ≡ Some r → is_operation Update m.catalogue r.op ≡ true
  -- each index is that of one update call, of that session and that operation; no call has two
  pub each_placed : length positions ≡ length h
  pub calls : (i c : ℕ) (r : Record) → slice_get h i ≡ Some r → slice_get positions i ≡ Some c → slice_get t c ≡ Some (Call r.author Update r.op)
  pub once : (i j c : ℕ) → slice_get positions i ≡ Some c → slice_get positions j ≡ Some c → i ≡ j
  -- a record has the number of its session's earlier records
  pub seqs : (i : ℕ) (r : Record) → slice_get h i ≡ Some r → r.seq ≡ count_of r.author (take i h)
  -- each answered call was answered right
  pub right : (x : ℕ) (mode : Mode) (op : Operation) (c b : ℕ) (answer : Answer) → Answers t x mode op c b answer → IsRight m h positions c op answer
  -- what was answered before a call happened before it
  pub placed_later : (c i s : ℕ) → slice_get positions i ≡ Some c → StampBefore m.config.limit t c s → s ≤ i
  pub read_later : (x : ℕ) (mode : Mode) (op : Operation) (c b point reply s : ℕ) → Answers t x mode op c b (ReadBack (record { point = point; reply = reply }))
      → StampBefore m.config.limit t c s → s ≤ point
  -- each session calls and is answered in turn, an update as an update and a read as a read
  pub calls_in_turn : (c x : ℕ) (mode : Mode) (op : Operation) → slice_get t c ≡ Some (Call x mode op) → IsIdle (take c t) x
  pub answers_in_turn : (b x : ℕ) (answer : Answer) → slice_get t b ≡ Some (Back x answer)
      → (mode : Mode) × (op : Operation) × (c : ℕ) × Answers t x mode op c b answer × Suits mode answer
