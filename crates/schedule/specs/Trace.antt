-- Traces of calls and answers (Herlihy and Wing, "Linearizability", TOPLAS 1990: the events of a history of a shared object).
use Rattle.std.specs.Prelude.{◌≡◌, ◌≢◌, ℕ, ◌+◌, ◌<◌, List, take, Some, slice_get}
use Rattle.verifier.specs.declared.refusal.Mode.{Mode}
use Rattle.verifier.specs.declared.refusal.Mode.TheVariants.{Update, Read}
use Rattle.oplog.specs.Operations.{Operation}
use Rattle.combiner.specs.declared.slots.Reply.{Reply}
use Rattle.combiner.specs.declared.slots.Reply.TheVariants.{Placed, Ended}
use Rattle.readpath.specs.declared.reading.ReadAnswer.{ReadAnswer}

-- what a call is answered: an update its index and its reply, or that the history has ended; a read its point and its reply
pub data Answer : Type 0 where
  Updated : Reply → Answer
  ReadBack : ReadAnswer → Answer

-- a session, by its number, calls an update or a read, or its call is answered
pub data Event : Type 0 where
  Call : (session : ℕ) (mode : Mode) (op : Operation) → Event
  Back : (session : ℕ) (answer : Answer) → Event

-- events in the order in which they happened; a call is named by its index in the trace
abbrev pub Trace : Type 0
Trace = List Event

-- the calls' positions in a trace, at the indexes of a history
abbrev pub Positions : Type 0
Positions = List ℕ

-- whose call, or whose answer
abbrev pub caller : Event → ℕ
caller (Call session mode op) = session
caller (Back session answer) = session

-- how many operations of the history had happened for sure once this answer was back
abbrev pub stamp : ℕ → Answer → ℕ
stamp limit (Updated (Placed index reply)) = index + 1
stamp limit (Updated Ended) = limit
stamp limit (ReadBack answer) = answer.point

-- updates and reads have their own answers
abbrev pub Suits : Mode → Answer → Type 0
Suits Update (Updated reply) = Unit {0}
Suits Read (ReadBack answer) = Unit {0}
Suits Update (ReadBack answer) = ⊥
Suits Read (Updated reply) = ⊥

-- the session x has made call c, and no other event of the trace since then is its own
pub record IsOpen (t : Trace) (x : ℕ) (mode : Mode) (op : Operation) (c : ℕ) : Type 0 where
  pub call : slice_get t c ≡ Some (Call x mode op)
  pub last : (j : ℕ) (e : Event) → c < j → slice_get t j ≡ Some e → caller e ≢ x

-- the session x waits for no answer
abbrev pub IsIdle : Trace → ℕ → Type 0
IsIdle t x = (mode : Mode) (op : Operation) (c : ℕ) → IsOpen t x mode op c → ⊥

-- event b answers call c, which was its session's open call when b came
pub record Answers (t : Trace) (x : ℕ) (mode : Mode) (op : Operation) (c b : ℕ) (answer : Answer) : Type 0 where
  pub open_call : IsOpen (take b t) x mode op c
  pub back : slice_get t b ≡ Some (Back x answer)

-- an answer of this stamp was back before call c
abbrev pub StampBefore : ℕ → Trace → ℕ → ℕ → Type 0
StampBefore limit t c stamped =
    (b : ℕ) × (x : ℕ) × (answer : Answer) × (b < c) × (slice_get t b ≡ Some (Back x answer)) × (stamped ≡ stamp limit answer)
