-- What a session may say of its answer, and what the history holds in the end.
use Rattle.std.specs.Prelude.{◌≡◌, ℕ, suc, ◌<◌, ◌≤◌, ◌==◌, filter, List, [], ◌∷◌, ◌++◌, length, Some, None}
use Rattle.ownlock.specs.Seats.{At}
use Rattle.oplog.specs.Operations.{Operation}
use Rattle.oplog.specs.declared.records.Record.{Record}
use Rattle.oplog.specs.History.{Meaning, History, reply_at, read_reply_at}
use Rattle.accounts.specs.declared.sessions.Progress.{Progress}
use Rattle.accounts.specs.declared.sessions.Pending.{Pending}
use Rattle.accounts.specs.declared.sessions.AnsweredUpdate.{AnsweredUpdate}
use Rattle.accounts.specs.declared.sessions.SessionEvent.TheVariants.{UpdateCall, UpdateBack, ReadCall, ReadBack}
use Rattle.accounts.specs.declared.sessions.SessionNote.{SessionNote}
use Rattle.combiner.specs.Desks.{DeskView}
use Rattle.combiner.specs.declared.slots.Slot.{Slot}
use Rattle.combiner.specs.declared.slots.Stage.TheVariants.{Answered}
use Rattle.combiner.specs.declared.slots.Reply.{Reply}
use Rattle.combiner.specs.declared.slots.Reply.TheVariants.{Placed, Ended}
use Rattle.oplog.specs.Sessions.{session}
use Rattle.accounts.specs.Accounts.{Accounts}
use Rattle.accounts.specs.Agreement.{Answers, DeskAgrees}

-- the records of a session, in order
abbrev pub records_of : ℕ → History → History
records_of a history = filter (λ (r : Record). r.author == a) history

-- these updates as records of a session, numbered from seq on
abbrev pub numbered : ℕ → ℕ → List AnsweredUpdate → History
numbered a seq [] = []
numbered a seq (u ∷ us) = record { author = a; seq = seq; op = u.op } ∷ numbered a (suc seq) us

-- the note, once the session was answered op at place i with that reply; it waits for nothing then, and combines
-- nothing
abbrev pub note_with : SessionNote → ℕ → Operation → ℕ → SessionNote
note_with n i op reply = record n {
  answered = n.answered ++ record { index = i; op = op; reply = reply } ∷ [];
  pending = None;
  batch = [];
  events = n.events ++ UpdateCall op ∷ UpdateBack (Placed i reply) ∷ [];
}

-- and once it was told that the history has ended
abbrev pub note_ended : SessionNote → Operation → SessionNote
note_ended n op = record n { pending = None; batch = []; events = n.events ++ UpdateCall op ∷ UpdateBack Ended ∷ [] }

-- by whether the update was placed
abbrev pub updated_with : SessionNote → Operation → Reply → SessionNote
updated_with n op (Placed i reply) = note_with n i op reply
updated_with n op Ended = note_ended n op

-- the note, once the session has asked a read and has heard its answer
abbrev pub read_with : SessionNote → Operation → (point reply : ℕ) → SessionNote
read_with n op point reply = record n {
  begun = None;
  events = n.events ++ ReadCall op ∷ ReadBack point reply ∷ [];
}

module _ {C M : Type 0} (E : Meaning C M) where
  -- the answer to the request o of session c, its next by this number, is right, and its place is not before the history's length at the call
  abbrev pub Tells : Progress C → ℕ → ℕ → Pending → Reply → Type 0
  Tells l c seq o (Placed i reply) = (o.seen ≤ i) × Answers E l c seq o.op (Placed i reply)
  Tells l c seq o Ended = Answers E l c seq o.op Ended

  -- the answer to a read that began when so many operations were completed: its point lies from there to the completed tail at its
  -- end, and the reply is the one after the operations before that point
  abbrev pub ReadTells : Progress C → ℕ → Operation → ℕ → ℕ → Type 0
  ReadTells l begun op point reply = (begun ≤ point) × (point ≤ l.completed) × (read_reply_at E l.catalogue l.history point op ≡ Some reply)

  -- the q-th update u that session a was answered stands once in the history: at its index, with the reply that it gets
  -- there, and nowhere else
  pub record StandsOnce (l : Progress C) (a q : ℕ) (u : AnsweredUpdate) : Type 0 where
    pub there : At u.index (record { author = a; seq = q; op = u.op }) l.history
    pub reply : reply_at E l.catalogue l.history u.index u.op ≡ Some u.reply
    pub once : (i : ℕ) (r : Record) → At i r l.history → r.author ≡ a → r.seq ≡ q → i ≡ u.index

  -- so does each update that any session was answered
  abbrev pub AnsweredStand : Type 0
  AnsweredStand =
      (l : Progress C) (ns : List SessionNote) → Accounts E l ns → (a : ℕ) (n : SessionNote) (q : ℕ) (u : AnsweredUpdate) → At a n ns → At q u n.answered → StandsOnce l a q u

  -- what a desk has for a session is so
  abbrev pub DeskTells : Type 0
  DeskTells =
      (l : Progress C) (ns : List SessionNote) (c : ℕ) (n : SessionNote) (x : DeskView) (s : ℕ) (slot : Slot) (o : Pending) (answer : Reply) → Accounts E l ns → At c n ns → DeskAgrees E l ns x
      → c ≡ session l.config x.node s → At s slot x.slots → slot.stage ≡ Answered answer → n.pending ≡ Some o → Tells l c (length n.answered) o answer

  -- the records of a session that waits for nothing are its answered updates in order, and each record is some session's
  abbrev pub Ends : Type 0
  Ends =
      (l : Progress C) (ns : List SessionNote) → Accounts E l ns
      → ((a : ℕ) (n : SessionNote) → At a n ns → n.pending ≡ None → records_of a l.history ≡ numbered a 0 n.answered)
      × ((i : ℕ) (r : Record) → At i r l.history → r.author < length ns)
