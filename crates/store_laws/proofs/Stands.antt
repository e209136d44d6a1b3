-- What holds of the notes and the events of all sessions after each step.
use Rattle.std.specs.Prelude.{◌≡◌, ℕ, ◌≤◌, List, length, Option, Some, None, slice_get}
use Rattle.verifier.specs.declared.refusal.Mode.TheVariants.{Update, Read}
use Rattle.ownlock.specs.Seats.{At}
use Rattle.loader.specs.CatalogueView.{CatalogueView}
use Rattle.oplog.specs.Operations.{Operation}
use Rattle.oplog.specs.History.{History}
use Rattle.accounts.specs.declared.sessions.AnsweredUpdate.{AnsweredUpdate}
use Rattle.accounts.specs.declared.sessions.BegunRead.{BegunRead}
use Rattle.accounts.specs.declared.sessions.Pending.{Pending}
use Rattle.accounts.specs.declared.sessions.Progress.{Progress}
use Rattle.accounts.specs.declared.sessions.SessionNote.{SessionNote}
use Rattle.accounts.specs.Accounts.{HasNoRecord}
use Rattle.schedule.specs.declared.parts.Opening.{Opening}
use Rattle.schedule.specs.Explains.{Explains, count_of}
use Rattle.schedule.specs.Stands.{OpenAt}
use Rattle.schedule.specs.Trace.{Answer, Back, Trace, Positions, IsIdle, StampBefore, stamp}
use Rattle.store_laws.specs.RunEvents.{IsTold}

abbrev pub L : Type 0
L = Progress CatalogueView

-- where the history has the session's update of this number: there, or nowhere
abbrev pub IndexIs : History → (x count : ℕ) → Operation → Option ℕ → Type 0
IndexIs h x count op None = HasNoRecord h x count
IndexIs h x count op (Some i) = At i (record { author = x; seq = count; op = op }) h

-- a session that was answered so many updates has the open call that it waits for, at the index of its record; or the read that it has
-- begun; or none
abbrev pub CallStands : Opening → History → Positions → Trace → (x count : ℕ) → Option Pending → Option BegunRead → Type 0
CallStands m h positions t x count None None = IsIdle t x × (count_of x h ≡ count)
CallStands m h positions t x count None (Some read) =
    (c : ℕ) × OpenAt m h positions t x count Read read.op None c × ((s : ℕ) → StampBefore m.config.limit t c s → s ≤ read.seen)
CallStands m h positions t x count (Some o) None = (c : ℕ) × (index : Option ℕ) × OpenAt m h positions t x count Update o.op index c × IndexIs h x count o.op index
CallStands m h positions t x count (Some o) (Some read) = ⊥

-- the events stand for this progress and these notes: its history explains them, what was answered is completed, and each session has its call
pub record EventsStand (m : Opening) (l : L) (ns : List SessionNote) (positions : Positions) (t : Trace) : Type 0 where
  pub config : m.config ≡ l.config
  pub catalogue : m.catalogue ≡ l.catalogue
  pub completed : l.completed ≤ length l.history
  pub explains : Explains m l.history positions t
  pub stamps : (b x : ℕ) (answer : Answer) → slice_get t b ≡ Some (Back x answer) → stamp m.config.limit answer ≤ l.completed
  -- each answered update has its return
  pub told : (x q : ℕ) (n : SessionNote) (u : AnsweredUpdate) → slice_get ns x ≡ Some n → slice_get n.answered q ≡ Some u → IsTold t x u
  pub calls : (x : ℕ) (n : SessionNote) → slice_get ns x ≡ Some n → CallStands m l.history positions t x (length n.answered) n.pending n.begun
