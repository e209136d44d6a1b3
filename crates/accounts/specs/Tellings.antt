-- What a session may conclude from the log and the replica that it has, and what it may say of its answer. No rules have a part in it.
use Rattle.std.specs.Prelude.{◌≡◌, ℕ, ◌+◌, ◌<◌, ◌≤◌, List, length, take, drop, None, Some, option_map}
use Rattle.ownlock.specs.Seats.{At}
use Rattle.oplog.specs.Operations.{Operation}
use Rattle.oplog.specs.History.{Meaning, History, after, state_after, reply_at}
use Rattle.accounts.specs.declared.sessions.Progress.{Progress}
use Rattle.accounts.specs.declared.sessions.Pending.{Pending}
use Rattle.accounts.specs.declared.sessions.SessionNote.{SessionNote}
use Rattle.combiner.specs.declared.slots.Reply.TheVariants.{Placed, Ended}
use Rattle.accounts.specs.Values.{LogValue, ReplicaValue}
use Rattle.accounts.specs.Accounts.{Accounts, Extends}
use Rattle.accounts.specs.Agreement.{LogAgrees, ReplicaAgrees}
use Rattle.accounts.specs.Told.{Tells, ReadTells}

module _ {C M : Type 0} (E : Meaning C M) where
  -- the log ends where the history ends
  abbrev pub TailIs : Type 0
  TailIs = (l : Progress C) (x : LogValue M) → l.completed ≤ length l.history → LogAgrees E l x → x.base + length x.records ≡ length l.history

  -- so many records from the place t on bring the state after t to that after t and these
  abbrev pub Replays : Type 0
  Replays = (c : C) (h : History) (t k : ℕ) → after E c (state_after E c h t) (take k (drop t h)) ≡ state_after E c h (t + k)

  -- a replica that was replayed agrees once the completed tail is no less than its own tail, wherever the others are by then
  abbrev pub ReplayedAgrees : Type 0
  ReplayedAgrees =
      (known l : Progress C) (y : ReplicaValue M) → Extends known l → y.tail ≤ length known.history → y.state ≡ state_after E known.catalogue known.history y.tail → y.tail ≤ l.completed → ReplicaAgrees E l y

  -- the record that a session appended and the reply there are what it may say of its answer, once that place is completed
  abbrev pub PlacedTells : Type 0
  PlacedTells =
      (known l : Progress C) (c seq i reply : ℕ) (o : Pending) → Extends known l → At i (record { author = c; seq = seq; op = o.op }) known.history → reply_at E known.catalogue known.history i o.op ≡ Some reply
      → o.seen ≤ i → i < l.completed → Tells E l c seq o (Placed i reply)

  -- the reply on the state of a replica that was replayed is what a read may answer, once that far is completed
  abbrev pub ReadsTell : Type 0
  ReadsTell =
      (known l : Progress C) (begun reply : ℕ) (op : Operation) (y : ReplicaValue M) → Extends known l → y.tail ≤ length known.history → y.state ≡ state_after E known.catalogue known.history y.tail
      → option_map (λ e. e.reply) (E.read known.catalogue op y.state) ≡ Some reply → begun ≤ y.tail → y.tail ≤ l.completed → ReadTells E l begun op y.tail reply

  -- a session that waits for nothing may say that the history has its last record, once all of it is completed
  abbrev pub EndedTells : Type 0
  EndedTells =
      (l : Progress C) (ns : List SessionNote) (c : ℕ) (n : SessionNote) (o : Pending) → Accounts E l ns → At c n ns → n.pending ≡ None → l.config.limit ≤ l.completed → Tells E l c (length n.answered) o Ended
