-- What a session does at its desk: the desk that it puts back, and its new note, by what it knows.
use Rattle.std.specs.Prelude.{◌≡◌, ℕ, ◌<◌, ◌≤◌, List, [], map, length, Some, None, slice_get, slice_set, false}
use Rattle.ownlock.specs.declared.known.Known.{Known}
use Rattle.ownlock.specs.Seats.{At}
use Rattle.ownlock.specs.Knowledge.{MayPut}
use Rattle.oplog.specs.Operations.{Operation}
use Rattle.oplog.specs.History.{Meaning, reply_at}
use Rattle.accounts.specs.declared.sessions.Progress.{Progress}
use Rattle.accounts.specs.declared.sessions.Pending.{Pending}
use Rattle.accounts.specs.declared.sessions.Claim.{Claim}
use Rattle.accounts.specs.declared.sessions.SessionNote.{SessionNote}
use Rattle.combiner.specs.Desks.{DeskView, BatchView, posted, has_combiner, batch_of, claimed, replied, collected}
use Rattle.combiner.specs.declared.slots.Reply.{Reply}
use Rattle.combiner.specs.declared.slots.Reply.TheVariants.{Placed, Ended}
use Rattle.accounts.specs.Values.{StoreValue, TheDesk}
use Rattle.oplog.specs.Sessions.{session, IsSessionOf}
use Rattle.accounts.specs.Accounts.{Accounts, Extends, IsAllowed}
use Rattle.accounts.specs.Agreement.{DeskAgrees}
use Rattle.accounts.specs.Moves.{answered_with, posted_with, DeskMove, desk_rules, record_of, unplaced}

module _ {C M : Type 0} (E : Meaning C M) where
  -- the answer that a combiner has for a request of its batch
  abbrev pub Gives : Progress C → Claim → Reply → Type 0
  Gives known t (Placed i reply) = (t.index ≡ Some i) × (i < known.completed) × (reply_at E known.catalogue known.history i t.request.op ≡ Some reply)
  Gives known t Ended = (t.index ≡ None) × (known.completed ≡ known.config.limit)

  pub data DeskStep (known : Progress C) (c : ℕ) (n : SessionNote) (x : DeskView) (n' : SessionNote) (y : DeskView) : Type 0 where
    PostStep : (s : ℕ) (op : Operation) → c ≡ session known.config x.node s → n.begun ≡ None → IsAllowed E known.catalogue op
        → n' ≡ posted_with n (record { op = op; seen = length known.history }) → posted s op x ≡ Some y → DeskStep known c n x n' y
    ClaimStep : has_combiner x ≡ false → n.batch ≡ [] → n' ≡ record n { batch = unplaced (batch_of x).records } → y ≡ claimed x → DeskStep known c n x n' y
    -- each request of the session's batch has its answer
    ReplyStep : (b : BatchView) (k : ℕ) (t : Claim) → At k t n.batch → b.records ≡ map record_of n.batch
        → ((k : ℕ) (t : Claim) → At k t n.batch → (reply : Reply) × (slice_get b.answers k ≡ Some (Some reply)) × Gives known t reply)
        → n' ≡ record n { batch = [] } → y ≡ replied b x → DeskStep known c n x n' y
    CollectStep : (s : ℕ) (o : Pending) (reply : Reply) → c ≡ session known.config x.node s → n.pending ≡ Some o
        → n' ≡ answered_with n o.op reply → collected s x ≡ Some (record { reply = reply; desk = y }) → DeskStep known c n x n' y

  -- wherever the others are by then, the step is an allowed move, and the desk that is put back agrees
  abbrev pub DeskPuts : Type 0
  DeskPuts =
      (known l : Progress C) (ns : List SessionNote) (c : ℕ) (n n' : SessionNote) (x y : DeskView) → known.completed ≤ length known.history → Extends known l → Accounts E l ns → At c n ns → IsSessionOf l.config x.node c → DeskAgrees E l ns x
      → DeskStep known c n x n' y → DeskMove E x c l n n' × DeskAgrees E l (slice_set ns c n') y

  -- `DeskPuts` in the words of the shelf: the step may be put back by the session that knows k
  abbrev pub DeskMayPut : Type 0
  DeskMayPut =
      (k : Known (Progress C) SessionNote (StoreValue M)) (p a : ℕ) (x y : DeskView) (n' : SessionNote) → At a (p, TheDesk x) k.held → k.progress.completed ≤ length k.progress.history → IsSessionOf k.progress.config x.node k.session
      → DeskStep k.progress k.session k.note x n' y → MayPut (desk_rules E) (λ l. l) (λ n. n') k p (TheDesk y)
