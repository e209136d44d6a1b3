-- How the history and the notes of all sessions fit together.
use Rattle.std.specs.Prelude.{◌≡◌, ◌≢◌, ℕ, ◌<◌, ◌≤◌, ◌⊎◌, true, List, ◌++◌, length, Some, None}
use Rattle.ownlock.specs.Seats.{At}
use Rattle.oplog.specs.declared.records.Record.{Record}
use Rattle.oplog.specs.History.{Meaning, History, reply_at}
use Rattle.oplog.specs.Operations.{Operation}
use Rattle.oplog.specs.Sessions.{IsSessionOf}
use Rattle.accounts.specs.declared.sessions.Progress.{Progress}
use Rattle.accounts.specs.declared.sessions.Pending.{Pending}
use Rattle.accounts.specs.declared.sessions.AnsweredUpdate.{AnsweredUpdate}
use Rattle.accounts.specs.declared.sessions.Claim.{Claim}
use Rattle.accounts.specs.declared.sessions.SessionNote.{SessionNote}

-- no record of the session has that number
abbrev pub HasNoRecord : History → ℕ → ℕ → Type 0
HasNoRecord history author seq = (i : ℕ) (r : Record) → At i r history → r.author ≡ author → r.seq ≢ seq

-- the session of this note was answered the record r at place i, or waits for it
abbrev pub IsNoted : SessionNote → ℕ → Record → Type 0
IsNoted n i r =
    ((reply : ℕ) × At r.seq (record { index = i; op = r.op; reply = reply }) n.answered)
    ⊎ ((o : Pending) × (n.pending ≡ Some o) × (r.op ≡ o.op) × (r.seq ≡ length n.answered) × (o.seen ≤ i))

-- the record is the request that the session of this note waits for
abbrev pub IsRequest : SessionNote → Record → Type 0
IsRequest n r = (o : Pending) × (n.pending ≡ Some o) × (r.op ≡ o.op) × (r.seq ≡ length n.answered)

-- with a place a request has its record there, without one it has none
abbrev pub IsPlacedIn : History → Claim → Type 0
IsPlacedIn history t = ((i : ℕ) → t.index ≡ Some i → At i t.request history) × (t.index ≡ None → HasNoRecord history t.request.author t.request.seq)

-- t is the k-th request of the batch of session c
abbrev pub IsInBatch : List SessionNote → ℕ → ℕ → Claim → Type 0
IsInBatch ns c k t = (n : SessionNote) × At c n ns × At k t n.batch

-- the second has the records of the first, and then others
abbrev pub IsPrefix : History → History → Type 0
IsPrefix a b = (more : History) × (b ≡ a ++ more)

module _ {C M : Type 0} (E : Meaning C M) where
  -- a history of this catalogue may have the operation
  abbrev pub IsAllowed : C → Operation → Type 0
  IsAllowed c op = E.is_update c op ≡ true

  -- the q-th update that session a was answered has its record at its index, and its reply is the one that the
  -- operation gets there
  abbrev pub IsRecorded : C → History → ℕ → ℕ → AnsweredUpdate → Type 0
  IsRecorded c history a q u = At u.index (record { author = a; seq = q; op = u.op }) history × (reply_at E c history u.index u.op ≡ Some u.reply)

  -- the progress is one of its catalogue and its sizes: each operation is allowed, and no more is completed than the history has, which is within the limit
  pub record IsWellFormed (l : Progress C) : Type 0 where
    pub allowed : (i : ℕ) (r : Record) → At i r l.history → IsAllowed l.catalogue r.op
    pub completed : l.completed ≤ length l.history
    pub limit : length l.history ≤ l.config.limit

  -- the progress accounts for all that the sessions say, and they for the whole history
  pub record Accounts (l : Progress C) (ns : List SessionNote) : Type 0 where
    -- each record is allowed, and its session's
    pub allowed : (i : ℕ) (r : Record) → At i r l.history → IsAllowed l.catalogue r.op
    pub accounted : (i : ℕ) (r : Record) → At i r l.history → (n : SessionNote) × At r.author n ns × IsNoted n i r
    -- the numbers of a session's records rise
    pub ordered : (i j : ℕ) (r s : Record) → At i r l.history → At j s l.history → i < j → r.author ≡ s.author → r.seq < s.seq
    -- each answered update has its record, and the reply of there
    pub answered : (a : ℕ) (n : SessionNote) (q : ℕ) (u : AnsweredUpdate) → At a n ns → At q u n.answered → IsRecorded l.catalogue l.history a q u
    -- each request that a session waits for is allowed, and began when the history was no longer than it is
    pub pending : (a : ℕ) (n : SessionNote) (o : Pending) → At a n ns → n.pending ≡ Some o → IsAllowed l.catalogue o.op × (o.seen ≤ length l.history)
    -- each request of a batch is one that its session waits for, and of the node of who combines it
    pub requested : (c k : ℕ) (t : Claim) → IsInBatch ns c k t → (n : SessionNote) × At t.request.author n ns × IsRequest n t.request
    pub placed : (c k : ℕ) (t : Claim) → IsInBatch ns c k t → IsPlacedIn l.history t
    pub near : (c k : ℕ) (t : Claim) → IsInBatch ns c k t → (node : ℕ) × IsSessionOf l.config node c × IsSessionOf l.config node t.request.author
    -- no request stands in two batches, or twice in one
    pub once : (c d k j : ℕ) (t u : Claim) → IsInBatch ns c k t → IsInBatch ns d j u → t.request.author ≡ u.request.author → (c ≡ d) × (k ≡ j)
    pub completed : l.completed ≤ length l.history
    pub limit : length l.history ≤ l.config.limit

-- the second progress has grown from the first
pub record Extends {C : Type 0} (a b : Progress C) : Type 0 where
  pub config : a.config ≡ b.config
  pub catalogue : a.catalogue ≡ b.catalogue
  pub history : IsPrefix a.history b.history
  pub completed : a.completed ≤ b.completed
