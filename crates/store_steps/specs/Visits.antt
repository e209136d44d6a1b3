-- A session that holds its node's desk: what it is, what a turn there leaves, and who has taken the desk next.
use Rattle.std.specs.Prelude.{◌≡◌, ℕ, [], ◌∷◌}
use Rattle.ownlock.specs.declared.known.ShelfStep.TheVariants.{Took, Put}
use Rattle.ownlock.specs.Knowledge.{Acquired}
use Rattle.ownlock.specs.Seats.{HasStepped, IsSession, TookNext}
use Rattle.combiner.specs.Desks.{BatchView, DeskView}
use Rattle.accounts.specs.declared.sessions.Pending.{Pending}
use Rattle.accounts.specs.Accounts.{Extends}
use Rattle.accounts.specs.Agreement.{desk_place}
use Rattle.accounts.specs.Values.{TheDesk}
use Rattle.store_steps.specs.declared.desks.Turn.{Turn}
use Rattle.store_steps.specs.declared.steps.Caller.{Caller}
use Rattle.store_steps.specs.declared.values.Value.{Value}
use Rattle.store_steps.specs.AtDesk.{HasAsked, IsAt}
use Rattle.store_steps.specs.Requests.{HasTurned}
use Rattle.store_steps.specs.Shelving.{store_rules, view_of}
use Rattle.store_steps.specs.Standing.{IsFree, SessionKnown, StoreSeat}
use Rattle.store_steps.specs.Updating.{TurnsBy}

-- the session k, of the caller's slot, held nothing; it has taken the desk of its node from the place p as the value v, and is t then
pub record HasDesk (caller : Caller) (k t : SessionKnown) (p : ℕ) (v : Value) : Type 0 where
  pub free : IsFree caller k
  pub place : p ≡ desk_place k.progress.config caller.node
  pub session : t.session ≡ k.session
  pub note : t.note ≡ k.note
  pub extends : Extends k.progress t.progress
  pub held : t.held ≡ (p, v) ∷ []
  pub steps : HasStepped k (Took p v) t
  pub desk : DeskView
  pub node : desk.node ≡ caller.node
  pub seen : view_of v ≡ TheDesk desk
  pub here : IsAt caller.slot t desk

-- the seat is one session, which holds its node's desk and waits for the answer to a request
abbrev pub MayTurn : StoreSeat → Caller → (p : ℕ) → Value → Type 0
MayTurn s caller p v = (k t : SessionKnown) × (o : Pending) × IsSession s t × HasDesk caller k t p v × HasAsked k o

-- the next step that the session takes itself puts a place back
abbrev pub PutsBack : (t after : SessionKnown) → Type 0
PutsBack t after = (p : ℕ) × (v : Value) × HasStepped t (Put p v) after

-- The session k took a place by the very step after all that the session `before` knows, and its next own step put a place back.
pub record TakesNext (before k after : SessionKnown) : Type 0 where
  pub place : ℕ
  pub value : Value
  pub now : SessionKnown
  pub took : Acquired store_rules place k now value
  pub next : TookNext before.run place value now
  pub put : PutsBack now after

-- its session has had its turn since it took the desk, and has put the desk back, whichever request it waits for
abbrev pub TurnsThere : (old new : StoreSeat) → Caller → (p : ℕ) → Value → BatchView → Turn → Type 0
TurnsThere old new caller p v batch turn =
    (k t : SessionKnown) (o : Pending) → IsSession old t → HasDesk caller k t p v → HasAsked k o
    → (after : SessionKnown) × IsSession new after × HasTurned k after o batch turn × TurnsBy k after batch turn × PutsBack t after
