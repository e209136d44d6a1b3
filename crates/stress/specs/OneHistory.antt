-- What told calls say of the one history behind them.
use Rattle.std.specs.Prelude.{◌≡◌, ℕ, ◌<◌, ◌≤◌, ◌==◌, Bool, false, List, length, Some, count_by}
use Rattle.std.specs.List.{All}
use Rattle.ownlock.specs.Seats.{At}
use Rattle.loader.specs.CatalogueView.{CatalogueView}
use Rattle.oplog.specs.Operations.{Operation}
use Rattle.oplog.specs.declared.records.Record.{Record}
use Rattle.oplog.specs.History.{History, reply_at, read_reply_at}
use Rattle.replica.specs.StoreMeaning.{store_meaning}
use Rattle.text.specs.Digits.{field_bytes}
use Rattle.stress.specs.Calls.{Called, operation_on}
use Rattle.stress.specs.Lines.{Said, Updated, Seen, Ended, ToldCall}

-- the operation that a call asks for, on the bytes that its digits spell
abbrev pub Asks : Called → Operation → Type 0
Asks call op = (bytes : List ℕ) × (field_bytes call.digits ≡ Some bytes) × (op ≡ operation_on call.asked bytes)

-- what a session was told of an operation is so in this history of a catalogue: the operation's record stands at the update's index,
-- with its reply there; the read has seen no more than the history has, and its reply is the one there; the history has ended only
-- where it has as many records as the limit
abbrev pub Holds : CatalogueView → ℕ → History → Operation → Said → Type 0
Holds c limit history op (Updated i reply) = ((r : Record) × At i r history × (r.op ≡ op)) × (reply_at store_meaning c history i op ≡ Some reply)
Holds c limit history op (Seen point reply) = (point ≤ length history) × (read_reply_at store_meaning c history point op ≡ Some reply)
Holds c limit history op Ended = limit ≤ length history

-- whether this is what an update at index i was told
abbrev pub is_at : ℕ → Said → Bool
is_at i (Updated index reply) = index == i
is_at i (Seen point reply) = false
is_at i Ended = false

-- one history of the catalogue, of no more records than the limit, is behind all that was told
pub record IsOfOneHistory (c : CatalogueView) (limit : ℕ) (told : List ToldCall) : Type 0 where
  pub history : History
  pub within : length history ≤ limit
  -- what a session was told of the operation of its call is so in it
  pub so : All (λ t. (op : Operation) × Asks t.call op × Holds c limit history op t.said) told
  -- each of its records has one line
  pub shown : (i : ℕ) → i < length history → count_by (λ t. is_at i t.said) told ≡ 1
