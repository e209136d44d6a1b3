-- What a session notes when it puts its desk back, by what it did there: read off the desk that it took, the one that it puts back, and
-- what it knows.
use Rattle.std.specs.Prelude.{◌≡◌, ℕ, ◌-◌, List, [], ◌∷◌, map, take, length, Option, Some, None, slice_get}
use Rattle.std.specs.Option.{option_and_then, option_map}
use Rattle.ownlock.specs.declared.known.Known.{Known}
use Rattle.oplog.specs.declared.configuration.Sizes.{Sizes}
use Rattle.oplog.specs.Operations.{Operation}
use Rattle.oplog.specs.Sessions.{session}
use Rattle.oplog.specs.History.{Meaning, History}
use Rattle.combiner.specs.Desks.{DeskView, batch_of, posted, collected, answer_in}
use Rattle.combiner.specs.declared.slots.Stage.{Stage}
use Rattle.combiner.specs.declared.slots.Stage.TheVariants.{Posted}
use Rattle.combiner.specs.declared.slots.Reply.{Reply}
use Rattle.accounts.specs.declared.sessions.Progress.{Progress}
use Rattle.accounts.specs.declared.sessions.Pending.{Pending}
use Rattle.accounts.specs.declared.sessions.SessionNote.{SessionNote}
use Rattle.accounts.specs.Values.{LogValue, StoreValue, TheLog, TheReplica, TheDesk}
use Rattle.accounts.specs.Moves.{answered_with, desk_rules, placed_from, posted_with, record_of, unplaced}
use Rattle.accounts.specs.LogSteps.{LogStep}
use Rattle.accounts.specs.StoreRules.{Noting, MayAppend}
use Rattle.accounts.specs.Putting.{HoldsDesk}
use Rattle.accounts.specs.Picks.{MayPutPicked, put_progress, put_note}

-- what a session did at its desk
pub data DeskDeed : Type 0 where
  Looked : DeskDeed
  PostedThere : DeskDeed
  ClaimedThere : DeskDeed
  RepliedThere : DeskDeed
  CollectedThere : DeskDeed

-- the request that waits at this stage
abbrev pub request_in : Stage → Option Operation
request_in (Posted op) = Some op
request_in stage = None

-- the desk that is seen so
abbrev pub desk_in : {M : Type 0} → StoreValue M → Option DeskView
desk_in (TheDesk x) = Some x
desk_in (TheLog x) = None
desk_in (TheReplica x) = None

-- the requests that wait there
abbrev pub requests_in : Option DeskView → History
requests_in (Some x) = (batch_of x).records
requests_in None = []

-- the note with this request, which the session posts when the history is so long
abbrev pub noted_request : ℕ → Option Operation → SessionNote → SessionNote
noted_request seen (Some op) n = posted_with n (record { op = op; seen = seen })
noted_request seen None n = n

-- the note with that answer to the request that the session waits for
abbrev pub noted_answer : Option Reply → Option Pending → SessionNote → SessionNote
noted_answer (Some reply) (Some o) n = answered_with n o.op reply
noted_answer (Some reply) None n = n
noted_answer None o n = n

-- the desk that the session took last, if it holds one
abbrev pub desk_held : {M V : Type 0} → (V → StoreValue M) → List (ℕ × V) → Option DeskView
desk_held view [] = None
desk_held view (u ∷ us) = desk_in (view u.1)

-- what stands in the session's slot of a desk
abbrev pub stage_at : {C V : Type 0} → Known (Progress C) SessionNote V → DeskView → Option Stage
stage_at k x = option_map (λ slot. slot.stage) (slice_get x.slots (k.session - session k.progress.config x.node 0))

module _ {C M V : Type 0} (view : V → StoreValue M) where
  abbrev pub desk_note : DeskDeed → Known (Progress C) SessionNote V → DeskView → SessionNote → SessionNote
  desk_note Looked k y n = n
  desk_note PostedThere k y n = noted_request (length k.progress.history) (option_and_then request_in (stage_at k y)) n
  desk_note ClaimedThere k y n = record n { batch = unplaced (requests_in (desk_held view k.held)) }
  desk_note RepliedThere k y n = record n { batch = [] }
  desk_note CollectedThere k y n = noted_answer (option_and_then answer_in (option_and_then (stage_at k) (desk_held view k.held))) n.pending n

  -- the records that were appended are the first of the batch: they have their places from there on
  abbrev pub desk_noting : DeskDeed → Noting C V
  desk_noting deed = record { appended = λ i rs n. record n { batch = placed_from i (length rs) n.batch }; at_desk = desk_note deed }

module _ (C : Type 0) {M V : Type 0} (view : V → StoreValue M) where
  -- a post, a claim, a reply and a collected answer are noted as they are
  abbrev pub PostNoted : Type 0
  PostNoted =
      (k : Known (Progress C) SessionNote V) (s : ℕ) (op : Operation) (x y : DeskView) (n : SessionNote) → k.session ≡ session k.progress.config x.node s → posted s op x ≡ Some y
      → desk_note view PostedThere k y n ≡ posted_with n (record { op = op; seen = length k.progress.history })

  abbrev pub ClaimNoted : Type 0
  ClaimNoted =
      (k : Known (Progress C) SessionNote V) (p : ℕ) (v : V) (x y : DeskView) (n : SessionNote) → k.held ≡ (p, v) ∷ [] → view v ≡ TheDesk x
      → desk_note view ClaimedThere k y n ≡ record n { batch = unplaced (batch_of x).records }

  abbrev pub CollectNoted : Type 0
  CollectNoted =
      (k : Known (Progress C) SessionNote V) (p s : ℕ) (v : V) (o : Pending) (reply : Reply) (x y : DeskView) (n : SessionNote) → k.held ≡ (p, v) ∷ [] → view v ≡ TheDesk x → k.session ≡ session k.progress.config x.node s
      → n.pending ≡ Some o → collected s x ≡ Some (record { reply = reply; desk = y }) → desk_note view CollectedThere k y n ≡ answered_with n o.op reply

module _ {C M V : Type 0} (E : Meaning C M) (view : V → StoreValue M) (IsSized : Sizes → C → V → Type 0) where
  -- with desks: a desk after the step that the session did there may be put back, where that step is noted so
  abbrev pub DeskPicked : Type 0
  DeskPicked =
      (deed : DeskDeed) (sessions : List (Known (Progress C) SessionNote V)) (k : Known (Progress C) SessionNote V) (p : ℕ) (v w : V) (x y : DeskView) (n' : SessionNote)
      → HoldsDesk E view IsSized k p v w x y n' → desk_note view deed k y k.note ≡ n' → MayPutPicked E (desk_rules E) (desk_noting view deed) view IsSized sessions k p w

  -- what such a pick comes to
  abbrev pub DeskIs : Type 0
  DeskIs =
      (deed : DeskDeed) (sessions : List (Known (Progress C) SessionNote V)) (k : Known (Progress C) SessionNote V) (w : V) (y : DeskView) → sessions ≡ k ∷ [] → view w ≡ TheDesk y
      → (put_progress sessions (view w) ≡ (λ l. l)) × (put_note (desk_noting view deed) sessions (view w) ≡ (λ n. desk_note view deed k y n))

  -- with desks: who holds the log may append the first requests of its batch, and notes their places
  abbrev pub BatchNoted : Type 0
  BatchNoted =
      (deed : DeskDeed) (known : Progress C) (c : ℕ) (n : SessionNote) (x y : LogValue M) (k : ℕ) → LogStep E known n x k y
      → MayAppend (desk_rules E) known c n (map record_of (take k n.batch)) ((desk_noting {C = C} view deed).appended (length known.history) (map record_of (take k n.batch)) n)
