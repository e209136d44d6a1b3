-- A session that holds its node's replica, once that has come up.
use Rattle.std.specs.Prelude.{◌≡◌, ℕ, true, ◌≤◌, [], ◌∷◌, ◌++◌, length, nat_lt, Option, Some}
use Rattle.ownlock.specs.declared.known.ShelfStep.TheVariants.{Read, Took}
use Rattle.ownlock.specs.Seats.{tails_in}
use Rattle.loader.specs.CatalogueView.{CatalogueView}
use Rattle.oplog.specs.Operations.{Operation}
use Rattle.replica.specs.StoreMeaning.{store_meaning}
use Rattle.accounts.specs.Accounts.{Extends}
use Rattle.accounts.specs.ReadNotes.{IsAskable, asked_with}
use Rattle.node.specs.declared.following.NodeReplica.{NodeReplica}
use Rattle.store_steps.specs.declared.values.Value.{Value}
use Rattle.store_steps.specs.Doing.{AReplica, Did}
use Rattle.store_steps.specs.Lending.{replica_of, with_replica}
use Rattle.store_steps.specs.Knowing.{LearnsBy}
use Rattle.store_steps.specs.Standing.{SessionKnown, Stands, StoreSeat, Agrees, HasReached, HoldsReplica}
use Rattle.store_steps.specs.Whole.{FollowsBy}

-- the read, if there is one, is of this catalogue
abbrev pub MayRead : CatalogueView → Option Operation → Type 0
MayRead c asked = (op : Operation) → asked ≡ Some op → store_meaning.is_read c op ≡ true

-- the session may ask this read, if there is one
abbrev pub MayBegin : Option Operation → SessionKnown → Type 0
MayBegin asked k = IsAskable store_meaning k asked

-- the session has asked it, and the replica has all that was completed then
pub record HasAskedRead (asked : Option Operation) (k after : SessionKnown) (n : NodeReplica) : Type 0 where
  pub seen : ℕ
  pub low : seen ≤ n.replica.tail
  pub note : after.note ≡ asked_with asked seen k.note

-- the session has brought a node's replica, which was n and is m, to the tail that was completed, and has asked this read
abbrev pub SessionFollows : Option Operation → (old new : StoreSeat) → (n m : NodeReplica) → Type 0
SessionFollows asked old new n m =
    LearnsBy old new (λ k after. HasReached k after k.progress.completed m × HasAskedRead asked k after m) (λ k after. FollowsBy true k after n m)

-- the session has taken the replica of its node, which is the value v now that it has come up to the completed tail; it has asked this read
pub record HoldsReady (asked : Option Operation) (k after : SessionKnown) (place : ℕ) (v : Value) : Type 0 where
  -- what the session knew once it had taken the replica and loaded the completed tail, and what that was
  pub taking : SessionKnown
  pub grown : Extends k.progress taking.progress
  pub begun : ℕ
  pub begun_is : begun ≡ taking.progress.completed
  pub stands : Stands taking
  pub value : Value
  pub own : NodeReplica
  pub own_is : Agrees taking.progress own
  -- what the replica has become
  pub node : NodeReplica
  pub on : Extends taking.progress after.progress
  -- the replica has caught up with the log if and only if it was below the tail
  pub follows : FollowsBy (nat_lt own.replica.tail begun) taking after own node
  pub agrees : Agrees after.progress node
  pub within : node.replica.tail ≤ length after.progress.history
  pub reached : begun ≤ node.replica.tail
  pub is : v ≡ with_replica value node
  -- what the session is
  pub holds : HoldsReplica after value
  pub held : after.held ≡ (place, value) ∷ []
  pub session : after.session ≡ k.session
  pub asks : HasAskedRead asked k after node
  pub read : tails_in after.steps ≡ tails_in k.steps ++ begun ∷ []
  pub did : Did k taking (Took place (AReplica own) ∷ Read begun ∷ [])
  pub some : replica_of value ≡ Some own
