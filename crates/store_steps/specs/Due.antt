-- What a session has appended, and its replica has still to apply.
use Rattle.std.specs.Prelude.{◌≡◌, ℕ, ◌+◌, ◌≤◌, ◌++◌, length, take}
use Rattle.loader.specs.CatalogueView.{CatalogueView}
use Rattle.oplog.specs.History.{History}
use Rattle.oplog.specs.Logs.{Log as LogView}
use Rattle.combiner.specs.Desks.{BatchView}
use Rattle.replica.specs.Replaying.{KeepsOutcomes}
use Rattle.replica.specs.Views.{RepliesView}
use Rattle.store_steps.specs.declared.steps.Shared.{Shared}
use Rattle.node.specs.Following.{replayed_first, with_more}
use Rattle.node.specs.declared.following.NodeReplica.{NodeReplica}
use Rattle.store_steps.specs.Knowing.{LearnsBy}
use Rattle.store_steps.specs.Standing.{HasAppended, HasOthers, HasPlace, HasReplayed, SessionKnown, Stands, StoreSeat}
use Rattle.store_steps.specs.Whole.{AppendsAny, MakesRoom, ReplaysAnywhere}

-- the first of these records: those that have a place, for which outcomes are kept
abbrev pub placed_of : History → RepliesView → History
placed_of records kept = take (length kept.outcomes) records

-- the node with those behind the others in its hand
abbrev pub with_placed : History → RepliesView → NodeReplica → NodeReplica
with_placed records kept n = with_more (placed_of records kept) n

-- the outcomes of those are kept, once the node's replica has applied what is in its hand then
abbrev pub KeepsPlaced : CatalogueView → History → NodeReplica → (old new : RepliesView) → Type 0
KeepsPlaced c records n old new =
    KeepsOutcomes c n.replica.state n.replica.tail (n.hand.records ++ placed_of records old) old new

-- the node once its replica has applied the first of the records in its hand, so many, with those that were appended behind the others
abbrev pub brought : CatalogueView → (owed : ℕ) → (appended : History) → NodeReplica → NodeReplica
brought c owed appended n = with_more appended (replayed_first c owed n)

-- so brought, the node has all other records of the history in its hand, the last of which are those that were appended
pub record IsDue (c : CatalogueView) (owed : ℕ) (records : History) (kept : RepliesView) (n : NodeReplica)
    (k : SessionKnown) : Type 0 where
  pub others : HasOthers k.progress (brought c owed (placed_of records kept) n)
  pub stands : Stands k
  pub catalogue : k.progress.catalogue ≡ c
  pub placed : length kept.outcomes ≤ length records
  pub last : kept.first + length kept.outcomes ≡ length k.progress.history

-- while it holds the log g, the session of the seat has made room there for so many records: g and the node n are h and m now
abbrev pub SessionMakesRoom : ℕ → (old new : StoreSeat) → (g h : LogView) → (n m : NodeReplica) → Type 0
SessionMakesRoom want old new g h n m = LearnsBy old new (λ k after. HasPlace k after want g h m) (λ k after. MakesRoom want k after g h n m)

-- the session of the seat has appended this batch; its node was n, and is m, where so many records bring the replica
-- back
abbrev pub SessionAppends : Shared → (old new : StoreSeat) → (n m : NodeReplica) → BatchView → RepliesView → (owed : ℕ)
    → Type 0
SessionAppends shared old new n m b kept owed =
    (let due = brought shared.catalogue.now owed (placed_of b.records kept) m in
    LearnsBy old new (λ k after. HasAppended k after b.records kept due)
    (λ k after. AppendsAny k after b.records n due kept))

-- what was due of this batch at the node n is replayed, and the node is m then; the outcomes that are kept were these,
-- and are those
abbrev pub ReplaysDue : Shared → (owed : ℕ) → BatchView → (old new : StoreSeat) → (n m : NodeReplica)
    → (these those : RepliesView) → Type 0
ReplaysDue shared owed b old new n m these those =
    (let due = brought shared.catalogue.now owed (placed_of b.records these) n in
    LearnsBy old new (λ k after. HasReplayed k after due m these those)
    (λ k after. ReplaysAnywhere k after due m these those))
