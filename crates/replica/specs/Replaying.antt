-- The outcomes that are kept when records are replayed.
use Rattle.std.specs.Prelude.{◌≡◌, ◌⊎◌, ℕ, ◌+◌, ◌<◌, ◌≤◌, length, take, Some, slice_get}
use Rattle.oplog.specs.Operations.{Operation}
use Rattle.oplog.specs.declared.records.Record.{Record}
use Rattle.oplog.specs.History.{Effect, History, after}
use Rattle.machine.specs.declared.running.Outcome.{Outcome}
use Rattle.loader.specs.CatalogueView.{CatalogueView}
use Rattle.loader.specs.StoreState.{StoreState}
use Rattle.replica.specs.StoreMeaning.{outcome_of, store_meaning}
use Rattle.replica.specs.Views.{RepliesView}

-- the operation as an update of this state answers this
pub record IsAnswered (c : CatalogueView) (op : Operation) (s : StoreState) (o : Outcome) : Type 0 where
  pub done : Effect StoreState
  pub takes : store_meaning.update c op s ≡ Some done
  pub outcome : o ≡ outcome_of done

-- these records, performed one after the other on this state, leave that
abbrev pub Leaves : CatalogueView → StoreState → History → StoreState → Type 0
Leaves c s records left = left ≡ after store_meaning c s records

-- the records, the first at index begin, were replayed on this state: of each at an index that is kept, the outcome on the state after
-- the records before it; at the other indexes what was kept before
pub record KeepsOutcomes (c : CatalogueView) (s : StoreState) (begin : ℕ) (records : History) (old new : RepliesView) : Type 0 where
  pub first : new.first ≡ old.first
  pub count : length new.outcomes ≡ length old.outcomes
  pub replayed : (k i : ℕ) (r : Record) → k < length old.outcomes → slice_get records i ≡ Some r → old.first + k ≡ begin + i
      → (o : Outcome) × (slice_get new.outcomes k ≡ Some (Some o)) × IsAnswered c r.op (after store_meaning c s (take i records)) o
  pub others : (k : ℕ) → (old.first + k < begin) ⊎ (begin + length records ≤ old.first + k) → slice_get new.outcomes k ≡ slice_get old.outcomes k
