-- A replica and the outcomes that are kept, as their users see them.
use Rattle.std.specs.Prelude.{ℕ, ◌-◌, List, replicate, Option, Some, None, slice_set, nat_le, if◌then◌else◌, refl}
use Rattle.std.specs.Coded.{Coded, code_by, coded×, coded_ℕ}
use Rattle.loader.specs.StoreState.{StoreState}
use Rattle.loader.specs.Codes.{state_code}
use Rattle.machine.specs.declared.running.Outcome.{Outcome}

-- how many records it has applied, and its state after them
pub record ReplicaView : Type 0 where
  pub tail : ℕ
  pub state : StoreState

-- the outcomes of the records at the indexes from first on, one for each index; none where the record there was not replayed
pub record RepliesView : Type 0 where
  pub first : ℕ
  pub outcomes : List (Option Outcome)

abbrev pub no_replies : ℕ → ℕ → RepliesView
no_replies first count = record { first = first; outcomes = replicate count None }

-- the outcome of the record at an index, if that index is one of those kept
abbrev pub with_outcome : RepliesView → ℕ → Outcome → RepliesView
with_outcome kept index outcome =
    record { first = kept.first; outcomes = if nat_le kept.first index then slice_set kept.outcomes (index - kept.first) (Some outcome) else kept.outcomes }

-- a replica is told apart by its parts
abbrev pub replica_code : Coded ReplicaView
replica_code = code_by (ℕ × StoreState) (coded× coded_ℕ state_code) (λ r. (r.tail, r.state)) (λ p. record { tail = p.0; state = p.1 }) (λ _. refl)
