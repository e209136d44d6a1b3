-- The lists of all nodes, one after another.
use Rattle.std.proofs.Common.{◌≡◌, ℕ, zero, suc, ◌+◌, ◌*◌, ◌≤◌, ◌<◌, List, [], ◌∷◌, ◌++◌, length, refl, sym, ap, ◌∙◌, inl, inr, arith, subst, length-append}
use Rattle.std.specs.Prelude.{slice_get, ◌⊎◌}
use Rattle.std.proofs.lemmas.Bool.{cases_order}
use Rattle.std.proofs.Math.Nat.{suc-mul}
use Rattle.schedule.specs.declared.parts.Opening.{Opening}
use Rattle.schedule.specs.declared.steps.Step.{Step}
use Rattle.schedule.specs.Worlds.{WorldView, opened}
use Rattle.schedule.specs.Steps.{took, world_after, world_of, trace_of}
use Rattle.schedule.specs.Taking.{IsStanding}
use Rattle.schedule.proofs.Export.{run_stands, opening_stands, every_schedule}
use Rattle.oplog.specs.Limits.{AreSizes}
use Rattle.loader.specs.CatalogueView.{IsCatalogue}
use Rattle.settlement.specs.Settling.{settling, settling_all, settling_store, taken_of, IsSettledAt, NodeAnswered, SettlesAlone, EveryScheduleSettles}
use Rattle.settlement.specs.Others.{AreOfOthers}
use Rattle.settlement.proofs.OwnSteps.{the_store, other_step}
use Rattle.settlement.proofs.NodeLists.{all_of_others}
use Rattle.settlement.proofs.InTurn.{world_append, taken_append}
use Rattle.settlement.proofs.Settled.{stands_after, settle_alone}
use Rattle.settlement.proofs.Answered.{node_answers, settled_answers}

-- steps of others leave a node as it is
untouched : (m : Opening) (k : ℕ) (steps : List Step) (w : WorldView) → AreOfOthers k steps → slice_get (world_of m w steps).nodes k ≡ slice_get w.nodes k
untouched m k [] w are = refl
untouched m k (step ∷ steps) w (ne, are) = untouched m k steps (world_after w (took m w step)) are ∙ other_step m w step k (λ e. ne (sym e))

-- a node of a store that stands, alone
alone : (m : Opening) (w : WorldView) (n : ℕ) → IsStanding (the_store m w) → n < m.config.nodes → SettlesAlone m w n
alone m w n x inside = settle_alone m w x.history x.positions x.trace n x.config x.stands inside

-- a node that the first list has settled stays settled, and so it is of one that the rest settles
first_settled : (m : Opening) (w : WorldView) (first rest : List Step) (n : ℕ) → AreOfOthers n rest → IsSettledAt (world_of m w first) n → IsSettledAt (world_of m w (first ++ rest)) n
first_settled m w first rest n are at = subst (λ v. IsSettledAt v n) (sym (world_append m w first rest)) (at.0, untouched m n rest (world_of m w first) are ∙ at.1, at.2)

rest_settled : (m : Opening) (w : WorldView) (first rest : List Step) (k : ℕ) → IsSettledAt (world_of m (world_of m w first) rest) k → IsSettledAt (world_of m w (first ++ rest)) k
rest_settled m w first rest k at = subst (λ v. IsSettledAt v k) (sym (world_append m w first rest)) at

from_first : (P : ℕ → Type 0) (n k : ℕ) → n ≤ k → P n → (n < k → P k) → P k
from_first P n k le here later = by (cases_order k n)
  where
    by : (k ≡ n) ⊎ ((k < n) ⊎ (n < k)) → P k
    by (inl same) = subst P (sym same) here
    by (inr (inl less)) = absurd (omega arith)
    by (inr (inr more)) = later more

pub all_settle : (m : Opening) (n count : ℕ) (w : WorldView) → IsStanding (the_store m w) → n + count ≤ m.config.nodes
    → (k : ℕ) → n ≤ k → k < n + count → IsSettledAt (world_of m w (settling_all n count m.config.slots)) k
all_settle m n zero w x fits k le lt = absurd (omega arith)
all_settle m n (suc count) w x fits k le lt =
    from_first (λ j. IsSettledAt (world_of m w (settling_all n (suc count) m.config.slots)) j) n k le
    (first_settled m w (settling n m.config.slots) (settling_all (suc n) count m.config.slots) n (all_of_others n (suc n) count m.config.slots (omega arith)) (alone m w n x (omega arith)).settled)
    (λ more. rest_settled m w (settling n m.config.slots) (settling_all (suc n) count m.config.slots) k
    (all_settle m (suc n) count (world_of m w (settling n m.config.slots)) (stands_after m w (settling n m.config.slots) x) (omega arith) k (omega arith) (omega arith)))

pub all_few : (m : Opening) (n count : ℕ) (w : WorldView) → IsStanding (the_store m w) → n + count ≤ m.config.nodes
    → length (taken_of m w (settling_all n count m.config.slots)) ≤ count * (m.config.slots + 14)
all_few m n zero w x fits = omega arith
all_few m n (suc count) w x fits =
    let first : List Step = settling n m.config.slots in
    let rest : List Step = settling_all (suc n) count m.config.slots in
    let few = (alone m w n x (omega arith)).few in
    let others = all_few m (suc n) count (world_of m w first) (stands_after m w first x) (omega arith) in
    let long = ap length (taken_append m w first rest) ∙ length-append (taken_of m w first) (taken_of m (world_of m w first) rest) in
    let product = suc-mul count (m.config.slots + 14) in
    omega arith

-- the whole store
pub store_settles : (m : Opening) (w : WorldView) → IsStanding (the_store m w) → (n : ℕ) → n < m.config.nodes → IsSettledAt (world_of m w (settling_store m.config)) n
store_settles m w x n inside = all_settle m 0 m.config.nodes w x (omega arith) n (omega arith) (omega arith)

pub every_schedule_settles : EveryScheduleSettles
every_schedule_settles m steps config whole =
    let opening : IsStanding (the_store m (opened m)) = record { config = config; history = []; positions = []; trace = []; stands = opening_stands m whole } in
    let before = stands_after m (opened m) steps opening in
    let after = run_stands m (steps ++ settling_store m.config) (opened m) [] [] [] (opening_stands m whole) in
    let joined = world_append m (opened m) steps (settling_store m.config) in
    record {
      answered = settled_answers m (world_of m (opened m) (steps ++ settling_store m.config)) after.0 after.1 (trace_of m (opened m) [] (steps ++ settling_store m.config)) after.2
          (λ n inside. subst (λ v. IsSettledAt v n) (sym joined) (store_settles m (world_of m (opened m) steps) before n inside));
      explained = every_schedule m (steps ++ settling_store m.config) whole;
      few = all_few m 0 m.config.nodes (world_of m (opened m) steps) before (omega arith);
    }

-- after any steps of a new store one node's list answers each call of its sessions
pub node_settles : (m : Opening) (steps : List Step) (n : ℕ) → AreSizes m.config → IsCatalogue m.catalogue
    → NodeAnswered m.config n (trace_of m (opened m) [] (steps ++ settling n m.config.slots))
node_settles m steps n config whole x mode op c own call =
    let opening : IsStanding (the_store m (opened m)) = record { config = config; history = []; positions = []; trace = []; stands = opening_stands m whole } in
    let before = stands_after m (opened m) steps opening in
    let all : List Step = steps ++ settling n m.config.slots in
    let after = run_stands m all (opened m) [] [] [] (opening_stands m whole) in
    let settled = (alone m (world_of m (opened m) steps) n before own.3).settled in
    let there = subst (λ v. IsSettledAt v n) (sym (world_append m (opened m) steps (settling n m.config.slots))) settled in
    node_answers m (world_of m (opened m) all) after.0 after.1 (trace_of m (opened m) [] all) n after.2 there x mode op c own call
