-- The log and the replicas that a closed store leaves.
use Rattle.std.proofs.Common.{◌≡◌, ℕ, zero, suc, ◌+◌, ◌≤◌, List, [], ◌∷◌, length, sym, refl, subst, arith, Option, Some, None, slice_get}
use Rattle.std.proofs.lemmas.Option.{slice_get_past}
use Rattle.std.specs.Global.{Box}
use Rattle.replica.specs.Views.{ReplicaView}
use Rattle.node.specs.declared.following.NodeReplica.{NodeReplica}
use Rattle.store_steps.specs.declared.values.Value.{Value}
use Rattle.store_steps.specs.declared.values.Value.TheVariants.{Replica}
use Rattle.store.specs.Opening.{AreLeft, replica_slots, replicas_in}

-- what stands at a place of the values, and what at a place of the replicas
abbrev Same : Option (Option Value) → Option ReplicaView → Type 0
Same (Some v) r = (n : Box NodeReplica) × (v ≡ Some (Replica n)) × (r ≡ Some n.value.replica)
Same None r = r ≡ None

same_slots : (ns : List (Box NodeReplica)) (node : ℕ)
    → Same (slice_get (replica_slots ns) node) (slice_get (replicas_in (replica_slots ns)) node)
same_slots [] node = refl
same_slots (n ∷ ns) zero = (n, refl, refl)
same_slots (n ∷ ns) (suc node) = same_slots ns node

one_more : (node : ℕ) → suc node ≡ 1 + node
one_more node = omega arith

same : (values : List (Option Value)) (node : ℕ) → AreLeft values
    → Same (slice_get values (1 + node)) (slice_get (replicas_in values) node)
same values node left =
    subst (λ z. Same (slice_get values z) (slice_get (replicas_in values) node)) (one_more node)
    (subst (λ z. Same (slice_get z (suc node)) (slice_get (replicas_in z) node)) (sym left.2) (same_slots left.1 node))

-- past the last node there is no replica, and before that there is nothing else
pub none_there : (values : List (Option Value)) (node : ℕ) → AreLeft values → slice_get values (1 + node) ≡ None
    → slice_get (replicas_in values) node ≡ None
none_there values node left e = subst (λ z. Same z (slice_get (replicas_in values) node)) e (same values node left)

pub some_there : (values : List (Option Value)) (node : ℕ) (v : Option Value) → AreLeft values
    → slice_get values (1 + node) ≡ Some v
    → (n : Box NodeReplica) × (v ≡ Some (Replica n)) × (slice_get (replicas_in values) node ≡ Some n.value.replica)
some_there values node v left e = subst (λ z. Same z (slice_get (replicas_in values) node)) e (same values node left)

pub past : (values : List (Option Value)) (node : ℕ) → AreLeft values → length values ≤ 1 + node
    → slice_get (replicas_in values) node ≡ None
past values node left far = none_there values node left (slice_get_past values (1 + node) far)
