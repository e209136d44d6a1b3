-- A value that has a part of one kind: how it is seen, and its sizes with another part.
use Rattle.std.proofs.Common.{◌≡◌, true, false, [], sym, refl, ap, ◌∙◌, subst, Some}
use Rattle.std.specs.Prelude.{IsSome}
use Rattle.std.proofs.lemmas.Option.{none-some}
use Rattle.loader.specs.StoreState.{StoreState}
use Rattle.loader.specs.CatalogueView.{CatalogueView}
use Rattle.oplog.specs.declared.configuration.Sizes.{Sizes}
use Rattle.combiner.specs.Desks.{DeskView}
use Rattle.accounts.specs.Values.{LogValue, ReplicaValue, StoreValue, TheLog, TheReplica, TheDesk}
use Rattle.accounts.specs.Putting.{KeepsSizes}
use Rattle.node.specs.declared.following.NodeReplica.{NodeReplica}
use Rattle.store_steps.specs.declared.values.Value.{Value}
use Rattle.store_steps.specs.declared.values.Value.TheVariants.{Log, Replica, Desk}
use Rattle.store_steps.specs.Lending.{log_of, replica_of, desk_of, with_replica, with_desk}
use Rattle.store_steps.specs.Shelving.{view_of, IsSized, HasReplicaSizes, log_value, replica_value}

-- ---- what is seen as a part has that part

abbrev IsLogSeen : StoreValue StoreState → Type 0
IsLogSeen (TheLog x) = Unit {0}
IsLogSeen (TheReplica x) = ⊥
IsLogSeen (TheDesk x) = ⊥

abbrev IsReplicaSeen : StoreValue StoreState → Type 0
IsReplicaSeen (TheReplica x) = Unit {0}
IsReplicaSeen (TheLog x) = ⊥
IsReplicaSeen (TheDesk x) = ⊥

abbrev pub IsDeskSeen : StoreValue StoreState → Type 0
IsDeskSeen (TheDesk x) = Unit {0}
IsDeskSeen (TheLog x) = ⊥
IsDeskSeen (TheReplica x) = ⊥

abbrev pub desk_or : DeskView → StoreValue StoreState → DeskView
desk_or d (TheDesk x) = x
desk_or d (TheLog x) = d
desk_or d (TheReplica x) = d

pub has_log : (x : Value) (v : LogValue StoreState) → view_of x ≡ TheLog v → IsSome (log_of x)
has_log (Log g) v e = refl
has_log (Replica n) v e = absurd (subst IsLogSeen (sym e) tt)
has_log (Desk d) v e = absurd (subst IsLogSeen (sym e) tt)

pub has_replica : (w : Value) (v : ReplicaValue StoreState) → view_of w ≡ TheReplica v → IsSome (replica_of w)
has_replica (Replica n) v e = refl
has_replica (Log g) v e = absurd (subst IsReplicaSeen (sym e) tt)
has_replica (Desk d) v e = absurd (subst IsReplicaSeen (sym e) tt)

pub has_desk : (v : Value) (x : DeskView) → view_of v ≡ TheDesk x → desk_of v ≡ Some x
has_desk (Desk d) x e = ap (λ z. Some (desk_or x z)) e
has_desk (Log g) x e = absurd (subst IsDeskSeen (sym e) tt)
has_desk (Replica n) x e = absurd (subst IsDeskSeen (sym e) tt)

not_some : false ≡ true → ⊥
not_some e = cc

pub log_seen : (x : Value) → IsSome (log_of x) → (v : LogValue StoreState) × (view_of x ≡ TheLog v)
log_seen (Log g) e = (log_value g.value, refl)
log_seen (Replica n) e = absurd (not_some e)
log_seen (Desk d) e = absurd (not_some e)

-- ---- a replica

pub replica_seen : (w : Value) → IsSome (replica_of w) → (v : ReplicaValue StoreState) × (view_of w ≡ TheReplica v)
replica_seen (Replica n) e = (replica_value n.value.replica, refl)
replica_seen (Log g) e = absurd (not_some e)
replica_seen (Desk d) e = absurd (not_some e)

pub replica_put : (w : Value) (n : NodeReplica) → IsSome (replica_of w) → view_of (with_replica w n) ≡ TheReplica (replica_value n.replica)
replica_put (Replica m) n e = refl
replica_put (Log g) n e = absurd (not_some e)
replica_put (Desk d) n e = absurd (not_some e)

-- a replica keeps the window of its hand and the room there for an argument, and the sizes of its state
pub replica_sizes : (config : Sizes) (c : CatalogueView) (w : Value) (n : NodeReplica) → IsSome (replica_of w) → IsSized config c w → HasReplicaSizes config c n → KeepsSizes IsSized w (with_replica w n)
replica_sizes config c (Replica m) n e s t d b u =
    (t.0 ∙ (sym s.0 ∙ u.0), t.1 ∙ (λ i. record { begin = n.replica.tail; records = []; window = (sym (ap (λ z. z.window) s.1) ∙ ap (λ z. z.window) u.1) i; long = (sym (ap (λ z. z.long) s.1) ∙ ap (λ z. z.long) u.1) i }))
replica_sizes config c (Log g) n e s t d b u = absurd (not_some e)
replica_sizes config c (Desk g) n e s t d b u = absurd (not_some e)

-- ---- a desk

pub desk_put : (v : Value) (x y : DeskView) → desk_of v ≡ Some x → view_of (with_desk v y) ≡ TheDesk y
desk_put (Desk d) x y e = refl
desk_put (Log g) x y e = absurd (none-some x e)
desk_put (Replica n) x y e = absurd (none-some x e)
