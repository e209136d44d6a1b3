-- A look at a replica that has come up, and at a key that may be looked for.
use Rattle.std.proofs.Common.{◌≡◌, ℕ, ◌≤◌, sym, ap, ◌∙◌, subst, arith, Option}
use Rattle.loader.specs.CatalogueView.{CatalogueView}
use Rattle.loader.specs.StoreState.{StoreState}
use Rattle.oplog.specs.History.{state_after}
use Rattle.replica.specs.StoreMeaning.{store_meaning}
use Rattle.ownlock.specs.declared.known.ShelfStep.TheVariants.{Put}
use Rattle.ownlock.specs.Seats.{HasStepped}
use Rattle.node.specs.declared.following.NodeReplica.{NodeReplica}
use Rattle.store_steps.specs.declared.values.Value.{Value}
use Rattle.store_steps.specs.Lending.{with_replica}
use Rattle.store_steps.specs.Ready.{HoldsReady}
use Rattle.store_steps.specs.Sights.{HasSeen, HasSight, Heard, SightBy}
use Rattle.accounts.specs.ReadNotes.{heard_at}
use Rattle.oplog.specs.Operations.{Operation}
use Rattle.store_steps.specs.Standing.{SessionKnown}
use Rattle.store_steps.specs.Trying.{IsStill}
use Rattle.store_steps.specs.Whole.{LooksBy}
use Rattle.store_steps.proofs.Finished.{BackWith}
use Rattle.store_steps.proofs.Ready.{agrees_now, has_seen, looks_ready}
use Rattle.store_steps.proofs.Tried.{looks_since, seen_since}

abbrev K : Type 0
K = SessionKnown

-- ---- the replica is put back

module _ (asked : Option Operation) (k a : K) (p : ℕ) (v : Value) (h : HoldsReady asked k a p v) (f : K) (reply point : ℕ) (b : BackWith (heard_at asked point reply a.note) a f) (n : NodeReplica) (n_is : n ≡ h.node)
    (point_is : point ≡ n.replica.tail) where
  at : point ≡ h.node.replica.tail
  at = point_is ∙ ap (λ (z : NodeReplica). z.replica.tail) n_is

  abbrev heard : Heard
  heard = record { asked = asked; reply = reply }

  seen_there : HasSeen heard k f point
  seen_there = has_seen asked k a p v h f reply point at b

  low_there : point ≤ f.progress.completed
  low_there = let low = (agrees_now asked k a p v h f reply point at b).0.tail in let is = at in omega (arith, low, is)

  state_there : n.replica.state ≡ state_after store_meaning f.progress.catalogue f.progress.history point
  state_there = ap (λ (z : NodeReplica). z.replica.state) n_is ∙ ((agrees_now asked k a p v h f reply point at b).0.state ∙ ap (state_after store_meaning f.progress.catalogue f.progress.history) (sym at))

  look_there : (q : ℕ) → q ≡ p → HasStepped a (Put q (with_replica h.value h.node)) f → (by : LooksBy k f point) × (by.left ≡ n)
  look_there q here put = let t = looks_ready asked k a p v h f reply point at b q here put in (t.0, t.1 ∙ sym n_is)

  module _ (c : CatalogueView) (same : k.progress.catalogue ≡ c) (P : CatalogueView → StoreState → Type 0) (is : P c n.replica.state) where
    pub sight_ready : HasSight heard P point k f
    sight_ready = (seen_there, (seen_there.far, low_there, subst (λ (z : CatalogueView × StoreState). P z.0 z.1) (λ i. ((sym same ∙ seen_there.extends.catalogue) i, state_there i)) is))

    pub sights_ready : (q : ℕ) → q ≡ p → HasStepped a (Put q (with_replica h.value h.node)) f → SightBy P point k f
    sights_ready q here put =
        let t = look_there q here put in
        (t.0, subst (λ (z : CatalogueView × NodeReplica). P z.0 z.1.replica.state) (λ i. (sym same i, sym t.1 i)) is)

-- ---- a place was held before

module _ (h : Heard) (k m f : K) (s : IsStill k m) (P : CatalogueView → StoreState → Type 0) (point : ℕ) where
  pub sight_since : HasSight h P point m f → HasSight h P point k f
  sight_since t = let up = s.extends.completed in let low = t.1.0 in (seen_since h k m f s point t.0, (omega (arith, up, low), t.1.1, t.1.2))

  pub sights_since : m.progress.completed ≤ point → SightBy P point m f → SightBy P point k f
  sights_since far r =
      let t = looks_since k m f s point far r.0 in
      (t.0, subst (λ (z : CatalogueView × NodeReplica). P z.0 z.1.replica.state) (λ i. (sym s.extends.catalogue i, sym t.1 i)) r.1)
