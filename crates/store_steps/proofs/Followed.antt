-- A replica that follows the history, the log of a progress, and what the steps on both leave.
use Rattle.std.proofs.Common.{◌≡◌, suc, ◌+◌, ◌-◌, ◌<◌, ◌≤◌, ◌&&◌, true, false, [], length, drop, refl, sym, ap, ◌∙◌, subst, arith, Some, slice_get, ⊎_elim}
use Rattle.std.proofs.lemmas.Bool.{cases_lt, le-leb, le-ltb}
use Rattle.loader.specs.StoreState.{sizes_of}
use Rattle.loader.specs.CatalogueView.{CatalogueView, longest_part, sizes_for}
use Rattle.oplog.specs.declared.configuration.TheConstants.{ENDLESS}
use Rattle.oplog.specs.Logs.{Log as LogView, HandView, records_from}
use Rattle.oplog.specs.History.{state_after}
use Rattle.replica.specs.StoreMeaning.{store_meaning, AreUpdates}
use Rattle.accounts.specs.declared.sessions.Progress.{Progress}
use Rattle.accounts.specs.Accounts.{Extends, IsWellFormed}
use Rattle.accounts.proofs.Export.{state_on, grown_long, at_of}
use Rattle.node.specs.declared.following.NodeReplica.{NodeReplica}
use Rattle.node.specs.Following.{Fits, copied, is_above, may_rebase, no_records, rebased}
use Rattle.store_steps.specs.Standing.{Follows, HasOthers, IsLogOf}
use Rattle.store_steps.proofs.Places.{at_drop, drop_drop}

abbrev L : Type 0
L = Progress CatalogueView

-- what follows a progress follows each later one
pub follows_on : (l m : L) (n : NodeReplica) → Extends l m → Follows l n → Follows m n
follows_on l m n grown f =
    let low = f.within in let long = grown_long store_meaning l m grown in
    record {
      within = omega (arith, low, long);
      state = f.state ∙ state_on store_meaning l m n.replica.tail grown f.within;
      sizes = f.sizes ∙ ap sizes_for grown.catalogue;
      window = f.window ∙ ap (λ c. c.window) grown.config;
      long = f.long ∙ ap longest_part grown.catalogue;
      begins = f.begins;
      empty = f.empty;
    }

module _ (l : L) (g : LogView) (n : NodeReplica) (is : IsLogOf l g) (f : Follows l n) where
  -- the base is a replica too
  pub follows_rebased : Follows l (rebased g n)
  follows_rebased = let t = is.tail in record {
    within = omega (arith, t);
    state = is.agrees.base_state;
    sizes = is.sizes.2;
    window = f.window;
    long = f.long;
    begins = refl;
    empty = refl;
  }

  -- the guard asks for an empty hand too, which a replica that follows has
  lags : n.replica.tail < g.base → may_rebase g n ≡ true
  lags lt = ap (λ b. b && no_records n.hand.records) (le-leb (suc n.replica.tail) g.base (omega (arith, lt))) ∙ ap no_records f.empty

  pub kept_up : (m : NodeReplica) → (may_rebase g n ≡ true → m ≡ rebased g n) → (may_rebase g n ≡ false → m ≡ n) → Follows l m × (g.base ≤ m.replica.tail)
  kept_up m below above = ⊎_elim
      (λ lt. let e = below (lags lt) in (subst (Follows l) (sym e) follows_rebased, (let t : m.replica.tail ≡ g.base = ap (λ (z : NodeReplica). z.replica.tail) e in omega (arith, t))))
      (λ le. let e = above (ap (λ b. b && no_records n.hand.records) (le-ltb n.replica.tail g.base le)) in (subst (Follows l) (sym e) f, (let t : m.replica.tail ≡ n.replica.tail = ap (λ (z : NodeReplica). z.replica.tail) e in omega (arith, t, le))))
      (cases_lt n.replica.tail g.base)

  pub fits : Fits g n
  fits = let t = is.tail in let w = f.within in record { tail = omega (arith, t, w); window = f.window ∙ sym is.sizes.0; long = f.long ∙ sym is.sizes.3 }

  module _ (low : g.base ≤ n.replica.tail) where
    pub above : is_above g n ≡ true
    above = le-leb g.base n.replica.tail low

    pub others : records_from g n.replica.tail ≡ drop n.replica.tail l.history
    others = ap (drop (n.replica.tail - g.base)) is.agrees.records ∙ drop_drop g.base n.replica.tail l.history low

    pub has_others : length l.history ≤ ENDLESS → HasOthers l (copied g n)
    has_others few = record {
      within = f.within;
      state = f.state;
      sizes = f.sizes;
      few = few;
      hand = λ i. record { begin = n.replica.tail; records = others i; window = f.window i; long = f.long i };
    }

    pub updates : IsWellFormed store_meaning l → AreUpdates l.catalogue (records_from g n.replica.tail)
    updates w k r e = w.allowed (n.replica.tail + k) r (at_drop n.replica.tail l.history k r (at_of (drop n.replica.tail l.history) k r (subst (λ z. slice_get z k ≡ Some r) others e)))

-- the replica has applied the whole history, and its hand rests
pub record HasAll (l : L) (n : NodeReplica) : Type 0 where
  pub tail : n.replica.tail ≡ length l.history
  pub state : n.replica.state ≡ state_after store_meaning l.catalogue l.history n.replica.tail
  pub sizes : sizes_of n.replica.state ≡ sizes_for l.catalogue
  pub hand : n.hand ≡ (let rest : HandView = record { begin = n.replica.tail; records = []; window = l.config.window; long = longest_part l.catalogue } in rest)

pub all_follows : (l : L) (n : NodeReplica) → HasAll l n → Follows l n
all_follows l n a = let t = a.tail in record { within = omega (arith, t); state = a.state; sizes = a.sizes; window = ap (λ (h : HandView). h.window) a.hand; long = ap (λ (h : HandView). h.long) a.hand; begins = ap (λ (h : HandView). h.begin) a.hand; empty = ap (λ (h : HandView). h.records) a.hand }
