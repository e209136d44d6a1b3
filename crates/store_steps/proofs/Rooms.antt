-- While the log is held: a replica that keeps up with its base and follows it, and a log that gets room.
use Rattle.std.proofs.Common.{◌≡◌, Bool, true, false, ℕ, zero, suc, ◌+◌, ◌-◌, ◌<◌, ◌≤◌, min, length, drop, refl, sym, ap, ◌∙◌, subst, arith, ⊎_elim}
use Rattle.std.specs.Prelude.{◌⊎◌}
use Rattle.std.proofs.Math.Nat.{le-max_right, max-le, min-le_left}
use Rattle.loader.specs.StoreState.{sizes_of}
use Rattle.loader.specs.CatalogueView.{CatalogueView, longest_part, sizes_for}
use Rattle.oplog.specs.Logs.{Log as LogView, tail_of, left_of, room_in}
use Rattle.oplog.specs.declared.configuration.TheConstants.{ENDLESS}
use Rattle.replica.specs.StoreMeaning.{store_meaning}
use Rattle.accounts.specs.Accounts.{IsWellFormed}
use Rattle.accounts.specs.Agreement.{LogAgrees}
use Rattle.accounts.proofs.Export.{state_on}
use Rattle.node.specs.declared.following.NodeReplica.{NodeReplica}
use Rattle.store_steps.specs.Shelving.{log_value}
use Rattle.node.specs.Following.{copied, exchanged, replayed, told, reclaimed}
use Rattle.store_steps.specs.Rooms.{FreesRoom, Owes, caught_up}
use Rattle.store_steps.specs.Standing.{SessionKnown, Follows, IsLogOf, HoldsLog, HasPlace, HasRaised}
use Rattle.store_steps.proofs.StoreLaws.{store_laws}
use Rattle.store_steps.proofs.Taken.{well_formed}
use Rattle.store_steps.proofs.Places.{long_drop}
use Rattle.store_steps.proofs.Followed.{all_follows, follows_on, others}
use Rattle.store_steps.proofs.Played.{followed_all}
use Rattle.store_steps.proofs.Exchanged.{again, none_owed, nothing, some_owed}

abbrev K : Type 0
K = SessionKnown

-- ---- a replica that comes up where it doesn't free room enough

module _ (k : K) (g : LogView) (u v : NodeReplica) (is : IsLogOf k.progress g) (f : Follows k.progress u) (low : g.base ≤ u.replica.tail) (want : ℕ) (few : want ≤ 16) (wide : 16 ≤ g.window) (due : (room_in g < min want (left_of g)) ⊎ FreesRoom want g u) where
  some : g.base < tail_of g
  some = let t = is.tail in let within = f.within in ⊎_elim (λ lacks. let least = min-le_left want (left_of g) in omega (arith, lacks, wide, few, least)) (λ frees. let past = frees.0 in omega (arith, t, within, past)) due

  pub came : (up : Bool) → (up ≡ false → (v ≡ u) × FreesRoom want g u) → (up ≡ true → v ≡ replayed k.progress.catalogue (copied g u)) → sizes_of v.replica.state ≡ sizes_of u.replica.state → Follows k.progress v × FreesRoom want g v
  came false stays ran same = let s = stays refl in (subst (Follows k.progress) (sym s.0) f, subst (FreesRoom want g) (sym s.0) s.1)
  came true stays ran same =
      let all = followed_all k.progress g u v is f low (ran refl) same in
      let t = is.tail in let a = all.tail in let least = min-le_left want (left_of g) in let more = some in
      (all_follows k.progress v all, (omega (arith, t, a, more), omega (arith, t, a, wide, few, least)))

-- ---- reclaiming

-- a replica that frees room enough, once all that it has applied is completed, is the base of a log with that room
module _ (k after : K) (g : LogView) (u : NodeReplica) (is : IsLogOf k.progress g) (f : Follows k.progress u) (up : HasRaised k after u.replica.tail) (holds : HoldsLog k) (want : ℕ) (frees : FreesRoom want g u) where
  abbrev told_log : LogView
  told_log = told u g

  abbrev h : LogView
  h = reclaimed u told_log

  low : g.base ≤ u.replica.tail
  low = let past = frees.0 in omega (arith, past)

  left : h.records ≡ drop u.replica.tail k.progress.history
  left = others k.progress g u is f low

  agrees : LogAgrees store_meaning after.progress (log_value h)
  agrees =
      let done = is.agrees.done in let rise = up.goes.extends.completed in let top = up.completed in
      record {
        done = max-le (omega (arith, done, rise)) (omega (arith, top));
        base = le-max_right g.done u.replica.tail;
        base_state = f.state ∙ state_on store_meaning k.progress after.progress u.replica.tail up.goes.extends f.within;
        records = left ∙ ap (drop u.replica.tail) (up.still holds);
      }

  same_tail : tail_of h ≡ length k.progress.history
  same_tail = ap (λ z. u.replica.tail + length z) left ∙ long_drop u.replica.tail k.progress.history f.within

  pub log_of_base : IsLogOf after.progress h
  log_of_base = record {
    agrees = agrees;
    tail = same_tail ∙ ap length (up.still holds);
    sizes = (
      is.sizes.0 ∙ ap (λ c. c.window) up.goes.extends.config,
      is.sizes.1 ∙ ap (λ c. c.limit) up.goes.extends.config,
      f.sizes ∙ ap sizes_for up.goes.extends.catalogue,
      is.sizes.3 ∙ ap longest_part up.goes.extends.catalogue,
    );
  }

  has_room : min want (left_of h) ≤ room_in h
  has_room =
      let t = is.tail in let s = same_tail in let room = frees.1 in
      let as_left : left_of h ≡ left_of g = ap (λ z. g.limit - z) (s ∙ sym t) in
      let as_kept : length h.records ≡ tail_of g - u.replica.tail = omega (arith, t, s) in
      let as_room : room_in h ≡ g.window - (tail_of g - u.replica.tail) = ap (λ z. g.window - z) as_kept in
      let as_min : min want (left_of h) ≡ min want (left_of g) = ap (min want) as_left in
      omega (arith, as_room, as_min, room)

  pub freed : HasPlace k after want g h u
  freed = record {
    goes = up.goes;
    note = up.note;
    well = well_formed after.progress up.stands.notes up.stands.accounts;
    same = sym (up.still holds);
    log = log_of_base;
    keeps = (refl, refl, f.sizes ∙ sym is.sizes.2, refl);
    follows = follows_on k.progress after.progress u up.goes.extends f;
    above = omega arith;
    room = has_room;
  }

  -- ---- what the node then owes

  module _ (h2 : LogView) (p : NodeReplica) (log : h2 ≡ h) (top : tail_of h2 ≤ ENDLESS) (well : IsWellFormed store_meaning k.progress) where
    abbrev c : CatalogueView
    c = k.progress.catalogue

    few : length k.progress.history ≤ ENDLESS
    few = let s = same_tail in let e = ap tail_of log in omega (arith, s, e, top)

    later_follows : Follows after.progress u
    later_follows = follows_on k.progress after.progress u up.goes.extends f

    pub brought : (owed : ℕ) → (owed ≡ 0 → p ≡ copied h2 u) → (0 < owed → (p ≡ exchanged g u) × (owed ≡ u.replica.tail - g.base)) → Owes c h2 p owed × (caught_up c owed p ≡ u)
    brought zero there back =
        let here : p ≡ copied h u = there refl ∙ ap (λ z. copied z u) log in
        let same = up.goes.extends.catalogue in
        let long = ap length (up.still holds) in
        let some = few in
        let o = none_owed after.progress h u log_of_base later_follows (omega arith) (omega (arith, long, some)) (well_formed after.progress up.stands.notes up.stands.accounts) in (
          subst (λ z. Owes z h2 p 0) (sym same) (subst (λ z. Owes after.progress.catalogue z p 0) (sym log) (subst (λ z. Owes after.progress.catalogue h z 0) (sym here) o)),
          ap (caught_up c 0) here ∙ (ap (λ z. caught_up z 0 (copied h u)) same ∙ nothing after.progress h u log_of_base later_follows (omega arith)),
        )
    brought (suc j) there back =
        let x = back (omega arith) in
        let owed = u.replica.tail - g.base in
        let o = some_owed k.progress g u is f low few well in (
          subst (λ z. Owes c h2 p z) (sym x.1) (subst (λ z. Owes c z p owed) (sym log) (subst (λ z. Owes c h z owed) (sym x.0) o)),
          ap (λ z. caught_up c z p) x.1 ∙ (ap (caught_up c owed) x.0 ∙ again k.progress g u is f low few),
        )

-- ---- nothing to do, since there is room for as many as the history may have

pub roomy : (k : K) (want : ℕ) (g : LogView) (n : NodeReplica) → IsWellFormed store_meaning k.progress → IsLogOf k.progress g → Follows k.progress n → g.base ≤ n.replica.tail → (min want (left_of g) ≤ room_in g) → HasPlace k k want g g n
roomy k want g n well is f low room = record {
  goes = record { session = refl; held = refl; tails = refl; extends = store_laws.extends_self k.progress };
  note = refl;
  well = well;
  same = refl;
  log = is;
  keeps = (refl, refl, refl, refl);
  follows = f;
  above = low;
  room = room;
}
