-- What is known behind each call of `make_room`.
use Rattle.std.proofs.Common.{◌≡◌, Bool, true, false, ℕ, ◌-◌, ◌<◌, ◌≤◌, min, length, inl, inr, refl, sym, ap, ◌∙◌, subst, arith}
use Rattle.std.specs.Prelude.{◌⊎◌}
use Rattle.loader.specs.StoreState.{sizes_of}
use Rattle.loader.specs.CatalogueView.{CatalogueView, sizes_for}
use Rattle.oplog.specs.Logs.{Log as LogView, tail_of, left_of, records_from, room_in}
use Rattle.oplog.specs.declared.configuration.TheConstants.{ENDLESS}
use Rattle.replica.specs.StoreMeaning.{AreUpdates}
use Rattle.node.specs.declared.following.NodeReplica.{NodeReplica}
use Rattle.node.specs.Following.{Fits, copied, exchanged, is_above, may_rebase, rebased, reclaimed, replayed, told}
use Rattle.store_steps.specs.Knowing.{HasLog}
use Rattle.store_steps.specs.Rooms.{FreesRoom, IsBaseDue, IsHalfBefore, Owes, caught_up}
use Rattle.store_steps.specs.Standing.{SessionKnown, Follows, HasPlace, HasRaised}
use Rattle.store_steps.specs.Whole.{MakesRoom}
use Rattle.store_steps.proofs.Exchanged.{none_owed, nothing}
use Rattle.store_steps.proofs.Followed.{above, fits, kept_up, updates}
use Rattle.store_steps.proofs.Played.{raised_as}
use Rattle.store_steps.proofs.Rooms.{brought, came, freed, roomy}
use Rattle.store_steps.proofs.Stretches.{makes_none, makes_room}

-- the log g is held by the session k; the replica was m, and is n once it keeps up with the base
module _ (k : SessionKnown) (g : LogView) (m : NodeReplica) (c : CatalogueView) (i : HasLog k g m c) (n : NodeReplica) (behind : may_rebase g m ≡ true → n ≡ rebased g m) (stays : may_rebase g m ≡ false → n ≡ m) where
  kept : Follows k.progress n × (g.base ≤ n.replica.tail)
  kept = kept_up k.progress g m i.log i.follows n behind stays

  -- what is due for the replica that keeps up was due for the one that was taken
  due_before : (want : ℕ) → IsBaseDue want g n → IsBaseDue want g m
  due_before want (inl full) = inl full
  due_before want (inr half) = by (may_rebase g m) refl
    where
      by : (low : Bool) → may_rebase g m ≡ low → IsBaseDue want g m
      by true e = absurd (let lower = subst (IsHalfBefore g) (behind e) half in omega (arith, lower))
      by false e = inr (subst (IsHalfBefore g) (stays e) half)

  pub kept_above : is_above g n ≡ true
  kept_above = above k.progress g n i.log kept.0 kept.1

  pub kept_fits : Fits g n
  kept_fits = fits k.progress g n i.log kept.0

  pub kept_sizes : sizes_of n.replica.state ≡ sizes_for c
  kept_sizes = kept.0.sizes ∙ ap sizes_for i.catalogue

  pub kept_updates : AreUpdates c (records_from g n.replica.tail)
  kept_updates = subst (λ d. AreUpdates d (records_from g n.replica.tail)) i.catalogue (updates k.progress g n i.log kept.0 kept.1 i.well)

  -- ---- there is room: the hand gets what the replica lacks

  module _ (p : NodeReplica) (is : p ≡ copied g n) where
    pub none_owes : tail_of g ≤ ENDLESS → Owes c g p 0
    none_owes top =
        let t = i.log.tail in
        let few : length k.progress.history ≤ ENDLESS = omega (arith, t, top) in
        let o = none_owed k.progress g n i.log kept.0 kept.1 few i.well in
        subst (λ z. Owes z g p 0) i.catalogue (subst (λ z. Owes k.progress.catalogue g z 0) (sym is) o)

    same_node : caught_up c 0 p ≡ n
    same_node = ap (caught_up c 0) is ∙ (ap (λ z. caught_up z 0 (copied g n)) (sym i.catalogue) ∙ nothing k.progress g n i.log kept.0 kept.1)

    pub none_room : (want : ℕ) → min want (left_of g) ≤ room_in g → HasPlace k k want g g (caught_up c 0 p)
    none_room want room = subst (HasPlace k k want g g) (sym same_node) (roomy k want g n i.well i.log kept.0 kept.1 room)

    pub none_goes : (want : ℕ) → min want (left_of g) ≤ room_in g → MakesRoom want k k g g m (caught_up c 0 p)
    none_goes want room = subst (MakesRoom want k k g g m) (sym same_node) (makes_none k g m n i.log i.follows behind stays want room)

  -- ---- the base is due: the replica comes up, where it must, and is v

  module _ (want : ℕ) (few : want ≤ 16) (wide : 16 ≤ g.window) (due : (room_in g < min want (left_of g)) ⊎ FreesRoom want g n) (v : NodeReplica) (up : Bool) (rests : up ≡ false → (v ≡ n) × FreesRoom want g n) (ran : up ≡ true → v ≡ replayed c (copied g n)) (sizes : sizes_of v.replica.state ≡ sizes_of n.replica.state) where
    runs : up ≡ true → v ≡ replayed k.progress.catalogue (copied g n)
    runs e = ran e ∙ ap (λ d. replayed d (copied g n)) (sym i.catalogue)

    risen : Follows k.progress v × FreesRoom want g v
    risen = came k g n v i.log kept.0 kept.1 want few wide due up rests runs sizes

    pub risen_within : v.replica.tail ≤ length k.progress.history
    risen_within = risen.0.within

    pub risen_above : g.base < v.replica.tail
    risen_above = risen.1.0

    pub risen_fits : Fits g v
    risen_fits = fits k.progress g v i.log risen.0

    pub risen_sizes : sizes_of v.replica.state ≡ sizes_of g.base_state
    risen_sizes = risen.0.sizes ∙ sym i.log.sizes.2

    -- all that it has applied is completed, and the log is h with the replica as its base: the node is p, and owes so many
    module _ (after : SessionKnown) (tail : ℕ) (up_to : HasRaised k after tail) (here : tail ≡ v.replica.tail) (h : LogView) (p : NodeReplica) (owed : ℕ) (log : h ≡ reclaimed v (told v g)) (top : tail_of h ≤ ENDLESS) (there : owed ≡ 0 → p ≡ copied h v) (back : 0 < owed → (p ≡ exchanged g v) × (owed ≡ v.replica.tail - g.base)) where
      done : HasRaised k after v.replica.tail
      done = raised_as k after tail v.replica.tail up_to here

      brings : Owes k.progress.catalogue h p owed × (caught_up k.progress.catalogue owed p ≡ v)
      brings = brought k after g v i.log risen.0 done i.holds want risen.1 h p log top i.well owed there back

      same_risen : caught_up c owed p ≡ v
      same_risen = ap (λ z. caught_up z owed p) (sym i.catalogue) ∙ brings.1

      pub base_owes : Owes c h p owed
      base_owes = subst (λ z. Owes z h p owed) i.catalogue brings.0

      pub base_room : HasPlace k after want g h (caught_up c owed p)
      base_room = subst (HasPlace k after want g h) (sym same_risen) (subst (λ z. HasPlace k after want g z v) (sym log) (freed k after g v i.log risen.0 done i.holds want risen.1))

      pub base_goes : IsBaseDue want g n → MakesRoom want k after g h m (caught_up c owed p)
      base_goes reason = subst (MakesRoom want k after g h m) (sym same_risen) (makes_room k g m n i.log i.follows behind stays after v up (λ f. (rests f).0) runs done i.holds risen.1.0 h log want (due_before want reason))
