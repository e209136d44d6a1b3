-- The replies of a catalogue's operations are numbers of 64 bits.
use Rattle.std.proofs.Common.{◌≡◌, ◌∙◌, inl, inr, ℕ, ◌+◌, ◌-◌, ◌^◌, ◌<◌, ◌≤◌, Bool, true, false, length, Option, Some, None, slice_get, nat_lt, [], ◌∷◌, ◌++◌, refl, sym, ap, subst, arith}
use Rattle.std.specs.Prelude.{option_map, if◌then◌else◌}
use Rattle.std.proofs.lemmas.Bool.{ltb-true}
use Rattle.std.proofs.lemmas.Option.{same_Some}
use Rattle.maps.specs.Maps.{AreBytes}
use Rattle.verifier.specs.declared.refusal.Mode.{Mode}
use Rattle.verifier.specs.declared.refusal.Mode.TheVariants.{Update, Read}
use Rattle.verifier.specs.Accepted.{Checked, IsAccepted}
use Rattle.machine.specs.Effects.{Effect as RunEffect}
use Rattle.machine.proofs.Export.{run_kept}
use Rattle.loader.specs.CatalogueView.{CatalogueView, IsCatalogue, Entry, sizes_for}
use Rattle.loader.specs.StoreState.{StoreState, IsState}
use Rattle.oplog.specs.Calls.{Call}
use Rattle.oplog.specs.Operations.{Operation}
use Rattle.oplog.specs.declared.records.Op.TheVariants.{Run, Install}
use Rattle.oplog.specs.History.{Effect, ReadEffect, History, state_after, reply_at, read_reply_at}
use Rattle.replica.specs.HistoryLaws.{IsEffectOf}
use Rattle.replica.specs.StoreMeaning.{AreUpdates, is_operation, no_place, placed, program_at, program_in, store_meaning}
use Rattle.replica.proofs.Export.{have_effects, of_each}

pub is_accepted : (c : CatalogueView) (k : ℕ) (p : Checked) → IsCatalogue c → program_at c k ≡ Some p → IsAccepted p
is_accepted c k p whole named = by (slice_get c.programs k) refl named
  where
    by : (o : Option Entry) → slice_get c.programs k ≡ o → option_map (λ (e : Entry). e.checked) o ≡ Some p → IsAccepted p
    by None is e = absurd cc
    by (Some x) is e = subst IsAccepted (same_Some x.checked p e) (of_each (λ (y : Entry). IsAccepted y.checked) c.programs k x whole.checked is)

-- the argument of a call, or the instructions of a program, are bytes
abbrev pub HasBytes : Operation → Type 0
HasBytes (Run call) = AreBytes call.argument
HasBytes (Install new) = AreBytes new.bytes

module _ (c : CatalogueView) (whole : IsCatalogue c) where
  -- a program of a state
  accepted_in : (s : StoreState) (k : ℕ) (p : Checked) → IsState (sizes_for c) s → program_in c s k ≡ Some p → IsAccepted p
  accepted_in s k p is named = by (nat_lt k (length c.programs)) named
    where
      by : (b : Bool) → (if b then program_at c k else slice_get s.programs (k - length c.programs)) ≡ Some p → IsAccepted p
      by true e = is_accepted c k p whole e
      by false e = of_each IsAccepted s.programs (k - length c.programs) p is.programs.checked e

  -- ---- what is done in a state

  call_small : (mode : Mode) (call : Call) (s : StoreState) (e : RunEffect) → AreBytes call.argument → IsState (sizes_for c) s → IsEffectOf mode c call s e → e.reply < 2 ^ 64
  call_small mode call s e bytes is (inl h) =
      let ran = h.0 in
      let known = accepted_in s call.program ran.program is ran.named in
      let kept = run_kept ran.program.program c.shapes s.maps ran.done.maps call.argument ran.done.steps ran.done.reply known.instructions is.maps bytes ran.run.runs in
      subst (λ (x : RunEffect). x.reply < 2 ^ 64) (sym h.1) kept.1
  call_small mode call s e bytes is (inr h) = subst (λ (x : RunEffect). x.reply < 2 ^ 64) (sym h.1) (omega arith)

  placed_small : (s : StoreState) (p : Checked) → IsState (sizes_for c) s → (placed c s p).reply < 2 ^ 64
  placed_small s p is = by (nat_lt (length s.programs) s.places) refl
    where
      by : (b : Bool) → nat_lt (length s.programs) s.places ≡ b
          → (let e : Effect StoreState = if b then record { steps = 0; reply = length c.programs + length s.programs; left = record s { programs = s.programs ++ p ∷ [] } } else record { steps = 0; reply = no_place; left = s } in e.reply) < 2 ^ 64
      by true free =
          let room = ltb-true (length s.programs) s.places free in
          let few : length c.programs ≤ 256 = whole.few in
          let places : c.places ≤ 4096 = whole.few_places in
          let same = is.places in
          omega (arith, room, few, places, same)
      by false full = omega arith

  -- ---- in a history

  module _ (h : History) (updates : AreUpdates c h) (k : ℕ) where
    pub update_small : (op : Operation) (reply : ℕ) → HasBytes op → is_operation Update c op ≡ true → reply_at store_meaning c h k op ≡ Some reply → reply < 2 ^ 64
    update_small (Run call) reply bytes is e =
        let effects = have_effects c whole h updates in
        let u = effects.updates k call is in
        let same : Some u.0.reply ≡ Some reply = sym (ap (option_map (λ (d : Effect StoreState). d.reply)) u.2) ∙ e in
        subst (λ n. n < 2 ^ 64) (same_Some u.0.reply reply same) (call_small Update call (state_after store_meaning c h k) u.0 bytes (effects.states k) u.1)
    update_small (Install new) reply bytes is e =
        let effects = have_effects c whole h updates in
        let u = effects.installs k new is in
        let same = sym (ap (option_map (λ (d : Effect StoreState). d.reply)) u.2) ∙ e in
        subst (λ n. n < 2 ^ 64) (same_Some _ reply same) (placed_small (state_after store_meaning c h k) u.0 (effects.states k))

    pub read_small : (call : Call) (reply : ℕ) → AreBytes call.argument → is_operation Read c (Run call) ≡ true → read_reply_at store_meaning c h k (Run call) ≡ Some reply → reply < 2 ^ 64
    read_small call reply bytes is e =
        let effects = have_effects c whole h updates in
        let u = effects.reads k call is in
        let same : Some u.0.reply ≡ Some reply = sym (ap (option_map (λ (d : ReadEffect). d.reply)) u.2) ∙ e in
        subst (λ n. n < 2 ^ 64) (same_Some u.0.reply reply same) (call_small Read call (state_after store_meaning c h k) u.0 bytes (effects.states k) u.1)
