-- Each operation of a history takes effect.
use Rattle.std.proofs.Common.{◌≡◌, inl, inr, ℕ, zero, suc, ◌+◌, ◌-◌, ◌<◌, Bool, true, false, List, [], ◌∷◌, ◌++◌, length, take, Option, Some, None, Ok, slice_get, refl, sym, ap, ◌∙◌, subst, arith, if◌then◌else◌}
use Rattle.std.specs.Prelude.{nat_lt}
use Rattle.std.specs.List.{All}
use Rattle.std.specs.Option.{option_map}
use Rattle.std.proofs.lemmas.Option.{slice_get_within, get_or_from_slice_get}
use Rattle.maps.specs.declared.shapes.Shape.{Shape}
use Rattle.maps.specs.Maps.{AreBytes, HasShapes}
use Rattle.verifier.specs.declared.refusal.Mode.{Mode}
use Rattle.verifier.specs.declared.refusal.Mode.TheVariants.{Update, Read}
use Rattle.verifier.specs.Accepted.{Checked, checked, IsAccepted, signature_of}
use Rattle.machine.specs.Effects.{effect_of, Effect as RunEffect}
use Rattle.machine.proofs.Export.{typable_takes_effect}
use Rattle.loader.specs.CatalogueView.{CatalogueView, IsCatalogue, Entry, sizes_for, opening_state}
use Rattle.loader.specs.Installed.{installed_program}
use Rattle.loader.specs.StoreState.{StoreState, IsState, installed_for}
use Rattle.loader.proofs.Export.{installed_is_accepted, one_more_installed, opening_is_state}
use Rattle.oplog.specs.Calls.{Call, NewProgram}
use Rattle.oplog.specs.Operations.{Operation}
use Rattle.oplog.specs.declared.records.Op.TheVariants.{Run, Install}
use Rattle.oplog.specs.History.{Effect, History, left_by, state_after, after, effect_at, read_at}
use Rattle.replica.specs.StoreMeaning.{program_at, program_in, no_program, no_place, suits, run_in, run_of, as_update, as_read, placed, placed_read, IsCall, IsInstallable, is_operation, AreUpdates, store_meaning}
use Rattle.replica.specs.HistoryLaws.{HasRun, HasNone, IsEffectOf, HasEffects}
use Rattle.replica.proofs.Outcomes.{has_effect, has_none}
use Rattle.replica.proofs.Tested.{below, is_below, suited, suits_so, call_tested, call_bytes, installable_tested, installs_as}

from-take : {X : Type 0} (xs : List X) (n i : ℕ) (x : X) → slice_get (take n xs) i ≡ Some x → slice_get xs i ≡ Some x
from-take xs zero i x e = absurd cc
from-take [] (suc n) i x e = absurd cc
from-take (y ∷ ys) (suc n) zero x e = e
from-take (y ∷ ys) (suc n) (suc i) x e = from-take ys n i x e

-- what holds of all holds of each
pub of_each : {X : Type 0} (P : X → Type 0) (xs : List X) (k : ℕ) (x : X) → All P xs → slice_get xs k ≡ Some x → P x
of_each P xs k x all at = subst P (get_or_from_slice_get xs k x x at) (all k x (slice_get_within xs k x at))

-- ---- programs are for the catalogue's maps, and accepted

abbrev IsFor : CatalogueView → Checked → Type 0
IsFor c p = (p.shapes ≡ c.shapes) × IsAccepted p

entry_for : (c : CatalogueView) (k : ℕ) (p : Checked) (o : Option Entry) → IsCatalogue c → slice_get c.programs k ≡ o → option_map (λ (e : Entry). e.checked) o ≡ Some p → IsFor c p
entry_for c k p None whole at known = absurd cc
entry_for c k p (Some e) whole at known =
    let same : e.checked ≡ p = cc in
    subst (IsFor c) same
    (of_each (λ (x : Entry). x.checked.shapes ≡ c.shapes) c.programs k e whole.accepted at, of_each (λ (x : Entry). IsAccepted x.checked) c.programs k e whole.checked at)

is_for : (c : CatalogueView) (s : StoreState) (k : ℕ) (p : Checked) → IsCatalogue c → IsState (sizes_for c) s → program_in c s k ≡ Some p → IsFor c p
is_for c s k p whole is known = by_number (nat_lt k (length c.programs)) known
  where
    by_number : (b : Bool) → (if b then program_at c k else slice_get s.programs (k - length c.programs)) ≡ Some p → IsFor c p
    by_number true e = entry_for c k p (slice_get c.programs k) whole refl e
    by_number false e = (
      of_each (λ (x : Checked). x.shapes ≡ c.shapes) s.programs (k - length c.programs) p is.programs.accepted e,
      of_each IsAccepted s.programs (k - length c.programs) p is.programs.checked e,
    )

-- a program of the catalogue is the one of its number in each state
offered_in : (c : CatalogueView) (s : StoreState) (k : ℕ) → k < length c.programs → program_in c s k ≡ program_at c k
offered_in c s k lt = ap (λ b. if b then program_at c k else slice_get s.programs (k - length c.programs)) (is_below k (length c.programs) lt)

-- ---- what a call does in a state

-- the program of the call takes effect
record Takes (mode : Mode) (c : CatalogueView) (call : Call) (s : StoreState) : Type 0 where
  has : HasRun mode c call s
  done : run_of mode c call s ≡ Some has.done
  reads : mode ≡ Read → has.done.maps ≡ s.maps

-- or nothing is done
record Does (mode : Mode) (c : CatalogueView) (call : Call) (s : StoreState) : Type 0 where
  done : RunEffect
  is : IsEffectOf mode c call s done
  run : run_of mode c call s ≡ Some done
  reads : mode ≡ Read → done.maps ≡ s.maps
  shapes : HasShapes c.shapes done.maps

module _ (c : CatalogueView) (whole : IsCatalogue c) where
  takes : (mode : Mode) (call : Call) (s : StoreState) (p : Checked) → AreBytes call.argument → IsState (sizes_for c) s → program_in c s call.program ≡ Some p → suits mode call.argument p ≡ true
      → Takes mode c call s
  takes mode call s p bytes is named suitable =
      let known = is_for c s call.program p whole is named in
      let fits = suited mode call.argument p suitable in
      let t =
      typable_takes_effect p.program (signature_of p) known.1.instructions known.1.typable s.maps call.argument
      (subst (λ (z : List Shape). HasShapes z s.maps) (sym known.0) is.maps) bytes fits.1 in
      record {
        has = record { program = p; named = named; suitable = suitable; done = t.done; run = t.run; shapes = subst (λ (z : List Shape). HasShapes z t.done.maps) known.0 t.shapes };
        done = ap (run_in mode call.argument s.maps) named ∙ has_effect mode call.argument s.maps p suitable ∙ t.takes;
        reads = λ read. t.reads (fits.0 ∙ read);
      }

  nothing : (mode : Mode) (call : Call) (s : StoreState) → IsState (sizes_for c) s → HasNone mode c call s → run_of mode c call s ≡ Some (effect_of 0 no_program s.maps) → Does mode c call s
  nothing mode call s is none run = record { done = effect_of 0 no_program s.maps; is = inr (none, refl); run = run; reads = λ read. refl; shapes = is.maps }

  does : (mode : Mode) (call : Call) (s : StoreState) → AreBytes call.argument → IsState (sizes_for c) s → Does mode c call s
  does mode call s bytes is = by_program (program_in c s call.program) refl
    where
      same : {o : Option Checked} {p q : Checked} → o ≡ Some p → o ≡ Some q → p ≡ q
      same e f = cc

      by_suits : (p : Checked) → program_in c s call.program ≡ Some p → (b : Bool) → suits mode call.argument p ≡ b → Does mode c call s
      by_suits p named true suitable =
          let t = takes mode call s p bytes is named suitable in
          record { done = t.has.done; is = inl (t.has, refl); run = t.done; reads = t.reads; shapes = t.has.shapes }
      by_suits p named false other =
          nothing mode call s is (λ q e. subst (λ (x : Checked). suits mode call.argument x ≡ false) (same named e) other)
          (ap (run_in mode call.argument s.maps) named ∙ has_none mode call.argument s.maps p other)

      by_program : (o : Option Checked) → program_in c s call.program ≡ o → Does mode c call s
      by_program (Some p) named = by_suits p named (suits mode call.argument p) refl
      by_program None none = nothing mode call s is (λ q e. absurd (let different : None ≡ Some q = sym none ∙ e in cc)) (ap (run_in mode call.argument s.maps) none)

  -- ---- what an install does

  installed_next : (new : NewProgram) (s : StoreState) (h : IsInstallable c new) → IsState (sizes_for c) s
      → IsState (sizes_for c) (placed c s (checked h.program c.shapes new.arg_len new.mode)).left
  installed_next new s h is = by_place (nat_lt (length s.programs) s.places) refl
    where
      p : Checked
      p = checked h.program c.shapes new.arg_len new.mode

      taken : Effect StoreState
      taken = record { steps = 0; reply = length c.programs + length s.programs; left = record s { programs = s.programs ++ p ∷ [] } }

      refused : Effect StoreState
      refused = record { steps = 0; reply = no_place; left = s }

      by_place : (b : Bool) → nat_lt (length s.programs) s.places ≡ b → IsState (sizes_for c) (let e : Effect StoreState = if b then taken else refused in e.left)
      by_place true free =
          let known = installed_is_accepted c.shapes new.mode new.arg_len c.long new.bytes p whole.shapes h.argument whole.few_bytes h.bytes h.few (installs_as c new h) in
          record {
            maps = is.maps;
            places = is.places;
            long = is.long;
            programs = one_more_installed (installed_for (sizes_for c) s.programs) p is.programs (omega (arith, below _ _ free, is.places)) refl known.1 known.2;
          }
      by_place false full = is

  -- ---- one operation after another

  state_next : (op : Operation) (s : StoreState) → is_operation Update c op ≡ true → IsState (sizes_for c) s → IsState (sizes_for c) (left_by (store_meaning.update c op s) s)
  state_next (Run call) s update is =
      let d = does Update call s (call_bytes (call_tested Update c call update)) is in
      subst (λ (o : Option RunEffect). IsState (sizes_for c) (left_by (option_map (as_update s) o) s)) (sym d.run) (record { maps = d.shapes; places = is.places; long = is.long; programs = is.programs })
  state_next (Install new) s update is =
      let h = installable_tested c new update in
      subst (λ r. IsState (sizes_for c) (left_by (placed_read c s r) s)) (sym (installs_as c new h)) (installed_next new s h is)

  states_after : (s : StoreState) (history : History) → AreUpdates c history → IsState (sizes_for c) s → IsState (sizes_for c) (after store_meaning c s history)
  states_after s [] updates is = is
  states_after s (r ∷ rs) updates is =
      states_after (left_by (store_meaning.update c r.op s) s) rs (λ k x e. updates (suc k) x e) (state_next r.op s (updates 0 r refl) is)

  state_at : (history : History) (k : ℕ) → AreUpdates c history → IsState (sizes_for c) (state_after store_meaning c history k)
  state_at history k updates =
      states_after (opening_state c) (take k history) (λ i r e. updates i r (from-take history k i r e))
      (opening_is_state c whole)

  offered_at : (mode : Mode) (history : History) (k : ℕ) (call : Call) → AreUpdates c history → is_operation mode c (Run call) ≡ true → call.program < length c.programs
      → HasRun mode c call (state_after store_meaning c history k)
  offered_at mode history k call updates is lt = by_kind (call_tested mode c call is)
    where
      s : StoreState
      s = state_after store_meaning c history k

      by_kind : IsCall mode c call → HasRun mode c call s
      by_kind (inl h) =
          (takes mode call s h.program h.bytes (state_at history k updates) (offered_in c s call.program lt ∙ h.named)
          (suits_so mode call.argument h.program h.mode_is h.length_is)).has
      by_kind (inr h) = absurd (omega (arith, lt, h.behind))

  updates_at : (history : History) (k : ℕ) (call : Call) → AreUpdates c history → is_operation Update c (Run call) ≡ true
      → (e : RunEffect) × IsEffectOf Update c call (state_after store_meaning c history k) e
      × (effect_at store_meaning c history k (Run call) ≡ Some (as_update (state_after store_meaning c history k) e))
  updates_at history k call updates is =
      let s : StoreState = state_after store_meaning c history k in
      let d = does Update call s (call_bytes (call_tested Update c call is)) (state_at history k updates) in
      (d.done, d.is, ap (option_map (as_update s)) d.run)

  reads_at : (history : History) (k : ℕ) (call : Call) → AreUpdates c history → is_operation Read c (Run call) ≡ true
      → (e : RunEffect) × IsEffectOf Read c call (state_after store_meaning c history k) e × (read_at store_meaning c history k (Run call) ≡ Some (as_read e))
      × (e.maps ≡ (state_after store_meaning c history k).maps)
  reads_at history k call updates is =
      let d = does Read call (state_after store_meaning c history k) (call_bytes (call_tested Read c call is)) (state_at history k updates) in
      (d.done, d.is, ap (option_map as_read) d.run, d.reads refl)

  installs_at : (history : History) (k : ℕ) (new : NewProgram) → is_operation Update c (Install new) ≡ true
      → (p : Checked) × (installed_program c.shapes new.mode new.arg_len new.bytes ≡ Ok p)
      × (effect_at store_meaning c history k (Install new) ≡ Some (placed c (state_after store_meaning c history k) p))
  installs_at history k new is =
      let h = installable_tested c new is in
      (checked h.program c.shapes new.arg_len new.mode, installs_as c new h, ap (placed_read c (state_after store_meaning c history k)) (installs_as c new h))

  pub have_effects : (history : History) → AreUpdates c history → HasEffects c history
  have_effects history updates = record {
    states = λ k. state_at history k updates;
    offered = λ mode k call is lt. offered_at mode history k call updates is lt;
    updates = λ k call is. updates_at history k call updates is;
    reads = λ k call is. reads_at history k call updates is;
    installs = λ k new is. installs_at history k new is;
  }

  -- each update takes effect
  pub takes_effect : (history : History) (k : ℕ) (op : Operation) → AreUpdates c history → is_operation Update c op ≡ true → (e : Effect StoreState) × (effect_at store_meaning c history k op ≡ Some e)
  takes_effect history k (Run call) updates is = let u = updates_at history k call updates is in (as_update (state_after store_meaning c history k) u.0, u.2)
  takes_effect history k (Install new) updates is = let u = installs_at history k new is in (placed c (state_after store_meaning c history k) u.0, u.2)
