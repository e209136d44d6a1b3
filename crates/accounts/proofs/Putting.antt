-- What a session of a store is told, and what it may put back, under any rules of a store.
use Rattle.std.proofs.Common.{◌≡◌, ◌≢◌, ℕ, zero, suc, ◌+◌, ◌<◌, [], ◌∷◌, set, sym, refl, ap, ◌∙◌, subst, arith, replicate, map}
use lib.ListN.{get_elem?}
use mathlib.Core.Option.{some-injective}
use Rattle.atomic_table.proofs.Lists.{set_again}
use Rattle.ownlock.specs.declared.known.Known.{Known}
use Rattle.ownlock.proofs.Export.{stepped_by}
use Rattle.ownlock.specs.declared.known.ShelfStep.TheVariants.{Took}
use Rattle.ownlock.specs.Rules.{Rules}
use Rattle.ownlock.specs.Seats.{Adds, At, place_of}
use Rattle.ownlock.specs.Knowledge.{Acquired, Possible}
use Rattle.oplog.specs.declared.configuration.Sizes.{Sizes}
use Rattle.oplog.specs.History.{Meaning}
use Rattle.accounts.specs.declared.sessions.Progress.{Progress}
use Rattle.accounts.specs.declared.sessions.SessionNote.{SessionNote}
use Rattle.accounts.specs.Values.{LogValue, ReplicaValue, StoreValue, TheLog, TheReplica, TheDesk}
use Rattle.accounts.specs.Accounts.{Extends}
use Rattle.accounts.specs.Agreement.{AgreesWith, log_place, replica_place, LogAgrees, ReplicaAgrees, DeskAgrees, desk_place}
use Rattle.accounts.specs.Moves.{HoldsLog, HoldsReplica, HoldsBoth, with_records, HoldsDesk}
use Rattle.accounts.specs.LogSteps.{first_progress, fresh_note}
use Rattle.accounts.specs.StoreRules.{IsStoreRules, HasNoDesk}
use Rattle.accounts.specs.Putting.{the_rules, KeepsSizes, IsTaken, MayTakeFirst, MayTakeSecond, StoreOpens, AgreesLog, AgreesReplica, TakesLog, TakesReplica, TakesItsReplica, SameMayPut, LogMayPut, ReplicaMayPut, MayTakeDesk, TakesDesk}
use Rattle.accounts.proofs.Lists.{at_none}
use Rattle.accounts.proofs.Finish.{opens}
use Rattle.accounts.proofs.Tellings.{log_after, replayed_agrees}
use Rattle.combiner.specs.Desks.{DeskView}

module _ {C M V : Type 0} {E : Meaning C M} {R : Rules (Progress C) SessionNote (StoreValue M)} (ok : IsStoreRules E R) (view : V → StoreValue M) (IsSized : Sizes → C → V → Type 0) where
  pub may_take_first : MayTakeFirst E R view IsSized
  may_take_first k node none own =
      let empty : (a : ℕ) (u : ℕ × V) → At a u k.held → ⊥ = λ a u at. at_none a u (subst (λ h. At a u h) none at) in (
        ((λ a u at. absurd (empty a u at)), ok.allows k.progress k.session _ (HoldsReplica node own (ap (λ h. replica_place k.progress.config node ∷ map place_of h) none))),
        ((λ a u at. absurd (empty a u at)), ok.allows k.progress k.session _ (HoldsLog (ap (λ h. log_place ∷ map place_of h) none))),
      )

  pub may_take_second : MayTakeSecond E R view IsSized
  may_take_second k node v one own = (
    (λ a u at. apart a u (subst (λ h. At a u h) one at)),
    ok.allows k.progress k.session _ (HoldsBoth node own (ap (λ h. log_place ∷ map place_of h) one)),
  )
    where
      far : (n : ℕ) → 1 + n ≢ log_place
      far n e = omega (arith, e)

      apart : (a : ℕ) (u : ℕ × V) → At a u ((replica_place k.progress.config node, v) ∷ []) → u.0 ≢ log_place
      apart zero u at e = far node (ap (λ z. z.0) (some-injective (replica_place k.progress.config node, v) u at) ∙ e)
      apart (suc a) u at e = at_none a u at

  pub may_take_desk : MayTakeDesk E R view IsSized
  may_take_desk k node none own = (
    (λ a u at. absurd (at_none a u (subst (λ h. At a u h) none at))),
    ok.allows k.progress k.session _ (HoldsDesk node own (ap (λ h. desk_place k.progress.config node ∷ map place_of h) none)),
  )

  -- what is told of the value that was taken
  agreed : (p : ℕ) (k now : Known (Progress C) SessionNote V) (v : V) (won : Acquired (the_rules E R view IsSized) p k now v) → R.AgreesWith p now.progress won.3.0 (view v) × IsSized now.progress.config now.progress.catalogue v
  agreed p k now v won = subst (λ (z : Progress C). R.AgreesWith p z won.3.0 (view v) × IsSized z.config z.catalogue v) (sym (ap (λ z. z.progress) won.1))
      (won.3.1.3 0 (p, v) (ap (λ z. get_elem? z.held 0) won.1))

  taken : (p : ℕ) (k now : Known (Progress C) SessionNote V) (v : V) → Acquired (the_rules E R view IsSized) p k now v → IsTaken E R view IsSized p k now v
  taken p k now v won =
      let is = ap (λ z. z.progress) won.1 in record {
        session = ap (λ z. z.session) won.1;
        note = ap (λ z. z.note) won.1;
        held = ap (λ z. z.held) won.1;
        steps = stepped_by k now (Took p v) (ap (λ z. z.session) won.1) (ap (λ z. z.steps) won.1) (subst (λ (z : Progress C × SessionNote). Adds k (Took p v) z.0 z.1 now.run) (λ i. (sym is i, sym (ap (λ z. z.note) won.1) i)) won.4);
        extends = subst (λ z. Extends k.progress z) (sym is) (ok.extends k.progress won.0 won.2.0);
        sized = (agreed p k now v won).1;
        notes = won.3.0;
        accounts = ok.accounts now.progress won.3.0 (subst (λ z. R.Accounts z won.3.0) (sym is) won.3.1.2);
        here = won.3.1.1;
      }

  log_of : (l : Progress C) (ns : _) (v x : StoreValue M) → v ≡ x → AgreesWith E log_place l ns x → (y : LogValue M) × (v ≡ TheLog y) × LogAgrees E l y
  log_of l ns v (TheLog y) e a = (y, e, a.1)
  log_of l ns v (TheReplica y) e a = absurd (far a.0 a.2)
    where
      far : (n : ℕ) → log_place ≡ 1 + n → ⊥
      far n e = omega (arith, e)
  log_of l ns v (TheDesk y) e a = absurd (far l.config.nodes y.node a.1)
    where
      far : (m n : ℕ) → log_place ≡ 1 + m + n → ⊥
      far m n e = omega (arith, e)

  replica_of : (l : Progress C) (ns : _) (p : ℕ) (v x : StoreValue M) → p ≢ log_place → HasNoDesk R p l → v ≡ x → R.AgreesWith p l ns x → (y : ReplicaValue M) × (v ≡ TheReplica y) × ReplicaAgrees E l y
  replica_of l ns p v (TheLog y) ne bare e a = absurd (ne (ok.agrees p l ns (TheLog y) a).0)
  replica_of l ns p v (TheReplica y) ne bare e a = (y, e, (ok.agrees p l ns (TheReplica y) a).3)
  replica_of l ns p v (TheDesk y) ne bare e a = absurd (bare ns y a)

  -- what agrees at a desk's place is the desk of that node
  desk_of : (l : Progress C) (ns : _) (p node : ℕ) (v x : StoreValue M) → p ≡ desk_place l.config node → v ≡ x → AgreesWith E p l ns x → (y : DeskView) × (v ≡ TheDesk y) × (y.node ≡ node) × DeskAgrees E l ns y
  desk_of l ns p node v (TheLog y) is e a = absurd (far l.config.nodes node (sym is ∙ a.0))
    where
      far : (m n : ℕ) → 1 + m + n ≡ log_place → ⊥
      far m n e = omega (arith, e)
  desk_of l ns p node v (TheReplica y) is e a = absurd (far a.0 l.config.nodes node a.1 (sym a.2 ∙ is))
    where
      far : (i m n : ℕ) → i < m → 1 + i ≡ 1 + m + n → ⊥
      far i m n lt e = omega (arith, lt, e)
  desk_of l ns p node v (TheDesk y) is e a = (y, e, same l.config.nodes y.node node (sym a.1 ∙ is), a.2)
    where
      same : (m i n : ℕ) → 1 + m + i ≡ 1 + m + n → i ≡ n
      same m i n e = omega (arith, e)

  -- a replica's place is no desk's
  replica_places : (l : Progress C) (node : ℕ) → node < l.config.nodes → HasNoDesk R (replica_place l.config node) l
  replica_places l node lt ns x a = apart node l.config.nodes x.node lt (ok.agrees (replica_place l.config node) l ns (TheDesk x) a).1
    where
      apart : (i m n : ℕ) → i < m → 1 + i ≡ 1 + m + n → ⊥
      apart i m n lt e = omega (arith, lt, e)

  pub agrees_log : AgreesLog E R view IsSized
  agrees_log l ns v a = (log_of l ns (view v) (view v) refl (ok.agrees log_place l ns (view v) a.0), a.1)

  pub agrees_replica : AgreesReplica E R view IsSized
  agrees_replica p l ns v ne bare a = (replica_of l ns p (view v) (view v) ne bare refl a.0, a.1)

  pub store_opens : StoreOpens E R view IsSized
  store_opens config c count = let t = opens E config c count in (
    t.0,
    (λ v is sized. (subst (λ z. R.AgreesWith log_place (first_progress config c) (replicate count fresh_note) z) (sym is) (ok.log log_place (first_progress config c) (replicate count fresh_note) _ (refl, t.1)), sized)),
    (λ node v lt is sized. (
      subst (λ z. R.AgreesWith (replica_place config node) (first_progress config c) (replicate count fresh_note) z) (sym is)
          (ok.replica (replica_place config node) (first_progress config c) (replicate count fresh_note) _ (node, lt, refl, t.2)),
      sized,
    )),
  )

  pub takes_log : TakesLog E R view IsSized
  takes_log k now v won = (taken log_place k now v won, log_of now.progress won.3.0 (view v) (view v) refl (ok.agrees log_place now.progress won.3.0 (view v) (agreed log_place k now v won).0))

  pub takes_replica : TakesReplica E R view IsSized
  takes_replica p k now v ne bare won = (taken p k now v won, replica_of now.progress won.3.0 p (view v) (view v) ne bare refl (agreed p k now v won).0)

  pub takes_its_replica : TakesItsReplica E R view IsSized
  takes_its_replica p node k now v is lt won =
      let same = (taken p k now v won).extends.config in
      takes_replica p k now v (λ e. far node (sym is ∙ e))
      (subst (λ z. HasNoDesk R z now.progress) (sym (is ∙ ap (λ z. replica_place z node) same)) (replica_places now.progress node (subst (λ (z : Sizes). node < z.nodes) same lt))) won
    where
      far : (n : ℕ) → 1 + n ≢ log_place
      far n e = omega (arith, e)

  pub takes_desk : TakesDesk E R view IsSized
  unfolding taken
  takes_desk p node k now v is won =
      let t = taken p k now v won in
      let a = ok.agrees p now.progress won.3.0 (view v) (agreed p k now v won).0 in
      let d = desk_of now.progress won.3.0 p node (view v) (view v) (is ∙ ap (λ z. desk_place z node) t.extends.config) refl a in
      (t, d.0, d.1, d.2, d.3)

  pub same_move : (k : Known (Progress C) SessionNote V) (p a : ℕ) (v w : V) → At a (p, v) k.held → view w ≡ view v → KeepsSizes IsSized v w → (l : Progress C) (ns : _) → Possible (the_rules E R view IsSized) k l ns
      → R.Moves p k.session (view v) l k.note l k.note × (the_rules E R view IsSized).AgreesWith p l (set ns k.session k.note) w
  same_move k p a v w at same keeps l ns may =
      let h = may.3 a (p, v) at in (
        ok.stays p k.session (view v) l k.note ns h.0,
        subst (λ z. (the_rules E R view IsSized).AgreesWith p l z w) (sym (set_again ns k.session k.note may.1)) (subst (λ z. R.AgreesWith p l ns z) (sym same) h.0, keeps l.config l.catalogue h.1),
      )

  pub same_may_put : SameMayPut E R view IsSized
  same_may_put k p a v w at same keeps = (v, a, at, same_move k p a v w at same keeps)

  pub log_may_put : LogMayPut E R view IsSized
  log_may_put k a v w x y more n' at isx isy keeps moves step = (
    v,
    a,
    at,
    λ l ns may.
        let h = may.3 a (log_place, v) at in
        let grown = ok.extends k.progress l may.0.0 in
        let same = ok.same k.progress l (may.0.1 a (log_place, v) at refl) in (
          subst (λ z. R.Moves log_place k.session z l k.note (with_records l more) n') (sym isx) (moves l x grown same),
          (
            subst (λ z. R.AgreesWith log_place (with_records l more) (set ns k.session n') z) (sym isy) (ok.log log_place (with_records l more) (set ns k.session n') y (refl, log_after E k.progress l more y grown same step)),
            keeps l.config l.catalogue h.1,
          ),
        ),
  )

  pub replica_may_put : ReplicaMayPut E R view IsSized
  replica_may_put k p a v w x y at isx isy keeps low agrees = (
    v,
    a,
    at,
    λ l ns may.
        let h = may.3 a (p, v) at in
        let here = subst (λ z. R.AgreesWith p l ns z) isx h.0 in
        let was = ok.agrees p l ns (TheReplica x) here in
        let grown = ok.extends k.progress l may.0.0 in
        let now = replayed_agrees E k.progress l y grown low agrees.state (let t = agrees.tail in let up = grown.completed in omega (arith, t, up)) in (
          ok.stays p k.session (view v) l k.note ns h.0,
          (subst (λ z. R.AgreesWith p l (set ns k.session k.note) z) (sym isy) (ok.replica p l (set ns k.session k.note) y (was.0, was.1, was.2, now)), keeps l.config l.catalogue h.1),
        ),
  )
