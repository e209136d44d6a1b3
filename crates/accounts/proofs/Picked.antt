-- What the picks of a put come to, and that they may be put back.
use Rattle.std.proofs.Common.{◌≡◌, ℕ, ◌-◌, List, [], ◌∷◌, ◌++◌, length, drop, set, sym, refl, ap, ◌∙◌, subst, arith, append-nil}
use Rattle.std.proofs.lemmas.List.{length-drop}
use Rattle.std.proofs.Math.ListN.{drop_of_length-le}
use Rattle.atomic_table.proofs.Lists.{set_here}
use Rattle.ownlock.specs.declared.known.Known.{Known}
use Rattle.ownlock.specs.Rules.{Rules, Move, leader}
use Rattle.ownlock.specs.Seats.{At}
use Rattle.ownlock.specs.Knowledge.{MayPut}
use Rattle.oplog.specs.declared.configuration.Sizes.{Sizes}
use Rattle.oplog.specs.History.{Meaning, History}
use Rattle.accounts.specs.declared.sessions.Progress.{Progress}
use Rattle.accounts.specs.declared.sessions.SessionNote.{SessionNote}
use Rattle.accounts.specs.Values.{LogValue, StoreValue, TheLog, TheReplica, TheDesk}
use Rattle.accounts.specs.Agreement.{AgreesWith}
use Rattle.accounts.specs.Moves.{with_records}
use Rattle.accounts.specs.StoreRules.{Noting, IsStoreRules, IsNoting, IsLogAfter}
use Rattle.accounts.specs.Putting.{the_rules}
use Rattle.accounts.specs.Picks.{appended_by, put_progress, put_note, SamePicked, LogPicked, ReplicaPicked, PutsAccount, SameIs, LogIs, ReplicaIs}
use Rattle.accounts.proofs.Lists.{drop_front}
use Rattle.accounts.proofs.Seen.{seen_laws}
use Rattle.accounts.proofs.Putting.{same_move, log_may_put, replica_may_put}
use Rattle.ownlock.proofs.Export.{at_below}

drop_twice : {A : Type 0} (b : ℕ) (h : List A) → drop (length h - b) (drop b h) ≡ []
drop_twice b h = drop_of_length-le (drop b h) (let long = length-drop b h in omega (arith, long))

-- what the log has behind the known history
log_appended : {C M : Type 0} (E : Meaning C M) (known : Progress C) (more : History) (y : LogValue M) → IsLogAfter E known more y → appended_by known y ≡ more
log_appended E known more y s = ap (drop (length known.history - y.base)) s.records
    ∙ (drop_front (length known.history - y.base) (drop y.base known.history) more (let long = length-drop y.base known.history in omega (arith, long)) ∙ ap (λ z. z ++ more) (drop_twice y.base known.history))

module _ {C M V : Type 0} {E : Meaning C M} {R : Rules (Progress C) SessionNote (StoreValue M)} {noting : Noting C V} (ok : IsStoreRules E R) (view : V → StoreValue M) (notes : IsNoting view noting) (IsSized : Sizes → C → V → Type 0) where
  same_is : (k : Known (Progress C) SessionNote V) (l : Progress C) (ns : List SessionNote) (p a : ℕ) (v : V) (x : StoreValue M) → At a (p, v) k.held → view v ≡ x → AgreesWith E p l ns x → (p ≡ leader → k.progress.history ≡ l.history)
      → (put_progress (k ∷ []) x l ≡ l) × (put_note noting (k ∷ []) x k.note ≡ k.note)
  same_is k l ns p a v (TheLog y) at seen agrees same = (
    (λ i. record { config = l.config; catalogue = l.catalogue; history = (ap (λ z. l.history ++ z) none ∙ append-nil l.history) i; completed = l.completed }),
    ap (λ z. noting.appended (length k.progress.history) z k.note) none ∙ notes.none (length k.progress.history) k.note,
  )
    where
      none : appended_by k.progress y ≡ []
      none = ap (drop (length k.progress.history - y.base)) agrees.1.records ∙ (ap (λ (h : History). drop (length h - y.base) (drop y.base l.history)) (same agrees.0) ∙ drop_twice y.base l.history)
  same_is k l ns p a v (TheReplica y) at seen agrees same = (refl, refl)
  same_is k l ns p a v (TheDesk y) at seen agrees same = (refl, notes.same k a p v y at seen)

  pub same_picks : SameIs E R noting view IsSized
  same_picks sessions k p a v w l ns is at same may =
      let t = same_is k l ns p a v (view v) at refl (ok.agrees p l ns (view v) (may.3 a (p, v) at).0) (λ e. ok.same k.progress l (may.0.1 a (p, v) at e)) in (
        ap (λ s. put_progress s (view w) l) is ∙ (ap (λ z. put_progress (k ∷ []) z l) same ∙ t.0),
        ap (λ s. put_note noting s (view w) k.note) is ∙ (ap (λ z. put_note noting (k ∷ []) z k.note) same ∙ t.1),
      )

  pub log_picks : LogIs E R noting view IsSized
  log_picks sessions k w y more is isw step =
      let one = log_appended E k.progress more y step in (
        ap (λ s. put_progress s (view w)) is ∙ (ap (λ z. put_progress (k ∷ []) z) isw ∙ (λ i l. with_records l (one i))),
        ap (λ s. put_note noting s (view w)) is ∙ (ap (λ z. put_note noting (k ∷ []) z) isw ∙ (λ i n. noting.appended (length k.progress.history) (one i) n)),
      )

  pub replica_picks : ReplicaIs E R noting view IsSized
  replica_picks sessions k w y is isw = (
    ap (λ s. put_progress s (view w)) is ∙ ap (λ z. put_progress (k ∷ []) z) isw,
    ap (λ s. put_note noting s (view w)) is ∙ ap (λ z. put_note noting (k ∷ []) z) isw,
  )

  -- what a put may change it may also change as the picks say it
  pub picked : (f f' : Progress C → Progress C) (g g' : SessionNote → SessionNote) (k : Known (Progress C) SessionNote V) (p : ℕ) (w : V) → f ≡ f' → g k.note ≡ g' k.note → MayPut (the_rules E R view IsSized) f' g' k p w
      → MayPut (the_rules E R view IsSized) f g k p w
  picked f f' g g' k p w e h m = subst (λ z. MayPut (the_rules E R view IsSized) z g k p w) (sym e) (
    m.0,
    m.1,
    m.2,
    λ l ns may.
        let t = m.3 l ns may in (
          subst (λ z. R.Moves p k.session (view m.0) l k.note (f' l) z) (sym h) t.0,
          subst (λ z. (the_rules E R view IsSized).AgreesWith p (f' l) (set ns k.session z) w) (sym h) t.1,
        ),
  )

  pub log_picked : LogPicked E R noting view IsSized
  log_picked sessions k a v w x y more at isx isy keeps moves step is =
      let e = log_picks sessions k w y more is isy step in
      picked _ _ (put_note noting sessions (view w)) (λ _. noting.appended (length k.progress.history) more k.note) k 0 w e.0 (ap (λ g. g k.note) e.1) (log_may_put ok view IsSized k a v w x y more _ at isx isy keeps moves step)

  pub replica_picked : ReplicaPicked E R noting view IsSized
  replica_picked sessions k p a v w x y at isx isy keeps low agrees is =
      let e = replica_picks sessions k w y is isy in
      picked _ _ (put_note noting sessions (view w)) (λ n. n) k p w e.0 (ap (λ g. g k.note) e.1) (replica_may_put ok view IsSized k p a v w x y at isx isy keeps low agrees)

  pub same_picked : SamePicked E R noting view IsSized
  same_picked sessions k p a v w at same keeps is = (
    v,
    a,
    at,
    λ l ns may.
        let e = same_picks sessions k p a v w l ns is at same may in
        let old = same_move ok view IsSized k p a v w at same keeps l ns may in (
          subst (λ z. R.Moves p k.session (view v) l k.note z (put_note noting sessions (view w) k.note)) (sym e.0) (subst (λ z. R.Moves p k.session (view v) l k.note l z) (sym e.1) old.0),
          subst (λ z. (the_rules E R view IsSized).AgreesWith p z (set ns k.session (put_note noting sessions (view w) k.note)) w) (sym e.0)
              (subst (λ z. (the_rules E R view IsSized).AgreesWith p l (set ns k.session z) w) (sym e.1) old.1),
        ),
  )

  pub puts_account : PutsAccount E R noting view IsSized
  puts_account f g k p w l ns run m may on =
      let laws = seen_laws view IsSized R ok.extends ok.laws in
      let move : Move (the_rules E R view IsSized) = record { place = p; session = k.session; value = m.0; progress = l; new_progress = f l; note = k.note; new_note = g k.note; allowed = (m.3 l ns may).0 } in record {
        session = refl;
        held = refl;
        steps = (refl, on);
        extends = ok.extends k.progress (f l) (laws.extends_on k.progress l (f l) may.0.0 (laws.moves_extend move));
        notes = set ns k.session (g k.note);
        accounts = ok.accounts (f l) (set ns k.session (g k.note)) (laws.moves_account move ns record { accounts = may.2; own = may.1; agrees = may.3 m.1 (p, m.0) m.2 });
        here = set_here ns k.session (g k.note) (at_below ns k.session k.note may.1);
      }
