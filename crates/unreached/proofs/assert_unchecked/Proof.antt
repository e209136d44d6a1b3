use Rattle.std.proofs.Common.{[], ◌∷◌, refl, subst}
use Rattle.std.proofs.raw_atomic.Walks.{proved}
use Rattle.std.specs.Prelude.{IsTrue, Bool}
use lib.Dec.{T}
use mathlib.Core.Bool.{not}
use mir.Val.{vunit}
use contract.Monad.{fact}
use contract.Running.{tables}
use types.Kit.{raw, ◌$◌, ◌∵◌, !, qed, done, drop, join, feq_i, suffices}
use types.Run.{enter, of_opd, unit_lit, first, branches, returns_within}
use types.ByLocal.{alloc_all, pass_all, free_all, look_at, get, sets}
use denote.Builtin.{bool}
use denote.Exit.{yes}
use denote.Plain.{bool_vals, bool_Tells}
use denote.Signature.{plain}
use denote.Steps.{nothing, heard}
use denote.Triple.Entry.{on_entry}
use denote.Triple.Walked.{Stays, walk_of, says, stay_dropped, Goes-dropped, ends_at}
use Rattle.unreached.specs.contracts.assert_unchecked as f
use Rattle.unreached.proofs.assert_unchecked.Statement.{statement}
use Rattle.unreached.proofs.assert_unchecked.Code as code

contrary : (b : Bool) → IsTrue b → T (not b) → ⊥
contrary b holds fails = subst (λ (x : Bool). T (not x)) holds fails

abbrev stayed : Stays f.ended.signature.params f.ended.kept
stayed = (stay_dropped _ yes, tt)

pub assert_unchecked_spec : {M : Type 1} → statement M
assert_unchecked_spec 𝓤 𝓛 𝓜 𝓡 wired =
    let c = f.clauses 𝓛 𝓜.mem 𝓡.returns in let W = walk_of 𝓛 f.ended stayed c in let 𝓣 = tables 𝓤 𝓛.H 𝓜 𝓡 𝓡.env in
    proved 𝓛 f.ended stayed c 𝓜 𝓡 (Goes-dropped 𝓛 0 (plain (λ _. bool)) yes (λ κs x w. refl), tt)
    f.Key.name code.function (code.unfolded 𝓤 𝓛.H 𝓜 𝓡 wired)
    (λ κs. (bool_vals, tt)) (λ κs. (bool_Tells, tt)) (λ κs qs bounds a _ are.
    let y : W.Ghost = ((κs, qs, bounds, a, (bool_vals a.0, tt)), tt) in
    qed 𝓛 (raw (on_entry 𝓛 f.signature κs qs a y.0.4) ∷ raw (fact 𝓤 (IsTrue a.0)) ∷ []) ∵ drop ! $ heard ! _ (λ holds.
    enter ! _ _ _ _ _ $
    alloc_all ! (λ l. pass_all ! refl ((tt, tt), tt) $
    sets ! (of_opd ! (get ! refl)) refl (tt, tt) $
    first ! $ branches ! (get ! refl)
    (λ so. sets ! (of_opd ! (unit_lit !)) refl (tt, tt) $
    returns_within ! (W.post y) refl (look_at ! 0 refl) $ free_all ! refl $
    suffices ! _ (ends_at 𝓛 f.ended stayed c y vunit tt (tt, tt) (tt, tt)) $
    says ! holds $ feq_i ! _ (vunit ∷ []) _ refl $ nothing ! $ nothing ! $ join ! $ nothing ! $ done !)
    (λ fails. absurd (contrary a.0 holds fails)))))
