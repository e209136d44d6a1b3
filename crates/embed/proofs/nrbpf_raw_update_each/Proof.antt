-- `nrbpf_raw_update_each` lends the lane to `update_each`, and passes the questions and the room for outcomes on.
use Rattle.embed.proofs.Steps.{[], ◌∷◌, refl, tables, vptr, raw, ◌$◌, ◌∵◌, !, qed, done, enter, alloc_all, pass_all, sets, of_opd, get, addr, through, stop, framed, and_then, no_more, lands_as, unit_lit, returns, look_at, free_all, ◌++◌, named, named_lft, shr_slice_vals, shr_slice_Tells, mut_slice_vals, mut_slice_Tells, from, fld, hop, look_in_at, sub, whole, agg, get_in}
use Rattle.embed.proofs.Calling.{calls, unit_then}
use Rattle.embed.proofs.Lending.{goes_on, rest}
use Rattle.host_calls.specs.Lanes.{UpdatesEach}
use Rattle.host_calls.specs.contracts.handles.LaneHandle.{the_row as R}
use Rattle.store_steps.specs.contracts.steps.Question.{the_row as Q}
use Rattle.host_calls.specs.contracts.handles.Outcome.{the_row as O}
use Rattle.embed.specs.contracts.nrbpf_raw_update_each as f
use Rattle.embed.proofs.nrbpf_raw_update_each.Statement.{statement}
use Rattle.embed.proofs.nrbpf_raw_update_each.Code as code
use Rattle.host_calls.specs.contracts.lanes.update_each as g
use Rattle.host_calls.proofs.lanes.update_each.Met.{met}

pub nrbpf_raw_update_each_spec : {M : Type 1} → statement M
nrbpf_raw_update_each_spec 𝓤 𝓛 𝓜 𝓡 wired =
    goes_on f.signature.outlives (rest f.signature.params) f.ended.kept.1 𝓛 R 𝓜 𝓡 (λ κs a e. UpdatesEach a.0.now a.1.0.now e.1.0.now) f.Key.name g.Key.name code.function
    (code.unfolded 𝓤 𝓛.H 𝓜 𝓡 wired) (met 𝓤 𝓛 𝓜 𝓡 (code.calls-host_calls::lanes::update_each 𝓡.env wired))
    (λ κs. (shr_slice_vals, (mut_slice_vals, tt))) (λ κs. (shr_slice_Tells (named 0) κs.0 (Q (named_lft 3 1 tt κs)), (mut_slice_Tells (named 2) κs.1.1.0 O, tt))) (λ κs a are b o P.
    qed 𝓛 (raw ((tables 𝓤 𝓛.H 𝓜 𝓡 𝓡.env).C g.Key.name (vptr b o ∷ shr_slice_vals a.0 ++ mut_slice_vals a.1.0) (unit_then 𝓛 P)) ∷ []) ∵ enter ! _ _ _ _ _ $ alloc_all ! (λ l. pass_all ! refl ((tt, tt), ((tt, (tt, (record { fits = are.0.0.1.0 }, tt))), ((tt, (tt, (record { fits = are.1.0.0.1.0 }, tt))), tt))) $
    sets ! (of_opd ! (get ! refl)) refl (tt, tt) $ sets ! (addr ! (through ! refl (stop !))) refl (tt, tt) $
    sets ! (addr ! (from ! (fld ! refl (hop ! (look_in_at ! 3 (sub ! 0 refl (whole !))) (stop !))))) refl (tt, tt) $ sets ! (agg ! (and_then ! (get ! refl) (and_then ! (get_in ! (fld ! refl (stop !)) (sub ! 1 refl (whole !))) (no_more !)))) refl (tt, (tt, (record { fits = are.1.0.0.1.0 }, tt))) $
    calls ! (framed 𝓤 𝓛.H 𝓜 (tables 𝓤 𝓛.H 𝓜 𝓡 𝓡.env)) (vptr b o ∷ shr_slice_vals a.0 ++ mut_slice_vals a.1.0) P (and_then ! (get ! refl) (and_then ! (get ! refl) (and_then ! (get ! refl) (no_more !)))) $
    lands_as ! refl refl (tt, tt) $ sets ! (of_opd ! (unit_lit !)) refl (tt, tt) $ returns ! (look_at ! 0 refl) $ free_all ! refl $ done !)) refl
