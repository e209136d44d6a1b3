-- `nrbpf_raw_call` lends the session to `call`, and passes the bytes on.
use Rattle.embed.proofs.Steps.{[], ◌∷◌, refl, tables, vptr, raw, ◌$◌, ◌∵◌, !, qed, done, enter, alloc_all, pass_all, sets, of_opd, get, addr, through, stop, framed, and_then, no_more, lands_as, unit_lit, returns, look_at, free_all, named, u8, shr_slice_vals, shr_slice_Tells}
use Rattle.embed.proofs.Calling.{calls, unit_then}
use Rattle.embed.proofs.Lending.{goes_on, rest}
use Rattle.host_calls.specs.Calls.{Goes}
use Rattle.host_calls.specs.contracts.handles.SessionHandle.{the_row as R}
use Rattle.embed.specs.contracts.nrbpf_raw_call as f
use Rattle.embed.proofs.nrbpf_raw_call.Statement.{statement}
use Rattle.embed.proofs.nrbpf_raw_call.Code as code
use Rattle.host_calls.specs.contracts.calls.call as g
use Rattle.host_calls.proofs.calls.call.Met.{met}

pub nrbpf_raw_call_spec : {M : Type 1} → statement M
nrbpf_raw_call_spec 𝓤 𝓛 𝓜 𝓡 wired =
    goes_on f.signature.outlives (rest f.signature.params) f.ended.kept.1 𝓛 R 𝓜 𝓡 (λ κs a e. Goes a.0.now) f.Key.name g.Key.name code.function
    (code.unfolded 𝓤 𝓛.H 𝓜 𝓡 wired) (met 𝓤 𝓛 𝓜 𝓡 (code.calls-host_calls::calls::call 𝓡.env wired))
    (λ κs. (shr_slice_vals, tt)) (λ κs. (shr_slice_Tells (named 0) κs.0 u8, tt)) (λ κs a are b o Q.
    qed 𝓛 (raw ((tables 𝓤 𝓛.H 𝓜 𝓡 𝓡.env).C g.Key.name (vptr b o ∷ shr_slice_vals a.0) (unit_then 𝓛 Q)) ∷ []) ∵ enter ! _ _ _ _ _ $ alloc_all ! (λ l. pass_all ! refl ((tt, tt), ((tt, (tt, (record { fits = are.0.0.1.0 }, tt))), tt)) $
    sets ! (of_opd ! (get ! refl)) refl (tt, tt) $ sets ! (addr ! (through ! refl (stop !))) refl (tt, tt) $
    calls ! (framed 𝓤 𝓛.H 𝓜 (tables 𝓤 𝓛.H 𝓜 𝓡 𝓡.env)) (vptr b o ∷ shr_slice_vals a.0) Q (and_then ! (get ! refl) (and_then ! (get ! refl) (no_more !))) $
    lands_as ! refl refl (tt, tt) $ sets ! (of_opd ! (unit_lit !)) refl (tt, tt) $ returns ! (look_at ! 0 refl) $ free_all ! refl $ done !)) refl
