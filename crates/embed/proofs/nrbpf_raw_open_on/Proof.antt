-- `nrbpf_raw_open_on` lends the state to `open_on`, and writes the handle that this gives into the room. The state stays as it was.
use Rattle.embed.proofs.Steps.{◌≡◌, ℕ, vptr, [], ◌∷◌, ◌++◌, refl, full_share, id⊢, sep, emp, fact, fact_i, ftrue, flft, named, tables, ‵, raw, ◌⊛◌, ◌$◌, ◌∵◌, !, qed, done, move, use0, split, pick, some, sem, enter, of_opd, unit_lit, addr, init, stop, no_more, and_then, assigns, returns, alloc_all, pass_all, free_all, look_at, get, through, sets, lands_as, rawptr_vals, rawptr_Tells, mut_vals, shr_vals, shr_Tells, named_lft, heard, framed, layout, rewrite, show}
use Rattle.embed.proofs.Calling.{alloc_vals, alloc_tells, alloc_typed, meets, written, written_then, calls_for}
use Rattle.embed.proofs.Putting.{gives}
use Rattle.host_calls.specs.Openings.{IsOpened}
use Rattle.host_calls.specs.Rooms.{lies_there}
use Rattle.host_calls.specs.contracts.handles.StoreHandle.{the_row as R}
use Rattle.host_calls.proofs.handles.StoreHandle.TheLaws as laws
use Rattle.host_calls.specs.contracts.handles.StateHandle.{the_row as S}
use Rattle.host_calls.specs.contracts.handles.Opening.{the_row as O}
use Rattle.embed.specs.contracts.nrbpf_raw_open_on as f
use Rattle.embed.proofs.nrbpf_raw_open_on.Statement.{statement}
use Rattle.embed.proofs.nrbpf_raw_open_on.Code as code
use Rattle.host_calls.specs.contracts.opening.open_on as g
use Rattle.host_calls.proofs.opening.open_on.Met.{met}

pub nrbpf_raw_open_on_spec : {M : Type 1} → statement M
nrbpf_raw_open_on_spec 𝓤 𝓛 𝓜 𝓡 wired =
    let c = f.clauses 𝓛 𝓜.mem 𝓡.returns in let law = (laws.the_row_laws).lawful 𝓛 in
    meets 𝓛 f.ended c 𝓜 𝓡 f.Key.name code.function (code.unfolded 𝓤 𝓛.H 𝓜 𝓡 wired) (λ κs. (alloc_vals, (shr_vals, (rawptr_vals, (rawptr_vals, tt)))))
    (λ κs. (alloc_tells, (shr_Tells (named 0) κs.0 (O (named_lft 2 1 tt κs)), (rawptr_Tells, (rawptr_Tells, tt))))) (λ κs qs bounds a value are.
    let us = λ (b o : ℕ). alloc_vals a.0 ++ (shr_vals a.1.0 ++ (vptr b o ∷ [])) in let told = λ (last : S.Denot) (h : R.Denot). (last ≡ value) × IsOpened a.1.0.now value.own h in
    gives 𝓛 𝓜 𝓡 R refl law f.signature.outlives f.signature.params f.ended.kept c g.signature.outlives g.signature.params g.ended.kept (g.clauses 𝓛 𝓜.mem 𝓡.returns) g.Key.name code.function
    (met 𝓤 𝓛 𝓜 𝓡 (code.calls-host_calls::opening::open_on 𝓡.env wired)) S refl κs qs bounds (λ p r. (a.0, (a.1.0, (p, (r, tt))))) (λ p r. (alloc_vals a.0, (shr_vals a.1.0, (rawptr_vals p, (rawptr_vals r, tt))))) (λ p r. value) a.1.1.0 a.1.1.1.0 value
    (λ α. (κs.0, (κs.1.0, (α ∷ [], tt)))) (qs.0, (qs.1.0, (full_share, tt))) (λ α. bounds) (λ α x. (a.0, (a.1.0, (x, tt)))) (λ α x. (alloc_vals a.0, (shr_vals a.1.0, (mut_vals x, tt)))) (λ α x. tt) told
    (λ α. qed 𝓛 (‵ (flft (α ∷ []) full_share) ∷ (‵ (flft κs.0 qs.0) ⊛ ‵ (flft κs.1.0 qs.1.0) ⊛ ‵ ftrue) ∷ []) ∵ move ! (1 ∷ []) $ split ! $ move ! (1 ∷ []) $ split ! $ move ! (2 ∷ 0 ∷ 3 ∷ []) $ done !)
    (λ α. qed 𝓛 ((‵ (flft κs.0 qs.0) ⊛ ‵ (flft κs.1.0 qs.1.0) ⊛ ‵ (flft (α ∷ []) full_share) ⊛ ‵ ftrue) ∷ []) ∵ split ! $ move ! (1 ∷ []) $ split ! $ move ! (1 ∷ []) $ split ! $ move ! (0 ∷ 3 ∷ 2 ∷ []) $ done !)
    (λ α x. id⊢ 𝓤 _) (λ α x ws. ws.1.1.0) (λ α b o γ h ws. id⊢ 𝓤 _) 2 2 (λ α x. refl) (λ α x ws. refl)
    (λ p r. (tt, (tt, (tt, (tt, tt))))) (λ p r. (tt, (tt, (tt, (tt, tt))))) (λ p r. (tt, (tt, (tt, (tt, tt))))) (λ p r. qed 𝓛 (some (λ (last : S.Denot). some (λ (h : R.Denot). ‵ (lies_there S p last) ⊛ ‵ (lies_there R r h) ⊛ raw (fact 𝓤 (told last h)))) ∷ []) ∵ pick ! (λ last. pick ! (λ h.
    split ! $ move ! (1 ∷ []) $ split ! $ move ! (1 ∷ []) $ heard ! (told last h) (λ is. rewrite ! 1 (λ (x : S.Denot). ‵ (lies_there S p x)) is.0 refl $ use0 𝓛 (raw (fact 𝓤 (IsOpened a.1.0.now value.own h))) (fact_i 𝓤 _ (emp 𝓤) is.1) $
    show ! (λ (x : R.Denot). sep 𝓤 (sem 𝓛 (lies_there S p value)) (sep 𝓤 (sem 𝓛 (lies_there R r x)) (fact 𝓤 (IsOpened a.1.0.now value.own x)))) h $ move ! (2 ∷ 1 ∷ []) $ done !)))) us (λ α x. refl) (λ b o b' o' Q.
    qed 𝓛 (raw ((tables 𝓤 𝓛.H 𝓜 𝓡 𝓡.env).C g.Key.name (us b o) (written_then 𝓛 (layout R) b' o' Q)) ∷ []) ∵ enter ! _ _ _ _ _ $ alloc_all ! (λ l. pass_all ! refl ((alloc_typed 𝓛 a.0 are.0).0, ((tt, tt), ((tt, tt), ((tt, tt), tt)))) $
    sets ! (of_opd ! (get ! refl)) refl (tt, tt) $ sets ! (of_opd ! (get ! refl)) refl (tt, tt) $ sets ! (addr ! (through ! refl (stop !))) refl (tt, tt) $
    calls_for ! (framed 𝓤 𝓛.H 𝓜 (tables 𝓤 𝓛.H 𝓜 𝓡 𝓡.env)) (us b o) (layout R) b' o' Q (and_then ! (get ! refl) (and_then ! (get ! refl) (and_then ! (get ! refl) (no_more !)))) (λ v typed. lands_as ! refl refl typed $
    assigns ! (of_opd ! (get ! refl)) (through ! refl (stop !)) (init ! 0 refl typed) $ written ! (layout R) b' o' v Q $ sets ! (of_opd ! (unit_lit !)) refl (tt, tt) $ returns ! (look_at ! 0 refl) $ free_all ! refl $ done !))))
