-- `nrbpf_raw_new_lane` writes the handle that `make_lane` gives into the room.
use Rattle.embed.proofs.Steps.{[], ◌∷◌, ◌++◌, refl, id⊢, tables, raw, ◌$◌, ◌∵◌, !, qed, done, enter, of_opd, unit_lit, init, stop, no_more, and_then, assigns, returns, alloc_all, pass_all, free_all, look_at, get, through, sets, lands_as, rawptr_vals, rawptr_Tells, framed, layout}
use Rattle.embed.proofs.Calling.{alloc_vals, alloc_tells, alloc_typed, meets, written, written_then, calls_for}
use Rattle.embed.proofs.Putting.{puts}
use Rattle.host_calls.specs.Lanes.{IsNewLane}
use Rattle.host_calls.specs.contracts.handles.LaneHandle.{the_row as R}
use Rattle.host_calls.proofs.handles.LaneHandle.TheLaws as laws
use Rattle.embed.specs.contracts.nrbpf_raw_new_lane as f
use Rattle.embed.proofs.nrbpf_raw_new_lane.Statement.{statement}
use Rattle.embed.proofs.nrbpf_raw_new_lane.Code as code
use Rattle.host_calls.specs.contracts.lanes.make_lane as g
use Rattle.host_calls.proofs.lanes.make_lane.Met.{met}

pub nrbpf_raw_new_lane_spec : {M : Type 1} → statement M
nrbpf_raw_new_lane_spec 𝓤 𝓛 𝓜 𝓡 wired =
    let c = f.clauses 𝓛 𝓜.mem 𝓡.returns in
    meets 𝓛 f.ended c 𝓜 𝓡 f.Key.name code.function (code.unfolded 𝓤 𝓛.H 𝓜 𝓡 wired) (λ κs. (alloc_vals, (rawptr_vals, tt)))
    (λ κs. (alloc_tells, (rawptr_Tells, tt))) (λ κs qs bounds a none are.
    let us = alloc_vals a.0 ++ [] in
    puts 𝓛 𝓜 𝓡 R refl ((laws.the_row_laws).lawful 𝓛) f.signature.outlives f.signature.params f.ended.kept c g.signature.params g.ended.kept (g.clauses 𝓛 𝓜.mem 𝓡.returns) g.Key.name code.function
    (met 𝓤 𝓛 𝓜 𝓡 (code.calls-host_calls::lanes::make_lane 𝓡.env wired)) κs qs bounds (λ p. (a.0, (p, tt))) (λ p. (alloc_vals a.0, (rawptr_vals p, tt))) (λ p. none) a.1.0
    (a.0, tt) (alloc_vals a.0, tt) tt IsNewLane (id⊢ 𝓤 _) (λ h e. id⊢ 𝓤 _) 1 refl
    (λ p. (tt, (tt, tt))) (λ p. (tt, (tt, tt))) (λ p. (tt, (tt, tt))) (λ p. id⊢ 𝓤 _) (λ b o Q.
    qed 𝓛 (raw ((tables 𝓤 𝓛.H 𝓜 𝓡 𝓡.env).C g.Key.name us (written_then 𝓛 (layout R) b o Q)) ∷ []) ∵ enter ! _ _ _ _ _ $
    alloc_all ! (λ l. pass_all ! refl ((alloc_typed 𝓛 a.0 are.0).0, ((tt, tt), tt)) $ sets ! (of_opd ! (get ! refl)) refl (tt, tt) $
    calls_for ! (framed 𝓤 𝓛.H 𝓜 (tables 𝓤 𝓛.H 𝓜 𝓡 𝓡.env)) us (layout R) b o Q (and_then ! (get ! refl) (no_more !)) (λ v typed. lands_as ! refl refl typed $
    assigns ! (of_opd ! (get ! refl)) (through ! refl (stop !)) (init ! 0 refl typed) $ written ! (layout R) b o v Q $ sets ! (of_opd ! (unit_lit !)) refl (tt, tt) $ returns ! (look_at ! 0 refl) $ free_all ! refl $ done !))))
