-- A function of a handle's pointer and of a room, and maybe of one more parameter before them, which lends the handle to one call and writes what this gives into the room: what it is, and its walk.
use Rattle.embed.proofs.Steps.{[], ◌∷◌, ◌++◌, List, refl, id⊢, full_share, sep, emp, fact, vptr, tables, raw, ◌$◌, ◌∵◌, !, qed, done, Logic, sem, enter, of_opd, unit_lit, addr, init, stop, no_more, and_then, assigns, returns, alloc_all, pass_all, free_all, look_at, get, through, sets, lands_as, yes, One, RawPtr, rawptr_vals, rawptr_Tells, lies_at, room_at, mut_vals, plain, framed, Ura, RattleType, layout, A, ℕ, ◌+◌, Fn, Callee, Local, Opd, local, ty_unit, ty_ptr, ty_ref, erased, mut, value_local, seq, assign, place, rv_opd, copy, addr_of, deref, call, opd_unit, return, Closed, Model, Running, pointee, Lawful, mut_ref_to, Ended, Clauses, closing, Meets}
use Rattle.host_calls.specs.Rooms.{lies_there}
use Rattle.embed.proofs.Calling.{of_unit, alloc_vals, alloc_tells, alloc_typed, meets, written_then, calls_for, written}
use Rattle.embed.proofs.Putting.{of_given, both_given, gives}

-- `std::ptr::write(room as *mut R, callee(.., &mut *(at as *mut S)));`, where ls are the locals of the j parameters before `at`, and xs are these parameters
abbrev pub giving : RattleType → RattleType → (j : ℕ) → List Local → List Opd → Callee → Fn
giving S R j ls xs callee = record {
  lifetimes = 0;
  outlives = [];
  ty_params = [];
  givens = 0;
  params = j + 2;
  locals = local ty_unit value_local ∷ (ls ++ (local ty_ptr value_local ∷ local ty_ptr value_local ∷ local ty_ptr value_local ∷ local (layout R) value_local ∷ local ty_ptr value_local ∷ local (ty_ref erased mut (pointee S.written)) value_local ∷ []));
  body = seq (assign (place (j + 3) []) (rv_opd (copy (place (j + 2) [])))) (seq (assign (place (j + 5) []) (rv_opd (copy (place (j + 1) [])))) (seq (assign (place (j + 6) []) (addr_of (place (j + 5) (deref (layout S) ∷ []))))
      (seq (call callee (xs ++ (copy (place (j + 6) []) ∷ [])) (place (j + 4) [])) (seq (assign (place (j + 3) (deref (layout R) ∷ [])) (rv_opd (copy (place (j + 4) [])))) (seq (assign (place 0 []) (rv_opd opd_unit)) return)))));
}

module _ {M : Type 1} {𝓤 : Ura M} (𝓛 : Logic 𝓤) (𝓜 : Model 𝓤 𝓛.H) (𝓡 : Running 𝓤 𝓛.H 𝓜) (S R : RattleType) (one_s : One S) (one : One R) (law : Lawful 𝓛 R) (told : S.Denot → S.Denot → R.Denot → Type 0) (name callee : Callee) where
  abbrev lender : Ended
  lender = of_unit {n = 0} [] (plain (λ κs. RawPtr) ∷ plain (λ κs. RawPtr) ∷ []) (yes, (yes, tt))

  abbrev pub leaves : Clauses 𝓤 lender
  leaves κs a = record { ghost = S.Denot; requires = λ value. sep 𝓤 (sem 𝓛 (lies_there S a.0 value)) (sem 𝓛 (room_at R a.1.0)); ensures = λ value u e. both_given 𝓛 𝓜 𝓡 R one law S (told value) a.0 a.1.0 }

  abbrev giver : Ended
  giver = of_given R {m = 1} [] (mut_ref_to (0 ∷ []) tt (plain (λ κs. S)) ∷ []) (yes, tt)

  abbrev pub tells : Clauses 𝓤 giver
  tells κs a = record { ghost = Unit {0}; requires = λ u. emp 𝓤; ensures = λ u h e. fact 𝓤 (told a.0.now e.0.now h) }

  pub gives_alone : Closed 𝓤 𝓛.H (tables 𝓤 𝓛.H 𝓜 𝓡 𝓡.env).C (tables 𝓤 𝓛.H 𝓜 𝓡 𝓡.env).Λ name (giving S R 0 [] [] callee)
      → Meets 𝓛 giver.signature ((tables 𝓤 𝓛.H 𝓜 𝓡 𝓡.env).C callee) (closing 𝓛 giver tells)
      → Meets 𝓛 lender.signature ((tables 𝓤 𝓛.H 𝓜 𝓡 𝓡.env).C name) (closing 𝓛 lender leaves)
  gives_alone closed met = meets 𝓛 lender leaves 𝓜 𝓡 name (giving S R 0 [] [] callee) closed (λ κs. (rawptr_vals, (rawptr_vals, tt))) (λ κs. (rawptr_Tells, (rawptr_Tells, tt))) (λ κs qs bounds a value are.
      gives 𝓛 𝓜 𝓡 R one law [] lender.signature.params lender.kept leaves [] giver.signature.params giver.kept tells callee (giving S R 0 [] [] callee) met S one_s κs qs bounds
      (λ p r. (p, (r, tt))) (λ p r. (rawptr_vals p, (rawptr_vals r, tt))) (λ p r. value) a.0 a.1.0 value (λ α. (α ∷ [], tt)) (full_share, tt) (λ α. tt) (λ α x. (x, tt)) (λ α x. (mut_vals x, tt)) (λ α x. tt)
      (told value) (λ α. id⊢ 𝓤 _) (λ α. id⊢ 𝓤 _) (λ α x. id⊢ 𝓤 _) (λ α x ws. ws.0) (λ α b o γ h ws. id⊢ 𝓤 _) 0 0 (λ α x. refl) (λ α x ws. refl)
      (λ p r. (tt, (tt, tt))) (λ p r. (tt, (tt, tt))) (λ p r. (tt, (tt, tt))) (λ p r. id⊢ 𝓤 _) (λ b o. vptr b o ∷ []) (λ α x. refl) (λ b o b' o' Q.
      qed 𝓛 (raw ((tables 𝓤 𝓛.H 𝓜 𝓡 𝓡.env).C callee (vptr b o ∷ []) (written_then 𝓛 (layout R) b' o' Q)) ∷ []) ∵ enter ! _ _ _ _ _ $ alloc_all ! (λ l. pass_all ! refl ((tt, tt), ((tt, tt), tt)) $
      sets ! (of_opd ! (get ! refl)) refl (tt, tt) $ sets ! (of_opd ! (get ! refl)) refl (tt, tt) $ sets ! (addr ! (through ! refl (stop !))) refl (tt, tt) $
      calls_for ! (framed 𝓤 𝓛.H 𝓜 (tables 𝓤 𝓛.H 𝓜 𝓡 𝓡.env)) (vptr b o ∷ []) (layout R) b' o' Q (and_then ! (get ! refl) (no_more !)) (λ v typed. lands_as ! refl refl typed $
      assigns ! (of_opd ! (get ! refl)) (through ! refl (stop !)) (init ! 0 refl typed) $ written ! (layout R) b' o' v Q $ sets ! (of_opd ! (unit_lit !)) refl (tt, tt) $ returns ! (look_at ! 0 refl) $ free_all ! refl $ done !))))

  abbrev lender_with : Ended
  lender_with = of_unit {n = 0} [] (plain (λ κs. A) ∷ plain (λ κs. RawPtr) ∷ plain (λ κs. RawPtr) ∷ []) (yes, (yes, (yes, tt)))

  abbrev pub leaves_with : Clauses 𝓤 lender_with
  leaves_with κs a = record { ghost = S.Denot; requires = λ value. sep 𝓤 (sem 𝓛 (lies_there S a.1.0 value)) (sem 𝓛 (room_at R a.1.1.0)); ensures = λ value u e. both_given 𝓛 𝓜 𝓡 R one law S (told value) a.1.0 a.1.1.0 }

  abbrev giver_with : Ended
  giver_with = of_given R {m = 1} [] (plain (λ κs. A) ∷ mut_ref_to (0 ∷ []) tt (plain (λ κs. S)) ∷ []) (yes, (yes, tt))

  abbrev pub tells_with : Clauses 𝓤 giver_with
  tells_with κs a = record { ghost = Unit {0}; requires = λ u. emp 𝓤; ensures = λ u h e. fact 𝓤 (told a.1.0.now e.1.0.now h) }

  abbrev giving_with : Fn
  giving_with = giving S R 1 (local (layout A) value_local ∷ []) (copy (place 1 []) ∷ []) callee

  pub gives_with : Closed 𝓤 𝓛.H (tables 𝓤 𝓛.H 𝓜 𝓡 𝓡.env).C (tables 𝓤 𝓛.H 𝓜 𝓡 𝓡.env).Λ name giving_with
      → Meets 𝓛 giver_with.signature ((tables 𝓤 𝓛.H 𝓜 𝓡 𝓡.env).C callee) (closing 𝓛 giver_with tells_with)
      → Meets 𝓛 lender_with.signature ((tables 𝓤 𝓛.H 𝓜 𝓡 𝓡.env).C name) (closing 𝓛 lender_with leaves_with)
  gives_with closed met = meets 𝓛 lender_with leaves_with 𝓜 𝓡 name giving_with closed (λ κs. (alloc_vals, (rawptr_vals, (rawptr_vals, tt)))) (λ κs. (alloc_tells, (rawptr_Tells, (rawptr_Tells, tt)))) (λ κs qs bounds a value are.
      gives 𝓛 𝓜 𝓡 R one law [] lender_with.signature.params lender_with.kept leaves_with [] giver_with.signature.params giver_with.kept tells_with callee giving_with met S one_s κs qs bounds
      (λ p r. (a.0, (p, (r, tt)))) (λ p r. (alloc_vals a.0, (rawptr_vals p, (rawptr_vals r, tt)))) (λ p r. value) a.1.0 a.1.1.0 value (λ α. (α ∷ [], tt)) (full_share, tt) (λ α. tt) (λ α x. (a.0, (x, tt))) (λ α x. (alloc_vals a.0, (mut_vals x, tt))) (λ α x. tt)
      (told value) (λ α. id⊢ 𝓤 _) (λ α. id⊢ 𝓤 _) (λ α x. id⊢ 𝓤 _) (λ α x ws. ws.1.0) (λ α b o γ h ws. id⊢ 𝓤 _) 1 0 (λ α x. refl) (λ α x ws. refl)
      (λ p r. (tt, (tt, (tt, tt)))) (λ p r. (tt, (tt, (tt, tt)))) (λ p r. (tt, (tt, (tt, tt)))) (λ p r. id⊢ 𝓤 _) (λ b o. alloc_vals a.0 ++ (vptr b o ∷ [])) (λ α x. refl) (λ b o b' o' Q.
      qed 𝓛 (raw ((tables 𝓤 𝓛.H 𝓜 𝓡 𝓡.env).C callee (alloc_vals a.0 ++ (vptr b o ∷ [])) (written_then 𝓛 (layout R) b' o' Q)) ∷ []) ∵ enter ! _ _ _ _ _ $ alloc_all ! (λ l. pass_all ! refl ((alloc_typed 𝓛 a.0 are.0).0, ((tt, tt), ((tt, tt), tt))) $
      sets ! (of_opd ! (get ! refl)) refl (tt, tt) $ sets ! (of_opd ! (get ! refl)) refl (tt, tt) $ sets ! (addr ! (through ! refl (stop !))) refl (tt, tt) $
      calls_for ! (framed 𝓤 𝓛.H 𝓜 (tables 𝓤 𝓛.H 𝓜 𝓡 𝓡.env)) (alloc_vals a.0 ++ (vptr b o ∷ [])) (layout R) b' o' Q (and_then ! (get ! refl) (and_then ! (get ! refl) (no_more !))) (λ v typed. lands_as ! refl refl typed $
      assigns ! (of_opd ! (get ! refl)) (through ! refl (stop !)) (init ! 0 refl typed) $ written ! (layout R) b' o' v Q $ sets ! (of_opd ! (unit_lit !)) refl (tt, tt) $ returns ! (look_at ! 0 refl) $ free_all ! refl $ done !))))
