-- A function of a pointer and of other parameters, which lends what lies there to one call and passes the others on: what it is, and its walk.
use Rattle.embed.proofs.Steps.{One, [], ◌∷◌, ◌++◌, List, ℕ, refl, MutBor, ent, full_share, id⊢, ex, ex_i, sep, emp, fact, fact_i, flft, flent, named, Val, vptr, tables, WpFn, ‵, raw, ◌⊛◌, some, later, prop, ◌$◌, ◌∵◌, !, qed, done, move, keep, drop, use0, use1, use2, use3, split, join, fsplit, pick, await, regoal, suffices, Logic, sem, lft_new, lft_end, unit, yes, lends_ref, ref_back, mem, Ptr, RawPtr, block_ptr, lies_at, in_a_block, rawptr_vals, rawptr_Tells, MutRef, mut_vals, plain, nothing, heard, triple_of, framed, Ura, RattleType, peeks, Fn, Callee, local, ty_unit, ty_ptr, ty_ref, erased, mut, value_local, seq, assign, place, rv_opd, copy, addr_of, deref, call, opd_unit, return, pointee, enter, of_opd, unit_lit, addr, stop, no_more, and_then, returns, alloc_all, pass_all, free_all, look_at, get, through, sets, lands_as, layout, SProp, GName, suc, Item, Goal, Seq, Soaks, updating, now, frame, Is, shows, Lawful, Typed, Spells, Tellss, Ises, Are, valss, Closed, Model, Running, Lfts, Shares, Outlives, AllOutlive, toks, left, Denots, Valss, flat, owns, Slot, types_at, Ended, Clauses, closing, Kepts, Fins, Outs, outs, lasts_of, Meets, Contract, Triple, enters}
use types.SemTy.{Body}
use Rattle.host_calls.specs.Rooms.{lies_there}
use Rattle.embed.proofs.There.{is_there, lies}
use Rattle.embed.proofs.Calling.{Forwards, unit_then, calls, of_unit, ends, meets, hands}

-- the reference that is lent
abbrev pub loan : (R : RattleType) → ℕ → ℕ → GName → R.Denot → MutBor R.Denot
loan R b o γ value = record { ref_ptr = (b, o); ghost_name = γ; now = value }

module _ {M : Type 1} {𝓤 : Ura M} {𝓛 : Logic 𝓤} {K : Type 0} {Γ : List (Item 𝓤)} {G : Goal 𝓤 𝓛.H} where
  -- what lies there is lent for a new lifetime: the loan, the lender's part, and the lifetime's token
  pub lend : K → Soaks G → (R : RattleType) (ℓ : ℕ) (value : R.Denot) (b o : ℕ)
      → ((α : ℕ) (γ : GName) → Seq K 𝓛 (‵ ((MutRef (named ℓ) (α ∷ []) R).own_val (loan R b o γ value) (mut_vals (loan R b o γ value))) ∷ ‵ (flent (α ∷ []) (Body (mem R) b o γ)) ∷ ‵ (flft (α ∷ []) full_share) ∷ Γ) G)
      → Seq K 𝓛 (‵ (lies_at R full_share (block_ptr b o) value) ∷ Γ) G
  lend t a R ℓ value b o k = lft_new t a (λ α. move t (1 ∷ []) $
      use1 𝓛 (later (some (λ γ. ‵ ((MutRef (named ℓ) (α ∷ []) R).own_val (loan R b o γ value) (mut_vals (loan R b o γ value))) ⊛ ‵ (flent (α ∷ []) (Body (mem R) b o γ)))))
      (lends_ref 𝓛 R (named ℓ) (α ∷ []) value b o) $ await t a $ pick t (λ γ. split t $ k α γ))

  -- machine values that a value owns are of its type's
  pub is_typed : K → (R : RattleType) → Lawful 𝓛 R → (h : R.Denot) (vs : List Val)
      → (Typed R.mir vs → Seq K 𝓛 (‵ (R.own_val h vs) ∷ Γ) G) → Seq K 𝓛 (‵ (R.own_val h vs) ∷ Γ) G
  is_typed t R law h vs k = peeks t R (Is R) (shows 𝓛 R) h vs (λ is. k (law.typed h vs is))

-- the parameters after the first one
abbrev pub rest : {n : ℕ} → List (Slot n) → List (Slot n)
rest [] = []
rest (s ∷ ss) = ss

module _ {n : ℕ} (os : List (Outlives n)) (Ps : List (Slot n)) (ks : Kepts Ps) where
  -- the function's signature: the pointer, and the other parameters Ps
  abbrev pub of_pointer : Ended
  of_pointer = of_unit os (plain (λ κs. RawPtr) ∷ Ps) (yes, ks)

  module _ {M : Type 1} {𝓤 : Ura M} (𝓛 : Logic 𝓤) (R : RattleType) where
    -- what a call says of the other parameters, of the value and of its last one
    abbrev pub Told : Type 1
    Told = (κs : Lfts n) → Denots (types_at Ps κs) → Outs κs Ps ks → R.Denot → R.Denot → Type 0

    -- the function is given a value that is at its pointer, and leaves this there
    abbrev pub leaves : ((κs : Lfts n) → Denots (types_at Ps κs) → Outs κs Ps ks → Ptr → R.Denot → SProp 𝓤)
        → Clauses 𝓤 of_pointer
    leaves P κs a = record { ghost = R.Denot; requires = λ value. sem 𝓛 (lies_there R a.0 value); ensures = λ value r e. P κs a.1 e.1 a.0 value }

    -- a value lies there of which this is told
    abbrev pub told_there : Told → (κs : Lfts n) → Denots (types_at Ps κs) → Outs κs Ps ks → Ptr → R.Denot → SProp 𝓤
    told_there told κs a e at value = ex 𝓤 (λ (after : R.Denot). sep 𝓤 (sem 𝓛 (lies_there R at after)) (fact 𝓤 (told κs a e value after)))

    -- the contract of the call, which is given the loan for the pointer: what `triple_of` makes of its clauses
    abbrev pub of_loan : Told → Contract 𝓤
    of_loan told = record {
      Ghost = (x : (κs : Lfts (suc n)) × (qs : Shares (suc n)) × AllOutlive n os κs.1 × (a : MutBor R.Denot × Denots (types_at Ps κs.1)) × (List Val × Valss (types_at Ps κs.1))) × Unit {0};
      args = λ y. y.0.4.0 ++ flat (types_at Ps y.0.0.1) y.0.4.1;
      pre = λ y. sep 𝓤 (sep 𝓤 (sep 𝓤 (𝓛.A.lft y.0.0.0 y.0.1.0) (toks 𝓛 n y.0.0.1 y.0.1.1)) (sep 𝓤 (sem 𝓛 ((MutRef (named 0) y.0.0.0 R).own_val y.0.3.0 y.0.4.0)) (sem 𝓛 (owns (types_at Ps y.0.0.1) y.0.3.1 y.0.4.1)))) (emp 𝓤);
      post = λ y v. 𝓛.H.⇛ (ex 𝓤 (λ (u : Unit {0}). sep 𝓤 (sep 𝓤 (sep 𝓤 (𝓛.A.lft y.0.0.0 y.0.1.0) (toks 𝓛 n y.0.0.1 y.0.1.1)) (sem 𝓛 (unit.own_val u (v ∷ []))))
          (ex 𝓤 (λ (ws : R.Denot × Fins y.0.0.1 Ps ks y.0.3.1). sep 𝓤 (sep 𝓤 (sem 𝓛 (left ((MutRef (named 0) y.0.0.0 R).exit yes) y.0.3.0 ws.0)) (sem 𝓛 (lasts_of y.0.0.1 Ps ks y.0.3.1 ws.1)))
          (fact 𝓤 (told y.0.0.1 y.0.3.1 (outs y.0.0.1 Ps ks y.0.3.1 ws.1) y.0.3.0.now ws.0))))));
    }

    module _ (𝓜 : Model 𝓤 𝓛.H) (𝓡 : Running 𝓤 𝓛.H 𝓜) (told : Told) (name callee : Callee) (f : Fn) (closed : Closed 𝓤 𝓛.H (tables 𝓤 𝓛.H 𝓜 𝓡 𝓡.env).C (tables 𝓤 𝓛.H 𝓜 𝓡 𝓡.env).Λ name f)
        (met : Triple 𝓤 ((tables 𝓤 𝓛.H 𝓜 𝓡 𝓡.env).C callee) (of_loan told)) (sp : (κs : Lfts n) → Spells (types_at Ps κs)) (tells : (κs : Lfts n) → Tellss (types_at Ps κs) (Ises (types_at Ps κs)) (sp κs))
        (forwards : (κs : Lfts n) (a : Denots (types_at Ps κs)) → Are (types_at Ps κs) (Ises (types_at Ps κs)) a (valss (types_at Ps κs) (sp κs) a) → (b o : ℕ) → Forwards 𝓛 𝓜 𝓡 f callee (vptr b o ∷ flat (types_at Ps κs) (valss (types_at Ps κs) (sp κs) a))) where
      pub lends : (P : (κs : Lfts n) → Denots (types_at Ps κs) → Outs κs Ps ks → Ptr → R.Denot → SProp 𝓤)
          → ((κs : Lfts n) (a : Denots (types_at Ps κs)) (e : Outs κs Ps ks) (b o : ℕ) (value last : R.Denot) → told κs a e value last → ent 𝓤 (sem 𝓛 (lies_at R full_share (block_ptr b o) last)) (P κs a e (block_ptr b o) value))
          → Meets 𝓛 of_pointer.signature ((tables 𝓤 𝓛.H 𝓜 𝓡 𝓡.env).C name) (closing 𝓛 of_pointer (leaves P))
      lends P back =
          let T = of_pointer in let c = leaves P in let 𝓣 = tables 𝓤 𝓛.H 𝓜 𝓡 𝓡.env in
          meets 𝓛 T c 𝓜 𝓡 name f closed (λ κs. (rawptr_vals, sp κs)) (λ κs. (rawptr_Tells, tells κs)) (λ κs qs bounds a value are.
          let us = valss (types_at Ps κs) (sp κs) a.1 in let F = triple_of 𝓛 T.signature (closing 𝓛 T c) in
          let y : Ptr → F.Ghost = λ p. ((κs, qs, bounds, (p, a.1), (rawptr_vals p, us)), value) in
          qed 𝓛 ((raw (toks 𝓛 n κs qs) ⊛ (‵ (RawPtr.own_val a.0 (rawptr_vals a.0)) ⊛ ‵ (owns (types_at Ps κs) a.1 us))) ∷ ‵ (lies_there R a.0 value) ∷ []) ∵ move ! (1 ∷ []) $ use1 𝓛 (‵ (lies_at R full_share a.0 value)) (lies 𝓛 R a.0 value) $
          in_a_block ! a.0 (λ p. lies_at R full_share p value) (id⊢ 𝓤 _) (λ b o e.
          regoal ! (λ p. prop (WpFn 𝓤 𝓛.H 𝓣.C 𝓣.Λ f (rawptr_vals p ++ flat (types_at Ps κs) us) (F.post (y p)))) e refl $
          suffices ! _ (forwards κs a.1 are.1 b o (F.post (y (block_ptr b o)))) $ suffices ! _ (enters 𝓤 𝓛.H 𝓜 𝓣 callee _ _) $ updating ! $
          lend ! tt R 0 value b o (λ α γ.
          -- [the loan; the lender's part; the token of α; the tokens, and what the parameters own]
          let r = loan R b o γ value in
          let z : (of_loan told).Ghost = (((α ∷ [], κs), (full_share, qs), bounds, (r, a.1), (mut_vals r, us)), tt) in
          move ! (3 ∷ []) $ split ! $ move ! (1 ∷ []) $ split ! $ drop ! $ move ! (2 ∷ 0 ∷ []) $ join ! $ move ! (3 ∷ 1 ∷ []) $ join ! $ join ! $
          nothing ! $ move ! (1 ∷ 0 ∷ []) $ use2 𝓛 (raw ((of_loan told).pre z)) (id⊢ 𝓤 _) $ now ! $ hands ! (framed 𝓤 𝓛.H 𝓜 𝓣 callee) (of_loan told) z (met z) (λ v.
          use1 𝓛 (later (some (λ (u : Unit {0}). ((‵ (flft (α ∷ []) full_share) ⊛ raw (toks 𝓛 n κs qs)) ⊛ ‵ (unit.own_val u (v ∷ []))) ⊛
          some (λ (ws : R.Denot × Fins κs Ps ks a.1). (‵ (left ((MutRef (named 0) (α ∷ []) R).exit yes) r ws.0) ⊛ ‵ (lasts_of κs Ps ks a.1 ws.1)) ⊛ raw (fact 𝓤 (told κs a.1 (outs κs Ps ks a.1 ws.1) value ws.0)))))) (id⊢ 𝓤 _) $
          updating ! $ await ! tt $ pick ! (λ u. split ! $ split ! $ split ! $ lft_end ! tt $ move ! (3 ∷ []) $ pick ! (λ ws. split ! $ move ! (1 ∷ []) $
          heard ! (told κs a.1 (outs κs Ps ks a.1 ws.1) value ws.0) (λ is. split ! $ fsplit ! $
          -- [the last value; its borrow; those of the others; α is over; the tokens; the result; the lender's part]
          move ! (3 ∷ 6 ∷ 0 ∷ []) $ use3 𝓛 (later (‵ (lies_at R full_share (block_ptr b o) ws.0))) (ref_back 𝓛 R (α ∷ []) γ ws.0 b o) $ await ! tt $ now ! $
          -- [the value; its borrow; the last values of the others; the tokens; the result]
          use1 𝓛 (raw (P κs a.1 (outs κs Ps ks a.1 ws.1) (block_ptr b o) value)) (back κs a.1 (outs κs Ps ks a.1 ws.1) b o value ws.0 is) $
          move ! (4 ∷ []) $ frame ! $ suffices ! _ (ends 𝓛 os (plain (λ κs. RawPtr) ∷ Ps) (yes, ks) c (y (block_ptr b o)) (tt, ws.1)) $
          nothing ! $ move ! (0 ∷ 3 ∷ []) $ join ! $ move ! (0 ∷ 1 ∷ []) $ join ! $ keep ! (2 ∷ 0 ∷ []) $ done !)))))))

      -- `lends`, if the last value stays there, and what the call says of it is so
      pub goes_on : One R → Meets 𝓛 of_pointer.signature ((tables 𝓤 𝓛.H 𝓜 𝓡 𝓡.env).C name) (closing 𝓛 of_pointer (leaves (told_there told)))
      goes_on one = lends (told_there told) (λ κs a e b o value last is.
          qed 𝓛 (‵ (lies_at R full_share (block_ptr b o) last) ∷ []) ∵ use1 𝓛 (‵ (lies_there R (block_ptr b o) last)) (is_there 𝓛 R one b o last) $ use0 𝓛 (raw (fact 𝓤 (told κs a e value last))) (fact_i 𝓤 (told κs a e value last) (emp 𝓤) is) $ move ! (1 ∷ 0 ∷ []) $
          use2 𝓛 (raw (told_there told κs a e (block_ptr b o) value)) (ex_i 𝓤 (λ (x : R.Denot). sep 𝓤 (sem 𝓛 (lies_there R (block_ptr b o) x)) (fact 𝓤 (told κs a e value x))) last) $ done !)

-- `callee(&mut *(at as *mut T));`
abbrev pub lending : RattleType → Callee → Fn
lending R callee = record {
  lifetimes = 0;
  outlives = [];
  ty_params = [];
  givens = 0;
  params = 1;
  locals = local ty_unit value_local ∷ local ty_ptr value_local ∷ local ty_unit value_local ∷ local ty_ptr value_local ∷ local (ty_ref erased mut (pointee R.written)) value_local ∷ [];
  body = seq (assign (place 3 []) (rv_opd (copy (place 1 [])))) (seq (assign (place 4 []) (addr_of (place 3 (deref (layout R) ∷ []))))
      (seq (call callee (copy (place 4 []) ∷ []) (place 2 [])) (seq (assign (place 0 []) (rv_opd opd_unit)) return)));
}

module _ {M : Type 1} {𝓤 : Ura M} (𝓛 : Logic 𝓤) (R : RattleType) (𝓜 : Model 𝓤 𝓛.H) (𝓡 : Running 𝓤 𝓛.H 𝓜) (told : R.Denot → R.Denot → Type 0) (name callee : Callee)
    (closed : Closed 𝓤 𝓛.H (tables 𝓤 𝓛.H 𝓜 𝓡 𝓡.env).C (tables 𝓤 𝓛.H 𝓜 𝓡 𝓡.env).Λ name (lending R callee)) (met : Triple 𝓤 ((tables 𝓤 𝓛.H 𝓜 𝓡 𝓡.env).C callee) (of_loan {n = 0} [] [] tt 𝓛 R (λ κs a e. told))) where
  forwards_alone : (b o : ℕ) → Forwards 𝓛 𝓜 𝓡 (lending R callee) callee (vptr b o ∷ [])
  forwards_alone b o Q = qed 𝓛 (raw ((tables 𝓤 𝓛.H 𝓜 𝓡 𝓡.env).C callee (vptr b o ∷ []) (unit_then 𝓛 Q)) ∷ []) ∵ enter ! _ _ _ _ _ $ alloc_all ! (λ l. pass_all ! refl ((tt, tt), tt) $
      sets ! (of_opd ! (get ! refl)) refl (tt, tt) $ sets ! (addr ! (through ! refl (stop !))) refl (tt, tt) $ calls ! (framed 𝓤 𝓛.H 𝓜 (tables 𝓤 𝓛.H 𝓜 𝓡 𝓡.env)) (vptr b o ∷ []) Q (and_then ! (get ! refl) (no_more !)) $
      lands_as ! refl refl (tt, tt) $ sets ! (of_opd ! (unit_lit !)) refl (tt, tt) $ returns ! (look_at ! 0 refl) $ free_all ! refl $ done !)

  -- `goes_on` of a function that passes nothing on
  pub goes_on_alone : One R → Meets 𝓛 (of_pointer {n = 0} [] [] tt).signature ((tables 𝓤 𝓛.H 𝓜 𝓡 𝓡.env).C name) (closing 𝓛 (of_pointer {n = 0} [] [] tt) (leaves {n = 0} [] [] tt 𝓛 R (told_there {n = 0} [] [] tt 𝓛 R (λ κs a e. told))))
  goes_on_alone one = goes_on {n = 0} [] [] tt 𝓛 R 𝓜 𝓡 (λ κs a e. told) name callee (lending R callee) closed met (λ κs. tt) (λ κs. tt) (λ κs a are. forwards_alone) one
