-- A function of two pointers that lends the values there to one call: what it is, and its walk.
use Rattle.embed.proofs.Steps.{One, mono_l, [], ◌∷◌, ◌++◌, refl, ent, full_share, id⊢, ex, ex_i, sep, emp, fact, fact_i, ftrue, flft, vptr, tables, WpFn, ‵, raw, ◌⊛◌, some, later, prop, ◌$◌, ◌∵◌, !, qed, done, move, keep, drop, use0, use1, use2, use3, split, join, fsplit, pick, await, regoal, suffices, Logic, sem, enter, of_opd, unit_lit, addr, stop, no_more, and_then, returns, alloc_all, pass_all, free_all, look_at, get, through, sets, lands_as, lft_end, unit, yes, ref_back, Ptr, RawPtr, block_ptr, lies_at, in_a_block, rawptr_vals, rawptr_Tells, mut_vals, plain, nothing, heard, lasts, on_entry, triple_of, framed, Ura, RattleType, layout, Fn, Callee, local, ty_unit, ty_ptr, ty_ref, erased, mut, value_local, seq, assign, place, rv_opd, copy, addr_of, deref, call, opd_unit, return, SProp, via, comm∗, emp∗, Closed, Model, Running, updating, now, frame, pointee, mut_ref_to, Ended, Clauses, closing, Meets, enters}
use Rattle.host_calls.specs.Rooms.{lies_there}
use Rattle.embed.proofs.There.{is_there, lies}
use Rattle.embed.proofs.Calling.{of_unit, unit_then, calls, ends_plain, hands, meets}
use Rattle.embed.proofs.Lending.{lend, loan}

-- its signature
abbrev pub of_pointers : Ended
of_pointers = of_unit {n = 0} [] (plain (λ κs. RawPtr) ∷ plain (λ κs. RawPtr) ∷ []) (yes, (yes, tt))

-- that of the call
abbrev pub of_loans : RattleType → RattleType → Ended
of_loans S R = of_unit {n = 2} [] (mut_ref_to (0 ∷ []) tt (plain (λ κs. S)) ∷ mut_ref_to (1 ∷ []) tt (plain (λ κs. R)) ∷ []) (yes, (yes, tt))

-- `callee(&mut *(first as *mut S), &mut *(second as *mut R));`
abbrev pub lending_both : RattleType → RattleType → Callee → Fn
lending_both S R callee = record {
  lifetimes = 0;
  outlives = [];
  ty_params = [];
  givens = 0;
  params = 2;
  locals = local ty_unit value_local ∷ local ty_ptr value_local ∷ local ty_ptr value_local ∷ local ty_unit value_local ∷ local ty_ptr value_local
      ∷ local (ty_ref erased mut (pointee S.written)) value_local ∷ local ty_ptr value_local ∷ local (ty_ref erased mut (pointee R.written)) value_local ∷ [];
  body = seq (assign (place 4 []) (rv_opd (copy (place 1 [])))) (seq (assign (place 5 []) (addr_of (place 4 (deref (layout S) ∷ []))))
      (seq (assign (place 6 []) (rv_opd (copy (place 2 [])))) (seq (assign (place 7 []) (addr_of (place 6 (deref (layout R) ∷ []))))
      (seq (call callee (copy (place 5 []) ∷ copy (place 7 []) ∷ []) (place 3 [])) (seq (assign (place 0 []) (rv_opd opd_unit)) return)))));
}

module _ {M : Type 1} {𝓤 : Ura M} (𝓛 : Logic 𝓤) (S R : RattleType) where
  -- two values are there, and this is so of them
  abbrev pub both_there : (S.Denot → S.Denot → R.Denot → R.Denot → Type 0) → Ptr → Ptr → S.Denot × R.Denot → SProp 𝓤
  both_there told first second both =
      ex 𝓤 (λ (x : S.Denot). ex 𝓤 (λ (left : R.Denot). sep 𝓤 (sem 𝓛 (lies_there S first x)) (sep 𝓤 (sem 𝓛 (lies_there R second left)) (fact 𝓤 (told both.0 x both.1 left)))))

  -- the function is given a value that is at the first pointer, and this, which has the one at the second
  abbrev pub leaves_both : (Ptr → S.Denot × R.Denot → SProp 𝓤) → (S.Denot → S.Denot → R.Denot → R.Denot → Type 0)
      → Clauses 𝓤 of_pointers
  leaves_both asked told κs a = record { ghost = S.Denot × R.Denot; requires = λ both. sep 𝓤 (sem 𝓛 (lies_there S a.0 both.0)) (asked a.1.0 both); ensures = λ both r e. both_there told a.0 a.1.0 both }

  -- the call asks this of both values, and says this of them and of their last ones
  abbrev pub tells_both : (S.Denot → R.Denot → SProp 𝓤) → (S.Denot → S.Denot → R.Denot → R.Denot → Type 0)
      → Clauses 𝓤 (of_loans S R)
  tells_both needs told κs a = record { ghost = Unit {0}; requires = λ g. needs a.0.now a.1.0.now; ensures = λ g r e. fact 𝓤 (told a.0.now e.0.now a.1.0.now e.1.0.now) }

  module _ (𝓜 : Model 𝓤 𝓛.H) (𝓡 : Running 𝓤 𝓛.H 𝓜) (told : S.Denot → S.Denot → R.Denot → R.Denot → Type 0) (name callee : Callee)
      (closed : Closed 𝓤 𝓛.H (tables 𝓤 𝓛.H 𝓜 𝓡 𝓡.env).C (tables 𝓤 𝓛.H 𝓜 𝓡 𝓡.env).Λ name (lending_both S R callee)) where
    lends_for : One S → One R → (asked : Ptr → S.Denot × R.Denot → SProp 𝓤) (needs : S.Denot → R.Denot → SProp 𝓤)
        → ((at : Ptr) (both : S.Denot × R.Denot) → ent 𝓤 (asked at both) (sep 𝓤 (sem 𝓛 (lies_at R full_share at both.1)) (needs both.0 both.1)))
        → Meets 𝓛 (of_loans S R).signature ((tables 𝓤 𝓛.H 𝓜 𝓡 𝓡.env).C callee) (closing 𝓛 (of_loans S R) (tells_both needs told))
        → Meets 𝓛 of_pointers.signature ((tables 𝓤 𝓛.H 𝓜 𝓡 𝓡.env).C name) (closing 𝓛 of_pointers (leaves_both asked told))
    lends_for one one' asked needs asks met =
        let c = leaves_both asked told in let 𝓣 = tables 𝓤 𝓛.H 𝓜 𝓡 𝓡.env in let F = triple_of 𝓛 of_pointers.signature (closing 𝓛 of_pointers c) in
        let G = triple_of 𝓛 (of_loans S R).signature (closing 𝓛 (of_loans S R) (tells_both needs told)) in let f = lending_both S R callee in
        meets 𝓛 of_pointers c 𝓜 𝓡 name f closed (λ κs. (rawptr_vals, (rawptr_vals, tt))) (λ κs. (rawptr_Tells, (rawptr_Tells, tt))) (λ κs qs bounds a both are.
        let y : Ptr → Ptr → F.Ghost = λ p r. ((κs, qs, bounds, (p, (r, tt)), (rawptr_vals p, (rawptr_vals r, tt))), both) in
        qed 𝓛 (raw (on_entry 𝓛 of_pointers.signature κs qs a (y a.0 a.1.0).0.4) ∷ (‵ (lies_there S a.0 both.0) ⊛ raw (asked a.1.0 both)) ∷ []) ∵ drop ! $ split ! $ move ! (1 ∷ []) $
        use1 𝓛 (‵ (lies_at R full_share a.1.0 both.1) ⊛ raw (needs both.0 both.1)) (asks a.1.0 both) $ split ! $
        in_a_block ! a.1.0 (λ r. lies_at R full_share r both.1) (id⊢ 𝓤 _) (λ b' o' is'. move ! (2 ∷ []) $ use1 𝓛 (‵ (lies_at S full_share a.0 both.0)) (lies 𝓛 S a.0 both.0) $ in_a_block ! a.0 (λ p. lies_at S full_share p both.0) (id⊢ 𝓤 _) (λ b o is.
        regoal ! (λ p. prop (WpFn 𝓤 𝓛.H 𝓣.C 𝓣.Λ f (rawptr_vals p ++ (rawptr_vals a.1.0 ++ [])) (F.post (y p a.1.0)))) is refl $
        regoal ! (λ r. prop (WpFn 𝓤 𝓛.H 𝓣.C 𝓣.Λ f (rawptr_vals (block_ptr b o) ++ (rawptr_vals r ++ [])) (F.post (y (block_ptr b o) r)))) is' refl $
        let Q = F.post (y (block_ptr b o) (block_ptr b' o')) in let vs = vptr b o ∷ vptr b' o' ∷ [] in
        -- the code: both pointers are followed, and the call is made
        suffices ! (𝓣.C callee vs (unit_then 𝓛 Q)) (qed 𝓛 (raw (𝓣.C callee vs (unit_then 𝓛 Q)) ∷ []) ∵ enter ! _ _ _ _ _ $ alloc_all ! (λ l. pass_all ! refl ((tt, tt), ((tt, tt), tt)) $
        sets ! (of_opd ! (get ! refl)) refl (tt, tt) $ sets ! (addr ! (through ! refl (stop !))) refl (tt, tt) $ sets ! (of_opd ! (get ! refl)) refl (tt, tt) $ sets ! (addr ! (through ! refl (stop !))) refl (tt, tt) $
        calls ! (framed 𝓤 𝓛.H 𝓜 𝓣) vs Q (and_then ! (get ! refl) (and_then ! (get ! refl) (no_more !))) $ lands_as ! refl refl (tt, tt) $ sets ! (of_opd ! (unit_lit !)) refl (tt, tt) $ returns ! (look_at ! 0 refl) $ free_all ! refl $ done !)) $
        suffices ! _ (enters 𝓤 𝓛.H 𝓜 𝓣 callee _ _) $ updating ! $ lend ! tt S 0 both.0 b o (λ α γ. move ! (3 ∷ []) $ lend ! tt R 1 both.1 b' o' (λ β δ.
        -- [the loan of the second; the lender's part of it; the token of β; the loan of the first; the lender's part of it; the token of α; what the call needs]
        let r = loan S b o γ both.0 in let r' = loan R b' o' δ both.1 in let z : G.Ghost = (((α ∷ [], (β ∷ [], tt)), (full_share, (full_share, tt)), tt, (r, (r', tt)), (mut_vals r, (mut_vals r', tt))), tt) in
        nothing ! $ move ! (1 ∷ 0 ∷ []) $ join ! $ move ! (3 ∷ 0 ∷ []) $ join ! $
        -- [both loans; the lender's part of the second; the token of β; the lender's part of the first; the token of α; what the call needs]
        nothing ! $ move ! (3 ∷ 0 ∷ []) $ join ! $ move ! (4 ∷ 0 ∷ []) $ join ! $ move ! (0 ∷ 1 ∷ []) $ join ! $ move ! (0 ∷ 3 ∷ []) $ use2 𝓛 (raw (G.pre z)) (id⊢ 𝓤 _) $
        now ! $ hands ! (framed 𝓤 𝓛.H 𝓜 𝓣 callee) G z (met z) (λ v.
        use1 𝓛 (later (some (λ (u : Unit {0}). ((‵ (flft (α ∷ []) full_share) ⊛ ‵ (flft (β ∷ []) full_share) ⊛ ‵ ftrue) ⊛ ‵ (unit.own_val u (v ∷ []))) ⊛
        some (λ (last : S.Denot × (R.Denot × Unit {0})). ‵ (lasts (of_loans S R) z.0.0 z.0.3 last) ⊛ raw (fact 𝓤 (told both.0 last.0 both.1 last.1.0)))))) (id⊢ 𝓤 _) $
        updating ! $ await ! tt $ pick ! (λ u. split ! $ split ! $ split ! $ lft_end ! tt $ move ! (1 ∷ []) $ split ! $ lft_end ! tt $
        -- [β is over; nothing; α is over; the result; what the call says; the lender's part of the second; that of the first]
        move ! (4 ∷ []) $ pick ! (λ last. split ! $ move ! (1 ∷ []) $ heard ! (told both.0 last.0 both.1 last.1.0) (λ is_told. fsplit ! $ fsplit ! $ move ! (2 ∷ []) $ fsplit ! $ fsplit ! $
        -- [the second's last value; its borrow; nothing; the first's last value; its borrow; β is over; nothing; α is over; the result; the lender's part of the second; that of the first]
        move ! (5 ∷ 9 ∷ 0 ∷ []) $ use3 𝓛 (later (‵ (lies_at R full_share (block_ptr b' o') last.1.0))) (ref_back 𝓛 R (β ∷ []) δ last.1.0 b' o') $ await ! tt $
        -- [the second; its borrow; nothing; the first's last value; its borrow; nothing; α is over; the result; the lender's part of the first]
        move ! (6 ∷ 8 ∷ 3 ∷ []) $ use3 𝓛 (later (‵ (lies_at S full_share (block_ptr b o) last.0))) (ref_back 𝓛 S (α ∷ []) γ last.0 b o) $ await ! tt $ now ! $
        -- [the first; the second; its borrow; nothing; the first's borrow; nothing; the result]
        move ! (6 ∷ []) $ frame ! $ keep ! (0 ∷ 1 ∷ []) $ use1 𝓛 (‵ (lies_there S (block_ptr b o) last.0)) (is_there 𝓛 S one b o last.0) $
        move ! (1 ∷ []) $ use1 𝓛 (‵ (lies_there R (block_ptr b' o') last.1.0)) (is_there 𝓛 R one' b' o' last.1.0) $ move ! (1 ∷ []) $
        use0 𝓛 (raw (fact 𝓤 (told both.0 last.0 both.1 last.1.0))) (fact_i 𝓤 (told both.0 last.0 both.1 last.1.0) (emp 𝓤) is_told) $ move ! (2 ∷ 0 ∷ []) $ join ! $ move ! (1 ∷ 0 ∷ []) $ join ! $
        let Left = λ (x : S.Denot) (left : R.Denot). sep 𝓤 (sem 𝓛 (lies_there S (block_ptr b o) x)) (sep 𝓤 (sem 𝓛 (lies_there R (block_ptr b' o') left)) (fact 𝓤 (told both.0 x both.1 left))) in
        use1 𝓛 (raw (ex 𝓤 (λ (left : R.Denot). Left last.0 left))) (ex_i 𝓤 (λ (left : R.Denot). Left last.0 left) last.1.0) $
        use1 𝓛 (raw (ex 𝓤 (λ (x : S.Denot). ex 𝓤 (λ (left : R.Denot). Left x left)))) (ex_i 𝓤 (λ (x : S.Denot). ex 𝓤 (λ (left : R.Denot). Left x left)) last.0) $
        nothing ! $ suffices ! _ (ends_plain 𝓛 [] of_pointers.signature.params of_pointers.kept c (y (block_ptr b o) (block_ptr b' o')) (tt, (tt, tt)) (tt, (tt, tt)) (tt, (tt, tt))) $ done !)))))))))

    -- the call asks nothing
    pub lends_both : One S → One R
        → Meets 𝓛 (of_loans S R).signature ((tables 𝓤 𝓛.H 𝓜 𝓡 𝓡.env).C callee) (closing 𝓛 (of_loans S R) (tells_both (λ x left. emp 𝓤) told))
        → Meets 𝓛 of_pointers.signature ((tables 𝓤 𝓛.H 𝓜 𝓡 𝓡.env).C name) (closing 𝓛 of_pointers (leaves_both (λ at both. sem 𝓛 (lies_there R at both.1)) told))
    lends_both one one' = lends_for one one' (λ at both. sem 𝓛 (lies_there R at both.1)) (λ x left. emp 𝓤)
        (λ at both. via 𝓤 (sep 𝓤 (emp 𝓤) (sem 𝓛 (lies_at R full_share at both.1))) (via 𝓤 (sem 𝓛 (lies_at R full_share at both.1)) (lies 𝓛 R at both.1) (emp∗ 𝓤 _)) (comm∗ 𝓤 (emp 𝓤) (sem 𝓛 (lies_at R full_share at both.1))))

    -- the call asks that this is so of both
    pub lends_own : One S → One R → (own : S.Denot → R.Denot → Type 0)
        → Meets 𝓛 (of_loans S R).signature ((tables 𝓤 𝓛.H 𝓜 𝓡 𝓡.env).C callee) (closing 𝓛 (of_loans S R) (tells_both (λ x left. fact 𝓤 (own x left)) told))
        → Meets 𝓛 of_pointers.signature ((tables 𝓤 𝓛.H 𝓜 𝓡 𝓡.env).C name) (closing 𝓛 of_pointers (leaves_both (λ at both. sep 𝓤 (sem 𝓛 (lies_there R at both.1)) (fact 𝓤 (own both.0 both.1))) told))
    lends_own one one' own = lends_for one one' (λ at both. sep 𝓤 (sem 𝓛 (lies_there R at both.1)) (fact 𝓤 (own both.0 both.1))) (λ x left. fact 𝓤 (own x left))
        (λ at both. mono_l 𝓤 (fact 𝓤 (own both.0 both.1)) (lies 𝓛 R at both.1))
