-- A function that writes what one call gives into a room, and may lend it a handle: how its walk goes.
use Rattle.embed.proofs.Steps.{[], ◌∷◌, List, ℕ, MutBor, ◌≡◌, refl, sym, subst, ent, full_share, id⊢, ex, ex_i, sep, emp, fact, fact_i, fat, flft, named, Val, tables, WpFn, ‵, raw, ◌⊛◌, some, later, prop, ◌$◌, ◌∵◌, !, qed, done, move, keep, drop, use0, use1, use2, use3, split, join, fsplit, pick, await, regoal, suffices, Logic, sem, lft_end, yes, ref_back, One, part_in, Ptr, block_ptr, lies_at, room_at, in_a_block, MutRef, mut_vals, plain, nothing, heard, triple_of, framed, Ura, RattleType, layout, Fn, Ty, Callee, has_ty, WT, T, SProp, Fml, GName, ftrue, fsep, fjoin, updating, now, frame, assume, rewrite, Model, Running, Lfts, Shares, Outlives, AllOutlive, toks, left, Denots, Valss, flat, owns, Pure, shadow, Lawful, Typed, Slot, types_at, Ended, Clauses, closing, Kepts, Fins, Outs, outs, lasts_of, Triple, enters}
use Rattle.host_calls.specs.Rooms.{lies_there}
use Rattle.embed.proofs.There.{is_there, lies}
use Rattle.embed.proofs.Calling.{of_unit, written_then, hands, firsts_with, has_firsts, part_at, has_part, ends_plain}
use Rattle.embed.proofs.Lending.{loan, lend, is_typed}

-- the signature of a call that gives an R
abbrev pub of_given : RattleType → {m : ℕ} → List (Outlives m) → (Ps : List (Slot m)) → Kepts Ps → Ended
of_given R {m} os Ps ks = record { signature = record { lifetimes = m; outlives = os; params = Ps; result = plain (λ κs. R) }; kept = ks }

module _ {M : Type 1} {𝓤 : Ura M} (𝓛 : Logic 𝓤) (𝓜 : Model 𝓤 𝓛.H) (𝓡 : Running 𝓤 𝓛.H 𝓜) (R : RattleType) (one : One R) (law : Lawful 𝓛 R) where
  -- a value is there, and this is so of it
  abbrev pub given_there : (R.Denot → Type 0) → Ptr → SProp 𝓤
  given_there told room = ex 𝓤 (λ (given : R.Denot). sep 𝓤 (sem 𝓛 (lies_there R room given)) (fact 𝓤 (told given)))

  typed_one : (h : R.Denot) (v : Val) → Typed R.mir (v ∷ []) → T (has_ty (layout R) v) × WT v
  typed_one h v typed = (subst (λ (τs : List Ty). Typed τs (v ∷ [])) one typed).0

  module _ {n : ℕ} (os : List (Outlives n)) (Ps : List (Slot n)) (ks : Kepts Ps) (c : Clauses 𝓤 (of_unit os Ps ks)) (Ps' : List (Slot n)) (ks' : Kepts Ps') (d : Clauses 𝓤 (of_given R os Ps' ks'))
      (callee : Callee) (f : Fn) (met : Triple 𝓤 ((tables 𝓤 𝓛.H 𝓜 𝓡 𝓡.env).C callee) (triple_of 𝓛 (of_given R os Ps' ks').signature (closing 𝓛 (of_given R os Ps' ks') d))) where
    -- the call is given the first k parameters. a and us are the parameters' values and machine values at a room, and a' and us' the call's
    pub puts : (κs : Lfts n) (qs : Shares n) (bounds : AllOutlive n os κs) (a : Ptr → Denots (types_at Ps κs)) (us : Ptr → Valss (types_at Ps κs)) (g : (room : Ptr) → (c κs (a room)).ghost) (room : Ptr)
        (a' : Denots (types_at Ps' κs)) (us' : Valss (types_at Ps' κs)) (g' : (d κs a').ghost) (told : R.Denot → Type 0) → ent 𝓤 (emp 𝓤) ((d κs a').requires g') → ((h : R.Denot) (e : Outs κs Ps' ks') → ent 𝓤 ((d κs a').ensures g' h e) (fact 𝓤 (told h)))
        → (k : ℕ) → firsts_with ftrue k (owns (types_at Ps κs) (a room) (us room)) ≡ owns (types_at Ps' κs) a' us'
        → (ws : (at : Ptr) → Fins κs Ps ks (a at)) → ((at : Ptr) → Pure (lasts_of κs Ps ks (a at) (ws at)))
        → ((at : Ptr) → shadow (lasts_of κs Ps ks (a at) (ws at)))
        → ((at : Ptr) → ent 𝓤 (given_there told at) ((c κs (a at)).ensures (g at) tt (outs κs Ps ks (a at) (ws at))))
        → ((b o : ℕ) (Q : Val → SProp 𝓤) → ent 𝓤 ((tables 𝓤 𝓛.H 𝓜 𝓡 𝓡.env).C callee (flat (types_at Ps' κs) us') (written_then 𝓛 (layout R) b o Q)) (WpFn 𝓤 𝓛.H (tables 𝓤 𝓛.H 𝓜 𝓡 𝓡.env).C (tables 𝓤 𝓛.H 𝓜 𝓡 𝓡.env).Λ f (flat (types_at Ps κs) (us (block_ptr b o))) Q))
        → ent 𝓤 (sep 𝓤 (sep 𝓤 (toks 𝓛 n κs qs) (sem 𝓛 (owns (types_at Ps κs) (a room) (us room)))) (sem 𝓛 (room_at R room)))
        (WpFn 𝓤 𝓛.H (tables 𝓤 𝓛.H 𝓜 𝓡 𝓡.env).C (tables 𝓤 𝓛.H 𝓜 𝓡 𝓡.env).Λ f (flat (types_at Ps κs) (us room)) ((triple_of 𝓛 (of_unit os Ps ks).signature (closing 𝓛 (of_unit os Ps ks) c)).post ((κs, qs, bounds, a room, us room), g room)))
    puts κs qs bounds a us g room a' us' g' told asked says k passed ws pure is there forwards =
        let 𝓣 = tables 𝓤 𝓛.H 𝓜 𝓡 𝓡.env in let F = triple_of 𝓛 (of_unit os Ps ks).signature (closing 𝓛 (of_unit os Ps ks) c) in
        let y : Ptr → F.Ghost = λ at. ((κs, qs, bounds, a at, us at), g at) in
        let G = triple_of 𝓛 (of_given R os Ps' ks').signature (closing 𝓛 (of_given R os Ps' ks') d) in let z : G.Ghost = ((κs, qs, bounds, a', us'), g') in
        let O = owns (types_at Ps κs) (a room) (us room) in
        qed 𝓛 ((raw (toks 𝓛 n κs qs) ⊛ ‵ O) ∷ ‵ (room_at R room) ∷ []) ∵ split ! $ move ! (1 ∷ []) $
        nothing ! $ use2 𝓛 (‵ (firsts_with ftrue k O)) (has_firsts 𝓛 ftrue k O) $ rewrite ! 0 (λ (P : Fml). ‵ P) passed refl $ move ! (1 ∷ 0 ∷ []) $ join ! $ move ! (1 ∷ []) $
        -- [the room; the tokens, and what is passed]
        in_a_block ! room (λ at. room_at R at) (id⊢ 𝓤 _) (λ b o at_block.
        regoal ! (λ at. prop (WpFn 𝓤 𝓛.H 𝓣.C 𝓣.Λ f (flat (types_at Ps κs) (us at)) (F.post (y at)))) at_block refl $
        suffices ! _ (forwards b o (F.post (y (block_ptr b o)))) $ move ! (1 ∷ []) $ use0 𝓛 (raw ((d κs a').requires g')) asked $ move ! (1 ∷ 0 ∷ []) $ use2 𝓛 (raw (G.pre z)) (id⊢ 𝓤 _) $
        hands ! (framed 𝓤 𝓛.H 𝓜 𝓣 callee) G z (met z) (λ v.
        use1 𝓛 (later (some (λ (h : R.Denot). (raw (toks 𝓛 n κs qs) ⊛ ‵ (R.own_val h (v ∷ []))) ⊛ some (λ (ws' : Fins κs Ps' ks' a'). ‵ (lasts_of κs Ps' ks' a' ws') ⊛ raw ((d κs a').ensures g' h (outs κs Ps' ks' a' ws')))))) (id⊢ 𝓤 _) $
        updating ! $ await ! tt $ now ! $ pick ! (λ h. split ! $ move ! (1 ∷ []) $ pick ! (λ ws'. split ! $ drop ! $ use1 𝓛 (raw (fact 𝓤 (told h))) (says h (outs κs Ps' ks' a' ws')) $ heard ! (told h) (λ is_told. split ! $ move ! (1 ∷ []) $
        -- [what is given; the tokens; the room]
        is_typed ! R law h (v ∷ []) (λ typed. use0 𝓛 (raw (fact 𝓤 (T (has_ty (layout R) v) × WT v))) (fact_i 𝓤 _ (emp 𝓤) (typed_one h v typed)) $ frame ! $ move ! (2 ∷ []) $ frame ! $ assume ! (‵ (fat full_share (layout R) b o v)) $
        move ! (0 ∷ 1 ∷ []) $ use2 𝓛 (‵ (lies_at R full_share (block_ptr b o) h)) (part_in 𝓛 R one full_share h b o v) $ use1 𝓛 (‵ (lies_there R (block_ptr b o) h)) (is_there 𝓛 R one b o h) $
        use0 𝓛 (raw (fact 𝓤 (told h))) (fact_i 𝓤 (told h) (emp 𝓤) is_told) $ move ! (1 ∷ 0 ∷ []) $
        use2 𝓛 (raw (given_there told (block_ptr b o))) (ex_i 𝓤 (λ (given : R.Denot). sep 𝓤 (sem 𝓛 (lies_there R (block_ptr b o) given)) (fact 𝓤 (told given))) h) $
        use1 𝓛 (raw ((c κs (a (block_ptr b o))).ensures (g (block_ptr b o)) tt (outs κs Ps ks (a (block_ptr b o)) (ws (block_ptr b o))))) (there (block_ptr b o)) $
        move ! (1 ∷ 0 ∷ []) $ suffices ! _ (ends_plain 𝓛 os Ps ks c (y (block_ptr b o)) (ws (block_ptr b o)) (pure (block_ptr b o)) (is (block_ptr b o))) $ done !))))))

  -- two values are there, and this is so of them
  abbrev pub both_given : (S : RattleType) → (S.Denot → R.Denot → Type 0) → Ptr → Ptr → SProp 𝓤
  both_given S told at room = ex 𝓤 (λ (last : S.Denot). ex 𝓤 (λ (given : R.Denot). sep 𝓤 (sem 𝓛 (lies_there S at last)) (sep 𝓤 (sem 𝓛 (lies_there R room given)) (fact 𝓤 (told last given)))))

  module _ {n : ℕ} (os : List (Outlives n)) (Ps : List (Slot n)) (ks : Kepts Ps) (c : Clauses 𝓤 (of_unit os Ps ks)) {m : ℕ} (os' : List (Outlives m)) (Ps' : List (Slot m)) (ks' : Kepts Ps') (d : Clauses 𝓤 (of_given R os' Ps' ks'))
      (callee : Callee) (f : Fn) (met : Triple 𝓤 ((tables 𝓤 𝓛.H 𝓜 𝓡 𝓡.env).C callee) (triple_of 𝓛 (of_given R os' Ps' ks').signature (closing 𝓛 (of_given R os' Ps' ks') d))) (S : RattleType) (one_s : One S) where
    -- the call is given the first k parameters and the loan of what lies at the next one. The functions of a lifetime and of a loan are the call's lifetimes, shares, values and machine values
    pub gives : (κs : Lfts n) (qs : Shares n) (bounds : AllOutlive n os κs) (a : Ptr → Ptr → Denots (types_at Ps κs)) (us : Ptr → Ptr → Valss (types_at Ps κs)) (g : (at room : Ptr) → (c κs (a at room)).ghost) (at room : Ptr) (value : S.Denot)
        (κs' : ℕ → Lfts m) (qs' : Shares m) (bounds' : (α : ℕ) → AllOutlive m os' (κs' α)) (a' : (α : ℕ) → MutBor S.Denot → Denots (types_at Ps' (κs' α))) (us' : (α : ℕ) → MutBor S.Denot → Valss (types_at Ps' (κs' α))) (g' : (α : ℕ) (r : MutBor S.Denot) → (d (κs' α) (a' α r)).ghost)
        (told : S.Denot → R.Denot → Type 0)
        → ((α : ℕ) → ent 𝓤 (sep 𝓤 (𝓛.A.lft (α ∷ []) full_share) (toks 𝓛 n κs qs)) (toks 𝓛 m (κs' α) qs'))
        → ((α : ℕ) → ent 𝓤 (toks 𝓛 m (κs' α) qs') (sep 𝓤 (𝓛.A.lft (α ∷ []) full_share) (toks 𝓛 n κs qs)))
        → ((α : ℕ) (r : MutBor S.Denot) → ent 𝓤 (emp 𝓤) ((d (κs' α) (a' α r)).requires (g' α r)))
        → (last : (α : ℕ) (r : MutBor S.Denot) → Fins (κs' α) Ps' ks' (a' α r) → S.Denot)
        → ((α b o : ℕ) (γ : GName) (h : R.Denot) → let r = loan S b o γ value in (ws : Fins (κs' α) Ps' ks' (a' α r)) → ent 𝓤 ((d (κs' α) (a' α r)).ensures (g' α r) h (outs (κs' α) Ps' ks' (a' α r) ws)) (fact 𝓤 (told (last α r ws) h)))
        → (k ℓ : ℕ)
        → ((α : ℕ) (r : MutBor S.Denot) → firsts_with (fsep ((MutRef (named ℓ) (α ∷ []) S).own_val r (mut_vals r)) ftrue) k (owns (types_at Ps κs) (a at room) (us at room)) ≡ owns (types_at Ps' (κs' α)) (a' α r) (us' α r))
        → ((α : ℕ) (r : MutBor S.Denot) (ws : Fins (κs' α) Ps' ks' (a' α r)) → part_at k (lasts_of (κs' α) Ps' ks' (a' α r) ws) ≡ left ((MutRef (named ℓ) (α ∷ []) S).exit yes) r (last α r ws))
        → (ws : (at room : Ptr) → Fins κs Ps ks (a at room))
        → ((at room : Ptr) → Pure (lasts_of κs Ps ks (a at room) (ws at room)))
        → ((at room : Ptr) → shadow (lasts_of κs Ps ks (a at room) (ws at room)))
        → ((at room : Ptr) → ent 𝓤 (both_given S told at room) ((c κs (a at room)).ensures (g at room) tt (outs κs Ps ks (a at room) (ws at room))))
        → (vs : ℕ → ℕ → List Val)
        → ((α : ℕ) (r : MutBor S.Denot) → flat (types_at Ps' (κs' α)) (us' α r) ≡ vs r.ref_ptr.0 r.ref_ptr.1)
        → ((b o b' o' : ℕ) (Q : Val → SProp 𝓤) → ent 𝓤 ((tables 𝓤 𝓛.H 𝓜 𝓡 𝓡.env).C callee (vs b o) (written_then 𝓛 (layout R) b' o' Q))
        (WpFn 𝓤 𝓛.H (tables 𝓤 𝓛.H 𝓜 𝓡 𝓡.env).C (tables 𝓤 𝓛.H 𝓜 𝓡 𝓡.env).Λ f (flat (types_at Ps κs) (us (block_ptr b o) (block_ptr b' o'))) Q))
        → ent 𝓤 (sep 𝓤 (sep 𝓤 (toks 𝓛 n κs qs) (sem 𝓛 (owns (types_at Ps κs) (a at room) (us at room)))) (sep 𝓤 (sem 𝓛 (lies_there S at value)) (sem 𝓛 (room_at R room))))
        (WpFn 𝓤 𝓛.H (tables 𝓤 𝓛.H 𝓜 𝓡 𝓡.env).C (tables 𝓤 𝓛.H 𝓜 𝓡 𝓡.env).Λ f (flat (types_at Ps κs) (us at room)) ((triple_of 𝓛 (of_unit os Ps ks).signature (closing 𝓛 (of_unit os Ps ks) c)).post ((κs, qs, bounds, a at room, us at room), g at room)))
    gives κs qs bounds a us g at room value κs' qs' bounds' a' us' g' told begun over asked last says k ℓ passed lent ws pure is there vs vs_are forwards =
        let 𝓣 = tables 𝓤 𝓛.H 𝓜 𝓡 𝓡.env in let F = triple_of 𝓛 (of_unit os Ps ks).signature (closing 𝓛 (of_unit os Ps ks) c) in
        let y : Ptr → Ptr → F.Ghost = λ p r. ((κs, qs, bounds, a p r, us p r), g p r) in
        let G = triple_of 𝓛 (of_given R os' Ps' ks').signature (closing 𝓛 (of_given R os' Ps' ks') d) in let z : ℕ → MutBor S.Denot → G.Ghost = λ α r. ((κs' α, qs', bounds' α, a' α r, us' α r), g' α r) in
        let O = owns (types_at Ps κs) (a at room) (us at room) in
        qed 𝓛 ((raw (toks 𝓛 n κs qs) ⊛ ‵ O) ∷ (‵ (lies_there S at value) ⊛ ‵ (room_at R room)) ∷ []) ∵ move ! (1 ∷ []) $ split ! $ move ! (1 ∷ []) $
        in_a_block ! room (λ p. room_at R p) (id⊢ 𝓤 _) (λ b' o' room_is. move ! (1 ∷ []) $ use1 𝓛 (‵ (lies_at S full_share at value)) (lies 𝓛 S at value) $ in_a_block ! at (λ p. lies_at S full_share p value) (id⊢ 𝓤 _) (λ b o at_is.
        -- [what is lent; the room; the tokens, and what the parameters own]
        regoal ! (λ p. prop (WpFn 𝓤 𝓛.H 𝓣.C 𝓣.Λ f (flat (types_at Ps κs) (us p room)) (F.post (y p room)))) at_is refl $
        regoal ! (λ p. prop (WpFn 𝓤 𝓛.H 𝓣.C 𝓣.Λ f (flat (types_at Ps κs) (us (block_ptr b o) p)) (F.post (y (block_ptr b o) p)))) room_is refl $
        suffices ! _ (forwards b o b' o' (F.post (y (block_ptr b o) (block_ptr b' o')))) $ suffices ! _ (enters 𝓤 𝓛.H 𝓜 𝓣 callee _ _) $ updating ! $
        lend ! tt S ℓ value b o (λ α γ.
        -- [the loan; the lender's part; the token of α; the room; the tokens, and what the parameters own]
        let r = loan S b o γ value in let L = (MutRef (named ℓ) (α ∷ []) S).own_val r (mut_vals r) in
        nothing ! $ move ! (1 ∷ 0 ∷ []) $ fjoin ! $ move ! (4 ∷ []) $ split ! $ move ! (2 ∷ 1 ∷ []) $ use2 𝓛 (‵ (firsts_with (fsep L ftrue) k O)) (has_firsts 𝓛 (fsep L ftrue) k O) $ rewrite ! 0 (λ (P : Fml). ‵ P) (passed α r) refl $
        move ! (3 ∷ 1 ∷ []) $ use2 𝓛 (raw (toks 𝓛 m (κs' α) qs')) (begun α) $ join ! $ use0 𝓛 (raw ((d (κs' α) (a' α r)).requires (g' α r))) (asked α r) $ move ! (1 ∷ 0 ∷ []) $ use2 𝓛 (raw (G.pre (z α r))) (id⊢ 𝓤 _) $
        now ! $ regoal ! (λ (us₁ : List Val). prop (𝓣.C callee us₁ (written_then 𝓛 (layout R) b' o' (F.post (y (block_ptr b o) (block_ptr b' o')))))) (sym (vs_are α r)) refl $ hands ! (framed 𝓤 𝓛.H 𝓜 𝓣 callee) G (z α r) (met (z α r)) (λ v.
        use1 𝓛 (later (some (λ (h : R.Denot). (raw (toks 𝓛 m (κs' α) qs') ⊛ ‵ (R.own_val h (v ∷ []))) ⊛ some (λ (ws' : Fins (κs' α) Ps' ks' (a' α r)). ‵ (lasts_of (κs' α) Ps' ks' (a' α r) ws') ⊛ raw ((d (κs' α) (a' α r)).ensures (g' α r) h (outs (κs' α) Ps' ks' (a' α r) ws')))))) (id⊢ 𝓤 _) $
        updating ! $ await ! tt $ pick ! (λ h. split ! $ split ! $ use1 𝓛 (‵ (flft (α ∷ []) full_share) ⊛ raw (toks 𝓛 n κs qs)) (over α) $ split ! $ lft_end ! tt $ move ! (3 ∷ []) $ pick ! (λ ws'. split ! $
        -- [the last values; what the call says; α is over; the tokens; what is given; the lender's part; the room]
        let w = last α r ws' in use1 𝓛 (‵ (part_at k (lasts_of (κs' α) Ps' ks' (a' α r) ws'))) (has_part 𝓛 k (lasts_of (κs' α) Ps' ks' (a' α r) ws')) $ rewrite ! 0 (λ (P : Fml). ‵ P) (lent α r ws') refl $
        move ! (1 ∷ []) $ use1 𝓛 (raw (fact 𝓤 (told w h))) (says α b o γ h ws') $ heard ! (told w h) (λ is_told. fsplit ! $
        -- [the loan's last value; its borrow; α is over; the tokens; what is given; the lender's part; the room]
        move ! (2 ∷ 5 ∷ 0 ∷ []) $ use3 𝓛 (later (‵ (lies_at S full_share (block_ptr b o) w))) (ref_back 𝓛 S (α ∷ []) γ w b o) $ await ! tt $ now ! $ use1 𝓛 (‵ (lies_there S (block_ptr b o) w)) (is_there 𝓛 S one_s b o w) $ move ! (3 ∷ []) $
        is_typed ! R law h (v ∷ []) (λ typed. use0 𝓛 (raw (fact 𝓤 (T (has_ty (layout R) v) × WT v))) (fact_i 𝓤 _ (emp 𝓤) (typed_one h v typed)) $ frame ! $ move ! (4 ∷ []) $ frame ! $ assume ! (‵ (fat full_share (layout R) b' o' v)) $
        use2 𝓛 (‵ (lies_at R full_share (block_ptr b' o') h)) (part_in 𝓛 R one full_share h b' o' v) $ use1 𝓛 (‵ (lies_there R (block_ptr b' o') h)) (is_there 𝓛 R one b' o' h) $
        use0 𝓛 (raw (fact 𝓤 (told w h))) (fact_i 𝓤 (told w h) (emp 𝓤) is_told) $ move ! (1 ∷ 0 ∷ []) $ join ! $ move ! (1 ∷ 0 ∷ []) $ join ! $
        let Left = λ (x : S.Denot) (given : R.Denot). sep 𝓤 (sem 𝓛 (lies_there S (block_ptr b o) x)) (sep 𝓤 (sem 𝓛 (lies_there R (block_ptr b' o') given)) (fact 𝓤 (told x given))) in
        use1 𝓛 (raw (ex 𝓤 (λ (given : R.Denot). Left w given))) (ex_i 𝓤 (λ (given : R.Denot). Left w given) h) $
        use1 𝓛 (raw (ex 𝓤 (λ (x : S.Denot). ex 𝓤 (λ (given : R.Denot). Left x given)))) (ex_i 𝓤 (λ (x : S.Denot). ex 𝓤 (λ (given : R.Denot). Left x given)) w) $
        let p = block_ptr b o in let p' = block_ptr b' o' in use1 𝓛 (raw ((c κs (a p p')).ensures (g p p') tt (outs κs Ps ks (a p p') (ws p p')))) (there p p') $
        keep ! (2 ∷ 0 ∷ []) $ suffices ! _ (ends_plain 𝓛 os Ps ks c (y p p') (ws p p') (pure p p') (is p p')) $ done !))))))))
