-- What each walk of an export begins and ends with: the machine values that its parameters' types tell, the call as a step, and what its contract says at the end.
use Rattle.embed.proofs.Steps.{ℕ, refl, full_share, fact, ◌∵◌, !, qed, done, move, join, feq_i, suffices, plain, heard, List, [], ◌∷◌, ap, subst, ent, id⊢, ex, sep, Val, vunit, tables, WpFn, ‵, raw, ◌⊛◌, later, ◌$◌, use1, split, feq_l, await, Logic, sem, only, unit, Ura, on_entry, triple_of, sym, T, Fml, fat, froom, fsep, ftrue, zero, suc, top, has_ty, WT, Fn, Ty, Callee, Place, Opd, Body, seq, call, SProp, fst∗, snd∗, via, wand, wand_i, apply∗, comm∗, mono_l, Closed, Env, Calls, Loops, Model, FmC, Fun, Lfts, Shares, Outlives, AllOutlive, toks, Running, Item, Goal, use2, fsplit, by, Post, Seq, Step, step, updating, now, show, frame, lands, runs, prop, pop, push, ⋆, Opds, calls_from, flat, Spells, Tellss, Ises, Are, valss, Slot, types_at, said, Contract, FmF, Meets, Ended, Clauses, closing, Kepts, Fins, outs, lasts_of, Pure, shadow, pure_i, Args, Vals, entered, A, global, val, tells, Tells, Is, Typed}
use Rattle.std.proofs.alloc.Global.TheLaws as global_laws

-- the allocator's machine value, which its type tells, and which is of its type
abbrev pub alloc_vals : A.Denot → List Val
alloc_vals x = val global global_laws.the_laws x ∷ []

pub alloc_tells : Tells A (Is A) alloc_vals
alloc_tells = tells global global_laws.the_laws

-- the signature of a function that returns `()`
abbrev pub of_unit : {n : ℕ} → List (Outlives n) → (Ps : List (Slot n)) → Kepts Ps → Ended
of_unit {n} os Ps ks = record { signature = record { lifetimes = n; outlives = os; params = Ps; result = plain (λ κs. unit) }; kept = ks }

module _ {M : Type 1} {𝓤 : Ura M} (𝓛 : Logic 𝓤) where
  -- a call that returns `()`, and then Q
  abbrev pub unit_then : (Val → SProp 𝓤) → Val → SProp 𝓤
  unit_then Q v = 𝓛.H.⇛ (sep 𝓤 (sem 𝓛 (unit.own_val tt (v ∷ []))) (Q vunit))

  -- a call that gives a value of the MIR type τ, which is written there, and then Q
  abbrev pub written_then : Ty → ℕ → ℕ → (Val → SProp 𝓤) → Val → SProp 𝓤
  written_then τ b o Q v = 𝓛.H.⇛ (sep 𝓤 (fact 𝓤 (T (has_ty τ v) × WT v)) (sep 𝓤 (𝓛.H.room τ b o) (wand 𝓤 (𝓛.H.at full_share τ b o v) (Q vunit))))

  module _ {n : ℕ} (os : List (Outlives n)) (Ps : List (Slot n)) (ks : Kepts Ps) (c : Clauses 𝓤 (of_unit os Ps ks)) where
    abbrev G : Contract 𝓤
    G = triple_of 𝓛 (of_unit os Ps ks).signature (closing 𝓛 (of_unit os Ps ks) c)

    -- at the end of a walk: the tokens, the last values and the `ensures`
    pub ends : (y : G.Ghost) (ws : Fins y.0.0 Ps ks y.0.3)
        → ent 𝓤 (sep 𝓤 (toks 𝓛 n y.0.0 y.0.1) (sep 𝓤 (sem 𝓛 (lasts_of y.0.0 Ps ks y.0.3 ws)) ((c y.0.0 y.0.3).ensures y.1 tt (outs y.0.0 Ps ks y.0.3 ws)))) (G.post y vunit)
    ends y ws =
        let A = toks 𝓛 n y.0.0 y.0.1 in let B = λ (u : Unit {0}). sep 𝓤 A (sem 𝓛 (unit.own_val u (vunit ∷ []))) in
        let L = λ (u : Unit {0}) (ws' : Fins y.0.0 Ps ks y.0.3). sep 𝓤 (sem 𝓛 (lasts_of y.0.0 Ps ks y.0.3 ws')) ((c y.0.0 y.0.3).ensures y.1 u (outs y.0.0 Ps ks y.0.3 ws')) in
        qed 𝓛 (raw A ∷ raw (L tt ws) ∷ []) ∵ updating ! $ now ! $ show ! (λ u. sep 𝓤 (B u) (ex 𝓤 (L u))) tt $
        feq_i ! _ (vunit ∷ []) _ refl $ move ! (1 ∷ 0 ∷ []) $ join ! $ frame ! $ show ! (L tt) ws $ done !

    -- the same, where nothing is said of last values
    pub ends_plain : (y : G.Ghost) (ws : Fins y.0.0 Ps ks y.0.3) → Pure (lasts_of y.0.0 Ps ks y.0.3 ws)
        → shadow (lasts_of y.0.0 Ps ks y.0.3 ws)
        → ent 𝓤 (sep 𝓤 (toks 𝓛 n y.0.0 y.0.1) ((c y.0.0 y.0.3).ensures y.1 tt (outs y.0.0 Ps ks y.0.3 ws))) (G.post y vunit)
    ends_plain y ws pure is = qed 𝓛 (raw (toks 𝓛 n y.0.0 y.0.1) ∷ raw ((c y.0.0 y.0.3).ensures y.1 tt (outs y.0.0 Ps ks y.0.3 ws)) ∷ []) ∵ suffices ! _ (ends y ws) $ frame ! $ pure_i ! _ pure is $ done !

  module _ (S : Ended) (c : Clauses 𝓤 S) where
    abbrev F : Contract 𝓤
    F = triple_of 𝓛 S.signature (closing 𝓛 S c)

    -- a function meets its contract, from its run at the machine values that the types of its parameters tell
    pub meets : (𝓜 : Model 𝓤 𝓛.H) (𝓡 : Running 𝓤 𝓛.H 𝓜) (name : Callee) (f : Fn)
        → Closed 𝓤 𝓛.H (tables 𝓤 𝓛.H 𝓜 𝓡 𝓡.env).C (tables 𝓤 𝓛.H 𝓜 𝓡 𝓡.env).Λ name f
        → (sp : (κs : Lfts S.signature.lifetimes) → Spells (types_at S.signature.params κs))
        → ((κs : Lfts S.signature.lifetimes) → Tellss (types_at S.signature.params κs) (Ises (types_at S.signature.params κs)) (sp κs))
        → ((κs : Lfts S.signature.lifetimes) (qs : Shares S.signature.lifetimes) (bounds : AllOutlive S.signature.lifetimes S.signature.outlives κs) (a : Args S.signature κs) (g : (c κs a).ghost)
        → Are (types_at S.signature.params κs) (Ises (types_at S.signature.params κs)) a (valss (types_at S.signature.params κs) (sp κs) a)
        → ent 𝓤 (sep 𝓤 (on_entry 𝓛 S.signature κs qs a (valss (types_at S.signature.params κs) (sp κs) a)) ((c κs a).requires g))
        (WpFn 𝓤 𝓛.H (tables 𝓤 𝓛.H 𝓜 𝓡 𝓡.env).C (tables 𝓤 𝓛.H 𝓜 𝓡 𝓡.env).Λ f (flat (types_at S.signature.params κs) (valss (types_at S.signature.params κs) (sp κs) a))
        (F.post ((κs, qs, bounds, a, valss (types_at S.signature.params κs) (sp κs) a), g))))
        → Meets 𝓛 S.signature ((tables 𝓤 𝓛.H 𝓜 𝓡 𝓡.env).C name) (closing 𝓛 S c)
    meets 𝓜 𝓡 name f closed sp tells walk = let 𝓣 = tables 𝓤 𝓛.H 𝓜 𝓡 𝓡.env in entered 𝓤 𝓛.H F 𝓣.C 𝓣.Λ name f closed (λ y.
        let κs = y.0.0 in let a = y.0.3 in let N = (c κs a).requires y.1 in
        let Q : Vals S.signature κs → SProp 𝓤 = λ us. WpFn 𝓤 𝓛.H 𝓣.C 𝓣.Λ f (flat (types_at S.signature.params κs) us) (F.post y) in
        via 𝓤 (sep 𝓤 N (wand 𝓤 N (Q y.0.4)))
        (via 𝓤 (sep 𝓤 (wand 𝓤 N (Q y.0.4)) N)
        (mono_l 𝓤 N (said 𝓛 S.signature κs y.0.1 (sp κs) (tells κs) a (λ us. wand 𝓤 N (Q us)) y.0.4 (λ are. wand_i 𝓤 _ N _ (walk κs y.0.1 y.0.2 a y.1 are))))
        (comm∗ 𝓤 (wand 𝓤 N (Q y.0.4)) N))
        (apply∗ 𝓤 N (Q y.0.4)))

module _ {M : Type 1} {𝓤 : Ura M} {𝓛 : Logic 𝓤} {K : Type 0} {Γ : List (Item 𝓤)} where
  -- what the callee asks is at the head, and what it gives is there afterwards
  pub hands : K → {run : Fun 𝓤} {Q : Val → SProp 𝓤} → FmF 𝓤 run → (c : Contract 𝓤) (z : c.Ghost)
      → ent 𝓤 (c.pre z) (run (c.args z) (c.post z))
      → ((v : Val) → Seq K 𝓛 (raw (c.post z v) ∷ Γ) (prop (Q v)))
      → Seq K 𝓛 (raw (c.pre z) ∷ Γ) (prop (run (c.args z) Q))
  hands t {run} {Q} fm c z met k = record {
    prf = via 𝓤 (sep 𝓤 (c.pre z) (⋆ 𝓛 Γ)) (pop 𝓛 (raw (c.pre z)) Γ) (via 𝓤 (sep 𝓤 (run (c.args z) (c.post z)) (⋆ 𝓛 Γ)) (mono_l 𝓤 (⋆ 𝓛 Γ) met)
        (fm (c.args z) (c.post z) Q (⋆ 𝓛 Γ) (λ v. via 𝓤 (⋆ 𝓛 (raw (c.post z v) ∷ Γ)) (push 𝓛 (raw (c.post z v)) Γ) (k v).prf)));
  }

  -- one call, which returns `()`
  pub calls : K
      → {C : Calls 𝓤 𝓛.H} {Λ : Loops 𝓤 𝓛.H} {E : Env 𝓤 𝓛.H} {callee : Callee} {xs : List Opd} {d : Place} {rest : Body} {q : Post 𝓤 𝓛.H} → FmC 𝓤 𝓛.H 𝓛.laws C → (vs : List Val) (Q : Val → SProp 𝓤)
      → Opds K 𝓛 (raw (C callee vs (unit_then 𝓛 Q)) ∷ Γ) E xs vs
      → Step K 𝓛 (raw (Q vunit) ∷ Γ) (lands C Λ E d vunit rest q) (raw (C callee vs (unit_then 𝓛 Q)) ∷ Γ) (runs C Λ E (seq (call callee xs d) rest) q)
  calls t {C} {Λ} {E} {callee} {xs} {d} {rest} {q} fm vs Q os = step (λ s. calls_from t fm (raw (C callee vs (unit_then 𝓛 Q))) vs (unit_then 𝓛 Q) (id⊢ 𝓤 _) os (λ v.
      use1 𝓛 (later (‵ (unit.own_val tt (v ∷ [])) ⊛ raw (Q vunit))) (id⊢ 𝓤 _) $ await t tt $ split t $ feq_l t (λ is_unit.
      subst (λ (u : Val). Seq K 𝓛 (raw (Q vunit) ∷ Γ) (lands C Λ E d u rest q)) (sym (ap only is_unit)) s)))

  -- one call, whose result is written
  pub calls_for : K
      → {C : Calls 𝓤 𝓛.H} {Λ : Loops 𝓤 𝓛.H} {E : Env 𝓤 𝓛.H} {callee : Callee} {xs : List Opd} {d : Place} {rest : Body} {q : Post 𝓤 𝓛.H} → FmC 𝓤 𝓛.H 𝓛.laws C → (vs : List Val) (τ : Ty) (b o : ℕ) (Q : Val → SProp 𝓤)
      → Opds K 𝓛 (raw (C callee vs (written_then 𝓛 τ b o Q)) ∷ Γ) E xs vs
      → ((v : Val) → T (has_ty τ v) × WT v → Seq K 𝓛 (‵ (froom τ b o) ∷ raw (wand 𝓤 (𝓛.H.at full_share τ b o v) (Q vunit)) ∷ Γ) (lands C Λ E d v rest q))
      → Seq K 𝓛 (raw (C callee vs (written_then 𝓛 τ b o Q)) ∷ Γ) (runs C Λ E (seq (call callee xs d) rest) q)
  calls_for t {C} {Λ} {E} {callee} {xs} {d} {rest} {q} fm vs τ b o Q os k = calls_from t fm (raw (C callee vs (written_then 𝓛 τ b o Q))) vs (written_then 𝓛 τ b o Q) (id⊢ 𝓤 _) os (λ v.
      use1 𝓛 (later (raw (fact 𝓤 (T (has_ty τ v) × WT v)) ⊛ (‵ (froom τ b o) ⊛ raw (wand 𝓤 (𝓛.H.at full_share τ b o v) (Q vunit))))) (id⊢ 𝓤 _) $ await t tt $ split t $ heard t _ (λ typed. split t $ k v typed))

  -- the result has been written
  pub written : K → {G : Goal 𝓤 𝓛.H} (τ : Ty) (b o : ℕ) (v : Val) (Q : Val → SProp 𝓤)
      → Step K 𝓛 (raw (Q vunit) ∷ Γ) G (‵ (fat full_share τ b o v) ∷ raw (wand 𝓤 (𝓛.H.at full_share τ b o v) (Q vunit)) ∷ Γ) G
  written t τ b o v Q = use2 𝓛 (raw (Q vunit)) (apply∗ 𝓤 (𝓛.H.at full_share τ b o v) (Q vunit))

module _ {M : Type 1} {𝓤 : Ura M} (𝓛 : Logic 𝓤) (𝓜 : Model 𝓤 𝓛.H) (𝓡 : Running 𝓤 𝓛.H 𝓜) where
  -- the function makes one call, with what it is given, and returns `()`
  abbrev pub Forwards : Fn → Callee → List Val → Type 2
  Forwards f callee vs = (Q : Val → SProp 𝓤) → ent 𝓤 ((tables 𝓤 𝓛.H 𝓜 𝓡 𝓡.env).C callee vs (unit_then 𝓛 Q)) (WpFn 𝓤 𝓛.H (tables 𝓤 𝓛.H 𝓜 𝓡 𝓡.env).C (tables 𝓤 𝓛.H 𝓜 𝓡 𝓡.env).Λ f vs Q)

module _ {M : Type 1} {𝓤 : Ura M} (𝓛 : Logic 𝓤) where
  pub alloc_typed : (x : A.Denot) → Is A x (alloc_vals x) → Typed A.mir (alloc_vals x)
  alloc_typed x is = ((global_laws.the_row_laws).lawful 𝓛).typed x (alloc_vals x) is

-- the first k parts of a star, with nothing or with another part after them, and the part after them
abbrev pub firsts_with : Fml → ℕ → Fml → Fml
firsts_with L zero P = L
firsts_with L (suc k) (fsep P Q) = fsep P (firsts_with L k Q)
firsts_with L (suc k) P = ftrue

abbrev pub part_at : ℕ → Fml → Fml
part_at zero (fsep P Q) = P
part_at (suc k) (fsep P Q) = part_at k Q
part_at k P = ftrue

module _ {M : Type 1} {𝓤 : Ura M} (𝓛 : Logic 𝓤) where
  pub has_firsts : (L : Fml) (k : ℕ) (P : Fml) → ent 𝓤 (sep 𝓤 (sem 𝓛 L) (sem 𝓛 P)) (sem 𝓛 (firsts_with L k P))
  has_firsts L zero P = fst∗ 𝓤 (sem 𝓛 L) (sem 𝓛 P)
  has_firsts L (suc k) (fsep P Q) = qed 𝓛 (‵ L ∷ ‵ (fsep P Q) ∷ []) ∵ move ! (1 ∷ []) $ fsplit ! $ frame ! $ move ! (1 ∷ 0 ∷ []) $ by ! (has_firsts L k Q)
  has_firsts L (suc k) P = top 𝓤 _

  pub has_part : (k : ℕ) (P : Fml) → ent 𝓤 (sem 𝓛 P) (sem 𝓛 (part_at k P))
  has_part zero (fsep P Q) = fst∗ 𝓤 (sem 𝓛 P) (sem 𝓛 Q)
  has_part (suc k) (fsep P Q) = via 𝓤 (sem 𝓛 Q) (snd∗ 𝓤 (sem 𝓛 P) (sem 𝓛 Q)) (has_part k Q)
  has_part k P = top 𝓤 _
