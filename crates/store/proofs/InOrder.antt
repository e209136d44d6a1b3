-- A call that is made when another has returned comes after it, in the list that explains both.
use Rattle.std.proofs.Common.{◌≡◌, ℕ, zero, suc, ◌+◌, ◌<◌, ◌≤◌, Bool, true, false, List, [], ◌∷◌, ◌++◌, length, append_assoc, append-nil, refl, sym, ap, ◌∙◌, subst, arith, ⊎_elim, Some}
use Rattle.std.specs.Prelude.{cond, filter, slice_get, ◌==◌}
use Rattle.std.proofs.lemmas.List.Elements.{filter-append}
use Rattle.std.proofs.lemmas.Bool.{cases_lt}
use Rattle.std.proofs.lemmas.Option.{none-some}
use Rattle.verifier.specs.declared.refusal.Mode.{Mode}
use Rattle.verifier.proofs.Export.{behind as behind_all}
use Rattle.oplog.specs.History.{History}
use Rattle.oplog.specs.Operations.{Operation}
use Rattle.combiner.specs.declared.slots.Reply.TheVariants.{Ended, Placed}
use Rattle.schedule.specs.Trace.{Answer, Answers, Back, Call, Event, Positions, ReadBack, Trace, Updated, caller, stamp}
use Rattle.schedule.proofs.Export.{get_taken}
use Rattle.promise.specs.Linearized.{Explains}
use Rattle.store_laws.specs.RunEvents.{events_of_session}
use Rattle.store.specs.InOrder.{CallsInOrder, IsBehind}
use Rattle.store.specs.Linear.{own_events, seen}
use Rattle.store.specs.Sessions.{StoreView}

module _ {A : Type 0} where
  get_front : (xs ys : List A) (i : ℕ) (v : A) → slice_get xs i ≡ Some v
      → (i < length xs) × (slice_get (xs ++ ys) i ≡ Some v)
  get_front [] ys i v at = absurd (none-some v at)
  get_front (x ∷ xs) ys zero v at = (omega arith, at)
  get_front (x ∷ xs) ys (suc i) v at = let r = get_front xs ys i v at in let low = r.0 in (omega (arith, low), r.1)

  rest_same : (xs ys zs : List A) → xs ++ ys ≡ xs ++ zs → ys ≡ zs
  rest_same [] ys zs e = e
  rest_same (x ∷ xs) ys zs e = rest_same xs ys zs cc

  module _ (test : A → Bool) where
    -- what is kept is there
    kept_is : (xs : List A) (i : ℕ) (v : A) → slice_get (filter test xs) i ≡ Some v
        → (j : ℕ) × (slice_get xs j ≡ Some v)
    kept_is [] i v at = absurd (none-some v at)
    kept_is (x ∷ xs) i v at = by (λ i at. kept_is xs i v at) (test x) refl i at
      where
        by : ((i : ℕ) → slice_get (filter test xs) i ≡ Some v → (j : ℕ) × (slice_get xs j ≡ Some v)) → (b : Bool)
            → test x ≡ b → (i : ℕ) → slice_get (filter test (x ∷ xs)) i ≡ Some v
            → (j : ℕ) × (slice_get (x ∷ xs) j ≡ Some v)
        by rest false is i at =
            let r = rest i (sym (ap (λ c. slice_get (cond c (x ∷ filter test xs) (filter test xs)) i) is) ∙ at) in (suc r.0, r.1)
        by rest true is zero at =
            (zero, sym (ap (λ c. slice_get (cond c (x ∷ filter test xs) (filter test xs)) zero) is) ∙ at)
        by rest true is (suc i) at =
            let r = rest i (sym (ap (λ c. slice_get (cond c (x ∷ filter test xs) (filter test xs)) (suc i)) is) ∙ at) in
            (suc r.0, r.1)

    -- where what is kept is cut, so is all
    pub record CutAt (xs : List A) (y : A) (after : List A) : Type 0 where
      pub front : List A
      pub back : List A
      pub all : xs ≡ front ++ y ∷ back
      pub kept : filter test back ≡ after

    cut_at : (xs before : List A) (y : A) (after : List A) → filter test xs ≡ before ++ y ∷ after → CutAt xs y after
    cut_at [] [] y after e = absurd cc
    cut_at [] (z ∷ before) y after e = absurd cc
    cut_at (x ∷ xs) before y after e = by (λ before e. cut_at xs before y after e) (test x) refl before e
      where
        by : ((before : List A) → filter test xs ≡ before ++ y ∷ after → CutAt xs y after) → (b : Bool) → test x ≡ b
            → (before : List A) → filter test (x ∷ xs) ≡ before ++ y ∷ after → CutAt (x ∷ xs) y after
        by rest false is before e =
            let c = rest before (sym (ap (λ c. cond c (x ∷ filter test xs) (filter test xs)) is) ∙ e) in
            record { front = x ∷ c.front; back = c.back; all = ap (λ l. x ∷ l) c.all; kept = c.kept }
        by rest true is [] e =
            let f : x ∷ filter test xs ≡ y ∷ after = sym (ap (λ c. cond c (x ∷ filter test xs) (filter test xs)) is) ∙ e in
            let g : x ≡ y = cc in
            record { front = []; back = xs; all = ap (λ z. z ∷ xs) g; kept = cc }
        by rest true is (z ∷ before) e =
            let f : x ∷ filter test xs ≡ z ∷ (before ++ y ∷ after) = sym (ap (λ c. cond c (x ∷ filter test xs) (filter test xs)) is) ∙ e in
            let c = rest before cc in
            record { front = x ∷ c.front; back = c.back; all = ap (λ l. x ∷ l) c.all; kept = c.kept }

abbrev pub of_session : ℕ → Event → Bool
of_session x e = caller e == x

-- an answer there is behind what was back before its call
behind : (store : StoreView) (h : History) (positions : Positions) (t : Trace) (x : ℕ) (mode : Mode) (op : Operation) (c b : ℕ) (answer : Answer) (p y : ℕ)
    (first : Answer)
    → Explains store.catalogue store.config.limit h positions t → Answers t x mode op c b answer
    → slice_get t p ≡ Some (Back y first) → p < c
    → IsBehind (stamp store.config.limit first) answer
behind store h positions t x mode op c b (Updated (Placed i reply)) p y first e a at before =
    e.placed_later c i _ (e.right x mode op c b (Updated (Placed i reply)) a).0 (p, y, first, before, at, refl)
behind store h positions t x mode op c b (Updated Ended) p y first e a at before = tt
behind store h positions t x mode op c b (ReadBack answer) p y first e a at before =
    e.read_later x mode op c b answer.point answer.reply _ a (p, y, first, before, at, refl)

-- the call that was answered is not before one of its session that came before the answer
opened_behind : (t : Trace) (x : ℕ) (mode : Mode) (op : Operation) (c b : ℕ) (answer : Answer) (d n : ℕ)
    → Answers t x mode op c b answer
    → {m : Mode} {o : Operation} → slice_get t d ≡ Some (Call x m o) → d < b → n ≤ d → n ≤ c
opened_behind t x mode op c b answer d n a {m} {o} at before low =
    ⊎_elim (λ (far : c < d). absurd (a.open_call.last d (Call x m o) far (get_taken b t d (Call x m o) at before) refl)) (λ (near : d ≤ c). omega (arith, near, low)) (cases_lt c d)

pub calls_in_order : CallsInOrder
calls_in_order store one other later i first mode op second has before adds after =
    let x = other.session in
    let was = before.1 in
    let now = after.1 in
    let was_one = was.begins 0 one refl in
    let now_one = now.begins 0 one refl in
    let s = seen one in
    let F = events_of_session x in
    -- the first answer is in what its session had seen
    let own : events_of_session one.session s ≡ own_events one =
    sym (ap (events_of_session one.session) now_one.1 ∙ (filter-append (of_session one.session) s now_one.0 ∙ (ap (λ l. events_of_session one.session s ++ l) now_one.2 ∙ append-nil (events_of_session one.session s))))
    ∙ now.own 0 one refl in
    let p = kept_is (of_session one.session) s i (Back one.session first) (ap (λ l. slice_get l i) own ∙ has) in
    let there = get_front s now_one.0 p.0 (Back one.session first) p.1 in
    -- the other's call and its answer are behind that
    let old : own_events other ≡ F s ++ F was_one.0 = sym (was.own 1 other refl) ∙ (ap F was_one.1 ∙ filter-append (of_session x) s was_one.0) in
    let new : own_events later ≡ F s ++ F now_one.0 =
    sym (now.own 1 later refl) ∙ ((λ j. events_of_session (adds.same j) now.trace) ∙ (ap F now_one.1 ∙ filter-append (of_session x) s now_one.0)) in
    let two : Trace = Call x mode op ∷ Back x second ∷ [] in
    let more : F now_one.0 ≡ F was_one.0 ++ two =
    rest_same (F s) _ _ (sym new ∙ (adds.own ∙ (ap (λ l. l ++ two) old ∙ append_assoc (F s) (F was_one.0) two))) in
    let cut = cut_at (of_session x) now_one.0 (F was_one.0) (Call x mode op) (Back x second ∷ []) more in
    let q = kept_is (of_session x) cut.back 0 (Back x second) (ap (λ l. slice_get l 0) cut.kept) in
    let c : ℕ = length s + (length cut.front + 0) in
    let b : ℕ = length s + (length cut.front + suc q.0) in
    let whole : now.trace ≡ s ++ (cut.front ++ Call x mode op ∷ cut.back) = now_one.1 ∙ ap (λ l. s ++ l) cut.all in
    let call : slice_get now.trace c ≡ Some (Call x mode op) =
    ap (λ l. slice_get l c) whole ∙ (behind_all s (cut.front ++ Call x mode op ∷ cut.back) (length cut.front + 0) ∙ behind_all cut.front (Call x mode op ∷ cut.back) 0) in
    let back : slice_get now.trace b ≡ Some (Back x second) =
    ap (λ l. slice_get l b) whole ∙ (behind_all s (cut.front ++ Call x mode op ∷ cut.back) (length cut.front + suc q.0) ∙ (behind_all cut.front (Call x mode op ∷ cut.back) (suc q.0) ∙ q.1)) in
    let first_back : slice_get now.trace p.0 ≡ Some (Back one.session first) = ap (λ l. slice_get l p.0) now_one.1 ∙ there.1 in
    let turn = now.explains.answers_in_turn b x second back in
    let low : length s ≤ turn.2 = opened_behind now.trace x turn.0 turn.1 turn.2 b second c (length s) turn.3 call (omega arith) (omega arith) in
    let under = there.0 in
    behind store after.0 now.positions now.trace x turn.0 turn.1 turn.2 b second p.0 one.session first now.explains turn.3 first_back (omega (arith, under, low))
