-- What a session is told by its desk, and what the history holds in the end.
use Rattle.std.proofs.Common.{eqb, eq-eqb, ne_eqb, ◌≡◌, ℕ, zero, suc, ◌+◌, ◌<◌, ◌≤◌, List, [], ◌∷◌, length, sym, refl, ap, ◌∙◌, subst, ⊎_elim, arith, None}
use Rattle.std.proofs.lemmas.Option.{same_Some}
use mathlib.Core.Bool.{Bool, cond}
use mathlib.Core.Option.{some-injective}
use native.Mathlib.Decide.{ℕ_discrete}
use Rattle.oplog.specs.History.{Meaning}
use Rattle.oplog.specs.declared.records.Record.{Record}
use Rattle.ownlock.specs.Seats.{At}
use Rattle.accounts.proofs.Appended.{collected}
use Rattle.accounts.proofs.Lists.{at_none}
use Rattle.accounts.proofs.Moved.{one_place, some_none}
use Rattle.accounts.specs.Agreement.{Answers}
use Rattle.accounts.specs.Told.{AnsweredStand, DeskTells, Ends, Tells, numbered, records_of}
use Rattle.combiner.specs.declared.slots.Reply.{Reply}
use Rattle.combiner.specs.declared.slots.Reply.TheVariants.{Ended, Placed}
use Rattle.accounts.specs.declared.sessions.AnsweredUpdate.{AnsweredUpdate}
use Rattle.accounts.specs.declared.sessions.Pending.{Pending}
use Rattle.accounts.specs.declared.sessions.SessionNote.{SessionNote}
use Rattle.ownlock.proofs.Export.{at_below, at_one}

-- one step of the filter
abbrev keep_if : Bool → Record → List Record → List Record
keep_if b r rs = cond b (r ∷ rs) rs

-- a record of a filtered list stands in the list
member_back : (a : ℕ) (h : List Record) (j : ℕ) (r : Record) → At j r (records_of a h) → (r.author ≡ a) × ((i : ℕ) × At i r h)
member_back a [] j r e = absurd (at_none j r e)
member_back a (x ∷ xs) j r e = by_test (λ j e. member_back a xs j r e) (ℕ_discrete x.author a) j e
  where
    by_test : ((j : ℕ) → At j r (records_of a xs) → (r.author ≡ a) × ((i : ℕ) × At i r xs)) → Dec (x.author ≡ a) → (j : ℕ) → At j r (keep_if (eqb x.author a) x (records_of a xs)) → (r.author ≡ a) × ((i : ℕ) × At i r (x ∷ xs))
    by_test rest (no ne) j e = let t = rest j (subst (λ b. At j r (keep_if b x (records_of a xs))) (ne_eqb x.author a ne) e) in (t.0, (suc t.1.0, t.1.1))
    by_test rest (yes is) zero e = let f : At 0 r (x ∷ records_of a xs) = subst (λ b. At 0 r (keep_if b x (records_of a xs))) (eq-eqb x.author a is) e in
        (ap (λ (z : Record). z.author) (sym (some-injective x r f)) ∙ is, (0, f))
    by_test rest (yes is) (suc j) e = let t = rest j (subst (λ b. At (suc j) r (keep_if b x (records_of a xs))) (eq-eqb x.author a is) e) in (t.0, (suc t.1.0, t.1.1))

member_on : (a : ℕ) (h : List Record) (i : ℕ) (r : Record) → At i r h → r.author ≡ a → (j : ℕ) × At j r (records_of a h)
member_on a [] i r e is = absurd (at_none i r e)
member_on a (x ∷ xs) zero r e is = (0, subst (λ b. At 0 r (keep_if b x (records_of a xs))) (sym (eq-eqb x.author a (ap (λ (z : Record). z.author) (some-injective x r e) ∙ is))) e)
member_on a (x ∷ xs) (suc i) r e is = by_test (member_on a xs i r e is) (ℕ_discrete x.author a)
  where
    by_test : (j : ℕ) × At j r (records_of a xs) → Dec (x.author ≡ a) → (j : ℕ) × At j r (keep_if (eqb x.author a) x (records_of a xs))
    by_test t (no ne) = (t.0, subst (λ b. At t.0 r (keep_if b x (records_of a xs))) (sym (ne_eqb x.author a ne)) t.1)
    by_test t (yes is) = (suc t.0, subst (λ b. At (suc t.0) r (keep_if b x (records_of a xs))) (sym (eq-eqb x.author a is)) t.1)

abbrev Rises : List Record → Type 0
Rises h = (i j : ℕ) (r s : Record) → At i r h → At j s h → i < j → r.author ≡ s.author → r.seq < s.seq

-- the numbers of one session's records rise in its own list
filtered_rises : (a : ℕ) (h : List Record) → Rises h → Rises (records_of a h)
filtered_rises a [] up i j r s e f lt is = absurd (at_none i r e)
filtered_rises a (x ∷ xs) up i j r s e f lt is = by_test (λ i j e f lt. filtered_rises a xs (λ i j r s e f lt is. up (suc i) (suc j) r s e f (omega arith) is) i j r s e f lt is) (ℕ_discrete x.author a) i j e f lt
  where
    kept : ((i j : ℕ) → At i r (records_of a xs) → At j s (records_of a xs) → i < j → r.seq < s.seq) → (i j : ℕ) → At i r (x ∷ records_of a xs) → At j s (x ∷ records_of a xs) → i < j → r.seq < s.seq
    kept rest zero zero e f lt = absurd (omega arith)
    kept rest zero (suc j) e f lt = let m = member_back a xs j s f in up 0 (suc m.1.0) r s e m.1.1 (omega arith) is
    kept rest (suc i) zero e f lt = absurd (omega arith)
    kept rest (suc i) (suc j) e f lt = rest i j e f (omega arith)

    by_test : ((i j : ℕ) → At i r (records_of a xs) → At j s (records_of a xs) → i < j → r.seq < s.seq) → Dec (x.author ≡ a)
        → (i j : ℕ) → At i r (keep_if (eqb x.author a) x (records_of a xs)) → At j s (keep_if (eqb x.author a) x (records_of a xs)) → i < j → r.seq < s.seq
    by_test rest (no ne) i j e f lt = let b = ne_eqb x.author a ne in rest i j (subst (λ b. At i r (keep_if b x (records_of a xs))) b e) (subst (λ b. At j s (keep_if b x (records_of a xs))) b f) lt
    by_test rest (yes h) i j e f lt = let b = eq-eqb x.author a h in kept rest i j (subst (λ b. At i r (keep_if b x (records_of a xs))) b e) (subst (λ b. At j s (keep_if b x (records_of a xs))) b f) lt

-- a list of one session's records that rises, with just these numbers
only_list : (a b : ℕ) (us : List AnsweredUpdate) (g : List Record) → Rises g
    → ((j : ℕ) (r : Record) → At j r g → (r.author ≡ a) × ((q : ℕ) × (u : AnsweredUpdate) × (r.seq ≡ b + q) × At q u us × (r.op ≡ u.op)))
    → ((q : ℕ) (u : AnsweredUpdate) → At q u us → (j : ℕ) × (r : Record) × At j r g × (r.seq ≡ b + q))
    → g ≡ numbered a b us
only_list a b [] [] up each all = refl
only_list a b [] (x ∷ xs) up each all = let t = (each 0 x refl).1 in absurd (at_none t.0 t.1 t.3)
only_list a b (u ∷ us) [] up each all = let t = all 0 u refl in absurd (at_none t.0 t.1 t.2)
only_list a b (u ∷ us) (x ∷ xs) up each all = λ k. head k ∷ rest (λ up each all. only_list a (suc b) us xs up each all) k
  where
    low : (j : ℕ) (r : Record) → At j r (x ∷ xs) → b ≤ r.seq
    low j r e = let t = (each j r e).1 in let s = t.2 in omega (arith, s)

    author : (j : ℕ) (r : Record) → At j r (x ∷ xs) → r.author ≡ a
    author j r e = (each j r e).0

    least : (j : ℕ) (r : Record) → At j r (x ∷ xs) → r.seq ≡ b + 0 → x.seq ≡ b
    least zero r e is = let s = ap (λ (z : Record). z.seq) (some-injective x r e) in omega (arith, s, is)
    least (suc j) r e is = let lt = up 0 (suc j) x r refl e (omega arith) (author 0 x refl ∙ sym (author (suc j) r e)) in let le = low 0 x refl in absurd (omega (arith, lt, le, is))

    first : x.seq ≡ b
    first = let t = all 0 u refl in least t.0 t.1 t.2 t.3

    op_at : (q : ℕ) (v : AnsweredUpdate) → x.seq ≡ b + q → At q v (u ∷ us) → x.op ≡ v.op → x.op ≡ u.op
    op_at zero v s e is = is ∙ ap (λ (z : AnsweredUpdate). z.op) (sym (some-injective u v e))
    op_at (suc q) v s e is = let f = first in absurd (omega (arith, s, f))

    head : x ≡ record { author = a; seq = b; op = u.op }
    head = let t = (each 0 x refl).1 in λ k. record { author = author 0 x refl k; seq = first k; op = op_at t.0 t.1 t.2 t.3 t.4 k }

    above : (j : ℕ) (r : Record) → At j r xs → b < r.seq
    above j r e = let lt = up 0 (suc j) x r refl e (omega arith) (author 0 x refl ∙ sym (author (suc j) r e)) in let f = first in omega (arith, lt, f)

    shifted : (j : ℕ) (r : Record) → At j r xs → (q : ℕ) (v : AnsweredUpdate) → r.seq ≡ b + q → At q v (u ∷ us) → r.op ≡ v.op → (q : ℕ) × (v : AnsweredUpdate) × (r.seq ≡ suc b + q) × At q v us × (r.op ≡ v.op)
    shifted j r e zero v s at is = let up = above j r e in absurd (omega (arith, s, up))
    shifted j r e (suc q) v s at is = (q, v, omega (arith, s), at, is)

    behind : (q : ℕ) (j : ℕ) (r : Record) → At j r (x ∷ xs) → r.seq ≡ b + suc q → (j : ℕ) × (r : Record) × At j r xs × (r.seq ≡ suc b + q)
    behind q zero r e s = let f = ap (λ (z : Record). z.seq) (some-injective x r e) in let g = first in absurd (omega (arith, f, g, s))
    behind q (suc j) r e s = (j, r, e, omega (arith, s))

    rest : (Rises xs
        → ((j : ℕ) (r : Record) → At j r xs → (r.author ≡ a) × ((q : ℕ) × (u : AnsweredUpdate) × (r.seq ≡ suc b + q) × At q u us × (r.op ≡ u.op)))
        → ((q : ℕ) (u : AnsweredUpdate) → At q u us → (j : ℕ) × (r : Record) × At j r xs × (r.seq ≡ suc b + q)) → xs ≡ numbered a (suc b) us) → xs ≡ numbered a (suc b) us
    rest again = again (λ i j r s e f lt is. up (suc i) (suc j) r s e f (omega arith) is)
        (λ j r e. (author (suc j) r e, (let t = (each (suc j) r e).1 in shifted j r e t.0 t.1 t.2 t.3 t.4)))
        (λ q v e. let t = all (suc q) v e in behind q t.0 t.1 t.2 t.3)

module _ {C M : Type 0} (E : Meaning C M) where
  pub answered : DeskTells E
  answered l ns c n x s slot o reply w here desk is at stage asked = tell reply (collected E l ns c n w here x desk s slot o reply is at stage asked).0
    where
      seen : (i : ℕ) → At i (record { author = c; seq = length n.answered; op = o.op }) l.history → o.seen ≤ i
      seen i there =
          let t = w.accounted i _ there in let same : t.0 ≡ n = at_one ns c t.0 n t.1 here in
          ⊎_elim (λ h. let b = at_below n.answered (length n.answered) _ (subst (λ (z : SessionNote). At (length n.answered) (record { index = i; op = o.op; reply = h.0 }) z.answered) same h.1) in absurd (omega (arith, b)))
          (λ h. subst (λ (z : Pending). z.seen ≤ i) (same_Some h.0 o (sym h.1 ∙ (ap (λ (z : SessionNote). z.pending) same ∙ asked))) h.4) t.2

      tell : (r : Reply) → Answers E l c (length n.answered) o.op r → Tells E l c (length n.answered) o r
      tell (Placed i reply) h = (seen i h.1, h)
      tell Ended h = h

  pub stand : AnsweredStand E
  stand l ns w a n q u here at =
      let t = w.answered a n q u here at in
      record { there = t.0; reply = t.1; once = λ i r there author seq. one_place E l ns w i u.index r _ there t.0 author seq }

  pub ends : Ends E
  ends l ns w = (
    (λ a n here idle. only_list a 0 n.answered (records_of a l.history) (filtered_rises a l.history w.ordered) (each a n here idle)
        (λ q u e. let at = (w.answered a n q u here e).0 in let m = member_on a l.history u.index _ at refl in (m.0, _, m.1, zero_plus q))),
    (λ i r at. let t = w.accounted i r at in at_below ns r.author t.0 t.1),
  )
    where
      zero_plus : (q : ℕ) → q ≡ 0 + q
      zero_plus q = omega arith

      each : (a : ℕ) (n : SessionNote) → At a n ns → n.pending ≡ None → (j : ℕ) (r : Record) → At j r (records_of a l.history)
          → (r.author ≡ a) × ((q : ℕ) × (u : AnsweredUpdate) × (r.seq ≡ 0 + q) × At q u n.answered × (r.op ≡ u.op))
      each a n here idle j r e =
          let m = member_back a l.history j r e in let t = w.accounted m.1.0 r m.1.1 in
          let same : t.0 ≡ n = at_one ns a t.0 n (subst (λ z. At z t.0 ns) m.0 t.1) here in (
            m.0,
            ⊎_elim (λ h. (r.seq, record { index = m.1.0; op = r.op; reply = h.0 }, zero_plus r.seq, subst (λ (z : SessionNote). At r.seq (record { index = m.1.0; op = r.op; reply = h.0 }) z.answered) same h.1, refl))
                (λ h. absurd (some_none h.0 t.0.pending h.1 (ap (λ (z : SessionNote). z.pending) same ∙ idle))) t.2,
          )
