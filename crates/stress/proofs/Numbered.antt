-- Where the records of one session stand in a history, if they are numbered in order.
use Rattle.std.proofs.Common.{eq-eqb, ne_eqb, ◌≡◌, ◌∙◌, ℕ, zero, suc, ◌+◌, List, [], ◌∷◌, refl, sym, ap, subst, arith}
use mathlib.Core.Bool.{Bool, cond}
use mathlib.Core.Option.{some-injective}
use native.Mathlib.Decide.{ℕ_discrete}
use Rattle.ownlock.specs.Seats.{At}
use Rattle.oplog.specs.declared.records.Record.{Record}
use Rattle.accounts.specs.declared.sessions.AnsweredUpdate.{AnsweredUpdate}
use Rattle.accounts.specs.Told.{records_of, numbered}
use Rattle.accounts.proofs.Export.{at_none}

module _ (a : ℕ) where
  its_own : (x : Record) (xs : List Record) → x.author ≡ a → records_of a (x ∷ xs) ≡ x ∷ records_of a xs
  its_own x xs own = ap (λ (b : Bool). cond b (x ∷ records_of a xs) (records_of a xs)) (eq-eqb x.author a own)

  another's : (x : Record) (xs : List Record) → (x.author ≡ a → ⊥) → records_of a (x ∷ xs) ≡ records_of a xs
  another's x xs not = ap (λ (b : Bool). cond b (x ∷ records_of a xs) (records_of a xs)) (ne_eqb x.author a not)

  -- this record is an update of these, the first of which has the number m
  abbrev IsNumbered : ℕ → List AnsweredUpdate → Record → Type 0
  IsNumbered m us r = (q : ℕ) × (u : AnsweredUpdate) × At q u us × (r ≡ record { author = a; seq = m + q; op = u.op })

  -- the first record of a session, and the others
  first_one : (m : ℕ) (us : List AnsweredUpdate) (x : Record) (rest : List Record) → x ∷ rest ≡ numbered a m us
      → (u : AnsweredUpdate) × (more : List AnsweredUpdate) × (us ≡ u ∷ more) × (x ≡ record { author = a; seq = m; op = u.op }) × (rest ≡ numbered a (suc m) more)
  first_one m [] x rest e = absurd cc
  first_one m (u ∷ us) x rest e =
      let head : x ≡ record { author = a; seq = m; op = u.op } = cc in
      let tail : rest ≡ numbered a (suc m) us = cc in
      (u, us, refl, head, tail)

  one_later : (m : ℕ) (u : AnsweredUpdate) (us more : List AnsweredUpdate) (r : Record) → us ≡ u ∷ more → IsNumbered (suc m) more r → IsNumbered m us r
  one_later m u us more r e h =
      (suc h.0, h.1, subst (At (suc h.0) h.1) (sym e) h.2, h.3 ∙ ap (λ n. record { author = a; seq = n; op = h.1.op }) (let same : suc m + h.0 ≡ m + suc h.0 = omega arith in same))

  pub is_numbered : (m : ℕ) (us : List AnsweredUpdate) (h : List Record) → records_of a h ≡ numbered a m us → (i : ℕ) (r : Record) → At i r h → r.author ≡ a → IsNumbered m us r
  is_numbered m us [] e i r at own = absurd (at_none i r at)
  is_numbered m us (x ∷ xs) e i r at own = by (λ m us e i at. is_numbered m us xs e i r at own) (ℕ_discrete x.author a) i at
    where
      by : ((m : ℕ) (us : List AnsweredUpdate) → records_of a xs ≡ numbered a m us → (i : ℕ) → At i r xs → IsNumbered m us r) → Dec (x.author ≡ a) → (i : ℕ) → At i r (x ∷ xs) → IsNumbered m us r
      by rest (yes is) zero at =
          let one = first_one m us x (records_of a xs) (sym (its_own x xs is) ∙ e) in
          (0, one.0, subst (At 0 one.0) (sym one.2) refl, sym (some-injective x r at) ∙ one.3 ∙ ap (λ n. record { author = a; seq = n; op = one.0.op }) (let same : m ≡ m + 0 = omega arith in same))
      by rest (yes is) (suc i) at =
          let one = first_one m us x (records_of a xs) (sym (its_own x xs is) ∙ e) in
          one_later m one.0 us one.1 r one.2 (rest (suc m) one.1 one.4 i at)
      by rest (no not) zero at = absurd (not (ap (λ (z : Record). z.author) (some-injective x r at) ∙ own))
      by rest (no not) (suc i) at = rest m us (sym (another's x xs not) ∙ e) i at

  -- no two of them have one number
  pub one_index : (m : ℕ) (us : List AnsweredUpdate) (h : List Record) → records_of a h ≡ numbered a m us → (i j : ℕ) (r s : Record) → At i r h → At j s h → r.author ≡ a → s.author ≡ a
      → r.seq ≡ s.seq → i ≡ j
  one_index m us [] e i j r s at there own its same = absurd (at_none i r at)
  one_index m us (x ∷ xs) e i j r s at there own its same = by (λ m us e i j at there. one_index m us xs e i j r s at there own its same) (ℕ_discrete x.author a) i j at there
    where
      apart : (x.author ≡ a) → (k : ℕ) (y z : Record) → At 0 y (x ∷ xs) → At k z xs → z.author ≡ a → y.seq ≡ z.seq → ⊥
      apart is k y z first later mine both =
          let one = first_one m us x (records_of a xs) (sym (its_own x xs is) ∙ e) in
          let other = is_numbered (suc m) one.1 xs one.4 k z later mine in
          let low : y.seq ≡ m = ap (λ (v : Record). v.seq) (sym (some-injective x y first) ∙ one.3) in
          let high : z.seq ≡ suc m + other.0 = ap (λ (v : Record). v.seq) other.3 in
          omega (arith, low, high, both)

      by : ((m : ℕ) (us : List AnsweredUpdate) → records_of a xs ≡ numbered a m us → (i j : ℕ) → At i r xs → At j s xs → i ≡ j) → Dec (x.author ≡ a) → (i j : ℕ) → At i r (x ∷ xs) → At j s (x ∷ xs) → i ≡ j
      by rest (yes is) zero zero at there = refl
      by rest (yes is) zero (suc j) at there = absurd (apart is j r s at there its same)
      by rest (yes is) (suc i) zero at there = absurd (apart is i s r there at own (sym same))
      by rest (yes is) (suc i) (suc j) at there =
          let one = first_one m us x (records_of a xs) (sym (its_own x xs is) ∙ e) in
          ap suc (rest (suc m) one.1 one.4 i j at there)
      by rest (no not) zero j at there = absurd (not (ap (λ (z : Record). z.author) (some-injective x r at) ∙ own))
      by rest (no not) (suc i) zero at there = absurd (not (ap (λ (z : Record). z.author) (some-injective x s there) ∙ its))
      by rest (no not) (suc i) (suc j) at there = ap suc (rest m us (sym (another's x xs not) ∙ e) i j at there)
