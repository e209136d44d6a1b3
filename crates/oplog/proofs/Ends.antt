-- How far the records of an author go, as records are appended and dropped.
use Rattle.std.proofs.Common.{◌≡◌, ◌≢◌, ℕ, zero, suc, ◌+◌, ◌-◌, ◌≤◌, ◌++◌, ◌==◌, true, false, Bool, List, [], ◌∷◌, length, drop, replicate, refl, sym, ap, ◌∙◌, eq-eqb, subst, arith, ⊎_elim, get_or, set}
use Rattle.std.proofs.lemmas.Bool.{cases_eq, ne_eqb}
use Rattle.std.proofs.lemmas.List.{get_or-set_same, get_or-set_other, length-set}
use Rattle.oplog.specs.declared.records.Record.{Record}
use Rattle.oplog.specs.declared.configuration.TheConstants.{MAX_SESSIONS}
use Rattle.oplog.specs.Fields.{HasEnds}
use Rattle.oplog.specs.History.{History}
use Rattle.oplog.specs.Logs.{up_by, up_to_last}

-- ---- no record

get_or-replicate : (n a : ℕ) → get_or {A = ℕ} (replicate n 0) a 0 ≡ 0
get_or-replicate zero a = refl
get_or-replicate (suc n) zero = refl
get_or-replicate (suc n) (suc a) = get_or-replicate n a

pub none_noted : (rs : History) → rs ≡ [] → HasEnds 0 rs (replicate MAX_SESSIONS 0)
none_noted rs none a low = let zeros = get_or-replicate MAX_SESSIONS a in let up = ap (up_to_last a) none in omega (arith, zeros, up)

-- ---- one record more

own_last : (a : ℕ) (rs : History) (r : Record) → r.author ≡ a → up_to_last a (rs ++ r ∷ []) ≡ suc (length rs)
own_last a [] r own = ap (λ b. up_by b 0) (eq-eqb r.author a own)
own_last a (x ∷ rs) r own = ap (up_by (x.author == a)) (own_last a rs r own)

other_last : (a : ℕ) (rs : History) (r : Record) → r.author ≢ a → up_to_last a (rs ++ r ∷ []) ≡ up_to_last a rs
other_last a [] r other = ap (λ b. up_by b 0) (ne_eqb r.author a other)
other_last a (x ∷ rs) r other = ap (up_by (x.author == a)) (other_last a rs r other)

set_noted : (base : ℕ) (rs : History) (ends : List ℕ) (r : Record) (end : ℕ)
    → length ends ≡ MAX_SESSIONS → end ≡ base + length rs + 1 → HasEnds base rs ends
    → HasEnds base (rs ++ r ∷ []) (set ends r.author end)
set_noted base rs ends r end long is has a low =
    ⊎_elim
    (λ e.
    let here : get_or (set ends r.author end) a 0 ≡ end = subst (λ i. get_or (set ends r.author end) i 0 ≡ end) e (get_or-set_same ends r.author end 0 (omega (arith, e, long, low))) in
    let up = own_last a rs r e in
    omega (arith, here, up, is))
    (λ ne.
    let here : get_or (set ends r.author end) a 0 ≡ get_or ends a 0 = get_or-set_other ends r.author a end 0 (λ e. ne (sym e)) in
    let up = other_last a rs r ne in
    let before = has a low in
    omega (arith, here, up, before))
    (cases_eq r.author a)

-- as a call has it: the record was appended, and its end noted
pub noted : (base : ℕ) (rs more : History) (ends new : List ℕ) (r : Record) (end : ℕ)
    → more ≡ rs ++ r ∷ [] → new ≡ set ends r.author end → length new ≡ MAX_SESSIONS
    → end ≡ base + length rs + 1 → HasEnds base rs ends → HasEnds base more new
noted base rs more ends new r end appended is long at has =
    let count : length ends ≡ MAX_SESSIONS = sym (length-set ends r.author end) ∙ (ap length (sym is) ∙ long) in
    subst (λ (z : History). HasEnds base z new) (sym appended)
    (subst (λ (z : List ℕ). HasEnds base (rs ++ r ∷ []) z) (sym is) (set_noted base rs ends r end count at has))

-- ---- the first ones dropped

fewer : (b : Bool) (n k : ℕ) → n - k ≡ up_by b n - suc k
fewer true zero k = omega arith
fewer false zero k = omega arith
fewer b (suc n) k = omega arith

dropped_last : (a k : ℕ) (rs : History) → up_to_last a (drop k rs) ≡ up_to_last a rs - k
dropped_last a zero rs = omega arith
dropped_last a (suc k) [] = omega arith
dropped_last a (suc k) (r ∷ rs) = dropped_last a k rs ∙ fewer (r.author == a) (up_to_last a rs) k

pub based : (base at : ℕ) (rs : History) (ends : List ℕ) → base ≤ at → HasEnds base rs ends → HasEnds at (drop (at - base) rs) ends
based base at rs ends up has a low =
    let less = dropped_last a (at - base) rs in
    let before = has a low in
    omega (arith, less, before, up)
