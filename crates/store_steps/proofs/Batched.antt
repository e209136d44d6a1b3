-- The records of a batch, and the places that the first of them have.
use Rattle.std.proofs.Common.{◌≡◌, ℕ, zero, suc, ◌<◌, List, [], ◌∷◌, map, length, take, sym, refl, ap, subst, arith, None}
use mathlib.Core.Option.{some-injective}
use Rattle.ownlock.specs.Seats.{At}
use Rattle.oplog.specs.History.{History}
use Rattle.oplog.specs.declared.records.Record.{Record}
use Rattle.accounts.specs.declared.sessions.Claim.{Claim}
use Rattle.accounts.specs.Moves.{placed_from, record_of, unplaced}
use Rattle.accounts.proofs.Export.{at_none}

pub records_of_unplaced : (rs : History) → map record_of (unplaced rs) ≡ rs
records_of_unplaced [] = refl
records_of_unplaced (r ∷ rs) = ap (λ z. r ∷ z) (records_of_unplaced rs)

pub taken_unplaced : (k : ℕ) (rs : History) → map record_of (take k (unplaced rs)) ≡ take k rs
taken_unplaced zero rs = refl
taken_unplaced (suc k) [] = refl
taken_unplaced (suc k) (r ∷ rs) = ap (λ z. r ∷ z) (taken_unplaced k rs)

pub records_of_placed : (from k : ℕ) (ts : List Claim) → map record_of (placed_from from k ts) ≡ map record_of ts
records_of_placed from zero ts = refl
records_of_placed from (suc k) [] = refl
records_of_placed from (suc k) (t ∷ ts) = ap (λ z. t.request ∷ z) (records_of_placed (suc from) k ts)

pub long_placed : (from k : ℕ) (ts : List Claim) → length (placed_from from k ts) ≡ length ts
long_placed from zero ts = refl
long_placed from (suc k) [] = refl
long_placed from (suc k) (t ∷ ts) = ap suc (long_placed (suc from) k ts)

pub long_unplaced : (rs : History) → length (unplaced rs) ≡ length rs
long_unplaced [] = refl
long_unplaced (r ∷ rs) = ap suc (long_unplaced rs)

pub at_unplaced : (rs : History) (j : ℕ) (t : Claim) → At j t (unplaced rs) → At j t.request rs × (t.index ≡ None)
at_unplaced [] j t e = absurd (at_none j t e)
at_unplaced (r ∷ rs) zero t e = let same = some-injective _ t e in (subst (λ (z : Claim). At 0 z.request (r ∷ rs)) same refl, ap (λ (z : Claim). z.index) (sym same))
at_unplaced (r ∷ rs) (suc j) t e = at_unplaced rs j t e

pub claim_at : (rs : History) (j : ℕ) (r : Record) → At j r rs → At j (record { request = r; index = None }) (unplaced rs)
claim_at [] j r e = absurd (at_none j r e)
claim_at (x ∷ rs) zero r e = subst (λ (z : Record). At zero (record { request = z; index = None }) (unplaced (x ∷ rs))) (some-injective x r e) refl
claim_at (x ∷ rs) (suc j) r e = claim_at rs j r e

pub at_taken : (k : ℕ) (rs : History) (j : ℕ) (r : Record) → j < k → At j r rs → At j r (take k rs)
at_taken zero rs j r lt e = absurd (omega (arith, lt))
at_taken (suc k) [] j r lt e = absurd (at_none j r e)
at_taken (suc k) (x ∷ rs) zero r lt e = e
at_taken (suc k) (x ∷ rs) (suc j) r lt e = at_taken k rs j r (omega (arith, lt)) e
