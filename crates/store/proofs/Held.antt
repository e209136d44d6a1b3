-- The sessions of a list as they are seen, and as their members are.
use Rattle.std.proofs.Common.{◌≡◌, ℕ, zero, suc, ◌<◌, ◌≤◌, List, [], ◌∷◌, ◌++◌, length, take, drop, sym, ap, ◌∙◌, arith}
use mathlib.Core.Option.{some-injective}
use Rattle.ownlock.specs.Seats.{At, IsSession}
use Rattle.accounts.proofs.Export.{at_none, at_there}
use Rattle.store_steps.specs.declared.pipelines.Member.{Member}
use Rattle.store_steps.specs.Holds.{session_at}
use Rattle.store_steps.specs.Standing.{SessionKnown}
use Rattle.store_steps.specs.Views.{first_in}
use Rattle.store.specs.Pipelines.{known_at, views_of}
use Rattle.store.specs.PolledPipelines.{SetsFirst}
use Rattle.store.proofs.AskedEach.{replaced_long}

abbrev K : Type 0
K = SessionKnown

-- a session that holds nothing is seen as it is
seen_whole : (f : K) → f.held ≡ [] → record f { held = [] } ≡ f
seen_whole f none = λ i. record f { held = sym none i }

-- each member is a session that holds nothing
abbrev pub HoldNothing : List Member → Type 0
HoldNothing ms = (j : ℕ) (m : Member) → At j m ms → (k : K) × IsSession m.seat k × (k.held ≡ [])

seen_at : (ms : List Member) (j : ℕ) (m : Member) (k : K) → At j m ms → IsSession m.seat k → k.held ≡ []
    → known_at (views_of ms) j ≡ session_at ms j
seen_at [] j m k at is none = absurd (at_none j m at)
seen_at (n ∷ ms) zero m k at is none = seen_whole (first_in n.seat.sessions) (ap (λ (z : K). z.held) (ap (λ (z : Member). first_in z.seat.sessions) (some-injective n m at) ∙ ap first_in is) ∙ none)
seen_at (n ∷ ms) (suc j) m k at is none = seen_at ms j m k at is none

in_front : (n : ℕ) (ms : List Member) (j : ℕ) → j < n → n ≤ length ms → session_at ms j ≡ session_at (take n ms) j
in_front zero ms j lt fits = absurd (omega (arith, lt))
in_front (suc n) [] j lt fits = absurd (omega (arith, fits))
in_front (suc n) (m ∷ ms) zero lt fits = λ i. first_in m.seat.sessions
in_front (suc n) (m ∷ ms) (suc j) lt fits = in_front n ms j (omega (arith, lt)) (omega (arith, fits))

in_joined : (xs ys : List Member) (j : ℕ) → j < length xs → session_at (xs ++ ys) j ≡ session_at xs j
in_joined [] ys j lt = absurd (omega (arith, lt))
in_joined (x ∷ xs) ys zero lt = λ i. first_in x.seat.sessions
in_joined (x ∷ xs) ys (suc j) lt = in_joined xs ys j (omega (arith, lt))

module _ (n : ℕ) (ms all now : List Member) (fits : n ≤ length ms) (sets : SetsFirst n ms all now) (was : HoldNothing ms) (are : HoldNothing all) where
  pub was_seen : (j : ℕ) → j < n → known_at (views_of ms) j ≡ session_at (take n ms) j
  was_seen j lt =
      let m = at_there ms j (omega (arith, lt, fits)) in
      let k = was j m.0 m.1 in
      seen_at ms j m.0 k.0 m.1 k.1 k.2 ∙ in_front n ms j lt fits

  pub is_seen : (j : ℕ) → j < n → known_at (views_of all) j ≡ session_at now j
  is_seen j lt =
      let size = ap length sets.is ∙ replaced_long n now ms sets.long fits in
      let m = at_there all j (omega (arith, lt, fits, size)) in
      let k = are j m.0 m.1 in
      let long = sets.long in
      seen_at all j m.0 k.0 m.1 k.1 k.2 ∙ (ap (λ z. session_at z j) sets.is ∙ in_joined now (drop n ms) j (omega (arith, lt, long)))
