-- A session as it is known, and as it is seen.
use Rattle.std.proofs.Common.{◌≡◌, [], sym, ap, ◌∙◌, subst}
use Rattle.ownlock.specs.Seats.{IsSession, ShelfId}
use Rattle.store_steps.specs.Views.{SessionView, known_of, session_view}
use Rattle.store_steps.specs.Standing.{SessionKnown, StoreSeat}

abbrev K : Type 0
K = SessionKnown

abbrev S : Type 0
S = StoreSeat

abbrev pub view_known : ShelfId → K → SessionView
view_known shelf k = record { shelf = shelf; session = k.session; progress = k.progress; note = k.note; steps = k.steps; run = k.run }

pub seen_as : (s : S) (k : K) → IsSession s k → session_view s ≡ view_known s.shelf k
seen_as s k is = ap (λ z. session_view (record { shelf = s.shelf; sessions = z })) is

-- what is said of two sessions as they are known holds of them as they are seen
module _ (old new : S) (k m : K) (was : IsSession old k) (now : IsSession new m) where
  pub both : (P : SessionView → SessionView → Type 0) → P (view_known old.shelf k) (view_known new.shelf m) → P (session_view old) (session_view new)
  both P h = subst (λ (z : SessionView × SessionView). P z.0 z.1) (λ i. (sym (seen_as old k was) i, sym (seen_as new m now) i)) h

-- what a session knows that holds nothing is what its user sees
pub known_seen : (s : S) (k : K) → IsSession s k → k.held ≡ [] → k ≡ known_of (session_view s)
known_seen s k is none = (λ i. record { session = k.session; progress = k.progress; note = k.note; held = none i; steps = k.steps; run = k.run })
    ∙ ap (λ z. known_of (session_view (record { shelf = s.shelf; sessions = z }))) (sym is)

pub goes_seen : (P : K → K → Type 0) (old new : S) (was : SessionView) (k f : K) → IsSession old k → k.held ≡ [] → session_view old ≡ was → IsSession new f → f.held ≡ [] → P k f → P (known_of was) (known_of (session_view new))
goes_seen P old new was k f is none seen now free h = subst (λ (z : K × K). P z.0 z.1) (λ i. ((known_seen old k is none ∙ ap known_of seen) i, (known_seen new f now free) i)) h
