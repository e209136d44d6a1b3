-- What a session owes that leaves a place, settles there, or hands it on.
use Rattle.std.specs.Prelude.{◌≡◌, ℕ, List, [], ◌∷◌, Option, Some, None}
use Rattle.atomic_table.specs.Table.{Me}
use Rattle.ownlock.specs.declared.known.Known.{Known}
use Rattle.ownlock.specs.Rules.{Rules}
use Rattle.ownlock.specs.Words.{slot_of}
use Rattle.ownlock.specs.Seats.{SeatView, View, IsSession, TookLast}
use Rattle.ownlock.specs.Knowledge.{MayPut, MayHandOn}
use Rattle.ownlock.specs.Invariant.{StepsLeft, StepsOn}

module _ {P N V : Type 0} (R : Rules P N V) (grown : P → P) (noted : N → N) where
  -- the session of the seat may put the value y back to the place p, and took that place last
  abbrev pub MaySettle : SeatView P N V → ℕ → V → Type 0
  MaySettle before p y = (k : Known P N V) × IsSession before k × MayPut R grown noted k p y × TookLast p k

  -- the first of these sessions may put the value y back to the place p, which it holds alone, and the next one may take it
  abbrev pub MayPassOn : View P N V → ℕ → V → Type 0
  MayPassOn sessions p y = (k : Known P N V) × (m : Known P N V) × (ms : View P N V) × (sessions ≡ k ∷ m ∷ ms) × MayPut R grown noted k p y × MayHandOn R p k m ms

  -- the same of the table's seat, with which the slot of that place alone is out
  abbrev pub MayPass : Me (Option V) (View P N V) → ℕ → V → Type 0
  MayPass me p y = (k : Known P N V) × (m : Known P N V) × (ms : View P N V) × (me ≡ (k ∷ m ∷ ms, (slot_of p, None) ∷ [])) × MayPut R grown noted k p y × MayHandOn R p k m ms

  -- the table's seat is one session, in the first slot that is out is the value of the place, and the session may put
  -- it back
  abbrev pub MayLeave : Me (Option V) (View P N V) → ℕ → Type 0
  MayLeave me p = (k : Known P N V) × (y : V) × (out : List (ℕ × Option V))
      × (me ≡ (k ∷ [], (slot_of p, Some y) ∷ out)) × MayPut R grown noted k p y

  -- it has put it back
  abbrev pub Leaves : Me (Option V) (View P N V) → ℕ → Me (Option V) (View P N V) → Type 0
  Leaves me p me' = (k : Known P N V) (y : V) (out : List (ℕ × Option V)) → me ≡ (k ∷ [], (slot_of p, Some y) ∷ out)
      → StepsLeft R grown noted k p y out me'

  -- the only slot that is out has the value of the place, the first session of the seat may put it back, and the next
  -- one may take it
  abbrev pub MayChangeHands : Me (Option V) (View P N V) → ℕ → Type 0
  MayChangeHands me p = (k : Known P N V) × (m : Known P N V) × (ms : View P N V) × (y : V)
      × (me ≡ (k ∷ m ∷ ms, (slot_of p, Some y) ∷ [])) × MayPut R grown noted k p y × MayHandOn R p k m ms

  -- they have
  abbrev pub ChangesHands : Me (Option V) (View P N V) → ℕ → Me (Option V) (View P N V) → Type 0
  ChangesHands me p me' = (k m : Known P N V) (ms : View P N V) (y : V) → me ≡ (k ∷ m ∷ ms, (slot_of p, Some y) ∷ [])
      → StepsOn R grown noted k m ms p y me'
