-- From the seat that a step began with to that which it left.
use Rattle.std.proofs.Common.{◌≡◌, ℕ, Bool, true, List, [], ◌∷◌, sym, ◌∙◌, subst, true≢false, Option}
use Rattle.atomic_table.specs.Table.{Me}
use Rattle.ownlock.specs.declared.known.Known.{Known}
use Rattle.ownlock.specs.Rules.{Rules}
use Rattle.ownlock.specs.Invariant.{StepsOut, TellsTaken}

module _ {P N V : Type 0} (R : Rules P N V) where
  abbrev Seat : Type 0
  Seat = Me (Option V) (List (Known P N V))

  pub out_from : (p : ℕ) (m m1 m' : Seat) (k : Known P N V) → m1 ≡ m → StepsOut R p k m1 m' → StepsOut R p k m m'
  out_from p m m1 m' k same out = subst (λ z. StepsOut R p k z m') same out

  pub is_out : (p : ℕ) (k : Known P N V) (m m' : Seat) → StepsOut R p k m m' → TellsTaken R p k m m' true
  is_out p k m m' out = ((λ no. absurd (true≢false no)), λ _. out)

  pub taken_from : (p : ℕ) (k : Known P N V) (m m1 m' : Seat) (b : Bool) → m1 ≡ m → TellsTaken R p k m1 m' b
      → TellsTaken R p k m m' b
  taken_from p k m m1 m' b same t = subst (λ z. TellsTaken R p k z m' b) same t

-- the seat of the session k has its view still
pub same_view : {P N V : Type 0} (m m' : Me (Option V) (List (Known P N V))) (k z : Known P N V) → m.0 ≡ k ∷ []
    → m'.0 ≡ k ∷ [] → m'.0 ≡ z ∷ [] → m.0 ≡ z ∷ []
same_view m m' k z before after is = before ∙ (sym after ∙ is)
