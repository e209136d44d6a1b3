-- What is told of a look, by what came of the try.
use Rattle.std.proofs.Common.{◌≡◌, refl, None, Some, Option, MatchOption, Result, Ok, Err, sym, ap, subst}
use Rattle.accounts.specs.declared.sessions.Pending.{Pending}
use Rattle.store_steps.specs.Views.{SessionView}
use Rattle.store.specs.Looks.{TellsTried, IfUnanswered}
use Rattle.host_calls.specs.declared.attached.Looked.{Looked}
use Rattle.host_calls.specs.declared.attached.Looked.TheVariants.{IsOut}
use Rattle.host_calls.specs.Looks.{TellsLook, TellsNo, TellsSight, look_of}
use Rattle.host_calls.specs.CallResults.{HasGrown}

module _ {A E : Type 0} (words : E → Looked) (seen : A → Looked) (kept : Type 0) (P : A → Type 0) (Q : Looked → Type 0) (made : (a : A) → P a → TellsSight kept Q (seen a)) where
  -- where it isn't refused
  sight : (result : Result (Option A) E) → IfUnanswered result kept → TellsTried result P
      → TellsSight kept Q (look_of words seen result)
  sight (Err why) k t = absurd t
  sight (Ok None) k t = k
  sight (Ok (Some a)) k t = made a t

  module _ (refused : Option E) (old new : SessionView) (result : Result (Option A) E)
      (early : (r : E) → refused ≡ Some r → (result ≡ Err r) × (new ≡ old)) (k : IfUnanswered result kept) (tells : refused ≡ None → TellsTried result P) where
    by : (o : Option E) → refused ≡ o
        → MatchOption o (TellsSight kept Q (look_of words seen result)) (λ why. TellsNo kept (words why) old new (look_of words seen result))
    by None is = sight result k (tells is)
    by (Some r) is = (ap (look_of words seen) (early r is).0, (early r is).1, subst (λ (x : Result (Option A) E). IfUnanswered x kept) (early r is).0 k)

    -- by whether an update is out
    abbrev at : Option Pending → Type 0
    at p = MatchOption p (HasGrown old new × (new.note ≡ old.note) × MatchOption refused (TellsSight kept Q (look_of words seen result)) (λ why. TellsNo kept (words why) old new (look_of words seen result)))
        (λ o. TellsNo kept IsOut old new (look_of words seen result))

    pub tried_told : old.note.pending ≡ None → HasGrown old new → new.note ≡ old.note
        → TellsLook refused words kept Q old new (look_of words seen result)
    tried_told idle grown note = subst at (sym idle) (grown, note, by refused refl)
