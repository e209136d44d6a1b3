-- What a command has written, by its status, from what it may answer.
use Rattle.std.proofs.Common.{◌≡◌, inl, inr, ℕ, List, [], ◌++◌, Some, refl, sym, ap, ◌∙◌, append-nil}
use Rattle.std.specs.Prelude.{◌⊎◌}
use Rattle.engine.specs.declared.replies.Status.{Status}
use Rattle.engine.specs.declared.replies.Status.TheVariants as statuses
use Rattle.engine.specs.declared.replies.Verdict.TheVariants as verdicts
use Rattle.engine.specs.Texts.{no_memory_line}
use Rattle.engine.specs.Status.{status_of}
use Rattle.engine.specs.Answer.{Answer}
use Rattle.engine.specs.Engine.{Reports}
use Rattle.engine.specs.Written.{IsNoMemoryText, IsWritten}

good_not_refused : statuses.Good ≡ statuses.Refused → ⊥
good_not_refused never = cc

differs_not_good : statuses.Differs ≡ statuses.Good → ⊥
differs_not_good never = cc

differs_not_refused : statuses.Differs ≡ statuses.Refused → ⊥
differs_not_refused never = cc

module _ (IsGood IsRefused : List ℕ → Type 0) where
  -- an answer is good or refuses, and has such a text
  abbrev pub Fits : Answer → Type 0
  Fits a = ((a.verdict ≡ verdicts.Good) × IsGood a.text) ⊎ ((a.verdict ≡ verdicts.Refused) × IsRefused a.text)

  module _ (a : Answer) where
    good : Fits a → statuses.Good ≡ status_of a.verdict → IsGood a.text
    good (inl (v, text)) ended = text
    good (inr (v, text)) ended = absurd (good_not_refused (ended ∙ ap status_of v))

    refused : Fits a → statuses.Refused ≡ status_of a.verdict → IsRefused a.text
    refused (inl (v, text)) ended = absurd (good_not_refused (sym (ended ∙ ap status_of v)))
    refused (inr (v, text)) ended = text

    no_other : Fits a → statuses.Differs ≡ status_of a.verdict → ⊥
    no_other (inl (v, text)) ended = differs_not_good (ended ∙ ap status_of v)
    no_other (inr (v, text)) ended = differs_not_refused (ended ∙ ap status_of v)

    any : Fits a → IsGood a.text ⊎ (IsRefused a.text ⊎ IsNoMemoryText a.text)
    any (inl (v, text)) = inl text
    any (inr (v, text)) = inr (inl text)

  module _ {M : Type 0} (answer : M → Answer) (Is : M → Type 0) (fits : (m : M) → Is m → Fits (answer m)) (old new : List ℕ) where
    pub written : (status : Status) → Reports answer Is (Some old) (Some new) status → (text : List ℕ) × (new ≡ old ++ text) × IsWritten IsGood IsRefused text status
    written statuses.Good (m, is, ended, wrote) = (_, wrote, good (answer m) (fits m is) ended)
    written statuses.Refused (m, is, ended, wrote) = (_, wrote, refused (answer m) (fits m is) ended)
    written statuses.Differs (m, is, ended, wrote) = absurd (no_other (answer m) (fits m is) ended)
    written statuses.NoMemory wrote = (no_memory_line, wrote, refl)
    written statuses.CannotRead kept = ([], kept ∙ sym (append-nil old), refl)
    written statuses.CannotWrite (inl (m, is, (n, wrote))) = (_, wrote, (_, any (answer m) (fits m is), n, refl))
    written statuses.CannotWrite (inr (n, wrote)) = (_, wrote, (no_memory_line, inr (inr refl), n, refl))
