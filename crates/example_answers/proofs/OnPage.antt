-- What stands on the page, by how the command ended.
use Rattle.std.proofs.Common.{◌≡◌, ◌∙◌, [], Some, true, ap}
use Rattle.engine.specs.declared.replies.Status.{Status}
use Rattle.engine.specs.declared.replies.Status.TheVariants as statuses
use Rattle.engine.specs.declared.replies.Verdict.TheVariants as verdicts
use Rattle.engine.specs.declared.in_memory.Held.{Held}
use Rattle.engine.specs.declared.in_memory.HeldFiles.{HeldFiles}
use Rattle.engine.specs.declared.in_memory.Page.{Page}
use Rattle.engine.specs.declared.reading.Inputs.{Inputs}
use Rattle.engine.specs.Answer.{Answer}
use Rattle.engine.specs.Engine.{Reports}
use Rattle.engine.specs.Memory.{found_file}
use Rattle.engine.specs.Reading.{FailedInTurn}
use Rattle.engine.specs.Report.{Failed}
use Rattle.engine.specs.Status.{status_of}
use Rattle.engine.proofs.Export.{never_failed}
use Rattle.example_answers.specs.Pages.{IsOnPage}

-- of texts and files in memory none has failed
pub none_failed : (old new : Inputs HeldFiles Held)
    → FailedInTurn (λ (f : HeldFiles). Some (found_file f.0.now)) (λ _ _. ⊥) (λ (s : Held). Some s.0.now) (λ _. ⊥) old new → ⊥
none_failed old new = never_failed (λ (f : HeldFiles). Some (found_file f.0.now)) (λ (s : Held). Some s.0.now) old new

-- of an answer that says that all is well, where no read fails
pub on_page : {M : Type 0} (answer : M → Answer) (Is : M → Type 0) (Read : Type 0) (status : Status) (page : Page) (good : Answer) → ((m : M) → Is m → answer m ≡ good) → good.verdict ≡ verdicts.Good
    → Reports answer Is (Some []) (Some page.text.items) status → Failed status Read (page.is_full ≡ true)
    → (Read → ⊥) → IsOnPage good.text status page
on_page answer Is Read statuses.Good page good is well wrote failed never = wrote.3 ∙ ap (λ (x : Answer). x.text) (is wrote.0 wrote.1)
on_page answer Is Read statuses.NoMemory page good is well wrote failed never = wrote
on_page answer Is Read statuses.CannotWrite page good is well wrote failed never = failed
on_page answer Is Read statuses.CannotRead page good is well wrote failed never = absurd (never failed)
on_page answer Is Read statuses.Refused page good is well wrote failed never =
    let h : statuses.Refused ≡ statuses.Good = wrote.2 ∙ ap status_of (ap (λ (x : Answer). x.verdict) (is wrote.0 wrote.1) ∙ well) in absurd cc
on_page answer Is Read statuses.Differs page good is well wrote failed never =
    let h : statuses.Differs ≡ statuses.Good = wrote.2 ∙ ap status_of (ap (λ (x : Answer). x.verdict) (is wrote.0 wrote.1) ∙ well) in absurd cc
