-- Several questions in one call: which are refused, and what several reads at one point tell.
use Rattle.std.specs.Prelude.{◌≡◌, ℕ, suc, ◌≤◌, List, [], ◌∷◌, length, true, Option, Some, None, slice_get}
use Rattle.maps.specs.declared.shapes.TheConstants.{MOST_ARG_LEN}
use Rattle.ownlock.specs.Seats.{At}
use Rattle.verifier.specs.declared.refusal.Mode.{Mode}
use Rattle.verifier.specs.declared.refusal.Mode.TheVariants.{Read}
use Rattle.loader.specs.CatalogueView.{CatalogueView}
use Rattle.loader.specs.StoreState.{StoreState}
use Rattle.replica.specs.Refusals.{early_refusal}
use Rattle.replica.specs.StoreMeaning.{is_operation}
use Rattle.replica.specs.declared.refusals.StoreRefused.{StoreRefused}
use Rattle.store_steps.specs.declared.questions.QuestionRefused.{QuestionRefused}
use Rattle.store_steps.specs.declared.steps.Question.{Question}
use Rattle.store_steps.specs.Asking.{asked_op}
use Rattle.store_steps.specs.Views.{RepliesIn, op_of}

-- ---- which are refused

-- the refusal of a question, as that of a call in this mode
abbrev pub refusal_in : Mode → CatalogueView → Question → Option StoreRefused
refusal_in mode c asked = early_refusal c mode asked.program asked.argument.now

-- the question of this number, where it is refused, else what is refused behind it
abbrev pub refused_or : ℕ → Option StoreRefused → Option QuestionRefused → Option QuestionRefused
refused_or number (Some refused) later = Some (record { number = number; refused = refused })
refused_or number None later = later

-- the first of these questions that is refused in this mode; they are numbered from this number on
abbrev pub first_refused_in : Mode → CatalogueView → ℕ → List Question → Option QuestionRefused
first_refused_in mode c number [] = None
first_refused_in mode c number (asked ∷ others) = refused_or number (refusal_in mode c asked) (first_refused_in mode c (suc number) others)

-- so it is of reads
abbrev pub question_refusal : CatalogueView → Question → Option StoreRefused
question_refusal c asked = refusal_in Read c asked

abbrev pub first_refused : CatalogueView → ℕ → List Question → Option QuestionRefused
first_refused c number questions = first_refused_in Read c number questions

-- the program may be called in this mode on this argument, which fits a call's room
abbrev pub MayAskFor : Mode → CatalogueView → (program : ℕ) → List ℕ → Type 0
MayAskFor mode c program argument = (is_operation mode c (op_of program argument) ≡ true) × (length argument ≤ MOST_ARG_LEN)

-- so may each question
abbrev pub MayAskEach : Mode → CatalogueView → List Question → Type 0
MayAskEach mode c questions = (j : ℕ) (q : Question) → At j q questions → MayAskFor mode c q.program q.argument.now

-- ---- what they tell

-- each question has its reply on that state
abbrev pub EachReplies : CatalogueView → StoreState → List Question → (replies : List ℕ) → Type 0
EachReplies c state questions replies =
    (i : ℕ) (asked : Question) → slice_get questions i ≡ Some asked → (reply : ℕ) × (slice_get replies i ≡ Some reply) × RepliesIn c (asked_op asked) state reply
