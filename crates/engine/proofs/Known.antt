-- What is known of all that there is to read.
use Rattle.std.proofs.Common.{ℕ, List, Option, Some, None}
use Rattle.std.specs.Prelude.{IfSome}
use Rattle.engine.specs.declared.reading.Inputs.{Inputs}
use Rattle.engine.specs.Files.{Contents}
use Rattle.engine.specs.Reading.{Given, IfGiven, given_text}

-- from what is known of one thing to what is known of another
pub known_so : {A : Type 0} (P Q : A → Type 0) (o : Option A) → ((a : A) → P a → Q a) → IfSome o P → IfSome o Q
known_so P Q None f known = tt
known_so P Q (Some a) f known = f a known

pub given_so : {F R : Type 0} (holds : F → Option Contents) (remaining : R → Option (List ℕ)) (i : Inputs F R) (P Q : Given → Type 0) → ((g : Given) → P g → Q g)
    → IfGiven holds remaining i P → IfGiven holds remaining i Q
given_so holds remaining i P Q f =
    known_so _ _ (given_text remaining i.manifest) (λ m. known_so _ _ (holds i.folder.now) (λ h. known_so _ _ (given_text remaining i.file) (λ x.
    known_so _ _ (given_text remaining i.state) (λ s. known_so _ _ (given_text remaining i.history) (λ t.
    f (record { sizes = i.sizes; manifest = m; folder = h; file = x; state = s; history = t }))))))

-- what is so of anything
pub known_of : {A : Type 0} (Q : A → Type 0) (o : Option A) → ((a : A) → Q a) → IfSome o Q
known_of Q None f = tt
known_of Q (Some a) f = f a
