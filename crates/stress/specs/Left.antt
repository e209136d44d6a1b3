-- What `stress` writes and what goes elsewhere, of what it made.
use Rattle.std.specs.Prelude.{◌≡◌, ℕ, List, Option, None, option_map}
use Rattle.std.specs.Option.{option_map_or}
use Rattle.dumps.specs.Dumping.{dump}
use Rattle.engine.specs.declared.parted.Destination.{Destination}
use Rattle.engine.specs.Answer.{Answer}
use Rattle.engine.specs.Parted.{PartedAnswer, handed_text, sent_to, with_text}
use Rattle.engine.specs.Reading.{TextsRead}
use Rattle.engine.specs.Report.{answer_of}
use Rattle.stress.specs.declared.command.Stress.{Stress}
use Rattle.stress.specs.declared.left_texts.Leaving.{Leaving}
use Rattle.stress.specs.declared.left_texts.LeftTexts.{LeftTexts}
use Rattle.stress.specs.declared.stressed.Stressed.{Stressed}
use Rattle.stress.specs.Runs.{MayMake}

-- what is written, and what goes elsewhere
pub record LeftAnswer : Type 0 where
  pub answer : Answer
  pub times : Option (List ℕ)
  pub state : Option (List ℕ)

-- an answer with its times, and then with its state
abbrev pub with_state : Destination → PartedAnswer → List ℕ → LeftAnswer
with_state to p text = record { answer = (sent_to to p.answer text).answer; times = p.elsewhere; state = (sent_to to p.answer text).elsewhere }

-- a transcript with the times of its calls, and then with the text of its state; an answer in its place alone
abbrev pub left_by : Leaving → Stressed → LeftAnswer
left_by to s =
    option_map_or (λ state. with_state to.state (sent_to to.times (answer_of s.reply) s.history.items) (dump state)) s.state
    (record { answer = answer_of s.reply; times = None; state = None })

-- what is written of them
abbrev pub answer_left : LeftTexts → Answer
answer_left l = with_text l.written_state (answer_of l.reply)

-- the texts are those of what was made
abbrev pub IsLeft : Leaving → Stressed → LeftTexts → Type 0
IsLeft to s l =
    (record { answer = answer_left l; times = option_map handed_text l.times; state = option_map handed_text l.state } ≡ left_by to s) × (l.counts ≡ s.counts)

-- what this command may leave of what was read
abbrev pub MayLeave : {R G C V : Type 0} → Stress R G C V → Leaving → Option TextsRead → LeftTexts → Type 0
MayLeave c to t l = (s : Stressed) × MayMake c t s × IsLeft to s l
