use Rattle.std.proofs.Common.{◌≡◌, length}
use Rattle.text.specs.Lines.{lines_of}
use Rattle.running.specs.Running.{IsSteady}
use Rattle.replaying.specs.Noted.{notes_text}
use Rattle.replaying.specs.ReplayAnswer.{Replayed, transcript_answer, nothing_replayed}
use Rattle.replaying.specs.Replaying.{HasReplayed}
use Rattle.replaying.proofs.lines.Replaying.take_lines.Given as goal

abbrev pub invariant-loop-number : goal.invariant-loop-number
invariant-loop-number l =
    IsSteady l.catalogue l.self.node
    × ((at : Replayed) × HasReplayed l.catalogue at l.self
    × (transcript_answer l.catalogue l.lines.number at l.lines.lines ≡ transcript_answer l.catalogue 1 nothing_replayed (lines_of l.transcript))
    × (notes_text l.catalogue l.lines.number at l.lines.lines ≡ notes_text l.catalogue 1 nothing_replayed (lines_of l.transcript)))

abbrev pub decreases-loop-number : goal.decreases-loop-number
decreases-loop-number l = length l.lines.lines
