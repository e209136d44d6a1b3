-- What a replay finds of the calls of a transcript, one after the other.
use Rattle.std.specs.Prelude.{◌≡◌, List, [], ◌∷◌}
use Rattle.verifier.specs.declared.refusal.Mode.TheVariants.{Update, Read}
use Rattle.loader.specs.CatalogueView.{CatalogueView}
use Rattle.oplog.specs.declared.configuration.Config.{Config}
use Rattle.oplog.specs.Limits.{IsConfig}
use Rattle.oplog.specs.Operations.{Operation}
use Rattle.engine.specs.Answer.{Answer}
use Rattle.replaying.specs.ReplayAnswer.{Replayed, LineOutcome, Agrees, compared, next_count, nothing_replayed}
use Rattle.stress.specs.Calls.{Called}
use Rattle.stress.specs.Lines.{Said, Updated, Seen, Ended, ToldCall}
use Rattle.stress.specs.OneHistory.{Asks}
use Rattle.stress.specs.Transcripts.{IsTranscript}

-- what a replay finds of this operation, of which this was told, behind what was replayed
abbrev pub told_outcome : CatalogueView → Replayed → Operation → Said → LineOutcome
told_outcome c at op (Updated index reply) = compared c at Update index reply op
told_outcome c at op (Seen point reply) = compared c at Read point reply op
told_outcome c at op Ended = Agrees (record at { ended = next_count at.ended })

-- from there on each call agrees, one after the other, on the bytes that its digits spell
abbrev pub Agree : CatalogueView → Replayed → List ToldCall → Type 0
Agree c at [] = Unit {0}
Agree c at (t ∷ ts) = (op : Operation) × (next : Replayed) × Asks t.call op × (told_outcome c at op t.said ≡ Agrees next) × Agree c next ts

-- the calls of a transcript agree, in the order of its lines
abbrev pub TranscriptsAgree : Type 0
TranscriptsAgree = (config : Config) (c : CatalogueView) (calls : List Called) (a : Answer) → IsConfig config → (t : IsTranscript config c calls a) → Agree c nothing_replayed t.told
