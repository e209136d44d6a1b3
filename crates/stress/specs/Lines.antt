-- The lines of a transcript.
use Rattle.std.specs.Prelude.{ℕ, ◌+◌, ◌*◌, ◌^◌, Bool, true, false, not, List, ◌++◌, codes, decimal, filter, slice_get, ◌==◌}
use Rattle.std.specs.List.{flat_map}
use Rattle.std.specs.Option.{option_map_or}
use Rattle.std.specs.List.Sorted.{IsNonDecreasingBy}
use Rattle.verifier.specs.declared.refusal.Mode.{Mode}
use Rattle.verifier.specs.declared.refusal.Mode.TheVariants.{Update, Read}
use Rattle.loader.specs.CatalogueView.{CatalogueView}
use Rattle.loader.specs.Spelling.{mode_word}
use Rattle.stress.specs.declared.calls.Asked.{Asked}
use Rattle.stress.specs.declared.calls.Asked.TheVariants as asks
use Rattle.stress.specs.Calls.{Called}

-- what a session was told: the index of its update and the reply there, how many updates its read has seen and the reply, or that the
-- history has ended
pub data Said : Type 0 where
  Updated : ℕ → ℕ → Said
  Seen : ℕ → ℕ → Said
  Ended : Said

-- a call, and what its session was told
pub record ToldCall : Type 0 where
  pub call : Called
  pub said : Said

-- where a line stands: an update at its index, a read behind the updates that it has seen and before the others, and what has ended
-- behind all
abbrev pub rank : Said → ℕ
rank (Updated index reply) = 2 * index + 1
rank (Seen point reply) = 2 * point
rank Ended = 2 ^ 65

-- an update is told its index or that the history has ended, a read what it has seen
abbrev pub suits : Mode → Said → Bool
suits Update (Updated index reply) = true
suits Update Ended = true
suits Read (Seen point reply) = true
suits mode said = false

abbrev pub AreOrdered : List ToldCall → Type 0
AreOrdered told = IsNonDecreasingBy (λ t. rank t.said) told

-- the calls that have their lines at this rank
abbrev pub at_rank : ℕ → List ToldCall → List ToldCall
at_rank r told = filter (λ t. rank t.said == r) told

abbrev pub is_ended : Said → Bool
is_ended (Updated index reply) = false
is_ended (Seen point reply) = false
is_ended Ended = true

-- the answers to these calls, but not that the history has ended, have their lines in this order
abbrev pub AreSteady : List ToldCall → Type 0
AreSteady told = AreOrdered (filter (λ t. not (is_ended t.said)) told)

-- ---- the texts

-- NAME of a program of the catalogue, or K of a place behind these; of an install MODE ARGLEN
abbrev pub asked_text : CatalogueView → Asked → List ℕ
asked_text c (asks.Run mode k) = option_map_or (λ program. program.name) (slice_get c.programs k) (decimal k)
asked_text c (asks.Install mode arg_len) = mode_word mode ++ (codes " " ++ decimal arg_len)

-- the text of `asked_text`, and HEX
abbrev pub call_text : CatalogueView → Called → List ℕ
call_text c call = asked_text c call.asked ++ (codes " " ++ call.digits)

-- the letter of an update, and of an install
abbrev pub update_letter : Asked → List ℕ
update_letter (asks.Run mode k) = codes "u "
update_letter (asks.Install mode arg_len) = codes "i "

-- behind a letter PLACE, the call, and REPLY
abbrev pub answered_text : CatalogueView → List ℕ → ℕ → Called → ℕ → List ℕ
answered_text c letter index call reply = letter ++ (decimal index ++ (codes " " ++ (call_text c call ++ (codes " " ++ (decimal reply ++ codes "\n")))))

abbrev pub said_text : CatalogueView → Called → Said → List ℕ
said_text c call (Updated index reply) = answered_text c (update_letter call.asked) index call reply
said_text c call (Seen point reply) = answered_text c (codes "r ") point call reply
said_text c call Ended = codes "e " ++ (call_text c call ++ codes "\n")

-- a line for each call
abbrev pub transcript_text : CatalogueView → List ToldCall → List ℕ
transcript_text c told = flat_map (λ t. said_text c t.call t.said) told
