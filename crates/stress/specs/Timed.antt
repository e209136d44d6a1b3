-- A history of calls in real time, and how many there are.
use Rattle.std.specs.Prelude.{◌≡◌, ℕ, ◌<◌, Bool, true, false, List, [], ◌++◌, map, filter, length, codes, decimal, All, Contains}
use Rattle.std.specs.List.{flat_map}
use Rattle.stress.specs.declared.watching.Counts.{Counts}
use Rattle.stress.specs.Calls.{Called}
use Rattle.stress.specs.Dealt.{dealt}
use Rattle.stress.specs.Lines.{Said, Updated, Seen, Ended, ToldCall, is_ended}

-- a call and what was told, the number of the session that made it, and what the counter that all threads raise was just before it and just
-- behind it
pub record Timed : Type 0 where
  pub told : ToldCall
  pub session : ℕ
  pub begun : ℕ
  pub ended : ℕ

-- SESSION LINE BEGIN END
abbrev pub timed_text : Timed → List ℕ
timed_text t =
    decimal t.session ++ (codes " " ++ (decimal t.told.call.line ++ (codes " " ++ (decimal t.begun ++ (codes " " ++ (decimal t.ended ++ codes "\n"))))))

-- the line names one of n sessions, and its call is one of those that go to this session, where they go to all n in turn
abbrev pub IsInTurn : ℕ → List Called → Timed → Type 0
IsInTurn n calls t = (t.session < n) × Contains (dealt n t.session calls) t.told.call

-- where it is wanted, a line for each of these calls, in their order, which names the session that its call went to; of the counter's numbers
-- nothing is said
abbrev pub IsHistoryIf : Bool → ℕ → List Called → List ToldCall → List ℕ → Type 0
IsHistoryIf true n calls told text = (timed : List Timed) × (map (λ t. t.told) timed ≡ told) × All (IsInTurn n calls) timed × (text ≡ flat_map timed_text timed)
IsHistoryIf false n calls told text = text ≡ []

-- ---- how many

abbrev pub is_updated : Said → Bool
is_updated (Updated index reply) = true
is_updated (Seen point reply) = false
is_updated Ended = false

abbrev pub is_seen : Said → Bool
is_seen (Updated index reply) = false
is_seen (Seen point reply) = true
is_seen Ended = false

-- how many of these calls were told such a thing
abbrev pub how_many : (Said → Bool) → List ToldCall → ℕ
how_many is told = length (filter (λ t. is t.said) told)

-- how many updates and installs, reads, and calls behind the end these are; of times nothing is said
pub record AreCounted (told : List ToldCall) (counts : Counts) : Type 0 where
  pub updates : counts.updates ≡ how_many is_updated told
  pub reads : counts.reads ≡ how_many is_seen told
  pub ended : counts.ended ≡ how_many is_ended told
