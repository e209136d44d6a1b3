-- Sessions of a node that share a thread, and what they are told. Clauses of private functions alone cite this.
use Rattle.std.specs.Prelude.{◌≡◌, ℕ, ◌+◌, ◌*◌, ◌<◌, ◌≤◌, List, [], ◌∷◌, ◌++◌, map, length, take, drop, Some, Result, IfOk, MatchResult, Vec, vec_capacity}
use Rattle.std.specs.List.{All, flat_map}
use Rattle.ownlock.specs.Seats.{At}
use Rattle.arrayvec.specs.ArrayVec.{ArrayVec}
use Rattle.text.specs.Digits.{field_bytes}
use Rattle.verifier.specs.declared.refusal.Mode.TheVariants.{Update}
use Rattle.oplog.specs.declared.configuration.Sizes.{Sizes}
use Rattle.oplog.specs.Sessions.{session}
use Rattle.replica.specs.declared.refusals.StoreRefused.{StoreRefused}
use Rattle.store_steps.specs.Views.{SessionView}
use Rattle.store_steps.specs.declared.steps.Question.{Question}
use Rattle.store.specs.declared.answers.Answer.{Answer}
use Rattle.store.specs.Opening.{AreOf}
use Rattle.store.specs.Pipelines.{HeldTwice}
use Rattle.store.specs.Sessions.{StoreView}
use Rattle.stress.specs.declared.calls.Asked.TheVariants as asks
use Rattle.stress.specs.declared.calls.ScriptCall.{ScriptCall}
use Rattle.stress.specs.declared.lines.AnsweredCall.{AnsweredCall}
use Rattle.stress.specs.declared.players.Playground.{Playground}
use Rattle.stress.specs.declared.rounds.Held.{Held}
use Rattle.stress.specs.declared.rounds.Held.TheVariants as hands
use Rattle.stress.specs.declared.teams.Team.{Team}
use Rattle.stress.specs.Dealt.{dealt, dealt_from}
use Rattle.stress.specs.Playing.{AreSteadyTo, AreTold, IsAsked, IsTold, update_said}
use Rattle.stress.specs.Shown.{called, calls_told, timed_of, to_be_told, told_call}
use Rattle.stress.specs.Timed.{IsInTurn}

-- ---- which sessions make a team

-- teams of so many sessions make up the slots of a node, of which there are some, and at most sixteen
pub record AreWhole (config : Sizes) (size : ℕ) : Type 0 where
  pub some : 0 < size
  pub few : size ≤ 16
  pub parts : ℕ
  pub more : 0 < parts
  pub slots : config.slots ≡ parts * size

-- so many sessions from this number on are of one node
pub record AreOnOneNode (config : Sizes) (first count : ℕ) : Type 0 where
  pub node : ℕ
  pub slot : ℕ
  pub is : first ≡ session config node slot
  pub within : slot + count ≤ config.slots

-- sessions of the store, which are numbered from this number on
pub record AreTeam (store : StoreView) (first : ℕ) (sessions : List SessionView) : Type 0 where
  pub own : AreOf store sessions
  pub numbers : (j : ℕ) (s : SessionView) → At j s sessions → s.session ≡ first + j

-- and none was told anything yet
pub record AreUntold (store : StoreView) (first : ℕ) (sessions : List SessionView) : Type 0 where
  pub team : AreTeam store first sessions
  pub new : (j : ℕ) (s : SessionView) → At j s sessions → s.note.answered ≡ []

-- the sessions of a team, apart or in one hand
abbrev pub held_in : Held → List SessionView
held_in (hands.Apart sessions) = sessions.items
held_in (hands.Joined pipeline) = pipeline

-- ---- a round of calls

-- the session made this call as the one of this number, and was told this
pub record IsAnswered (number : ℕ) (old new : SessionView) (c : ScriptCall) (t : AnsweredCall) : Type 0 where
  pub call : told_call t ≡ Some (called c)
  pub asked : IsAsked old new t
  pub noted : t.noted.session ≡ number

-- of the sessions from this number on each of the first made one of these calls, in this order, and was told this; the others are as they were
pub record MakeEach (first : ℕ) (calls : List ScriptCall) (old new : List SessionView) (told : List AnsweredCall) : Type 0 where
  pub long : length new ≡ length old
  pub count : length told ≡ length calls
  pub each : (j : ℕ) (s t : SessionView) (c : ScriptCall) (a : AnsweredCall) → At j s old → At j t new → At j c calls → At j a told → IsAnswered (first + j) s t c a
  pub others : (j : ℕ) (s : SessionView) → length calls ≤ j → At j s old → At j s new

-- ---- a round that is a list

-- the call runs an update program
abbrev pub IsUpdate : ScriptCall → Type 0
IsUpdate c = (program : ℕ) × (c.asked ≡ asks.Run Update program)

abbrev pub AreUpdates : List ScriptCall → Type 0
AreUpdates calls = (j : ℕ) (c : ScriptCall) → At j c calls → IsUpdate c

-- these are the bytes that the digits of each call spell
pub record AreSpelled (calls : List ScriptCall) (spelled : List (ArrayVec ℕ)) : Type 0 where
  pub long : length spelled ≡ length calls
  pub each : (j : ℕ) (c : ScriptCall) (bytes : ArrayVec ℕ) → At j c calls → At j bytes spelled → field_bytes c.digits.now ≡ Some bytes.items

-- the question is what the call asks for: its program, on the bytes that its digits spell
pub record IsQuestion (c : ScriptCall) (q : Question) : Type 0 where
  pub runs : c.asked ≡ asks.Run Update q.program
  pub spelled : field_bytes c.digits.now ≡ Some q.argument.now

pub record AreQuestions (calls : List ScriptCall) (questions : List Question) : Type 0 where
  pub long : length questions ≡ length calls
  pub each : (j : ℕ) (c : ScriptCall) (q : Question) → At j c calls → At j q questions → IsQuestion c q

-- the sessions from this number on were told these answers to these calls
pub record IsToldList (first : ℕ) (calls : List ScriptCall) (answers : List (Result Answer StoreRefused)) (told : List AnsweredCall) : Type 0 where
  pub long : length told ≡ length calls
  pub made : (j : ℕ) (c : ScriptCall) (t : AnsweredCall) → At j c calls → At j t told → t.call.now ≡ c
  pub noted : (j : ℕ) (t : AnsweredCall) → At j t told → t.noted.session ≡ first + j
  pub said : map (λ t. t.said) told ≡ map update_said answers

-- the calls went by one list of the sessions, which had their desk in two holds, one right after the other; they were told its answers
pub record GoTogether (calls : List ScriptCall) (old new : List SessionView) (told : List AnsweredCall) : Type 0 where
  pub questions : List Question
  pub asks : AreQuestions calls questions
  pub answers : List (Result Answer StoreRefused)
  pub said : map (λ t. t.said) told ≡ map update_said answers
  pub held : HeldTwice old new questions answers

-- several calls, if all run update programs, went by one list, unless memory ran out
abbrev pub SeveralGoTogether : {X E : Type 0} → List ScriptCall → (old new : List SessionView) → Result (Vec AnsweredCall X) E → Type 0
SeveralGoTogether calls old new told = 1 < length calls → AreUpdates calls → IfOk told (λ v. GoTogether calls old new v.items)

-- ---- round after round

-- nothing is in any of these lists
abbrev pub AreEmpty : {X : Type 0} → List (Vec AnsweredCall X) → Type 0
AreEmpty lists = All (λ v. v.items ≡ []) lists

-- each of the first lists has one answer more, and the others are as they were
pub record Grow {X : Type 0} (old new : List (Vec AnsweredCall X)) (answers : List AnsweredCall) : Type 0 where
  pub long : length new ≡ length old
  pub each : (j : ℕ) (u v : Vec AnsweredCall X) (a : AnsweredCall) → At j u old → At j v new → At j a answers → v.items ≡ u.items ++ a ∷ []
  pub others : (j : ℕ) (u : Vec AnsweredCall X) → length answers ≤ j → At j u old → At j u new

-- of n sessions the one of this number was told this of its calls, and has those of `left` before it, its own first
pub record IsAtWork (n number : ℕ) (calls left : List ScriptCall) (s : SessionView) (told : List AnsweredCall) : Type 0 where
  pub dealt : calls_told told ++ dealt n 0 (to_be_told left) ≡ dealt n number (to_be_told calls)
  pub known : IsTold s told
  pub noted : All (λ t. t.noted.session ≡ number) told

-- each of these sessions is at work; `left` begins with the next call of the first
pub record AreAtWork {X : Type 0} (n first : ℕ) (calls left : List ScriptCall) (sessions : List SessionView) (told : List (Vec AnsweredCall X)) : Type 0 where
  pub long : length told ≡ length sessions
  pub each : (j : ℕ) (s : SessionView) (v : Vec AnsweredCall X) → At j s sessions → At j v told → IsAtWork n (first + j) calls (drop j left) s v.items

-- of n sessions the one of this number made its calls, and was told this
pub record HasMade (n number : ℕ) (calls : List ScriptCall) (s : SessionView) (told : List AnsweredCall) : Type 0 where
  pub dealt : calls_told told ≡ dealt n number (to_be_told calls)
  pub known : IsTold s told
  pub turns : All (λ t. IsInTurn n (map called calls) (timed_of t)) told

-- so did each of these sessions
pub record HaveMade {X : Type 0} (n first : ℕ) (calls : List ScriptCall) (sessions : List SessionView) (told : List (Vec AnsweredCall X)) : Type 0 where
  pub long : length told ≡ length sessions
  pub each : (j : ℕ) (s : SessionView) (v : Vec AnsweredCall X) → At j s sessions → At j v told → HasMade n (first + j) calls s v.items

-- ---- a thread for each team

-- teams without sessions
abbrev pub AreVacant : List Team → Type 0
AreVacant teams = All (λ t. t.sessions.items ≡ []) teams

-- and with room for so many
abbrev pub AreRooms : ℕ → List Team → Type 0
AreRooms size teams = All (λ t. (t.sessions.items ≡ []) × (size ≤ vec_capacity t.sessions)) teams

-- the sessions are in the teams, so many in each, in their order
abbrev pub AreSeated : ℕ → List SessionView → List Team → Type 0
AreSeated size sessions teams = (i : ℕ) (t : Team) → At i t teams → t.sessions.items ≡ take size (drop (i * size) sessions)

-- the sessions of the team of this number were told nothing yet
abbrev pub IsNewTeam : {G C : Type 0} → Playground G C → ℕ → Team → Type 0
IsNewTeam ground number t = AreUntold ground.store.now (number * ground.together) t.sessions.items × (length t.sessions.items ≡ ground.together)

abbrev pub AreNewTeams : {G C : Type 0} → Playground G C → List Team → Type 0
AreNewTeams ground teams = (i : ℕ) (t : Team) → At i t teams → IsNewTeam ground i t

-- the sessions of the team of this number made their calls, and were told this, unless memory ran out
pub record HasPlayed {G C : Type 0} (ground : Playground G C) (number : ℕ) (t : Team) : Type 0 where
  pub team : AreTeam ground.store.now (number * ground.together) t.sessions.items
  pub size : length t.sessions.items ≡ ground.together
  pub made : IfOk t.told (λ v. HaveMade ground.sessions (number * ground.together) ground.calls.now t.sessions.items v.items)

abbrev pub HavePlayed : {G C : Type 0} → Playground G C → List Team → Type 0
HavePlayed ground teams = (i : ℕ) (t : Team) → At i t teams → HasPlayed ground i t

-- what each session of a team was told is behind what others were told, one after the other; memory ran out for neither
abbrev pub IsBehind : {X Y E F : Type 0} → Result (Vec AnsweredCall X) E → Result (Vec (Vec AnsweredCall X) Y) F → Vec AnsweredCall X → Type 0
IsBehind all told v = MatchResult all (λ a. MatchResult told (λ lists. v.items ≡ a.items ++ flat_map (λ list. list.items) lists.items) (λ _. ⊥)) (λ _. ⊥)

-- these sessions, of n, were told this of their calls, one behind the other
pub record WereTold (n : ℕ) (calls : List ScriptCall) (sessions : List SessionView) (told : List AnsweredCall) : Type 0 where
  pub dealt : calls_told told ≡ dealt_from n 0 (length sessions) (to_be_told calls)
  pub known : AreTold sessions told
  pub turns : All (λ t. IsInTurn n (map called calls) (timed_of t)) told
  pub steady : AreSteadyTo n (length sessions) (to_be_told calls) told

-- these sessions are back, the first of all, and were told this, unless memory ran out
pub record AreBack {G C X E : Type 0} (ground : Playground G C) (sessions : List SessionView) (told : Result (Vec AnsweredCall X) E) : Type 0 where
  pub team : AreTeam ground.store.now 0 sessions
  pub were : IfOk told (λ v. WereTold ground.sessions ground.calls.now sessions v.items)
