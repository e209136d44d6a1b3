-- What is kept while sessions make their calls. Clauses of private functions alone cite this.
use Rattle.std.specs.Prelude.{◌≡◌, ◌⊎◌, ℕ, Bool, true, false, ◌<◌, ◌≤◌, List, [], ◌∷◌, ◌++◌, map, length, slice_index_or, Option, Some, None, Result, Ok, Err, IfSome, MatchResult, count_by}
use Rattle.std.specs.Borrow.{Bor}
use Rattle.std.specs.List.{All, flat_map}
use Rattle.std.specs.List.Sorted.{IsPermutation}
use Rattle.loader.specs.CatalogueView.{CatalogueView, MayOpenOn, OpensOn}
use Rattle.loader.specs.StoreState.{StoreState}
use Rattle.text.specs.Digits.{field_bytes}
use Rattle.text.specs.declared.lines.TheConstants.{LINE_BYTES}
use Rattle.replica.specs.declared.refusals.StoreRefused.{StoreRefused}
use Rattle.store.specs.declared.answers.Answer.{Answer}
use Rattle.store_steps.specs.Views.{SessionView}
use Rattle.store.specs.Sessions.{StoreView, IsOf}
use Rattle.stress.specs.declared.calls.ScriptCall.{ScriptCall}
use Rattle.stress.specs.declared.calls.LineCall.{LineCall}
use Rattle.stress.specs.declared.calls.LineCall.TheVariants as lines
use Rattle.stress.specs.declared.calls.ScriptCalls.{ScriptCalls}
use Rattle.stress.specs.declared.calls.ScriptCalls.TheVariants as reads
use Rattle.scripts.specs.Script.{line_meaning}
use Rattle.stress.specs.Calls.{Called, asked_refusal, calls_said}
use Rattle.stress.specs.Dealt.{dealt_to, share_of}
use Rattle.accounts.specs.declared.sessions.Progress.{Progress}
use Rattle.accounts.specs.declared.sessions.AnsweredUpdate.{AnsweredUpdate}
use Rattle.accounts.specs.Accounts.{Extends}
use Rattle.ownlock.specs.Seats.{At}
use Rattle.oplog.specs.Operations.{Operation}
use Rattle.stress.specs.declared.lines.AnsweredCall.{AnsweredCall}
use Rattle.stress.specs.declared.lines.Said.{Said}
use Rattle.stress.specs.declared.lines.Said.TheVariants as told
use Rattle.stress.specs.declared.lines.WrittenCalls.{WrittenCalls}
use Rattle.stress.specs.declared.sharing.Left.{Left}
use Rattle.oplog.specs.declared.configuration.Config.{Config}
use Rattle.oplog.specs.Limits.{IsConfig}
use Rattle.stress.specs.Lines as said
use Rattle.stress.specs.Lines.{ToldCall, AreOrdered, AreSteady, at_rank, transcript_text}
use Rattle.stress.specs.Timed.{Timed, IsInTurn, AreCounted, timed_text}
use Rattle.stress.specs.OneHistory.{Asks, Holds, IsOfOneHistory, is_at}
use Rattle.stress.specs.Shown.{called, calls_told, said_of, to_be_told, told_of, timed_of}
use Rattle.stress.specs.Transcripts.{session_count}
use Rattle.running.specs.RunAnswer.{bad_line, state_of}
use Rattle.oplog.specs.History.{History}
use Rattle.stress.specs.declared.stressed.Stressed.{Stressed}
use Rattle.stress.specs.Runs.{IsOnly, IsRun}

-- what was told of a call is so in this history
abbrev pub IsSo : CatalogueView → ℕ → History → ToldCall → Type 0
IsSo c limit history t = (op : Operation) × Asks t.call op × Holds c limit history op t.said

-- how many of these were told the index i
abbrev pub lines_at : ℕ → List ToldCall → ℕ
lines_at i told = count_by (λ t. is_at i t.said) told

-- the calls of these told ones
abbrev pub calls_of : List ToldCall → List Called
calls_of told = map (λ t. t.call) told

-- the calls of a line
abbrev pub line_calls : CatalogueView → ℕ → List ℕ → Option (List Called)
line_calls c n line = calls_said c n line (line_meaning line)

-- the calls of a script, or its first bad line
abbrev pub IsScriptRun : Config → Bool → CatalogueView → Result (List Called) ℕ → Stressed → Type 0
IsScriptRun config timed c calls s = MatchResult calls (λ calls. IsRun config timed c calls s) (λ n. IsOnly (bad_line n) s)

-- a store of these sizes may open on the catalogue, and on this state if there is one
pub record MayOpen (config : Config) (c : CatalogueView) (state : Option (Bor StoreState)) : Type 0 where
  pub within : IsConfig config
  pub places : c.places ≡ config.spare
  pub long : c.long ≡ 0
  pub fits : IfSome state (λ s. MayOpenOn c s.now)
  pub opens : OpensOn c state

-- no session of a store of this catalogue is refused this call before it is made
pub record IsReady (c : CatalogueView) (call : ScriptCall) : Type 0 where
  pub short : length call.digits.now ≤ LINE_BYTES
  pub bytes : List ℕ
  pub spelled : field_bytes call.digits.now ≡ Some bytes
  pub ready : asked_refusal c call.asked bytes ≡ None

abbrev pub IsReadyLine : CatalogueView → LineCall → Type 0
IsReadyLine c lines.Bad = Unit {0}
IsReadyLine c lines.Comment = Unit {0}
IsReadyLine c (lines.Call call) = IsReady c call

abbrev pub AreReady : CatalogueView → ScriptCalls → Type 0
AreReady c (reads.Good v) = All (IsReady c) v.items
AreReady c (reads.Bad number) = Unit {0}

-- so many sessions of the store
abbrev pub AreIn : StoreView → ℕ → List SessionView → Type 0
AreIn store n sessions = (length sessions ≡ n) × All (IsOf store) sessions

-- each session has its index as its number
abbrev pub AreNumbered : List SessionView → Type 0
AreNumbered sessions = (k : ℕ) (d : SessionView) → k < length sessions → (slice_index_or sessions k d).session ≡ k

-- of what n sessions were told of these calls, one behind the other, the answers of each of the first m have their lines in its order
abbrev pub AreSteadyTo : ℕ → ℕ → List (Option Called) → List AnsweredCall → Type 0
AreSteadyTo n m calls told = (k : ℕ) → k < m → AreSteady (map told_of (share_of n k calls told))

-- ---- what the sessions were told, in the history that they know

-- what was told is so in the history of this progress
abbrev pub IsSoIn : Progress CatalogueView → ToldCall → Type 0
IsSoIn l t = IsSo l.catalogue l.config.limit l.history t

-- each answered update of the session has its record in this history, and one line
abbrev pub AreShown : Progress CatalogueView → SessionView → List ToldCall → Type 0
AreShown l s lines =
    (q : ℕ) (u : AnsweredUpdate) → At q u s.note.answered
    → At u.index (record { author = s.session; seq = q; op = u.op }) l.history × (lines_at u.index lines ≡ 1)

-- the session was answered an update at index i
abbrev pub HasAnswered : ℕ → SessionView → Type 0
HasAnswered i s = (q : ℕ) × (u : AnsweredUpdate) × At q u s.note.answered × (u.index ≡ i)

-- none of these answers has its line behind the first n operations
abbrev pub IsUpTo : ℕ → said.Said → Type 0
IsUpTo n (said.Updated index reply) = index < n
IsUpTo n (said.Seen point reply) = point ≤ n
IsUpTo n said.Ended = Unit {0}

-- the answer has its line after what was completed: an update after the whole history
abbrev pub IsBehind : Progress CatalogueView → said.Said → Type 0
IsBehind l (said.Updated index reply) = length l.history ≤ index
IsBehind l (said.Seen point reply) = l.completed ≤ point
IsBehind l said.Ended = Unit {0}

-- the answer has its line before what the session knows now, completed and not
abbrev pub IsBefore : Progress CatalogueView → said.Said → Type 0
IsBefore l answer = IsUpTo l.completed answer × IsUpTo (length l.history) answer

-- the session was told all this, and no more, and its answers have their lines in this order
pub record IsTold (s : SessionView) (told : List AnsweredCall) : Type 0 where
  pub so : All (IsSoIn s.progress) (map told_of told)
  pub before : All (λ t. IsBefore s.progress t.said) (map told_of told)
  pub steady : AreSteady (map told_of told)
  pub shown : AreShown s.progress s (map told_of told)
  pub only : (i : ℕ) → (lines_at i (map told_of told) ≡ 0) ⊎ HasAnswered i s

-- a session of the store that was told nothing yet
abbrev pub IsNew : StoreView → SessionView → Type 0
IsNew store s = IsOf store s × (s.note.answered ≡ [])

-- so many of them, numbered by their indexes
abbrev pub AreNew : StoreView → ℕ → List SessionView → Type 0
AreNew store n sessions = (length sessions ≡ n) × All (IsNew store) sessions × AreNumbered sessions

-- what a session is told of an update that was not refused early: its answer, or that the history has ended
abbrev pub update_said : Result Answer StoreRefused → Said
update_said (Ok a) = told.Updated a
update_said (Err e) = told.Ended

-- the answer to an update is in the session's note, with its reply, and its record is in the history
abbrev pub IsNoted : (old new : SessionView) → Said → Type 0
IsNoted old new (told.Updated a) = (op : Operation) × (new.note.answered ≡ old.note.answered ++ record { index = a.index; op = op; reply = a.reply } ∷ [])
    × At a.index (record { author = old.session; seq = length old.note.answered; op = op }) new.progress.history
IsNoted old new (told.Seen a) = new.note.answered ≡ old.note.answered
IsNoted old new told.Ended = new.note.answered ≡ old.note.answered

-- the session was told this by one call
pub record IsAsked (old new : SessionView) (t : AnsweredCall) : Type 0 where
  pub session : new.session ≡ old.session
  pub grown : Extends old.progress new.progress
  pub so : IsSoIn new.progress (told_of t)
  pub behind : IsBehind old.progress (said_of t.said)
  pub before : IsBefore new.progress (said_of t.said)
  pub noted : IsNoted old new t.said

-- all this is so in this history, each answered update of these sessions has one line, and there are no others
pub record AreToldIn (l : Progress CatalogueView) (sessions : List SessionView) (told : List AnsweredCall) : Type 0 where
  pub so : All (IsSoIn l) (map told_of told)
  pub shown : (k : ℕ) (s : SessionView) → At k s sessions → AreShown l s (map told_of told)
  pub only : (i : ℕ) → (lines_at i (map told_of told) ≡ 0) ⊎ ((k : ℕ) × (s : SessionView) × At k s sessions × HasAnswered i s)

-- `AreToldIn` in whatever has grown from what these sessions know, if each is numbered by its index
abbrev pub AreTold : List SessionView → List AnsweredCall → Type 0
AreTold sessions told =
    (l : Progress CatalogueView) → ((k : ℕ) (s : SessionView) → At k s sessions → Extends s.progress l × (s.session ≡ k)) → AreToldIn l sessions told

-- ---- what is left

-- the lines of a history
abbrev pub history_text : List Timed → List ℕ
history_text timed = flat_map timed_text timed

-- where one is kept
abbrev pub history_if : Bool → List Timed → List ℕ
history_if true timed = history_text timed
history_if false timed = []

-- what is written of these calls, in the order of their lines
pub record IsWritten (c : CatalogueView) (timed : Bool) (told : List AnsweredCall) (w : WrittenCalls) : Type 0 where
  pub lines : List AnsweredCall
  pub same : IsPermutation told lines
  pub ordered : AreOrdered (map told_of lines)
  pub stable : (r : ℕ) → at_rank r (map told_of lines) ≡ at_rank r (map told_of told)
  pub transcript : w.transcript.items ≡ transcript_text c (map told_of lines)
  pub history : w.history.items ≡ history_if timed (map timed_of lines)
  pub counts : AreCounted (map told_of lines) w.counts

-- one history is behind these calls, and this is the state after it
abbrev pub EndsIn : CatalogueView → ℕ → StoreState → List AnsweredCall → Type 0
EndsIn c limit state told = (of_one : IsOfOneHistory c limit (map told_of told)) × (state ≡ state_of c of_one.history)

-- what the sessions of a store of these sizes and this catalogue were told of these calls, in what is left of it
pub record IsLeft (config : Config) (c : CatalogueView) (timed : Bool) (calls : List ScriptCall) (left : Left) : Type 0 where
  pub told : List AnsweredCall
  pub in_turn : calls_told told ≡ dealt_to (session_count config) (to_be_told calls)
  pub turns : All (λ t. IsInTurn (session_count config) (map called calls) (timed_of t)) told
  pub steady : AreSteadyTo (session_count config) (session_count config) (to_be_told calls) told
  pub written : IsWritten c timed told left.written
  pub ends : EndsIn c config.limit left.state told
