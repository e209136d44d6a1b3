-- What is kept while a script is run.
use Rattle.std.specs.Prelude.{◌≡◌, ℕ, ◌+◌, ◌<◌, Bool, true, false, List, ◌++◌, length, Option, Some, None, option_map, Result, IfOk, OnOk}
use Rattle.std.specs.Option.{option_map_or}
use Rattle.verifier.specs.declared.refusal.Mode.{Mode}
use Rattle.loader.specs.StoreState.{StoreState, sizes_of}
use Rattle.machine.specs.declared.running.Outcome.{Outcome}
use Rattle.loader.specs.CatalogueView.{CatalogueView, longest_part, sizes_for, opening_state}
use Rattle.oplog.specs.Operations.{Operation}
use Rattle.oplog.specs.Logs.{tail_of}
use Rattle.oplog.specs.History.{Effect, History, after}
use Rattle.replica.specs.StoreMeaning.{outcome_of, store_meaning}
use Rattle.replica.specs.Refusals.{IsRoomFor}
use Rattle.replica.specs.declared.refusals.StoreRefused.TheVariants.{UnknownProgram}
use Rattle.running.specs.declared.single_node.SingleNode.{SingleNode}
use Rattle.engine.specs.declared.replies.Verdict.{Verdict}
use Rattle.engine.specs.declared.replies.Verdict.TheVariants as verdicts
use Rattle.engine.specs.Answer.{Answer}
use Rattle.scripts.specs.Script.{Meaning}
use Rattle.running.specs.RunAnswer.{Turn, called, taken, numbered, performed, refused, line_turn, behind}
use Rattle.running.specs.Signed.{signed_text}
use Rattle.running.specs.KeptRun.{KeptRun}

-- the whole history is completed, and the replica has applied it; the log's base is the replica's state where it is as far. There is room
-- for what is too long for a record, and for the next record
pub record IsSteady (c : CatalogueView) (n : SingleNode) : Type 0 where
  pub completed : n.log.done ≡ tail_of n.log
  pub base_sizes : sizes_of n.log.base_state ≡ sizes_for c
  pub base : n.log.base ≡ n.own.replica.tail → n.log.base_state ≡ n.own.replica.state
  pub window : n.own.hand.window ≡ n.log.window
  pub long : (n.log.long ≡ longest_part c) × (n.own.hand.long ≡ n.log.long)
  pub next : (n.next.long ≡ n.log.long) × (n.next.room ≡ 1)
  pub tail : n.own.replica.tail ≡ tail_of n.log
  pub sizes : sizes_of n.own.replica.state ≡ sizes_for c
  pub room : IsRoomFor c.shapes c.long n.room

-- the node has this history behind it, of so many updates at most: their number, and the state that they leave
pub record Follows (limit : ℕ) (c : CatalogueView) (h : History) (n : SingleNode) : Type 0 where
  pub limit_is : n.log.limit ≡ limit
  pub count : tail_of n.log ≡ length h
  pub state : n.own.replica.state ≡ after store_meaning c (opening_state c) h

-- the node applied one more operation, and answered this
pub record IsUpdated (c : CatalogueView) (op : Operation) (old new : SingleNode) (o : Outcome) : Type 0 where
  pub room : tail_of old.log < old.log.limit
  pub limit : new.log.limit ≡ old.log.limit
  pub tail : tail_of new.log ≡ tail_of old.log + 1
  pub done : Effect StoreState
  pub takes : store_meaning.update c op old.own.replica.state ≡ Some done
  pub outcome : o ≡ outcome_of done
  pub state : new.own.replica.state ≡ done.left

-- the history has all its operations, and nothing was applied
pub record HasEnded (old new : SingleNode) : Type 0 where
  pub full : tail_of old.log ≡ old.log.limit
  pub limit : new.log.limit ≡ old.log.limit
  pub tail : tail_of new.log ≡ tail_of old.log
  pub replica : new.own.replica ≡ old.own.replica

-- a turn was taken: its text stands behind what was written, and its history is the node's
pub record IsTaken (limit : ℕ) (c : CatalogueView) (turn : Turn) (n : SingleNode) (old new : List ℕ) : Type 0 where
  pub written : new ≡ old ++ turn.text
  pub placed : Follows limit c turn.history n

-- from any history that the node has behind it, its turn is taken, unless memory runs out
abbrev pub TakesTurn : {A E : Type 0} → CatalogueView → (ℕ → History → Turn) → SingleNode → SingleNode → List ℕ → List ℕ → Result A E → Type 0
TakesTurn c turn node after old new r = (limit : ℕ) (h : History) → Follows limit c h node → OnOk r (IsTaken limit c (turn limit h) after old new)

-- the turn of an operation, as an update or as a read
abbrev pub TakesOperation : {A E : Type 0} → CatalogueView → Operation → Mode → SingleNode → SingleNode → List ℕ → List ℕ → Result A E → Type 0
TakesOperation c op mode = TakesTurn c (λ limit h. performed limit c h op mode)

-- the turn of a call of the program of this name with this argument
abbrev pub TakesCall : {A E : Type 0} → CatalogueView → (name argument : List ℕ) → SingleNode → SingleNode → List ℕ → List ℕ → Result A E → Type 0
TakesCall c name argument = TakesTurn c (λ limit h. called limit c h (record { name = name; argument = argument }))

-- the turn of a call of the program of this number, if there is one
abbrev pub TakesNumbered : {A E : Type 0} → CatalogueView → List ℕ → Option ℕ → SingleNode → SingleNode → List ℕ → List ℕ → Result A E → Type 0
TakesNumbered c argument number = TakesTurn c (λ limit h. option_map_or (numbered limit c h argument) number (refused h UnknownProgram))

-- what a line does was done, and the line is good; or it is bad
abbrev pub LineTaken : ℕ → CatalogueView → Option Turn → Bool → SingleNode → List ℕ → List ℕ → Type 0
LineTaken limit c None good n old new = (good ≡ false) × (new ≡ old)
LineTaken limit c (Some turn) good n old new = (good ≡ true) × IsTaken limit c turn n old new

-- `LineTaken` of what was said, and of a line, from any history of the node, unless memory runs out
abbrev pub TakesMeaning : {E : Type 0} → CatalogueView → Option Meaning → SingleNode → SingleNode → List ℕ → List ℕ → Result Bool E → Type 0
TakesMeaning c said node after old new r =
    (limit : ℕ) (h : History) → Follows limit c h node → IfOk r (λ good. LineTaken limit c (option_map (taken limit c h) said) good after old new)

abbrev pub TakesLine : {E : Type 0} → CatalogueView → List ℕ → SingleNode → SingleNode → List ℕ → List ℕ → Result Bool E → Type 0
TakesLine c line node after old new r =
    (limit : ℕ) (h : History) → Follows limit c h node → IfOk r (λ good. LineTaken limit c (line_turn limit c h line) good after old new)

-- this answer stands behind what was written, and its verdict is told, unless memory runs out
abbrev pub AnswersBehind : {E : Type 0} → List ℕ → List ℕ → Result Verdict E → Answer → Type 0
AnswersBehind old new r a = IfOk r (λ verdict. record { text = new; verdict = verdict } ≡ behind old a)

-- with signed numbers beside its replies
abbrev pub with_signs : KeptRun → KeptRun
with_signs k = record k { answer = record k.answer { text = signed_text k.answer.text } }

-- all lines are good, and the node has the history behind it that they left; or one is bad
abbrev pub HasLeft : ℕ → CatalogueView → SingleNode → Option History → Verdict → Type 0
HasLeft limit c n None verdict = verdict ≡ verdicts.Refused
HasLeft limit c n (Some h) verdict = (verdict ≡ verdicts.Good) × Follows limit c h n
