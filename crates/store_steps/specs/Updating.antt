-- An update as what its session does on the shelf, from its post to its answer.
use Rattle.std.specs.Prelude.{◌≡◌, ℕ, ◌<◌, List, [], Some}
use Rattle.ownlock.specs.declared.known.ShelfStep.{ShelfStep}
use Rattle.oplog.specs.Operations.{Operation}
use Rattle.oplog.specs.Sessions.{session}
use Rattle.combiner.specs.Desks.{BatchView, DeskView, posted}
use Rattle.combiner.specs.declared.slots.Reply.{Reply}
use Rattle.accounts.specs.Agreement.{desk_place}
use Rattle.accounts.specs.Moves.{unplaced}
use Rattle.replica.specs.Views.{RepliesView}
use Rattle.store_steps.specs.declared.deeds.Deed.{Deed}
use Rattle.store_steps.specs.declared.deeds.Deed.TheVariants.{Busy, Went, Collected}
use Rattle.store_steps.specs.declared.desks.Turn.{Turn}
use Rattle.store_steps.specs.declared.desks.Turn.TheVariants.{Collects, Combines as Claims, Waits as Idles}
use Rattle.store_steps.specs.AtDesk.{IsReady, IsTurn}
use Rattle.store_steps.specs.Doing.{ADesk, ChangesNothing, Did, Part, takes_and_puts}
use Rattle.store_steps.specs.Standing.{SessionKnown}
use Rattle.store_steps.specs.Whole.{AnswersBy, CombinesBy, HandsOver}

-- the session, of this slot of its node, took the desk of that node as x, put it back as y, and did nothing else
pub record AtItsDesk (k after : SessionKnown) (slot : ℕ) (x y : DeskView) : Type 0 where
  pub own : k.session ≡ session k.progress.config x.node slot
  pub within : slot < k.progress.config.slots
  pub did : Did k after (takes_and_puts (desk_place k.progress.config x.node) (ADesk x) (ADesk y))

-- there it posted this operation
pub record PostsBy (k after : SessionKnown) (op : Operation) : Type 0 where
  pub slot : ℕ
  pub desk : DeskView
  pub back : DeskView
  pub at : AtItsDesk k after slot desk back
  pub is : posted slot op desk ≡ Some back

-- there it had this turn: it collected its answer, or claimed this batch, or neither
pub record TurnsBy (k after : SessionKnown) (batch : BatchView) (turn : Turn) : Type 0 where
  pub slot : ℕ
  pub desk : DeskView
  pub back : DeskView
  pub at : AtItsDesk k after slot desk back
  pub is : IsTurn slot desk back batch turn

-- what a session does that waits for an answer: turns in vain, and batches that it claims and combines
pub data Rounds : SessionKnown → SessionKnown → Type 0 where
  Begins : (k : SessionKnown) → Rounds k k
  Waits : (k m after : SessionKnown) (batch : BatchView) → Rounds k m → TurnsBy m after batch Idles → Rounds k after
  Combines : (k m claimed after : SessionKnown) (batch answered : BatchView) → Rounds k m
      → TurnsBy m claimed batch Claims → CombinesBy claimed after batch answered → Rounds k after

-- the session made its rounds, and then collected this answer
pub record CompletesBy (k after : SessionKnown) (reply : Reply) : Type 0 where
  pub waited : SessionKnown
  pub rounds : Rounds k waited
  pub batch : BatchView
  pub collects : TurnsBy waited after batch (Collects reply)

-- a whole update of this operation
pub record UpdatesBy (k after : SessionKnown) (op : Operation) (reply : Reply) : Type 0 where
  pub asked : SessionKnown
  pub posts : PostsBy k asked op
  pub completes : CompletesBy asked after reply

-- ---- an update whose session waits for nobody

-- A deed of it that does not collect: a try in vain; a turn in vain; a turn at which it claims; the batch that it claimed is combined as far as
-- its answers; or the answers of a batch are handed over. By the batch that the session notes they come in this order: it looks or claims where it has
-- none, answers the one that it has claimed, hands over the one that has answers, and has none then.
pub data DeedBy (k after : SessionKnown) : Type 0 where
  Tries : (steps : List (ShelfStep Part)) → ChangesNothing steps → Did k after steps → after.note ≡ k.note
      → DeedBy k after
  Looks : (batch : BatchView) → k.note.batch ≡ [] → TurnsBy k after batch Idles → after.note ≡ k.note → DeedBy k after
  ClaimsIt : (batch : BatchView) → k.note.batch ≡ [] → TurnsBy k after batch Claims
      → after.note ≡ record k.note { batch = unplaced batch.records } → DeedBy k after
  Answers : (node : ℕ) (batch : BatchView) (kept : RepliesView) → k.note.batch ≡ unplaced batch.records
      → AnswersBy node k after batch kept
      → IsReady after batch kept → DeedBy k after
  Gives : (node : ℕ) (batch : BatchView) (kept : RepliesView) → IsReady k batch kept → HandsOver node k after batch kept
      → after.note ≡ record k.note { batch = [] } → DeedBy k after

-- so many of them, one after the other
pub data Deeds : SessionKnown → SessionKnown → Type 0 where
  Rests : (k : SessionKnown) → Deeds k k
  Then : (k m after : SessionKnown) → Deeds k m → DeedBy m after → Deeds k after

-- the session collects its answer
abbrev pub CollectsBy : SessionKnown → SessionKnown → Reply → Type 0
CollectsBy k after reply = (batch : BatchView) × TurnsBy k after batch (Collects reply)

-- one deed, by what became of it
abbrev pub DeedGoes : SessionKnown → SessionKnown → Deed → Type 0
DeedGoes k after Busy = DeedBy k after
DeedGoes k after Went = DeedBy k after
DeedGoes k after (Collected reply) = CollectsBy k after reply
