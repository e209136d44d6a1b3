-- Whole calls as lists of the node's steps: what a session sees when it takes each, and what others do between them.
use Rattle.std.specs.Prelude.{◌≡◌, ◌≤◌, Bool, true, false, ℕ, List, [], ◌∷◌, ◌++◌, cond, length, min, nat_lt}
use Rattle.loader.specs.CatalogueView.{CatalogueView}
use Rattle.ownlock.specs.declared.known.ShelfStep.{ShelfStep}
use Rattle.ownlock.specs.declared.known.ShelfStep.TheVariants.{Took, Put, Read, Raised}
use Rattle.ownlock.specs.Seats.{tails_in}
use Rattle.oplog.specs.Logs.{Log as LogView, left_of, room_in}
use Rattle.oplog.specs.History.{History}
use Rattle.oplog.specs.Operations.{Operation}
use Rattle.oplog.specs.Sessions.{IsSessionOf}
use Rattle.combiner.specs.Desks.{BatchView, DeskView, IsBatchOf, replied}
use Rattle.replica.specs.Views.{RepliesView}
use Rattle.readpath.specs.declared.reading.ReadAnswer.{ReadAnswer}
use Rattle.accounts.specs.declared.sessions.Progress.{Progress}
use Rattle.accounts.specs.Accounts.{Extends}
use Rattle.accounts.specs.Agreement.{desk_place, log_place, replica_place}
use Rattle.accounts.specs.Moves.{unplaced}
use Rattle.node.specs.Answering.{answered_batch}
use Rattle.node.specs.Following.{grown, may_answer, may_rebase, reclaimed, told}
use Rattle.node.specs.declared.following.NodeReplica.{NodeReplica}
use Rattle.node.specs.declared.parts.NodeBatch.{NodeBatch}
use Rattle.node.specs.declared.parts.NodeBatch.TheVariants.{Absent, Held, InLog}
use Rattle.node.specs.Seen.{Goes, with_word}
use Rattle.node.specs.Steps.{NodeStep, Appends, Replays, Finishes, Reclaims, Rebases, Replies, Seen}
use Rattle.store_steps.specs.Doing.{ADesk, ALog, AReplica, ChangesNothing, Did, Part, takes_and_puts}
use Rattle.store_steps.specs.Rooms.{IsBaseDue}
use Rattle.store_steps.specs.Views.{RepliesThere}
use Rattle.store_steps.specs.Standing.{SessionKnown, Agrees, IsLogOf}

-- what a session sees that knows this progress: the log with the completed tail, the replica and the batch as it has them, and a desk
abbrev pub sees : Progress CatalogueView → LogView → NodeReplica → NodeBatch → DeskView → Seen
sees l g n b d = record { log = with_word l.completed g; own = n; batch = b; desk = d }

-- ---- how a node goes on

-- how a replica catches up: it applies what it lacks of the log, or nothing; then what it has applied is completed, unless others have
-- completed it
pub data CatchUp : Type 0 where
  Stayed : CatchUp
  Applied : CatchUp
  Completed : CatchUp
  AppliedAndCompleted : CatchUp

-- how a session made room in the log g for so many records, of those that the history may still have; n is the replica of its node
pub data RoomMade (want : ℕ) (g : LogView) (n : NodeReplica) : Type 0 where
  -- there was room
  HadRoom : min want (left_of g) ≤ room_in g → RoomMade want g n
  -- another base was due: the replica caught up, and became the base
  MovedBase : IsBaseDue want g n → CatchUp → RoomMade want g n

-- ---- the steps of that

-- a replica below the log's base becomes the base
abbrev pub rebase_steps : LogView → NodeReplica → List NodeStep
rebase_steps g n = cond (may_rebase g n) (Rebases ∷ []) []

abbrev pub catch_up_steps : CatchUp → List NodeStep
catch_up_steps Stayed = []
catch_up_steps Applied = Replays ∷ []
catch_up_steps Completed = Finishes ∷ []
catch_up_steps AppliedAndCompleted = Replays ∷ Finishes ∷ []

-- a replica below the base becomes the base, and catches up
abbrev pub read_steps : LogView → NodeReplica → CatchUp → List NodeStep
read_steps g n up = rebase_steps g n ++ catch_up_steps up

module _ {want : ℕ} {g : LogView} {n : NodeReplica} where
  -- a replica below the base becomes the base; if another base was due, the replica catches up then, and becomes that base
  abbrev pub room_steps : RoomMade want g n → List NodeStep
  room_steps (HadRoom enough) = rebase_steps g n
  room_steps (MovedBase due up) = read_steps g n up ++ Reclaims ∷ []

  -- room is made, and the batch is appended
  abbrev pub append_steps : RoomMade want g n → List NodeStep
  append_steps room = room_steps room ++ Appends ∷ []

  -- room is made, the batch is appended, and the replica catches up
  abbrev pub answer_steps : RoomMade want g n → CatchUp → List NodeStep
  answer_steps room up = append_steps room ++ catch_up_steps up

  -- `answer_steps`, and then the answers are handed over
  abbrev pub combine_steps : RoomMade want g n → CatchUp → List NodeStep
  combine_steps room up = append_steps room ++ (catch_up_steps up ++ Replies ∷ [])

-- ---- what is done on the shelf

module _ {want : ℕ} {g : LogView} {n : NodeReplica} where
  -- the log once there is room: if another base was due, it is this replica
  abbrev pub with_room : RoomMade want g n → NodeReplica → LogView
  with_room (HadRoom enough) base = g
  with_room (MovedBase due up) base = reclaimed base (told base g)

  -- if another base was due, what that replica has applied is completed first; the log is h then
  abbrev pub room_deeds : RoomMade want g n → LogView → List (ShelfStep Part)
  room_deeds (HadRoom enough) h = []
  room_deeds (MovedBase due up) h = Raised h.base ∷ []

  -- the log is taken, and put back as h
  abbrev pub append_deeds : RoomMade want g n → LogView → List (ShelfStep Part)
  append_deeds room h = Took log_place (ALog g) ∷ (room_deeds room h ++ Put log_place (ALog h) ∷ [])

  -- while the replica of this place is held, the log is; then what the replica has applied is completed, and it is put back as m
  abbrev pub answer_deeds : ℕ → RoomMade want g n → (h : LogView) → (m : NodeReplica) → List (ShelfStep Part)
  answer_deeds place room h m = Took place (AReplica n) ∷ (append_deeds room h ++ Raised m.replica.tail ∷ Put place (AReplica m) ∷ [])

-- a replica that lacks something takes the log, and puts it back as it was; what it has applied is completed, once it is m
abbrev pub follow_deeds : (lacks : Bool) → LogView → NodeReplica → List (ShelfStep Part)
follow_deeds true g m = Took log_place (ALog g) ∷ Put log_place (ALog g) ∷ Raised m.replica.tail ∷ []
follow_deeds false g m = []

-- the replica n of this place is taken, the completed tail is loaded, the replica comes up to m, and it is put back
abbrev pub look_deeds : ℕ → (loaded : ℕ) → LogView → (n m : NodeReplica) → List (ShelfStep Part)
look_deeds place loaded g n m =
    Took place (AReplica n) ∷ Read loaded ∷ (follow_deeds (nat_lt n.replica.tail loaded) g m ++ Put place (AReplica m) ∷ [])

-- ---- what a session found, and what it left

-- the log as it found it, by a progress that has grown from what it knew, and as it is by what the session knows then
pub record BetweenLogs (k after : SessionKnown) : Type 0 where
  pub from : Progress CatalogueView
  pub since : Extends k.progress from
  pub log : LogView
  pub back : LogView
  pub log_is : IsLogOf from log
  pub back_is : IsLogOf after.progress back

-- `BetweenLogs`, and the replica of the session's node
pub record BetweenReplicas (k after : SessionKnown) : Type 0 where
  pub logs : BetweenLogs k after
  pub open logs use *
  pub own : NodeReplica
  pub left : NodeReplica
  pub own_is : Agrees from own
  pub left_is : Agrees after.progress left

-- ---- what the inner calls do, of which the session k is after then

-- while it holds the log, the session has made room for so many records: g and n are h and m now
pub record MakesRoom (want : ℕ) (k after : SessionKnown) (g h : LogView) (n m : NodeReplica) : Type 0 where
  pub room : RoomMade want g n
  pub goes : (b : BatchView) (d : DeskView) → Goes k.progress.catalogue (sees k.progress g n (Held b) d) (room_steps room) (sees after.progress h m (Held b) d)
  pub is : h ≡ with_room room m
  pub did : Did k after (room_deeds room h)

-- the session has taken the log, appended the batch, and put the log back
pub record AppendsBy (k after : SessionKnown) (b : BatchView) (n m : NodeReplica) (kept : RepliesView) : Type 0 where
  pub logs : BetweenLogs k after
  pub open logs use *
  pub room : RoomMade (length b.records) log n
  pub goes : (d : DeskView) → Goes k.progress.catalogue (sees from log n (Held b) d) (append_steps room) (sees after.progress back m (InLog (record { batch = b; replies = kept })) d)
  pub base : NodeReplica
  pub is : back ≡ grown b.records (with_room room base)
  pub did : Did k after (append_deeds room back)

-- so it has of any batch that has these records
abbrev pub AppendsAny : SessionKnown → SessionKnown → History → (n m : NodeReplica) → RepliesView → Type 0
AppendsAny k after records n m kept = (batch : BatchView) → batch.records ≡ records → AppendsBy k after batch n m kept

-- the session has replayed what was copied, and completed it, while others may have had the log, which was g
pub record ReplaysBy (k after : SessionKnown) (g : LogView) (n m : NodeReplica) (old new : RepliesView) : Type 0 where
  pub log : LogView
  pub log_is : IsLogOf after.progress log
  pub up : CatchUp
  pub goes : (b : BatchView) (d : DeskView) → Goes k.progress.catalogue (sees k.progress g n (InLog (record { batch = b; replies = old })) d) (catch_up_steps up)
      (sees after.progress log m (InLog (record { batch = b; replies = new })) d)
  pub did : Did k after (Raised m.replica.tail ∷ [])

-- whatever log agrees with what the session knew
abbrev pub ReplaysAnywhere : (k after : SessionKnown) → (n m : NodeReplica) → (old new : RepliesView) → Type 0
ReplaysAnywhere k after n m old new = (g : LogView) → IsLogOf k.progress g → ReplaysBy k after g n m old new

-- It has handed over the answers of the batch at the desk of this node, its own, where only its requests are claimed. That is a step of the node,
-- whatever log and replica agree with what the session knew.
pub record HandsOver (node : ℕ) (k after : SessionKnown) (b : BatchView) (kept : RepliesView) : Type 0 where
  pub desk : DeskView
  pub there : desk.node ≡ node
  pub mine : IsSessionOf k.progress.config desk.node k.session
  pub claimed : IsBatchOf desk b
  pub goes : (g : LogView) (n : NodeReplica) → IsLogOf k.progress g → Agrees k.progress n → (log : LogView) × IsLogOf after.progress log
      × Goes k.progress.catalogue (sees k.progress g n (InLog (record { batch = b; replies = kept })) desk) (Replies ∷ [])
      (sees after.progress log n Absent (replied (answered_batch kept b) desk))
  pub did : Did k after (takes_and_puts (desk_place k.progress.config node) (ADesk desk) (ADesk (replied (answered_batch kept b) desk)))

-- a replica that lacks something has been brought up to the log, and another has stayed
pub record FollowsBy (lacks : Bool) (k after : SessionKnown) (n m : NodeReplica) : Type 0 where
  pub logs : BetweenLogs k after
  pub open logs use *
  pub up : CatchUp
  pub goes : (d : DeskView) → Goes k.progress.catalogue (sees from log n Absent d) (read_steps log n up) (sees after.progress back m Absent d)
  pub did : Did k after (follow_deeds lacks log m)
  pub stays : lacks ≡ false → m ≡ n

-- ---- what the whole calls do

-- what a combine found, did and left as far as its answers: the log and the replica as the session took them and put them back
pub record Combined (k after : SessionKnown) (b : BatchView) : Type 0 where
  pub ends : BetweenReplicas k after
  pub open ends use *
  pub room : RoomMade (length b.records) log own
  pub up : CatchUp
  -- the log was put back with the batch, and with another base only if that was due
  pub base : NodeReplica
  pub put : LogView
  pub put_is : put ≡ grown b.records (with_room room base)
  -- the tries in vain of the session
  pub tries : List (ShelfStep Part)
  pub nothing : ChangesNothing tries

-- a combine as far as its answers, with the replica of this node, its own: the batch b is appended, replayed and completed, and the replica that did
-- it is put back; except for tries in vain the session took, put back and completed nothing else
pub record AnswersBy (node : ℕ) (k after : SessionKnown) (b : BatchView) (kept : RepliesView) : Type 0 where
  pub mine : IsSessionOf k.progress.config node k.session
  pub combined : Combined k after b
  pub open combined use *
  pub goes : (d : DeskView) → Goes k.progress.catalogue (sees from log own (Held b) d) (answer_steps room up)
      (sees after.progress back left (InLog (record { batch = b; replies = kept })) d)
  pub did : Did k after (tries ++ answer_deeds (replica_place k.progress.config node) room put left)

-- a combine of the batch b, whose requests the session had claimed: from the log and the replica as the session took them, to its answers at the
-- desk of the session's own node, as it took that desk; just these requests are claimed there. Except for tries in vain the session took, put
-- back and completed nothing else.
pub record CombinesBy (k after : SessionKnown) (b answered : BatchView) : Type 0 where
  pub noted : k.note.batch ≡ unplaced b.records
  pub combined : Combined k after b
  pub open combined use *
  pub kept : RepliesView
  pub answers : answered ≡ answered_batch kept b
  pub desk : DeskView
  pub mine : IsSessionOf k.progress.config desk.node k.session
  pub claimed : IsBatchOf desk b
  pub goes : Goes k.progress.catalogue (sees from log own (Held b) desk) (combine_steps room up) (sees after.progress back left Absent (replied (answered_batch kept b) desk))
  pub did : Did k after (tries ++ (answer_deeds (replica_place k.progress.config desk.node) room put left
      ++ takes_and_puts (desk_place k.progress.config desk.node) (ADesk desk) (ADesk (replied (answered_batch kept b) desk))))

-- of all completed tails that the session loaded in the meantime, `seen` is the first
pub record LoadsFirst (k after : SessionKnown) : Type 0 where
  pub seen : ℕ
  pub more : List ℕ
  pub read : tails_in after.steps ≡ tails_in k.steps ++ seen ∷ more

-- what a look does on the shelf: after tries in vain the session takes the replica of its own node, and loads the completed tail. It takes the log if
-- and only if that replica is below the loaded tail. Another replica stays as it was.
pub record LooksOnShelf (k after : SessionKnown) (log : LogView) (own left : NodeReplica) : Type 0 where
  pub node : ℕ
  pub mine : IsSessionOf k.progress.config node k.session
  pub tries : List (ShelfStep Part)
  pub nothing : ChangesNothing tries
  pub loaded : ℕ
  pub did : Did k after (tries ++ look_deeds (replica_place k.progress.config node) loaded log own left)
  pub stays : nat_lt own.replica.tail loaded ≡ false → left ≡ own

-- a look at its node's replica, at this point of the history: the completed tail is loaded, and a replica below it catches up with the log; then
-- a read may be answered there, at the replica's own tail
pub record LooksBy (k after : SessionKnown) (point : ℕ) : Type 0 where
  pub loads : LoadsFirst k after
  pub open loads use *
  pub ends : BetweenReplicas k after
  pub open ends use *
  pub begun : seen ≤ from.completed
  pub up : CatchUp
  pub goes : (d : DeskView) → Goes k.progress.catalogue (sees from log own Absent d) (read_steps log own up) (sees after.progress back left Absent d)
  pub may : may_answer seen after.progress.completed left ≡ true
  pub at : point ≡ left.replica.tail
  pub shelf : LooksOnShelf k after log own left
  pub open shelf use *

-- a read: it looks, and answers with the reply of there
abbrev pub ReadsBy : (k after : SessionKnown) → Operation → ReadAnswer → Type 0
ReadsBy k after op answer = (by : LooksBy k after answer.point) × RepliesThere k.progress.catalogue op by.left answer.reply
