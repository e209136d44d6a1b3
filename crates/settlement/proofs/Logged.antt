-- A batch that is in the log, and a node that is alone.
use Rattle.std.proofs.Common.{◌≡◌, ℕ, zero, suc, ◌+◌, ◌≤◌, true, List, [], ◌∷◌, ◌++◌, length, Option, Some, None, refl, sym, ap, ◌∙◌, arith, subst}
use Rattle.std.specs.Prelude.{slice_get, ◌&&◌, nat_le}
use Rattle.std.proofs.lemmas.Bool.{and_from, ltb-false, le-leb, false≢true}
use Rattle.std.proofs.lemmas.Option.{none-some, same_Some, slice_get_within}
use Rattle.oplog.specs.Logs.{Log}
use Rattle.combiner.specs.declared.slots.Stage.TheVariants.{Claimed, Answered}
use Rattle.combiner.specs.declared.slots.Slot.{Slot}
use Rattle.combiner.specs.declared.slots.Reply.{Reply as TheReply}
use Rattle.combiner.specs.Slots.{answered_slot, answered_stage}
use Rattle.combiner.specs.Desks.{DeskView, BatchView, first_author, answer_for, answered_from, replied}
use Rattle.node.specs.declared.parts.NodeBatch.{NodeBatch}
use Rattle.node.specs.declared.parts.NodeBatch.TheVariants.{Absent, Held, InLog}
use Rattle.node.specs.Following.{no_records}
use Rattle.node.specs.Answering.{answered_batch}
use Rattle.node.specs.Steps.{Finishes, Replies, is_in_log, reply_batch}
use Rattle.schedule.specs.declared.parts.Opening.{Opening}
use Rattle.schedule.specs.declared.steps.Step.{Step}
use Rattle.schedule.specs.declared.steps.Step.TheVariants.{Replay, Finish, Reply}
use Rattle.schedule.specs.Worlds.{NodeView, WorldView}
use Rattle.schedule.specs.Steps.{took, world_after, world_of, seen_of, put_seen}
use Rattle.schedule.specs.Stands.{batch_in}
use Rattle.schedule.specs.Taking.{IsStanding, IsOfStore}
use Rattle.settlement.specs.Others.{AreOfOthers, HasEnded, LoggedBatchesEnd}
use Rattle.schedule.proofs.Export.{claimed_has, of_store}
use Rattle.settlement.proofs.InTurn.{world_append}
use Rattle.settlement.proofs.OwnSteps.{Fact, Leads, GoesUp, Reaches, other_step, own_next, world_up, stands_on, the_store}
use Rattle.settlement.proofs.Lines.{Side, SideOf, IsBare, kind_of, as_claimed, replay_empties, by_guard}

-- ---- others in between

-- the fact holds whatever others do
abbrev Lasts : Fact → Type 0
Lasts P = (g h : Log) (node : NodeView) → P g node → GoesUp g h → P h node

others_keep : (m : Opening) (n : ℕ) (P : Fact) → Lasts P → (steps : List Step) (w : WorldView) → AreOfOthers n steps → IsStanding (the_store m w) → Reaches w n P
    → IsStanding (the_store m (world_of m w steps)) × Reaches (world_of m w steps) n P
others_keep m n P lasts [] w are x r = (x, r)
others_keep m n P lasts (step ∷ steps) w (ne, are) x r =
    others_keep m n P lasts steps (world_after w (took m w step)) are (stands_on m w step x)
    (r.0, other_step m w step n (λ e. ne (sym e)) ∙ r.1, lasts w.log (world_after w (took m w step)).log r.0 r.2 (world_up m w step x))

-- ---- the three steps

-- the batch is in the log, at this desk
abbrev Logged : DeskView → Side
Logged desk b t k d = (k ≡ 2) × (d ≡ desk)

-- and all that the replica has applied is completed
abbrev IsDone : DeskView → Fact
IsDone desk g node = (node.hand.records ≡ []) × (node.replica.tail ≤ g.done) × (kind_of node.batch ≡ 2) × (node.desk ≡ desk)

-- the batch is answered at that desk
abbrev IsAnswered : DeskView → Fact
IsAnswered desk g node = (node.batch ≡ Absent) × ((y : BatchView) × (node.desk ≡ replied y desk))

finish_done : (m : Opening) (n : ℕ) (desk : DeskView) → Leads m (Finish n) (IsBare (Logged desk)) (IsDone desk)
finish_done m n desk g node x (empty, logged) =
    by_guard m g node Finishes (IsDone desk)
    (λ e. (empty, omega arith, logged.0, logged.1))
    (λ e. (empty, ltb-false g.done node.replica.tail e, logged.0, logged.1))

in_log : (b : NodeBatch) → kind_of b ≡ 2 → is_in_log b ≡ true
in_log Absent e = absurd (omega arith)
in_log (Held b) e = absurd (omega arith)
in_log (InLog b) e = refl

reply_done : (m : Opening) (n : ℕ) (desk : DeskView) → Leads m (Reply n) (IsDone desk) (IsAnswered desk)
reply_done m n desk g node x (empty, done, logged, same) =
    by_guard m g node Replies (IsAnswered desk)
    (λ e. by node.batch logged)
    (λ e.
    let logs = in_log node.batch logged in
    let ready : (no_records node.hand.records && nat_le node.replica.tail g.done) ≡ true = and_from (no_records node.hand.records) (nat_le node.replica.tail g.done) (ap no_records empty) (le-leb node.replica.tail g.done done) in
    absurd (false≢true (sym e ∙ and_from (is_in_log node.batch) (no_records node.hand.records && nat_le node.replica.tail g.done) logs ready)))
  where
    by : (b : NodeBatch) → kind_of b ≡ 2 → IsAnswered desk (reply_batch b (seen_of g node)).log (put_seen node (reply_batch b (seen_of g node))).node
    by Absent e = absurd (omega arith)
    by (Held b) e = absurd (omega arith)
    by (InLog b) e = (refl, (answered_batch b.replies b.batch, ap (replied (answered_batch b.replies b.batch)) same))

-- ---- the slots then

answered_there : (a : ℕ) (b : BatchView) (xs : List Slot) (s : ℕ) (x : Slot) → slice_get xs s ≡ Some x → slice_get (answered_from a b xs) s ≡ Some (answered_slot (answer_for (a + s) b.records b.answers) x)
answered_there a b [] s x e = absurd (none-some x e)
answered_there a b (y ∷ xs) zero x e =
    let i : a ≡ a + 0 = omega arith in
    ap (λ k. Some (answered_slot (answer_for k b.records b.answers) y)) i ∙ ap (λ z. Some (answered_slot (answer_for (a + 0) b.records b.answers) z)) (same_Some y x e)
answered_there a b (y ∷ xs) (suc s) x e = let i : suc a + s ≡ a + suc s = omega arith in answered_there (suc a) b xs s x e ∙ ap (λ k. Some (answered_slot (answer_for k b.records b.answers) x)) i

-- a slot that was claimed has its answer, since none is claimed where there is no batch
has_answer : {m : Opening} {g : Log} {new : NodeView} → IsOfStore m g new → new.batch ≡ Absent → (y : BatchView) (desk : DeskView) → new.desk ≡ replied y desk
    → (s : ℕ) (x : Slot) → slice_get desk.slots s ≡ Some x → x.stage ≡ Claimed → (z : Slot) × (reply : TheReply) × (slice_get new.desk.slots s ≡ Some z) × (z.stage ≡ Answered reply)
has_answer {m} {g} {new} o absent y desk same s x at is = by (answer_for (first_author desk + s) y.records y.answers) (ap (λ (d : DeskView). slice_get d.slots s) same ∙ answered_there (first_author desk) y desk.slots s x at)
  where
    by : (a : Option TheReply) → slice_get new.desk.slots s ≡ Some (answered_slot a x) → (z : Slot) × (reply : TheReply) × (slice_get new.desk.slots s ≡ Some z) × (z.stage ≡ Answered reply)
    by (Some reply) there = (answered_slot (Some reply) x, reply, there, ap (answered_stage (Some reply)) is)
    by None there =
        let r = claimed_has new.desk.slots (first_author new.desk) s (answered_slot None x) there (ap (answered_stage None) is) in
        let l = slice_get_within _ r.0 _ r.1 in
        let count = as_claimed o in
        let none : length (batch_in new.batch).records ≡ 0 = ap (λ b. length (batch_in b).records) absent in
        absurd (omega arith)

pub logged_batches_end : LoggedBatchesEnd
logged_batches_end m w h positions t n node b first second third config x at is ones twos threes =
    let L : Side = Logged node.desk in
    let stands : IsStanding (the_store m w) = record { config = config; history = h; positions = positions; trace = t; stands = x } in
    let a = others_keep m n (SideOf L) (λ g k y p up. p) first w ones stands (node, at, (ap kind_of is, refl)) in
    let w1 : WorldView = world_of m w first in
    let v1 : WorldView = world_after w1 (took m w1 (Replay n)) in
    let c = others_keep m n (IsBare L) (λ g k y p up. p) second v1 twos (stands_on m w1 (Replay n) a.0) (own_next m w1 n (Replay n) (SideOf L) (IsBare L) a.0 refl (replay_empties m n L) a.1) in
    let w2 : WorldView = world_of m v1 second in
    let v2 : WorldView = world_after w2 (took m w2 (Finish n)) in
    let e = others_keep m n (IsDone node.desk) (λ g k y p up. (p.0, (let d = p.1 in let more = up.done in omega arith), p.2, p.3)) third v2 threes (stands_on m w2 (Finish n) c.0)
    (own_next m w2 n (Finish n) (IsBare L) (IsDone node.desk) c.0 refl (finish_done m n node.desk) c.1) in
    let w3 : WorldView = world_of m v2 third in
    let v3 : WorldView = world_after w3 (took m w3 (Reply n)) in
    let f = own_next m w3 n (Reply n) (IsDone node.desk) (IsAnswered node.desk) e.0 refl (reply_done m n node.desk) e.1 in
    let after = stands_on m w3 (Reply n) e.0 in
    let same : world_of m w (first ++ (Replay n ∷ (second ++ (Finish n ∷ (third ++ (Reply n ∷ [])))))) ≡ v3 =
    world_append m w first (Replay n ∷ (second ++ (Finish n ∷ (third ++ (Reply n ∷ [])))))
    ∙ (world_append m v1 second (Finish n ∷ (third ++ (Reply n ∷ []))) ∙ world_append m v2 third (Reply n ∷ [])) in
    subst (λ v. HasEnded v n node) (sym same)
    (record {
      new = f.0;
      there = f.1;
      batch = f.2.0;
      answered = λ s y there claimed. has_answer (of_store (the_store m v3) after n f.0 f.1) f.2.0 f.2.1.0 node.desk f.2.1.1 s y there claimed;
    })
