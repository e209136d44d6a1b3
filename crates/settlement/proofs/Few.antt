-- How many steps of a node's list are taken.
use Rattle.std.proofs.Common.{◌≡◌, ℕ, zero, suc, ◌+◌, ◌≤◌, ◌<◌, Bool, true, false, List, [], ◌∷◌, length, Option, Some, None, refl, sym, ap, ◌∙◌, inl, inr, ⊎_elim, arith, subst}
use Rattle.std.specs.Prelude.{slice_get, cond, option_map, ◌⊎◌, ◌&&◌, nat_le}
use Rattle.oplog.specs.declared.records.Op.TheVariants.{Run}
use Rattle.oplog.specs.History.{ReadEffect}
use Rattle.oplog.specs.Sessions.{session}
use Rattle.combiner.specs.declared.slots.Reply.{Reply as AReply}
use Rattle.combiner.specs.Desks.{Collection, collected}
use Rattle.replica.specs.StoreMeaning.{store_meaning}
use Rattle.node.specs.Following.{no_records, may_answer}
use Rattle.schedule.specs.Trace.{Updated, ReadBack, Back}
use Rattle.schedule.specs.Stands.{StageStands}
use Rattle.schedule.proofs.Export.{collected_is, of_store}
use Rattle.settlement.proofs.Handing.{HandsOut, HandsRead, collect_empties, read_empties}
use Rattle.std.specs.Option.{option_and_then}
use Rattle.std.proofs.lemmas.Bool.{false≢true}
use Rattle.std.proofs.lemmas.Option.{slice_get_within}
use Rattle.oplog.specs.Logs.{Log}
use Rattle.combiner.specs.declared.slots.Stage.{Stage}
use Rattle.combiner.specs.declared.slots.Stage.TheVariants.{Empty, Posted, Claimed, Answered}
use Rattle.node.specs.declared.parts.NodeBatch.{NodeBatch}
use Rattle.node.specs.declared.parts.NodeBatch.TheVariants.{Absent, Held, InLog}
use Rattle.node.specs.Steps.{Appends, Reclaims, Replies, next, is_in_log, may_append_batch}
use Rattle.schedule.specs.declared.parts.BegunRead.{BegunRead}
use Rattle.schedule.specs.declared.parts.Opening.{Opening}
use Rattle.schedule.specs.declared.steps.Step.{Step}
use Rattle.schedule.specs.declared.steps.Step.TheVariants.{Claim, Append, Replay, Finish, Reply, Collect, ReadAnswer, Reclaim, Rebase}
use Rattle.schedule.specs.Worlds.{NodeView, WorldView, own_of}
use Rattle.schedule.specs.Steps.{Took, put_part, part_of, node_of, took, world_after, seen_of, put_seen, read_at, with_read, with_call_or_back, session_of_slot}
use Rattle.schedule.specs.Taking.{IsStanding, IsOfStore}
use Rattle.settlement.specs.declared.calls.Taken.{Taken}
use Rattle.settlement.specs.Settling.{before_taken, taken_of, handing_out, settling}
use Rattle.settlement.proofs.OwnSteps.{Fact, Leads, Reaches, own_next, stands_on, the_store, node_after}
use Rattle.settlement.proofs.Lines.{Side, SideOf, IsBare, IsAbove, IsAtEnd, IsUp, HasRest, Any, NotLogged, HasRoomFor, LeavesRoomFor, IsFree, kind_of, no_kind, by_guard, replay_empties, rebase_lifts, replay_ends, finish_completes, replay_rest, reply_ends, reclaim_frees, append_logs, batch_ends, claim_takes}
use Rattle.node.proofs.Export.{get_some}

empty_no : (r : AReply) → Empty ≡ Answered r → ⊥
empty_no r is = absurd cc

module _ (m : Opening) (n : ℕ) where
  -- from the fact on no more than so many of these steps are taken
  pub record Costs (steps : List Step) (P : Fact) (k : ℕ) : Type 0 where
    pub most : (w : WorldView) → IsStanding (the_store m w) → Reaches w n P → length (taken_of m w steps) ≤ k

  costs_none : (P : Fact) → Costs [] P 0
  costs_none P = record { most = λ w x r. omega arith }

  one_more : (o : Option Took) (step : Step) (rest : List Taken) (k : ℕ) → length rest ≤ k → length (before_taken step o rest) ≤ suc k
  one_more None step rest k e = omega arith
  one_more (Some t) step rest k e = omega arith

  -- a step that may be taken
  then : {steps : List Step} {k : ℕ} (step : Step) (P R : Fact) → node_of step ≡ n → Leads m step P R → Costs steps R k → Costs (step ∷ steps) P (suc k)
  then {steps} {k} step P R is leads rest = record {
    most = λ w x r. one_more (took m w step) step (taken_of m (world_after w (took m w step)) steps) k
        (rest.most (world_after w (took m w step)) (stands_on m w step x) (own_next m w n step P R x is leads r));
  }

  -- and one that may not be
  not_taken : (w : WorldView) (step : Step) (node : NodeView) → slice_get w.nodes (node_of step) ≡ Some node → part_of m step w.log node ≡ None → took m w step ≡ None
  not_taken w step node at none =
      ap (λ o. option_and_then (λ k. option_map (put_part w (node_of step)) (part_of m step w.log k)) o) at ∙ ap (λ o. option_map (put_part w (node_of step)) o) none

  without : {steps : List Step} {k : ℕ} (step : Step) (P R : Fact) → node_of step ≡ n → Leads m step P R
      → ((g : Log) (node : NodeView) → IsOfStore m g node → P g node → part_of m step g node ≡ None) → Costs steps R k → Costs (step ∷ steps) P k
  without {steps} {k} step P R is leads none rest = record {
    most = λ w x r.
        let at = subst (λ j. slice_get w.nodes j ≡ Some r.0) (sym is) r.1 in
        let stays = not_taken w step r.0 at (none w.log r.0 (of_store (the_store m w) x (node_of step) r.0 at) r.2) in
        let fewer = rest.most (world_after w (took m w step)) (stands_on m w step x) (own_next m w n step P R x is leads r) in
        subst (λ (o : Option Took). length (before_taken step o (taken_of m (world_after w (took m w step)) steps)) ≤ k) (sym stays) fewer;
  }

  -- by two cases of the fact
  either : {steps : List Step} {k : ℕ} (P Q R : Fact) → ((g : Log) (node : NodeView) → P g node → Q g node ⊎ R g node) → Costs steps Q k → Costs steps R k → Costs steps P k
  either {steps} {k} P Q R split a b = record { most = λ w x r. ⊎_elim (λ q. a.most w x (r.0, r.1, q)) (λ q. b.most w x (r.0, r.1, q)) (split w.log r.0 r.2) }

  abbrev size : ℕ
  size = m.config.slots

  -- there is no batch
  abbrev NoBatch : Side
  NoBatch b t k d = k ≡ 0

  -- no batch, and room for what is posted
  abbrev RoomAlone : Side
  RoomAlone b t k d = (k ≡ 0) × HasRoomFor size size b t k d

  nothing_to_append : (g : Log) (node : NodeView) → IsOfStore m g node → IsUp RoomAlone g node → part_of m (Append n) g node ≡ None
  nothing_to_append g node x (empty, above, end, done, s) =
      ap (λ b. cond (may_append_batch b g (own_of node)) (Some (put_seen node (next m.catalogue Appends (seen_of g node)))) None) (no_kind node.batch s.0)

  nothing_to_reply : (g : Log) (node : NodeView) → IsOfStore m g node → IsUp NotLogged g node → part_of m (Reply n) g node ≡ None
  nothing_to_reply g node x (empty, above, end, done, s) = by (is_in_log node.batch) (outside node.batch s)
    where
      outside : (b : NodeBatch) → kind_of b ≤ 1 → is_in_log b ≡ false
      outside Absent l = refl
      outside (Held b) l = refl
      outside (InLog b) l = absurd (omega arith)

      by : (b : Bool) → b ≡ false → cond (b && (no_records node.hand.records && nat_le node.replica.tail g.done)) (Some (put_seen node (next m.catalogue Replies (seen_of g node)))) None ≡ None
      by false e = refl
      by true e = absurd (false≢true (sym e))

  -- ---- the slots

  -- an answer waits at the slot
  abbrev Waits : ℕ → Fact
  Waits s g node = HandsOut size s g node × ((c : Collection) × (collected s node.desk ≡ Some c))

  -- or none does
  abbrev Rests : ℕ → Fact
  Rests s g node = HandsOut size s g node × (collected s node.desk ≡ None)

  -- and no read was begun there
  abbrev NoRead : ℕ → Fact
  NoRead s g node = HandsRead size s g node × (read_at node s ≡ None)

  waits_or_rests : (s : ℕ) (g : Log) (node : NodeView) → HandsOut size s g node → Waits s g node ⊎ Rests s g node
  waits_or_rests s g node h = by (collected s node.desk) refl
    where
      by : (o : Option Collection) → collected s node.desk ≡ o → Waits s g node ⊎ Rests s g node
      by None e = inr (h, e)
      by (Some c) e = inl (h, (c, e))

  -- where an answer waits, no read was begun
  no_read_beside : (g : Log) (node : NodeView) → IsOfStore m g node → (s : ℕ) (c : Collection) → collected s node.desk ≡ Some c → read_at node s ≡ None
  no_read_beside g node x s c e =
      let k = collected_is s node.desk c e in
      let l = slice_get_within node.desk.slots s k.0 k.1 in
      let a = x.stands.desk.slots in
      let b = x.stands.desk.reads in
      let y = get_some node.reads s (omega arith) in
      ap (λ (o : Option (Option BegunRead)). option_and_then (λ r. r) o) y.1 ∙ none (k.0).count y.0 (k.0).stage k.2 (x.stands.seats s k.0 y.0 k.1 y.1)
    where
      none : (count : ℕ) (read : Option BegunRead) (st : Stage) → st ≡ Answered c.reply → StageStands m g.done x.history x.positions x.trace (session m.config x.number s) node.batch count st read → read ≡ None
      none count None st is p = refl
      none count (Some read) (Answered reply) is p = absurd p
      none count (Some read) Empty is p = absurd (empty_no c.reply is)
      none count (Some read) (Posted op) is p = absurd p
      none count (Some read) Claimed is p = absurd p

  collect_leads : (s : ℕ) → s < size → Leads m (Collect n s) (Waits s) (NoRead s)
  collect_leads s lt g node x (h, (c, e)) = (collect_empties m n s lt g node x h, reads_same (collected s node.desk) ∙ no_read_beside g node x s c e)
    where
      reads_same : (o : Option Collection) → read_at (node_after (option_map (λ (c : Collection). with_call_or_back (Back (session_of_slot node s) (Updated c.reply)) g (record node { desk = c.desk })) o) node) s ≡ read_at node s
      reads_same None = refl
      reads_same (Some c) = refl

  costs_hand : (s count : ℕ) → s + count ≡ size → Costs (handing_out n s count) (HandsOut size s) count
  costs_hand s zero e = costs_none (HandsOut size s)
  costs_hand s (suc count) e =
      let lt : s < size = omega arith in
      let rest = costs_hand (suc s) count (omega arith) in
      either (HandsOut size s) (Waits s) (Rests s) (waits_or_rests s)
      (then (Collect n s) (Waits s) (NoRead s) refl (collect_leads s lt)
      (without (ReadAnswer n s) (NoRead s) (HandsOut size (suc s)) refl (λ g node x p. read_empties m n s lt g node x p.0) (λ g node x p. none_read g node p.1) rest))
      (without (Collect n s) (Rests s) (HandsRead size s) refl (λ g node x p. collect_empties m n s lt g node x p.0) (λ g node x p. none_collected g node p.1)
      (then (ReadAnswer n s) (HandsRead size s) (HandsOut size (suc s)) refl (read_empties m n s lt) rest))
    where
      none_read : (g : Log) (node : NodeView) → read_at node s ≡ None → part_of m (ReadAnswer n s) g node ≡ None
      none_read g node none =
          ap (λ o. option_and_then (λ (read : BegunRead). cond (may_answer read.seen g.done (own_of node)) (option_map (λ (e : ReadEffect). with_call_or_back (Back (session_of_slot node s) (ReadBack (record { point = node.replica.tail; reply = e.reply }))) g (with_read node s None)) (store_meaning.read m.catalogue (Run read.call) node.replica.state)) None) o) none

      none_collected : (g : Log) (node : NodeView) → collected s node.desk ≡ None → part_of m (Collect n s) g node ≡ None
      none_collected g node none = ap (λ o. option_map (λ (c : Collection). with_call_or_back (Back (session_of_slot node s) (Updated c.reply)) g (record node { desk = c.desk })) o) none

  -- ---- the whole list

  weaken : {steps : List Step} {k : ℕ} (P Q : Fact) → ((g : Log) (node : NodeView) → P g node → Q g node) → Costs steps Q k → Costs steps P k
  weaken P Q f costs = record { most = λ w x r. costs.most w x (r.0, r.1, f w.log r.0 r.2) }

  -- a batch, from its append on, and before that
  costs_answer : {steps : List Step} {k : ℕ} (most : ℕ) → Costs steps (IsUp (IsFree size most)) k → Costs (Replay n ∷ Finish n ∷ Reply n ∷ steps) (HasRest (LeavesRoomFor size most)) (suc (suc (suc k)))
  costs_answer most rest =
      let S = LeavesRoomFor size most in
      then (Replay n) (HasRest S) (IsAtEnd S) refl (replay_rest m n S)
      (then (Finish n) (IsAtEnd S) (IsUp S) refl (finish_completes m n S)
      (then (Reply n) (IsUp S) (IsUp (IsFree size most)) refl (batch_ends m n most) rest))

  costs_run : {steps : List Step} {k : ℕ} (most : ℕ) → Costs steps (IsUp (IsFree size most)) k → Costs (Append n ∷ Replay n ∷ Finish n ∷ Reply n ∷ steps) (IsUp (HasRoomFor size most)) (suc (suc (suc (suc k))))
  costs_run most rest = then (Append n) (IsUp (HasRoomFor size most)) (HasRest (LeavesRoomFor size most)) refl (append_logs m n most) (costs_answer most rest)

  -- from the claim on
  abbrev claiming : List Step
  claiming = Claim n ∷ Append n ∷ Replay n ∷ Finish n ∷ Reply n ∷ handing_out n 0 size

  none_below : (g : Log) (node : NodeView) → IsUp (IsFree size 0) g node → HandsOut size 0 g node
  none_below g node up = (up, (λ j lt. absurd (omega arith)))

  costs_claim : Costs claiming (IsUp (IsFree size size)) (suc (suc (suc (suc (suc size)))))
  costs_claim =
      then (Claim n) (IsUp (IsFree size size)) (IsUp (HasRoomFor size 0)) refl (claim_takes m n size)
      (costs_run 0 (weaken (IsUp (IsFree size 0)) (HandsOut size 0) none_below (costs_hand 0 size (omega arith))))

  -- from the reclaim on: with a batch that may be claimed, and with none
  reclaim_alone : Leads m (Reclaim n) (IsUp NoBatch) (IsUp RoomAlone)
  reclaim_alone g node x (empty, above, end, done, s) =
      let up = reclaim_frees m n g node x (empty, above, end, done, (let is = s in omega arith)) in
      let none = by_guard m g node Reclaims (λ h new. kind_of new.batch ≡ 0) (λ e. s) (λ e. s) in
      (up.0, up.1, up.2, up.3, (none, up.4))

  costs_held : Costs (Reclaim n ∷ Append n ∷ Replay n ∷ Finish n ∷ Reply n ∷ claiming) (IsUp NotLogged) (size + 10)
  costs_held = subst (Costs (Reclaim n ∷ Append n ∷ Replay n ∷ Finish n ∷ Reply n ∷ claiming) (IsUp NotLogged)) (omega arith)
      (then (Reclaim n) (IsUp NotLogged) (IsUp (HasRoomFor size size)) refl (reclaim_frees m n) (costs_run size costs_claim))

  costs_alone : Costs (Reclaim n ∷ Append n ∷ Replay n ∷ Finish n ∷ Reply n ∷ claiming) (IsUp NoBatch) (size + 9)
  costs_alone = subst (Costs (Reclaim n ∷ Append n ∷ Replay n ∷ Finish n ∷ Reply n ∷ claiming) (IsUp NoBatch)) (omega arith)
      (then (Reclaim n) (IsUp NoBatch) (IsUp RoomAlone) refl reclaim_alone
      (without (Append n) (IsUp RoomAlone) (HasRest (LeavesRoomFor size size)) refl (λ g node x p. append_logs m n size g node x (p.0, p.1, p.2, p.3, p.4.1)) nothing_to_append
      (costs_answer size costs_claim)))

  -- from the reply on: the batch is in the log, or it isn't
  abbrev InTheLog : Side
  InTheLog b t k d = k ≡ 2

  logged_or_not : (g : Log) (node : NodeView) → IsUp Any g node → IsUp InTheLog g node ⊎ IsUp NotLogged g node
  logged_or_not g node (empty, above, end, done, s) = by node.batch
    where
      by : (b : NodeBatch) → IsUp InTheLog g (record node { batch = b }) ⊎ IsUp NotLogged g (record node { batch = b })
      by Absent = inr (empty, above, end, done, omega arith)
      by (Held b) = inr (empty, above, end, done, omega arith)
      by (InLog b) = inl (empty, above, end, done, refl)

  costs_reply : Costs (Reply n ∷ Reclaim n ∷ Append n ∷ Replay n ∷ Finish n ∷ Reply n ∷ claiming) (IsUp Any) (size + 10)
  costs_reply =
      let more : suc (size + 9) ≡ size + 10 = omega arith in
      either (IsUp Any) (IsUp InTheLog) (IsUp NotLogged) logged_or_not
      (subst (Costs (Reply n ∷ Reclaim n ∷ Append n ∷ Replay n ∷ Finish n ∷ Reply n ∷ claiming) (IsUp InTheLog)) more
      (then (Reply n) (IsUp InTheLog) (IsUp NoBatch) refl (reply_ends m n InTheLog NoBatch (λ b t d y s. refl) (λ b t k d le s. absurd (omega arith))) costs_alone))
      (without (Reply n) (IsUp NotLogged) (IsUp NotLogged) refl (reply_ends m n NotLogged NotLogged (λ b t d y s. absurd (omega arith)) (λ b t k d le s. le)) nothing_to_reply costs_held)

  pub costs_settling : Costs (settling n size) (SideOf Any) (size + 14)
  costs_settling = subst (Costs (settling n size) (SideOf Any)) (omega arith)
      (then (Replay n) (SideOf Any) (IsBare Any) refl (replay_empties m n Any)
      (then (Rebase n) (IsBare Any) (IsAbove Any) refl (rebase_lifts m n Any)
      (then (Replay n) (IsAbove Any) (IsAtEnd Any) refl (replay_ends m n Any)
      (then (Finish n) (IsAtEnd Any) (IsUp Any) refl (finish_completes m n Any) costs_reply))))
