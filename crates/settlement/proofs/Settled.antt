-- A node's list of steps, as a whole.
use Rattle.std.proofs.Common.{◌≡◌, ◌≢◌, ℕ, zero, suc, ◌+◌, List, [], ◌∷◌, refl, ◌∙◌, inl, inr, ⊎_elim, arith, subst}
use Rattle.std.specs.Prelude.{slice_get}
use Rattle.oplog.specs.Logs.{Log}
use Rattle.schedule.specs.declared.parts.Opening.{Opening}
use Rattle.schedule.specs.declared.steps.Step.{Step}
use Rattle.schedule.specs.declared.steps.Step.TheVariants.{Claim, Append, Replay, Finish, Reply, Collect, ReadAnswer, Reclaim, Rebase}
use Rattle.schedule.specs.Worlds.{NodeView, WorldView}
use Rattle.schedule.specs.Steps.{node_of, part_of, took, world_after, world_of}
use Rattle.schedule.specs.Taking.{IsStanding}
use Rattle.settlement.specs.Settling.{handing_out, settling, NodesSettleAlone}
use Rattle.settlement.specs.Others.{Woven, Ends, Own, OthersMove, Here, Later, NodesSettleOrOthersMove}
use Rattle.settlement.proofs.OwnSteps.{Fact, Stays, Leads, Chain, Stops, Then, walk, log_after, node_after, the_store, stands_on, other_step}
use Rattle.settlement.proofs.Lines.{SideOf, IsBare, IsAbove, IsAtEnd, IsUp, HasRest, Any, NotLogged, HasRoomFor, LeavesRoomFor, IsFree, any_stays, bare_stays, above_stays, end_stays, up_stays, rest_stays, replay_empties, rebase_lifts, replay_ends, finish_completes, replay_rest, reply_ends, reclaim_frees, append_logs, batch_ends, claim_takes}
use Rattle.settlement.proofs.NodeLists.{AreOwn, settling_own}
use Rattle.settlement.proofs.Few.{costs_settling}
use Rattle.settlement.proofs.Handing.{HandsOut, HandsRead, hands_stay, hands_read_stay, collect_empties, read_empties}
use Rattle.node.proofs.Export.{get_some}

module _ (m : Opening) (n : ℕ) where
  abbrev size : ℕ
  size = m.config.slots

  -- the answers go out, from slot s on
  hands_out : (s count : ℕ) → s + count ≡ size → Chain m n (handing_out n s count) (HandsOut size s) (HandsOut size (s + count))
  hands_out s zero e = subst (λ k. Chain m n [] (HandsOut size s) (HandsOut size k)) (omega arith) (Stops (HandsOut size s) (hands_stay size s))
  hands_out s (suc count) e =
      let next : suc s + count ≡ s + suc count = omega arith in
      Then (Collect n s) (ReadAnswer n s ∷ handing_out n (suc s) count) (HandsOut size s) (HandsRead size s) (HandsOut size (s + suc count)) refl (hands_stay size s) (collect_empties m n s (omega arith))
      (Then (ReadAnswer n s) (handing_out n (suc s) count) (HandsRead size s) (HandsOut size (suc s)) (HandsOut size (s + suc count)) refl (hands_read_stay size s) (read_empties m n s (omega arith))
      (subst (λ k. Chain m n (handing_out n (suc s) count) (HandsOut size (suc s)) (HandsOut size k)) next (hands_out (suc s) count (omega arith))))

  then : {steps : List Step} {Q : Fact} (step : Step) (P R : Fact) → node_of step ≡ n → Stays P → Leads m step P R → Chain m n steps R Q → Chain m n (step ∷ steps) P Q
  then {steps} {Q} step P R is stays leads rest = Then step steps P R Q is stays leads rest

  -- nothing is handed out yet
  none_below : (g : Log) (node : NodeView) → IsUp (IsFree size 0) g node → HandsOut size 0 g node
  none_below g node up = (up, (λ j lt. absurd (omega arith)))

  -- the last batch, and what follows
  ends : Chain m n (Append n ∷ Replay n ∷ Finish n ∷ Reply n ∷ handing_out n 0 size) (IsUp (HasRoomFor size 0)) (HandsOut size (0 + size))
  ends =
      let S = LeavesRoomFor size 0 in
      then (Append n) (IsUp (HasRoomFor size 0)) (HasRest S) refl (up_stays (HasRoomFor size 0)) (append_logs m n 0)
      (then (Replay n) (HasRest S) (IsAtEnd S) refl (rest_stays S) (replay_rest m n S)
      (then (Finish n) (IsAtEnd S) (IsUp S) refl (end_stays S) (finish_completes m n S)
      (then (Reply n) (IsUp S) (HandsOut size 0) refl (up_stays S) (λ g node x p. none_below (log_after (part_of m (Reply n) g node) g) (node_after (part_of m (Reply n) g node) node) (batch_ends m n 0 g node x p))
      (hands_out 0 size (omega arith)))))

  -- a batch that is claimed, and what is posted
  runs : Chain m n (Append n ∷ Replay n ∷ Finish n ∷ Reply n ∷ Claim n ∷ Append n ∷ Replay n ∷ Finish n ∷ Reply n ∷ handing_out n 0 size) (IsUp (HasRoomFor size size)) (HandsOut size (0 + size))
  runs =
      let S = LeavesRoomFor size size in
      then (Append n) (IsUp (HasRoomFor size size)) (HasRest S) refl (up_stays (HasRoomFor size size)) (append_logs m n size)
      (then (Replay n) (HasRest S) (IsAtEnd S) refl (rest_stays S) (replay_rest m n S)
      (then (Finish n) (IsAtEnd S) (IsUp S) refl (end_stays S) (finish_completes m n S)
      (then (Reply n) (IsUp S) (IsUp (IsFree size size)) refl (up_stays S) (batch_ends m n size)
      (then (Claim n) (IsUp (IsFree size size)) (IsUp (HasRoomFor size 0)) refl (up_stays (IsFree size size)) (claim_takes m n size)
      ends))))

  -- the whole list
  pub settles : Chain m n (settling n size) (SideOf Any) (HandsOut size (0 + size))
  settles =
      then (Replay n) (SideOf Any) (IsBare Any) refl (any_stays Any) (replay_empties m n Any)
      (then (Rebase n) (IsBare Any) (IsAbove Any) refl (bare_stays Any) (rebase_lifts m n Any)
      (then (Replay n) (IsAbove Any) (IsAtEnd Any) refl (above_stays Any) (replay_ends m n Any)
      (then (Finish n) (IsAtEnd Any) (IsUp Any) refl (end_stays Any) (finish_completes m n Any)
      (then (Reply n) (IsUp Any) (IsUp NotLogged) refl (up_stays Any) (reply_ends m n Any NotLogged (λ b t d y s. omega arith) (λ b t k d le s. le))
      (then (Reclaim n) (IsUp NotLogged) (IsUp (HasRoomFor size size)) refl (up_stays NotLogged) (reclaim_frees m n)
      runs)))))

-- ---- from a store that stands

-- the store is standing after these steps, too
pub stands_after : (m : Opening) (w : WorldView) (steps : List Step) → IsStanding (the_store m w) → IsStanding (the_store m (world_of m w steps))
stands_after m w [] x = x
stands_after m w (step ∷ steps) x = stands_after m (world_after w (took m w step)) steps (stands_on m w step x)

pub settle_or_moved : NodesSettleOrOthersMove
settle_or_moved m w h positions t n all config x inside woven =
    let standing : IsStanding (the_store m w) = record { config = config; history = h; positions = positions; trace = t; stands = x } in
    let many = x.count in
    let node = get_some w.nodes n (omega arith) in
    ⊎_elim
    (λ r.
    let after = stands_after m w all standing in
    let slots = (after.stands.nodes n r.0 r.1).desk.slots in
    inl (r.0, r.1, (λ s lt. r.2.1 s (omega arith))))
    inr
    (walk m n woven (settles m n) w standing (node.0, node.1, tt))

-- ---- a node alone

-- a list of one node's steps, with none in between
own_list : (n : ℕ) (steps : List Step) → Woven n steps steps
own_list n [] = Ends
own_list n (step ∷ steps) = Own step steps steps (own_list n steps)

nobody_moves : (m : Opening) (n : ℕ) {w : WorldView} {steps : List Step} → OthersMove m n w steps → AreOwn n steps → ⊥
nobody_moves m n (Here w step steps ne moved) (is, are) = ne is
nobody_moves m n (Later w step steps moved) (is, are) = nobody_moves m n moved are

pub others_stay : (m : Opening) (n : ℕ) (steps : List Step) (w : WorldView) → AreOwn n steps → (k : ℕ) → k ≢ n → slice_get (world_of m w steps).nodes k ≡ slice_get w.nodes k
others_stay m n [] w are k ne = refl
others_stay m n (step ∷ steps) w (is, are) k ne = others_stay m n steps (world_after w (took m w step)) are k ne ∙ other_step m w step k (λ e. ne (e ∙ is))

pub settle_alone : NodesSettleAlone
settle_alone m w h positions t n config x inside =
    let standing : IsStanding (the_store m w) = record { config = config; history = h; positions = positions; trace = t; stands = x } in
    let many = x.count in
    let node = get_some w.nodes n (omega arith) in
    let own = settling_own n m.config.slots in
    let done = ⊎_elim (λ at. at) (λ moved. absurd (nobody_moves m n moved own))
    (settle_or_moved m w h positions t n (settling n m.config.slots) config x inside (own_list n (settling n m.config.slots))) in
    record {
      settled = done;
      others = others_stay m n (settling n m.config.slots) w own;
      few = (costs_settling m n).most w standing (node.0, node.1, tt);
    }
