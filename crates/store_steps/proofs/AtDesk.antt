-- What a session finds at its desk, and that its calls are steps.
use Rattle.std.proofs.Common.{◌*◌, ◌≡◌, ℕ, suc, ◌+◌, ◌<◌, ◌^◌, [], length, sym, refl, ap, ◌∙◌, subst, arith, ⊎_elim, Some, None, slice_get, if◌then◌else◌}
use mathlib.Core.Bool.{true, false}
use Rattle.std.proofs.lemmas.Bool.{cases_lt}
use Rattle.std.proofs.lemmas.List.{length-map}
use Rattle.std.specs.Option.{IsSome, option_and_then}
use Rattle.ownlock.specs.Seats.{At}
use Rattle.oplog.specs.Operations.{Operation}
use Rattle.combiner.specs.Slots.{is_empty, slot as slot_with}
use Rattle.combiner.specs.Desks.{first_author, DeskView, BatchView, IsBatchOf, IsAnswered, replied, batch_of, claim_refusal, claimed, collected, has_combiner, has_request, posted, with_slot}
use Rattle.combiner.specs.declared.slots.Slot.{Slot}
use Rattle.combiner.specs.declared.slots.Stage.{Stage}
use Rattle.combiner.specs.declared.slots.Stage.TheVariants.{Empty, Posted, Claimed, Answered}
use Rattle.replica.specs.StoreMeaning.{store_meaning}
use Rattle.replica.specs.Views.{RepliesView}
use Rattle.combiner.specs.declared.slots.Reply.{Reply}
use Rattle.combiner.specs.declared.slots.Reply.TheVariants.{Placed, Ended}
use Rattle.node.specs.Answering.{answered_batch}
use Rattle.node.proofs.Export.{answers_placed, answers_ended, get_some}
use Rattle.accounts.specs.declared.sessions.Claim.{Claim}
use Rattle.accounts.specs.declared.sessions.Pending.{Pending}
use Rattle.accounts.specs.declared.sessions.SessionNote.{SessionNote}
use Rattle.accounts.specs.Accounts.{IsAllowed}
use Rattle.accounts.specs.Agreement.{StageAgrees, SlotAgrees}
use Rattle.accounts.specs.DeskSteps.{PostStep, ClaimStep, ReplyStep, CollectStep, Gives}
use Rattle.accounts.specs.Batches.{Ascend}
use Rattle.accounts.specs.Moves.{IsAtRest, posted_with, record_of, unplaced}
use Rattle.accounts.proofs.Export.{batch_is, claims_ascend, collected_is, answered, at_below, at_of, at_one, get_of, some_none, at_there}
use Rattle.store_steps.specs.declared.desks.Turn.{Turn}
use Rattle.store_steps.specs.declared.desks.Turn.TheVariants.{Collects, Combines, Waits}
use Rattle.store_steps.specs.AtDesk.{IsAt, HasAsked, IsReady, IsTurn, IsClaim, Steps, TurnSteps}
use Rattle.store_steps.specs.Views.{request_of}
use Rattle.store_steps.specs.Standing.{SessionKnown}

-- the session's own slot
pub record Own (slot : ℕ) (k : SessionKnown) (x : DeskView) (i : IsAt slot k x) : Type 0 where
  pub found : Slot
  pub at : At slot found x.slots
  pub count : found.count ≡ length k.note.answered
  pub stage : StageAgrees store_meaning k.progress i.notes i.agrees.combiner k.session k.note found.stage

pub inside : (slot : ℕ) (k : SessionKnown) (x : DeskView) → IsAt slot k x → slot < length x.slots
inside slot k x i = let lt = i.within in let long = i.agrees.slots in omega (arith, lt, long)

-- its number is the slot's among those of all desks
pub own_author : (slot : ℕ) (k : SessionKnown) (x : DeskView) → IsAt slot k x → k.session ≡ first_author x + slot
own_author slot k x i = i.own ∙ ap (λ n. x.node * n + slot) (sym i.agrees.slots)

pub own : (slot : ℕ) (k : SessionKnown) (x : DeskView) (i : IsAt slot k x) → Own slot k x i
own slot k x i =
    let a = at_there x.slots slot (inside slot k x i) in
    let b = subst (λ c. SlotAgrees store_meaning k.progress i.notes i.agrees.combiner c a.0) (sym i.own) (i.agrees.each slot a.0 a.1) in
    let one = at_one i.notes k.session b.0 k.note b.1 i.here in
    record { found = a.0; at = a.1; count = b.2 ∙ ap (λ (n : SessionNote). length n.answered) one; stage = subst (λ n. StageAgrees store_meaning k.progress i.notes i.agrees.combiner k.session n a.0.stage) one b.3 }

-- ---- post

-- who waits for nothing has an empty slot
pub free_posts : (slot : ℕ) (k : SessionKnown) (x : DeskView) (op : Operation) → IsAt slot k x → k.note.pending ≡ None → posted slot op x ≡ None → ⊥
free_posts slot k x op i free refused = by_stage o.found.stage refl o.stage
  where
    o : Own slot k x i
    o = own slot k x i

    posts : (st : Stage) → o.found.stage ≡ st → posted slot op x ≡ (if is_empty st then Some (with_slot x slot (slot_with (Posted op) o.found.count)) else None)
    posts st e = ap (option_and_then (λ (z : Slot). if is_empty z.stage then Some (with_slot x slot (slot_with (Posted op) z.count)) else None)) (get_of x.slots slot o.found o.at)
        ∙ ap (λ s. if is_empty s then Some (with_slot x slot (slot_with (Posted op) o.found.count)) else None) e

    by_stage : (st : Stage) → o.found.stage ≡ st → StageAgrees store_meaning k.progress i.notes i.agrees.combiner k.session k.note st → ⊥
    by_stage Empty e h = some_none _ (posted slot op x) (posts Empty e) refused
    by_stage (Posted other) e h = some_none h.0 k.note.pending h.1 free
    by_stage Claimed e h = some_none h.0 k.note.pending h.1 free
    by_stage (Answered reply) e h = some_none h.0 k.note.pending h.1 free

pub post_steps : (slot : ℕ) (k : SessionKnown) (x y : DeskView) (op : Operation) → posted slot op x ≡ Some y → IsAt slot k x → IsAtRest k.note → IsAllowed store_meaning k.progress.catalogue op
    → Steps k x (posted_with k.note (request_of k.progress op)) y
post_steps slot k x y op e i rests may = PostStep slot op i.own rests.1 may refl e

-- ---- turn

pub countable : (slot : ℕ) (k : SessionKnown) (x : DeskView) (o : Pending) → IsAt slot k x → HasAsked k o → (a : Slot) → slice_get x.slots slot ≡ Some a → suc a.count < 2 ^ 64
countable slot k x o i asked a e =
    let mine = own slot k x i in
    let same = ap (λ (z : Slot). z.count) (at_one x.slots slot a mine.found (at_of x.slots slot a e) mine.at) in let few = asked.few in let count = mine.count in
    subst (λ n. suc n < 2 ^ 64) (sym (same ∙ count)) few

pub claim_turn : (slot : ℕ) (x x2 y : DeskView) (batch : BatchView) (t : Turn) → x2 ≡ x → collected slot x ≡ None → IsClaim x2 y batch t → IsTurn slot x y batch t
claim_turn slot x x2 y batch (Collects reply) same none c = absurd c
claim_turn slot x x2 y batch Combines same none c = let t = subst (λ z. (has_combiner z ≡ false) × (has_request z ≡ true) × (y ≡ claimed z) × (batch ≡ batch_of z)) same c in (none, t.0, t.1, t.2, t.3)
claim_turn slot x x2 y batch Waits same none c = let t = subst (λ z. IsSome (claim_refusal z) × (y ≡ z)) same c in (none, t.0, t.1)

pub turn_steps : (slot : ℕ) (k : SessionKnown) (o : Pending) (x y : DeskView) (batch : BatchView) (t : Turn) → IsTurn slot x y batch t → IsAt slot k x → HasAsked k o → TurnSteps k o x y batch t
turn_steps slot k o x y batch (Collects reply) t i asked =
    let c = collected_is slot reply x y t in
    (CollectStep slot o reply i.own asked.pending refl t, answered store_meaning k.progress i.notes k.session k.note x slot c.0 o reply i.accounts i.here i.agrees i.own c.1 c.2 asked.pending)
turn_steps slot k o x y batch Combines t i asked = (ClaimStep t.1 asked.alone (ap (λ b. record k.note { batch = unplaced b.records }) t.4) t.3, subst (λ b. Ascend b.records) (sym t.4) (claims_ascend x))
turn_steps slot k o x y batch Waits t i asked = t.2

-- ---- reply

module _ (k : SessionKnown) (b : BatchView) (kept : RepliesView) (r : IsReady k b kept) where
  first : (t : Claim) × At 0 t k.note.batch
  first = at_there k.note.batch 0 r.some

  pub is_batch : (slot : ℕ) (x : DeskView) (i : IsAt slot k x) → IsBatchOf x (answered_batch kept b)
  is_batch slot x i = batch_is store_meaning k.progress i.notes k.session k.note x (answered_batch kept b) 0 first.0 i.accounts i.here (slot, i.within, i.own, i.near) i.agrees first.1 r.records r.ascend

  pub is_answered : IsAnswered (answered_batch kept b)
  is_answered j lt =
      let q = get_some b.records j lt in
      ⊎_elim
      (λ has. let o = r.run j has lt in (Placed (kept.first + j) o.0.reply, answers_placed b.records kept.outcomes kept.first j q.0 (Some o.0) q.1 o.1))
      (λ late. (Ended, answers_ended b.records kept.outcomes kept.first j q.0 q.1 late))
      (cases_lt j (length kept.outcomes))

  pub reply_steps : (x y : DeskView) → y ≡ replied (answered_batch kept b) x → Steps k x (record k.note { batch = [] }) y
  reply_steps x y e = ReplyStep (answered_batch kept b) 0 first.0 first.1 r.records each refl e
    where
      each : (j : ℕ) (t : Claim) → At j t k.note.batch → (reply : Reply) × (slice_get (answered_batch kept b).answers j ≡ Some (Some reply)) × Gives store_meaning k.progress t reply
      each j t at =
          let long = ap length r.records ∙ length-map k.note.batch record_of in
          let lt = at_below k.note.batch j t at in
          let s = is_answered j (omega (arith, long, lt)) in
          (s.0, s.1, r.gives j t s.0 at s.1)
