-- A batch is claimed at a desk, and is answered there.
use Rattle.std.proofs.Common.{◌≡◌, ℕ, zero, suc, ◌+◌, ◌*◌, ◌<◌, ◌≤◌, List, [], ◌∷◌, length, map, Option, Some, None, refl, sym, ap, ◌∙◌, ⊎_elim, arith, subst}
use Rattle.std.specs.Prelude.{slice_get, slice_set, ◌&&◌, nat_le, if◌then◌else◌, option_map}
use Rattle.std.proofs.lemmas.Option.{none-some, same_Some, slice_get-map, slice_get_within}
use Rattle.std.proofs.lemmas.List.{length-map}
use Rattle.std.proofs.lemmas.Bool.{cases_lt, lt-ltb, le-ltb, and_parts, leb-true}
use Rattle.verifier.specs.declared.refusal.Mode.TheVariants.{Update}
use Rattle.oplog.specs.declared.records.Record.{Record}
use Rattle.oplog.specs.History.{Effect, History}
use Rattle.oplog.specs.Sessions.{session}
use Rattle.combiner.specs.declared.slots.Reply.{Reply}
use Rattle.combiner.specs.declared.slots.Reply.TheVariants.{Placed, Ended}
use Rattle.combiner.specs.declared.slots.Stage.{Stage}
use Rattle.combiner.specs.declared.slots.Stage.TheVariants.{Empty, Posted, Claimed, Answered}
use Rattle.combiner.specs.declared.slots.Slot.{Slot}
use Rattle.combiner.specs.Slots.{claimed_stage, claimed_slot, requests_from, answered_stage, with_answer}
use Rattle.combiner.specs.Desks.{first_author, has_request, batch_of, claimed, claimed_from, IsBatchOf, answer_for, replied}
use Rattle.replica.specs.StoreMeaning.{outcome_of}
use Rattle.node.specs.Following.{no_records, may_reply}
use Rattle.node.specs.Steps.{Replies, is_in_log, reply_batch}
use Rattle.node.specs.Answering.{answered_batch}
use Rattle.node.proofs.Export.{answers_placed, answers_ended}
use Rattle.schedule.specs.declared.parts.BegunRead.{BegunRead}
use Rattle.node.specs.declared.parts.Written.{Written}
use Rattle.node.specs.declared.parts.NodeBatch.TheVariants.{Absent, Held, InLog}
use Rattle.schedule.specs.Trace.{Trace, Positions}
use Rattle.schedule.specs.declared.parts.Opening.{Opening}
use Rattle.schedule.specs.Worlds.{NodeView, WorldView, own_of}
use Rattle.schedule.specs.Steps.{Part, claim, no_batch, inner, seen_of, put_seen}
use Rattle.schedule.specs.Stands.{OpenAt, ReplyStands, StageStands, DeskStands, NodeStands, BatchStands, WrittenStands, Stands, batch_in, index_in}
use Rattle.schedule.proofs.Options.{cond_gives, none_is, no_batch_is, appended_is}
use Rattle.schedule.proofs.Slots.{claims_own, requests_have, request_of, claimed_has, claimed_once, answered_get, answered_length, AllAnswered, none_claimed, answer_found}
use Rattle.schedule.proofs.Calls.{nodes_put, Kept, same_history, session_is}
use Rattle.maps.proofs.Export.{length_set}

-- ---- claim

mapped_get : {A B : Type 0} (f : A → B) (xs : List A) (s : ℕ) (y : B) → slice_get (map f xs) s ≡ Some y → (x : A) × (slice_get xs s ≡ Some x) × (f x ≡ y)
mapped_get f [] s y g = absurd (none-some y g)
mapped_get f (x ∷ xs) zero y g = (x, refl, same_Some (f x) y g)
mapped_get f (x ∷ xs) (suc s) y g = mapped_get f xs s y g

module _ (m : Opening) (w : WorldView) (h : History) (positions : Positions) (t : Trace) (n : ℕ) (node : NodeView) (o : NodeStands m w.log.done h positions t n node) (idle : node.batch ≡ Absent) where
  -- where there is no batch, no slot is claimed
  pub free : claimed_from (first_author node.desk) node.desk.slots ≡ []
  free = sym (subst (λ b. IsBatchOf node.desk (batch_in b)) idle o.desk.own)

  desk_claimed : DeskStands m n (record node { desk = claimed node.desk; batch = Held (batch_of node.desk) })
  desk_claimed =
      let long : length (map claimed_slot node.desk.slots) ≡ length node.desk.slots = length-map node.desk.slots claimed_slot in
      record {
        number = o.desk.number;
        slots = long ∙ o.desk.slots;
        reads = o.desk.reads;
        own = claims_own node.desk.slots (first_author node.desk) free ∙ ap (λ k. claimed_from (node.desk.node * k) (map claimed_slot node.desk.slots)) (sym long);
        answers = length-map (requests_from (first_author node.desk) node.desk.slots) (λ r. None);
      }

  stage_claimed : (s : ℕ) (x : Slot) → slice_get node.desk.slots s ≡ Some x → (st : Stage) (read : Option BegunRead) → x.stage ≡ st
      → StageStands m w.log.done h positions t (session m.config n s) node.batch x.count st read
      → StageStands m w.log.done h positions t (session m.config n s) (Held (batch_of node.desk)) x.count (claimed_stage st) read
  stage_claimed s x at Empty None is p = p
  stage_claimed s x at Empty (Some read) is p = p
  stage_claimed s x at (Posted op) None is p =
      let r = requests_have node.desk.slots (first_author node.desk) s x op at is in
      (p.0, r.0, request_of (first_author node.desk + s) x.count op, r.1, session_is m n node s o.desk, refl, p.1)
  stage_claimed s x at Claimed None is p = let r = claimed_has node.desk.slots (first_author node.desk) s x at is in absurd (none-some (first_author node.desk + s) (subst (λ rs. slice_get rs r.0 ≡ Some (first_author node.desk + s)) free r.1))
  stage_claimed s x at (Answered reply) None is p = p
  stage_claimed s x at (Posted op) (Some read) is p = absurd p
  stage_claimed s x at Claimed (Some read) is p = absurd p
  stage_claimed s x at (Answered reply) (Some read) is p = p

  node_claimed : NodeStands m w.log.done h positions t n (record node { desk = claimed node.desk; batch = Held (batch_of node.desk) })
  node_claimed = record {
    replica = o.replica;
    desk = desk_claimed;
    batch = tt;
    seats = λ s y read there begun.
        let c = mapped_get claimed_slot node.desk.slots s y there in
        subst (λ z. StageStands m w.log.done h positions t (session m.config n s) (Held (batch_of node.desk)) z.count z.stage read) c.2
        (stage_claimed s c.0 c.1 (c.0).stage read refl (o.seats s c.0 read c.1 begun));
  }

pub keeps_claim : (m : Opening) (w : WorldView) (h : History) (positions : Positions) (t : Trace) (n : ℕ) (node : NodeView) (p : Part)
    → slice_get w.nodes n ≡ Some node → claim w.log node ≡ Some p → Stands m w h positions t → Kept m w h positions t n p
keeps_claim m w h positions t n node p at_n taken x =
    let c = cond_gives (no_batch node.batch && has_request node.desk) _ p taken in
    let tests = and_parts (no_batch node.batch) (has_request node.desk) c.0 in
    let idle = no_batch_is node.batch tests.0 in
    let o = x.nodes n node at_n in
    let new : NodeView = record node { desk = claimed node.desk; batch = Held (batch_of node.desk) } in
    subst (λ z. Kept m w h positions t n z) (same_Some _ p c.1)
    (same_history m (record { log = w.log; nodes = slice_set w.nodes n (record node { desk = claimed node.desk; batch = Held (batch_of node.desk) }) }) h positions t (record {
      catalogue = x.catalogue;
      explains = x.explains;
      log = x.log;
      count = length_set w.nodes n (record node { desk = claimed node.desk; batch = Held (batch_of node.desk) }) ∙ x.count;
      callers = x.callers;
      stamps = x.stamps;
      nodes = nodes_put (λ k y. NodeStands m w.log.done h positions t k y) w.nodes n (record node { desk = claimed node.desk; batch = Held (batch_of node.desk) }) (λ k old ne g. x.nodes k old g)
          (node_claimed m w h positions t n node o idle);
    }))

-- ---- reply

module _ (m : Opening) (w : WorldView) (h : History) (positions : Positions) (t : Trace) (n : ℕ) (node : NodeView) (b : Written) (o : NodeStands m w.log.done h positions t n node) (is_b : node.batch ≡ InLog b)
    (empty : node.hand.records ≡ []) (below : node.replica.tail ≤ w.log.done) where
  wr : WrittenStands m h node.replica node.hand b
  wr = subst (λ y. BatchStands m h node.replica node.hand y) is_b o.batch

  nothing : length node.hand.records ≡ 0
  nothing = ap length empty

  own : map (λ (r : Record). r.author) b.batch.records ≡ claimed_from (first_author node.desk) node.desk.slots
  own = subst (λ y. IsBatchOf node.desk (batch_in y)) is_b o.desk.own

  author_at : (k : ℕ) (r : Record) → slice_get b.batch.records k ≡ Some r → slice_get (claimed_from (first_author node.desk) node.desk.slots) k ≡ Some r.author
  author_at k r g = ap (λ rs. slice_get rs k) (sym own) ∙ slice_get-map (λ (r : Record). r.author) b.batch.records k ∙ ap (option_map (λ (r : Record). r.author)) g

  once : (j k : ℕ) (q r : Record) → slice_get b.batch.records j ≡ Some q → slice_get b.batch.records k ≡ Some r → q.author ≡ r.author → j ≡ k
  once j k q r f g same = claimed_once node.desk.slots (first_author node.desk) j k r.author (author_at j q f ∙ ap Some same) (author_at k r g)

  -- the answer to the k-th request stands for it
  abbrev pub AnswersWell : ℕ → Record → Reply → Type 0
  AnswersWell k r y = (c : ℕ) (x count : ℕ) → OpenAt m h positions t x count Update r.op (index_in (InLog b) k) c → ReplyStands m w.log.done h positions t x count y

  answer_at : (k : ℕ) (r : Record) → slice_get b.batch.records k ≡ Some r → (y : Reply) × (slice_get (answered_batch b.replies b.batch).answers k ≡ Some (Some y)) × AnswersWell k r y
  answer_at k r g =
      let ahead = wr.ahead in
      let nil = nothing in
      ⊎_elim
      (λ lt.
      let yes = lt-ltb k (length b.replies.outcomes) lt in
      let known = wr.known k r lt g (omega arith) in
      let before : b.replies.first + k < w.log.done = omega arith in (
        Placed (b.replies.first + k) (known.0).reply,
        answers_placed b.batch.records b.replies.outcomes b.replies.first k r (Some (outcome_of known.0)) g known.2,
        λ c x count opened. (
          r.op,
          c,
          subst (λ v. OpenAt m h positions t x count Update r.op (if v then Some (b.replies.first + k) else None) c) yes opened,
          before,
          ap (option_map (λ (e : Effect _). e.reply)) known.1,
        ),
      ))
      (λ ge.
      let no = le-ltb k (length b.replies.outcomes) ge in
      let inside = slice_get_within b.batch.records k r g in
      let full = wr.ended (omega arith) in
      let all : m.config.limit ≤ w.log.done = omega arith in (
        Ended,
        answers_ended b.batch.records b.replies.outcomes b.replies.first k r g (omega arith),
        (λ c x count opened. (r.op, c, subst (λ v. OpenAt m h positions t x count Update r.op (if v then Some (b.replies.first + k) else None) c) no opened, all)),
      ))
      (cases_lt k (length b.replies.outcomes))

  answer_is : (k : ℕ) (r : Record) (g : slice_get b.batch.records k ≡ Some r) → answer_for r.author b.batch.records (answered_batch b.replies b.batch).answers ≡ Some ((answer_at k r g).0)
  answer_is k r g = answer_found b.batch.records (answered_batch b.replies b.batch).answers k r (Some ((answer_at k r g).0)) g ((answer_at k r g).1) (λ j q f same. once j k q r f g same)

  request_at : (s : ℕ) (x : Slot) → slice_get node.desk.slots s ≡ Some x → x.stage ≡ Claimed → (k : ℕ) × (r : Record) × (slice_get b.batch.records k ≡ Some r) × (r.author ≡ first_author node.desk + s)
  request_at s x at is =
      let c = claimed_has node.desk.slots (first_author node.desk) s x at is in
      let there : slice_get (map (λ (r : Record). r.author) b.batch.records) c.0 ≡ Some (first_author node.desk + s) = ap (λ rs. slice_get rs c.0) own ∙ c.1 in
      let r = mapped_get (λ (r : Record). r.author) b.batch.records c.0 (first_author node.desk + s) there in
      (c.0, r.0, r.1, r.2)

  all_answered : AllAnswered (first_author node.desk) (answered_batch b.replies b.batch) node.desk.slots
  all_answered s x at is =
      let r = request_at s x at is in
      ((answer_at r.0 r.1 r.2).0, ap (λ a. answer_for a b.batch.records (answered_batch b.replies b.batch).answers) (sym r.3) ∙ answer_is r.0 r.1 r.2)

  desk_replied : DeskStands m n (record node { desk = replied (answered_batch b.replies b.batch) node.desk; batch = Absent })
  desk_replied = record {
    number = o.desk.number;
    slots = answered_length (first_author node.desk) (answered_batch b.replies b.batch) node.desk.slots ∙ o.desk.slots;
    reads = o.desk.reads;
    own = sym (none_claimed (first_author node.desk) (first_author (replied (answered_batch b.replies b.batch) node.desk)) (answered_batch b.replies b.batch) node.desk.slots all_answered);
    answers = refl;
  }

  stage_replied : (s : ℕ) (x : Slot) → slice_get node.desk.slots s ≡ Some x → (st : Stage) (read : Option BegunRead) → x.stage ≡ st
      → StageStands m w.log.done h positions t (session m.config n s) (InLog b) x.count st read
      → StageStands m w.log.done h positions t (session m.config n s) Absent x.count (answered_stage (answer_for (first_author node.desk + s) b.batch.records (answered_batch b.replies b.batch).answers) st) read
  stage_replied s x at Empty None is p = p
  stage_replied s x at Empty (Some read) is p = p
  stage_replied s x at (Posted op) None is p = p
  stage_replied s x at (Answered reply) None is p = p
  stage_replied s x at (Posted op) (Some read) is p = absurd p
  stage_replied s x at Claimed (Some read) is p = absurd p
  stage_replied s x at (Answered reply) (Some read) is p = absurd p
  stage_replied s x at Claimed None is (c, k, r, g, by, seq, opened) =
      let known : answer_for (first_author node.desk + s) b.batch.records (answered_batch b.replies b.batch).answers ≡ Some ((answer_at k r g).0) =
      ap (λ a. answer_for a b.batch.records (answered_batch b.replies b.batch).answers) (session_is m n node s o.desk ∙ sym by) ∙ answer_is k r g in
      subst (λ v. StageStands m w.log.done h positions t (session m.config n s) Absent x.count (with_answer v) None) (sym known) ((answer_at k r g).2 c (session m.config n s) x.count opened)

  pub node_replied : NodeStands m w.log.done h positions t n (record node { desk = replied (answered_batch b.replies b.batch) node.desk; batch = Absent })
  node_replied = record {
    replica = o.replica;
    desk = desk_replied;
    batch = tt;
    seats = λ s y read there begun.
        let c = answered_get (first_author node.desk) (answered_batch b.replies b.batch) node.desk.slots s y there in
        subst (λ z. StageStands m w.log.done h positions t (session m.config n s) Absent z.count z.stage read) c.2
        (stage_replied s c.0 c.1 (c.0).stage read refl (subst (λ v. StageStands m w.log.done h positions t (session m.config n s) v (c.0).count (c.0).stage read) is_b (o.seats s c.0 read c.1 begun)));
  }

pub keeps_reply : (m : Opening) (w : WorldView) (h : History) (positions : Positions) (t : Trace) (n : ℕ) (node : NodeView) (p : Part)
    → slice_get w.nodes n ≡ Some node → inner m Replies w.log node ≡ Some p → Stands m w h positions t → Kept m w h positions t n p
keeps_reply m w h positions t n node p at_n taken x =
    let c = cond_gives (is_in_log node.batch && may_reply w.log.done (own_of node)) _ p taken in
    let both = and_parts (is_in_log node.batch) (may_reply w.log.done (own_of node)) c.0 in
    let written = appended_is node.batch both.0 in
    let b : Written = written.0 in
    let becomes = ap (λ o. Some (put_seen node (reply_batch o (seen_of w.log node)))) written.1 in
    let tests = and_parts (no_records node.hand.records) (nat_le node.replica.tail w.log.done) both.1 in
    let empty = none_is node.hand.records tests.0 in
    let below = leb-true node.replica.tail w.log.done tests.1 in
    let o = x.nodes n node at_n in
    subst (λ z. Kept m w h positions t n z) (same_Some _ p (sym becomes ∙ c.1))
    (same_history m (record { log = w.log; nodes = slice_set w.nodes n (record node { desk = replied (answered_batch b.replies b.batch) node.desk; batch = Absent }) }) h positions t (record {
      catalogue = x.catalogue;
      explains = x.explains;
      log = x.log;
      count = length_set w.nodes n (record node { desk = replied (answered_batch b.replies b.batch) node.desk; batch = Absent }) ∙ x.count;
      callers = x.callers;
      stamps = x.stamps;
      nodes = nodes_put (λ k y. NodeStands m w.log.done h positions t k y) w.nodes n (record node { desk = replied (answered_batch b.replies b.batch) node.desk; batch = Absent }) (λ k old ne g. x.nodes k old g)
          (node_replied m w h positions t n node b o written.1 empty below);
    }))
