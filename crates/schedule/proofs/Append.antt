-- The step that appends a batch.
use Rattle.std.proofs.Common.{◌≡◌, ◌≢◌, ℕ, zero, suc, ◌+◌, ◌-◌, ◌<◌, ◌≤◌, List, [], ◌∷◌, ◌++◌, length, take, Some, refl, sym, ◌∙◌, inl, inr, ⊎_elim, arith, subst, ap, length-append, length-drop}
use Rattle.std.specs.Prelude.{slice_get, slice_set, ◌⊎◌, nat_le, min, if◌then◌else◌}
use Rattle.std.proofs.lemmas.Option.{same_Some}
use Rattle.std.proofs.lemmas.Bool.{ne_eqb, eq-eqb, and_parts, leb-true}
use Rattle.std.proofs.Math.Nat.{min-le_left, min-le_right}
use Rattle.oplog.specs.History.{History}
use Rattle.oplog.specs.Logs.{room_in, HandView, tail_of, left_of, records_from}
use Rattle.oplog.specs.Sessions.{session}
use Rattle.combiner.specs.Desks.{BatchView, IsBatchOf}
use Rattle.replica.specs.Views.{ReplicaView}
use Rattle.node.specs.Following.{room_for, grown, is_above}
use Rattle.node.specs.Steps.{Appends, may_append_batch, append_batch}
use Rattle.node.specs.declared.parts.NodeBatch.{NodeBatch}
use Rattle.node.specs.declared.parts.NodeBatch.TheVariants.{Absent, Held, InLog}
use Rattle.schedule.specs.Trace.{Trace, Positions}
use Rattle.schedule.specs.declared.parts.Opening.{Opening}
use Rattle.schedule.specs.Worlds.{NodeView, WorldView, own_of}
use Rattle.schedule.specs.Steps.{Part, inner, seen_of, put_seen}
use Rattle.schedule.specs.Stands.{StageStands, NodeStands, LogStands, ReplicaStands, BatchStands, Stands, batch_in}
use Rattle.schedule.proofs.Lists.{get_drop, get_taken}
use Rattle.schedule.proofs.Options.{cond_gives, claimed_is}
use Rattle.schedule.proofs.Explained.{after_more, effect_more}
use Rattle.schedule.proofs.Calls.{nodes_put, Kept}
use Rattle.schedule.proofs.Appends.{Grown, grown_to, grown_length, placed, none_kept}
use Rattle.maps.proofs.Export.{length_set, in_front}

get_right : {A : Type 0} (xs ys : List A) (j : ℕ) (v : A) → slice_get ys j ≡ Some v → slice_get (xs ++ ys) (length xs + j) ≡ Some v
get_right [] ys j v g = let i : j ≡ 0 + j = omega arith in subst (λ k. slice_get ys k ≡ Some v) i g
get_right (x ∷ xs) ys j v g = let i : suc (length xs + j) ≡ suc (length xs) + j = omega arith in subst (λ k. slice_get (x ∷ (xs ++ ys)) k ≡ Some v) i (get_right xs ys j v g)

get_append : {A : Type 0} (xs ys : List A) (i : ℕ) (v : A) → slice_get (xs ++ ys) i ≡ Some v → (slice_get xs i ≡ Some v) ⊎ ((j : ℕ) × (i ≡ length xs + j) × (slice_get ys j ≡ Some v))
get_append [] ys i v g = inr (i, omega arith, g)
get_append (x ∷ xs) ys zero v g = inl g
get_append (x ∷ xs) ys (suc i) v g = ⊎_elim inl (λ (j, at, is). inr (j, omega arith, is)) (get_append xs ys i v g)

min_short : (a b : ℕ) → min a b < a → min a b ≡ b
min_short a b l = omega arith

-- ---- a longer history

replica_grow : (m : Opening) (h rs : History) (replica : ReplicaView) (hand : HandView) → ReplicaStands m h replica hand → ReplicaStands m (h ++ rs) replica hand
replica_grow m h rs replica hand x = record {
  tail = (let l = x.tail in let e = length-append h rs in omega arith);
  state = x.state ∙ sym (after_more m h rs replica.tail x.tail);
  begins = x.begins;
  next = λ j f g. in_front h rs (replica.tail + j) f (x.next j f g);
  window = x.window;
  long = x.long;
}

batch_grow : (m : Opening) (h rs : History) (replica : ReplicaView) (hand : HandView) (b : NodeBatch) → replica.tail ≤ length h → BatchStands m h replica hand b → BatchStands m (h ++ rs) replica hand b
batch_grow m h rs replica hand Absent l x = x
batch_grow m h rs replica hand (Held b) l x = x
batch_grow m h rs replica hand (InLog b) l x = record {
  placed = λ k r lt g. in_front h rs (b.replies.first + k) r (x.placed k r lt g);
  ahead = x.ahead;
  known = λ k r lt g below. let e = x.known k r lt g below in (e.0, effect_more m h rs (b.replies.first + k) r.op (omega arith) ∙ e.1, e.2);
  ended = x.ended;
}

module _ (m : Opening) (w : WorldView) (h : History) (positions : Positions) (t : Trace) (n : ℕ) (node : NodeView) (b : BatchView) (at_n : slice_get w.nodes n ≡ Some node) (is_b : node.batch ≡ Held b)
    (above : w.log.base ≤ node.replica.tail) (x : Stands m w h positions t) where
  few : room_for b.records w.log ≤ length b.records
  few = min-le_left (length b.records) (left_of w.log)

  fits : length h + room_for b.records w.log ≤ m.config.limit
  fits = let a = min-le_right (length b.records) (left_of w.log) in let e = x.log.ends in let l = x.log.limit in let v = x.log.within in omega arith

  end : Grown m w h positions t n b (room_for b.records w.log)
  end = grown_to m w h positions t n node b at_n is_b x (room_for b.records w.log) few fits

  abbrev pub all_of : History
  all_of = h ++ take (room_for b.records w.log) b.records

  len : length all_of ≡ length h + room_for b.records w.log
  len = grown_length m w h positions t n node b at_n is_b x (room_for b.records w.log) few

  abbrev pub appended : NodeView
  appended = (put_seen node (append_batch (Held b) (seen_of w.log node))).node

  log_then : LogStands m (grown b.records w.log) all_of
  log_then = record {
    ends = (let e = x.log.ends in let a = length-append w.log.records (take (room_for b.records w.log) b.records) in let c = length-append h (take (room_for b.records w.log) b.records) in omega arith);
    kept = λ j f g. ⊎_elim (λ old. in_front h (take (room_for b.records w.log) b.records) (w.log.base + j) f (x.log.kept j f old))
        (λ (i, at, new). let e = x.log.ends in let same : length h + i ≡ w.log.base + j = omega arith in
        subst (λ k. slice_get all_of k ≡ Some f) same (get_right h (take (room_for b.records w.log) b.records) i f new))
        (get_append w.log.records (take (room_for b.records w.log) b.records) j f g);
    reclaimed = x.log.reclaimed;
    state = x.log.state ∙ sym (after_more m h (take (room_for b.records w.log) b.records) w.log.base (let a = x.log.reclaimed in let b = x.log.done in omega arith));
    done = (let d = x.log.done in let l = len in omega arith);
    limit = x.log.limit;
    within = (let l = len in let f = fits in omega arith);
    window = x.log.window;
    long = x.log.long;
  }

  node_then : NodeStands m w.log.done all_of (end.positions_then) t n appended
  node_then =
      let o = x.nodes n node at_n in
      let r = replica_grow m h (take (room_for b.records w.log) b.records) node.replica node.hand o.replica in
      let hand_end : node.replica.tail + length (records_from (grown b.records w.log) node.replica.tail) ≡ length h + room_for b.records w.log =
      (let e = log_then.ends in let l = len in let d = length-drop (node.replica.tail - w.log.base) (grown b.records w.log).records in let i = o.replica.tail in let f = few in omega arith) in
      let yes = eq-eqb n n refl in
      let first : length h ≡ tail_of w.log = sym x.log.ends in
      let count = none_kept (room_for b.records w.log) in
      record {
        replica = record {
          tail = r.tail;
          state = r.state;
          begins = refl;
          next = λ j f g. let i : w.log.base + ((node.replica.tail - w.log.base) + j) ≡ node.replica.tail + j = omega arith in
              subst (λ k. slice_get all_of k ≡ Some f) i (log_then.kept ((node.replica.tail - w.log.base) + j) f (sym (get_drop (grown b.records w.log).records (node.replica.tail - w.log.base) j) ∙ g));
          window = o.replica.window;
          long = o.replica.long;
        };
        desk = record {
          number = o.desk.number;
          slots = o.desk.slots;
          reads = o.desk.reads;
          own = subst (λ y. IsBatchOf node.desk (batch_in y)) is_b o.desk.own;
          answers = subst (λ y. length (batch_in y).answers ≡ length (batch_in y).records) is_b o.desk.answers;
        };
        batch = record {
          placed = λ k q lt g. subst (λ f. slice_get all_of (f + k) ≡ Some q) first
              (get_right h (take (room_for b.records w.log) b.records) k q (get_taken (room_for b.records w.log) b.records k q g (let c = count in omega arith)));
          ahead = (let e = hand_end in let f = first in let c = count in omega arith);
          known = λ k q lt g below. absurd (let i = o.replica.tail in let f = first in omega arith);
          ended = λ short. let s = min_short (length b.records) (left_of w.log) (let c = count in omega arith) in let e = hand_end in let a = x.log.ends in let l = x.log.within in let v = x.log.limit in omega arith;
        };
        seats = λ s z read there begun.
            subst (λ f. StageStands m w.log.done all_of (end.positions_then) t (session m.config n s) (placed f b (room_for b.records w.log)) z.count z.stage read) first
            (subst (λ v. StageStands m w.log.done all_of (end.positions_then) t (session m.config n s) (if v then placed (length h) b (room_for b.records w.log) else node.batch) z.count z.stage read) yes
            (end.seats n node at_n s z read there begun));
      }

  other_then : (k : ℕ) (old : NodeView) → k ≢ n → slice_get w.nodes k ≡ Some old → NodeStands m w.log.done all_of (end.positions_then) t k old
  other_then k old ne g =
      let o = x.nodes k old g in
      let no = ne_eqb k n ne in
      record {
        replica = replica_grow m h (take (room_for b.records w.log) b.records) old.replica old.hand o.replica;
        desk = o.desk;
        batch = batch_grow m h (take (room_for b.records w.log) b.records) old.replica old.hand old.batch o.replica.tail o.batch;
        seats = λ s z read there begun.
            subst (λ v. StageStands m w.log.done all_of (end.positions_then) t (session m.config k s) (if v then placed (length h) b (room_for b.records w.log) else old.batch) z.count z.stage read) no
            (end.seats k old g s z read there begun);
      }

  pub appended_stands : Kept m w h positions t n (put_seen node (append_batch (Held b) (seen_of w.log node)))
  appended_stands = (
    take (room_for b.records w.log) b.records,
    end.more,
    subst (λ ps. Stands m (record { log = grown b.records w.log; nodes = slice_set w.nodes n appended }) all_of ps t) end.begins (record {
      catalogue = x.catalogue;
      explains = end.explains;
      log = log_then;
      count = length_set w.nodes n appended ∙ x.count;
      callers = x.callers;
      stamps = x.stamps;
      nodes = nodes_put (λ k y. NodeStands m w.log.done all_of (end.positions_then) t k y) w.nodes n appended other_then node_then;
    }),
  )

pub keeps_append : (m : Opening) (w : WorldView) (h : History) (positions : Positions) (t : Trace) (n : ℕ) (node : NodeView) (p : Part)
    → slice_get w.nodes n ≡ Some node → inner m Appends w.log node ≡ Some p → Stands m w h positions t → Kept m w h positions t n p
keeps_append m w h positions t n node p at_n taken x =
    let c = cond_gives (may_append_batch node.batch w.log (own_of node)) _ p taken in
    let held = claimed_is node.batch w.log (own_of node) c.0 in
    let tests = and_parts (is_above w.log (own_of node)) (nat_le (room_for (held.0).records w.log) (room_in w.log)) held.2 in
    let becomes = ap (λ o. Some (put_seen node (append_batch o (seen_of w.log node)))) held.1 in
    subst (λ z. Kept m w h positions t n z) (same_Some _ p (sym becomes ∙ c.1))
    (appended_stands m w h positions t n node held.0 at_n held.1 (leb-true w.log.base node.replica.tail tests.0) x)
