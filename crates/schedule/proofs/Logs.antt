-- The steps of the log: done is raised, the base moves, a replica takes the base.
use Rattle.std.proofs.Common.{◌≡◌, ℕ, ◌+◌, ◌-◌, ◌≤◌, [], length, Some, refl, sym, ap, ◌∙◌, arith, subst, length-drop}
use Rattle.std.specs.Prelude.{slice_get, slice_set, max, nat_lt, nat_le}
use Rattle.std.proofs.lemmas.Option.{none-some, same_Some}
use Rattle.std.proofs.lemmas.Bool.{and_parts, leb-true, ltb-true}
use Rattle.oplog.specs.History.{History}
use Rattle.oplog.specs.Logs.{HandView}
use Rattle.oplog.specs.Sessions.{session}
use Rattle.replica.specs.Views.{ReplicaView}
use Rattle.node.specs.Following.{no_records, may_finish, told, may_reclaim, reclaimed, may_rebase}
use Rattle.node.specs.Steps.{Finishes, Reclaims, Rebases, next}
use Rattle.node.specs.declared.parts.NodeBatch.{NodeBatch}
use Rattle.node.specs.declared.parts.NodeBatch.TheVariants.{Absent, Held, InLog}
use Rattle.schedule.specs.Trace.{Trace, Positions}
use Rattle.schedule.specs.declared.parts.Opening.{Opening}
use Rattle.schedule.specs.Worlds.{NodeView, WorldView, own_of}
use Rattle.schedule.specs.Steps.{Part, inner, seen_of, put_seen}
use Rattle.schedule.specs.Stands.{NodeStands, BatchStands, Stands}
use Rattle.schedule.proofs.Lists.{get_drop}
use Rattle.schedule.proofs.Options.{cond_gives, none_is}
use Rattle.schedule.proofs.Seats.{stage_done}
use Rattle.schedule.proofs.Calls.{nodes_put, Kept, same_history}
use Rattle.maps.proofs.Export.{length_set}

-- more is done
node_done : (m : Opening) (done more : ℕ) (h : History) (positions : Positions) (t : Trace) (n : ℕ) (node : NodeView) → done ≤ more → NodeStands m done h positions t n node → NodeStands m more h positions t n node
node_done m done more h positions t n node l o = record {
  replica = o.replica;
  desk = o.desk;
  batch = o.batch;
  seats = λ s x read there begun. stage_done m done more h positions t (session m.config n s) node.batch x.count x.stage read l (o.seats s x read there begun);
}

pub keeps_finish : (m : Opening) (w : WorldView) (h : History) (positions : Positions) (t : Trace) (n : ℕ) (node : NodeView) (p : Part)
    → slice_get w.nodes n ≡ Some node → inner m Finishes w.log node ≡ Some p → Stands m w h positions t → Kept m w h positions t n p
keeps_finish m w h positions t n node p at_n taken x =
    let c = cond_gives (may_finish w.log.done (own_of node)) _ p taken in
    let above = ltb-true w.log.done node.replica.tail c.0 in
    let raised : max w.log.done node.replica.tail ≡ node.replica.tail = omega arith in
    let o = x.nodes n node at_n in
    subst (λ z. Kept m w h positions t n z) (same_Some _ p c.1)
    (same_history m (record { log = told (own_of node) w.log; nodes = slice_set w.nodes n node }) h positions t (record {
      catalogue = x.catalogue;
      explains = x.explains;
      log = record {
        ends = x.log.ends;
        kept = x.log.kept;
        long = x.log.long;
        reclaimed = (let b = x.log.reclaimed in omega arith);
        state = x.log.state;
        done = (let l = o.replica.tail in omega arith);
        limit = x.log.limit;
        within = x.log.within;
        window = x.log.window;
      };
      count = length_set w.nodes n node ∙ x.count;
      callers = x.callers;
      stamps = λ b y a g. let l = x.stamps b y a g in omega arith;
      nodes = nodes_put (λ k y. NodeStands m (max w.log.done node.replica.tail) h positions t k y) w.nodes n node
          (λ k old ne g. node_done m w.log.done (max w.log.done node.replica.tail) h positions t k old (omega arith) (x.nodes k old g))
          (node_done m w.log.done (max w.log.done node.replica.tail) h positions t n node (omega arith) o);
    }))

pub keeps_reclaim : (m : Opening) (w : WorldView) (h : History) (positions : Positions) (t : Trace) (n : ℕ) (node : NodeView) (p : Part)
    → slice_get w.nodes n ≡ Some node → inner m Reclaims w.log node ≡ Some p → Stands m w h positions t → Kept m w h positions t n p
keeps_reclaim m w h positions t n node p at_n taken x =
    let c = cond_gives (may_reclaim w.log.done w.log (own_of node)) _ p taken in
    let tests = and_parts (nat_lt w.log.base node.replica.tail) (nat_le node.replica.tail w.log.done) c.0 in
    let above = ltb-true w.log.base node.replica.tail tests.0 in
    let below = leb-true node.replica.tail w.log.done tests.1 in
    let o = x.nodes n node at_n in
    subst (λ z. Kept m w h positions t n z) (same_Some _ p c.1)
    (same_history m (record { log = reclaimed (own_of node) w.log; nodes = slice_set w.nodes n node }) h positions t (record {
      catalogue = x.catalogue;
      explains = x.explains;
      log = record {
        ends = (let e = x.log.ends in let d = x.log.done in let l = length-drop (node.replica.tail - w.log.base) w.log.records in omega arith);
        kept = λ j f g. let i : node.replica.tail + j ≡ w.log.base + ((node.replica.tail - w.log.base) + j) = omega arith in
            subst (λ k. slice_get h k ≡ Some f) (sym i) (x.log.kept ((node.replica.tail - w.log.base) + j) f (sym (get_drop w.log.records (node.replica.tail - w.log.base) j) ∙ g));
        reclaimed = below;
        state = o.replica.state;
        done = x.log.done;
        limit = x.log.limit;
        within = x.log.within;
        window = x.log.window;
        long = x.log.long;
      };
      count = length_set w.nodes n node ∙ x.count;
      callers = x.callers;
      stamps = x.stamps;
      nodes = nodes_put (λ k y. NodeStands m w.log.done h positions t k y) w.nodes n node (λ k old ne g. x.nodes k old g) o;
    }))

-- a replica that moves up to the base has its batch behind it
moved : (m : Opening) (h : History) (replica : ReplicaView) (hand : HandView) (new : ReplicaView) (b : NodeBatch) → replica.tail ≤ new.tail → hand.records ≡ [] → new.tail ≤ length h
    → BatchStands m h replica hand b → BatchStands m h new (record hand { begin = new.tail; records = [] }) b
moved m h replica hand new Absent l empty inside p = p
moved m h replica hand new (Held b) l empty inside p = p
moved m h replica hand new (InLog b) l empty inside p =
    let nothing : length hand.records ≡ 0 = ap length empty in
    let a = p.ahead in
    record {
      placed = p.placed;
      ahead = omega arith;
      known = λ k r lt g in_tail. p.known k r lt g (omega arith);
      ended = λ short. let e = p.ended short in omega arith;
    }

pub keeps_rebase : (m : Opening) (w : WorldView) (h : History) (positions : Positions) (t : Trace) (n : ℕ) (node : NodeView) (p : Part)
    → slice_get w.nodes n ≡ Some node → inner m Rebases w.log node ≡ Some p → Stands m w h positions t → Kept m w h positions t n p
keeps_rebase m w h positions t n node p at_n taken x =
    let c = cond_gives (may_rebase w.log (own_of node)) _ p taken in
    let tests = and_parts (nat_lt node.replica.tail w.log.base) (no_records node.hand.records) c.0 in
    let below = ltb-true node.replica.tail w.log.base tests.0 in
    let empty = none_is node.hand.records tests.1 in
    let o = x.nodes n node at_n in
    let e = x.log.reclaimed in
    let d = x.log.done in
    let inside : w.log.base ≤ length h = omega arith in
    subst (λ z. Kept m w h positions t n z) (same_Some _ p c.1)
    (same_history m (record { log = w.log; nodes = slice_set w.nodes n ((put_seen node (next m.catalogue Rebases (seen_of w.log node))).node) }) h positions t (record {
      catalogue = x.catalogue;
      explains = x.explains;
      log = x.log;
      count = length_set w.nodes n ((put_seen node (next m.catalogue Rebases (seen_of w.log node))).node) ∙ x.count;
      callers = x.callers;
      stamps = x.stamps;
      nodes = nodes_put (λ k y. NodeStands m w.log.done h positions t k y) w.nodes n ((put_seen node (next m.catalogue Rebases (seen_of w.log node))).node) (λ k old ne g. x.nodes k old g)
          (record {
            replica = record { tail = inside; state = x.log.state; begins = refl; next = λ j f g. absurd (none-some f g); window = o.replica.window; long = o.replica.long };
            desk = record { number = o.desk.number; slots = o.desk.slots; reads = o.desk.reads; own = o.desk.own; answers = o.desk.answers };
            batch = moved m h node.replica node.hand (record { tail = w.log.base; state = w.log.base_state }) node.batch (omega arith) empty inside o.batch;
            seats = o.seats;
          });
    }))
