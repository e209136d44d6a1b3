-- A replica applies what was copied for it.
use Rattle.std.proofs.Common.{◌≡◌, ◌≢◌, ℕ, suc, ◌+◌, ◌-◌, ◌<◌, ◌≤◌, true, [], ◌∷◌, length, Some, None, refl, sym, ap, ◌∙◌, inl, inr, ⊎_elim, arith, subst}
use Rattle.std.specs.Prelude.{slice_get, slice_set, ◌⊎◌, ◌&&◌, not, nat_lt, if◌then◌else◌}
use Rattle.std.proofs.lemmas.Option.{none-some, same_Some, slice_get_within}
use Rattle.std.proofs.lemmas.Bool.{cases_eq, and_parts, or_cases, leb-true, ltb-true}
use Rattle.loader.specs.StoreState.{StoreState}
use Rattle.loader.specs.CatalogueView.{CatalogueView, IsCatalogue}
use Rattle.oplog.specs.declared.records.Record.{Record}
use Rattle.oplog.specs.History.{Effect, History, after, state_after, left_by, effect_at}
use Rattle.oplog.specs.Logs.{Log, HandView, tail_of}
use Rattle.oplog.specs.Sessions.{session}
use Rattle.replica.specs.StoreMeaning.{store_meaning, outcome_of, AreUpdates}
use Rattle.replica.specs.Views.{ReplicaView, with_outcome}
use Rattle.replica.proofs.Export.{takes_effect, count_with, at_with, off_with, after_suc}
use Rattle.combiner.specs.Desks.{BatchView, IsBatchOf}
use Rattle.node.specs.declared.parts.Written.{Written}
use Rattle.node.specs.declared.parts.NodeBatch.{NodeBatch}
use Rattle.node.specs.declared.parts.NodeBatch.TheVariants.{Absent, Held, InLog}
use Rattle.schedule.specs.Trace.{Trace, Positions}
use Rattle.schedule.specs.declared.parts.Opening.{Opening}
use Rattle.node.specs.declared.following.NodeReplica.{NodeReplica}
use Rattle.node.specs.Following.{no_records, is_above, has_next, to_run, with_next, with_effect, outcomes_after, replies_after}
use Rattle.node.specs.Steps.{Replays, batch_after, next}
use Rattle.node.proofs.Export.{after_count, after_first}
use Rattle.schedule.specs.Worlds.{NodeView, WorldView, own_of}
use Rattle.schedule.specs.Steps.{Part, inner, seen_of, put_seen}
use Rattle.schedule.specs.Stands.{DeskStands, NodeStands, LogStands, BatchStands, WrittenStands, Stands, batch_in, index_in}
use Rattle.schedule.proofs.Lists.{get_drop}
use Rattle.schedule.proofs.Options.{cond_gives, some_is}
use Rattle.schedule.proofs.Seats.{stage_batch}
use Rattle.schedule.proofs.Calls.{nodes_put, Kept, same_history}
use Rattle.maps.proofs.Export.{length_set}

-- ---- the state

-- the state after one operation more
pub after_next : (c : CatalogueView) (h : History) (k : ℕ) (r : Record) → slice_get h k ≡ Some r
    → state_after store_meaning c h (k + 1) ≡ left_by (store_meaning.update c r.op (state_after store_meaning c h k)) (state_after store_meaning c h k)
after_next c h k r g = let i : k + 1 ≡ suc k = omega arith in ap (λ j. state_after store_meaning c h j) i ∙ after_suc store_meaning c (store_meaning.opening c) h k r g

pub first_there : (h rs : History) (r : Record) (tail : ℕ) → ((j : ℕ) (f : Record) → slice_get (r ∷ rs) j ≡ Some f → slice_get h (tail + j) ≡ Some f) → slice_get h tail ≡ Some r
first_there h rs r tail next = let i : tail + 0 ≡ tail = omega arith in subst (λ k. slice_get h k ≡ Some r) i (next 0 r refl)

pub later_there : (h rs : History) (r : Record) (tail : ℕ) → ((j : ℕ) (f : Record) → slice_get (r ∷ rs) j ≡ Some f → slice_get h (tail + j) ≡ Some f) → (j : ℕ) (f : Record) → slice_get rs j ≡ Some f → slice_get h ((tail + 1) + j) ≡ Some f
later_there h rs r tail next j f g = let i : tail + suc j ≡ (tail + 1) + j = omega arith in subst (λ k. slice_get h k ≡ Some f) i (next (suc j) f g)

-- a replica that applies the next records of the history is then at the end of them
pub after_all : (c : CatalogueView) (h rs : History) (tail : ℕ) (state : StoreState) → ((j : ℕ) (f : Record) → slice_get rs j ≡ Some f → slice_get h (tail + j) ≡ Some f)
    → state ≡ state_after store_meaning c h tail → tail ≤ length h
    → (after store_meaning c state rs ≡ state_after store_meaning c h (tail + length rs)) × (tail + length rs ≤ length h)
after_all c h [] tail state next is inside = let i : tail ≡ tail + 0 = omega arith in (is ∙ ap (λ k. state_after store_meaning c h k) i, omega arith)
after_all c h (r ∷ rs) tail state next is inside =
    let there = first_there h rs r tail next in
    let within = slice_get_within h tail r there in
    let step = ap (λ y. left_by (store_meaning.update c r.op y) y) is ∙ sym (after_next c h tail r there) in
    let more = after_all c h rs (tail + 1) (left_by (store_meaning.update c r.op state) state) (later_there h rs r tail next) step (omega arith) in
    let i : (tail + 1) + length rs ≡ tail + suc (length rs) = omega arith in
    (more.0 ∙ ap (λ k. state_after store_meaning c h k) i, (let l = more.1 in omega arith))

-- ---- the batch

abbrev replica_at : ℕ → StoreState → ReplicaView
replica_at tail state = record { tail = tail; state = state }

abbrev hand_of : HandView → History → HandView
hand_of hand rs = record hand { records = rs }

-- the record at the tail is applied, with this effect
written_next : (m : Opening) (h : History) (tail : ℕ) (state : StoreState) (hand : HandView) (r : Record) (rs : History) (b : Written) (e : Effect StoreState) (new : StoreState)
    → slice_get h tail ≡ Some r → effect_at store_meaning m.catalogue h tail r.op ≡ Some e
    → WrittenStands m h (replica_at tail state) (hand_of hand (r ∷ rs)) b
    → WrittenStands m h (replica_at (tail + 1) new) (hand_of hand rs) (record b { replies = with_outcome b.replies tail (outcome_of e) })
written_next m h tail state hand r rs b e new there takes x =
    let a = x.ahead in
    let same_count = count_with b.replies tail (outcome_of e) in
    record {
      placed = λ k q l g. x.placed k q (omega arith) g;
      ahead = omega arith;
      known = λ k q l g below.
          let within : k < length b.replies.outcomes = omega arith in
          ⊎_elim
          (λ now.
          let same : r ≡ q = same_Some r q (sym there ∙ subst (λ i. slice_get h i ≡ Some q) now (x.placed k q within g)) in (
            e,
            ap (λ i. effect_at store_meaning m.catalogue h i q.op) now ∙ ap (λ y. effect_at store_meaning m.catalogue h tail y.op) (sym same) ∙ takes,
            at_with b.replies tail k (outcome_of e) now within,
          ))
          (λ other. let old = x.known k q within g (omega arith) in (old.0, old.1, off_with b.replies tail k (outcome_of e) other ∙ old.2))
          (cases_eq (b.replies.first + k) tail);
      ended = λ short. let f = x.ended (omega arith) in omega arith;
    }

-- the records are applied, one by one
pub written_all : (m : Opening) (h rs : History) (tail : ℕ) (state : StoreState) (hand : HandView) (b : Written) (new : ReplicaView) (left : HandView)
    → IsCatalogue m.catalogue → AreUpdates m.catalogue h → ((j : ℕ) (f : Record) → slice_get rs j ≡ Some f → slice_get h (tail + j) ≡ Some f) → state ≡ state_after store_meaning m.catalogue h tail
    → new.tail ≡ tail + length rs → left.records ≡ []
    → WrittenStands m h (replica_at tail state) (hand_of hand rs) b
    → WrittenStands m h new left (record b { replies = outcomes_after m.catalogue state tail rs b.replies })
written_all m h [] tail state hand b new left whole updates next is at empty x =
    let a = x.ahead in
    let nothing : length left.records ≡ 0 = ap length empty in
    record {
      placed = x.placed;
      ahead = omega arith;
      known = λ k r l g below. x.known k r l g (omega arith);
      ended = λ short. let f = x.ended short in omega arith;
    }
written_all m h (r ∷ rs) tail state hand b new left whole updates next is at empty x =
    let there = first_there h rs r tail next in
    let has = takes_effect m.catalogue whole h tail r.op updates (updates tail r there) in
    let takes = has.1 in
    let known = ap (λ y. store_meaning.update m.catalogue r.op y) is ∙ takes in
    let step = ap (λ y. left_by (store_meaning.update m.catalogue r.op y) y) is ∙ sym (after_next m.catalogue h tail r there) in
    written_all m h rs (tail + 1) (left_by (store_meaning.update m.catalogue r.op state) state) hand (record b { replies = with_effect b.replies tail (store_meaning.update m.catalogue r.op state) }) new left
    whole updates (later_there h rs r tail next) step (omega arith) empty
    (subst (λ o. WrittenStands m h (replica_at (tail + 1) (left_by (store_meaning.update m.catalogue r.op state) state)) (hand_of hand rs) (record b { replies = with_effect b.replies tail o })) (sym known)
    (written_next m h tail state hand r rs b _ (left_by (store_meaning.update m.catalogue r.op state) state) there takes x))

kept_records : (c : CatalogueView) (own : NodeReplica) (b : NodeBatch) → batch_in (batch_after c own b) ≡ batch_in b
kept_records c own Absent = refl
kept_records c own (Held b) = refl
kept_records c own (InLog b) = refl

kept_positions : (c : CatalogueView) (own : NodeReplica) (b : NodeBatch) (k : ℕ) → index_in b k ≡ index_in (batch_after c own b) k
kept_positions c own Absent k = refl
kept_positions c own (Held b) k = refl
kept_positions c own (InLog b) k =
    ap (λ n. if nat_lt k n then Some (b.replies.first + k) else None) (sym (after_count c own.replica.state own.replica.tail own.hand.records b.replies))
    ∙ ap (λ i. if nat_lt k (length (replies_after c own b.replies).outcomes) then Some (i + k) else None) (sym (after_first c own.replica.state own.replica.tail own.hand.records b.replies))

-- what is in the hand comes next
abbrev pub ComesNext : History → NodeReplica → Type 0
ComesNext h own = (j : ℕ) (f : Record) → slice_get own.hand.records j ≡ Some f → slice_get h (own.replica.tail + j) ≡ Some f

batch_all : (m : Opening) (h : History) (own : NodeReplica) (b : NodeBatch) (new : ReplicaView) (left : HandView)
    → IsCatalogue m.catalogue → AreUpdates m.catalogue h → ComesNext h own → own.replica.state ≡ state_after store_meaning m.catalogue h own.replica.tail
    → new.tail ≡ own.replica.tail + length own.hand.records → left.records ≡ []
    → BatchStands m h own.replica own.hand b → BatchStands m h new left (batch_after m.catalogue own b)
batch_all m h own Absent new left whole updates next is at empty x = tt
batch_all m h own (Held b) new left whole updates next is at empty x = tt
batch_all m h own (InLog b) new left whole updates next is at empty x =
    written_all m h own.hand.records own.replica.tail own.replica.state own.hand b new left whole updates next is at empty x

-- a hand has no fewer records
longer_hand : (m : Opening) (h : History) (replica : ReplicaView) (hand more : HandView) (b : NodeBatch) → length hand.records ≤ length more.records → BatchStands m h replica hand b → BatchStands m h replica more b
longer_hand m h replica hand more Absent le x = x
longer_hand m h replica hand more (Held b) le x = x
longer_hand m h replica hand more (InLog b) le x =
    let a = x.ahead in
    record { placed = x.placed; ahead = omega arith; known = x.known; ended = λ short. let f = x.ended short in omega arith }

-- there is a record to apply
next_is : (g : Log) (own : NodeReplica) → has_next g own ≡ true → (own.hand.records ≢ []) ⊎ ((g.base ≤ own.replica.tail) × (own.replica.tail < tail_of g))
next_is g own next =
    ⊎_elim (λ y. inl (some_is own.hand.records y))
    (λ y. let q = and_parts (is_above g own) (nat_lt own.replica.tail (tail_of g)) y in inr (leb-true g.base own.replica.tail q.0, ltb-true own.replica.tail (tail_of g) q.1))
    (or_cases (not (no_records own.hand.records)) (is_above g own && nat_lt own.replica.tail (tail_of g)) next)

-- what is run comes next, and the batch stands over it
pub runs_next : (m : Opening) (g : Log) (h : History) (positions : Positions) (t : Trace) (n : ℕ) (node : NodeView) → has_next g (own_of node) ≡ true → LogStands m g h → NodeStands m g.done h positions t n node
    → ComesNext h (with_next g (own_of node)) × BatchStands m h node.replica (with_next g (own_of node)).hand node.batch
runs_next m g h positions t n node next log x =
    let runs = go node.hand.records refl (next_is g (own_of node) next) in
    (runs.0, longer_hand m h node.replica node.hand (with_next g (own_of node)).hand node.batch runs.1 x.batch)
  where
    go : (hand : History) → node.hand.records ≡ hand → (node.hand.records ≢ []) ⊎ ((g.base ≤ node.replica.tail) × (node.replica.tail < tail_of g))
        → ((j : ℕ) (f : Record) → slice_get (to_run g node.replica.tail hand) j ≡ Some f → slice_get h (node.replica.tail + j) ≡ Some f) × (length node.hand.records ≤ length (to_run g node.replica.tail hand))
    go [] is can =
        let b : g.base ≤ node.replica.tail = ⊎_elim (λ ne. absurd (ne is)) (λ y. y.0) can in
        let none : length node.hand.records ≡ 0 = ap length is in (
          λ j f at. let i : g.base + ((node.replica.tail - g.base) + j) ≡ node.replica.tail + j = omega arith in
              subst (λ k. slice_get h k ≡ Some f) i (log.kept ((node.replica.tail - g.base) + j) f (sym (get_drop g.records (node.replica.tail - g.base) j) ∙ at)),
          omega arith,
        )
    go (r ∷ rs) is can =
        let all : length node.hand.records ≡ length (r ∷ rs) = ap length is in
        (subst (λ hand. (j : ℕ) (f : Record) → slice_get hand j ≡ Some f → slice_get h (node.replica.tail + j) ≡ Some f) is x.replica.next, omega arith)

pub keeps_replay : (m : Opening) (w : WorldView) (h : History) (positions : Positions) (t : Trace) (n : ℕ) (node : NodeView) (p : Part)
    → slice_get w.nodes n ≡ Some node → inner m Replays w.log node ≡ Some p → Stands m w h positions t → Kept m w h positions t n p
keeps_replay m w h positions t n node p at_n taken x =
    let c = cond_gives (has_next w.log (own_of node)) _ p taken in
    let o = x.nodes n node at_n in
    let own : NodeReplica = with_next w.log (own_of node) in
    let runs = runs_next m w.log h positions t n node c.0 x.log o in
    let end = after_all m.catalogue h own.hand.records node.replica.tail node.replica.state runs.0 o.replica.state o.replica.tail in
    let new : NodeView = (put_seen node (next m.catalogue Replays (seen_of w.log node))).node in
    subst (λ z. Kept m w h positions t n z) (same_Some _ p c.1)
    (same_history m (record { log = w.log; nodes = slice_set w.nodes n new }) h positions t (record {
      catalogue = x.catalogue;
      explains = x.explains;
      log = x.log;
      count = length_set w.nodes n new ∙ x.count;
      callers = x.callers;
      stamps = x.stamps;
      nodes = nodes_put (λ k y. NodeStands m w.log.done h positions t k y) w.nodes n new (λ k old ne g. x.nodes k old g)
          (record {
            replica = record { tail = end.1; state = end.0; begins = refl; next = λ j f g. absurd (none-some f g); window = o.replica.window; long = o.replica.long };
            desk = same_desk m w n node o.desk;
            batch = batch_all m h own node.batch new.replica new.hand x.catalogue x.explains.updates runs.0 o.replica.state refl refl runs.1;
            seats = λ s y read there begun. stage_batch m w.log.done h positions t (session m.config n s) node.batch new.batch y.count y.stage read
                (λ k q at is. (
                  subst (λ b. slice_get b.records k ≡ Some q) (sym (kept_records m.catalogue own node.batch)) at,
                  kept_positions m.catalogue own node.batch k,
                ))
                (o.seats s y read there begun);
          });
    }))
  where
    same_desk : (m : Opening) (w : WorldView) (n : ℕ) (node : NodeView) → DeskStands m n node → DeskStands m n (put_seen node (next m.catalogue Replays (seen_of w.log node))).node
    same_desk m w n node d =
        let same = kept_records m.catalogue (with_next w.log (own_of node)) node.batch in
        record {
          number = d.number;
          slots = d.slots;
          reads = d.reads;
          own = subst (λ b. IsBatchOf node.desk b) (sym same) d.own;
          answers = subst (λ (b : BatchView). length b.answers ≡ length b.records) (sym same) d.answers;
        }
