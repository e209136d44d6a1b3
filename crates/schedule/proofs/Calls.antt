-- The steps of one slot: a call or an answer.
use Rattle.std.proofs.Common.{◌≡◌, ◌≢◌, ℕ, suc, ◌+◌, ◌*◌, ◌<◌, ◌≤◌, false, List, [], ◌∷◌, ◌++◌, length, Option, Some, None, refl, sym, ap, ◌∙◌, ⊎_elim, arith, subst}
use Rattle.std.specs.Prelude.{slice_get, slice_set, ◌&&◌, nat_le, option_map}
use Rattle.std.proofs.lemmas.Option.{same_Some, slice_get_within}
use Rattle.std.proofs.lemmas.Bool.{cases_eq, and_parts, leb-true}
use Rattle.std.proofs.lemmas.List.{append-nil}
use Rattle.verifier.specs.declared.refusal.Mode.{Mode}
use Rattle.verifier.specs.declared.refusal.Mode.TheVariants.{Update, Read}
use Rattle.oplog.specs.Calls.{Call as ProgramCall}
use Rattle.oplog.specs.Operations.{Operation}
use Rattle.oplog.specs.declared.records.Op.TheVariants.{Run}
use Rattle.oplog.specs.History.{History, ReadEffect, read_reply_at}
use Rattle.oplog.specs.Sessions.{session}
use Rattle.combiner.specs.declared.slots.Reply.{Reply}
use Rattle.combiner.specs.declared.slots.Reply.TheVariants.{Placed, Ended}
use Rattle.combiner.specs.declared.slots.Stage.{Stage}
use Rattle.combiner.specs.declared.slots.Stage.TheVariants.{Empty, Posted, Claimed, Answered}
use Rattle.combiner.specs.declared.slots.Slot.{Slot}
use Rattle.combiner.specs.Slots.{slot, is_claimed, counted}
use Rattle.combiner.specs.Desks.{DeskView, first_author, with_slot, claimed_from, posted, collected}
use Rattle.replica.specs.StoreMeaning.{store_meaning, is_operation}
use Rattle.schedule.specs.declared.parts.BegunRead.{BegunRead}
use Rattle.node.specs.declared.parts.NodeBatch.{NodeBatch}
use Rattle.schedule.specs.Trace.{Answer, Updated, ReadBack, Event, Call, Back, Trace, Positions, caller, IsOpen, StampBefore, stamp}
use Rattle.schedule.specs.declared.parts.Opening.{Opening}
use Rattle.schedule.specs.Explains.{count_of}
use Rattle.schedule.specs.Worlds.{NodeView, WorldView}
use Rattle.schedule.specs.Steps.{Part, with_call_or_back, put_part, with_event, session_of_slot, is_idle, is_free, no_read, post, collect, read_begin, read_answer, with_read}
use Rattle.schedule.specs.Stands.{OpenAt, ReplyStands, StageStands, DeskStands, NodeStands, LogStands, Stands}
use Rattle.schedule.proofs.Lists.{get_snoc, get_set, set_same}
use Rattle.schedule.proofs.Options.{cond_gives, map_gives, free_is, no_read_is, read_is, posted_is, collected_is}
use Rattle.schedule.proofs.Slots.{claimed_same}
use Rattle.schedule.proofs.Traces.{open_new, open_once, idle_back, op_in, stamp_less}
use Rattle.schedule.proofs.Explained.{Fine, Right, explains_event, in_trace}
use Rattle.schedule.proofs.Seats.{other_slot, other_node, stage_event}
use Rattle.maps.proofs.Export.{length_set}
use Rattle.machine.proofs.Export.{get_inside, and_then_some}

-- each node but one is as before
pub nodes_put : (P : ℕ → NodeView → Type 0) (nodes : List NodeView) (n : ℕ) (node : NodeView) → ((k : ℕ) (old : NodeView) → k ≢ n → slice_get nodes k ≡ Some old → P k old) → P n node
    → (k : ℕ) (new : NodeView) → slice_get (slice_set nodes n node) k ≡ Some new → P k new
nodes_put P nodes n node others this k new g =
    ⊎_elim (λ (at, is). subst (λ j. P j new) (sym at) (subst (λ y. P n y) (sym is) this)) (λ (ne, old). others k new ne old) (get_set nodes n node k new g)

-- some longer history stands for the store after a step
abbrev pub Kept : Opening → WorldView → History → Positions → Trace → ℕ → Part → Type 0
Kept m w h positions t n p = (more : History) × (later : Positions) × Stands m (put_part w n p).world (h ++ more) (positions ++ later) (with_event t p.event)

pub same_history : (m : Opening) (w : WorldView) (h : History) (positions : Positions) (t : Trace) → Stands m w h positions t → (more : History) × (later : Positions) × Stands m w (h ++ more) (positions ++ later) t
same_history m w h positions t x = ([], [], subst (λ g. Stands m w g (positions ++ []) t) (sym (append-nil h)) (subst (λ ps. Stands m w h ps t) (sym (append-nil positions)) x))

-- ---- the desk

-- the session of a slot
pub session_is : (m : Opening) (n : ℕ) (node : NodeView) (s : ℕ) → DeskStands m n node → session_of_slot node s ≡ session m.config n s
session_is m n node s d = ap (λ k. k * length node.desk.slots + s) d.number ∙ ap (λ k. n * k + s) d.slots

-- a slot that is not claimed changes, and is not claimed then
pub desk_put : (m : Opening) (n : ℕ) (node : NodeView) (s : ℕ) (x y : Slot) → slice_get node.desk.slots s ≡ Some x → is_claimed x.stage ≡ false → is_claimed y.stage ≡ false
    → DeskStands m n node → DeskStands m n (record node { desk = with_slot node.desk s y })
desk_put m n node s x y at before now d =
    let long : length (slice_set node.desk.slots s y) ≡ length node.desk.slots = length_set node.desk.slots s y in
    record {
      number = d.number;
      slots = long ∙ d.slots;
      reads = d.reads;
      own = d.own ∙ sym (claimed_same (first_author node.desk) node.desk.slots s x y at before now)
          ∙ ap (λ k. claimed_from (node.desk.node * k) (slice_set node.desk.slots s y)) (sym long);
      answers = d.answers;
    }

read_put : (m : Opening) (n : ℕ) (node : NodeView) (s : ℕ) (read : Option BegunRead) → DeskStands m n node → DeskStands m n (with_read node s read)
read_put m n node s read d = record { number = d.number; slots = d.slots; reads = length_set node.reads s read ∙ d.reads; own = d.own; answers = d.answers }

-- ---- an event of one slot

abbrev pub stamp_of : Opening → Event → ℕ
stamp_of m (Call x mode op) = 0
stamp_of m (Back x a) = stamp m.config.limit a

-- the node with another desk and other reads
abbrev pub seats_of : NodeView → DeskView → List (Option BegunRead) → NodeView
seats_of node desk reads = record node { desk = desk; reads = reads }

-- but for slot s the desk and the reads are as before
abbrev pub AreOthers : NodeView → DeskView → List (Option BegunRead) → ℕ → Type 0
AreOthers node desk reads s =
    (j : ℕ) (x : Slot) (read : Option BegunRead) → j ≢ s → slice_get desk.slots j ≡ Some x → slice_get reads j ≡ Some read → (slice_get node.desk.slots j ≡ Some x) × (slice_get node.reads j ≡ Some read)

others_put : (node : NodeView) (s : ℕ) (y : Slot) → AreOthers node (with_slot node.desk s y) node.reads s
others_put node s y j x read ne g f = (⊎_elim (λ same. absurd (ne same.0)) (λ old. old.1) (get_set node.desk.slots s y j x g), f)

others_read : (node : NodeView) (s : ℕ) (r : Option BegunRead) → AreOthers node node.desk (slice_set node.reads s r) s
others_read node s r j x read ne g f = (g, ⊎_elim (λ same. absurd (ne same.0)) (λ old. old.1) (get_set node.reads s r j read f))

pub seat_event : (m : Opening) (w : WorldView) (h : History) (positions : Positions) (t : Trace) (n s : ℕ) (node : NodeView) (desk : DeskView) (reads : List (Option BegunRead)) (e : Event)
    → slice_get w.nodes n ≡ Some node → s < m.config.slots → caller e ≡ session m.config n s → Fine m h positions t e → stamp_of m e ≤ w.log.done
    → DeskStands m n (seats_of node desk reads) → AreOthers node desk reads s
    → ((x : Slot) (read : Option BegunRead) → slice_get desk.slots s ≡ Some x → slice_get reads s ≡ Some read → StageStands m w.log.done h positions (t ++ e ∷ []) (session m.config n s) node.batch x.count x.stage read)
    → Stands m w h positions t → Stands m (record { log = w.log; nodes = slice_set w.nodes n (seats_of node desk reads) }) h positions (t ++ e ∷ [])
seat_event m w h positions t n s node desk reads e at_n inside by fine early stands others this x = record {
  catalogue = x.catalogue;
  explains = explains_event e x.explains fine;
  log = x.log;
  count = length_set w.nodes n (seats_of node desk reads) ∙ x.count;
  callers = λ c y mode op g. ⊎_elim (λ old. x.callers c y mode op old)
      (λ new. (n, (s, inside, sym (ap caller new.1) ∙ by, (let l = slice_get_within w.nodes n node at_n in let count = x.count in omega arith))))
      (get_snoc t e c (Call y mode op) g);
  stamps = λ b y a g. ⊎_elim (λ old. x.stamps b y a old) (λ new. let is = new.1 in subst (λ f. stamp_of m f ≤ w.log.done) is early) (get_snoc t e b (Back y a) g);
  nodes = nodes_put (λ k y. NodeStands m w.log.done h positions (t ++ e ∷ []) k y) w.nodes n (seats_of node desk reads)
      (λ k old ne g. let o = x.nodes k old g in record {
        replica = o.replica;
        desk = o.desk;
        batch = o.batch;
        seats = λ j y read there begun.
            let within : j < m.config.slots = (let a = slice_get_within old.desk.slots j y there in let b = o.desk.slots in omega arith) in
            stage_event m w.log.done h positions t (session m.config k j) old.batch y.count y.stage read e (λ same. other_node m.config n k s j inside within ne (sym by ∙ same)) (o.seats j y read there begun);
      })
      (let o = x.nodes n node at_n in record {
        replica = o.replica;
        desk = stands;
        batch = o.batch;
        seats = λ j y read there begun.
            ⊎_elim
            (λ same. subst (λ i. StageStands m w.log.done h positions (t ++ e ∷ []) (session m.config n i) node.batch y.count y.stage read) (sym same)
            (this y read (subst (λ i. slice_get desk.slots i ≡ Some y) same there) (subst (λ i. slice_get reads i ≡ Some read) same begun)))
            (λ ne.
            let old = others j y read ne there begun in
            let within : j < m.config.slots = (let a = slice_get_within node.desk.slots j y old.0 in let b = o.desk.slots in omega arith) in
            stage_event m w.log.done h positions t (session m.config n j) node.batch y.count y.stage read e (λ same. other_slot m.config n n s j inside within ne (sym by ∙ same)) (o.seats j y read old.0 old.1))
            (cases_eq j s);
      });
}

-- ---- the four steps

-- what stands of a slot, by what is there
pub stage_at : (m : Opening) (done : ℕ) (h : History) (positions : Positions) (t : Trace) (n s : ℕ) (node : NodeView) (x : Slot) (st : Stage) (read : Option BegunRead) → NodeStands m done h positions t n node
    → slice_get node.desk.slots s ≡ Some x → slice_get node.reads s ≡ Some read → x.stage ≡ st → StageStands m done h positions t (session m.config n s) node.batch x.count st read
stage_at m done h positions t n s node x st read o at begun is = subst (λ y. StageStands m done h positions t (session m.config n s) node.batch x.count y read) is (o.seats s x read at begun)

slot_in : (m : Opening) (n s : ℕ) (node : NodeView) (x : Slot) → DeskStands m n node → slice_get node.desk.slots s ≡ Some x → s < m.config.slots
slot_in m n s node x d at = let a = slice_get_within node.desk.slots s x at in let b = d.slots in omega arith

pub keeps_post : (m : Opening) (w : WorldView) (h : History) (positions : Positions) (t : Trace) (n s : ℕ) (op : Operation) (node : NodeView) (p : Part)
    → slice_get w.nodes n ≡ Some node → post m s op w.log node ≡ Some p → Stands m w h positions t → Kept m w h positions t n p
keeps_post m w h positions t n s op node p at_n taken x =
    let o = x.nodes n node at_n in
    let e = session_is m n node s o.desk in
    let c = cond_gives (is_idle node s && is_operation Update m.catalogue op) _ p taken in
    let d = map_gives (λ desk. with_call_or_back (Call (session_of_slot node s) Update op) w.log (record node { desk = desk })) (posted s op node.desk) p c.1 in
    let tests = and_parts (is_idle node s) (is_operation Update m.catalogue op) c.0 in
    let idle = and_parts (is_free (slice_get node.desk.slots s)) (no_read (slice_get node.reads s)) tests.0 in
    let free = free_is (slice_get node.desk.slots s) idle.0 in
    let no_begun = no_read_is (slice_get node.reads s) idle.1 in
    let y : Slot = slot (Posted op) (free.0).count in
    let old = stage_at m w.log.done h positions t n s node free.0 Empty None o free.1 no_begun free.2 in
    let made : Kept m w h positions t n (with_call_or_back (Call (session_of_slot node s) Update op) w.log (record node { desk = with_slot node.desk s y })) =
    same_history m (record { log = w.log; nodes = slice_set w.nodes n (record node { desk = with_slot node.desk s y }) }) h positions (t ++ Call (session_of_slot node s) Update op ∷ [])
    (subst (λ z. Stands m (record { log = w.log; nodes = slice_set w.nodes n (record node { desk = with_slot node.desk s y }) }) h positions (t ++ Call z Update op ∷ [])) (sym e)
    (seat_event m w h positions t n s node (with_slot node.desk s y) node.reads (Call (session m.config n s) Update op) at_n (slot_in m n s node free.0 o.desk free.1) refl old.0 (omega arith)
    (desk_put m n node s free.0 y free.1 (ap is_claimed free.2) refl o.desk) (others_put node s y)
    (λ z read there begun.
    let is : y ≡ z = same_Some y z (sym (set_same node.desk.slots s free.0 y free.1) ∙ there) in
    let nothing : None ≡ read = same_Some None read (sym no_begun ∙ begun) in
    subst (λ v. StageStands m w.log.done h positions (t ++ Call (session m.config n s) Update op ∷ []) (session m.config n s) node.batch v.count v.stage read) is
    (subst (λ v. StageStands m w.log.done h positions (t ++ Call (session m.config n s) Update op ∷ []) (session m.config n s) node.batch y.count y.stage v) nothing (
      length t,
      record {
        is_open = open_new t (session m.config n s) Update op;
        may = tests.1;
        has = λ i g. let l = (in_trace x.explains i (length t) g).1 in absurd (omega arith);
        counts = old.1 ∙ (let z : (free.0).count ≡ (free.0).count + 0 = omega arith in z);
      },
    )))
    x)) in
    subst (λ z. Kept m w h positions t n z) d.2 (subst (λ z. Kept m w h positions t n (with_call_or_back (Call (session_of_slot node s) Update op) w.log (record node { desk = z }))) (posted_is s op node.desk d.0 free.0 free.1 d.1) made)

pub right_open : (m : Opening) (h : History) (positions : Positions) (t : Trace) (x : ℕ) (mode : Mode) (op : Operation) (c : ℕ) (a : Answer) → IsOpen t x mode op c → Right m h positions t op c a → (k : Mode) (o : Operation) (d : ℕ) → IsOpen t x k o d → Right m h positions t o d a
right_open m h positions t x mode op c a open_c right k o d open_d =
    let w = open_once open_c open_d in
    let same : op ≡ o = ap (op_in op) w.1 in
    subst (λ y. Right m h positions t y d a) same (subst (λ y. Right m h positions t op y a) w.0 right)

-- an answer that waits at a slot where no read was begun
answer_waits : (m : Opening) (done : ℕ) (h : History) (positions : Positions) (t : Trace) (x : ℕ) (batch : NodeBatch) (count : ℕ) (reply : Reply) (read : Option BegunRead)
    → StageStands m done h positions t x batch count (Answered reply) read → (read ≡ None) × ReplyStands m done h positions t x count reply
answer_waits m done h positions t x batch count reply None p = (refl, p)
answer_waits m done h positions t x batch count reply (Some read) p = absurd p

rightly : (m : Opening) (w : WorldView) (h : History) (positions : Positions) (t : Trace) (x count : ℕ) (reply : Reply) → LogStands m w.log h → ReplyStands m w.log.done h positions t x count reply
    → Fine m h positions t (Back x (Updated reply)) × (stamp m.config.limit (Updated reply) ≤ w.log.done) × (count_of x h ≡ counted reply count)
rightly m w h positions t x count (Placed i r) log p =
    let l = p.3 in
    let c = (p.2).counts in
    let counts : count_of x h ≡ suc count = omega arith in
    ((Update, p.0, p.1, (p.2).is_open, tt, right_open m h positions t x Update p.0 p.1 (Updated (Placed i r)) (p.2).is_open ((p.2).has, p.4)), omega arith, counts)
rightly m w h positions t x count Ended log p =
    let l = p.3 in
    let d = log.done in
    let f = log.within in
    let c = (p.2).counts in
    let counts : count_of x h ≡ count = omega arith in
    ((Update, p.0, p.1, (p.2).is_open, tt, right_open m h positions t x Update p.0 p.1 (Updated Ended) (p.2).is_open ((p.2).has, omega arith)), p.3, counts)

pub keeps_collect : (m : Opening) (w : WorldView) (h : History) (positions : Positions) (t : Trace) (n s : ℕ) (node : NodeView) (p : Part)
    → slice_get w.nodes n ≡ Some node → collect s w.log node ≡ Some p → Stands m w h positions t → Kept m w h positions t n p
keeps_collect m w h positions t n s node p at_n taken x =
    let o = x.nodes n node at_n in
    let e = session_is m n node s o.desk in
    let d = map_gives (λ c. with_call_or_back (Back (session_of_slot node s) (Updated c.reply)) w.log (record node { desk = c.desk })) (collected s node.desk) p taken in
    let reply : Reply = d.0.reply in
    let was = collected_is s node.desk d.0 d.1 in
    let y : Slot = slot Empty (counted reply (was.0).count) in
    let begun : (read : Option BegunRead) × (slice_get node.reads s ≡ Some read) = get_inside node.reads s (let a = slot_in m n s node was.0 o.desk was.1 in let b = o.desk.reads in omega arith) in
    let old = answer_waits m w.log.done h positions t (session m.config n s) node.batch (was.0).count reply begun.0 (stage_at m w.log.done h positions t n s node was.0 (Answered reply) begun.0 o was.1 begun.1 was.2) in
    let r = rightly m w h positions t (session m.config n s) (was.0).count reply x.log old.1 in
    let made : Kept m w h positions t n (with_call_or_back (Back (session_of_slot node s) (Updated reply)) w.log (record node { desk = with_slot node.desk s y })) =
    same_history m (record { log = w.log; nodes = slice_set w.nodes n (record node { desk = with_slot node.desk s y }) }) h positions (t ++ Back (session_of_slot node s) (Updated reply) ∷ [])
    (subst (λ z. Stands m (record { log = w.log; nodes = slice_set w.nodes n (record node { desk = with_slot node.desk s y }) }) h positions (t ++ Back z (Updated reply) ∷ [])) (sym e)
    (seat_event m w h positions t n s node (with_slot node.desk s y) node.reads (Back (session m.config n s) (Updated reply)) at_n (slot_in m n s node was.0 o.desk was.1) refl r.0 r.1
    (desk_put m n node s was.0 y was.1 (ap is_claimed was.2) refl o.desk) (others_put node s y)
    (λ z read there again.
    let is : y ≡ z = same_Some y z (sym (set_same node.desk.slots s was.0 y was.1) ∙ there) in
    let nothing : None ≡ read = sym old.0 ∙ same_Some begun.0 read (sym begun.1 ∙ again) in
    subst (λ v. StageStands m w.log.done h positions (t ++ Back (session m.config n s) (Updated reply) ∷ []) (session m.config n s) node.batch v.count v.stage read) is
    (subst (λ v. StageStands m w.log.done h positions (t ++ Back (session m.config n s) (Updated reply) ∷ []) (session m.config n s) node.batch y.count y.stage v) nothing
    (idle_back t (session m.config n s) (Updated reply), r.2)))
    x)) in
    subst (λ z. Kept m w h positions t n z) d.2 (subst (λ z. Kept m w h positions t n (with_call_or_back (Back (session_of_slot node s) (Updated reply)) w.log (record node { desk = z }))) was.3 made)

pub keeps_read_begin : (m : Opening) (w : WorldView) (h : History) (positions : Positions) (t : Trace) (n s : ℕ) (call : ProgramCall) (node : NodeView) (p : Part)
    → slice_get w.nodes n ≡ Some node → read_begin m s call w.log node ≡ Some p → Stands m w h positions t → Kept m w h positions t n p
keeps_read_begin m w h positions t n s call node p at_n taken x =
    let o = x.nodes n node at_n in
    let e = session_is m n node s o.desk in
    let c = cond_gives (is_idle node s && is_operation Read m.catalogue (Run call)) _ p taken in
    let tests = and_parts (is_idle node s) (is_operation Read m.catalogue (Run call)) c.0 in
    let idle = and_parts (is_free (slice_get node.desk.slots s)) (no_read (slice_get node.reads s)) tests.0 in
    let free = free_is (slice_get node.desk.slots s) idle.0 in
    let no_begun = no_read_is (slice_get node.reads s) idle.1 in
    let begun : BegunRead = record { call = call; seen = w.log.done } in
    let old = stage_at m w.log.done h positions t n s node free.0 Empty None o free.1 no_begun free.2 in
    let made : Kept m w h positions t n (with_call_or_back (Call (session_of_slot node s) Read (Run call)) w.log (with_read node s (Some begun))) =
    same_history m (record { log = w.log; nodes = slice_set w.nodes n (with_read node s (Some begun)) }) h positions (t ++ Call (session_of_slot node s) Read (Run call) ∷ [])
    (subst (λ z. Stands m (record { log = w.log; nodes = slice_set w.nodes n (with_read node s (Some begun)) }) h positions (t ++ Call z Read (Run call) ∷ [])) (sym e)
    (seat_event m w h positions t n s node node.desk (slice_set node.reads s (Some begun)) (Call (session m.config n s) Read (Run call)) at_n (slot_in m n s node free.0 o.desk free.1) refl old.0 (omega arith)
    (read_put m n node s (Some begun) o.desk) (others_read node s (Some begun))
    (λ z read there again.
    let is : free.0 ≡ z = same_Some free.0 z (sym free.1 ∙ there) in
    let same : Some begun ≡ read = same_Some (Some begun) read (sym (set_same node.reads s None (Some begun) no_begun) ∙ again) in
    let here : StageStands m w.log.done h positions (t ++ Call (session m.config n s) Read (Run call) ∷ []) (session m.config n s) node.batch (free.0).count Empty (Some begun) = (
      length t,
      record {
        is_open = open_new t (session m.config n s) Read (Run call);
        may = tests.1;
        has = λ i g. let l = (in_trace x.explains i (length t) g).1 in absurd (omega arith);
        counts = old.1 ∙ (let z : (free.0).count ≡ (free.0).count + 0 = omega arith in z);
      },
      omega arith,
      λ k before. let b = stamp_less m.config.limit t (Call (session m.config n s) Read (Run call)) (omega arith) before in let l = x.stamps b.0 b.1 b.2 b.4 in let e = b.5 in omega arith,
    ) in
    subst (λ v. StageStands m w.log.done h positions (t ++ Call (session m.config n s) Read (Run call) ∷ []) (session m.config n s) node.batch v.count v.stage read) is
    (subst (λ v. StageStands m w.log.done h positions (t ++ Call (session m.config n s) Read (Run call) ∷ []) (session m.config n s) node.batch (free.0).count v read) (sym free.2)
    (subst (λ v. StageStands m w.log.done h positions (t ++ Call (session m.config n s) Read (Run call) ∷ []) (session m.config n s) node.batch (free.0).count Empty v) same here)))
    x)) in
    subst (λ z. Kept m w h positions t n z) (same_Some _ p c.1) made

-- a read that was begun, at a slot that has no request
read_waits : (m : Opening) (done : ℕ) (h : History) (positions : Positions) (t : Trace) (x : ℕ) (batch : NodeBatch) (count : ℕ) (st : Stage) (read : BegunRead)
    → StageStands m done h positions t x batch count st (Some read)
    → (st ≡ Empty) × ((c : ℕ) × OpenAt m h positions t x count Read (Run read.call) None c × (read.seen ≤ done) × ((s : ℕ) → StampBefore m.config.limit t c s → s ≤ read.seen))
read_waits m done h positions t x batch count Empty read p = (refl, p)
read_waits m done h positions t x batch count (Posted op) read p = absurd p
read_waits m done h positions t x batch count Claimed read p = absurd p
read_waits m done h positions t x batch count (Answered r) read p = absurd p

pub keeps_read_answer : (m : Opening) (w : WorldView) (h : History) (positions : Positions) (t : Trace) (n s : ℕ) (node : NodeView) (p : Part)
    → slice_get w.nodes n ≡ Some node → read_answer m s w.log node ≡ Some p → Stands m w h positions t → Kept m w h positions t n p
keeps_read_answer m w h positions t n s node p at_n taken x =
    let o = x.nodes n node at_n in
    let e = session_is m n node s o.desk in
    let r = and_then_some _ _ p taken in
    let read : BegunRead = r.0 in
    let begun : slice_get node.reads s ≡ Some (Some read) = read_is (slice_get node.reads s) read r.1 in
    let c = cond_gives (nat_le read.seen node.replica.tail && nat_le node.replica.tail w.log.done) _ p r.2 in
    let tests = and_parts (nat_le read.seen node.replica.tail) (nat_le node.replica.tail w.log.done) c.0 in
    let seen = leb-true read.seen node.replica.tail tests.0 in
    let done = leb-true node.replica.tail w.log.done tests.1 in
    let d = map_gives (λ (f : ReadEffect). with_call_or_back (Back (session_of_slot node s) (ReadBack (record { point = node.replica.tail; reply = f.reply }))) w.log (with_read node s None)) (store_meaning.read m.catalogue (Run read.call) node.replica.state) p c.1 in
    let a : Answer = ReadBack (record { point = node.replica.tail; reply = d.0.reply }) in
    let there : (y : Slot) × (slice_get node.desk.slots s ≡ Some y) = get_inside node.desk.slots s (let l = slice_get_within node.reads s (Some read) begun in let f = o.desk.reads in let g = o.desk.slots in omega arith) in
    let q = read_waits m w.log.done h positions t (session m.config n s) node.batch (there.0).count (there.0).stage read (o.seats s there.0 (Some read) there.1 begun) in
    let old = q.1 in
    let right : read_reply_at store_meaning m.catalogue h node.replica.tail (Run read.call) ≡ Some d.0.reply =
    ap (λ state. option_map (λ (f : ReadEffect). f.reply) (store_meaning.read m.catalogue (Run read.call) state)) (sym o.replica.state) ∙ ap (option_map (λ (f : ReadEffect). f.reply)) d.1 in
    let made : Kept m w h positions t n (with_call_or_back (Back (session_of_slot node s) a) w.log (with_read node s None)) =
    same_history m (record { log = w.log; nodes = slice_set w.nodes n (with_read node s None) }) h positions (t ++ Back (session_of_slot node s) a ∷ [])
    (subst (λ z. Stands m (record { log = w.log; nodes = slice_set w.nodes n (with_read node s None) }) h positions (t ++ Back z a ∷ [])) (sym e)
    (seat_event m w h positions t n s node node.desk (slice_set node.reads s None) (Back (session m.config n s) a) at_n (slot_in m n s node there.0 o.desk there.1) refl (
      Read,
      Run read.call,
      old.0,
      (old.1).is_open,
      tt,
      right_open m h positions t (session m.config n s) Read (Run read.call) old.0 a (old.1).is_open
          (o.replica.tail, right, λ k before. let l = old.3 k before in omega arith),
    )
    done
    (read_put m n node s None o.desk) (others_read node s None)
    (λ z now at_z again.
    let is : there.0 ≡ z = same_Some there.0 z (sym there.1 ∙ at_z) in
    let same : None ≡ now = same_Some None now (sym (set_same node.reads s (Some read) None begun) ∙ again) in
    let counts = (old.1).counts in
    let here : StageStands m w.log.done h positions (t ++ Back (session m.config n s) a ∷ []) (session m.config n s) node.batch (there.0).count Empty None =
    (idle_back t (session m.config n s) a, counts ∙ (let z : (there.0).count + 0 ≡ (there.0).count = omega arith in z)) in
    subst (λ v. StageStands m w.log.done h positions (t ++ Back (session m.config n s) a ∷ []) (session m.config n s) node.batch v.count v.stage now) is
    (subst (λ v. StageStands m w.log.done h positions (t ++ Back (session m.config n s) a ∷ []) (session m.config n s) node.batch (there.0).count v now) (sym q.0)
    (subst (λ v. StageStands m w.log.done h positions (t ++ Back (session m.config n s) a ∷ []) (session m.config n s) node.batch (there.0).count Empty v) same here)))
    x)) in
    subst (λ z. Kept m w h positions t n z) d.2 made
