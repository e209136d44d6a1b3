-- Answers go to the sessions of a node, slot by slot.
use Rattle.std.proofs.Common.{◌≡◌, ◌≢◌, ℕ, zero, suc, ◌≤◌, ◌<◌, true, List, [], ◌∷◌, length, Option, Some, None, refl, sym, ap, ◌∙◌, inl, inr, ⊎_elim, arith, subst}
use Rattle.std.specs.Prelude.{slice_get, slice_set, cond, option_map, ◌⊎◌, ◌&&◌, nat_le}
use Rattle.std.specs.Option.{option_and_then}
use Rattle.std.proofs.lemmas.Bool.{and_from, le-leb}
use Rattle.std.proofs.lemmas.Option.{slice_get_within}
use Rattle.oplog.specs.declared.records.Record.{Record}
use Rattle.oplog.specs.declared.records.Op.TheVariants.{Run}
use Rattle.oplog.specs.History.{ReadEffect}
use Rattle.oplog.specs.Sessions.{session}
use Rattle.combiner.specs.declared.slots.Stage.{Stage}
use Rattle.combiner.specs.declared.slots.Stage.TheVariants.{Empty, Posted, Claimed, Answered}
use Rattle.combiner.specs.declared.slots.Slot.{Slot}
use Rattle.combiner.specs.declared.slots.Reply.{Reply}
use Rattle.combiner.specs.Slots.{slot, is_empty, requested, requests_from, counted}
use Rattle.combiner.specs.Desks.{DeskView, Collection, first_author, with_slot, answer_in, collected}
use Rattle.replica.specs.StoreMeaning.{store_meaning}
use Rattle.node.specs.declared.parts.NodeBatch.{NodeBatch}
use Rattle.node.specs.Following.{may_answer}
use Rattle.schedule.specs.declared.parts.BegunRead.{BegunRead}
use Rattle.schedule.specs.declared.parts.Opening.{Opening}
use Rattle.schedule.specs.declared.steps.Step.TheVariants.{Collect, ReadAnswer}
use Rattle.schedule.specs.Trace.{Updated, ReadBack, Back, Trace}
use Rattle.schedule.specs.Worlds.{NodeView, own_of}
use Rattle.schedule.specs.Steps.{Part, with_call_or_back, session_of_slot, is_free, no_read, is_idle, with_read, read_answer}
use Rattle.schedule.specs.Stands.{StageStands, batch_in}
use Rattle.schedule.proofs.Export.{set_same, claimed_has, requests_have, has_answer}
use Rattle.settlement.proofs.OwnSteps.{Fact, Stays, Leads, log_after, node_after, set_other}
use Rattle.settlement.proofs.Lines.{IsUp, IsFree, up_stays, posted_at, no_kind, requests_alike, as_claimed}
use Rattle.node.proofs.Export.{get_some}

-- the slots below s are idle
abbrev pub AreIdle : ℕ → NodeView → Type 0
AreIdle s node = (j : ℕ) → j < s → is_idle node j ≡ true

abbrev pub HandsOut : ℕ → ℕ → Fact
HandsOut size s g node = IsUp (IsFree size 0) g node × AreIdle s node

-- and no request is at slot s
abbrev pub HandsRead : ℕ → ℕ → Fact
HandsRead size s g node = IsUp (IsFree size 0) g node × AreIdle s node × (is_free (slice_get node.desk.slots s) ≡ true)

pub hands_stay : (size s : ℕ) → Stays (HandsOut size s)
hands_stay size s g h node (up, idle) t b within more = (up_stays (IsFree size 0) g h node up t b within more, idle)

pub hands_read_stay : (size s : ℕ) → Stays (HandsRead size s)
hands_read_stay size s g h node (up, idle, free) t b within more = (up_stays (IsFree size 0) g h node up t b within more, idle, free)

-- ---- a slot is emptied

emptied_count : (a c s : ℕ) (xs : List Slot) → length (requests_from a (slice_set xs s (slot Empty c))) ≤ length (requests_from a xs)
emptied_count a c s [] = omega arith
emptied_count a c zero (x ∷ xs) = go x.stage
  where
    go : (st : Stage) → length (requests_from (suc a) xs) ≤ length (requested a x.count st (requests_from (suc a) xs))
    go Empty = omega arith
    go (Posted op) = omega arith
    go Claimed = omega arith
    go (Answered r) = omega arith
emptied_count a c (suc s) (x ∷ xs) = go x.stage (emptied_count (suc a) c s xs)
  where
    go : (st : Stage) → length (requests_from (suc a) (slice_set xs s (slot Empty c))) ≤ length (requests_from (suc a) xs)
        → length (requested a x.count st (requests_from (suc a) (slice_set xs s (slot Empty c)))) ≤ length (requested a x.count st (requests_from (suc a) xs))
    go Empty e = e
    go (Posted op) e = omega arith
    go Claimed e = e
    go (Answered r) e = e

emptied_posted : (d : DeskView) (s c : ℕ) → posted_at (with_slot d s (slot Empty c)) ≤ posted_at d
emptied_posted d s c =
    let alike = requests_alike (first_author (with_slot d s (slot Empty c))) (first_author d) (slice_set d.slots s (slot Empty c)) in
    let few = emptied_count (first_author d) c s d.slots in
    omega arith

-- ---- collecting

-- the slots, where one has been emptied
idle_put : (node : NodeView) (s c j : ℕ) → j ≢ s → is_idle node j ≡ true → is_idle (record node { desk = with_slot node.desk s (slot Empty c) }) j ≡ true
idle_put node s c j ne e = ap (λ o. is_free o && no_read (slice_get node.reads j)) (set_other node.desk.slots s (slot Empty c) j ne) ∙ e

collected_of : (s : ℕ) (d : DeskView) (x : Slot) (reply : Reply) → slice_get d.slots s ≡ Some x → x.stage ≡ Answered reply
    → collected s d ≡ Some (record { reply = reply; desk = with_slot d s (slot Empty (counted reply x.count)) })
collected_of s d x reply at is =
    ap (λ o. option_and_then (λ (y : Slot). option_map (λ r. (let k : Collection = record { reply = r; desk = with_slot d s (slot Empty (counted r y.count)) } in k)) (answer_in y.stage)) o) at
    ∙ ap (λ st. option_map (λ r. (let k : Collection = record { reply = r; desk = with_slot d s (slot Empty (counted r x.count)) } in k)) (answer_in st)) is

collected_none : (s : ℕ) (d : DeskView) (x : Slot) → slice_get d.slots s ≡ Some x → x.stage ≡ Empty → collected s d ≡ None
collected_none s d x at is =
    ap (λ o. option_and_then (λ (y : Slot). option_map (λ r. (let k : Collection = record { reply = r; desk = with_slot d s (slot Empty (counted r y.count)) } in k)) (answer_in y.stage)) o) at
    ∙ ap (λ st. option_map (λ r. (let k : Collection = record { reply = r; desk = with_slot d s (slot Empty (counted r x.count)) } in k)) (answer_in st)) is

pub collect_empties : (m : Opening) (n s : ℕ) → s < m.config.slots → Leads m (Collect n s) (HandsOut m.config.slots s) (HandsRead m.config.slots s)
collect_empties m n s inside g node x ((empty, above, end, done, free), idle) =
    let slots = x.stands.desk.slots in
    let y = get_some node.desk.slots s (omega arith) in
    go y.0 y.1 (y.0).stage refl
  where
    Q : Option Collection → Type 0
    Q o = HandsRead m.config.slots s
        (log_after (option_map (λ (c : Collection). with_call_or_back (Back (session_of_slot node s) (Updated c.reply)) g (record node { desk = c.desk })) o) g)
        (node_after (option_map (λ (c : Collection). with_call_or_back (Back (session_of_slot node s) (Updated c.reply)) g (record node { desk = c.desk })) o) node)

    go : (y : Slot) → slice_get node.desk.slots s ≡ Some y → (st : Stage) → y.stage ≡ st → Q (collected s node.desk)
    go y at Empty is =
        let here : is_free (slice_get node.desk.slots s) ≡ true = ap is_free at ∙ ap is_empty is in
        subst Q (sym (collected_none s node.desk y at is)) ((empty, above, end, done, free), idle, here)
    go y at (Posted op) is =
        let r = requests_have node.desk.slots (first_author node.desk) s y op at is in
        let l = slice_get_within _ r.0 _ r.1 in
        let few = free.2 in
        absurd (omega arith)
    go y at Claimed is =
        let r = claimed_has node.desk.slots (first_author node.desk) s y at is in
        let l = slice_get_within _ r.0 _ r.1 in
        let count = as_claimed x in
        let none : length (batch_in node.batch).records ≡ 0 = ap (λ b. length (batch_in b).records) (no_kind node.batch free.0) in
        absurd (omega arith)
    go y at (Answered reply) is =
        let c = counted reply y.count in
        let few = emptied_posted node.desk s c in
        let room = free.1 in
        let zero_posted = free.2 in
        let here : is_free (slice_get (slice_set node.desk.slots s (slot Empty c)) s) ≡ true = ap is_free (set_same node.desk.slots s y (slot Empty c) at) in
        subst Q (sym (collected_of s node.desk y reply at is))
        ((empty, above, end, done, (free.0, omega arith, omega arith)), (λ j lt. idle_put node s c j (λ e. absurd (omega arith)) (idle j lt)), here)

-- ---- reads

-- a read that was begun saw no more than is completed
saw : (m : Opening) (done : ℕ) (h : List Record) (positions : List ℕ) (t : Trace) (x : ℕ) (batch : NodeBatch) (count : ℕ) (st : Stage) (read : BegunRead) → StageStands m done h positions t x batch count st (Some read) → read.seen ≤ done
saw m done h positions t x batch count Empty read p = p.2
saw m done h positions t x batch count (Posted op) read p = absurd p
saw m done h positions t x batch count Claimed read p = absurd p
saw m done h positions t x batch count (Answered r) read p = absurd p

idle_read : (node : NodeView) (s j : ℕ) → j ≢ s → is_idle node j ≡ true → is_idle (with_read node s None) j ≡ true
idle_read node s j ne e = ap (λ o. is_free (slice_get node.desk.slots j) && no_read o) (set_other node.reads s None j ne) ∙ e

-- the slots below the next one are idle, if this one is, too
pub one_more_idle : (node : NodeView) (s : ℕ) → AreIdle s node → is_idle node s ≡ true → AreIdle (suc s) node
one_more_idle node s idle here j lt = ⊎_elim (λ is. subst (λ k. is_idle node k ≡ true) (sym is) here) (λ ne. idle j (below ne)) (same_or j s)
  where
    same_or : (j s : ℕ) → (j ≡ s) ⊎ (j ≢ s)
    same_or zero zero = inl refl
    same_or zero (suc s) = inr (λ e. absurd (omega arith))
    same_or (suc j) zero = inr (λ e. absurd (omega arith))
    same_or (suc j) (suc s) = ⊎_elim (λ e. inl (ap suc e)) (λ ne. inr (λ e. ne (omega arith))) (same_or j s)

    below : j ≢ s → j < s
    below ne = omega arith

pub read_empties : (m : Opening) (n s : ℕ) → s < m.config.slots → Leads m (ReadAnswer n s) (HandsRead m.config.slots s) (HandsOut m.config.slots (suc s))
read_empties m n s inside g node x ((empty, above, end, done, room), idle, free) =
    let reads = x.stands.desk.reads in
    let y = get_some node.reads s (omega arith) in
    go y.0 y.1
  where
    part : ReadEffect → Part
    part e = with_call_or_back (Back (session_of_slot node s) (ReadBack (record { point = node.replica.tail; reply = e.reply }))) g (with_read node s None)

    of : BegunRead → Option Part
    of read = cond (may_answer read.seen g.done (own_of node)) (option_map part (store_meaning.read m.catalogue (Run read.call) node.replica.state)) None

    Q : Option Part → Type 0
    Q o = HandsOut m.config.slots (suc s) (log_after o g) (node_after o node)

    go : (read : Option BegunRead) → slice_get node.reads s ≡ Some read → Q (read_answer m s g node)
    go None at =
        let none : read_answer m s g node ≡ None = ap (λ (o : Option (Option BegunRead)). option_and_then of (option_and_then (λ r. r) o)) at in
        let here : is_idle node s ≡ true = and_from (is_free (slice_get node.desk.slots s)) (no_read (slice_get node.reads s)) free (ap no_read at) in
        subst Q (sym none) ((empty, above, end, done, room), one_more_idle node s idle here)
    go (Some read) at =
        let y = get_some node.desk.slots s (let l = slice_get_within node.reads s (Some read) at in let a = x.stands.desk.slots in let b = x.stands.desk.reads in omega arith) in
        let seen = saw m g.done x.history x.positions x.trace (session m.config x.number s) node.batch (y.0).count (y.0).stage read (x.stands.seats s y.0 (Some read) y.1 at) in
        let e = has_answer x s read at in
        let may : may_answer read.seen g.done (own_of node) ≡ true = and_from (nat_le read.seen node.replica.tail) (nat_le node.replica.tail g.done) (le-leb read.seen node.replica.tail (omega arith)) (le-leb node.replica.tail g.done (omega arith)) in
        let given : read_answer m s g node ≡ Some (part e.0) =
        ap (λ (o : Option (Option BegunRead)). option_and_then of (option_and_then (λ r. r) o)) at
        ∙ (ap (λ b. cond b (option_map part (store_meaning.read m.catalogue (Run read.call) node.replica.state)) None) may
        ∙ ap (λ o. option_map part o) e.1) in
        let new : NodeView = with_read node s None in
        let here : is_idle new s ≡ true = and_from (is_free (slice_get node.desk.slots s)) (no_read (slice_get new.reads s)) free (ap no_read (set_same node.reads s (Some read) None at)) in
        subst Q (sym given) ((empty, above, end, done, room), one_more_idle new s (λ j lt. idle_read node s j (λ e. absurd (omega arith)) (idle j lt)) here)
