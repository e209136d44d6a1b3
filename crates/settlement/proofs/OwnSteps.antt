-- A step of one node, at that node and at the others.
use Rattle.std.proofs.Common.{◌≡◌, ◌≢◌, ℕ, zero, suc, ◌-◌, ◌≤◌, Bool, true, false, List, [], ◌∷◌, ◌++◌, take, Option, Some, None, refl, sym, ap, ◌∙◌, inl, inr, ⊎_elim, arith, subst, length-drop, length-append}
use Rattle.std.specs.Prelude.{◌&&◌, slice_get, slice_set, cond, option_map, ◌⊎◌, nat_lt, nat_le}
use Rattle.std.specs.Option.{option_and_then}
use Rattle.std.proofs.lemmas.Bool.{and_parts, ltb-true, cases_lt}
use Rattle.verifier.specs.declared.refusal.Mode.TheVariants.{Update, Read}
use Rattle.oplog.specs.Calls.{Call as ProgramCall}
use Rattle.oplog.specs.Operations.{Operation}
use Rattle.oplog.specs.declared.records.Op.TheVariants.{Run}
use Rattle.oplog.specs.declared.records.Op.TheVariants as operations
use Rattle.oplog.specs.History.{ReadEffect}
use Rattle.oplog.specs.Logs.{Log, tail_of}
use Rattle.combiner.specs.Desks.{DeskView, Collection, posted, has_request, batch_of, claimed, collected}
use Rattle.replica.specs.StoreMeaning.{store_meaning, is_operation}
use Rattle.node.specs.Following.{room_for, may_answer}
use Rattle.node.specs.declared.parts.NodeBatch.{NodeBatch}
use Rattle.node.specs.declared.parts.NodeBatch.TheVariants.{Absent, Held, InLog}
use Rattle.node.specs.Steps.{NodeStep, Appends, Replays, Finishes, Reclaims, Rebases, Replies, may, next, append_batch, reply_batch}
use Rattle.schedule.specs.declared.parts.Opening.{Opening}
use Rattle.schedule.specs.declared.steps.Step.{Step}
use Rattle.schedule.specs.declared.steps.Step.TheVariants.{Post, Install, Claim, Append, Replay, Finish, Reply, Collect, ReadBegin, ReadAnswer, Reclaim, Rebase}
use Rattle.schedule.specs.declared.parts.BegunRead.{BegunRead}
use Rattle.schedule.specs.Trace.{Updated, ReadBack, Call, Back}
use Rattle.schedule.specs.Worlds.{NodeView, WorldView, own_of}
use Rattle.schedule.specs.Steps.{Part, Took, put_part, part_of, node_of, took, world_after, trace_after, world_of, inner, seen_of, put_seen, post, claim, collect, read_begin, read_answer, silent, with_call_or_back, session_of_slot, is_idle, no_batch, with_read, read_at}
use Rattle.schedule.specs.Taking.{WorldState, IsStanding, IsOfStore}
use Rattle.settlement.specs.Others.{HasMoved, Woven, Ends, Own, Other, OthersMove, Here, Later}
use Rattle.schedule.proofs.Export.{set_same, of_store, step_keeps}

-- ---- what a part leaves of the log and of the node

abbrev pub log_after : Option Part → Log → Log
log_after None g = g
log_after (Some p) g = p.log

abbrev pub node_after : Option Part → NodeView → NodeView
node_after None node = node
node_after (Some p) node = p.node

-- ---- at the node, and at the others

pub set_other : {A : Type 0} (xs : List A) (i : ℕ) (v : A) (j : ℕ) → j ≢ i → slice_get (slice_set xs i v) j ≡ slice_get xs j
set_other [] i v j ne = refl
set_other (x ∷ xs) zero v zero ne = absurd (ne refl)
set_other (x ∷ xs) zero v (suc j) ne = refl
set_other (x ∷ xs) (suc i) v zero ne = refl
set_other (x ∷ xs) (suc i) v (suc j) ne = set_other xs i v j (λ e. ne (ap suc e))

pub own_step : (m : Opening) (w : WorldView) (step : Step) (node : NodeView) → slice_get w.nodes (node_of step) ≡ Some node
    → ((world_after w (took m w step)).log ≡ log_after (part_of m step w.log node) w.log)
    × (slice_get (world_after w (took m w step)).nodes (node_of step) ≡ Some (node_after (part_of m step w.log node) node))
own_step m w step node at =
    let finds : took m w step ≡ option_map (put_part w (node_of step)) (part_of m step w.log node) =
    ap (λ o. option_and_then (λ k. option_map (put_part w (node_of step)) (part_of m step w.log k)) o) at in
    subst (λ o. ((world_after w o).log ≡ log_after (part_of m step w.log node) w.log) × (slice_get (world_after w o).nodes (node_of step) ≡ Some (node_after (part_of m step w.log node) node))) (sym finds)
    (go (part_of m step w.log node))
  where
    go : (o : Option Part) → ((world_after w (option_map (put_part w (node_of step)) o)).log ≡ log_after o w.log)
        × (slice_get (world_after w (option_map (put_part w (node_of step)) o)).nodes (node_of step) ≡ Some (node_after o node))
    go None = (refl, at)
    go (Some p) = (refl, set_same w.nodes (node_of step) node p.node at)

pub other_step : (m : Opening) (w : WorldView) (step : Step) (k : ℕ) → k ≢ node_of step → slice_get (world_after w (took m w step)).nodes k ≡ slice_get w.nodes k
other_step m w step k ne = go (slice_get w.nodes (node_of step))
  where
    then : (p : Option Part) → slice_get (world_after w (option_map (put_part w (node_of step)) p)).nodes k ≡ slice_get w.nodes k
    then None = refl
    then (Some p) = set_other w.nodes (node_of step) p.node k ne

    go : (o : Option NodeView) → slice_get (world_after w (option_and_then (λ node. option_map (put_part w (node_of step)) (part_of m step w.log node)) o)).nodes k ≡ slice_get w.nodes k
    go None = refl
    go (Some node) = then (part_of m step w.log node)

-- ---- it stands on

abbrev pub the_store : Opening → WorldView → WorldState
the_store m w = record { opening = m; world = w }

pub stands_on : (m : Opening) (w : WorldView) (step : Step) → IsStanding (the_store m w) → IsStanding (the_store m (world_after w (took m w step)))
stands_on m w step x =
    let k = step_keeps m w x.history x.positions x.trace step x.stands in
    record { config = x.config; history = x.history ++ k.0; positions = x.positions ++ k.1; trace = trace_after x.trace (took m w step); stands = k.2 }

-- ---- the log only grows, moves on and is completed

pub record GoesUp (g h : Log) : Type 0 where
  pub tail : tail_of g ≤ tail_of h
  pub base : g.base ≤ h.base
  pub done : g.done ≤ h.done

up_same : (g : Log) → GoesUp g g
up_same g = record { tail = omega arith; base = omega arith; done = omega arith }

-- a part that leaves the log
abbrev Leaves : Log → Option Part → Type 0
Leaves g o = log_after o g ≡ g

leaves_cond : (g : Log) (b : Bool) (o : Option Part) → Leaves g o → Leaves g (cond b o None)
leaves_cond g true o e = e
leaves_cond g false o e = refl

leaves_map : {A : Type 0} (g : Log) (f : A → Part) → ((a : A) → (f a).log ≡ g) → (o : Option A) → Leaves g (option_map f o)
leaves_map g f e None = refl
leaves_map g f e (Some a) = e a

leaves_then : {A : Type 0} (g : Log) (f : A → Option Part) → ((a : A) → Leaves g (f a)) → (o : Option A) → Leaves g (option_and_then f o)
leaves_then g f e None = refl
leaves_then g f e (Some a) = e a

up_leaves : (g : Log) (o : Option Part) → Leaves g o → GoesUp g (log_after o g)
up_leaves g o e = subst (λ h. GoesUp g h) (sym e) (up_same g)

up_inner : (m : Opening) (g : Log) (node : NodeView) (k : NodeStep) → (may k (seen_of g node) ≡ true → GoesUp g (next m.catalogue k (seen_of g node)).log) → GoesUp g (log_after (inner m k g node) g)
up_inner m g node k up = go (may k (seen_of g node)) up
  where
    go : (b : Bool) → (b ≡ true → GoesUp g (next m.catalogue k (seen_of g node)).log) → GoesUp g (log_after (cond b (Some (put_seen node (next m.catalogue k (seen_of g node)))) None) g)
    go true rises = rises refl
    go false rises = up_same g

up_append : (g : Log) (node : NodeView) (b : NodeBatch) → GoesUp g (append_batch b (seen_of g node)).log
up_append g node Absent = up_same g
up_append g node (InLog b) = up_same g
up_append g node (Held b) = let l = length-append g.records (take (room_for b.records g) b.records) in record { tail = omega arith; base = omega arith; done = omega arith }

up_reply : (g : Log) (node : NodeView) (b : NodeBatch) → GoesUp g (reply_batch b (seen_of g node)).log
up_reply g node Absent = up_same g
up_reply g node (InLog b) = up_same g
up_reply g node (Held b) = up_same g

up_reclaim : {m : Opening} {g : Log} {node : NodeView} → IsOfStore m g node → may Reclaims (seen_of g node) ≡ true → GoesUp g (next m.catalogue Reclaims (seen_of g node)).log
up_reclaim {m} {g} {node} x e =
    let tests = and_parts (nat_lt g.base node.replica.tail) (nat_le node.replica.tail g.done) e in
    let above = ltb-true g.base node.replica.tail tests.0 in
    let end = x.log.ends in
    let within = x.stands.replica.tail in
    let l = length-drop (node.replica.tail - g.base) g.records in
    record { tail = omega arith; base = omega arith; done = omega arith }

leaves_post : (m : Opening) (g : Log) (node : NodeView) (s : ℕ) (op : Operation) → Leaves g (post m s op g node)
leaves_post m g node s op =
    leaves_cond g (is_idle node s && is_operation Update m.catalogue op) (option_map (λ desk. with_call_or_back (Call (session_of_slot node s) Update op) g (record node { desk = desk })) (posted s op node.desk))
    (leaves_map g (λ (desk : DeskView). with_call_or_back (Call (session_of_slot node s) Update op) g (record node { desk = desk })) (λ a. refl) (posted s op node.desk))

leaves_claim : (g : Log) (node : NodeView) → Leaves g (claim g node)
leaves_claim g node = leaves_cond g (no_batch node.batch && has_request node.desk) (Some (silent g (record node { desk = claimed node.desk; batch = Held (batch_of node.desk) }))) refl

leaves_collect : (g : Log) (node : NodeView) (s : ℕ) → Leaves g (collect s g node)
leaves_collect g node s = leaves_map g (λ (c : Collection). with_call_or_back (Back (session_of_slot node s) (Updated c.reply)) g (record node { desk = c.desk })) (λ a. refl) (collected s node.desk)

leaves_begin : (m : Opening) (g : Log) (node : NodeView) (s : ℕ) (call : ProgramCall) → Leaves g (read_begin m s call g node)
leaves_begin m g node s call =
    leaves_cond g (is_idle node s && is_operation Read m.catalogue (Run call))
    (Some (with_call_or_back (Call (session_of_slot node s) Read (Run call)) g (with_read node s (Some (record { call = call; seen = g.done }))))) refl

leaves_answer : (m : Opening) (g : Log) (node : NodeView) (s : ℕ) → Leaves g (read_answer m s g node)
leaves_answer m g node s =
    leaves_then g of
    (λ read. leaves_cond g (may_answer read.seen g.done (own_of node)) (option_map part (store_meaning.read m.catalogue (Run read.call) node.replica.state))
    (leaves_map g part (λ a. refl) (store_meaning.read m.catalogue (Run read.call) node.replica.state)))
    (read_at node s)
  where
    part : ReadEffect → Part
    part e = with_call_or_back (Back (session_of_slot node s) (ReadBack (record { point = node.replica.tail; reply = e.reply }))) g (with_read node s None)

    of : BegunRead → Option Part
    of read = cond (may_answer read.seen g.done (own_of node)) (option_map part (store_meaning.read m.catalogue (Run read.call) node.replica.state)) None

pub goes_up : {m : Opening} {g : Log} {node : NodeView} → IsOfStore m g node → (step : Step) → GoesUp g (log_after (part_of m step g node) g)
goes_up {m} {g} {node} x (Post n s program argument) =
    up_leaves g (post m s (Run (record { program = program; argument = argument.items })) g node) (leaves_post m g node s (Run (record { program = program; argument = argument.items })))
goes_up {m} {g} {node} x (Install n s mode arg_len bytes) =
    up_leaves g (post m s (operations.Install (record { mode = mode; arg_len = arg_len; bytes = bytes.items })) g node)
    (leaves_post m g node s (operations.Install (record { mode = mode; arg_len = arg_len; bytes = bytes.items })))
goes_up {m} {g} {node} x (Claim n) = up_leaves g (claim g node) (leaves_claim g node)
goes_up {m} {g} {node} x (Append n) = up_inner m g node Appends (λ e. up_append g node node.batch)
goes_up {m} {g} {node} x (Replay n) = up_inner m g node Replays (λ e. up_same g)
goes_up {m} {g} {node} x (Finish n) = up_inner m g node Finishes (λ e. record { tail = omega arith; base = omega arith; done = omega arith })
goes_up {m} {g} {node} x (Reply n) = up_inner m g node Replies (λ e. up_reply g node node.batch)
goes_up {m} {g} {node} x (Collect n s) = up_leaves g (collect s g node) (leaves_collect g node s)
goes_up {m} {g} {node} x (ReadBegin n s program argument) =
    up_leaves g (read_begin m s (record { program = program; argument = argument.items }) g node) (leaves_begin m g node s (record { program = program; argument = argument.items }))
goes_up {m} {g} {node} x (ReadAnswer n s) = up_leaves g (read_answer m s g node) (leaves_answer m g node s)
goes_up {m} {g} {node} x (Reclaim n) = up_inner m g node Reclaims (λ e. up_reclaim x e)
goes_up {m} {g} {node} x (Rebase n) = up_inner m g node Rebases (λ e. up_same g)

-- a step of any node, there or not
pub world_up : (m : Opening) (w : WorldView) (step : Step) → IsStanding (the_store m w) → GoesUp w.log (world_after w (took m w step)).log
world_up m w step x = go (slice_get w.nodes (node_of step)) refl
  where
    go : (o : Option NodeView) → slice_get w.nodes (node_of step) ≡ o → GoesUp w.log (world_after w (took m w step)).log
    go None none = subst (λ (r : Option Took). GoesUp w.log (world_after w r).log) (sym (ap (λ o. option_and_then (λ k. option_map (put_part w (node_of step)) (part_of m step w.log k)) o) none)) (up_same w.log)
    go (Some node) at = subst (λ h. GoesUp w.log h) (sym (own_step m w step node at).0) (goes_up (of_store (the_store m w) x (node_of step) node at) step)

-- what is completed is in the log
pub done_within : (m : Opening) (w : WorldView) → IsStanding (the_store m w) → w.log.done ≤ tail_of w.log
done_within m w x = let e = x.stands.log.ends in let d = x.stands.log.done in omega arith

-- ---- a node's steps in their order, with those of others in between

-- what holds of the log and of the node
abbrev pub Fact : Type 1
Fact = Log → NodeView → Type 0

-- the fact holds still, where others have completed more, and neither added to the log nor moved its base
abbrev pub Stays : Fact → Type 0
Stays P = (g h : Log) (node : NodeView) → P g node → tail_of h ≡ tail_of g → h.base ≡ g.base → h.done ≤ tail_of h → g.done ≤ h.done → P h node

-- the step leads from the one fact to the other
abbrev pub Leads : Opening → Step → Fact → Fact → Type 0
Leads m step P Q = (g : Log) (node : NodeView) → IsOfStore m g node → P g node → Q (log_after (part_of m step g node) g) (node_after (part_of m step g node) node)

pub data Chain (m : Opening) (n : ℕ) : List Step → Fact → Fact → Type 1 where
  Stops : (P : Fact) → Stays P → Chain m n [] P P
  Then : (step : Step) (steps : List Step) (P R Q : Fact) → node_of step ≡ n → Stays P → Leads m step P R → Chain m n steps R Q → Chain m n (step ∷ steps) P Q

-- the node is there with this fact
abbrev pub Reaches : WorldView → ℕ → Fact → Type 0
Reaches w n P = (node : NodeView) × (slice_get w.nodes n ≡ Some node) × P w.log node

-- a step of another node
other_next : (m : Opening) (w : WorldView) (n : ℕ) (step : Step) (P : Fact) → IsStanding (the_store m w) → node_of step ≢ n → Stays P → Reaches w n P
    → Reaches (world_after w (took m w step)) n P ⊎ HasMoved w.log (world_after w (took m w step)).log
other_next m w n step P x ne stays r =
    let up = world_up m w step x in
    let t = up.tail in
    let b = up.base in
    let within = done_within m (world_after w (took m w step)) (stands_on m w step x) in
    ⊎_elim
    (λ more. inr (inl more))
    (λ no_more. ⊎_elim
    (λ higher. inr (inr higher))
    (λ no_higher. inl (r.0, other_step m w step n (λ e. ne (sym e)) ∙ r.1, stays w.log (world_after w (took m w step)).log r.0 r.2 (omega arith) (omega arith) within up.done))
    (cases_lt w.log.base (world_after w (took m w step)).log.base))
    (cases_lt (tail_of w.log) (tail_of (world_after w (took m w step)).log))

pub own_next : (m : Opening) (w : WorldView) (n : ℕ) (step : Step) (P R : Fact) → IsStanding (the_store m w) → node_of step ≡ n → Leads m step P R → Reaches w n P → Reaches (world_after w (took m w step)) n R
own_next m w n step P R x is leads r =
    let at = subst (λ k. slice_get w.nodes k ≡ Some r.0) (sym is) r.1 in
    let o = own_step m w step r.0 at in
    let new : NodeView = node_after (part_of m step w.log r.0) r.0 in (
      new,
      subst (λ k. slice_get (world_after w (took m w step)).nodes k ≡ Some new) is o.1,
      subst (λ g. R g new) (sym o.0) (leads w.log r.0 (of_store (the_store m w) x (node_of step) r.0 at) r.2),
    )

stays_of : {m : Opening} {n : ℕ} {own : List Step} {P Q : Fact} → Chain m n own P Q → Stays P
stays_of (Stops P s) = s
stays_of (Then step steps P R Q is s leads rest) = s

stopped : {m : Opening} {n : ℕ} {P Q : Fact} → Chain m n [] P Q → (w : WorldView) → Reaches w n P → Reaches w n Q
stopped (Stops P s) w r = r

record Next (m : Opening) (n : ℕ) (step : Step) (steps : List Step) (P Q : Fact) : Type 1 where
  middle : Fact
  is : node_of step ≡ n
  leads : Leads m step P middle
  rest : Chain m n steps middle Q

next_of : {m : Opening} {n : ℕ} {step : Step} {steps : List Step} {P Q : Fact} → Chain m n (step ∷ steps) P Q → Next m n step steps P Q
next_of (Then step steps P R Q is s leads rest) = record { middle = R; is = is; leads = leads; rest = rest }

pub walk : (m : Opening) (n : ℕ) {own all : List Step} → Woven n own all → {P Q : Fact} → Chain m n own P Q → (w : WorldView) → IsStanding (the_store m w) → Reaches w n P
    → Reaches (world_of m w all) n Q ⊎ OthersMove m n w all
walk m n Ends chain w x r = inl (stopped chain w r)
walk m n (Own step own all weave) {P} {Q} chain w x r =
    let c = next_of chain in
    ⊎_elim inl (λ moved. inr (Later w step all moved))
    (walk m n weave c.rest (world_after w (took m w step)) (stands_on m w step x) (own_next m w n step P c.middle x c.is c.leads r))
walk m n (Other step own all ne weave) {P} {Q} chain w x r =
    ⊎_elim
    (λ there. ⊎_elim inl (λ moved. inr (Later w step all moved)) (walk m n weave chain (world_after w (took m w step)) (stands_on m w step x) there))
    (λ moved. inr (Here w step all ne moved))
    (other_next m w n step P x ne (stays_of chain) r)
