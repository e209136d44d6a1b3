-- What is known of the log and a node of a store that stands for a history.
use Rattle.std.proofs.Common.{◌≡◌, ℕ, suc, ◌+◌, ◌<◌, ◌≤◌, ◌^◌, true, false, Bool, List, [], ◌∷◌, length, Option, Some, None, refl, sym, ap, ◌∙◌, arith, subst}
use Rattle.std.specs.Prelude.{slice_get, ◌&&◌, ◌||◌, ◌==◌, cond, if◌then◌else◌}
use Rattle.std.specs.List.{list_any}
use Rattle.std.proofs.lemmas.Option.{none-some, slice_get_within}
use Rattle.std.proofs.lemmas.Bool.{false≢true}
use Rattle.loader.specs.StoreState.{IsState, sizes_of}
use Rattle.loader.proofs.Export.{state_sizes}
use Rattle.loader.specs.CatalogueView.{CatalogueView, sizes_for}
use Rattle.oplog.specs.declared.configuration.TheConstants.{ENDLESS}
use Rattle.oplog.specs.History.{History}
use Rattle.oplog.specs.Logs.{Log}
use Rattle.oplog.specs.Sessions.{session}
use Rattle.combiner.specs.declared.slots.DeskRefused.{DeskRefused}
use Rattle.combiner.specs.declared.slots.Reply.TheVariants.{Placed, Ended}
use Rattle.combiner.specs.declared.slots.Stage.{Stage}
use Rattle.combiner.specs.declared.slots.Stage.TheVariants.{Empty, Posted, Claimed, Answered}
use Rattle.combiner.specs.declared.slots.Slot.{Slot}
use Rattle.combiner.specs.Slots.{is_claimed}
use Rattle.combiner.specs.Desks.{first_author, claimed_from, has_combiner, has_request, claim_refusal, claimed, batch_of, IsBatchOf}
use Rattle.replica.proofs.Export.{have_effects}
use Rattle.node.specs.declared.following.NodeReplica.{NodeReplica}
use Rattle.node.specs.Following.{IsNext, has_next, with_next}
use Rattle.schedule.specs.declared.parts.BegunRead.{BegunRead}
use Rattle.node.specs.declared.parts.NodeBatch.{NodeBatch}
use Rattle.node.specs.declared.parts.NodeBatch.TheVariants.{Absent, Held}
use Rattle.schedule.specs.declared.parts.Opening.{Opening}
use Rattle.schedule.specs.declared.steps.StepAnswer.TheVariants as answers
use Rattle.schedule.specs.Trace.{Trace, Positions}
use Rattle.schedule.specs.Explains.{count_of}
use Rattle.schedule.specs.Worlds.{NodeView, own_of}
use Rattle.schedule.specs.Steps.{silent, claim, no_batch}
use Rattle.schedule.specs.Stands.{StageStands, batch_in}
use Rattle.schedule.specs.Taking.{IsOfStore, TakesPart}
use Rattle.schedule.proofs.Replays.{after_all, runs_next}
use Rattle.machine.proofs.Export.{get_inside}

-- ---- the state

pub node_state : {m : Opening} {g : Log} {node : NodeView} → IsOfStore m g node → IsState (sizes_for m.catalogue) node.replica.state
node_state {m} {g} {node} x = subst (λ state. IsState (sizes_for m.catalogue) state) (sym x.stands.replica.state) ((have_effects m.catalogue x.catalogue x.history x.updates).states node.replica.tail)

pub base_is_state : {m : Opening} {g : Log} {node : NodeView} → IsOfStore m g node → IsState (sizes_for m.catalogue) g.base_state
base_is_state {m} {g} {node} x = subst (λ state. IsState (sizes_for m.catalogue) state) (sym x.log.state) ((have_effects m.catalogue x.catalogue x.history x.updates).states g.base)

-- the base has the replica's sizes
pub same_sizes : {m : Opening} {g : Log} {node : NodeView} → IsOfStore m g node → sizes_of g.base_state ≡ sizes_of node.replica.state
same_sizes x = state_sizes (base_is_state x) ∙ sym (state_sizes (node_state x))

-- ---- counts

count_few : (x : ℕ) (h : History) → count_of x h ≤ length h
count_few x [] = omega arith
count_few x (r ∷ rs) = let l = count_few x rs in let one = few (r.author == x) in omega arith
  where
    few : (b : Bool) → (if b then 1 else 0) ≤ 1
    few true = omega arith
    few false = omega arith

-- a slot has counted no more than the history has of its session
stage_count : (m : Opening) (done : ℕ) (h : History) (positions : Positions) (t : Trace) (x : ℕ) (batch : NodeBatch) (count : ℕ) (st : Stage) (read : Option BegunRead) → StageStands m done h positions t x batch count st read → count ≤ count_of x h
stage_count m done h positions t x batch count Empty None p = let c = p.1 in omega arith
stage_count m done h positions t x batch count Empty (Some read) p = let c = (p.1).counts in omega arith
stage_count m done h positions t x batch count (Posted op) None p = let c = (p.1).counts in omega arith
stage_count m done h positions t x batch count Claimed None p = let c = (p.6).counts in omega arith
stage_count m done h positions t x batch count (Answered (Placed i r)) None p = let c = (p.2).counts in omega arith
stage_count m done h positions t x batch count (Answered Ended) None p = let c = (p.2).counts in omega arith
stage_count m done h positions t x batch count (Posted op) (Some read) p = absurd p
stage_count m done h positions t x batch count Claimed (Some read) p = absurd p
stage_count m done h positions t x batch count (Answered r) (Some read) p = absurd p

pub history_short : {m : Opening} {g : Log} {node : NodeView} (x : IsOfStore m g node) → length x.history ≤ ENDLESS
history_short x = let a = x.log.within in let b = (x.config.limit).1 in omega arith

pub countable : {m : Opening} {g : Log} {node : NodeView} → IsOfStore m g node → (s : ℕ) (y : Slot) → slice_get node.desk.slots s ≡ Some y → suc y.count < 2 ^ 64
countable {m} {g} {node} x s y at =
    let o = x.stands in
    let a = slice_get_within node.desk.slots s y at in
    let b = o.desk.slots in
    let c = o.desk.reads in
    let read = get_inside node.reads s (omega arith) in
    let l = stage_count m g.done x.history x.positions x.trace (session m.config x.number s) node.batch y.count y.stage read.0 (o.seats s y read.0 at read.1) in
    let few = count_few (session m.config x.number s) x.history in
    let short = history_short x in
    omega arith

pub own_sizes : {m : Opening} {g : Log} {node : NodeView} (c : CatalogueView) → m.catalogue ≡ c → IsOfStore m g node → sizes_of node.replica.state ≡ sizes_for c
own_sizes c same x = state_sizes (node_state x) ∙ ap sizes_for same

-- ---- claiming

no_combiner : (a : ℕ) (xs : List Slot) → claimed_from a xs ≡ [] → list_any (λ (x : Slot). is_claimed x.stage) xs ≡ false
no_combiner a [] e = refl
no_combiner a (x ∷ xs) e = go x.stage (λ f. no_combiner (suc a) xs f) e
  where
    go : (st : Stage) → (claimed_from (suc a) xs ≡ [] → list_any (λ (x : Slot). is_claimed x.stage) xs ≡ false) → (if is_claimed st then a ∷ claimed_from (suc a) xs else claimed_from (suc a) xs) ≡ []
        → (is_claimed st || list_any (λ (x : Slot). is_claimed x.stage) xs) ≡ false
    go Empty rest e = rest e
    go (Posted op) rest e = rest e
    go (Answered r) rest e = rest e
    go Claimed rest e = let l : length (a ∷ claimed_from (suc a) xs) ≡ 0 = ap length e in absurd (omega arith)

refused : (a b : Bool) (e one two : DeskRefused) → a ≡ false → (if a then Some one else if b then None else Some two) ≡ Some e → b ≡ false
refused false true e one two f g = absurd (none-some e g)
refused false false e one two f g = refl
refused true b e one two f g = absurd (false≢true (sym f))

-- where nothing can be claimed, the step may not be taken
pub claim_refused : {m : Opening} {h : Log} {node : NodeView} → IsOfStore m h node → node.batch ≡ Absent → (e : DeskRefused) → claim_refusal node.desk ≡ Some e
    → (g : Log) (new : NodeView) → new ≡ node → TakesPart (claim g node) g node g new answers.NotNow
claim_refused {m} {h} {node} x idle e refusal g new same =
    let free : claimed_from (first_author node.desk) node.desk.slots ≡ [] = sym (subst (λ b. IsBatchOf node.desk (batch_in b)) idle x.stands.desk.own) in
    let nobody = no_combiner (first_author node.desk) node.desk.slots free in
    let nothing : has_request node.desk ≡ false = refused (has_combiner node.desk) (has_request node.desk) e _ _ nobody refusal in
    let no : (no_batch node.batch && has_request node.desk) ≡ false = ap (λ b. no_batch b && has_request node.desk) idle ∙ nothing in
    subst (λ b. TakesPart (cond b (Some (silent g (record node { desk = claimed node.desk; batch = Held (batch_of node.desk) }))) None) g node g new answers.NotNow) (sym no) (refl, refl, same)

-- ---- replaying

-- what a replay runs comes next
pub is_next : {m : Opening} {g : Log} {node : NodeView} (c : CatalogueView) → m.catalogue ≡ c → IsOfStore m g node → has_next g (own_of node) ≡ true → IsNext c (with_next g (own_of node))
is_next {m} {g} {node} c same x next =
    let own : NodeReplica = with_next g (own_of node) in
    let runs = runs_next m g x.history x.positions x.trace x.number node next x.log x.stands in
    let end = (after_all m.catalogue x.history own.hand.records node.replica.tail node.replica.state runs.0 x.stands.replica.state x.stands.replica.tail).1 in
    let short = history_short x in
    subst (λ k. IsNext k own) same (record {
      begins = refl;
      sizes = state_sizes (node_state x);
      updates = λ k r at. x.updates (node.replica.tail + k) r (runs.0 k r at);
      short = omega arith;
    })
