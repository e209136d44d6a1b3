-- A step may be taken where nothing blocks it, and only there.
use Rattle.std.proofs.Common.{◌≡◌, ◌≤◌, ℕ, Bool, true, false, List, length, Option, Some, None, refl, sym, ap, ◌∙◌, arith, subst}
use Rattle.std.specs.Prelude.{◌&&◌, slice_get, cond, option_map, if◌then◌else◌}
use Rattle.std.specs.Option.{option_and_then}
use Rattle.std.proofs.lemmas.Option.{slice_get_past, slice_get_within}
use Rattle.verifier.specs.declared.refusal.Mode.TheVariants.{Read}
use Rattle.oplog.specs.declared.records.Op.TheVariants.{Run}
use Rattle.oplog.specs.declared.records.Record.{Record}
use Rattle.oplog.specs.History.{ReadEffect}
use Rattle.oplog.specs.Logs.{Log}
use Rattle.oplog.specs.Sessions.{session}
use Rattle.combiner.specs.declared.slots.Stage.{Stage}
use Rattle.combiner.specs.declared.slots.Stage.TheVariants.{Empty, Posted, Claimed, Answered}
use Rattle.replica.specs.StoreMeaning.{store_meaning, as_read, is_operation}
use Rattle.replica.proofs.Export.{have_effects}
use Rattle.node.specs.declared.parts.NodeBatch.{NodeBatch}
use Rattle.schedule.specs.declared.parts.BegunRead.{BegunRead}
use Rattle.schedule.specs.declared.parts.Opening.{Opening}
use Rattle.schedule.specs.declared.steps.Step.{Step}
use Rattle.schedule.specs.declared.blocking.Blocked.{Blocked}
use Rattle.schedule.specs.declared.blocking.Blocked.TheVariants.{NoNode}
use Rattle.schedule.specs.Trace.{Trace}
use Rattle.schedule.specs.Worlds.{NodeView, WorldView}
use Rattle.schedule.specs.Steps.{put_part, part_of, node_of, took, read_answer}
use Rattle.schedule.specs.Stands.{StageStands}
use Rattle.schedule.specs.Taking.{IsOfStore}
use Rattle.schedule.specs.Blocking.{IsTakenUnless, read_block, blocked}
use Rattle.machine.proofs.Export.{get_inside}

-- ---- reads

two : {A : Type 0} (a b : Bool) (why later : Blocked) (p : A) → IsTakenUnless (if a then (if b then None else Some later) else Some why) (cond (a && b) (Some p) None)
two true true why later p = tt
two true false why later p = tt
two false b why later p = tt

-- a read is answered
begun_may : (m : Opening) (done : ℕ) (h : List Record) (positions : List ℕ) (t : Trace) (x : ℕ) (batch : NodeBatch) (count : ℕ) (st : Stage) (read : BegunRead) → StageStands m done h positions t x batch count st (Some read) → is_operation Read m.catalogue (Run read.call) ≡ true
begun_may m done h positions t x batch count Empty read p = (p.1).may
begun_may m done h positions t x batch count (Posted op) read p = absurd p
begun_may m done h positions t x batch count Claimed read p = absurd p
begun_may m done h positions t x batch count (Answered r) read p = absurd p

pub has_answer : {m : Opening} {g : Log} {node : NodeView} → IsOfStore m g node → (s : ℕ) (read : BegunRead) → slice_get node.reads s ≡ Some (Some read)
    → (e : ReadEffect) × (store_meaning.read m.catalogue (Run read.call) node.replica.state ≡ Some e)
has_answer {m} {g} {node} x s read at =
    let o = x.stands in
    let b = o.desk.slots in
    let c = o.desk.reads in
    let within = slice_get_within node.reads s (Some read) at in
    let y = get_inside node.desk.slots s (omega arith) in
    let may = begun_may m g.done x.history x.positions x.trace (session m.config x.number s) node.batch (y.0).count (y.0).stage read (o.seats s y.0 (Some read) y.1 at) in
    let r = (have_effects m.catalogue x.catalogue x.history x.updates).reads node.replica.tail read.call may in
    (as_read r.0, ap (λ v. store_meaning.read m.catalogue (Run read.call) v) o.replica.state ∙ r.2)

answers_one : {A : Type 0} (F : ReadEffect → A) (o : Option ReadEffect) (e : ReadEffect) → o ≡ Some e → (a b : Bool) (why later : Blocked)
    → IsTakenUnless (if a then (if b then None else Some later) else Some why) (cond (a && b) (option_map F o) None)
answers_one F o e is a b why later = rw is (two a b why later (F e))

pub read_unless : {m : Opening} {g : Log} {node : NodeView} → IsOfStore m g node → (s : ℕ) (o : Option (Option BegunRead)) → slice_get node.reads s ≡ o
    → IsTakenUnless (read_block (length node.reads) node.replica.tail g.done (slice_get node.reads s)) (read_answer m s g node)
read_unless x s None at = rw at tt
read_unless x s (Some None) at = rw at tt
read_unless x s (Some (Some read)) at = let h = has_answer x s read at in rw at (answers_one _ _ h.0 h.1 _ _ _ _)

-- ---- a whole store

mapped : {A B : Type 0} (f : A → B) (why : Option Blocked) (o : Option A) → IsTakenUnless why o → IsTakenUnless why (option_map f o)
mapped f None None x = x
mapped f None (Some a) x = x
mapped f (Some w) None x = x
mapped f (Some w) (Some a) x = x

-- a step of a node that is there
pub blocked_there : (m : Opening) (w : WorldView) (step : Step) (node : NodeView) (why : Option Blocked) → slice_get w.nodes (node_of step) ≡ Some node
    → IsTakenUnless why (part_of m step w.log node) → IsTakenUnless why (took m w step)
blocked_there m w step node why at taken =
    let finds : took m w step ≡ option_map (put_part w (node_of step)) (part_of m step w.log node) =
    ap (λ o. option_and_then (λ k. option_map (put_part w (node_of step)) (part_of m step w.log k)) o) at in
    subst (λ o. IsTakenUnless why o) (sym finds) (mapped (put_part w (node_of step)) why (part_of m step w.log node) taken)

-- and of one that is not
pub blocked_away : (m : Opening) (w : WorldView) (step : Step) → length w.nodes ≤ node_of step
    → (Some (NoNode (length w.nodes)) ≡ blocked m w step) × IsTakenUnless (Some (NoNode (length w.nodes))) (took m w step)
blocked_away m w step past = let none = slice_get_past w.nodes (node_of step) past in rw none (refl, tt)
