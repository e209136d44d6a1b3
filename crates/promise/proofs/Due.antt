-- A call that is due is taken, and calls are answered where the last steps settle.
use Rattle.std.proofs.Common.{◌≡◌, ℕ, zero, suc, ◌<◌, ◌≤◌, inl, inr, ◌&&◌, Bool, true, false, List, [], ◌∷◌, ◌++◌}
use Rattle.std.proofs.Common.{length, take, Option, Some, None, refl, sym, ap, ◌∙◌, subst, arith}
use Rattle.std.specs.Prelude.{cond, if◌then◌else◌, option_map, slice_get}
use Rattle.std.specs.Option.{option_and_then}
use Rattle.std.proofs.lemmas.Bool.{and_from}
use Rattle.std.proofs.lemmas.Option.{none-some, same_Some}
use Rattle.verifier.specs.declared.refusal.Mode.TheVariants.{Update, Read}
use Rattle.machine.proofs.Export.{get_inside}
use Rattle.loader.specs.CatalogueView.{IsCatalogue}
use Rattle.oplog.specs.Calls.{Call as ProgramCall}
use Rattle.oplog.specs.Limits.{AreSizes}
use Rattle.oplog.specs.Logs.{Log}
use Rattle.oplog.specs.Operations.{Operation}
use Rattle.oplog.specs.History.{History, ReadEffect}
use Rattle.oplog.specs.Sessions.{session}
use Rattle.oplog.specs.declared.configuration.Sizes.{Sizes}
use Rattle.oplog.specs.declared.records.Op.TheVariants.{Run}
use Rattle.oplog.specs.declared.records.Op.TheVariants as operations
use Rattle.combiner.specs.declared.slots.Reply.TheVariants.{Placed, Ended}
use Rattle.combiner.specs.declared.slots.Slot.{Slot}
use Rattle.combiner.specs.declared.slots.Stage.{Stage}
use Rattle.combiner.specs.declared.slots.Stage.TheVariants.{Empty, Posted, Claimed, Answered}
use Rattle.combiner.specs.declared.slots.Reply.{Reply}
use Rattle.combiner.specs.Slots.{counted, is_empty, slot}
use Rattle.combiner.specs.Desks.{Collection, DeskView, answer_in, collected, posted, with_slot}
use Rattle.replica.specs.StoreMeaning.{call_of, is_operation, store_meaning}
use Rattle.replica.proofs.Export.{tests_offered}
use Rattle.node.specs.Following.{may_answer}
use Rattle.node.specs.declared.parts.NodeBatch.{NodeBatch}
use Rattle.schedule.specs.declared.parts.BegunRead.{BegunRead}
use Rattle.schedule.specs.declared.parts.Opening.{Opening}
use Rattle.schedule.specs.declared.steps.Step.{Step}
use Rattle.readpath.specs.declared.reading.ReadAnswer.{ReadAnswer as ReadTold}
use Rattle.schedule.specs.declared.steps.Step.TheVariants.{Collect, Install, Post, ReadAnswer, ReadBegin}
use Rattle.schedule.specs.declared.steps.StepAnswer.{StepAnswer}
use Rattle.schedule.specs.declared.steps.StepAnswer.TheVariants.{Back, Done, NotNow, ReadBack}
use Rattle.schedule.specs.Headline.{TraceIsReadOff}
use Rattle.schedule.specs.ReadOff.{read_off}
use Rattle.schedule.specs.Stands.{NodeStands, StageStands, Stands}
use Rattle.schedule.specs.Steps.{Part, is_free, is_idle, no_read, node_of, part_of, post, put_part, read_at, read_begin}
use Rattle.schedule.specs.Steps.{Took, session_of_slot, took, trace_after, trace_of, with_call_or_back, with_event, with_read, world_after, world_of}
use Rattle.schedule.specs.Taking.{WorldState, answer_of, answers_to, opened_store, step_answer}
use Rattle.schedule.specs.Trace.{Call, Event, IsIdle, Positions, Trace}
use Rattle.schedule.specs.Trace as events
use Rattle.schedule.specs.Worlds.{NodeView, WorldView, opened, own_of}
use Rattle.schedule.proofs.Export.{opening_stands, run_stands}
use Rattle.settlement.specs.Settling.{AllAnswered, EveryScheduleSettles, NodeAnswered, settling, settling_store}
use Rattle.settlement.proofs.Export.{node_settles}
use Rattle.promise.specs.Answered.{AnswersSuit, IsAbsent, IsDue, IsFree, MayAnswer, NamesNoSlot, NodesSettle, Settles}
use Rattle.promise.specs.Answered.{TakesCalls, TakesNoneAbsent}

-- ---- the steps before one

-- what a step answers, after those before it
answer_at : (m : Opening) (w : WorldView) (steps : List Step) (i : ℕ) (step : Step) → slice_get steps i ≡ Some step
    → slice_get (answers_to m w steps) i ≡ Some (step_answer (took m (world_of m w (take i steps)) step))
answer_at m w [] i step at = absurd (none-some step at)
answer_at m w (x ∷ xs) zero step at = ap (λ y. Some (step_answer (took m w y))) (same_Some x step at)
answer_at m w (x ∷ xs) (suc i) step at = answer_at m (world_after w (took m w x)) xs i step at

-- the answers of those before it
answers_before : (m : Opening) (w : WorldView) (steps : List Step) (i : ℕ)
    → take i (answers_to m w steps) ≡ answers_to m w (take i steps)
answers_before m w [] zero = refl
answers_before m w [] (suc i) = refl
answers_before m w (x ∷ xs) zero = refl
answers_before m w (x ∷ xs) (suc i) =
    ap (λ rest. step_answer (took m w x) ∷ rest) (answers_before m (world_after w (took m w x)) xs i)

-- ---- a slot whose session waits for no answer

module _ (m : Opening) (done : ℕ) (h : History) (positions : Positions) (t : Trace) where
  -- it has no request, and no read was begun at it
  idle_stage : (x : ℕ) (batch : NodeBatch) (count : ℕ) (stage : Stage) (read : Option BegunRead) → IsIdle t x
      → StageStands m done h positions t x batch count stage read → (stage ≡ Empty) × (read ≡ None)
  idle_stage x batch count Empty None idle stands = (refl, refl)
  idle_stage x batch count Empty (Some read) idle stands = absurd (idle Read (Run read.call) stands.0 stands.1.is_open)
  idle_stage x batch count (Posted op) None idle stands = absurd (idle Update op stands.0 stands.1.is_open)
  idle_stage x batch count Claimed None idle stands = absurd (idle Update stands.2.op stands.0 stands.6.is_open)
  idle_stage x batch count (Answered (Placed i r)) None idle stands =
      absurd (idle Update stands.0 stands.1 stands.2.is_open)
  idle_stage x batch count (Answered Ended) None idle stands = absurd (idle Update stands.0 stands.1 stands.2.is_open)
  idle_stage x batch count (Posted op) (Some read) idle stands = absurd stands
  idle_stage x batch count Claimed (Some read) idle stands = absurd stands
  idle_stage x batch count (Answered reply) (Some read) idle stands = absurd stands

-- the slot is empty, and has no read
record IsBare (node : NodeView) (s : ℕ) : Type 0 where
  own : Slot
  there : slice_get node.desk.slots s ≡ Some own
  empty : own.stage ≡ Empty
  no_begun : slice_get node.reads s ≡ Some None

bare : (m : Opening) (done : ℕ) (h : History) (positions : Positions) (t : Trace) (n s : ℕ) (node : NodeView)
    → NodeStands m done h positions t n node → s < m.config.slots → IsIdle t (session m.config n s) → IsBare node s
bare m done h positions t n s node x inside idle =
    let slots = x.desk.slots in
    let reads = x.desk.reads in
    let y = get_inside node.desk.slots s (omega arith) in
    let r = get_inside node.reads s (omega arith) in
    let stands = x.seats s y.0 r.0 y.1 r.1 in
    let is = idle_stage m done h positions t (session m.config n s) node.batch (y.0).count (y.0).stage r.0 idle stands in
    record { own = y.0; there = y.1; empty = is.0; no_begun = r.1 ∙ ap Some is.1 }

bare_is_idle : (node : NodeView) (s : ℕ) → IsBare node s → is_idle node s ≡ true
bare_is_idle node s b =
    let free = ap is_free b.there ∙ ap is_empty b.empty in
    and_from (is_free (slice_get node.desk.slots s)) (no_read (slice_get node.reads s)) free (ap no_read b.no_begun)

-- ---- a step at it

-- the node's part of it, as a call
record IsTaken (o : Option Part) : Type 0 where
  part : Part
  is : o ≡ Some part
  done : answer_of part.event ≡ Done

takes_post : (m : Opening) (s : ℕ) (op : Operation) (g : Log) (node : NodeView) → IsBare node s
    → is_operation Update m.catalogue op ≡ true → IsTaken (post m s op g node)
takes_post m s op g node b may =
    let desk : DeskView = with_slot node.desk s (slot (Posted op) b.own.count) in
    let own = λ (x : Slot). if is_empty x.stage then Some (with_slot node.desk s (slot (Posted op) x.count)) else None in
    let posts : posted s op node.desk ≡ Some desk =
    ap (option_and_then own) b.there ∙ ap (λ (e : Stage). if is_empty e then Some desk else None) b.empty in
    let tests = and_from (is_idle node s) (is_operation Update m.catalogue op) (bare_is_idle node s b) may in
    let call = λ (d : DeskView). with_call_or_back (Call (session_of_slot node s) Update op) g (record node { desk = d }) in
    record {
      part = call desk;
      is = ap (λ (t : Bool). cond t (option_map call (posted s op node.desk)) None) tests ∙ ap (option_map call) posts;
      done = refl;
    }

takes_read : (m : Opening) (s : ℕ) (call : ProgramCall) (g : Log) (node : NodeView) → IsBare node s
    → is_operation Read m.catalogue (Run call) ≡ true → IsTaken (read_begin m s call g node)
takes_read m s call g node b may =
    let tests = and_from (is_idle node s) (is_operation Read m.catalogue (Run call)) (bare_is_idle node s b) may in
    let begun : BegunRead = record { call = call; seen = g.done } in
    let part : Part =
    with_call_or_back (Call (session_of_slot node s) Read (Run call)) g (with_read node s (Some begun)) in
    record { part = part; is = ap (λ (t : Bool). cond t (Some part) None) tests; done = refl }

takes_step : (m : Opening) (w : WorldView) (step : Step) (node : NodeView)
    → slice_get w.nodes (node_of step) ≡ Some node
    → IsTaken (part_of m step w.log node) → step_answer (took m w step) ≡ Done
takes_step m w step node at x =
    let n : ℕ = node_of step in
    ap (λ o. step_answer (option_and_then (λ k. option_map (put_part w n) (part_of m step w.log k)) o)) at
    ∙ ap (λ o. step_answer (option_map (put_part w n) o)) x.is
    ∙ x.done

-- the node of a free slot, where the slot is bare
record IsHere (w : WorldView) (n s : ℕ) : Type 0 where
  node : NodeView
  there : slice_get w.nodes n ≡ Some node
  slot_is : IsBare node s

here : (m : Opening) (w : WorldView) (h : History) (positions : Positions) (t : Trace) (n s : ℕ)
    → Stands m w h positions t
    → IsFree m.config t n s → IsHere w n s
here m w h positions t n s x free =
    let count = x.count in
    let inside = free.0 in
    let at = get_inside w.nodes n (omega arith) in
    let slot_is = bare m w.log.done h positions t n s at.0 (x.nodes n at.0 at.1) free.1 free.2 in
    record { node = at.0; there = at.1; slot_is = slot_is }

takes_due : (m : Opening) (w : WorldView) (h : History) (positions : Positions) (t : Trace) (step : Step)
    → Stands m w h positions t → IsDue m.config m.catalogue t step → step_answer (took m w step) ≡ Done
takes_due m w h positions t (Post n s program argument) x due =
    let y = here m w h positions t n s x due.0 in
    let call : ProgramCall = call_of program argument.items in
    let may = tests_offered Update m.catalogue call due.1 in
    takes_step m w (Post n s program argument) y.node y.there (takes_post m s (Run call) w.log y.node y.slot_is may)
takes_due m w h positions t (ReadBegin n s program argument) x due =
    let y = here m w h positions t n s x due.0 in
    let call : ProgramCall = call_of program argument.items in
    let may = tests_offered Read m.catalogue call due.1 in
    takes_step m w (ReadBegin n s program argument) y.node y.there (takes_read m s call w.log y.node y.slot_is may)
takes_due m w h positions t step x due = absurd due

-- ---- a step at a slot that the store hasn't

get_outside : {A : Type 0} (l : List A) (i : ℕ) → length l ≤ i → slice_get l i ≡ None
get_outside [] i far = refl
get_outside (x ∷ xs) zero far = absurd (omega (arith, far))
get_outside (x ∷ xs) (suc i) far = get_outside xs i (omega (arith, far))

no_slot : (node : NodeView) (s : ℕ) → slice_get node.desk.slots s ≡ None → is_idle node s ≡ false
no_slot node s none = ap (λ o. is_free o && no_read (slice_get node.reads s)) none

posts_none : (m : Opening) (s : ℕ) (op : Operation) (g : Log) (node : NodeView) → slice_get node.desk.slots s ≡ None
    → post m s op g node ≡ None
posts_none m s op g node none =
    let call = λ (d : DeskView). with_call_or_back (Call (session_of_slot node s) Update op) g (record node { desk = d }) in
    ap (λ (b : Bool). cond (b && is_operation Update m.catalogue op) (option_map call (posted s op node.desk)) None) (no_slot node s none)

-- the step is taken at no node
none_at : (m : Opening) (step : Step) (g : Log) (node : NodeView) → length node.desk.slots ≡ m.config.slots
    → length node.reads ≡ m.config.slots → NamesNoSlot m.config step → part_of m step g node ≡ None
none_at m (Post n s program argument) g node slots reads far =
    posts_none m s (Run (call_of program argument.items)) g node (get_outside node.desk.slots s (omega (arith, slots, far)))
none_at m (Install n s mode arg_len bytes) g node slots reads far =
    posts_none m s (operations.Install (record { mode = mode; arg_len = arg_len; bytes = bytes.items })) g node (get_outside node.desk.slots s (omega (arith, slots, far)))
none_at m (Collect n s) g node slots reads far =
    let none = get_outside node.desk.slots s (omega (arith, slots, far)) in
    let own = λ (x : Slot). option_map (λ reply. record { reply = reply; desk = with_slot node.desk s (slot Empty (counted reply x.count)) }) (answer_in x.stage) in
    ap (λ o. option_map (λ (c : Collection). with_call_or_back (events.Back (session_of_slot node s) (events.Updated c.reply)) g (record node { desk = c.desk })) (option_and_then own o)) none
none_at m (ReadBegin n s program argument) g node slots reads far =
    let none = get_outside node.desk.slots s (omega (arith, slots, far)) in
    let call = call_of program argument.items in
    ap (λ (b : Bool). cond (b && is_operation Read m.catalogue (Run call))
    (Some (with_call_or_back (Call (session_of_slot node s) Read (Run call)) g (with_read node s (Some (record {
      call =
          call;
      seen = g.done;
    })))))
    None) (no_slot node s none)
none_at m (ReadAnswer n s) g node slots reads far =
    let none = get_outside node.reads s (omega (arith, reads, far)) in
    let answers = λ (read : BegunRead).
    cond (may_answer read.seen g.done (own_of node))
    (option_map (λ e. with_call_or_back (events.Back (session_of_slot node s) (events.ReadBack (record {
      point =
          node.replica.tail;
      reply = e.reply;
    }))) g (with_read node s None))
    (store_meaning.read m.catalogue (Run read.call) node.replica.state))
    None in
    ap (λ (o : Option (Option BegunRead)). option_and_then answers (option_and_then (λ read. read) o)) none
none_at m step g node slots reads far = absurd far

none_taken : (m : Opening) (w : WorldView) (h : History) (positions : Positions) (t : Trace) (step : Step)
    → Stands m w h positions t → IsAbsent m.config step → step_answer (took m w step) ≡ NotNow
none_taken m w h positions t step x absent = by (slice_get w.nodes (node_of step)) refl absent
  where
    told : Option NodeView → StepAnswer
    told o = step_answer (option_and_then (λ k. option_map (put_part w (node_of step)) (part_of m step w.log k)) o)

    by : (o : Option NodeView) → slice_get w.nodes (node_of step) ≡ o → IsAbsent m.config step
        → step_answer (took m w step) ≡ NotNow
    by None is absent = ap told is
    by (Some node) is (inl far) =
        let count = x.count in
        absurd (none-some node (sym (get_outside w.nodes (node_of step) (omega (arith, count, far))) ∙ is))
    by (Some node) is (inr far) =
        let desk = (x.nodes (node_of step) node is).desk in
        ap told is
        ∙ ap (λ o. step_answer (option_map (put_part w (node_of step)) o))
        (none_at m step w.log node desk.slots desk.reads far)

-- ---- what a step is answered

nothing_more : {A : Type 0} (x : A) → x ∷ [] ≡ [] → ⊥
nothing_more x e = let long = ap length e in absurd (omega (arith, long))

suits_back : (c : Sizes) (reply : Reply) (e : Event) (step : Step)
    → e ∷ [] ≡ read_off c (step ∷ []) (Back reply ∷ []) → MayAnswer (Back reply) step
suits_back c reply e (Collect n s) is = tt
suits_back c reply e step is = absurd (nothing_more e is)

suits_read : (c : Sizes) (answer : ReadTold) (e : Event) (step : Step)
    → e ∷ [] ≡ read_off c (step ∷ []) (ReadBack answer ∷ []) → MayAnswer (ReadBack answer) step
suits_read c answer e (ReadAnswer n s) is = tt
suits_read c answer e step is = absurd (nothing_more e is)

-- the step answers a call
abbrev AnswersCall : Step → Type 0
AnswersCall (Collect n s) = Unit {0}
AnswersCall (ReadAnswer n s) = Unit {0}
AnswersCall step = ⊥

abbrev IsEvent : Option Event → Type 0
IsEvent o = (e : Event) × (o ≡ Some e)

mapped_event : {A : Type 0} (f : A → Part) → ((x : A) → IsEvent (f x).event) → (o : Option A) (p : Part)
    → option_map f o ≡ Some p → IsEvent p.event
mapped_event f has None p is = absurd (none-some p is)
mapped_event f has (Some x) p is = subst (λ (z : Part). IsEvent z.event) (same_Some (f x) p is) (has x)

-- then it is an event
event_at : (m : Opening) (step : Step) (g : Log) (node : NodeView) (p : Part) → AnswersCall step
    → part_of m step g node ≡ Some p → IsEvent p.event
event_at m (Collect n s) g node p answers is =
    let back = λ (c : Collection). events.Back (session_of_slot node s) (events.Updated c.reply) in
    mapped_event (λ (c : Collection). with_call_or_back (back c) g (record node { desk = c.desk }))
    (λ c. (_, refl)) (collected s node.desk) p is
event_at m (ReadAnswer n s) g node p answers is = by (read_at node s) is
  where
    told : ReadEffect → Part
    told e = with_call_or_back (events.Back (session_of_slot node s) (events.ReadBack (record { point = node.replica.tail; reply = e.reply }))) g (with_read node s None)

    tested : (read : BegunRead) (b : Bool)
        → cond b (option_map told (store_meaning.read m.catalogue (Run read.call) node.replica.state)) None ≡ Some p
        → IsEvent p.event
    tested read false never = absurd (none-some p never)
    tested read true there =
        mapped_event told (λ e. (_, refl)) (store_meaning.read m.catalogue (Run read.call) node.replica.state) p there

    by : (o : Option BegunRead)
        → option_and_then (λ read. cond (may_answer read.seen g.done (own_of node)) (option_map told (store_meaning.read m.catalogue (Run read.call) node.replica.state)) None) o ≡ Some p
        → IsEvent p.event
    by None never = absurd (none-some p never)
    by (Some read) there = tested read (may_answer read.seen g.done (own_of node)) there
event_at m step g node p answers is = absurd answers

event_of_taken : (m : Opening) (w : WorldView) (step : Step) (r : Took) → AnswersCall step → took m w step ≡ Some r
    → IsEvent r.event
event_of_taken m w step r answers is = by (slice_get w.nodes (node_of step)) is
  where
    put : (node : NodeView) (o : Option Part) → part_of m step w.log node ≡ o
        → option_map (put_part w (node_of step)) o ≡ Some r → IsEvent r.event
    put node None at never = absurd (none-some r never)
    put node (Some p) at there =
        subst (λ (z : Took). IsEvent z.event) (same_Some (put_part w (node_of step) p) r there)
        (event_at m step w.log node p answers at)

    by : (o : Option NodeView)
        → option_and_then (λ node. option_map (put_part w (node_of step)) (part_of m step w.log node)) o ≡ Some r
        → IsEvent r.event
    by None never = absurd (none-some r never)
    by (Some node) there = put node (part_of m step w.log node) refl there

done_elsewhere : (step : Step) → (AnswersCall step → ⊥) → MayAnswer Done step
done_elsewhere (Collect n s) never = absurd (never tt)
done_elsewhere (ReadAnswer n s) never = absurd (never tt)
done_elsewhere step never = tt

-- a call is read off no such step
called_elsewhere : (c : Sizes) (e : Event) (step : Step) → e ∷ [] ≡ read_off c (step ∷ []) (Done ∷ [])
    → AnswersCall step → ⊥
called_elsewhere c e (Collect n s) is answers = nothing_more e is
called_elsewhere c e (ReadAnswer n s) is answers = nothing_more e is
called_elsewhere c e step is answers = answers

-- what is read off a step is the event that it is
suits_there : (c : Sizes) (step : Step) (o : Option Took)
    → ((r : Took) → AnswersCall step → o ≡ Some r → IsEvent r.event)
    → trace_after [] o ≡ read_off c (step ∷ []) (step_answer o ∷ []) → MayAnswer (step_answer o) step
suits_there c step None answers is = tt
suits_there c step (Some r) answers is = by r.event (λ a. answers r a refl) is
  where
    by : (e : Option Event) → (AnswersCall step → IsEvent e)
        → with_event [] e ≡ read_off c (step ∷ []) (answer_of e ∷ [])
        → MayAnswer (answer_of e) step
    by None has is = done_elsewhere step (λ a. let e = has a in none-some e.0 e.1)
    by (Some (events.Call x mode op)) has is =
        done_elsewhere step (called_elsewhere c (events.Call x mode op) step is)
    by (Some (events.Back x (events.Updated reply))) has is =
        suits_back c reply (events.Back x (events.Updated reply)) step is
    by (Some (events.Back x (events.ReadBack answer))) has is =
        suits_read c answer (events.Back x (events.ReadBack answer)) step is

-- ---- all steps of a new store

module _ (reads_off : TraceIsReadOff) (m : Opening) (whole : IsCatalogue m.catalogue) where
  -- the trace is what is read off the steps and their answers
  trace_is : (steps : List Step)
      → trace_of m (opened m) [] steps ≡ read_off m.config steps (answers_to m (opened m) steps)
  trace_is steps = reads_off m (opened m) [] [] [] [] steps (opening_stands m whole)

  pub takes_calls : (steps : List Step) → TakesCalls m.config m.catalogue steps (answers_to m (opened m) steps)
  takes_calls steps i step at due =
      let before : List Step = take i steps in
      let w : WorldView = world_of m (opened m) before in
      let t : Trace = trace_of m (opened m) [] before in
      let stood = run_stands m before (opened m) [] [] [] (opening_stands m whole) in
      let is = ap (read_off m.config before) (answers_before m (opened m) steps i) ∙ sym (trace_is before) in
      let due_there : IsDue m.config m.catalogue t step = subst (λ (z : Trace). IsDue m.config m.catalogue z step) is due in
      answer_at m (opened m) steps i step at ∙ ap Some (takes_due m w stood.0 stood.1 t step stood.2 due_there)

  -- from the opening on, after these steps
  stood : (before : List Step) → (h : History) × (positions : Positions)
      × Stands m (world_of m (opened m) before) h positions (trace_of m (opened m) [] before)
  stood before = run_stands m before (opened m) [] [] [] (opening_stands m whole)

  pub takes_none : (steps : List Step) → TakesNoneAbsent m.config steps (answers_to m (opened m) steps)
  takes_none steps i step at absent =
      let before : List Step = take i steps in
      let s = stood before in
      answer_at m (opened m) steps i step at
      ∙ ap Some (none_taken m (world_of m (opened m) before) s.0 s.1 (trace_of m (opened m) [] before) step s.2 absent)

  pub suits : (steps : List Step) → AnswersSuit steps (answers_to m (opened m) steps)
  suits steps i step answer at is =
      let before : List Step = take i steps in
      let w : WorldView = world_of m (opened m) before in
      let s = stood before in
      let own = reads_off m w s.0 s.1 (trace_of m (opened m) [] before) [] (step ∷ []) s.2 in
      let same = same_Some _ _ (sym (answer_at m (opened m) steps i step at) ∙ is) in
      subst (λ (z : StepAnswer). MayAnswer z step) same
      (suits_there m.config step (took m w step) (λ r answers at. event_of_taken m w step r answers at) own)

  settles_last : EveryScheduleSettles → AreSizes m.config → (steps before : List Step)
      → steps ≡ before ++ settling_store m.config
      → AllAnswered (read_off m.config steps (answers_to m (opened m) steps))
  settles_last settles config steps before is =
      let answered = (settles m before config whole).answered in
      let there = subst (λ (xs : List Step). AllAnswered (trace_of m (opened m) [] xs)) (sym is) answered in
      subst AllAnswered (trace_is steps) there

  pub settles_each : EveryScheduleSettles → AreSizes m.config → (steps : List Step)
      → Settles m.config steps (answers_to m (opened m) steps)
  settles_each settles config steps k before is =
      subst (λ (z : List StepAnswer). AllAnswered (read_off m.config (take k steps) z))
      (sym (answers_before m (opened m) steps k))
      (settles_last settles config (take k steps) before is)

  pub nodes_settle : AreSizes m.config → (steps : List Step) → NodesSettle m.config steps (answers_to m (opened m) steps)
  nodes_settle config steps k node before is =
      let there = subst (λ (xs : List Step). NodeAnswered m.config node (trace_of m (opened m) [] xs)) (sym is) (node_settles m before node config whole) in
      subst (λ (z : List StepAnswer). NodeAnswered m.config node (read_off m.config (take k steps) z))
      (sym (answers_before m (opened m) steps k))
      (subst (NodeAnswered m.config node) (trace_is (take k steps)) there)

-- what the steps of a new store answer
pub opened_answers : (m : Opening) (old : WorldState) (steps : List Step) (answers : List StepAnswer)
    → old ≡ opened_store m
    → answers ≡ answers_to old.opening old.world steps → answers_to m (opened m) steps ≡ answers
opened_answers m old steps answers is are =
    sym (are ∙ ap (λ (s : WorldState). answers_to s.opening s.world steps) is)
