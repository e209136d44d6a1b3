-- A store's trace is what its steps and their answers tell.
use Rattle.std.proofs.Common.{◌≡◌, ℕ, List, [], ◌∷◌, ◌++◌, Option, Some, None, refl, sym, ap, ◌∙◌, subst, append_assoc}
use Rattle.std.specs.Prelude.{slice_get, ◌&&◌, option_map}
use Rattle.std.proofs.lemmas.Option.{same_Some}
use Rattle.std.proofs.lemmas.List.{append-nil}
use Rattle.verifier.specs.declared.refusal.Mode.TheVariants.{Update, Read}
use Rattle.oplog.specs.declared.configuration.Sizes.{Sizes}
use Rattle.oplog.specs.Operations.{Operation}
use Rattle.oplog.specs.declared.records.Op.TheVariants.{Run}
use Rattle.oplog.specs.declared.records.Op.TheVariants as operations
use Rattle.oplog.specs.History.{ReadEffect, History}
use Rattle.oplog.specs.Logs.{Log}
use Rattle.oplog.specs.Sessions.{session}
use Rattle.combiner.specs.Desks.{posted, collected, has_request}
use Rattle.replica.specs.StoreMeaning.{store_meaning, is_operation}
use Rattle.node.specs.Following.{may_answer}
use Rattle.node.specs.Steps.{NodeStep, Appends, Replays, Finishes, Reclaims, Rebases, Replies, may}
use Rattle.schedule.specs.declared.parts.BegunRead.{BegunRead}
use Rattle.schedule.specs.declared.parts.Opening.{Opening}
use Rattle.schedule.specs.declared.steps.Step.{Step}
use Rattle.schedule.specs.declared.steps.Step.TheVariants.{Post, Install, Claim, Append, Replay, Finish, Reply, Collect, ReadBegin, ReadAnswer, Reclaim, Rebase}
use Rattle.schedule.specs.declared.steps.StepAnswer.TheVariants as answers
use Rattle.schedule.specs.Trace.{Answer, Updated, ReadBack, Event, Call, Back, Trace, Positions}
use Rattle.schedule.specs.Worlds.{NodeView, WorldView, own_of}
use Rattle.schedule.specs.Steps.{Part, Took, post, with_call_or_back, put_part, part_of, node_of, took, session_of_slot, is_idle, with_read, read_at, no_batch, inner, seen_of, with_event, world_after, trace_after, trace_of}
use Rattle.schedule.specs.Stands.{DeskStands, Stands}
use Rattle.schedule.specs.Taking.{answer_of, step_answer, answers_to}
use Rattle.schedule.specs.ReadOff.{event_of, before_events, read_off}
use Rattle.schedule.specs.Headline.{TraceIsReadOff}
use Rattle.schedule.proofs.Options.{cond_gives, map_gives}
use Rattle.schedule.proofs.Calls.{session_is}
use Rattle.schedule.proofs.Runs.{step_keeps}
use Rattle.machine.proofs.Export.{and_then_some}

-- an event is the one that the step and its answer tell
abbrev IsTold : Sizes → Step → Option Event → Type 0
IsTold c step e = event_of c step (answer_of e) ≡ e

pub told : (c : Sizes) (step : Step) (e f : Option Event) → e ≡ f → IsTold c step e → IsTold c step f
told c step e f same is = subst (λ o. IsTold c step o) same is

-- the event of a part
pub event_is : (p q : Part) → Some p ≡ Some q → p.event ≡ q.event
event_is p q same = ap (λ (r : Part). r.event) (same_Some p q same)

-- ---- one step

-- of a step that no client sees
inner_told : (m : Opening) (kind : NodeStep) (step : Step) (g : Log) (node : NodeView) (p : Part) → inner m kind g node ≡ Some p → IsTold m.config step None → IsTold m.config step p.event
inner_told m kind step g node p taken is =
    let c = cond_gives (may kind (seen_of g node)) _ p taken in
    told m.config step None p.event (event_is _ p c.1) is

-- of the post of an update
post_told : (m : Opening) (n s : ℕ) (step : Step) (op : Operation) (g : Log) (node : NodeView) (p : Part) → DeskStands m n node → post m s op g node ≡ Some p
    → IsTold m.config step (Some (Call (session m.config n s) Update op)) → IsTold m.config step p.event
post_told m n s step op g node p desk taken is =
    let c = cond_gives (is_idle node s && is_operation Update m.catalogue op) _ p taken in
    let d = map_gives (λ desk. with_call_or_back (Call (session_of_slot node s) Update op) g (record node { desk = desk })) (posted s op node.desk) p c.1 in
    told m.config step (Some (Call (session m.config n s) Update op)) p.event (ap (λ x. Some (Call x Update op)) (sym (session_is m n node s desk)) ∙ ap (λ (q : Part). q.event) d.2) is

part_told : (m : Opening) (step : Step) (g : Log) (node : NodeView) (p : Part) → DeskStands m (node_of step) node → part_of m step g node ≡ Some p → IsTold m.config step p.event
part_told m (Post n s program argument) g node p desk taken = post_told m n s (Post n s program argument) (Run (record { program = program; argument = argument.items })) g node p desk taken refl
part_told m (Install n s mode arg_len bytes) g node p desk taken =
    post_told m n s (Install n s mode arg_len bytes) (operations.Install (record { mode = mode; arg_len = arg_len; bytes = bytes.items })) g node p desk taken refl
part_told m (Claim n) g node p desk taken =
    let c = cond_gives (no_batch node.batch && has_request node.desk) _ p taken in
    told m.config (Claim n) None p.event (event_is _ p c.1) refl
part_told m (Append n) g node p desk taken = inner_told m Appends (Append n) g node p taken refl
part_told m (Replay n) g node p desk taken = inner_told m Replays (Replay n) g node p taken refl
part_told m (Finish n) g node p desk taken = inner_told m Finishes (Finish n) g node p taken refl
part_told m (Reply n) g node p desk taken = inner_told m Replies (Reply n) g node p taken refl
part_told m (Collect n s) g node p desk taken =
    let d = map_gives (λ c. with_call_or_back (Back (session_of_slot node s) (Updated c.reply)) g (record node { desk = c.desk })) (collected s node.desk) p taken in
    told m.config (Collect n s) (Some (Back (session m.config n s) (Updated d.0.reply))) p.event (ap (λ x. Some (Back x (Updated d.0.reply))) (sym (session_is m n node s desk)) ∙ ap (λ (q : Part). q.event) d.2) refl
part_told m (ReadBegin n s program argument) g node p desk taken =
    let op : Operation = Run (record { program = program; argument = argument.items }) in
    let c = cond_gives (is_idle node s && is_operation Read m.catalogue op) _ p taken in
    told m.config (ReadBegin n s program argument) (Some (Call (session m.config n s) Read op)) p.event (ap (λ x. Some (Call x Read op)) (sym (session_is m n node s desk)) ∙ event_is _ p c.1) refl
part_told m (ReadAnswer n s) g node p desk taken =
    let r = and_then_some _ (read_at node s) p taken in
    let read : BegunRead = r.0 in
    let c = cond_gives (may_answer read.seen g.done (own_of node)) _ p r.2 in
    let d = map_gives (λ (f : ReadEffect). with_call_or_back (Back (session_of_slot node s) (ReadBack (record { point = node.replica.tail; reply = f.reply }))) g (with_read node s None)) (store_meaning.read m.catalogue (Run read.call) node.replica.state) p c.1 in
    let a : Answer = ReadBack (record { point = node.replica.tail; reply = d.0.reply }) in
    told m.config (ReadAnswer n s) (Some (Back (session m.config n s) a)) p.event (ap (λ x. Some (Back x a)) (sym (session_is m n node s desk)) ∙ ap (λ (q : Part). q.event) d.2) refl
part_told m (Reclaim n) g node p desk taken = inner_told m Reclaims (Reclaim n) g node p taken refl
part_told m (Rebase n) g node p desk taken = inner_told m Rebases (Rebase n) g node p taken refl

-- a step that may not be taken is no event
not_told : (c : Sizes) (step : Step) → event_of c step answers.NotNow ≡ None
not_told c (Post n s program argument) = refl
not_told c (Install n s mode arg_len bytes) = refl
not_told c (Claim n) = refl
not_told c (Append n) = refl
not_told c (Replay n) = refl
not_told c (Finish n) = refl
not_told c (Reply n) = refl
not_told c (Collect n s) = refl
not_told c (ReadBegin n s program argument) = refl
not_told c (ReadAnswer n s) = refl
not_told c (Reclaim n) = refl
not_told c (Rebase n) = refl

-- the event of a step, if it may be taken
abbrev event_in : Option Took → Option Event
event_in None = None
event_in (Some r) = r.event

step_told : (m : Opening) (w : WorldView) (h : History) (positions : Positions) (t : Trace) (step : Step) → Stands m w h positions t → event_of m.config step (step_answer (took m w step)) ≡ event_in (took m w step)
step_told m w h positions t step x = go (took m w step) refl
  where
    go : (o : Option Took) → took m w step ≡ o → event_of m.config step (step_answer o) ≡ event_in o
    go None e = not_told m.config step
    go (Some r) e =
        let at = and_then_some (λ node. option_map (put_part w (node_of step)) (part_of m step w.log node)) (slice_get w.nodes (node_of step)) r e in
        let p = map_gives (put_part w (node_of step)) (part_of m step w.log at.0) r at.2 in
        subst (λ (z : Took). IsTold m.config step z.event) p.2 (part_told m step w.log at.0 p.0 (x.nodes (node_of step) at.0 at.1).desk p.1)

-- ---- all steps

event_added : (t : Trace) (o : Option Event) → with_event t o ≡ t ++ before_events o []
event_added t None = sym (append-nil t)
event_added t (Some e) = refl

trace_step : (t : Trace) (o : Option Took) → trace_after t o ≡ t ++ before_events (event_in o) []
trace_step t None = sym (append-nil t)
trace_step t (Some r) = event_added t r.event

before_append : (o : Option Event) (ts : Trace) → before_events o [] ++ ts ≡ before_events o ts
before_append None ts = refl
before_append (Some e) ts = refl

-- from a store that stands, whatever its trace
pub steps_told : (m : Opening) (steps : List Step) (w : WorldView) (h : History) (positions : Positions) (past t : Trace) → Stands m w h positions past → trace_of m w t steps ≡ t ++ read_off m.config steps (answers_to m w steps)
steps_told m [] w h positions past t x = sym (append-nil t)
steps_told m (step ∷ steps) w h positions past t x =
    let k = step_keeps m w h positions past step x in
    let rest : Trace = read_off m.config steps (answers_to m (world_after w (took m w step)) steps) in
    steps_told m steps (world_after w (took m w step)) (h ++ k.0) (positions ++ k.1) (trace_after past (took m w step)) (trace_after t (took m w step)) k.2
    ∙ ap (λ s. s ++ rest) (trace_step t (took m w step))
    ∙ append_assoc t (before_events (event_in (took m w step)) []) rest
    ∙ ap (λ s. t ++ s) (before_append (event_in (took m w step)) rest ∙ ap (λ e. before_events e rest) (sym (step_told m w h positions past step x)))

pub trace_is_read_off : TraceIsReadOff
trace_is_read_off m w h positions past t steps x = steps_told m steps w h positions past t x
