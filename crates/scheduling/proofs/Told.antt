-- A list of steps and its answers tell a trace, for which a history stands.
use Rattle.std.proofs.Common.{◌≡◌, ℕ, ◌≤◌, true, cond, List, [], ◌∷◌, ◌++◌, length, Option, Some, None, refl, sym, ap, ◌∙◌, inl, inr, subst, arith}
use Rattle.std.specs.Prelude.{◌&&◌, nat_le, slice_get, option_map, option_and_then, Ok}
use Rattle.std.specs.Option.{option_map_or}
use Rattle.std.proofs.lemmas.Bool.{and_parts, leb-true}
use Rattle.text.specs.Lines.{lines_of, next_line}
use Rattle.verifier.specs.declared.refusal.Mode.TheVariants.{Update, Read}
use Rattle.loader.specs.CatalogueView.{CatalogueView, IsCatalogue}
use Rattle.loader.specs.Loading.{Outcome}
use Rattle.loader.specs.declared.installed.TheConstants.{MAX_SPARE}
use Rattle.oplog.specs.Operations.{Operation}
use Rattle.oplog.specs.declared.configuration.Config.{Config}
use Rattle.oplog.specs.declared.configuration.TheConstants.{MAX_NODES, MAX_NODE_SLOTS, MIN_WINDOW, MAX_WINDOW, MAX_LIMIT}
use Rattle.oplog.specs.declared.records.Op.TheVariants.{Run, Install as AnInstall}
use Rattle.oplog.specs.History.{ReadEffect, History}
use Rattle.oplog.specs.Limits.{sizes_in}
use Rattle.oplog.specs.Logs.{Log}
use Rattle.oplog.specs.Sessions.{session}
use Rattle.combiner.specs.Desks.{posted, collected, has_request}
use Rattle.replica.specs.StoreMeaning.{store_meaning, is_operation}
use Rattle.node.specs.Following.{may_answer}
use Rattle.node.specs.Steps.{NodeStep, Appends, Replays, Finishes, Reclaims, Rebases, Replies, may}
use Rattle.schedule.specs.declared.parts.BegunRead.{BegunRead}
use Rattle.schedule.specs.declared.parts.Opening.{Opening}
use Rattle.schedule.specs.declared.steps.StepAnswer.TheVariants as answers
use Rattle.schedule.specs.Trace.{Answer as TheAnswer, Updated, ReadBack, Event, Call, Back, Trace, Positions}
use Rattle.schedule.specs.Worlds.{NodeView, WorldView, own_of, opened, opening_of}
use Rattle.schedule.specs.Steps.{Part, Took, claim, collect, post, read_answer, read_begin, with_call_or_back, put_part, session_of_slot, is_idle, with_read, read_at, no_batch, inner, seen_of, with_event, world_after}
use Rattle.schedule.specs.Stands.{DeskStands, Stands}
use Rattle.schedule.specs.Taking.{answer_of, step_answer}
use Rattle.schedule.proofs.Export.{cond_gives, map_gives, Kept, session_is, keeps_post, keeps_collect, keeps_read_begin, keeps_read_answer, keeps_finish, keeps_reclaim, keeps_rebase, keeps_replay, keeps_claim, keeps_reply, keeps_append, opening_stands, standing_is_explained, event_is}
use Rattle.engine.proofs.Export.{are_limits}
use Rattle.engine.specs.Answer.{Answer}
use Rattle.engine.specs.Sizes.{are_sizes, sizes_refused}
use Rattle.engine.specs.Reading.{TextsRead, loaded_by, limits_of}
use Rattle.scripts.specs.StepLine.{StepMeaning, Comment, Post, Install, ReadBegin, Collect, ReadAnswer, Claim, Append, Replay, Finish, Reply, Reclaim, Rebase, step_line_meaning}
use Rattle.running.specs.RunAnswer.{behind, bad_line}
use Rattle.running.proofs.Export.{loaded_is_catalogue}
use Rattle.scheduling.specs.ScheduleAnswer.{StepTurn, line_took, step_turn, step_line_turn, steps_answer, scheduled, schedule_answer}
use Rattle.scheduling.specs.Traced.{call_said, event_told, line_text, Tells, AreExplained}
use Rattle.machine.proofs.Export.{and_then_some}

-- ---- one line

-- the node of a line, and what its step makes of the log and of that node
abbrev node_of : StepMeaning → ℕ
node_of Comment = 0
node_of (Post at call) = at.node
node_of (Install at new) = at.node
node_of (ReadBegin at call) = at.node
node_of (Collect at) = at.node
node_of (ReadAnswer at) = at.node
node_of (Claim n) = n
node_of (Append n) = n
node_of (Replay n) = n
node_of (Finish n) = n
node_of (Reply n) = n
node_of (Reclaim n) = n
node_of (Rebase n) = n

abbrev part_of : Opening → StepMeaning → Log → NodeView → Option Part
part_of m Comment g node = None
part_of m (Post at call) g node = post m at.slot (Run (call_said m.catalogue call)) g node
part_of m (Install at new) g node = post m at.slot (AnInstall new) g node
part_of m (ReadBegin at call) g node = read_begin m at.slot (call_said m.catalogue call) g node
part_of m (Collect at) g node = collect at.slot g node
part_of m (ReadAnswer at) g node = read_answer m at.slot g node
part_of m (Claim n) g node = claim g node
part_of m (Append n) g node = inner m Appends g node
part_of m (Replay n) g node = inner m Replays g node
part_of m (Finish n) g node = inner m Finishes g node
part_of m (Reply n) g node = inner m Replies g node
part_of m (Reclaim n) g node = inner m Reclaims g node
part_of m (Rebase n) g node = inner m Rebases g node

nothing : (w : WorldView) (n : ℕ) (o : Option NodeView) → option_and_then (λ node. option_map (put_part w n) None) o ≡ None
nothing w n None = refl
nothing w n (Some node) = refl

took_is : (m : Opening) (w : WorldView) (line : StepMeaning) → line_took m w line ≡ option_and_then (λ node. option_map (put_part w (node_of line)) (part_of m line w.log node)) (slice_get w.nodes (node_of line))
took_is m w Comment = sym (nothing w 0 (slice_get w.nodes 0))
took_is m w line = refl

-- ---- one line keeps what stands

keeps_part : (m : Opening) (w : WorldView) (h : History) (positions : Positions) (t : Trace) (line : StepMeaning) (node : NodeView) (p : Part)
    → slice_get w.nodes (node_of line) ≡ Some node → part_of m line w.log node ≡ Some p → Stands m w h positions t → Kept m w h positions t (node_of line) p
keeps_part m w h positions t Comment node p at taken x = absurd cc
keeps_part m w h positions t (Post to call) node p at taken x = keeps_post m w h positions t to.node to.slot (Run (call_said m.catalogue call)) node p at taken x
keeps_part m w h positions t (Install to new) node p at taken x = keeps_post m w h positions t to.node to.slot (AnInstall new) node p at taken x
keeps_part m w h positions t (ReadBegin to call) node p at taken x = keeps_read_begin m w h positions t to.node to.slot (call_said m.catalogue call) node p at taken x
keeps_part m w h positions t (Collect to) node p at taken x = keeps_collect m w h positions t to.node to.slot node p at taken x
keeps_part m w h positions t (ReadAnswer to) node p at taken x = keeps_read_answer m w h positions t to.node to.slot node p at taken x
keeps_part m w h positions t (Claim n) node p at taken x = keeps_claim m w h positions t n node p at taken x
keeps_part m w h positions t (Append n) node p at taken x = keeps_append m w h positions t n node p at taken x
keeps_part m w h positions t (Replay n) node p at taken x = keeps_replay m w h positions t n node p at taken x
keeps_part m w h positions t (Finish n) node p at taken x = keeps_finish m w h positions t n node p at taken x
keeps_part m w h positions t (Reply n) node p at taken x = keeps_reply m w h positions t n node p at taken x
keeps_part m w h positions t (Reclaim n) node p at taken x = keeps_reclaim m w h positions t n node p at taken x
keeps_part m w h positions t (Rebase n) node p at taken x = keeps_rebase m w h positions t n node p at taken x

-- ---- the event of a line

-- an event is the one that the line and its answer tell
abbrev IsTold : Opening → StepMeaning → Option Event → Type 0
IsTold m line e = event_told m line (answer_of e) ≡ e

told : (m : Opening) (line : StepMeaning) (e f : Option Event) → e ≡ f → IsTold m line e → IsTold m line f
told m line e f same is = subst (IsTold m line) same is

inner_told : (m : Opening) (kind : NodeStep) (line : StepMeaning) (g : Log) (node : NodeView) (p : Part) → inner m kind g node ≡ Some p → IsTold m line None → IsTold m line p.event
inner_told m kind line g node p taken is = let c = cond_gives (may kind (seen_of g node)) _ p taken in told m line None p.event (event_is _ p c.1) is

post_told : (m : Opening) (n s : ℕ) (line : StepMeaning) (op : Operation) (g : Log) (node : NodeView) (p : Part) → DeskStands m n node → post m s op g node ≡ Some p
    → IsTold m line (Some (Call (session m.config n s) Update op)) → IsTold m line p.event
post_told m n s line op g node p desk taken is =
    let c = cond_gives (is_idle node s && is_operation Update m.catalogue op) _ p taken in
    let d = map_gives (λ desk. with_call_or_back (Call (session_of_slot node s) Update op) g (record node { desk = desk })) (posted s op node.desk) p c.1 in
    told m line (Some (Call (session m.config n s) Update op)) p.event (ap (λ x. Some (Call x Update op)) (sym (session_is m n node s desk)) ∙ ap (λ (q : Part). q.event) d.2) is

part_told : (m : Opening) (line : StepMeaning) (g : Log) (node : NodeView) (p : Part) → DeskStands m (node_of line) node → part_of m line g node ≡ Some p → IsTold m line p.event
part_told m Comment g node p desk taken = absurd cc
part_told m (Post to call) g node p desk taken = post_told m to.node to.slot (Post to call) (Run (call_said m.catalogue call)) g node p desk taken refl
part_told m (Install to new) g node p desk taken = post_told m to.node to.slot (Install to new) (AnInstall new) g node p desk taken refl
part_told m (ReadBegin to call) g node p desk taken =
    let op : Operation = Run (call_said m.catalogue call) in
    let c = cond_gives (is_idle node to.slot && is_operation Read m.catalogue op) _ p taken in
    told m (ReadBegin to call) (Some (Call (session m.config to.node to.slot) Read op)) p.event (ap (λ x. Some (Call x Read op)) (sym (session_is m to.node node to.slot desk)) ∙ event_is _ p c.1) refl
part_told m (Collect to) g node p desk taken =
    let d = map_gives (λ c. with_call_or_back (Back (session_of_slot node to.slot) (Updated c.reply)) g (record node { desk = c.desk })) (collected to.slot node.desk) p taken in
    told m (Collect to) (Some (Back (session m.config to.node to.slot) (Updated d.0.reply))) p.event
    (ap (λ x. Some (Back x (Updated d.0.reply))) (sym (session_is m to.node node to.slot desk)) ∙ ap (λ (q : Part). q.event) d.2) refl
part_told m (ReadAnswer to) g node p desk taken =
    let r = and_then_some _ (read_at node to.slot) p taken in
    let read : BegunRead = r.0 in
    let c = cond_gives (may_answer read.seen g.done (own_of node)) _ p r.2 in
    let d = map_gives (λ (f : ReadEffect). with_call_or_back (Back (session_of_slot node to.slot) (ReadBack (record { point = node.replica.tail; reply = f.reply }))) g (with_read node to.slot None)) (store_meaning.read m.catalogue (Run read.call) node.replica.state) p c.1 in
    let a : TheAnswer = ReadBack (record { point = node.replica.tail; reply = d.0.reply }) in
    told m (ReadAnswer to) (Some (Back (session m.config to.node to.slot) a)) p.event (ap (λ x. Some (Back x a)) (sym (session_is m to.node node to.slot desk)) ∙ ap (λ (q : Part). q.event) d.2) refl
part_told m (Claim n) g node p desk taken = let c = cond_gives (no_batch node.batch && has_request node.desk) _ p taken in told m (Claim n) None p.event (event_is _ p c.1) refl
part_told m (Append n) g node p desk taken = inner_told m Appends (Append n) g node p taken refl
part_told m (Replay n) g node p desk taken = inner_told m Replays (Replay n) g node p taken refl
part_told m (Finish n) g node p desk taken = inner_told m Finishes (Finish n) g node p taken refl
part_told m (Reply n) g node p desk taken = inner_told m Replies (Reply n) g node p taken refl
part_told m (Reclaim n) g node p desk taken = inner_told m Reclaims (Reclaim n) g node p taken refl
part_told m (Rebase n) g node p desk taken = inner_told m Rebases (Rebase n) g node p taken refl

-- a line whose step may not be taken is no event
not_told : (m : Opening) (line : StepMeaning) → event_told m line answers.NotNow ≡ None
not_told m Comment = refl
not_told m (Post to call) = refl
not_told m (Install to new) = refl
not_told m (ReadBegin to call) = refl
not_told m (Collect to) = refl
not_told m (ReadAnswer to) = refl
not_told m (Claim n) = refl
not_told m (Append n) = refl
not_told m (Replay n) = refl
not_told m (Finish n) = refl
not_told m (Reply n) = refl
not_told m (Reclaim n) = refl
not_told m (Rebase n) = refl

-- some history stands after a line's step, for the trace with the event that line and answer tell
record GoesOn (m : Opening) (w : WorldView) (t : Trace) (line : StepMeaning) : Type 0 where
  history : History
  positions : Positions
  stands : Stands m (world_after w (line_took m w line)) history positions (with_event t (event_told m line (step_answer (line_took m w line))))

goes_on : (m : Opening) (w : WorldView) (h : History) (positions : Positions) (t : Trace) (line : StepMeaning) → Stands m w h positions t → GoesOn m w t line
goes_on m w h positions t line x = by (line_took m w line) refl
  where
    After : Option Took → Type 0
    After o = (h : History) × (positions : Positions) × Stands m (world_after w o) h positions (with_event t (event_told m line (step_answer o)))

    taken : (r : Took) → line_took m w line ≡ Some r → After (Some r)
    taken r e =
        let at = and_then_some (λ node. option_map (put_part w (node_of line)) (part_of m line w.log node)) (slice_get w.nodes (node_of line)) r (sym (took_is m w line) ∙ e) in
        let p = map_gives (put_part w (node_of line)) (part_of m line w.log at.0) r at.2 in
        let kept = keeps_part m w h positions t line at.0 p.0 at.1 p.1 x in
        let is = part_told m line w.log at.0 p.0 (x.nodes (node_of line) at.0 at.1).desk p.1 in
        subst (λ (z : Took). After (Some z)) p.2 (
          h ++ kept.0,
          positions ++ kept.1,
          subst (λ e. Stands m (put_part w (node_of line) p.0).world (h ++ kept.0) (positions ++ kept.1) (with_event t e)) (sym is) kept.2,
        )

    by : (o : Option Took) → line_took m w line ≡ o → GoesOn m w t line
    by None e = record {
      history = h;
      positions = positions;
      stands = subst (λ o. Stands m (world_after w o) h positions (with_event t (event_told m line (step_answer o)))) (sym e) (subst (λ (e : Option Event). Stands m w h positions (with_event t e)) (sym (not_told m line)) x);
    }
    by (Some r) e =
        let a = taken r e in
        record { history = a.0; positions = a.1; stands = subst (λ o. Stands m (world_after w o) a.0 a.1 (with_event t (event_told m line (step_answer o)))) (sym e) a.2 }

-- ---- lines

-- what a line writes and leaves is what its step does
turn_is : (m : Opening) (w : WorldView) (line : StepMeaning) → step_turn m w line ≡ record { text = line_text line (step_answer (line_took m w line)); world = world_after w (line_took m w line) }
turn_is m w Comment = refl
turn_is m w (Post to call) = refl
turn_is m w (Install to new) = refl
turn_is m w (ReadBegin to call) = refl
turn_is m w (Collect to) = refl
turn_is m w (ReadAnswer to) = refl
turn_is m w (Claim n) = refl
turn_is m w (Append n) = refl
turn_is m w (Replay n) = refl
turn_is m w (Finish n) = refl
turn_is m w (Reply n) = refl
turn_is m w (Reclaim n) = refl
turn_is m w (Rebase n) = refl

-- from a store for which some history stands
record AnswerTold (m : Opening) (n : ℕ) (t : Trace) (ls : List (List ℕ)) (a : Answer) : Type 0 where
  whole : Trace
  world : WorldView
  history : History
  positions : Positions
  tells : Tells m n t ls a whole world
  stands : Stands m world history positions whole

lines_told : (m : Opening) (n : ℕ) (w : WorldView) (h : History) (positions : Positions) (t : Trace) (ls : List (List ℕ)) → Stands m w h positions t → AnswerTold m n t ls (steps_answer m n w ls)
unfolding steps_answer step_line_turn
lines_told m n w h positions t [] x = record { whole = t; world = w; history = h; positions = positions; tells = (refl, refl); stands = x }
lines_told m n w h positions t (l ∷ ls) x = by (λ v g ps u y. lines_told m (next_line n) v g ps u ls y) (step_line_meaning (length m.catalogue.programs) l) refl
  where
    next : StepTurn → Answer
    next turn = steps_answer m (next_line n) turn.world ls

    by : ((v : WorldView) (g : History) (ps : Positions) (u : Trace) → Stands m v g ps u → AnswerTold m (next_line n) u ls (steps_answer m (next_line n) v ls)) → (o : Option StepMeaning) → step_line_meaning (length m.catalogue.programs) l ≡ o
        → AnswerTold m n t (l ∷ ls) (option_map_or (λ turn. behind turn.text (next turn)) (option_map (step_turn m w) o) (bad_line n))
    by more None e = record { whole = t; world = w; history = h; positions = positions; tells = inl (e, refl, refl); stands = x }
    by more (Some line) e =
        let on = goes_on m w h positions t line x in
        let given = step_answer (line_took m w line) in
        let rest = more (world_after w (line_took m w line)) on.history on.positions (with_event t (event_told m line given)) on.stands in
        record {
          whole = rest.whole;
          world = rest.world;
          history = rest.history;
          positions = rest.positions;
          tells = inr (line, e, given, steps_answer m (next_line n) (world_after w (line_took m w line)) ls, ap (λ (turn : StepTurn). behind turn.text (next turn)) (turn_is m w line), rest.tells);
          stands = rest.stands;
        }

pub lists_explained : (m : Opening) (ls : List (List ℕ)) → IsCatalogue m.catalogue → AreExplained m ls (steps_answer m 1 (opened m) ls)
lists_explained m ls whole =
    let told = lines_told m 1 (opened m) [] [] [] ls (opening_stands m whole) in
    (told.whole, told.world, told.tells, (told.history, told.positions, standing_is_explained m told.world told.history told.positions told.whole told.stands))

-- ---- the command

few_places : (c : Config) → are_sizes c ≡ true → c.spare ≤ MAX_SPARE
few_places c e =
    let one = and_parts (nat_le 1 c.nodes && nat_le c.nodes MAX_NODES) _ e in
    let two = and_parts (nat_le 1 c.slots && nat_le c.slots MAX_NODE_SLOTS) _ one.1 in
    let three = and_parts (nat_le MIN_WINDOW c.window && nat_le c.window MAX_WINDOW) _ two.1 in
    let four = and_parts (nat_le 1 c.limit && nat_le c.limit MAX_LIMIT) (nat_le c.spare MAX_SPARE) three.1 in
    leb-true c.spare MAX_SPARE four.1

pub schedules_explained : (config : Config) (t : TextsRead) (c : CatalogueView) → loaded_by t ≡ Ok c → are_sizes config ≡ true → AreExplained (opening_of (sizes_in config) c) (lines_of t.file) (schedule_answer config (Some t))
schedules_explained config t c is fine =
    let opening = opening_of (sizes_in config) c in
    let answer : schedule_answer config (Some t) ≡ steps_answer opening 1 (opened opening) (lines_of t.file) =
    ap (λ (o : Outcome). scheduled config o t.file) is ∙ ap (λ b. cond b (steps_answer opening 1 (opened opening) (lines_of t.file)) sizes_refused) fine in
    subst (AreExplained opening (lines_of t.file)) (sym answer) (lists_explained opening (lines_of t.file) (loaded_is_catalogue (limits_of t.sizes) t.manifest t.files c config.spare (are_limits t.sizes) is (omega (arith, few_places config fine))))
