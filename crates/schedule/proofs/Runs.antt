-- What holds at the opening, after each step, and so after any list of steps.
use Rattle.std.proofs.Common.{◌≡◌, ℕ, zero, suc, ◌+◌, ◌*◌, List, [], ◌∷◌, ◌++◌, length, Option, Some, None, refl, sym, ap, ◌∙◌, arith, subst, append_assoc}
use Rattle.std.specs.Prelude.{slice_get, replicate, option_map}
use Rattle.std.proofs.lemmas.Option.{none-some, same_Some}
use Rattle.oplog.specs.declared.records.Op.TheVariants.{Run}
use Rattle.oplog.specs.declared.records.Op.TheVariants as operations
use Rattle.oplog.specs.History.{History}
use Rattle.oplog.specs.Sessions.{session}
use Rattle.combiner.specs.declared.slots.Stage.TheVariants.{Empty}
use Rattle.combiner.specs.Slots.{slot}
use Rattle.combiner.specs.Desks.{claimed_from}
use Rattle.node.specs.declared.parts.NodeBatch.TheVariants.{Absent}
use Rattle.schedule.specs.declared.steps.Step.{Step}
use Rattle.schedule.specs.declared.steps.Step.TheVariants.{Post, Install, Claim, Append, Replay, Finish, Reply, Collect, ReadBegin, ReadAnswer, Reclaim, Rebase}
use Rattle.schedule.specs.Trace.{ReadBack, Call, Back, Trace, Positions}
use Rattle.schedule.specs.declared.parts.Opening.{Opening}
use Rattle.schedule.specs.Worlds.{NodeView, WorldView, opened_node, opened_nodes, new_log, opened}
use Rattle.schedule.specs.Steps.{Part, Took, put_part, part_of, node_of, took, world_after, trace_after, world_of, trace_of}
use Rattle.schedule.specs.Stands.{NodeStands, StageStands, Stands}
use Rattle.loader.specs.CatalogueView.{IsCatalogue}
use Rattle.oplog.specs.Limits.{AreSizes}
use Rattle.oplog.specs.Logs.{Log}
use Rattle.schedule.specs.Taking.{store_of, IsStanding}
use Rattle.schedule.specs.Headline.{EverySchedule, StepKeeps, StepsKeep, OpeningStands, StandingIsExplained}
use Rattle.schedule.proofs.Options.{map_gives}
use Rattle.schedule.proofs.Calls.{Kept, same_history, keeps_post, keeps_collect, keeps_read_begin, keeps_read_answer}
use Rattle.schedule.proofs.Logs.{keeps_finish, keeps_reclaim, keeps_rebase}
use Rattle.schedule.proofs.Replays.{keeps_replay}
use Rattle.schedule.proofs.Desks.{keeps_claim, keeps_reply}
use Rattle.schedule.proofs.Append.{keeps_append}
use Rattle.machine.proofs.Export.{and_then_some}

-- ---- a step

-- the node's part of a step keeps what stands
pub keeps_part : (m : Opening) (w : WorldView) (h : History) (positions : Positions) (t : Trace) (step : Step) (node : NodeView) (p : Part)
    → slice_get w.nodes (node_of step) ≡ Some node → part_of m step w.log node ≡ Some p → Stands m w h positions t → Kept m w h positions t (node_of step) p
keeps_part m w h positions t (Post n s program argument) node p at taken x = keeps_post m w h positions t n s (Run (record { program = program; argument = argument.items })) node p at taken x
keeps_part m w h positions t (Install n s mode arg_len bytes) node p at taken x =
    keeps_post m w h positions t n s (operations.Install (record { mode = mode; arg_len = arg_len; bytes = bytes.items })) node p at taken x
keeps_part m w h positions t (Claim n) node p at taken x = keeps_claim m w h positions t n node p at taken x
keeps_part m w h positions t (Append n) node p at taken x = keeps_append m w h positions t n node p at taken x
keeps_part m w h positions t (Replay n) node p at taken x = keeps_replay m w h positions t n node p at taken x
keeps_part m w h positions t (Finish n) node p at taken x = keeps_finish m w h positions t n node p at taken x
keeps_part m w h positions t (Reply n) node p at taken x = keeps_reply m w h positions t n node p at taken x
keeps_part m w h positions t (Collect n s) node p at taken x = keeps_collect m w h positions t n s node p at taken x
keeps_part m w h positions t (ReadBegin n s program argument) node p at taken x = keeps_read_begin m w h positions t n s (record { program = program; argument = argument.items }) node p at taken x
keeps_part m w h positions t (ReadAnswer n s) node p at taken x = keeps_read_answer m w h positions t n s node p at taken x
keeps_part m w h positions t (Reclaim n) node p at taken x = keeps_reclaim m w h positions t n node p at taken x
keeps_part m w h positions t (Rebase n) node p at taken x = keeps_rebase m w h positions t n node p at taken x

-- some history, from this one on, stands after the step
abbrev After : Opening → History → Positions → Trace → WorldView → Option Took → Type 0
After m h positions t w o = (more : History) × (later : Positions) × Stands m (world_after w o) (h ++ more) (positions ++ later) (trace_after t o)

pub keeps : (m : Opening) (w : WorldView) (h : History) (positions : Positions) (t : Trace) (step : Step) (r : Took) → took m w step ≡ Some r → Stands m w h positions t → After m h positions t w (Some r)
keeps m w h positions t step r e x =
    let at = and_then_some (λ node. option_map (put_part w (node_of step)) (part_of m step w.log node)) (slice_get w.nodes (node_of step)) r e in
    let p = map_gives (put_part w (node_of step)) (part_of m step w.log at.0) r at.2 in
    subst (λ z. After m h positions t w (Some z)) p.2 (keeps_part m w h positions t step at.0 p.0 at.1 p.1 x)

pub step_keeps : StepKeeps
step_keeps m w h positions t step x = go (took m w step) refl
  where
    go : (o : Option Took) → took m w step ≡ o → After m h positions t w o
    go None e = same_history m w h positions t x
    go (Some r) e = keeps m w h positions t step r e x

-- ---- the opening

pub replicate_get : {A : Type 0} (n : ℕ) (v : A) (i : ℕ) (u : A) → slice_get (replicate n v) i ≡ Some u → v ≡ u
replicate_get zero v i u g = absurd (none-some u g)
replicate_get (suc n) v zero u g = same_Some v u g
replicate_get (suc n) v (suc i) u g = replicate_get n v i u g

pub replicate_length : {A : Type 0} (n : ℕ) (v : A) → length (replicate n v) ≡ n
replicate_length zero v = refl
replicate_length (suc n) v = ap suc (replicate_length n v)

nodes_get : (m : Opening) (first count k : ℕ) (node : NodeView) → slice_get (opened_nodes m first count) k ≡ Some node → opened_node m (first + k) ≡ node
nodes_get m first zero k node g = absurd (none-some node g)
nodes_get m first (suc count) zero node g = let i : first + 0 ≡ first = omega arith in ap (opened_node m) i ∙ same_Some (opened_node m first) node g
nodes_get m first (suc count) (suc k) node g = let i : first + suc k ≡ suc first + k = omega arith in ap (opened_node m) i ∙ nodes_get m (suc first) count k node g

pub nodes_count : (m : Opening) (first count : ℕ) → length (opened_nodes m first count) ≡ count
nodes_count m first zero = refl
nodes_count m first (suc count) = ap suc (nodes_count m (suc first) count)

none_claimed : (a n : ℕ) → claimed_from a (replicate n (slot Empty 0)) ≡ []
none_claimed a zero = refl
none_claimed a (suc n) = none_claimed (suc a) n

node_opened : (m : Opening) (n : ℕ) → NodeStands m 0 [] [] [] n (opened_node m n)
node_opened m n = record {
  replica = record { tail = omega arith; state = refl; begins = refl; next = λ j r g. absurd (none-some r g); window = refl; long = refl };
  desk = record {
    number = refl;
    slots = replicate_length m.config.slots (slot Empty 0);
    reads = replicate_length m.config.slots None;
    own = sym (none_claimed (n * length (replicate m.config.slots (slot Empty 0))) m.config.slots);
    answers = refl;
  };
  batch = tt;
  seats = λ s x read there begun.
      subst (λ y. StageStands m 0 [] [] [] (session m.config n s) Absent y.count y.stage read) (replicate_get m.config.slots (slot Empty 0) s x there)
      (subst (λ r. StageStands m 0 [] [] [] (session m.config n s) Absent 0 Empty r) (replicate_get m.config.slots None s read begun)
      ((λ mode op c o. none-some (Call (session m.config n s) mode op) o.call), refl));
}

pub opening_stands : OpeningStands
opening_stands m whole = record {
  catalogue = whole;
  explains = record {
    updates = λ i r g. absurd (none-some r g);
    each_placed = refl;
    calls = λ i c r g. absurd (none-some r g);
    once = λ i j c g. absurd (none-some c g);
    seqs = λ i r g. absurd (none-some r g);
    right = λ x mode op c b answer a. absurd (none-some (Back x answer) a.back);
    placed_later = λ c i s g. absurd (none-some c g);
    read_later = λ x mode op c b point reply s a. absurd (none-some (Back x (ReadBack (record { point = point; reply = reply }))) a.back);
    calls_in_turn = λ c x mode op g. absurd (none-some (Call x mode op) g);
    answers_in_turn = λ b x answer g. absurd (none-some (Back x answer) g);
  };
  log = record {
    ends = refl;
    kept = λ j r g. absurd (none-some r g);
    reclaimed = omega arith;
    state = refl;
    done = omega arith;
    limit = refl;
    within = omega arith;
    window = refl;
    long = refl;
  };
  count = nodes_count m 0 m.config.nodes;
  callers = λ c x mode op g. absurd (none-some (Call x mode op) g);
  stamps = λ b x answer g. absurd (none-some (Back x answer) g);
  nodes = λ n node g. let i : 0 + n ≡ n = omega arith in subst (λ y. NodeStands m 0 [] [] [] n y) (nodes_get m 0 m.config.nodes n node g) (subst (λ k. NodeStands m 0 [] [] [] n (opened_node m k)) (sym i) (node_opened m n));
}

-- ---- any list of steps

pub run_stands : (m : Opening) (steps : List Step) (w : WorldView) (h : History) (positions : Positions) (t : Trace) → Stands m w h positions t
    → (more : History) × (later : Positions) × Stands m (world_of m w steps) (h ++ more) (positions ++ later) (trace_of m w t steps)
run_stands m [] w h positions t x = same_history m w h positions t x
run_stands m (step ∷ steps) w h positions t x =
    let k = step_keeps m w h positions t step x in
    let r = run_stands m steps (world_after w (took m w step)) (h ++ k.0) (positions ++ k.1) (trace_after t (took m w step)) k.2 in (
      k.0 ++ r.0,
      k.1 ++ r.1,
      subst (λ g. Stands m (world_of m w (step ∷ steps)) g (positions ++ (k.1 ++ r.1)) (trace_of m w t (step ∷ steps))) (append_assoc h k.0 r.0)
          (subst (λ ps. Stands m (world_of m w (step ∷ steps)) ((h ++ k.0) ++ r.0) ps (trace_of m w t (step ∷ steps))) (append_assoc positions k.1 r.1) r.2),
    )

pub steps_keep : StepsKeep
steps_keep m w h positions t steps x = run_stands m steps w h positions t x

pub standing_is_explained : StandingIsExplained
standing_is_explained m w h positions t x = record {
  explains = x.explains;
  tail = x.log.ends;
  nodes = x.count;
  replicas = λ n node g. let r = (x.nodes n node g).replica in (r.tail, r.state);
}

pub every_schedule : EverySchedule
every_schedule m steps whole =
    let r = run_stands m steps (opened m) [] [] [] (opening_stands m whole) in
    (r.0, r.1, standing_is_explained m (world_of m (opened m) steps) r.0 r.1 (trace_of m (opened m) [] steps) r.2)

-- one node more
pub nodes_next : (m : Opening) (first count : ℕ) → opened_nodes m first (count + 1) ≡ opened_nodes m first count ++ opened_node m (first + count) ∷ []
nodes_next m first zero = let i : first ≡ first + 0 = omega arith in ap (λ k. opened_node m k ∷ []) i
nodes_next m first (suc count) =
    let i : suc count + 1 ≡ suc (count + 1) = omega arith in
    let j : suc first + count ≡ first + suc count = omega arith in
    ap (opened_nodes m first) i ∙ ap (λ ns. opened_node m first ∷ ns) (nodes_next m (suc first) count ∙ ap (λ k. opened_nodes m (suc first) count ++ opened_node m k ∷ []) j)

-- a log and nodes that are new stand for the empty history
pub new_stands : (m : Opening) (g : Log) (nodes : List NodeView) → IsCatalogue m.catalogue → g ≡ new_log m → nodes ≡ opened_nodes m 0 m.config.nodes
    → Stands m (record { log = g; nodes = nodes }) [] [] []
new_stands m g nodes whole is are =
    subst (λ k. Stands m (record { log = k; nodes = nodes }) [] [] []) (sym is)
    (subst (λ ns. Stands m (record { log = new_log m; nodes = ns }) [] [] []) (sym are) (opening_stands m whole))

pub new_is_standing : (m : Opening) (g : Log) (nodes : List NodeView) → AreSizes m.config → IsCatalogue m.catalogue → g ≡ new_log m → nodes ≡ opened_nodes m 0 m.config.nodes
    → IsStanding (store_of m g nodes)
new_is_standing m g nodes config whole is are = record { config = config; history = []; positions = []; trace = []; stands = new_stands m g nodes whole is are }
