-- Each step of a node, as a session takes it, is one of the schedule's.
use Rattle.std.specs.Prelude.{◌≡◌, ℕ, true, List, Option, Some, None, option_map, cond}
use Rattle.std.proofs.Common.{ap, sym, subst, ◌∙◌}
use Rattle.std.specs.Option.{option_and_then}
use Rattle.loader.specs.CatalogueView.{CatalogueView}
use Rattle.oplog.specs.History.{ReadEffect}
use Rattle.oplog.specs.Calls.{Call}
use Rattle.oplog.specs.declared.records.Op.TheVariants.{Run}
use Rattle.combiner.specs.Desks.{DeskView}
use Rattle.readpath.specs.declared.reading.ReadAnswer.{ReadAnswer}
use Rattle.replica.specs.StoreMeaning.{store_meaning}
use Rattle.node.specs.Following.{may_answer}
use Rattle.node.specs.Seen.{Goes, Ends as GoesEnds, Does as GoesDoes, Meets as GoesMeets}
use Rattle.node.specs.Steps.{NodeStep, Appends, Replays, Finishes, Reclaims, Rebases, Replies, Seen, may, next}
use Rattle.schedule.specs.declared.parts.BegunRead.{BegunRead}
use Rattle.schedule.specs.declared.parts.Opening.{Opening}
use Rattle.schedule.specs.Steps.{Part, inner, part_of, put_seen, read_at, session_of_slot, with_call_or_back, with_read}
use Rattle.schedule.specs.declared.steps.Step.TheVariants.{ReadAnswer as Answers}
use Rattle.schedule.specs.Trace.{Back, ReadBack}
use Rattle.schedule.specs.Worlds.{NodeView}
use Rattle.store_steps.specs.Views.{RepliesThere}
use Rattle.store_steps.specs.Whole.{LooksBy}
use Rattle.store_laws.specs.InOrder.{CombinesInOrder, Ends, Takes, Meets, ReadsInOrder, SeenInOrder, WholeCombine, WholeLook, look_to, node_of, step_of}

-- the part of a step that may be taken
module _ (m : Opening) (n : ℕ) (reads : List (Option BegunRead)) where
  abbrev left_by : NodeStep → Seen → Part
  left_by step s = put_seen (node_of s reads) (next m.catalogue step s)

  inner_is : (step : NodeStep) (s : Seen) → may step s ≡ true → inner m step s.log (node_of s reads) ≡ Some (left_by step s)
  inner_is step s e = ap (λ q. (let p : Option Part = cond q (Some (left_by step s)) None in p)) e

  part_is : (step : NodeStep) (s : Seen) → may step s ≡ true → part_of m (step_of n step) s.log (node_of s reads) ≡ Some (left_by step s)
  part_is Appends s e = inner_is Appends s e
  part_is Replays s e = inner_is Replays s e
  part_is Finishes s e = inner_is Finishes s e
  part_is Reclaims s e = inner_is Reclaims s e
  part_is Rebases s e = inner_is Rebases s e
  part_is Replies s e = inner_is Replies s e

  pub seen_in_order : {s t : Seen} {xs : List NodeStep} → Goes m.catalogue s xs t → SeenInOrder m n reads s xs t
  seen_in_order (GoesEnds s) = Ends s.log (node_of s reads)
  seen_in_order (GoesDoes step s t steps e goes) = Takes (step_of n step) _ _ _ _ _ (left_by step s) (part_is step s e) (seen_in_order goes)
  seen_in_order (GoesMeets s t u steps others goes) = Meets _ t.log _ _ (node_of t reads) _ _ others (seen_in_order goes)

under : {s t : Seen} {xs : List NodeStep} (c d : CatalogueView) → c ≡ d → Goes d s xs t → Goes c s xs t
under {s} {t} {xs} c d e goes = subst (λ z. Goes z s xs t) (sym e) goes

pub combines_in_order : (m : Opening) (n : ℕ) (reads : List (Option BegunRead)) (w : WholeCombine m) → CombinesInOrder m n reads w
combines_in_order m n reads w = seen_in_order m n reads (under m.catalogue w.k.progress.catalogue w.same w.by.goes)

-- the effect that replies that is answered with it
replied_with : (o : Option ReadEffect) (F : ℕ → Part) (reply : ℕ) → option_map (λ e. e.reply) o ≡ Some reply → option_map (λ e. F e.reply) o ≡ Some (F reply)
replied_with (Some e) F reply is = ap (option_map F) is
replied_with None F reply is = ap (option_map F) is

module _ (m : Opening) (n s : ℕ) (reads : List (Option BegunRead)) (w : WholeLook m) (d : DeskView) where
  abbrev c : LooksBy w.k w.after w.point
  c = w.by

  abbrev t : Seen
  t = look_to w d

  abbrev last : NodeView
  last = node_of t reads

  abbrev told : ReadAnswer → Part
  told a = with_call_or_back (Back (session_of_slot last s) (ReadBack a)) t.log (with_read last s None)

  abbrev told_reply : ℕ → Part
  told_reply x = told (record { point = c.left.replica.tail; reply = x })

  abbrev given : BegunRead → Option Part
  given read = cond (may_answer read.seen w.after.progress.completed c.left) (option_map (λ e. told_reply e.reply) (store_meaning.read m.catalogue (Run read.call) c.left.replica.state)) None

  module _ (call : Call) (reply : ℕ) (there : RepliesThere w.k.progress.catalogue (Run call) c.left reply) where
    replies : option_map (λ e. told_reply e.reply) (store_meaning.read m.catalogue (Run call) c.left.replica.state) ≡ Some (told_reply reply)
    replies = replied_with (store_meaning.read m.catalogue (Run call) c.left.replica.state) told_reply reply
        (ap (λ z. option_map (λ e. e.reply) (store_meaning.read z (Run call) c.left.replica.state)) w.same ∙ there)

    answered_there : read_at last s ≡ Some (record { call = call; seen = c.seen }) → part_of m (Answers n s) t.log last ≡ Some (told (record { point = w.point; reply = reply }))
    answered_there begun =
        ap (option_and_then given) begun
        ∙ (ap (λ q. (let p : Option Part = cond q (option_map (λ e. told_reply e.reply) (store_meaning.read m.catalogue (Run call) c.left.replica.state)) None in p)) c.may
        ∙ (replies ∙ ap (λ z. Some (told (record { point = z; reply = reply }))) (sym c.at)))

  pub reads_in_order : ReadsInOrder m n s reads w d
  reads_in_order = record {
    steps = seen_in_order m n reads (under m.catalogue w.k.progress.catalogue w.same (c.goes d));
    answered = answered_there;
  }
