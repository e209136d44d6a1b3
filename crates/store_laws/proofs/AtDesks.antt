-- What a session does at its desk is what the schedule's steps post, collect and claim do.
use Rattle.std.proofs.Common.{◌≡◌, ℕ, Bool, true, false, Option, Some, None, ap, refl, sym, ◌∙◌}
use Rattle.std.specs.Prelude.{◌&&◌, IsSome, cond, if◌then◌else◌, not, option_map, slice_get}
use Rattle.std.specs.Option.{option_and_then}
use Rattle.verifier.specs.declared.refusal.Mode.TheVariants.{Update}
use Rattle.oplog.specs.Operations.{Operation}
use Rattle.oplog.specs.Logs.{Log}
use Rattle.combiner.specs.Desks.{DeskView, batch_of, claimed, has_combiner, has_request, with_slot}
use Rattle.combiner.specs.Slots.{is_empty, slot}
use Rattle.combiner.specs.declared.slots.DeskRefused.{DeskRefused}
use Rattle.combiner.specs.declared.slots.DeskRefused.TheVariants.{CombinerAtWork, NothingPosted}
use Rattle.combiner.specs.declared.slots.Slot.{Slot}
use Rattle.combiner.specs.declared.slots.Stage.TheVariants.{Posted}
use Rattle.accounts.proofs.Export.{author_is}
use Rattle.node.specs.declared.parts.NodeBatch.TheVariants.{Held}
use Rattle.schedule.specs.declared.parts.Opening.{Opening}
use Rattle.schedule.specs.Steps.{Part, is_free, no_read, session_of_slot, silent, with_call_or_back}
use Rattle.schedule.specs.Trace.{Back, Call, Updated}
use Rattle.schedule.specs.Worlds.{NodeView}
use Rattle.replica.specs.StoreMeaning.{is_operation}
use Rattle.store_steps.specs.declared.desks.Turn.{Turn}
use Rattle.store_steps.specs.declared.desks.Turn.TheVariants.{Collects, Combines, Waits}
use Rattle.store_steps.specs.AtDesk.{IsTurn}
use Rattle.store_laws.specs.AtDesks.{ClaimIs, ClaimsThere, CollectIs, CollectsThere, IsItsOwn, PostsThere}

-- ---- post

-- where no read was begun and the operation is allowed, the guard asks for an empty slot, as the effect does
posts : (o : Option Slot) (r u : Bool) (F : DeskView → Part) (f : Slot → DeskView) → r ≡ true → u ≡ true
    → cond ((is_free o && r) && u) (option_map F (option_and_then (λ x. if is_empty x.stage then Some (f x) else None) o)) None
    ≡ option_map F (option_and_then (λ x. if is_empty x.stage then Some (f x) else None) o)
posts None r u F f er eu = refl
posts (Some x) r u F f er eu = by (is_empty x.stage)
  where
    by : (b : Bool) → cond ((b && r) && u) (option_map F (if b then Some (f x) else None)) None ≡ option_map F (if b then Some (f x) else None)
    by true = ap (λ q. (let p : Option Part = cond (q && u) (Some (F (f x))) None in p)) er ∙ ap (λ q. (let p : Option Part = cond q (Some (F (f x))) None in p)) eu
    by false = refl

pub posts_there : (m : Opening) (s : ℕ) (op : Operation) (g : Log) (node : NodeView) → PostsThere m s op g node
posts_there m s op g node unread allowed =
    posts (slice_get node.desk.slots s) (no_read (slice_get node.reads s)) (is_operation Update m.catalogue op)
    (λ y. with_call_or_back (Call (session_of_slot node s) Update op) g (record node { desk = y }))
    (λ x. with_slot node.desk s (slot (Posted op) x.count)) (ap no_read unread) allowed

pub is_its_own : (s : ℕ) (node : NodeView) → IsItsOwn s node
is_its_own s node k i = author_is k.progress.config node.desk s i.agrees.slots ∙ sym i.own

-- ---- collect and claim

module _ (s : ℕ) (g : Log) (node : NodeView) where
  pub collects_there : CollectsThere s g node
  collects_there y batch turn = by turn
    where
      by : (turn : Turn) → IsTurn s node.desk y batch turn → CollectIs s g node y turn
      by (Collects reply) i = ap (option_map (λ c. with_call_or_back (Back (session_of_slot node s) (Updated c.reply)) g (record node { desk = c.desk }))) i
      by Combines i = ap (option_map (λ c. with_call_or_back (Back (session_of_slot node s) (Updated c.reply)) g (record node { desk = c.desk }))) i.0
      by Waits i = ap (option_map (λ c. with_call_or_back (Back (session_of_slot node s) (Updated c.reply)) g (record node { desk = c.desk }))) i.0

  abbrev claiming : Part
  claiming = silent g (record node { desk = claimed node.desk; batch = Held (batch_of node.desk) })

  abbrev refusal : Bool → Bool → Option DeskRefused
  refusal c q = if c then Some CombinerAtWork else if q then None else Some NothingPosted

  abbrev claims : Bool → Bool → Option Part
  claims b q = cond (b && q) (Some claiming) None

  -- where the desk refuses, the guard does
  refused : (c q : Bool) → IsSome (refusal c q) → claims (not c) q ≡ None
  refused true q is = refl
  refused false true is = absurd cc
  refused false false is = refl

  pub claims_there : ClaimsThere s g node
  claims_there own y batch turn = by turn
    where
      by : (turn : Turn) → IsTurn s node.desk y batch turn → ClaimIs g node y batch turn
      by (Collects reply) i = tt
      by Combines i =
          ap (λ b. claims b (has_request node.desk)) (own ∙ ap not i.1) ∙ (ap (λ q. claims true q) i.2
          ∙ λ j. Some (silent g (record node { desk = sym i.3 j; batch = Held (sym i.4 j) })))
      by Waits i = (ap (λ b. claims b (has_request node.desk)) own ∙ refused (has_combiner node.desk) (has_request node.desk) i.1, i.2)
