-- The requests of a claimed batch are updates of the catalogue, and fit in the log.
use Rattle.std.proofs.Common.{◌≡◌, ◌∙◌, true, map, Some, sym, ap, arith, subst}
use Rattle.std.specs.Prelude.{slice_get, Option, option_map}
use Rattle.std.proofs.lemmas.Option.{slice_get-map, slice_get_within}
use Rattle.oplog.specs.declared.records.Record.{Record}
use Rattle.oplog.specs.History.{AllFit}
use Rattle.oplog.specs.Logs.{Log}
use Rattle.oplog.specs.Sessions.{session}
use Rattle.combiner.specs.Desks.{BatchView, first_author, claimed_from, IsBatchOf}
use Rattle.verifier.specs.declared.refusal.Mode.TheVariants.{Update}
use Rattle.replica.specs.StoreMeaning.{is_operation, AreUpdates}
use Rattle.replica.proofs.Export.{updates_fit}
use Rattle.node.specs.declared.parts.NodeBatch.TheVariants.{Held}
use Rattle.schedule.specs.declared.parts.BegunRead.{BegunRead}
use Rattle.schedule.specs.declared.parts.Opening.{Opening}
use Rattle.schedule.specs.Worlds.{NodeView}
use Rattle.schedule.specs.Stands.{StageStands, batch_in}
use Rattle.schedule.specs.Taking.{IsOfStore}
use Rattle.schedule.proofs.Slots.{claimed_get, claimed_once}
use Rattle.schedule.proofs.Calls.{session_is}
use Rattle.schedule.proofs.Appends.{claimed_waits, met, same_at}
use Rattle.machine.proofs.Export.{get_inside}

module _ {m : Opening} {g : Log} {node : NodeView} (x : IsOfStore m g node) (b : BatchView) (is_b : node.batch ≡ Held b) where
  own : map (λ (r : Record). r.author) b.records ≡ claimed_from (first_author node.desk) node.desk.slots
  own = subst (λ y. IsBatchOf node.desk (batch_in y)) is_b x.stands.desk.own

  are_updates : AreUpdates m.catalogue b.records
  are_updates k r at =
      let author = ap (λ rs. slice_get rs k) (sym own) ∙ slice_get-map (λ (r : Record). r.author) b.records k ∙ ap (option_map (λ (r : Record). r.author)) at in
      let c = claimed_get node.desk.slots (first_author node.desk) k r.author author in
      let by : r.author ≡ session m.config x.number c.0 = c.2 ∙ session_is m x.number node c.0 x.stands.desk in
      let inside = slice_get_within node.desk.slots c.0 c.1 c.3 in
      let begun : (read : Option BegunRead) × (slice_get node.reads c.0 ≡ Some read) = get_inside node.reads c.0 (let slots = x.stands.desk.slots in let reads = x.stands.desk.reads in omega arith) in
      let stage = subst (λ v. StageStands m g.done x.history x.positions x.trace (session m.config x.number c.0) v (c.1).count (c.1).stage begun.0) is_b (x.stands.seats c.0 c.1 begun.0 c.3 begun.1) in
      let q = (claimed_waits m g.done x.history x.positions x.trace (session m.config x.number c.0) (Held b) (c.1).count begun.0
      (subst (λ v. StageStands m g.done x.history x.positions x.trace (session m.config x.number c.0) (Held b) (c.1).count v begun.0) c.4 stage)).1 in
      let other = ap (λ rs. slice_get rs q.1) (sym own) ∙ slice_get-map (λ (r : Record). r.author) b.records q.1 ∙ ap (option_map (λ (r : Record). r.author)) q.3 in
      let is_k = claimed_once node.desk.slots (first_author node.desk) q.1 k r.author (other ∙ ap Some (met q.4 by)) author in
      let is_r : q.2 ≡ r = same_at b.records q.3 is_k at in
      subst (λ (z : Record). is_operation Update m.catalogue z.op ≡ true) is_r (q.6).may

  pub requests_fit : AllFit g.long b.records
  requests_fit = subst (λ long. AllFit long b.records) (sym x.log.long) (updates_fit m.catalogue b.records are_updates)
