use Rattle.std.proofs.Common.{length, take, sym, ap, ◌∙◌}
use Rattle.std.proofs.lemmas.List.{take-map}
use Rattle.oplog.specs.Laid.{record_in}
use Rattle.oplog.proofs.Laying.{within_first}
use Rattle.oplog.proofs.lent.Records.first.Goals as goal

pub of-requires : goal.of-requires
of-requires c = record { within = within_first (length c.self.inside.beside.now) c.args.count c.self.inside.rows.now c.self.invariant }

pub returns : goal.returns
returns c =
    let o = c.self.inside in
    record { first = c.of.ensures.records ∙ sym (take-map (record_in o.beside.now) c.args.count o.rows.now) ∙ ap (take c.args.count) c.self.view_is }
