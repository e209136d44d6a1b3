use Rattle.std.proofs.Common.{◌-◌, length, drop, sym, ap, ◌∙◌, arith}
use Rattle.std.proofs.lemmas.List.{drop-map, length-drop, take_all}
use Rattle.oplog.specs.Laid.{record_in, records_in}
use Rattle.oplog.proofs.Laying.{within_first, within_behind}
use Rattle.oplog.proofs.lent.Records.after.Goals as goal

pub of-requires : goal.of-requires
of-requires c =
    let o = c.self.inside in
    record { within = within_first (length o.beside.now) (length o.rows.now - c.args.count) (drop c.args.count o.rows.now) (within_behind (length o.beside.now) c.args.count o.rows.now c.self.invariant) }

pub returns : goal.returns
returns c =
    let o = c.self.inside in
    let rest = length-drop c.args.count o.rows.now in
    record {
      after = c.of.ensures.records
          ∙ ap (records_in o.beside.now) (take_all (length o.rows.now - c.args.count) (drop c.args.count o.rows.now) (omega (arith, rest)))
          ∙ sym (drop-map (record_in o.beside.now) c.args.count o.rows.now)
          ∙ ap (drop c.args.count) c.self.view_is;
    }
