use Rattle.std.proofs.Common.{◌≡◌, ℕ, ◌<◌, List, length, Some, sym, ap, ◌∙◌, subst, arith}
use Rattle.std.specs.Prelude.{slice_get}
use Rattle.std.proofs.lemmas.List.{length-map}
use Rattle.oplog.specs.declared.records.Record.{Record}
use Rattle.oplog.specs.declared.rows.Row.{Row}
use Rattle.oplog.specs.Operations.{Operation}
use Rattle.oplog.specs.History.{History}
use Rattle.oplog.specs.Laid.{record_in, records_in, IsWithin}
use Rattle.oplog.proofs.Laying.{within_at, record_at}
use Rattle.oplog.proofs.lent.Records.at.Goals as goal

low_in : (beside : List ℕ) (rows : List Row) (now : History) (k : ℕ) → records_in beside rows ≡ now → k < length now → k < length rows
low_in beside rows now k is low =
    let count = length-map rows (record_in beside) in
    let same : length (records_in beside rows) ≡ length now = ap length is in
    omega (arith, count, same, low)

pub of-requires : goal.of-requires
of-requires c =
    let o = c.self.inside in
    let low = low_in o.beside.now o.rows.now c.args.self.now c.args.k c.self.view_is c.requires.index in
    record { within = subst (λ (r : Row). IsWithin (length o.beside.now) r.op) (sym c.index-rows-k.is) (within_at (length o.beside.now) c.args.k o.rows.now c.index-rows-k.result low c.self.invariant) }

pub returns : goal.returns
returns c =
    let o = c.self.inside in
    let r : Row = c.index-rows-k.result in
    let low = low_in o.beside.now o.rows.now c.args.self.now c.args.k c.self.view_is c.requires.index in
    let made : Operation → Record = λ op. record { author = r.author; op = op; seq = r.seq } in
    record {
      there = ap (λ rs. slice_get rs c.args.k) (sym c.self.view_is)
          ∙ record_at o.beside.now c.args.k o.rows.now r low
          ∙ ap (λ x. Some (record_in o.beside.now x)) (sym c.index-rows-k.is)
          ∙ ap (λ op. Some (made op)) (sym c.of.ensures.operation);
    }
