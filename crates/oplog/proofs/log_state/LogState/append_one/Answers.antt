use Rattle.std.proofs.Common.{rules, ◌≡◌, ◌+◌, ◌++◌, ◌∷◌, [], length, sym, ap, ◌∙◌, arith}
use Rattle.std.proofs.lemmas.Grind.{common_steps}
use Rattle.std.proofs.lemmas.List.{length-append}
use Rattle.oplog.specs.declared.records.Record.{Record}
use Rattle.oplog.specs.Lists.{RecordListView}
use Rattle.oplog.specs.Logs.{tail_of}
use Rattle.oplog.proofs.Ends.{noted}
use Rattle.oplog.proofs.log_state.LogState.append_one.Goals as goal

pub invariant_of-self : goal.invariant_of-self
invariant_of-self c =
    let g = c.self.inside in
    let r : Record = record { author = c.new.inside.author; op = c.new.inside.op.now; seq = c.new.inside.seq } in
    let pushed : c.push.new.self.records ≡ g.records.records ++ r ∷ [] =
    ap (λ (v : RecordListView). v.records) c.push.ensures.pushed in
    let index : c.tail-index.result ≡ g.base + length g.records.records =
    c.tail-index.ensures.tail ∙ sym (ap tail_of c.self.view_is) in
    let count : length c.push.new.self.records ≡ length g.records.records + 1 =
    ap length pushed ∙ length-append g.records.records (r ∷ []) in (
      grind (arith, common_steps),
      search rules,
      search rules,
      noted g.base g.records.records c.push.new.self.records g.ends c.note.new.ends r (c.tail-index.result + 1)
          pushed c.note.ensures.noted c.note.array_long (omega (arith, index)) c.self.invariant.3,
    )
