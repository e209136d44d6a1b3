use Rattle.std.proofs.Common.{rules, ℕ, ◌≡◌, ◌+◌, ◌++◌, ◌∷◌, [], length, take, subst, sym, ap, ◌∙◌, arith}
use Rattle.std.proofs.lemmas.List.{length-append, length-take-le, append_assoc}
use Rattle.oplog.specs.declared.records.Record.{Record}
use Rattle.oplog.specs.Operations.{FitsIn}
use Rattle.oplog.specs.Lists.{RecordListView}
use Rattle.oplog.specs.Logs.{Log, tail_of}
use Rattle.oplog.proofs.Ends.{noted}
use Rattle.oplog.proofs.Rooms.{take_more}
use Rattle.oplog.proofs.log_state.LogState.append.Goals as goal

pub push_laid-requires-clause-fits : goal.push_laid-requires-clause-fits
push_laid-requires-clause-fits c =
    let same : c.loop-k.self-inside.records.long ≡ c.args.self.now.long = c.loop-k.invariant.long ∙ ap (λ (g : Log). g.long) c.self.view_is in
    subst (λ n. FitsIn n c.at-next.result.op) (sym same) (c.requires.fit c.loop-k.k _ c.at-next.ensures.there)

pub loop-k-preserved : goal.loop-k-preserved
loop-k-preserved c =
    let g = c.loop-k.self-inside in
    let before = c.loop-k.invariant in
    let k : ℕ = c.loop-k.k in
    let r : Record = record { author = c.at-next.result.author; op = c.at-next.result.op; seq = c.at-next.result.seq } in
    let first : c.tail-first.result ≡ c.self.inside.base + length c.self.inside.records.records = c.tail-first.ensures.tail ∙ sym (ap tail_of c.self.view_is) in
    let here = before.end in
    let low = c.loop-k-test.true in
    let all = c.len.ensures.len in
    let few = c.min-count.ensures in
    let some : length (take k c.args.batch.now) ≡ k = length-take-le k c.args.batch.now (omega (arith, low, all, few)) in
    let count : length g.records.records ≡ length c.self.inside.records.records + k = ap length before.appended ∙ length-append c.self.inside.records.records (take k c.args.batch.now) ∙ ap (λ n. length c.self.inside.records.records + n) some in
    let same : g.base ≡ c.self.inside.base = search rules in
    let pushed : c.push_laid.new.self.records ≡ g.records.records ++ r ∷ [] = ap (λ (v : RecordListView). v.records) c.push_laid.ensures.pushed in
    record {
      same = search rules;
      room = search rules;
      long = search rules;
      appended = pushed ∙ ap (λ rs. rs ++ r ∷ []) before.appended ∙ append_assoc c.self.inside.records.records (take k c.args.batch.now) (r ∷ []) ∙ ap (λ rs. c.self.inside.records.records ++ rs) (sym (take_more c.args.batch.now k r c.at-next.ensures.there));
      end = omega (arith, here);
      ends =
          noted g.base g.records.records c.push_laid.new.self.records g.ends c.note.new.ends r (c.loop-k.end + 1)
          pushed c.note.ensures.noted c.note.array_long (omega (arith, first, here, count, same)) before.ends;
    }
