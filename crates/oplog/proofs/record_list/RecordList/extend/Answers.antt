use Rattle.std.proofs.Common.{◌≡◌, ℕ, ◌+◌, ◌++◌, ◌∷◌, [], length, take, sym, ap, ◌∙◌, subst, arith}
use Rattle.std.proofs.lemmas.List.{length-append, length-take-le, append_assoc}
use Rattle.oplog.specs.declared.records.Record.{Record}
use Rattle.oplog.specs.Operations.{FitsIn}
use Rattle.oplog.specs.History.{History}
use Rattle.oplog.specs.Lists.{RecordListView}
use Rattle.oplog.proofs.Rooms.{take_more}
use Rattle.oplog.proofs.record_list.RecordList.extend.Goals as goal

pub push_laid-requires-clause-room : goal.push_laid-requires-clause-room
push_laid-requires-clause-room c =
    let old : RecordListView = c.args.self.now in
    let is = c.loop-k.invariant in
    let low = c.loop-k-test.true in
    let all = c.len-k-end.ensures.len in
    let long : length c.loop-k.self.records ≡ length old.records + length (take c.loop-k.k c.args.records.now) = ap (λ (v : RecordListView). length v.records) is ∙ length-append old.records (take c.loop-k.k c.args.records.now) in
    let some : length (take c.loop-k.k c.args.records.now) ≡ c.loop-k.k = length-take-le c.loop-k.k c.args.records.now (omega (arith, low, all)) in
    let room : c.loop-k.self.room ≡ old.room = ap (λ (v : RecordListView). v.room) is in
    let given = c.requires.room in
    omega (arith, low, all, long, some, room, given)

pub push_laid-requires-clause-fits : goal.push_laid-requires-clause-fits
push_laid-requires-clause-fits c =
    let same : c.loop-k.self.long ≡ c.args.self.now.long = ap (λ (v : RecordListView). v.long) c.loop-k.invariant in
    subst (λ n. FitsIn n c.at-next.result.op) (sym same) (c.requires.fit c.loop-k.k _ c.at-next.ensures.there)

pub loop-k-preserved : goal.loop-k-preserved
loop-k-preserved c =
    let old : RecordListView = c.args.self.now in
    let k : ℕ = c.loop-k.k in
    let r : Record = record { author = c.at-next.result.author; op = c.at-next.result.op; seq = c.at-next.result.seq } in
    let with_records : History → RecordListView = λ rs. record { records = rs; room = old.room; long = old.long } in
    let more : (old.records ++ take k c.args.records.now) ++ r ∷ [] ≡ old.records ++ take (k + 1) c.args.records.now =
    append_assoc old.records (take k c.args.records.now) (r ∷ []) ∙ ap (λ rs. old.records ++ rs) (sym (take_more c.args.records.now k r c.at-next.ensures.there)) in
    c.push_laid.ensures.pushed ∙ ap (λ (v : RecordListView). (let w : RecordListView = record v { records = v.records ++ r ∷ [] } in w)) c.loop-k.invariant ∙ ap with_records more
