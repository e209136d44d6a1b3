use Rattle.std.proofs.Common.{◌≡◌, ℕ, suc, ◌+◌, ◌<◌, ◌++◌, List, length, take, drop, sym, ap, ap₂, ◌∙◌, subst, arith}
use Rattle.std.specs.Prelude.{slice_index_or, slice_set}
use Rattle.std.proofs.Math.Seq.{take-set-lt}
use Rattle.std.proofs.lemmas.List.{drop_all, take_all, append-nil, length-set, length-take-le, get_or-take}
use Rattle.oplog.specs.declared.rows.Row.{Row}
use Rattle.oplog.specs.Laid.{pulled_row, pulled_rows, IsAfter}
use Rattle.oplog.proofs.Laying.{after_at, next_row, row_pulled}
use Rattle.oplog.proofs.record_list.pull_all.Goals as goal

-- the next row is as it was
as_it_was : (all rows : List Row) (count gap k : ℕ) (d : Row) → k < count → k < length rows → take count all ≡ pulled_rows gap (take k rows) ++ drop k rows
    → slice_index_or all k d ≡ slice_index_or rows k d
as_it_was all rows count gap k d low there is = sym (get_or-take count all k d low) ∙ ap (λ rs. slice_index_or rs k d) is ∙ next_row gap k rows d there

pub pull-requires : goal.pull-requires
pull-requires c =
    let rows : List Row = take c.args.count c.args.filled.now.items in
    let k : ℕ = c.loop-k.k in
    let d : Row = c.index_mut.result.now in
    let low = c.loop-k-test.true in
    let long : length rows ≡ c.args.count = length-take-le c.args.count c.args.filled.now.items c.requires.count in
    let same : d ≡ slice_index_or rows k d = c.index_mut.ensures.value ∙ as_it_was c.loop-k.filled.items rows c.args.count c.args.gap k d low (omega (arith, low, long)) c.loop-k.invariant.rows in
    let laid = c.requires.laid in
    record { after = subst (λ (r : Row). IsAfter c.args.gap r.op) (sym same) (after_at laid.0 c.args.gap k rows laid.1 d (omega (arith, low, long)) laid.2 laid.3) }

pub loop-k-preserved : goal.loop-k-preserved
loop-k-preserved c =
    let rows : List Row = take c.args.count c.args.filled.now.items in
    let gap : ℕ = c.args.gap in
    let k : ℕ = c.loop-k.k in
    let d : Row = c.index_mut.result.now in
    let all : List Row = c.loop-k.filled.items in
    let low = c.loop-k-test.true in
    let long : length rows ≡ c.args.count = length-take-le c.args.count c.args.filled.now.items c.requires.count in
    let there : k < length rows = omega (arith, low, long) in
    let same : d ≡ slice_index_or rows k d = c.index_mut.ensures.value ∙ as_it_was all rows c.args.count gap k d low there c.loop-k.invariant.rows in
    let next : suc k ≡ k + 1 = omega arith in
    let new : Row = record { seq = d.seq; author = d.author; op = c.pull.new.self } in
    let made : new ≡ pulled_row gap d = ap (λ op. (let r : Row = record { seq = d.seq; author = d.author; op = op } in r)) c.pull.ensures.pulled in
    record {
      rows = take-set-lt c.args.count all k new low
          ∙ ap (slice_set (take c.args.count all) k) made
          ∙ ap₂ (λ rs r. slice_set rs k (pulled_row gap r)) c.loop-k.invariant.rows same
          ∙ row_pulled gap k rows d there
          ∙ ap (λ n. pulled_rows gap (take n rows) ++ drop n rows) next;
      same = length-set all k new ∙ c.loop-k.invariant.same;
      room = c.loop-k.invariant.room;
    }

pub returns-clause-pulled : goal.returns-clause-pulled
returns-clause-pulled c =
    let rows : List Row = take c.args.count c.args.filled.now.items in
    let k : ℕ = c.loop-k.k in
    let long : length rows ≡ c.args.count = length-take-le c.args.count c.args.filled.now.items c.requires.count in
    let past = c.loop-k-test.false in
    c.loop-k.invariant.rows
    ∙ ap₂ (λ xs ys. pulled_rows c.args.gap xs ++ ys) (take_all k rows (omega (arith, long, past))) (drop_all k rows (omega (arith, long, past)))
    ∙ append-nil (pulled_rows c.args.gap rows)
