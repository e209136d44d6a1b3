use Rattle.std.proofs.Common.{◌≡◌, ℕ, suc, ◌+◌, ◌∷◌, List, drop, sym, ap, ◌∙◌, arith}
use Rattle.std.proofs.Math.Seq.{drop-cons}
use Rattle.std.proofs.lemmas.List.{drop_all}
use Rattle.oplog.specs.declared.rows.Row.{Row}
use Rattle.oplog.specs.Laid.{begin_of}
use Rattle.oplog.proofs.record_list.first_byte.Goals as goal

pub returns-in-Some : goal.returns-in-Some
returns-in-Some c =
    let rows : List Row = c.args.rows.now in
    let i : ℕ = c.loop-row.row-index in
    let r : Row = c.row-item.result in
    let here : drop i rows ≡ r ∷ drop (suc i) rows = drop-cons rows i r c.loop-row-test.true ∙ ap (λ x. x ∷ drop (suc i) rows) (sym c.row-item.is) in
    record { begin = sym (c.in-Some.ensures.begin (begin_of (drop (suc i) rows) c.args.end)) ∙ sym (ap (λ rs. begin_of rs c.args.end) here) ∙ c.loop-row.invariant }

pub loop-row-preserved : goal.loop-row-preserved
loop-row-preserved c =
    let rows : List Row = c.args.rows.now in
    let i : ℕ = c.loop-row.row-index in
    let r : Row = c.row-item.result in
    let next : suc i ≡ i + 1 = omega arith in
    let here : drop i rows ≡ r ∷ drop (suc i) rows = drop-cons rows i r c.loop-row-test.true ∙ ap (λ x. x ∷ drop (suc i) rows) (sym c.row-item.is) in
    ap (λ k. begin_of (drop k rows) c.args.end) (sym next) ∙ sym (c.in_default.ensures.begin (begin_of (drop (suc i) rows) c.args.end)) ∙ sym (ap (λ rs. begin_of rs c.args.end) here) ∙ c.loop-row.invariant

pub returns : goal.returns
returns c = record { begin = sym (ap (λ rs. begin_of rs c.args.end) (drop_all c.loop-row.row-index c.args.rows.now c.loop-row-test.false)) ∙ c.loop-row.invariant }
