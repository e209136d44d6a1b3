use Rattle.std.proofs.Common.{◌≡◌, ◌+◌, ◌*◌, length, vec_len, replicate, false, ◌∙◌, ap, ap₂, sym, arith, rules, Err, Ok}
use Rattle.text.specs.Lines.{lines_of, LinesLeft}
use Rattle.realtime.specs.Judging.{calls_of}
use Rattle.realtime.specs.declared.histories.Taken.{Taken}
use Rattle.realtime.specs.Histories.{calls_behind}
use Rattle.realtime.proofs.Reading.{taken_none, was_taken, was_bad, goes_on, bad_here, all_read, lacking}
use Rattle.realtime.proofs.histories.read_history.Goals as goal

pub loop-line-init : goal.loop-line-init
loop-line-init c =
    let ranks = c.args.ranks.now in
    let none : c.in_ok-used.used.items ≡ replicate (2 * length ranks) false = search rules in (
      taken_none ranks _ c.new-calls.ensures.items none,
      ap₂ (λ before (l : LinesLeft). calls_behind ranks before l.lines) c.new-calls.ensures.items c.new-lines.ensures.all,
    )

pub loop-line-preserved : goal.loop-line-preserved
loop-line-preserved c =
    let ranks = c.args.ranks.now in
    let taken = c.in-Some.ensures.taken in
    let next = was_taken ranks c.loop-line.taken c.take.new.self _ _ c.in_ok-take.ensures.taken c.if-not-branch.false in
    let on = goes_on ranks c.loop-line.taken.calls.items c.loop-line.lines.lines c.in-Some.line.now c.take_line.new.self.lines taken.0 next.0 next.1 in
    (next.3, rw next.2 (sym on ∙ c.loop-line.invariant.1))

pub returns-then-not-branch : goal.returns-then-not-branch
returns-then-not-branch c =
    let ranks = c.args.ranks.now in
    let before = c.loop-line.taken.calls.items in
    let taken = c.in-Some.ensures.taken in
    let bad = was_bad ranks c.loop-line.taken c.take.new.self _ _ c.in_ok-take.ensures.taken c.if-not-branch.true in
    let ends = bad_here ranks before c.loop-line.lines.lines c.in-Some.line.now c.take_line.new.self.lines taken.0 bad.0 in
    let all : calls_of ranks (lines_of c.args.history.now) ≡ Err (length before + 1) = sym c.loop-line.invariant.1 ∙ ends in
    let number : c.len.result ≡ length before = omega (arith, c.loop-line.taken.calls.ok.0, c.len.ensures, ap (λ (t : Taken). vec_len t.calls) bad.1) in
    record { read = all ∙ ap (λ n. Err (n + 1)) (sym number) }

pub returns-then-len-ranks : goal.returns-then-len-ranks
returns-then-len-ranks c =
    let ranks = c.args.ranks.now in
    let before = c.loop-line.taken.calls.items in
    let all : calls_of ranks (lines_of c.args.history.now) ≡ Ok before = sym c.loop-line.invariant.1 ∙ all_read ranks before c.loop-line.lines.lines c.in_default.ensures.taken.0 (omega (arith, c.loop-line.taken.calls.ok.0, c.len-2.ensures, c.if-len-ranks.true)) in
    record { read = all }

pub returns-else-len-ranks : goal.returns-else-len-ranks
returns-else-len-ranks c =
    let ranks = c.args.ranks.now in
    let before = c.loop-line.taken.calls.items in
    let all : calls_of ranks (lines_of c.args.history.now) ≡ Err (length before + 1) = sym c.loop-line.invariant.1 ∙ lacking ranks before c.loop-line.lines.lines c.in_default.ensures.taken.0 (λ e. c.if-len-ranks.false (omega (arith, c.loop-line.taken.calls.ok.0, c.len-2.ensures, e))) in
    let number : c.len-else-len-ranks.result ≡ length before = omega (arith, c.loop-line.taken.calls.ok.0, c.len-else-len-ranks.ensures) in
    record { read = all ∙ ap (λ n. Err (n + 1)) (sym number) }
