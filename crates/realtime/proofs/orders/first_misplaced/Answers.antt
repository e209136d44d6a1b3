use Rattle.std.proofs.Common.{◌≡◌, ◌+◌, ◌<◌, ◌≤◌, length, get_or, ◌∙◌, ap, sym, arith, ⊎_elim}
use Rattle.std.proofs.lemmas.Bool.{cases_lt}
use Rattle.std.proofs.lemmas.List.{get_or_default}
use Rattle.std.proofs.lemmas.List.Sums.{position_or_len_is}
use Rattle.realtime.specs.declared.histories.Timed.{Timed}
use Rattle.realtime.specs.RealTime.{is_misplaced}
use Rattle.realtime.proofs.Misplaced.{no_rank, misplaced, placed}
use Rattle.realtime.proofs.orders.first_misplaced.Goals as goal

pub returns-then-index-rank : goal.returns-then-index-rank
returns-then-index-rank c =
    let zero : Timed = record { session = 0; line = 0; begun = 0; ended = 0; rank = 0 } in
    let calls = c.args.calls.now in
    let k = c.loop-k.k in
    let call = get_or calls k zero in
    let least = c.in_ok-least.least.items in
    let within : k < length calls = omega arith in
    let low = c.requires.good.below k zero within in
    let inside : call.ended + 1 < length least = omega (arith, c.in_ok-least.ensures.long, low) in
    let most : call.rank ≤ no_rank = omega arith in
    let at : c.index.result.now ≡ get_or least (call.ended + 1) 0 = c.index.ensures ∙ get_or_default least (call.ended + 1) c.index.result.now 0 inside in
    let less : get_or least (call.ended + 1) 0 < call.rank = omega (arith, at, c.if-index-rank.true) in
    sym (position_or_len_is (is_misplaced calls) calls k zero (omega (arith, within)) (λ j lt. c.loop-k.invariant j zero lt)
    (λ lt. misplaced calls least c.in_ok-least.ensures.least call inside most less))

pub loop-k-preserved : goal.loop-k-preserved
loop-k-preserved c =
    let zero : Timed = record { session = 0; line = 0; begun = 0; ended = 0; rank = 0 } in
    let calls = c.args.calls.now in
    let k = c.loop-k.k in
    let call = get_or calls k zero in
    let least = c.in_ok-least.least.items in
    let within : k < length calls = omega arith in
    let low = c.requires.good.below k zero within in
    let inside : call.ended + 1 < length least = omega (arith, c.in_ok-least.ensures.long, low) in
    let at : c.index.result.now ≡ get_or least (call.ended + 1) 0 = c.index.ensures ∙ get_or_default least (call.ended + 1) c.index.result.now 0 inside in
    let le : call.rank ≤ get_or least (call.ended + 1) 0 = omega (arith, at, c.if-index-rank.false) in
    λ j d lt. ⊎_elim
    (λ old. c.loop-k.invariant j d old)
    (λ here. let same : j ≡ k = omega arith in
    ap (λ i. is_misplaced calls (get_or calls i d)) same ∙ ap (λ (t : Timed). is_misplaced calls t) (get_or_default calls k d zero within)
    ∙ placed calls least c.in_ok-least.ensures.least call le)
    (cases_lt j k)

pub returns : goal.returns
returns c =
    let zero : Timed = record { session = 0; line = 0; begun = 0; ended = 0; rank = 0 } in
    let calls = c.args.calls.now in
    sym (position_or_len_is (is_misplaced calls) calls (length calls) zero (omega arith) (λ j lt. c.loop-k.invariant j zero (omega arith)) (λ lt. absurd (omega (arith, lt))))
