use Rattle.std.proofs.Common.{◌≡◌, ℕ, ◌+◌, ◌-◌, ◌<◌, min, length, get_or, replicate, refl, ap, ◌∙◌, subst, arith, rules}
use Rattle.std.proofs.lemmas.List.{length-set, length-replicate, get_or_default}
use Rattle.realtime.specs.declared.histories.Timed.{Timed}
use Rattle.realtime.specs.Judging.{AreLeast}
use Rattle.realtime.proofs.Turning.{none_begins, one_begins}
use Rattle.realtime.proofs.Misplaced.{no_rank, least_none, least_later, least_own, least_next}
use Rattle.realtime.proofs.orders.least_ranks.Goals as goal

pub loop-x-init : goal.loop-x-init
loop-x-init c =
    let begins = c.args.begins.now in
    let calls = c.args.calls.now in
    let is : c.in_ok-least.least.items ≡ replicate (length begins + 1) no_rank = search rules in
    (omega arith, ap length is ∙ length-replicate {A = ℕ} (length begins + 1) no_rank, rw is (least_none (length begins) calls c.requires.good))

pub loop-x-preserved-then-k-calls : goal.loop-x-preserved-then-k-calls
loop-x-preserved-then-k-calls c =
    let zero : Timed = record { session = 0; line = 0; begun = 0; ended = 0; rank = 0 } in
    let begins = c.args.begins.now in
    let calls = c.args.calls.now in
    let least = c.loop-x.least.items in
    let x = c.loop-x.x - 1 in
    let k = get_or begins x 0 in
    let up : c.loop-x.x ≡ x + 1 = omega arith in
    let inner : x + 1 < length least = omega (arith, c.loop-x.invariant.0, c.loop-x.invariant.1) in
    let h : AreLeast calls (x + 1) least = subst (λ n. AreLeast calls n least) up c.loop-x.invariant.2 in
    let later : c.index-later.result.now ≡ get_or least (x + 1) 0 = c.index-later.ensures ∙ get_or_default least (x + 1) c.index-later.result.now 0 inner in
    let here = one_begins (length begins) calls c.requires.good begins c.requires.all x k zero (omega (arith, c.loop-x.invariant.0)) refl c.if-k-calls.true in
    let rank : c.min.result ≡ min (get_or least (x + 1) 0) (get_or calls k zero).rank = c.min.ensures ∙ ap (λ n. min n (get_or calls k zero).rank) later in (
      omega (arith, c.loop-x.invariant.0),
      length-set least x c.min.result ∙ c.loop-x.invariant.1,
      rw rank (least_next calls x least h inner _ (least_own calls x least h inner (get_or calls k zero) here.0 here.1)),
    )

pub loop-x-preserved : goal.loop-x-preserved
loop-x-preserved c =
    let begins = c.args.begins.now in
    let calls = c.args.calls.now in
    let least = c.loop-x.least.items in
    let x = c.loop-x.x - 1 in
    let up : c.loop-x.x ≡ x + 1 = omega arith in
    let inner : x + 1 < length least = omega (arith, c.loop-x.invariant.0, c.loop-x.invariant.1) in
    let h : AreLeast calls (x + 1) least = subst (λ n. AreLeast calls n least) up c.loop-x.invariant.2 in
    let later : c.index-later.result.now ≡ get_or least (x + 1) 0 = c.index-later.ensures ∙ get_or_default least (x + 1) c.index-later.result.now 0 inner in
    let none = none_begins (length begins) calls c.requires.good begins c.requires.all x c.if-k-calls.false in (
      omega (arith, c.loop-x.invariant.0),
      length-set least x c.index-later.result.now ∙ c.loop-x.invariant.1,
      rw later (least_next calls x least h inner _ (least_later calls x least h inner none)),
    )

pub returns-clause-least : goal.returns-clause-least
returns-clause-least c =
    let none : c.loop-x.x ≡ 0 = omega arith in
    subst (λ n. AreLeast c.args.calls.now n c.loop-x.least.items) none c.loop-x.invariant.2
