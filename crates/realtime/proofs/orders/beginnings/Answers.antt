use Rattle.std.proofs.Common.{◌≡◌, ◌*◌, ◌<◌, length, get_or, sym, subst, ◌∙◌, arith}
use Rattle.std.proofs.lemmas.List.{length-set}
use Rattle.realtime.specs.declared.histories.Timed.{Timed}
use Rattle.realtime.specs.Judging.{AreGood, AreBeginnings}
use Rattle.realtime.proofs.Turning.{begins_next}
use Rattle.realtime.proofs.orders.beginnings.Goals as goal

pub loop-k-preserved : goal.loop-k-preserved
loop-k-preserved c =
    let zero : Timed = record { session = 0; line = 0; begun = 0; ended = 0; rank = 0 } in
    let calls = c.args.calls.now in
    let k = c.loop-k.k in
    let begins = c.loop-k.begins.items in
    let good = c.requires in
    let long = c.loop-k.invariant.0 in
    let within : k < length calls = omega arith in
    let back = good.backs k zero within in
    let low = good.below k zero within in
    let inside : (get_or calls k zero).begun < length begins = omega (arith, long, back, low) in
    (length-set begins (get_or calls k zero).begun k ∙ long, begins_next (2 * length calls) calls good k zero begins within inside c.loop-k.invariant.1)

pub returns : goal.returns
returns c =
    let calls = c.args.calls.now in
    let begins = c.loop-k.begins.items in
    let all : c.loop-k.k ≡ length calls = omega arith in
    record {
      good = subst (λ n. AreGood n calls) (sym c.loop-k.invariant.0) c.requires;
      all = subst (λ n. AreBeginnings calls n begins) all c.loop-k.invariant.1;
    }
