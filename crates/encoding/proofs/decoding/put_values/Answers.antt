use Rattle.std.proofs.Common.{◌≡◌, ◌<◌, ◌≤◌, length, take, drop, refl, subst, arith}
use Rattle.encoding.specs.Decoded.{values_of}
use Rattle.encoding.proofs.DecodeSteps.{all_added, none_added, too_few, value_more, with_values}
use Rattle.encoding.proofs.decoding.put_values.Goals as goal

pub returns-in-None : goal.returns-in-None
returns-in-None c =
    none_added c.args.out.now.items c.loop-part.out.items (values_of c.args.parts.now c.args.bytes.now)
    (too_few c.args.parts.now c.loop-part.part-index _ _ c.loop-part-test.true refl c.loop-part.left.now c.loop-part.out.items (with_values c.args.out.now.items (values_of c.args.parts.now c.args.bytes.now))
    c.loop-part.invariant (subst (λ n. length c.loop-part.left.now < n) c.size.ensures c.in-None.ensures.few))

pub loop-part-preserved : goal.loop-part-preserved
loop-part-preserved c =
    value_more c.args.parts.now c.loop-part.part-index _ _ c.loop-part-test.true refl c.loop-part.left.now c.loop-part.out.items (with_values c.args.out.now.items (values_of c.args.parts.now c.args.bytes.now))
    c.loop-part.invariant c.put_value.new.out.items c.in-Some.value.now c.in-Some.behind.now
    (subst (λ n. n ≤ length c.loop-part.left.now) c.size.ensures c.in-Some.ensures.enough)
    (subst (λ n. c.in-Some.value.now ≡ take n c.loop-part.left.now) c.size.ensures c.in-Some.ensures.first)
    (subst (λ n. c.in-Some.behind.now ≡ drop n c.loop-part.left.now) c.size.ensures c.in-Some.ensures.rest)
    c.in_ok-put_value-in-Some.ensures

pub returns : goal.returns
returns c =
    let past = c.loop-part-test.false in
    let upto = c.loop-part.auto.part-index-end in
    let end : c.loop-part.part-index ≡ length c.args.parts.now = omega arith in
    all_added c.args.parts.now c.loop-part.part-index c.loop-part.left.now c.args.out.now.items c.loop-part.out.items (values_of c.args.parts.now c.args.bytes.now) c.is_empty.result end c.loop-part.invariant c.is_empty.ensures
