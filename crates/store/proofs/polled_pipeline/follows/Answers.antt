use Rattle.std.proofs.Common.{rules, ◌<◌, ◌-◌, length, refl, sym, ap, ◌∙◌, arith}
use Rattle.store_steps.specs.declared.pipelines.Member.{Member}
use Rattle.store.proofs.Following.{is_last}
use Rattle.store.proofs.Ascending.{at_read}
use Rattle.store.proofs.polled_pipeline.follows.Goals as goal

pub returns-then-last-caller : goal.returns-then-last-caller
returns-then-last-caller c = record {
  follows = (
    λ e. absurd cc,
    λ f.
        let some : 0 < length c.args.members.now = search rules in
        let q = c.index-members-members.result in
        let is = c.index-members-members.is in
        let at = at_read c.args.members.now (length c.args.members.now - 1) q (omega (arith, some)) is in
        absurd (c.if-last-caller.true (sym (ap (λ (z : Member). z.caller.node) is) ∙ (f.last q at).0)),
  );
}

pub returns-then-last-caller-2 : goal.returns-then-last-caller-2
returns-then-last-caller-2 c = record {
  follows = (
    λ e. absurd cc,
    λ f.
        let q = c.index-members-members.result in
        let is = c.index-members-members.is in
        let some : 0 < length c.args.members.now = search rules in
        let at = at_read c.args.members.now (length c.args.members.now - 1) q (omega (arith, some)) is in
        let high = c.if-last-caller-2.true in
        let low = (f.last q at).1 in
        let same = ap (λ (z : Member). z.caller.slot) is in
        absurd (omega (arith, high, low, same)),
  );
}

pub returns : goal.returns
returns c = record {
  follows = (
    λ e.
        let some : 0 < length c.args.members.now = search rules in
        let few = c.if-members-ge-MOST.false in
        let q = c.index-members-members.result in
        let is = c.index-members-members.is in
        let at = at_read c.args.members.now (length c.args.members.now - 1) q (omega (arith, some)) is in
        let low = c.if-last-caller-2.false in
        let same = ap (λ (z : Member). z.caller.slot) is in
        is_last c.args.members.now c.args.caller q (omega (arith, few)) at (ap (λ (z : Member). z.caller.node) is ∙ c.if-last-caller.false) (omega (arith, low, same)),
    λ f. refl,
  );
}
