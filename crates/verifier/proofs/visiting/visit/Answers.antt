use Rattle.std.proofs.Common.{◌≡◌, ◌<◌, Some, None, length, refl, sym, ap, ◌∙◌, inl, inr, arith}
use Rattle.std.specs.Prelude.{slice_get}
use Rattle.std.proofs.lemmas.Option.{slice_get_read}
use Rattle.verifier.proofs.Steps.{read_here}
use Rattle.verifier.proofs.visiting.visit.Goals as goal

pub jump-requires-clause-frame : goal.jump-requires-clause-frame
jump-requires-clause-frame c =
    let inside : c.args.slot < length c.args.frames.now.items = omega (arith, c.requires.inside, c.args.frames.now.ok.0) in
    c.requires.frame c.in-Some.here (read_here c.args.frames.now.items c.args.slot _ c.in-Some.here inside c.index.ensures c.in-Some.is)

pub fall_through-requires-clause-frame : goal.fall_through-requires-clause-frame
fall_through-requires-clause-frame c =
    let inside : c.args.slot < length c.args.frames.now.items = omega (arith, c.requires.inside, c.args.frames.now.ok.0) in
    c.requires.frame c.in-Some.here (read_here c.args.frames.now.items c.args.slot _ c.in-Some.here inside c.index.ensures c.in-Some.is)

pub returns-in-None-clause-visits : goal.returns-in-None-clause-visits
returns-in-None-clause-visits c =
    let inside : c.args.slot < length c.args.frames.now.items = omega (arith, c.requires.inside, c.args.frames.now.ok.0) in
    let here = slice_get_read c.args.frames.now.items (length c.args.frames.now.items) c.args.slot c.index.result.now refl inside c.index.ensures in
    let none : slice_get c.args.frames.now.items c.args.slot ≡ Some None = here ∙ ap Some c.in-None.is in
    inr (none, refl)

pub returns-in-Some-broken_rule-clause-visits : goal.returns-in-Some-broken_rule-clause-visits
returns-in-Some-broken_rule-clause-visits c =
    let inside : c.args.slot < length c.args.frames.now.items = omega (arith, c.requires.inside, c.args.frames.now.ok.0) in
    (c.in-Some.here, read_here c.args.frames.now.items c.args.slot _ c.in-Some.here inside c.index.ensures c.in-Some.is, sym c.broken_rule.ensures ∙ c.in-Some-broken_rule.is, refl)

pub returns-in-None-broken_rule-clause-visits : goal.returns-in-None-broken_rule-clause-visits
returns-in-None-broken_rule-clause-visits c =
    let inside : c.args.slot < length c.args.frames.now.items = omega (arith, c.requires.inside, c.args.frames.now.ok.0) in
    inl (record {
      frame = c.in-Some.here;
      here = read_here c.args.frames.now.items c.args.slot _ c.in-Some.here inside c.index.ensures c.in-Some.is;
      fine = sym c.broken_rule.ensures ∙ c.in-None-broken_rule.is;
      between = c.jump.new.frames.items;
      jumps = c.jump.ensures.follows;
      falls = c.fall_through.ensures.follows;
    })
