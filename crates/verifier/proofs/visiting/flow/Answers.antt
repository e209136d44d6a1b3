use Rattle.std.proofs.Common.{◌≡◌, ◌<◌, length, arith, sym, ap, ◌∙◌, subst, refl, Some, None}
use Rattle.std.specs.Prelude.{slice_get}
use Rattle.std.proofs.lemmas.Option.{slice_get_read}
use Rattle.verifier.specs.Pass.{Meets}
use Rattle.verifier.proofs.visiting.flow.Goals as goal

pub returns-in-None-clause-flows : goal.returns-in-None-clause-flows
returns-in-None-clause-flows c =
    let inside : c.args.slot < length c.args.frames.now.items = omega (arith, c.requires.inside, c.args.frames.now.ok.0) in
    let here = slice_get_read c.args.frames.now.items (length c.args.frames.now.items) c.args.slot c.index.result.now refl inside c.index.ensures in
    let none : slice_get c.args.frames.now.items c.args.slot ≡ Some None = here ∙ ap Some c.in-None.is in
    record {
      both = c.args.new.now;
      frame = c.requires.frame;
      meets = subst (λ o. Meets o c.args.new.now c.args.new.now) (sym none) refl;
      written = refl;
    }

pub returns-in-Some-clause-flows : goal.returns-in-Some-clause-flows
returns-in-Some-clause-flows c =
    let inside : c.args.slot < length c.args.frames.now.items = omega (arith, c.requires.inside, c.args.frames.now.ok.0) in
    let here = slice_get_read c.args.frames.now.items (length c.args.frames.now.items) c.args.slot c.index.result.now refl inside c.index.ensures in
    let some : slice_get c.args.frames.now.items c.args.slot ≡ Some (Some c.in-Some.old) = here ∙ ap Some c.in-Some.is in
    record {
      both = c.join-both.result;
      frame = c.join-both.ensures.frame;
      meets = subst (λ o. Meets o c.args.new.now c.join-both.result) (sym some) c.join-both.ensures.meet;
      written = refl;
    }
