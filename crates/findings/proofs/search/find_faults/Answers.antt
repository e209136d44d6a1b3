use Rattle.std.proofs.Common.{refl, ap, subst, sym}
use Rattle.std.specs.Prelude.{option_map}
use Rattle.loader.specs.ProgramFiles.{files_of}
use Rattle.explain.specs.Explanation.{IsWithin}
use Rattle.findings.specs.Search.{above_of}
use Rattle.findings.proofs.Lines.{at_first, line_more, the_end}
use Rattle.findings.proofs.search.find_faults.Goals as goal

pub loop-number-init : goal.loop-number-init
loop-number-init c =
    let all = c.new-lines.ensures.all in
    at_first c.args.limits.now (files_of c.args.files.now) (option_map (λ n. n.now) c.args.name) c.args.manifest.now _ _ _ _ c.requires.limits refl c.new.ensures.items refl c.new-2.ensures.items refl refl (ap (λ l. l.number) all)
    (ap (λ l. l.lines) all) c.new-found.ensures.items

pub take_next-requires : goal.take_next-requires
take_next-requires c = let before = c.loop-number.invariant in subst (λ l. IsWithin l (above_of c.loop-number.search)) (sym before.same_limits) before.within

pub loop-number-preserved : goal.loop-number-preserved
loop-number-preserved c =
    let taken = c.in-Some.ensures.taken in
    line_more c.args.limits.now (files_of c.args.files.now) (option_map (λ n. n.now) c.args.name) c.args.manifest.now _ _ c.loop-number.lines.number _ c.in-Some.line.now _ c.take_line.new.self.lines _ _ c.loop-number.invariant taken.0 taken.2
    (rw taken.1 at c.in_ok-take_next.ensures)

pub returns : goal.returns
returns c =
    let taken = c.in_default.ensures.taken in
    record {
      found =
          the_end c.args.limits.now (files_of c.args.files.now) (option_map (λ n. n.now) c.args.name) c.args.manifest.now c.loop-number.search c.loop-number.lines.number c.loop-number.lines.lines _ _ c.loop-number.invariant
          taken.0 (rw (c.number.ensures.number, taken.1) at c.in_ok-add_end.ensures);
    }
