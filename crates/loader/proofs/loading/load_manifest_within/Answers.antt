use Rattle.std.proofs.Common.{◌∙◌, refl, sym, rules}
use Rattle.loader.specs.Loading.{loaded_within}
use Rattle.loader.specs.ProgramFiles.{files_of}
use Rattle.loader.specs.PartialView.{view_of}
use Rattle.loader.proofs.Steps.{stays, nothing_partial}
use Rattle.loader.proofs.LoopLemmas.{one_on, fails_here, no_map, is_done}
use Rattle.loader.proofs.loading.load_manifest_within.Goals as goal

pub loop-number-init : goal.loop-number-init
unfolding loaded_within
loop-number-init c =
    let none = nothing_partial c.args.limits.now c.requires.limits in
    (rw (c.new.ensures.items, c.new-2.ensures.items) none, rw (c.new.ensures.items, c.new-2.ensures.items, c.new-lines.ensures.all) refl)

pub loop-number-preserved : goal.loop-number-preserved
loop-number-preserved c =
    let taken = c.in-Some.ensures.taken in
    let next = one_on c.args.limits.now (files_of c.args.files.now) c.loop-number.lines.number c.take_line.new.self.number _ _ c.loop-number.lines.lines c.in-Some.line.now c.take_line.new.self.lines taken.0 taken.2 c.in-Ok.ensures in
    (stays c.args.limits.now (files_of c.args.files.now) _ _ _ c.loop-number.invariant.0 c.in-Ok.ensures, sym next ∙ c.loop-number.invariant.1)

pub returns-in-Err : goal.returns-in-Err
returns-in-Err c =
    let taken = c.in-Some.ensures.taken in
    record {
      loaded =
          rw (c.at.ensures, taken.1)
          (fails_here c.in-Err.e c.args.limits.now (files_of c.args.files.now) c.loop-number.lines.number _ c.loop-number.lines.lines c.in-Some.line.now c.take_line.new.self.lines _ taken.0 c.in-Err.ensures c.loop-number.invariant.1);
    }

pub returns-then-is_empty : goal.returns-then-is_empty
returns-then-is_empty c =
    let taken = c.in_default.ensures.taken in
    record {
      loaded =
          rw (c.at-then-is_empty.ensures, c.number.ensures.number, taken.1)
          (no_map c.args.limits.now (files_of c.args.files.now) c.loop-number.lines.number (view_of c.loop-number.so_far) c.loop-number.lines.lines _ taken.0 (search rules) c.loop-number.invariant.1);
    }

pub returns : goal.returns
returns c =
    let taken = c.in_default.ensures.taken in
    record { loaded = is_done c.args.limits.now (files_of c.args.files.now) c.loop-number.lines.number _ c.loop-number.lines.lines _ taken.0 (search rules) c.loop-number.invariant.1 ∙ search rules }
