use Rattle.std.proofs.Common.{ap}
use Rattle.std.specs.Prelude.{option_map}
use Rattle.std.specs.String.{string_bytes}
use Rattle.text.specs.Lines.{lines_of}
use Rattle.loader.specs.ProgramFiles.{files_of}
use Rattle.explain.proofs.Graphs.{at_first, line_more, the_end}
use Rattle.explain.proofs.files.graph.put_lines.Goals as goal

pub loop-number-init : goal.loop-number-init
loop-number-init c =
    let all = c.new-lines.ensures.all in
    at_first c.args.limits.now (files_of c.args.files.now) (option_map (λ n. n.now) c.args.name) (lines_of c.args.manifest.now) (string_bytes c.args.out.now) _ _ (ap (λ l. l.number) all) (ap (λ l. l.lines) all)

pub loop-number-preserved : goal.loop-number-preserved
loop-number-preserved c =
    let taken = c.in-Some.ensures.taken in
    line_more c.args.limits.now (files_of c.args.files.now) (option_map (λ n. n.now) c.args.name) (lines_of c.args.manifest.now) (string_bytes c.args.out.now) c.loop-number.lines.number _ c.in-Some.line.now
    c.loop-number.lines.lines c.take_line.new.self.lines _ _ c.loop-number.invariant taken.0 taken.2 (rw (taken.1, c.asked_program.ensures) at c.in_ok-put_line.ensures)

pub returns : goal.returns
returns c =
    the_end c.args.limits.now (files_of c.args.files.now) (option_map (λ n. n.now) c.args.name) (lines_of c.args.manifest.now) (string_bytes c.args.out.now) c.loop-number.lines.number c.loop-number.lines.lines _
    c.loop-number.invariant c.in_default.ensures.taken.0
