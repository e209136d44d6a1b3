use Rattle.std.proofs.Common.{OnOk, slice_get, sym, subst}
use Rattle.verifier.specs.Accepted.{checked_in}
use Rattle.console.specs.MapsAnswer.{AddsLineAt}
use Rattle.console.proofs.MapLines.{named_entry}
use Rattle.console.proofs.map_lines.put_line_of.Goals as goal

pub returns-in-Some-Some : goal.returns-in-Some-Some
returns-in-Some-Some c =
    let entry = slice_get c.args.catalogue.now.programs c.args.k in
    subst (λ o. OnOk c.put_line.result (AddsLineAt o c.args.out.now.items c.put_line.new.out.items))
    (sym (named_entry entry c.in-Some-Some.name.now (checked_in c.in-Some-Some.program.now) c.in-Some-Some.ensures.name c.in-Some-Some.ensures'.program)) c.put_line.ensures
