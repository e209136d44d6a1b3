use Rattle.std.proofs.Common.{◌∙◌, ap, lit<, Some, None}
use Rattle.std.proofs.lemmas.Str.Pattern.{split_parts}
use Rattle.text.specs.Lines.{lines_of}
use Rattle.text.proofs.FirstLines.{lines_of-cut, lines_of-whole}
use Rattle.text.proofs.lines.first_line.Goals as goal

pub returns-in-Some : goal.returns-in-Some
returns-in-Some c =
    let parts = split_parts 10 c.args.text.now (Some (c.in-Some.line, c.in-Some.rest)) c.in-Some.ensures.cases (lit< tt) in
    ap lines_of parts.0 ∙ lines_of-cut _ _ parts.1

pub returns-in-None : goal.returns-in-None
returns-in-None c =
    lines_of-whole c.args.text.now c.requires (split_parts 10 c.args.text.now None c.in-None.ensures.cases (lit< tt))
