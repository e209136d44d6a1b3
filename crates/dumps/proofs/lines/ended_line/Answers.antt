use Rattle.std.proofs.Common.{lit<}
use Rattle.std.proofs.lemmas.Str.Pattern.{split_parts}
use Rattle.dumps.proofs.EndedLines.{ended_line_is}
use Rattle.dumps.proofs.lines.ended_line.Goals as goal

pub returns : goal.returns
returns c =
    ended_line_is c.args.text.now _ c.requires (split_parts 10 c.args.text.now _ c.split_once.ensures.cases (lit< tt))
