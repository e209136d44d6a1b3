use Rattle.std.proofs.Common.{None, arith}
use Rattle.std.proofs.lemmas.Str.Pattern.{strip_suffix_char}
use Rattle.explain.proofs.Assembly.{shown_whole}
use Rattle.explain.proofs.files.assembly.shown.Goals as goal

pub returns-in-None : goal.returns-in-None
returns-in-None c = shown_whole c.args.line.now (strip_suffix_char 13 c.args.line.now None c.in-None.ensures.cases (omega arith))
