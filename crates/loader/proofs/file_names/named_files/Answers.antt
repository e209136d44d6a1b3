use Rattle.std.proofs.Common.{rules}
use Rattle.loader.specs.NamedFiles.{named_in}
use Rattle.loader.proofs.file_names.named_files.Goals as goal

pub loop-line-init : goal.loop-line-init
unfolding named_in
loop-line-init c = search rules
