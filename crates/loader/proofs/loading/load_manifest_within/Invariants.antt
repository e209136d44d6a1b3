use Rattle.std.proofs.Common.{◌≡◌, length}
use Rattle.loader.specs.ProgramFiles.{files_of}
use Rattle.loader.specs.Loading.{after_lines, loaded_within}
use Rattle.loader.specs.PartialView.{view_of, IsPartial}
use Rattle.loader.proofs.loading.load_manifest_within.Given as goal

abbrev pub invariant-loop-number : goal.invariant-loop-number
invariant-loop-number l =
    IsPartial l.limits (view_of l.so_far)
    × (after_lines l.limits (files_of l.files) l.lines.number (view_of l.so_far) l.lines.lines ≡ loaded_within l.limits l.manifest (files_of l.files))

abbrev pub decreases-loop-number : goal.decreases-loop-number
decreases-loop-number l = length l.lines.lines
