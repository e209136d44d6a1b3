use Rattle.std.proofs.Common.{◌≡◌, length}
use Rattle.loader.specs.CatalogueView.{sizes_for}
use Rattle.dumps.specs.Loading.{after_lines, loaded_state}
use Rattle.dumps.specs.Shown.{view_of, IsFor}
use Rattle.dumps.proofs.loading.load_watched.Given as goal

abbrev pub invariant-loop-number : goal.invariant-loop-number
invariant-loop-number g l =
    IsFor (sizes_for l.catalogue) l.so_far × (after_lines (sizes_for l.catalogue) l.lines.number (view_of l.so_far) l.lines.lines ≡ loaded_state (sizes_for l.catalogue) l.text)

abbrev pub decreases-loop-number : goal.decreases-loop-number
decreases-loop-number g l = length l.lines.lines
