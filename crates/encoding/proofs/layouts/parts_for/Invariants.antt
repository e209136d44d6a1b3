use Rattle.std.proofs.Common.{◌≡◌, drop}
use Rattle.encoding.specs.DecodeShown.{shown_layouts}
use Rattle.encoding.specs.Layouts.{parts_for}
use Rattle.encoding.proofs.layouts.parts_for.Given as goal

abbrev pub invariant-loop-layout : goal.invariant-loop-layout
invariant-loop-layout l = parts_for (shown_layouts (drop l.layout-index l.layouts)) l.map ≡ parts_for (shown_layouts l.layouts) l.map
