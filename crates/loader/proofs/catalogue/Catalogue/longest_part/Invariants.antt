use Rattle.std.proofs.Common.{◌≡◌, ◌≤◌, take}
use Rattle.maps.specs.declared.shapes.TheConstants.{MOST_ARG_LEN}
use Rattle.loader.specs.CatalogueView.{longest_of}
use Rattle.loader.proofs.catalogue.Catalogue.longest_part.Given as goal

abbrev pub invariant-loop-named : goal.invariant-loop-named
invariant-loop-named l = record {
  so_far : l.longest ≡ longest_of (take l.named-index l.named-items);
  most : l.longest ≤ MOST_ARG_LEN;
}
