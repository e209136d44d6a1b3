-- States of given sizes.
use Rattle.std.proofs.Common.{◌≡◌, ◌≤◌, refl, arith}
use Rattle.std.proofs.lemmas.List.Elements.{All-nil}
use Rattle.maps.specs.Shapes.{AreShapesSupported}
use Rattle.maps.proofs.Export.{opening_shapes}
use Rattle.verifier.specs.Accepted.{Checked, IsAccepted}
use Rattle.loader.specs.declared.installed.TheConstants.{MOST_LONG, MOST_SPARE}
use Rattle.loader.specs.Installed.{IsShort}
use Rattle.loader.specs.StoreState.{StoreState, StateSizes, sizes_of, IsState, opened_state}

pub state_sizes : {z : StateSizes} {s : StoreState} → IsState z s → sizes_of s ≡ z
state_sizes h i = record { shapes = h.maps.same i; places = h.places i; long = h.long i }

-- a new state has the sizes that it was opened with
pub opened_is_state : (z : StateSizes) → AreShapesSupported z.shapes → z.places ≤ MOST_SPARE → z.long ≤ MOST_LONG → IsState z (opened_state z)
opened_is_state z shapes limit long_limit = record {
  maps = opening_shapes z.shapes shapes;
  places = refl;
  long = refl;
  programs = record {
    shapes = shapes;
    accepted = All-nil (λ (x : Checked). x.shapes ≡ z.shapes);
    checked = All-nil IsAccepted;
    short = All-nil (IsShort z.long);
    few = omega arith;
    limit = limit;
    long_limit = long_limit;
  };
}
