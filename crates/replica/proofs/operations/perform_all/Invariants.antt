-- So far the first k records were performed.
use Rattle.std.proofs.Common.{◌≡◌, take}
use Rattle.maps.specs.Maps.{HasShapes}
use Rattle.maps.specs.MapSets.{maps_of}
use Rattle.oplog.specs.History.{after}
use Rattle.replica.specs.Grounds.{IsFitFor, state_in}
use Rattle.replica.specs.StoreMeaning.{store_meaning}
use Rattle.replica.proofs.operations.perform_all.Given as goal

abbrev pub invariant-loop-k : goal.invariant-loop-k
invariant-loop-k l = record {
  shapes : HasShapes l.catalogue.shapes (maps_of l.on.maps);
  programs : IsFitFor l.catalogue l.on.programs;
  state : state_in l.on ≡ after store_meaning l.catalogue (state_in l.fn.on) (take l.k l.records);
}
