-- So far the first k records were performed.
use Rattle.std.proofs.Common.{◌≡◌, take}
use Rattle.maps.specs.Maps.{HasShapes}
use Rattle.maps.specs.MapSets.{maps_of}
use Rattle.oplog.specs.History.{after}
use Rattle.replica.specs.Grounds.{KeepsSizes, state_in}
use Rattle.replica.specs.StoreMeaning.{store_meaning}
use Rattle.replica.specs.Replaying.{KeepsOutcomes}
use Rattle.replica.proofs.operations.perform_each.Given as goal

abbrev pub invariant-loop-k : goal.invariant-loop-k
invariant-loop-k l = record {
  shapes : HasShapes l.catalogue.shapes (maps_of l.on.maps);
  sizes : KeepsSizes l.fn.on.programs l.on.programs;
  state : state_in l.on ≡ after store_meaning l.catalogue (state_in l.fn.on) (take l.k l.records);
  kept : KeepsOutcomes l.catalogue (state_in l.fn.on) l.first (take l.k l.records) l.fn.replies l.replies;
}
