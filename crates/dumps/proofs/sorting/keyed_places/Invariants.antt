use Rattle.std.proofs.Common.{◌≡◌, length}
use Rattle.dumps.proofs.KeyOrder.{IsKeyed}
use Rattle.dumps.proofs.sorting.keyed_places.Given as goal

abbrev pub invariant-loop-place : goal.invariant-loop-place
invariant-loop-place l = IsKeyed l.maps l.m l.place l.places.items × (length l.room ≡ 64)
