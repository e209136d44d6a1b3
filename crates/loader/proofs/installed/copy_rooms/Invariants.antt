use Rattle.std.proofs.Common.{◌≡◌, length, take}
use Rattle.loader.specs.Installed.{AreRooms, all_checked}
use Rattle.loader.proofs.installed.copy_rooms.Given as goal

abbrev pub invariant-loop-k : goal.invariant-loop-k
invariant-loop-k l = record { copied : all_checked (take l.k l.rooms.items) ≡ all_checked (take l.k l.from); rooms : AreRooms l.slots l.rooms.items; count : length l.rooms.items ≡ length l.fn.rooms.items }
