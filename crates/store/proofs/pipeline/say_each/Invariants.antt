use Rattle.std.proofs.Common.{◌≡◌, length, map, take}
use Rattle.store.specs.Sessions.{said}
use Rattle.store.proofs.pipeline.say_each.Given as goal

abbrev pub invariant-loop-number : goal.invariant-loop-number
invariant-loop-number l = record {
  first : take l.number l.answers ≡ take l.number (map said l.replies);
  long : length l.answers ≡ length l.replies;
}
