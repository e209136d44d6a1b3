use Rattle.std.proofs.Common.{◌≡◌, ◌≤◌, vec_capacity}
use Rattle.schedule.specs.Worlds.{opened_nodes}
use Rattle.schedule.proofs.worlds.open_nodes.Given as goal

abbrev pub invariant-loop-number : goal.invariant-loop-number
invariant-loop-number l = record {
  capacity : l.fn.opening.config.nodes ≤ vec_capacity l.nodes;
  items : l.nodes.items ≡ opened_nodes l.fn.opening 0 l.number;
}
