use Rattle.std.specs.Prelude.{◌≡◌, ℕ, ◌<◌, None}
use Rattle.host_calls.specs.Stores.{IsOfNode, seated}
use Rattle.host_calls.proofs.pool.Pool.free_place.Given as goal

abbrev pub invariant-loop-place : goal.invariant-loop-place
invariant-loop-place l = (k : ℕ) → k < l.place → IsOfNode l.initial.self l.initial.node k → seated l.initial.self k ≡ None
