-- `nrbpf_raw_join` lends both handles to `join`.
use Rattle.embed.proofs.Steps.{refl}
use Rattle.host_calls.specs.Lanes.{Joins, JoinsOneStore}
use Rattle.host_calls.specs.contracts.handles.LaneHandle.{the_row as S}
use Rattle.host_calls.specs.contracts.handles.SessionHandle.{the_row as R}
use Rattle.host_calls.specs.contracts.lanes.join as g
use Rattle.host_calls.proofs.lanes.join.Met.{met}
use Rattle.embed.specs.contracts.nrbpf_raw_join as f
use Rattle.embed.proofs.nrbpf_raw_join.Statement.{statement}
use Rattle.embed.proofs.nrbpf_raw_join.Code as code
use Rattle.embed.proofs.LendingBoth.{lends_own}

pub nrbpf_raw_join_spec : {M : Type 1} → statement M
nrbpf_raw_join_spec 𝓤 𝓛 𝓜 𝓡 wired = lends_own 𝓛 S R 𝓜 𝓡 (λ lane lane' session session'. Joins lane session lane' session') f.Key.name g.Key.name
    (code.unfolded 𝓤 𝓛.H 𝓜 𝓡 wired) refl refl JoinsOneStore (met 𝓤 𝓛 𝓜 𝓡 (code.calls-host_calls::lanes::join 𝓡.env wired))
