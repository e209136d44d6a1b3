-- `nrbpf_raw_drop_lane` lends the lane to `drop_lane`.
use Rattle.embed.proofs.Steps.{refl}
use Rattle.host_calls.specs.Lanes.{Ends}
use Rattle.host_calls.specs.contracts.handles.LaneHandle.{the_row as R}
use Rattle.host_calls.specs.contracts.lanes.drop_lane as g
use Rattle.host_calls.proofs.lanes.drop_lane.Met.{met}
use Rattle.embed.specs.contracts.nrbpf_raw_drop_lane as f
use Rattle.embed.proofs.nrbpf_raw_drop_lane.Statement.{statement}
use Rattle.embed.proofs.nrbpf_raw_drop_lane.Code as code
use Rattle.embed.proofs.Lending.{goes_on_alone}

pub nrbpf_raw_drop_lane_spec : {M : Type 1} → statement M
nrbpf_raw_drop_lane_spec 𝓤 𝓛 𝓜 𝓡 wired =
    goes_on_alone 𝓛 R 𝓜 𝓡 Ends f.Key.name g.Key.name (code.unfolded 𝓤 𝓛.H 𝓜 𝓡 wired) (met 𝓤 𝓛 𝓜 𝓡 (code.calls-host_calls::lanes::drop_lane 𝓡.env wired)) refl
