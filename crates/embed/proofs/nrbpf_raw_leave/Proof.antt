-- `nrbpf_raw_leave` lends the lane to `leave`, and writes the handle that this gives into the room.
use Rattle.embed.proofs.Steps.{refl}
use Rattle.host_calls.specs.Lanes.{Leaves}
use Rattle.host_calls.specs.contracts.handles.LaneHandle.{the_row as S}
use Rattle.host_calls.specs.contracts.handles.SessionHandle.{the_row as R}
use Rattle.host_calls.proofs.handles.SessionHandle.TheLaws as laws
use Rattle.host_calls.specs.contracts.lanes.leave as g
use Rattle.host_calls.proofs.lanes.leave.Met.{met}
use Rattle.embed.specs.contracts.nrbpf_raw_leave as f
use Rattle.embed.proofs.nrbpf_raw_leave.Statement.{statement}
use Rattle.embed.proofs.nrbpf_raw_leave.Code as code
use Rattle.embed.proofs.Giving.{gives_alone}

pub nrbpf_raw_leave_spec : {M : Type 1} → statement M
nrbpf_raw_leave_spec 𝓤 𝓛 𝓜 𝓡 wired = gives_alone 𝓛 𝓜 𝓡 S R refl refl ((laws.the_row_laws).lawful 𝓛) Leaves f.Key.name g.Key.name
    (code.unfolded 𝓤 𝓛.H 𝓜 𝓡 wired) (met 𝓤 𝓛 𝓜 𝓡 (code.calls-host_calls::lanes::leave 𝓡.env wired))
