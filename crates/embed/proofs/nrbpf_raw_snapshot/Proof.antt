-- `nrbpf_raw_snapshot` lends both handles to `snapshot`.
use Rattle.embed.proofs.Steps.{refl}
use Rattle.host_calls.specs.Looks.{Snaps}
use Rattle.host_calls.specs.contracts.handles.SessionHandle.{the_row as S}
use Rattle.host_calls.specs.contracts.handles.StateHandle.{the_row as R}
use Rattle.host_calls.specs.contracts.looks.snapshot as g
use Rattle.host_calls.proofs.looks.snapshot.Met.{met}
use Rattle.embed.specs.contracts.nrbpf_raw_snapshot as f
use Rattle.embed.proofs.nrbpf_raw_snapshot.Statement.{statement}
use Rattle.embed.proofs.nrbpf_raw_snapshot.Code as code
use Rattle.embed.proofs.LendingBoth.{lends_both}

pub nrbpf_raw_snapshot_spec : {M : Type 1} → statement M
nrbpf_raw_snapshot_spec 𝓤 𝓛 𝓜 𝓡 wired =
    lends_both 𝓛 S R 𝓜 𝓡 Snaps f.Key.name g.Key.name (code.unfolded 𝓤 𝓛.H 𝓜 𝓡 wired) refl refl (met 𝓤 𝓛 𝓜 𝓡 (code.calls-host_calls::looks::snapshot 𝓡.env wired))
