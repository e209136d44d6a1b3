-- `nrbpf_raw_drop_state` lends the state to `drop_state`.
use Rattle.embed.proofs.Steps.{refl}
use Rattle.host_calls.specs.States.{GivesUp}
use Rattle.host_calls.specs.contracts.handles.StateHandle.{the_row as R}
use Rattle.host_calls.specs.contracts.closing.drop_state as g
use Rattle.host_calls.proofs.closing.drop_state.Met.{met}
use Rattle.embed.specs.contracts.nrbpf_raw_drop_state as f
use Rattle.embed.proofs.nrbpf_raw_drop_state.Statement.{statement}
use Rattle.embed.proofs.nrbpf_raw_drop_state.Code as code
use Rattle.embed.proofs.Lending.{goes_on_alone}

pub nrbpf_raw_drop_state_spec : {M : Type 1} → statement M
nrbpf_raw_drop_state_spec 𝓤 𝓛 𝓜 𝓡 wired =
    goes_on_alone 𝓛 R 𝓜 𝓡 GivesUp f.Key.name g.Key.name (code.unfolded 𝓤 𝓛.H 𝓜 𝓡 wired) (met 𝓤 𝓛 𝓜 𝓡 (code.calls-host_calls::closing::drop_state 𝓡.env wired)) refl
