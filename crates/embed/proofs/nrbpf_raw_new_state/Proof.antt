-- `nrbpf_raw_new_state` lends the store to `make_state`, and writes the handle that this gives into the room.
use Rattle.embed.proofs.Steps.{refl}
use Rattle.host_calls.specs.States.{Makes}
use Rattle.host_calls.specs.contracts.handles.StoreHandle.{the_row as S}
use Rattle.host_calls.specs.contracts.handles.StateHandle.{the_row as R}
use Rattle.host_calls.proofs.handles.StateHandle.TheLaws as laws
use Rattle.host_calls.specs.contracts.states.make_state as g
use Rattle.host_calls.proofs.states.make_state.Met.{met}
use Rattle.embed.specs.contracts.nrbpf_raw_new_state as f
use Rattle.embed.proofs.nrbpf_raw_new_state.Statement.{statement}
use Rattle.embed.proofs.nrbpf_raw_new_state.Code as code
use Rattle.embed.proofs.Giving.{gives_with}

pub nrbpf_raw_new_state_spec : {M : Type 1} → statement M
nrbpf_raw_new_state_spec 𝓤 𝓛 𝓜 𝓡 wired = gives_with 𝓛 𝓜 𝓡 S R refl refl ((laws.the_row_laws).lawful 𝓛) Makes f.Key.name g.Key.name
    (code.unfolded 𝓤 𝓛.H 𝓜 𝓡 wired) (met 𝓤 𝓛 𝓜 𝓡 (code.calls-host_calls::states::make_state 𝓡.env wired))
