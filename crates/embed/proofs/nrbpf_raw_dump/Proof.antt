-- `nrbpf_raw_dump` lends the state to `dump_state`, and writes the handle that this gives into the room.
use Rattle.embed.proofs.Steps.{refl}
use Rattle.host_calls.specs.States.{Dumps}
use Rattle.host_calls.specs.contracts.handles.StateHandle.{the_row as S}
use Rattle.host_calls.specs.contracts.handles.TextHandle.{the_row as R}
use Rattle.host_calls.proofs.handles.TextHandle.TheLaws as laws
use Rattle.host_calls.specs.contracts.states.dump_state as g
use Rattle.host_calls.proofs.states.dump_state.Met.{met}
use Rattle.embed.specs.contracts.nrbpf_raw_dump as f
use Rattle.embed.proofs.nrbpf_raw_dump.Statement.{statement}
use Rattle.embed.proofs.nrbpf_raw_dump.Code as code
use Rattle.embed.proofs.Giving.{gives_with}

pub nrbpf_raw_dump_spec : {M : Type 1} → statement M
nrbpf_raw_dump_spec 𝓤 𝓛 𝓜 𝓡 wired = gives_with 𝓛 𝓜 𝓡 S R refl refl ((laws.the_row_laws).lawful 𝓛) Dumps f.Key.name g.Key.name
    (code.unfolded 𝓤 𝓛.H 𝓜 𝓡 wired) (met 𝓤 𝓛 𝓜 𝓡 (code.calls-host_calls::states::dump_state 𝓡.env wired))
