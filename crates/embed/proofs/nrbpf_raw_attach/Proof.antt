-- `nrbpf_raw_attach` lends the store to `attach`, and writes the handle that this gives into the room.
use Rattle.embed.proofs.Steps.{refl}
use Rattle.host_calls.specs.Stores.{Gives}
use Rattle.host_calls.specs.contracts.handles.StoreHandle.{the_row as S}
use Rattle.host_calls.specs.contracts.handles.SessionHandle.{the_row as R}
use Rattle.host_calls.proofs.handles.SessionHandle.TheLaws as laws
use Rattle.host_calls.specs.contracts.stores.attach as g
use Rattle.host_calls.proofs.stores.attach.Met.{met}
use Rattle.embed.specs.contracts.nrbpf_raw_attach as f
use Rattle.embed.proofs.nrbpf_raw_attach.Statement.{statement}
use Rattle.embed.proofs.nrbpf_raw_attach.Code as code
use Rattle.embed.proofs.Giving.{gives_alone}

pub nrbpf_raw_attach_spec : {M : Type 1} → statement M
nrbpf_raw_attach_spec 𝓤 𝓛 𝓜 𝓡 wired = gives_alone 𝓛 𝓜 𝓡 S R refl refl ((laws.the_row_laws).lawful 𝓛) Gives f.Key.name g.Key.name
    (code.unfolded 𝓤 𝓛.H 𝓜 𝓡 wired) (met 𝓤 𝓛 𝓜 𝓡 (code.calls-host_calls::stores::attach 𝓡.env wired))
