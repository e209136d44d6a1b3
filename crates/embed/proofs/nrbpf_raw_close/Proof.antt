-- `nrbpf_raw_close` lends the store to `close`.
use Rattle.embed.proofs.Steps.{refl}
use Rattle.host_calls.specs.Stores.{Closes}
use Rattle.host_calls.specs.contracts.handles.StoreHandle.{the_row as R}
use Rattle.host_calls.specs.contracts.stores.close as g
use Rattle.host_calls.proofs.stores.close.Met.{met}
use Rattle.embed.specs.contracts.nrbpf_raw_close as f
use Rattle.embed.proofs.nrbpf_raw_close.Statement.{statement}
use Rattle.embed.proofs.nrbpf_raw_close.Code as code
use Rattle.embed.proofs.Lending.{goes_on_alone}

pub nrbpf_raw_close_spec : {M : Type 1} → statement M
nrbpf_raw_close_spec 𝓤 𝓛 𝓜 𝓡 wired =
    goes_on_alone 𝓛 R 𝓜 𝓡 Closes f.Key.name g.Key.name (code.unfolded 𝓤 𝓛.H 𝓜 𝓡 wired) (met 𝓤 𝓛 𝓜 𝓡 (code.calls-host_calls::stores::close 𝓡.env wired)) refl
