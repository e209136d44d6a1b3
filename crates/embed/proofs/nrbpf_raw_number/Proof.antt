-- `nrbpf_raw_number` lends the store to `find_number`.
use Rattle.embed.proofs.Steps.{refl}
use Rattle.host_calls.specs.Stores.{Finds}
use Rattle.host_calls.specs.contracts.handles.StoreHandle.{the_row as R}
use Rattle.host_calls.specs.contracts.stores.find_number as g
use Rattle.host_calls.proofs.stores.find_number.Met.{met}
use Rattle.embed.specs.contracts.nrbpf_raw_number as f
use Rattle.embed.proofs.nrbpf_raw_number.Statement.{statement}
use Rattle.embed.proofs.nrbpf_raw_number.Code as code
use Rattle.embed.proofs.Lending.{goes_on_alone}

pub nrbpf_raw_number_spec : {M : Type 1} → statement M
nrbpf_raw_number_spec 𝓤 𝓛 𝓜 𝓡 wired =
    goes_on_alone 𝓛 R 𝓜 𝓡 Finds f.Key.name g.Key.name (code.unfolded 𝓤 𝓛.H 𝓜 𝓡 wired) (met 𝓤 𝓛 𝓜 𝓡 (code.calls-host_calls::stores::find_number 𝓡.env wired)) refl
