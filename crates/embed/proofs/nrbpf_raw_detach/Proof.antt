-- `nrbpf_raw_detach` lends both handles to `detach`.
use Rattle.embed.proofs.Steps.{refl}
use Rattle.host_calls.specs.Stores.{IsItsOwn, Takes}
use Rattle.host_calls.specs.contracts.handles.StoreHandle.{the_row as S}
use Rattle.host_calls.specs.contracts.handles.SessionHandle.{the_row as R}
use Rattle.host_calls.specs.contracts.stores.detach as g
use Rattle.host_calls.proofs.stores.detach.Met.{met}
use Rattle.embed.specs.contracts.nrbpf_raw_detach as f
use Rattle.embed.proofs.nrbpf_raw_detach.Statement.{statement}
use Rattle.embed.proofs.nrbpf_raw_detach.Code as code
use Rattle.embed.proofs.LendingBoth.{lends_own}

pub nrbpf_raw_detach_spec : {M : Type 1} → statement M
nrbpf_raw_detach_spec 𝓤 𝓛 𝓜 𝓡 wired = lends_own 𝓛 S R 𝓜 𝓡 (λ store store' session session'. Takes store session store' session') f.Key.name g.Key.name
    (code.unfolded 𝓤 𝓛.H 𝓜 𝓡 wired) refl refl IsItsOwn (met 𝓤 𝓛 𝓜 𝓡 (code.calls-host_calls::stores::detach 𝓡.env wired))
