-- `nrbpf_raw_map_info` lends the session and the words to `describe_map`.
use Rattle.embed.proofs.Steps.{refl}
use Rattle.host_calls.specs.Describing.{DescribesMap}
use Rattle.host_calls.specs.contracts.handles.SessionHandle.{the_row as S}
use Rattle.host_calls.specs.contracts.describing.MapWords.{the_row as R}
use Rattle.host_calls.specs.contracts.describing.describe_map as g
use Rattle.host_calls.proofs.describing.describe_map.Met.{met}
use Rattle.embed.specs.contracts.nrbpf_raw_map_info as f
use Rattle.embed.proofs.nrbpf_raw_map_info.Statement.{statement}
use Rattle.embed.proofs.nrbpf_raw_map_info.Code as code
use Rattle.embed.proofs.LendingBoth.{lends_both}

pub nrbpf_raw_map_info_spec : {M : Type 1} → statement M
nrbpf_raw_map_info_spec 𝓤 𝓛 𝓜 𝓡 wired =
    lends_both 𝓛 S R 𝓜 𝓡 DescribesMap f.Key.name g.Key.name (code.unfolded 𝓤 𝓛.H 𝓜 𝓡 wired) refl refl (met 𝓤 𝓛 𝓜 𝓡 (code.calls-host_calls::describing::describe_map 𝓡.env wired))
