-- `nrbpf_raw_drop_text` lends both handles to `drop_text`.
use Rattle.embed.proofs.Steps.{refl}
use Rattle.host_calls.specs.States.{Returns}
use Rattle.host_calls.specs.contracts.handles.TextHandle.{the_row as S}
use Rattle.host_calls.specs.contracts.handles.StateHandle.{the_row as R}
use Rattle.host_calls.specs.contracts.states.drop_text as g
use Rattle.host_calls.proofs.states.drop_text.Met.{met}
use Rattle.embed.specs.contracts.nrbpf_raw_drop_text as f
use Rattle.embed.proofs.nrbpf_raw_drop_text.Statement.{statement}
use Rattle.embed.proofs.nrbpf_raw_drop_text.Code as code
use Rattle.embed.proofs.LendingBoth.{lends_both}

pub nrbpf_raw_drop_text_spec : {M : Type 1} → statement M
nrbpf_raw_drop_text_spec 𝓤 𝓛 𝓜 𝓡 wired =
    lends_both 𝓛 S R 𝓜 𝓡 Returns f.Key.name g.Key.name (code.unfolded 𝓤 𝓛.H 𝓜 𝓡 wired) refl refl (met 𝓤 𝓛 𝓜 𝓡 (code.calls-host_calls::states::drop_text 𝓡.env wired))
