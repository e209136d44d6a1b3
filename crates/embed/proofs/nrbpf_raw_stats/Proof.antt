-- `nrbpf_raw_stats` lends the session and the words to `measure`.
use Rattle.embed.proofs.Steps.{refl}
use Rattle.host_calls.specs.Measuring.{Measures}
use Rattle.host_calls.specs.contracts.handles.SessionHandle.{the_row as S}
use Rattle.host_calls.specs.contracts.measuring.StatWords.{the_row as R}
use Rattle.host_calls.specs.contracts.measuring.measure as g
use Rattle.host_calls.proofs.measuring.measure.Met.{met}
use Rattle.embed.specs.contracts.nrbpf_raw_stats as f
use Rattle.embed.proofs.nrbpf_raw_stats.Statement.{statement}
use Rattle.embed.proofs.nrbpf_raw_stats.Code as code
use Rattle.embed.proofs.LendingBoth.{lends_both}

pub nrbpf_raw_stats_spec : {M : Type 1} → statement M
nrbpf_raw_stats_spec 𝓤 𝓛 𝓜 𝓡 wired =
    lends_both 𝓛 S R 𝓜 𝓡 Measures f.Key.name g.Key.name (code.unfolded 𝓤 𝓛.H 𝓜 𝓡 wired) refl refl (met 𝓤 𝓛 𝓜 𝓡 (code.calls-host_calls::measuring::measure 𝓡.env wired))
