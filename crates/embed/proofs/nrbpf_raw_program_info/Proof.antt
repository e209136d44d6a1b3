-- `nrbpf_raw_program_info` lends the session and the words to `describe_program`.
use Rattle.embed.proofs.Steps.{refl}
use Rattle.host_calls.specs.Describing.{DescribesProgram}
use Rattle.host_calls.specs.contracts.handles.SessionHandle.{the_row as S}
use Rattle.host_calls.specs.contracts.describing.ProgramWords.{the_row as R}
use Rattle.host_calls.specs.contracts.describing.describe_program as g
use Rattle.host_calls.proofs.describing.describe_program.Met.{met}
use Rattle.embed.specs.contracts.nrbpf_raw_program_info as f
use Rattle.embed.proofs.nrbpf_raw_program_info.Statement.{statement}
use Rattle.embed.proofs.nrbpf_raw_program_info.Code as code
use Rattle.embed.proofs.LendingBoth.{lends_both}

pub nrbpf_raw_program_info_spec : {M : Type 1} → statement M
nrbpf_raw_program_info_spec 𝓤 𝓛 𝓜 𝓡 wired =
    lends_both 𝓛 S R 𝓜 𝓡 DescribesProgram f.Key.name g.Key.name (code.unfolded 𝓤 𝓛.H 𝓜 𝓡 wired) refl refl (met 𝓤 𝓛 𝓜 𝓡 (code.calls-host_calls::describing::describe_program 𝓡.env wired))
