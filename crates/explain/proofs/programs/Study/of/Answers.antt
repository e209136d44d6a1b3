use Rattle.std.proofs.Common.{inr}
use Rattle.explain.specs.Listing.{signature_of}
use Rattle.explain.proofs.Slots.{kinds_of}
use Rattle.explain.proofs.programs.Study.of.Goals as goal

pub returns-clause-known : goal.returns-clause-known
returns-clause-known c =
    let s = c.args.subject in
    let known = c.in_ok-known.ensures in
    record { frames = known.frames; kinds = kinds_of s.program.now (signature_of s) c.in_ok-known.known.kinds known.kinds known.no_kinds; no_kinds = λ many. known.no_kinds (inr many) }
