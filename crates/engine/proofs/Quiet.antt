-- Where nothing is to be told, nothing is, one call after another.
use Rattle.std.proofs.Common.{ap, ◌∙◌}
use Rattle.engine.specs.declared.replies.Notes.{Notes}
use Rattle.engine.specs.Notes.{IsQuiet}

pub quiet_on : (a b c : Notes) → IsQuiet a b → IsQuiet b c → IsQuiet a c
quiet_on a b c first next on =
    let same = first on in
    next (ap (λ (n : Notes). n.telling) same ∙ on) ∙ same
