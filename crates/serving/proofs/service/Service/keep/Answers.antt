use Rattle.std.proofs.Common.{◌<◌, ◌≤◌, length, refl, ◌∙◌, rules}
use Rattle.serving.specs.declared.service.TheConstants.{KEPT_BYTES}
use Rattle.serving.proofs.KeptLines.{kept_more, kept_full}
use Rattle.serving.proofs.service.Service.keep.Goals as goal

pub returns-then-not-is_full-clause-goes_on : goal.returns-then-not-is_full-clause-goes_on
returns-then-not-is_full-clause-goes_on c =
    let room : length c.args.self.now.left.items < KEPT_BYTES = search rules in
    (refl, λ s stands. record { has_values = stands.has_values; number = stands.number; follows = stands.follows; left = c.push.ensures.items ∙ kept_more s.left _ c.args.byte stands.left room })

pub returns-else-not-is_full-clause-goes_on : goal.returns-else-not-is_full-clause-goes_on
returns-else-not-is_full-clause-goes_on c =
    let full : KEPT_BYTES ≤ length c.args.self.now.left.items = search rules in
    (refl, λ s stands. record { has_values = stands.has_values; number = stands.number; follows = stands.follows; left = kept_full s.left _ c.args.byte stands.left full })
