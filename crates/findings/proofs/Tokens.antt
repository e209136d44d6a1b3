-- Tokens, one after another.
use Rattle.std.proofs.Common.{List, ◌++◌, ap, ◌∙◌, append_assoc}
use Rattle.json.specs.Token.{Token}
use Rattle.json.specs.Written.{Written}
use Rattle.findings.specs.Search.{Follows}

-- first these, then those
pub both : (a b d : Written) (xs ys : List Token) → Follows a b xs → Follows b d ys → Follows a d (xs ++ ys)
both a b d xs ys f g = (g.0 ∙ f.0, g.1 ∙ ap (λ t. t ++ ys) f.1 ∙ append_assoc a.tokens xs ys)
