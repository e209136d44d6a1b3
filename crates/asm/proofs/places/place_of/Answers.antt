use Rattle.std.proofs.Common.{◌≡◌, ◌≤◌, ◌∙◌, ap, length, subst, sym, arith, rules}
use Rattle.asm.specs.declared.tokens.Stop.TheVariants.{Semicolon}
use Rattle.asm.specs.Tokens.{before}
use Rattle.asm.proofs.Cuts.{before_short}
use Rattle.asm.proofs.places.place_of.Goals as goal

pub returns-clause-within : goal.returns-clause-within
returns-clause-within c =
    let line : c.as_bytes.result.now ≡ c.args.line.now = search rules in
    let code : length c.split.result.0.now ≤ length c.args.line.now =
    subst (λ n. n ≤ length c.args.line.now) (sym (ap length (c.split.ensures.before ∙ ap (before Semicolon) line))) (before_short Semicolon c.args.line.now) in
    omega (arith, code, c.saturating_sub-at.ensures)
