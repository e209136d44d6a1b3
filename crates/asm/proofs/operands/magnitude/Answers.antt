use Rattle.std.proofs.Common.{◌≡◌, true, ap, ◌∙◌, rules, Ok, length, ◌<◌}
use Rattle.asm.specs.Operands.{magnitude_of, are_digits}
use Rattle.text.proofs.Export.{digits_are_text}
use Rattle.asm.proofs.Numbers.{magnitude_from_parse}
use Rattle.asm.proofs.operands.magnitude.Goals as goal

pub returns-then-is_empty-clause-value : goal.returns-then-is_empty-clause-value
unfolding magnitude_of
returns-then-is_empty-clause-value c = search rules

pub returns-in-Ok-clause-value : goal.returns-in-Ok-clause-value
returns-in-Ok-clause-value c =
    let digits : are_digits c.args.radix c.args.digits.now ≡ true = search rules in
    let some : 0 < length c.args.digits.now = search rules in
    let parsed = rw c.in-Ok.ensures.cases.0 at c.from_str_radix.ensures.value in
    ap Ok (search rules) ∙ magnitude_from_parse c.args.radix c.args.digits.now c.from_str_radix.result c.requires.upper digits some parsed

pub returns-in-Err-clause-value : goal.returns-in-Err-clause-value
returns-in-Err-clause-value c =
    let digits : are_digits c.args.radix c.args.digits.now ≡ true = search rules in
    absurd (c.in-Err.ensures.cases.0 (digits_are_text c.args.radix c.args.digits.now digits c.requires.upper))
