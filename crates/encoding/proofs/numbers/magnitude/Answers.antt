use Rattle.std.proofs.Common.{◌≡◌, true, ◌∙◌, rules, length, ◌<◌}
use Rattle.encoding.specs.Values.{magnitude_of, are_digits}
use Rattle.text.proofs.Export.{digits_are_text}
use Rattle.encoding.proofs.Digits.{magnitude_from_parse}
use Rattle.encoding.proofs.numbers.magnitude.Goals as goal

pub returns-then-is_empty : goal.returns-then-is_empty
unfolding magnitude_of
returns-then-is_empty c = search rules

pub returns-in-Ok : goal.returns-in-Ok
returns-in-Ok c =
    let digits : are_digits c.args.radix c.args.digits.now ≡ true = search rules in
    let some : 0 < length c.args.digits.now = search rules in
    let parsed = rw c.in-Ok.ensures.cases.0 at c.from_str_radix.ensures.value in
    record { value = c.ok.ensures.value ∙ magnitude_from_parse c.args.radix c.args.digits.now c.from_str_radix.result c.requires.upper digits some parsed }

pub returns-in-Err : goal.returns-in-Err
returns-in-Err c =
    let digits : are_digits c.args.radix c.args.digits.now ≡ true = search rules in
    absurd (c.in-Err.ensures.cases.0 (digits_are_text c.args.radix c.args.digits.now digits c.requires.upper))
