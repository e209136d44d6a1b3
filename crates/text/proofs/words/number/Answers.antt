use Rattle.std.proofs.Common.{◌≡◌, ◌≢◌, ◌∙◌, true, get_or, rules}
use Rattle.text.specs.Words.{starts_plain}
use Rattle.text.proofs.Numbers.{number_from_parse, plain_nonempty}
use Rattle.text.proofs.words.number.Goals as goal

pub returns : goal.returns
returns c =
    let plain : starts_plain c.args.text.now ≡ true = search rules in
    let no_plus : get_or c.args.text.now 0 0 ≢ 43 = search rules in
    record { value = c.ok.ensures.value ∙ number_from_parse c.args.text.now c.parse.result c.parse.ensures.value.0 plain (plain_nonempty _ plain) no_plus }
