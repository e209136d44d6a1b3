-- What `decode` answers, as a function of what was read.
use Rattle.std.specs.Prelude.{ℕ, List, ◌++◌, codes, decimal, Option, Some, None}
use Rattle.encoding.specs.declared.decode_faults.DecodeRefusal.{DecodeRefusal}
use Rattle.encoding.specs.declared.decode_faults.DecodeRefusal.TheVariants as refusals
use Rattle.encoding.specs.Decoded.{decoded_text}
use Rattle.engine.specs.Answer.{Answer, not_text}
use Rattle.engine.specs.Reading.{TextsRead}
use Rattle.console.specs.CheckAnswer.{good_or_refused}

-- the first line that is wrong, of the layout or of the state
abbrev pub refusal_text : DecodeRefusal → List ℕ
refusal_text (refusals.Layout n) = codes "layout line " ++ decimal n ++ codes " bad\n"
refusal_text (refusals.State n) = codes "line " ++ decimal n ++ codes " bad\n"

-- the state with values
abbrev pub state_answer : List ℕ → List ℕ → Answer
state_answer layout state = good_or_refused (λ text. text) refusal_text (decoded_text layout state)

-- the file is the layout
abbrev pub decode_answer : Option TextsRead → Answer
decode_answer None = not_text
decode_answer (Some t) = state_answer t.file t.state
