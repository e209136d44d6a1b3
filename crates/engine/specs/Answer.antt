-- What a command answers.
use Rattle.std.specs.Prelude.{ℕ, List, codes}
use Rattle.loader.specs.declared.refusals.LoadRefusal.{LoadRefusal}
use Rattle.engine.specs.declared.replies.Verdict.{Verdict}
use Rattle.engine.specs.declared.replies.Verdict.TheVariants as verdicts
use Rattle.engine.specs.Texts.{refusal_text}

-- a text to write, and whether what was read is good
pub record Answer : Type 0 where
  pub text : List ℕ
  pub verdict : Verdict

-- some file is not UTF-8
abbrev pub not_text : Answer
not_text = record { text = codes "not UTF-8\n"; verdict = verdicts.Refused }

-- a refused manifest
abbrev pub refusal_answer : LoadRefusal → Answer
refusal_answer refusal = record { text = refusal_text refusal; verdict = verdicts.Refused }
