-- What `dis --slots` writes, without its columns, is what `dis` writes.
use Rattle.std.specs.Option.{option_map_or}
use Rattle.std.specs.Prelude.{◌≡◌, ℕ, true, false, List, ◌++◌, drop, codes, Option}
use Rattle.std.specs.List.{flat_map}
use Rattle.text.specs.Lines.{lines_of}
use Rattle.text.specs.Fields.{split_at_space}
use Rattle.engine.specs.declared.replies.Verdict.{Verdict}
use Rattle.engine.specs.declared.replies.Verdict.TheVariants as verdicts
use Rattle.engine.specs.Reading.{TextsRead}
use Rattle.console.specs.AssemblyAnswer.{dis_answer}

-- a line without its columns: the slot's six characters, the bytes up to a space, that space and one more are left out
abbrev pub without_columns : List ℕ → List ℕ
without_columns line = option_map_or (λ cut. drop 1 cut.1) (split_at_space (drop 6 line)) line

-- the lines of a program without their columns; a refusal has none
abbrev pub text_without_columns : Verdict → List ℕ → List ℕ
text_without_columns verdicts.Good text = flat_map (λ line. without_columns line ++ codes "\n") (lines_of text)
text_without_columns verdict text = text

-- whatever was read
abbrev pub SlotsAreColumns : Type 0
SlotsAreColumns =
    (t : Option TextsRead) → record { text = text_without_columns (dis_answer true t).verdict (dis_answer true t).text; verdict = (dis_answer true t).verdict } ≡ dis_answer false t
