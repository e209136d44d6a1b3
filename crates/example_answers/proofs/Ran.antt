-- What `run` answers to the counter's script, line by line.
use Rattle.std.proofs.Common.{◌≡◌, ◌∙◌, ℕ, false, List, [], ◌∷◌, codes, Some, None, Result, Ok, Err, refl, ap}
use Rattle.std.specs.Prelude.{IfOk}
use Rattle.std.specs.Str.{chars, is_utf8, trim_start, trim_end}
use Rattle.std.specs.Fmt.{digits}
use lib.Utf8.{encode}
use Rattle.text.specs.Lines.{lines_of, next_line}
use Rattle.loader.specs.NamedFiles.{named_in}
use Rattle.loader.specs.Grammar.{words_of}
use Rattle.loader.specs.CatalogueView.{CatalogueView}
use Rattle.oplog.specs.declared.configuration.TheConstants.{MAX_LIMIT}
use Rattle.oplog.specs.History.{History}
use Rattle.engine.specs.Reading.{first_stranger, read}
use Rattle.engine.proofs.Export.{found, unless_strange}
use Rattle.std.specs.Option.{option_map_or}
use Rattle.running.specs.RunAnswer.{Turn, behind, bad_line, line_turn, lines_answer}
use Rattle.running.specs.KeptRun.{KeptRun, kept_of, run_kept, script_kept}
use Rattle.running.specs.declared.runs.Kept.{Kept}
use Rattle.running.specs.declared.single_node.TheConstants.{RUN_PLACES}
use Rattle.engine.specs.Opening.{opening_of}
use Rattle.engine.specs.Answer.{Answer}
use Rattle.example_answers.specs.Counter.{counter_calls, counter_script, counter_ran}
use Rattle.example_answers.proofs.Counting.{running}
use Rattle.example_answers.proofs.Checked.{counter_loads}
use Rattle.example_answers.proofs.Script.{once, twice, thrice, bump_once, bump_twice, peek_then, bump_none, nope}

line : (c : CatalogueView) (n : ℕ) (h : History) (l : List ℕ) (ls : List (List ℕ)) (t : Turn)
    → line_turn MAX_LIMIT c h l ≡ Some t
    → lines_answer MAX_LIMIT c n h (l ∷ ls) ≡ behind t.text (lines_answer MAX_LIMIT c (next_line n) t.history ls)
unfolding lines_answer
line c n h l ls t e = ap (λ o. option_map_or (λ turn. behind turn.text (lines_answer MAX_LIMIT c (next_line n) turn.history ls)) o (bad_line n)) e

-- the lines behind the first, and so on
abbrev behind_4 : List (List ℕ)
behind_4 = codes "nope 00" ∷ []

abbrev behind_3 : List (List ℕ)
behind_3 = codes "bump 10000000" ∷ behind_4

abbrev behind_2 : List (List ℕ)
behind_2 = codes "peek 00000000" ∷ behind_3

abbrev behind_1 : List (List ℕ)
behind_1 = codes "bump 00000000" ∷ behind_2

lines : lines_answer MAX_LIMIT running 1 [] (lines_of counter_script) ≡ counter_ran
unfolding lines_answer chars encode digits
lines =
    line running 1 [] _ behind_1 _ bump_once
    ∙ ap (behind (codes "update 0 reply 1 steps 9\n")) (line running 2 once _ behind_2 _ bump_twice
    ∙ ap (behind (codes "update 1 reply 2 steps 9\n")) (line running 3 twice _ behind_3 _ peek_then
    ∙ ap (behind (codes "read 2 reply 2 steps 6\n")) (line running 4 twice _ behind_4 _ bump_none
    ∙ ap (behind (codes "update 2 reply 18446744073709551615 steps 6\n")) (line running 5 thrice _ [] _ nope))))

texts : first_stranger counter_calls ≡ None
unfolding chars is_utf8 encode trim_start trim_end named_in words_of
texts = refl

pub counter_runs : (run_kept false (read counter_calls)).answer ≡ counter_ran
counter_runs =
    ap (λ o. (run_kept false (unless_strange o (found counter_calls))).answer) texts
    ∙ ap (λ o. (script_kept counter_script (opening_of (Some RUN_PLACES) o [])).answer) counter_loads ∙ lines

-- what is made of these calls has this answer
pub kept_so : {E : Type 0} (r : Result Kept E) (k : KeptRun) (a : Answer) → k.answer ≡ a
    → IfOk r (λ m. kept_of m ≡ k) → IfOk r (λ m. (kept_of m).answer ≡ a)
kept_so (Ok m) k a is made = ap (λ (x : KeptRun). x.answer) made ∙ is
kept_so (Err e) k a is made = tt
