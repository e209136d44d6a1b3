-- What a command that opens on a state answers to the state's text.
use Rattle.std.specs.Prelude.{ℕ, ◌==◌, List, [], ◌++◌, length, codes, decimal, Result, Ok, if◌then◌else◌}
use Rattle.std.specs.Result.{result_map_both}
use Rattle.loader.specs.declared.installed.InstallRefusal.TheVariants as installs
use Rattle.loader.specs.CatalogueView.{CatalogueView, opened_on, sizes_for}
use Rattle.dumps.specs.declared.refusals.DumpFault.{DumpFault}
use Rattle.dumps.specs.declared.refusals.DumpFault.TheVariants as faults
use Rattle.dumps.specs.declared.refusals.DumpRefusal.{DumpRefusal}
use Rattle.dumps.specs.Refusal.{fault_number}
use Rattle.dumps.specs.Loading.{loaded_state}
use Rattle.engine.specs.declared.replies.Verdict.TheVariants as verdicts
use Rattle.engine.specs.Texts.{decode_text, verify_text}
use Rattle.engine.specs.Answer.{Answer}

-- what a program breaks that is installed in a state, and where
abbrev pub reason_text : DumpFault → List ℕ
reason_text (faults.Program (installs.Decode e)) = decode_text e
reason_text (faults.Program (installs.Verify e)) = verify_text e
reason_text why = []

-- the line of a refused state
abbrev pub refusal_text : DumpRefusal → List ℕ
refusal_text e = codes "line " ++ (decimal e.line ++ (codes ": E" ++ (decimal (fault_number e.why) ++ (reason_text e.why ++ codes "\n"))))

-- the catalogue on the state that a text says, or the answer to the state's refusal; an empty text says a new state
abbrev pub on_text : CatalogueView → List ℕ → Result CatalogueView Answer
on_text c text =
    result_map_both (opened_on c) (λ refusal. record { text = refusal_text refusal; verdict = verdicts.Refused }) (loaded_state (sizes_for c) text)

-- the catalogue on a new state if the text is empty, or on the state that the text says
abbrev pub opened_by : CatalogueView → List ℕ → Result CatalogueView Answer
opened_by c text = if length text == 0 then Ok c else on_text c text
