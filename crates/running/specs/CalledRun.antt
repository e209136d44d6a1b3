-- What `run --calls` answers: `run` of the script that `encode` makes of the calls.
use Rattle.std.specs.Prelude.{ℕ, Bool, List, Option, Some, None, Result, Ok, Err}
use Rattle.encoding.specs.declared.faults.EncodeRefusal.{EncodeRefusal}
use Rattle.encoding.specs.Encoded.{encoded_text}
use Rattle.encoding.specs.Faults.{refusal_line}
use Rattle.loader.specs.CatalogueView.{CatalogueView}
use Rattle.engine.specs.declared.parted.Destination.{Destination}
use Rattle.engine.specs.declared.replies.Verdict.TheVariants as verdicts
use Rattle.engine.specs.Answer.{Answer, not_text}
use Rattle.engine.specs.Opening.{long_opening}
use Rattle.engine.specs.Parted.{PartedAnswer, whole}
use Rattle.engine.specs.Reading.{TextsRead}
use Rattle.running.specs.declared.single_node.TheConstants.{RUN_PLACES}
use Rattle.running.specs.KeptRun.{dumped_run}

-- the first place that is wrong; a refused manifest or state comes before
abbrev pub refused_on : EncodeRefusal → Result CatalogueView Answer → Answer
refused_on refusal (Ok c) = record { text = refusal_line refusal; verdict = verdicts.Refused }
refused_on refusal (Err a) = a

abbrev pub calls_refused : EncodeRefusal → TextsRead → PartedAnswer
calls_refused refusal t = whole (refused_on refusal (long_opening (Some RUN_PLACES) t))

-- by what the calls are as a script
abbrev pub script_run : Bool → Destination → TextsRead → Result (List ℕ) EncodeRefusal → PartedAnswer
script_run is_signed to t (Ok script) = dumped_run is_signed to (Some (record t { file = script }))
script_run is_signed to t (Err refusal) = calls_refused refusal t

-- what is written of what was read, and what goes elsewhere
abbrev pub called_run : Bool → Destination → Option TextsRead → PartedAnswer
called_run is_signed to None = whole not_text
called_run is_signed to (Some t) = script_run is_signed to t (encoded_text t.file)
