-- What `schedule` answers, as a function of the sizes of the store and of the manifest, the files and the steps that were read.
use Rattle.std.specs.Option.{option_map_or}
use Rattle.std.specs.Prelude.{ℕ, suc, List, [], ◌∷◌, ◌++◌, codes, decimal, Option, Some, None, option_map, unwrap_or, length, Ok, Err, if◌then◌else◌}
use Rattle.text.specs.Lines.{lines_of, next_line}
use Rattle.loader.specs.CatalogueView.{CatalogueView, number_named}
use Rattle.loader.specs.Loading.{Outcome}
use Rattle.oplog.specs.declared.records.Op.TheVariants.{Run, Install as AnInstall}
use Rattle.oplog.specs.Logs.{tail_of}
use Rattle.oplog.specs.declared.configuration.Config.{Config}
use Rattle.oplog.specs.Limits.{sizes_in}
use Rattle.combiner.specs.declared.slots.Reply.TheVariants.{Placed, Ended}
use Rattle.node.specs.Steps.{Appends, Replays, Finishes, Reclaims, Rebases, Replies}
use Rattle.schedule.specs.declared.parts.Opening.{Opening}
use Rattle.schedule.specs.declared.steps.StepAnswer.{StepAnswer}
use Rattle.schedule.specs.declared.steps.StepAnswer.TheVariants.{Done, NotNow, Back, ReadBack}
use Rattle.schedule.specs.Worlds.{NodeView, WorldView, opened, opening_of}
use Rattle.schedule.specs.Steps as steps
use Rattle.schedule.specs.Steps.{Took, done_at, world_after}
use Rattle.schedule.specs.Taking.{step_answer}
use Rattle.engine.specs.declared.replies.Verdict.TheVariants as verdicts
use Rattle.engine.specs.Answer.{Answer, not_text, refusal_answer}
use Rattle.engine.specs.Sizes.{are_sizes, sizes_refused}
use Rattle.engine.specs.Reading.{TextsRead, loaded_by}
use Rattle.scripts.specs.Script.{ProgramKey, Named, Numbered}
use Rattle.scripts.specs.StepLine.{StepMeaning, Comment, Post, Install, ReadBegin, Collect, ReadAnswer, Claim, Append, Replay, Finish, Reply, Reclaim, Rebase, step_line_meaning}
use Rattle.running.specs.RunAnswer.{behind, bad_line}

-- ---- the texts

-- what a step answers: it was taken, with the answer of a call that is answered, or it may not be taken now
abbrev pub step_text : StepAnswer → List ℕ
step_text Done = codes "ok\n"
step_text NotNow = codes "notnow\n"
step_text (Back (Placed index reply)) = codes "ok place " ++ (decimal index ++ (codes " reply " ++ (decimal reply ++ codes "\n")))
step_text (Back Ended) = codes "ok ended\n"
step_text (ReadBack a) = codes "ok point " ++ (decimal a.point ++ (codes " reply " ++ (decimal a.reply ++ codes "\n")))

-- how far the replica of each node is, from node n on
abbrev pub nodes_text : ℕ → List NodeView → List ℕ
nodes_text n [] = []
nodes_text n (node ∷ nodes) = (codes "node " ++ (decimal n ++ (codes " tail " ++ (decimal node.replica.tail ++ codes "\n")))) ++ nodes_text (suc n) nodes

-- where the log stands at the end, and then the nodes
abbrev pub end_text : WorldView → List ℕ
end_text w =
    (codes "log base " ++ (decimal w.log.base ++ (codes " tail " ++ (decimal (tail_of w.log) ++ (codes " done " ++ (decimal w.log.done ++ codes "\n"))))))
    ++ nodes_text 0 w.nodes

-- ---- one line

-- the number of the program that a line names: one of the catalogue's by its name, else one that no store has; or the number that it says
abbrev pub number_keyed : CatalogueView → ProgramKey → ℕ
number_keyed c (Named name) = unwrap_or (number_named c.programs name) 65535
number_keyed c (Numbered k) = k

-- the line's step of the store; none where it may not be taken
abbrev pub line_took : Opening → WorldView → StepMeaning → Option Took
line_took m w Comment = None
line_took m w (Post at call) = done_at at.node (steps.post m at.slot (Run (record { program = number_keyed m.catalogue call.key; argument = call.argument }))) w
line_took m w (Install at new) = done_at at.node (steps.post m at.slot (AnInstall new)) w
line_took m w (ReadBegin at call) = done_at at.node (steps.read_begin m at.slot (record { program = number_keyed m.catalogue call.key; argument = call.argument })) w
line_took m w (Collect at) = done_at at.node (steps.collect at.slot) w
line_took m w (ReadAnswer at) = done_at at.node (steps.read_answer m at.slot) w
line_took m w (Claim n) = done_at n steps.claim w
line_took m w (Append n) = done_at n (steps.inner m Appends) w
line_took m w (Replay n) = done_at n (steps.inner m Replays) w
line_took m w (Finish n) = done_at n (steps.inner m Finishes) w
line_took m w (Reply n) = done_at n (steps.inner m Replies) w
line_took m w (Reclaim n) = done_at n (steps.inner m Reclaims) w
line_took m w (Rebase n) = done_at n (steps.inner m Rebases) w

-- what a line writes, and the store after it
pub record StepTurn : Type 0 where
  pub text : List ℕ
  pub world : WorldView

abbrev pub step_turn : Opening → WorldView → StepMeaning → StepTurn
step_turn m w Comment = record { text = []; world = w }
step_turn m w line = record { text = step_text (step_answer (line_took m w line)); world = world_after w (line_took m w line) }

unfoldable pub step_line_turn : Opening → WorldView → List ℕ → Option StepTurn
step_line_turn m w line = option_map (step_turn m w) (step_line_meaning (length m.catalogue.programs) line)

-- ---- a list of steps

-- what the lines from number n on write, on a store; a bad line ends it, and behind the last line stands where log and replicas are
unfoldable pub steps_answer : Opening → ℕ → WorldView → List (List ℕ) → Answer
steps_answer m n w [] = record { text = end_text w; verdict = verdicts.Good }
steps_answer m n w (l ∷ ls) = option_map_or (λ turn. behind turn.text (steps_answer m (next_line n) turn.world ls)) (step_line_turn m w l) (bad_line n)

-- what a manifest's catalogue answers to a list of steps, in a store of these sizes, which has so many places behind its programs; a refused
-- manifest writes only its refusal, sizes out of their limits only theirs
abbrev pub scheduled : Config → Outcome → List ℕ → Answer
scheduled config (Ok c) text =
    let opening = opening_of (sizes_in config) c in
    if are_sizes config then steps_answer opening 1 (opened opening) (lines_of text) else sizes_refused
scheduled config (Err refusal) text = refusal_answer refusal

-- what `schedule` answers to what was read: the manifest is loaded, then the sizes are judged, then the steps are taken
abbrev pub schedule_answer : Config → Option TextsRead → Answer
schedule_answer config None = not_text
schedule_answer config (Some t) = scheduled config (loaded_by t) t.file
