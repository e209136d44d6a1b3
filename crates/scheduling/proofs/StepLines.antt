-- The loop over the lines of a list of steps: one line on, a bad line, and the end.
use Rattle.std.proofs.Common.{◌≡◌, ℕ, zero, suc, ◌+◌, true, false, List, [], ◌∷◌, ◌++◌, codes, decimal, drop, Option, Some, None, slice_get, refl, sym, ap, subst, ◌∙◌, append_assoc, arith}
use Rattle.std.specs.Prelude.{option_map}
use Rattle.std.specs.Option.{option_map_or}
use Rattle.std.proofs.lemmas.Bool.{false≢true}
use Rattle.text.specs.Lines.{next_line}
use Rattle.replica.specs.Views.{ReplicaView}
use Rattle.schedule.specs.declared.parts.Opening.{Opening}
use Rattle.schedule.specs.Worlds.{NodeView, WorldView}
use Rattle.schedule.specs.Taking.{WorldState}
use Rattle.engine.specs.declared.replies.Verdict.{Verdict}
use Rattle.engine.specs.declared.replies.Verdict.TheVariants as verdicts
use Rattle.engine.specs.Answer.{Answer}
use Rattle.running.specs.RunAnswer.{behind, bad_line}
use Rattle.scheduling.specs.ScheduleAnswer.{StepTurn, step_line_turn, steps_answer, nodes_text, end_text}
use Rattle.scheduling.specs.Scheduling.{StepLineTaken}

abbrev answer : Verdict → List ℕ → Answer
answer verdict text = record { text = text; verdict = verdict }

-- ---- one line

module _ (m : Opening) (n : ℕ) (old : WorldState) (before : List ℕ) (all : List (List ℕ)) (line : List ℕ) (rest : List (List ℕ)) (first : all ≡ line ∷ rest) (total : Answer)
    (of : old.opening ≡ m) (so_far : behind before (steps_answer m n old.world all) ≡ total) where
  abbrev next : StepTurn → Answer
  next turn = steps_answer m (next_line n) turn.world rest

  here_is : behind before (option_map_or (λ turn. behind turn.text (next turn)) (step_line_turn m old.world line) (bad_line n)) ≡ total
  unfolding steps_answer
  here_is = sym (rw first refl) ∙ so_far

  abbrev GoesOn : WorldState → List ℕ → Type 0
  GoesOn new after = (new.opening ≡ m) × (behind after (steps_answer m (next_line n) new.world rest) ≡ total)

  on : (t : Option StepTurn) (new : WorldState) (after : List ℕ) → StepLineTaken old t true new before after
      → behind before (option_map_or (λ turn. behind turn.text (next turn)) t (bad_line n)) ≡ total → GoesOn new after
  on None new after taken at = absurd (false≢true (sym taken.0))
  on (Some turn) new after taken at =
      let world : new.world ≡ turn.world = ap (λ (s : WorldState). s.world) taken.2 in (
        ap (λ (s : WorldState). s.opening) taken.2 ∙ of,
        rw (world, taken.1) (ap (answer (next turn).verdict) (append_assoc before turn.text (next turn).text) ∙ at),
      )

  pub goes_on : (new : WorldState) (after : List ℕ) → StepLineTaken old (step_line_turn old.opening old.world line) true new before after → GoesOn new after
  goes_on new after taken = on (step_line_turn m old.world line) new after (subst (λ o. StepLineTaken old (step_line_turn o old.world line) true new before after) of taken) here_is

  off : (t : Option StepTurn) (new : WorldState) (after text : List ℕ) → StepLineTaken old t false new before after → text ≡ after ++ (bad_line n).text
      → behind before (option_map_or (λ turn. behind turn.text (next turn)) t (bad_line n)) ≡ total → answer verdicts.Refused text ≡ total
  off None new after text taken is at = ap (answer verdicts.Refused) (is ∙ ap (λ (x : List ℕ). x ++ (bad_line n).text) taken.1) ∙ at
  off (Some turn) new after text taken is at = absurd (false≢true taken.0)

  pub bad_here : (new : WorldState) (after text : List ℕ) → StepLineTaken old (step_line_turn old.opening old.world line) false new before after → text ≡ after ++ (bad_line n).text → answer verdicts.Refused text ≡ total
  bad_here new after text taken is = off (step_line_turn m old.world line) new after text (subst (λ o. StepLineTaken old (step_line_turn o old.world line) false new before after) of taken) is here_is

pub all_taken : (m : Opening) (n : ℕ) (w : WorldView) (before text : List ℕ) (all : List (List ℕ)) → all ≡ [] → text ≡ before ++ end_text w → answer verdicts.Good text ≡ behind before (steps_answer m n w all)
unfolding steps_answer
all_taken m n w before text all empty is = sym (rw empty (ap (answer verdicts.Good) (sym is)))

-- ---- the end lines

-- the line of a node whose replica is so far
abbrev pub tail_text : ℕ → ℕ → List ℕ
tail_text n tail = codes "node " ++ (decimal n ++ (codes " tail " ++ (decimal tail ++ codes "\n")))

pub node_from : (n k : ℕ) (nodes : List NodeView) (r : ReplicaView) (tail : ℕ) → Some r ≡ option_map (λ (node : NodeView). node.replica) (slice_get nodes k) → tail ≡ r.tail
    → nodes_text n (drop k nodes) ≡ tail_text n tail ++ nodes_text (n + 1) (drop (k + 1) nodes)
node_from n zero (node ∷ nodes) r tail is so =
    let one : suc n ≡ n + 1 = omega arith in
    let same : node.replica.tail ≡ tail = cc in
    λ i. tail_text n (same i) ++ nodes_text (one i) nodes
node_from n (suc k) (node ∷ nodes) r tail is so = let after : suc k + 1 ≡ suc (k + 1) = omega arith in rw after (node_from n k nodes r tail is so)
node_from n zero [] r tail is so = absurd cc
node_from n (suc k) [] r tail is so = absurd cc
