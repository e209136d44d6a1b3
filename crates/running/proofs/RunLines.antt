-- The loop over the lines of a script: one line on, a bad line, and the end.
use Rattle.std.proofs.Common.{◌≡◌, ℕ, Bool, true, false, List, [], ◌∷◌, ◌++◌, Option, Some, None, Result, refl, sym, ap, subst, ◌∙◌, append_assoc}
use Rattle.std.specs.Prelude.{IfOk, option_map, option_and_then}
use Rattle.std.specs.Option.{option_map_or}
use Rattle.std.proofs.lemmas.List.{append-nil}
use Rattle.std.proofs.lemmas.Bool.{false≢true}
use Rattle.text.specs.declared.lines.LineKind.TheVariants as kinds
use Rattle.text.specs.Lines.{kind_of, by_kind, next_line}
use Rattle.loader.specs.CatalogueView.{CatalogueView}
use Rattle.oplog.specs.History.{History}
use Rattle.engine.specs.declared.replies.Verdict.{Verdict}
use Rattle.engine.specs.declared.replies.Verdict.TheVariants as verdicts
use Rattle.running.specs.declared.single_node.SingleNode.{SingleNode}
use Rattle.engine.specs.Answer.{Answer}
use Rattle.scripts.specs.Script.{Comment, call_meaning, line_meaning}
use Rattle.running.specs.RunAnswer.{Turn, taken, behind, bad_line, line_turn, lines_answer}
use Rattle.running.specs.KeptRun.{lines_left}
use Rattle.running.specs.Running.{Follows, HasLeft, LineTaken}

-- a line of words says what its words say
pub words_turn : (limit : ℕ) (c : CatalogueView) (h : History) (line : List ℕ) → kinds.Words ≡ kind_of line → option_map (taken limit c h) (call_meaning line) ≡ line_turn limit c h line
unfolding line_turn line_meaning
words_turn limit c h line is = ap (λ k. option_map (taken limit c h) (by_kind Comment (call_meaning line) k)) is

-- what was done, by the same turn
pub taken_so : {E : Type 0} (limit : ℕ) (c : CatalogueView) (o p : Option Turn) (node : SingleNode) (old new : List ℕ) (r : Result Bool E) → o ≡ p
    → IfOk r (λ good. LineTaken limit c o good node old new) → IfOk r (λ good. LineTaken limit c p good node old new)
taken_so limit c o p node old new r is taken = subst (λ (x : Option Turn). IfOk r (λ good. LineTaken limit c x good node old new)) is taken

abbrev answer : Verdict → List ℕ → Answer
answer verdict text = record { text = text; verdict = verdict }

module _ (limit : ℕ) (c : CatalogueView) (n : ℕ) (h : History) (before : List ℕ) (lines : List (List ℕ)) (line : List ℕ) (rest : List (List ℕ)) (first : lines ≡ line ∷ rest) (node : SingleNode) where
  abbrev next : Turn → Answer
  next turn = lines_answer limit c (next_line n) turn.history rest

  abbrev left_on : History → Option History
  left_on g = lines_left limit c g rest

  -- the lines behind, on the history that the line left
  abbrev GoesOn : List ℕ → Answer → Option History → Type 0
  GoesOn after total left = (g : History) × Follows limit c g node × (behind after (lines_answer limit c (next_line n) g rest) ≡ total) × (left_on g ≡ left)

  goes_on : (t : Option Turn) (after : List ℕ) → LineTaken limit c t true node before after
      → GoesOn after (behind before (option_map_or (λ turn. behind turn.text (next turn)) t (bad_line n))) (option_and_then (λ turn. left_on turn.history) t)
  goes_on None after taken = absurd (false≢true (sym taken.0))
  goes_on (Some turn) after taken =
      (turn.history, taken.1.placed, rw taken.1.written (ap (answer (next turn).verdict) (append_assoc before turn.text (next turn).text)), refl)

  pub good_on : (after : List ℕ) (total : Answer) (left : Option History) → LineTaken limit c (line_turn limit c h line) true node before after → behind before (lines_answer limit c n h lines) ≡ total
      → lines_left limit c h lines ≡ left → GoesOn after total left
  unfolding lines_answer lines_left
  good_on after total left taken so_far left_so_far =
      let g = goes_on (line_turn limit c h line) after taken in
      (g.0, g.1, g.2 ∙ sym (rw first refl) ∙ so_far, g.3 ∙ sym (rw first refl) ∙ left_so_far)

  none_left : (t : Option Turn) (after : List ℕ) → LineTaken limit c t false node before after → option_and_then (λ turn. left_on turn.history) t ≡ None
  none_left None after taken = refl
  none_left (Some turn) after taken = absurd (false≢true taken.0)

  pub bad_left : (after : List ℕ) (left : Option History) (m : SingleNode) → LineTaken limit c (line_turn limit c h line) false node before after → lines_left limit c h lines ≡ left → HasLeft limit c m left verdicts.Refused
  unfolding lines_left
  bad_left after left m taken so_far =
      let none : lines_left limit c h lines ≡ None = rw first (none_left (line_turn limit c h line) after taken) in
      subst (λ (x : Option History). HasLeft limit c m x verdicts.Refused) (sym none ∙ so_far) refl

  stops : (t : Option Turn) (after all : List ℕ) → LineTaken limit c t false node before after → all ≡ after ++ (bad_line n).text
      → answer verdicts.Refused all ≡ behind before (option_map_or (λ turn. behind turn.text (next turn)) t (bad_line n))
  stops None after all taken written = ap (answer verdicts.Refused) (written ∙ ap (λ (x : List ℕ). x ++ (bad_line n).text) taken.1)
  stops (Some turn) after all taken written = absurd (false≢true taken.0)

  pub bad_here : (after all : List ℕ) → LineTaken limit c (line_turn limit c h line) false node before after → all ≡ after ++ (bad_line n).text
      → answer verdicts.Refused all ≡ behind before (lines_answer limit c n h lines)
  unfolding lines_answer
  bad_here after all taken written = stops (line_turn limit c h line) after all taken written ∙ sym (rw first refl)

pub all_done : (limit : ℕ) (c : CatalogueView) (n : ℕ) (h : History) (before : List ℕ) (lines : List (List ℕ)) → lines ≡ [] → answer verdicts.Good before ≡ behind before (lines_answer limit c n h lines)
unfolding lines_answer
all_done limit c n h before lines empty = sym (rw empty (ap (answer verdicts.Good) (append-nil before)))

pub all_left : (limit : ℕ) (c : CatalogueView) (h : History) (lines : List (List ℕ)) (left : Option History) (node : SingleNode) → lines ≡ [] → Follows limit c h node → lines_left limit c h lines ≡ left → HasLeft limit c node left verdicts.Good
unfolding lines_left
all_left limit c h lines left node empty follows so_far =
    let whole : lines_left limit c h lines ≡ Some h = rw empty refl in
    subst (λ (x : Option History). HasLeft limit c node x verdicts.Good) (sym whole ∙ so_far) (refl, follows)
