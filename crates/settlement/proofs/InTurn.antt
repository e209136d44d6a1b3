-- Steps one after another, and those of them that are taken.
use Rattle.std.proofs.Common.{◌≡◌, ◌≢◌, ℕ, List, [], ◌∷◌, ◌++◌, map, Option, Some, None, refl, sym, ap, ◌∙◌}
use Rattle.std.specs.List.{All}
use Rattle.std.proofs.lemmas.List.Elements.{All-nil, All-cons}
use Rattle.schedule.specs.declared.parts.Opening.{Opening}
use Rattle.schedule.specs.declared.steps.Step.{Step}
use Rattle.schedule.specs.declared.steps.StepAnswer.TheVariants.{NotNow}
use Rattle.schedule.specs.Trace.{Updated, ReadBack, Event, Call, Back}
use Rattle.schedule.specs.Worlds.{WorldView}
use Rattle.schedule.specs.Steps.{Took, took, world_after, world_of, node_of}
use Rattle.schedule.specs.Taking.{answer_of, step_answer, answers_to}
use Rattle.settlement.specs.declared.calls.Taken.{Taken}
use Rattle.settlement.specs.Settling.{before_taken, taken_of}
use Rattle.settlement.proofs.NodeLists.{AreOwn}

-- ---- one list after another

pub world_append : (m : Opening) (w : WorldView) (xs ys : List Step) → world_of m w (xs ++ ys) ≡ world_of m (world_of m w xs) ys
world_append m w [] ys = refl
world_append m w (x ∷ xs) ys = world_append m (world_after w (took m w x)) xs ys

before_append : (o : Option Took) (step : Step) (xs ys : List Taken) → before_taken step o (xs ++ ys) ≡ before_taken step o xs ++ ys
before_append None step xs ys = refl
before_append (Some r) step xs ys = refl

pub taken_append : (m : Opening) (w : WorldView) (xs ys : List Step) → taken_of m w (xs ++ ys) ≡ taken_of m w xs ++ taken_of m (world_of m w xs) ys
taken_append m w [] ys = refl
taken_append m w (x ∷ xs) ys =
    ap (before_taken x (took m w x)) (taken_append m (world_after w (took m w x)) xs ys)
    ∙ before_append (took m w x) x (taken_of m (world_after w (took m w x)) xs) (taken_of m (world_of m (world_after w (took m w x)) xs) ys)

-- ---- those that are taken, alone

-- the steps that are taken lead to the same store
pub kept_world : (m : Opening) (steps : List Step) (w : WorldView) → world_of m w (map (λ (t : Taken). t.step) (taken_of m w steps)) ≡ world_of m w steps
kept_world m [] w = refl
kept_world m (step ∷ steps) w = go (kept_world m steps) (took m w step) refl
  where
    go : ((v : WorldView) → world_of m v (map (λ (t : Taken). t.step) (taken_of m v steps)) ≡ world_of m v steps) → (o : Option Took) → took m w step ≡ o
        → world_of m w (map (λ (t : Taken). t.step) (before_taken step o (taken_of m (world_after w o) steps))) ≡ world_of m (world_after w o) steps
    go rest None e = rest w
    go rest (Some r) e = ap (λ o. world_of m (world_after w o) (map (λ (t : Taken). t.step) (taken_of m r.world steps))) e ∙ rest r.world

-- and are answered the same
pub kept_answers : (m : Opening) (steps : List Step) (w : WorldView) → map (λ (t : Taken). t.answer) (taken_of m w steps) ≡ answers_to m w (map (λ (t : Taken). t.step) (taken_of m w steps))
kept_answers m [] w = refl
kept_answers m (step ∷ steps) w = go (kept_answers m steps) (took m w step) refl
  where
    go : ((v : WorldView) → map (λ (t : Taken). t.answer) (taken_of m v steps) ≡ answers_to m v (map (λ (t : Taken). t.step) (taken_of m v steps))) → (o : Option Took) → took m w step ≡ o
        → map (λ (t : Taken). t.answer) (before_taken step o (taken_of m (world_after w o) steps)) ≡ answers_to m w (map (λ (t : Taken). t.step) (before_taken step o (taken_of m (world_after w o) steps)))
    go rest None e = rest w
    go rest (Some r) e =
        ap (λ xs. answer_of r.event ∷ xs) (rest r.world)
        ∙ sym (ap (λ o. step_answer o ∷ answers_to m (world_after w o) (map (λ (t : Taken). t.step) (taken_of m r.world steps))) e)

-- none of them answers that it may not be taken
pub answers_now : (o : Option Event) → answer_of o ≢ NotNow
answers_now None e = absurd cc
answers_now (Some (Call x mode op)) e = absurd cc
answers_now (Some (Back x (Updated reply))) e = absurd cc
answers_now (Some (Back x (ReadBack answer))) e = absurd cc

pub all_taken : (m : Opening) (steps : List Step) (w : WorldView) → All (λ (t : Taken). t.answer ≢ NotNow) (taken_of m w steps)
all_taken m [] w = All-nil (λ (t : Taken). t.answer ≢ NotNow)
all_taken m (step ∷ steps) w = go (all_taken m steps) (took m w step)
  where
    go : ((v : WorldView) → All (λ (t : Taken). t.answer ≢ NotNow) (taken_of m v steps)) → (o : Option Took) → All (λ (t : Taken). t.answer ≢ NotNow) (before_taken step o (taken_of m (world_after w o) steps))
    go rest None = rest w
    go rest (Some r) = All-cons (λ (t : Taken). t.answer ≢ NotNow) (record { step = step; answer = answer_of r.event }) (taken_of m r.world steps) (answers_now r.event) (rest r.world)

-- of one node's steps
pub all_own : (m : Opening) (n : ℕ) (steps : List Step) (w : WorldView) → AreOwn n steps → All (λ (t : Taken). node_of t.step ≡ n) (taken_of m w steps)
all_own m n [] w are = All-nil (λ (t : Taken). node_of t.step ≡ n)
all_own m n (step ∷ steps) w (is, are) = go (λ v. all_own m n steps v are) (took m w step)
  where
    go : ((v : WorldView) → All (λ (t : Taken). node_of t.step ≡ n) (taken_of m v steps)) → (o : Option Took) → All (λ (t : Taken). node_of t.step ≡ n) (before_taken step o (taken_of m (world_after w o) steps))
    go rest None = rest w
    go rest (Some r) = All-cons (λ (t : Taken). node_of t.step ≡ n) (record { step = step; answer = answer_of r.event }) (taken_of m r.world steps) is (rest r.world)
