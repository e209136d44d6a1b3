-- The loop over the lines: one line on, a bad line, and the end.
use Rattle.std.proofs.Common.{◌≡◌, ℕ, List, [], ◌∷◌, Option, Ok, Err, refl, sym, ◌∙◌}
use Rattle.loader.specs.StoreState.{StateSizes}
use Rattle.text.specs.Lines.{next_line}
use Rattle.dumps.specs.declared.refusals.LineError.{LineError}
use Rattle.dumps.specs.declared.refusals.LineError.TheVariants as steps
use Rattle.dumps.specs.Loading.{Loading, Outcome, after_ended, after_lines}
use Rattle.dumps.specs.Refusal.{Fails, LoadFails, at_line}

pub one_on : (z : StateSizes) (n m : ℕ) (v after : Loading) (lines rest : List (Option (List ℕ))) (line : Option (List ℕ)) → lines ≡ line ∷ rest → m ≡ next_line n → after_ended z v line ≡ Ok after
    → after_lines z n v lines ≡ after_lines z m after rest
unfolding after_lines
one_on z n m v after lines rest line first next taken = rw (first, taken, next) refl

pub fails_here : (why : LineError) (z : StateSizes) (n : ℕ) (v : Loading) (lines rest : List (Option (List ℕ))) (line : Option (List ℕ)) (total : Outcome) → lines ≡ line ∷ rest
    → Fails why (after_ended z v line) → after_lines z n v lines ≡ total → LoadFails (at_line n why) total
unfolding after_lines
fails_here steps.NoMemory z n v lines rest line total first taken so_far = tt
fails_here (steps.Refused why) z n v lines rest line total first taken so_far =
    let bad : after_lines z n v lines ≡ Err (record { line = n; why = why }) = rw (first, taken) refl in
    sym so_far ∙ bad

pub at_end : (z : StateSizes) (n : ℕ) (v : Loading) (lines : List (Option (List ℕ))) (total : Outcome) → lines ≡ [] → after_lines z n v lines ≡ total → total ≡ Ok v.state
unfolding after_lines
at_end z n v lines total empty so_far = sym so_far ∙ rw empty refl
