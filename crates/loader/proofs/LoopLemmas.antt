-- The loop over the lines: one line on, a bad line, and the end.
use Rattle.maps.specs.declared.shapes.MapLimits.{MapLimits}
use Rattle.std.proofs.Common.{◌≡◌, ℕ, false, eqb, List, [], ◌∷◌, length, Ok, Err, refl, sym, ◌∙◌}
use Rattle.loader.specs.declared.refusals.LoadFault.TheVariants as faults
use Rattle.loader.specs.declared.refusals.LineError.{LineError}
use Rattle.loader.specs.declared.refusals.LineError.TheVariants as steps
use Rattle.text.specs.Lines.{next_line}
use Rattle.loader.specs.CatalogueView.{CatalogueView}
use Rattle.loader.specs.ProgramFiles.{Files}
use Rattle.loader.specs.Loading.{Outcome, after_line, after_lines}
use Rattle.loader.specs.Refusal.{Fails, LoadFails, at_line}

pub one_on : (lim : MapLimits) (fs : Files) (n m : ℕ) (v after : CatalogueView) (lines : List (List ℕ)) (line : List ℕ) (rest : List (List ℕ)) → lines ≡ line ∷ rest → m ≡ next_line n → after_line lim fs v line ≡ Ok after
    → after_lines lim fs n v lines ≡ after_lines lim fs m after rest
unfolding after_lines
one_on lim fs n m v after lines line rest first next taken = rw (first, taken, next) refl

pub fails_here : (why : LineError) (lim : MapLimits) (fs : Files) (n : ℕ) (v : CatalogueView) (lines : List (List ℕ)) (line : List ℕ) (rest : List (List ℕ)) (total : Outcome) → lines ≡ line ∷ rest
    → Fails why (after_line lim fs v line) → after_lines lim fs n v lines ≡ total → LoadFails (at_line n why) total
unfolding after_lines
fails_here steps.NoMemory lim fs n v lines line rest total first taken so_far = tt
fails_here (steps.Refused why) lim fs n v lines line rest total first taken so_far =
    let bad : after_lines lim fs n v lines ≡ Err (record { line = n; why = why }) = rw (first, taken) refl in
    sym so_far ∙ bad

pub no_map : (lim : MapLimits) (fs : Files) (n : ℕ) (v : CatalogueView) (lines : List (List ℕ)) (total : Outcome) → lines ≡ [] → length v.shapes ≡ 0 → after_lines lim fs n v lines ≡ total → total ≡ Err (record { line = n; why = faults.BadLine })
unfolding after_lines
no_map lim fs n v lines total empty none so_far = sym so_far ∙ rw (empty, none) refl

pub is_done : (lim : MapLimits) (fs : Files) (n : ℕ) (v : CatalogueView) (lines : List (List ℕ)) (total : Outcome) → lines ≡ [] → eqb (length v.shapes) 0 ≡ false → after_lines lim fs n v lines ≡ total → total ≡ Ok v
unfolding after_lines
is_done lim fs n v lines total empty some so_far = sym so_far ∙ rw (empty, some) refl
