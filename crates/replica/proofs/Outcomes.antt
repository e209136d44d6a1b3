-- What a run answers is the effect of its program.
use Rattle.std.proofs.Common.{◌≡◌, ℕ, ◌≤◌, true, false, List, length, Some, ap, ◌∙◌}
use Rattle.std.specs.Prelude.{if◌then◌else◌}
use Rattle.maps.specs.Maps.{Maps}
use Rattle.verifier.specs.declared.refusal.Mode.{Mode}
use Rattle.verifier.specs.Accepted.{Checked}
use Rattle.machine.specs.Runs.{Runs}
use Rattle.machine.specs.Effects.{effect, effect_of}
use Rattle.machine.proofs.Export.{runs_are}
use Rattle.replica.specs.StoreMeaning.{no_program, suits, run_in}

-- a program that suits has its effect
pub has_effect : (mode : Mode) (argument : List ℕ) (maps : Maps) (p : Checked) → suits mode argument p ≡ true → run_in mode argument maps (Some p) ≡ effect p.program maps argument
has_effect mode argument maps p suitable = ap (λ b. if b then effect p.program maps argument else Some (effect_of 0 no_program maps)) suitable

-- another one has none
pub has_none : (mode : Mode) (argument : List ℕ) (maps : Maps) (p : Checked) → suits mode argument p ≡ false → run_in mode argument maps (Some p) ≡ Some (effect_of 0 no_program maps)
has_none mode argument maps p other = ap (λ b. if b then effect p.program maps argument else Some (effect_of 0 no_program maps)) other

-- the effect, once the program was run
pub ran : (mode : Mode) (argument : List ℕ) (maps left : Maps) (p : Checked) (n r : ℕ) → suits mode argument p ≡ true → Runs p.program maps argument n r left → n ≤ length p.program
    → run_in mode argument maps (Some p) ≡ Some (effect_of n r left)
ran mode argument maps left p n r suitable run few = has_effect mode argument maps p suitable ∙ runs_are p.program maps left argument n r run few
