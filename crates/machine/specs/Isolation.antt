-- A program and the maps that it names: it changes no others, and no others change what it does.
use Rattle.std.specs.Prelude.{◌≡◌, ℕ, pos, List, slice_get, Contains}
use Rattle.insn.specs.declared.instruction.Form.{Form}
use Rattle.insn.specs.declared.instruction.Form.TheVariants.{MapRef}
use Rattle.maps.specs.Maps.{Maps}
use Rattle.machine.specs.Runs.{Runs}

-- one of its instructions loads a reference to map m (RFC 9669, section 5.4.1)
abbrev pub NamesMap : List Form → ℕ → Type 0
NamesMap p m = (dst : ℕ) × Contains p (MapRef dst (pos m))

-- each map of such a number is the same in both, or it is in neither
abbrev pub AgreeIn : (ℕ → Type 0) → Maps → Maps → Type 0
AgreeIn such maps maps' = (m : ℕ) → such m → slice_get maps m ≡ slice_get maps' m

-- a run leaves each map that the program doesn't name as it was
abbrev pub OtherMapsStay : Type 0
OtherMapsStay =
    (p : List Form) (maps left : Maps) (argument : List ℕ) (n r : ℕ) → Runs p maps argument n r left → AgreeIn (λ m. ¬ NamesMap p m) left maps

-- On maps that agree in those that it names, a program makes as many steps and replies the same. What it leaves agrees in them too.
abbrev pub OtherMapsAreUnseen : Type 0
OtherMapsAreUnseen =
    (p : List Form) (maps maps' left : Maps) (argument : List ℕ) (n r : ℕ) → AgreeIn (NamesMap p) maps maps' → Runs p maps argument n r left
    → (left' : Maps) × Runs p maps' argument n r left' × AgreeIn (NamesMap p) left left'
