-- What the counter's programs do, by computing: what the map answers under the key is put in where it is asked.
use Rattle.std.proofs.Common.{◌≡◌, ℕ, List, [], ◌∷◌, codes, Some, None, refl}
use Rattle.std.specs.FinMap as finite_map
use Rattle.maps.specs.declared.shapes.Shape.TheVariants.{Array}
use Rattle.maps.specs.Maps.{Entries}
use Rattle.verifier.specs.declared.refusal.Mode.TheVariants.{Update, Read}
use Rattle.verifier.specs.Accepted.{checked}
use Rattle.helpers.proofs.Export.{inserted}
use Rattle.machine.specs.Effects.{effect, effect_of}
use Rattle.machine.specs.MapExamples.{bump, peek, with_values}
use Rattle.loader.specs.CatalogueView.{CatalogueView, with_places}
use Rattle.running.specs.declared.single_node.TheConstants.{RUN_PLACES}

-- the catalogue: its programs are those of the machine's examples
abbrev pub counter : CatalogueView
counter = record {
  shapes = Array 8 16 ∷ [];
  programs = record { name = codes "bump"; checked = checked bump (Array 8 16 ∷ []) 4 Update }
      ∷ record { name = codes "peek"; checked = checked peek (Array 8 16 ∷ []) 4 Read } ∷ [];
  places = 0;
  long = 0;
  opening = None;
}

-- as a run has it
abbrev pub running : CatalogueView
running = with_places counter RUN_PLACES

-- the key of counter 0, and one that no counter has
abbrev pub first : List ℕ
first = 0 ∷ 0 ∷ 0 ∷ 0 ∷ []

abbrev pub absent : List ℕ
absent = 16 ∷ 0 ∷ 0 ∷ 0 ∷ []

-- a number below 256 as a value
abbrev pub value : ℕ → List ℕ
value n = n ∷ 0 ∷ 0 ∷ 0 ∷ 0 ∷ 0 ∷ 0 ∷ 0 ∷ []

abbrev pub put : Entries → ℕ → Entries
put entries n = finite_map.insert entries first (value n)

-- counter 0 is this number, once its eight bytes are stored one after another
abbrev pub counted : Entries → ℕ → Entries
counted entries n = put (put (put (put (put (put (put (put entries n) n) n) n) n) n) n) n

pub one : (entries : Entries) → finite_map.get entries first ≡ Some (value 0)
    → effect bump (with_values entries) first ≡ Some (effect_of 9 1 (with_values (counted entries 1)))
unfolding effect
one entries h = simp (h, inserted) refl

pub two : (entries : Entries) → finite_map.get entries first ≡ Some (value 1)
    → effect bump (with_values entries) first ≡ Some (effect_of 9 2 (with_values (counted entries 2)))
unfolding effect
two entries h = simp (h, inserted) refl

pub read_two : (entries : Entries) → finite_map.get entries first ≡ Some (value 2)
    → effect peek (with_values entries) first ≡ Some (effect_of 6 2 (with_values entries))
unfolding effect
read_two entries h = simp h refl

pub none_there : (entries : Entries) → finite_map.get entries absent ≡ None
    → effect bump (with_values entries) absent ≡ Some (effect_of 6 18446744073709551615 (with_values entries))
unfolding effect
none_there entries h = simp h refl
