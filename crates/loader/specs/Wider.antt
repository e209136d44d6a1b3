-- What wider limits leave as it was.
use Rattle.std.specs.Prelude.{◌≡◌, ◌≤◌, ℕ, List, Ok}
use Rattle.maps.specs.declared.shapes.MapLimits.{MapLimits}
use Rattle.maps.specs.Shapes.{AreLimits}
use Rattle.loader.specs.CatalogueView.{CatalogueView}
use Rattle.loader.specs.ProgramFiles.{Files}
use Rattle.loader.specs.Loading.{loaded_within}

-- each of the limits `w` is at least that of `l`
pub record NoNarrower (l w : MapLimits) : Type 0 where
  pub key : l.key ≤ w.key
  pub value : l.value ≤ w.value
  pub entries : l.entries ≤ w.entries
  pub bytes : l.bytes ≤ w.bytes
  pub argument : l.argument ≤ w.argument

-- a manifest that is good by some limits says the same catalogue by wider ones
abbrev pub WiderLimitsKeepWhatIsGood : Type 0
WiderLimitsKeepWhatIsGood =
    (l w : MapLimits) (text : List ℕ) (files : Files) (c : CatalogueView) → AreLimits l → AreLimits w → NoNarrower l w → loaded_within l text files ≡ Ok c
    → loaded_within w text files ≡ Ok c
