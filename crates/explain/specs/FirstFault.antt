-- What is told of the line that the loader refuses.
use Rattle.std.specs.Prelude.{◌≡◌, ℕ, List, ◌++◌, codes, Some, None, Err, MatchResult, is_err}
use Rattle.maps.specs.declared.shapes.Shape.{Shape}
use Rattle.maps.specs.declared.shapes.MapLimits.{MapLimits}
use Rattle.verifier.specs.declared.refusal.Refused.{Refused}
use Rattle.loader.specs.declared.refusals.LoadFault.{LoadFault}
use Rattle.loader.specs.declared.refusals.LoadFault.TheVariants.{Verify}
use Rattle.loader.specs.declared.refusals.LoadRefusal.{LoadRefusal}
use Rattle.loader.specs.Grammar.{ProgramLine}
use Rattle.loader.specs.ProgramFiles.{Files}
use Rattle.loader.specs.CatalogueView.{CatalogueView, Entry, names_of}
use Rattle.loader.specs.Loading.{is_taken, loaded_within, with_entry, with_map}
use Rattle.loader.specs.Refusal.{fault_number}
use Rattle.explain.specs.Listing.{head_text, refusal_text}
use Rattle.explain.specs.Manifest.{Above, has_name, is_full, map_fault, refused_by, TellsOfAll}
use Rattle.explain.specs.Told.{BeginsWith}

-- of a program that is not accepted: which one it is, its listing, and by which rule it is refused at which slot
pub record TellsVerdict (n : ℕ) (e : Refused) (text : List ℕ) : Type 0 where
  pub program : ProgramLine
  pub listing : List ℕ
  pub more : List ℕ
  pub whole : text ≡ codes "\n" ++ (head_text n program ++ (listing ++ (refusal_text e ++ more)))

-- the line's number and the rule come first
abbrev pub TellsRefusal : ℕ → LoadFault → List ℕ → Type 0
TellsRefusal n (Verify e) text = TellsVerdict n e text
TellsRefusal n why text = BeginsWith (refused_by n (fault_number why)) text

-- a text that tells of it ends this one
abbrev pub HasRefusal : ℕ → LoadFault → List ℕ → Type 0
HasRefusal n why text = (before : List ℕ) × (told : List ℕ) × (text ≡ before ++ told) × TellsRefusal n why told

-- where the loader refuses a manifest by these limits, what is told of all its lines has this refusal
abbrev pub RefusalIsTold : Type 0
RefusalIsTold =
    (limits : MapLimits) (files : Files) (manifest text : List ℕ) (e : LoadRefusal)
    → loaded_within limits manifest files ≡ Err e → TellsOfAll limits files None manifest text
    → HasRefusal e.line e.why text

-- ---- the loader's own rules

-- the loader has read maps and programs to this catalogue, which are those above
pub record HasRead (c : CatalogueView) (a : Above) : Type 0 where
  pub shapes : c.shapes ≡ a.shapes
  pub names : names_of c.programs ≡ a.names

-- it finds the same fault in a map, takes the same names, and has room for one more program if there is room
pub record SharesRules (limits : MapLimits) (c : CatalogueView) (a : Above) : Type 0 where
  pub map : (shape : Shape)
      → MatchResult (with_map limits c shape) (λ _. map_fault limits a shape ≡ None) (λ why. map_fault limits a shape ≡ Some why)
  pub name : (name : List ℕ) → is_taken c.programs name ≡ has_name a name
  pub room : (entry : Entry) → is_err (with_entry c entry) ≡ is_full a

-- the rules by which a line is told are those of the loader
abbrev pub RulesAreShared : Type 0
RulesAreShared = (limits : MapLimits) (a : Above) (c : CatalogueView) → HasRead c a → SharesRules limits c a
