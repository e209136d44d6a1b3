-- What the calls say that ask a store what a map or a program is.
use Rattle.std.specs.Prelude.{ℕ, Option}
use Rattle.loader.specs.CatalogueView.{CatalogueView}
use Rattle.loader.specs.StoreState.{StoreState}
use Rattle.store_steps.specs.declared.describing.InfoRefused.{InfoRefused}
use Rattle.store_steps.specs.declared.describing.MapInfo.{MapInfo}
use Rattle.store_steps.specs.declared.describing.ProgramInfo.{ProgramInfo}
use Rattle.store_steps.specs.Describing.{DescribesMap, DescribesProgram, map_refusal, program_refusal}
use Rattle.store.specs.Sessions.{StoreView}

-- ---- a map

-- the refusal of a map's number
abbrev pub map_refused : StoreView → (map : ℕ) → Option InfoRefused
map_refused store map = map_refusal store.catalogue map

-- the answer says what the map of this number is there
abbrev pub IsMapAsTold : (map : ℕ) → MapInfo → CatalogueView → StoreState → Type 0
IsMapAsTold map info c state = DescribesMap c state map info

-- ---- a program

-- the refusal of a program's number
abbrev pub number_refused : StoreView → (k : ℕ) → Option InfoRefused
number_refused store k = program_refusal store.catalogue k

-- the answer says what the program of this number is there
abbrev pub IsProgramAsTold : (k : ℕ) → ProgramInfo → CatalogueView → StoreState → Type 0
IsProgramAsTold k info c state = DescribesProgram c state k info
