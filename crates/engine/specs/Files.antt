-- The files that a command finds by their names.
use Rattle.std.specs.Prelude.{ℕ, List, Option, option_map}
use Rattle.std.specs.List.{filter_map}
use Rattle.loader.specs.ProgramFiles.{Files}

-- the bytes of a file by its name; `None` where it cannot be opened
abbrev pub Contents : Type 0
Contents = List ℕ → Option (List ℕ)

-- the files of these names that are there
abbrev pub present : Contents → List (List ℕ) → Files
present folder names = filter_map (λ name. option_map (λ bytes. (name, bytes)) (folder name)) names
