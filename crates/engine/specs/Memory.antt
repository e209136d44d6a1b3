-- Texts and files in memory.
use Rattle.std.specs.Prelude.{ℕ, List, [], ◌∷◌, Option, Some, None, bytes_eq, if◌then◌else◌}
use Rattle.std.specs.Borrow.{Bor}
use Rattle.engine.specs.declared.in_memory.Held.{Held}
use Rattle.engine.specs.declared.in_memory.HeldFiles.{HeldFiles}
use Rattle.engine.specs.declared.reading.Inputs.{Inputs}
use Rattle.engine.specs.Files.{Contents}
use Rattle.engine.specs.Reading.{Given}

-- the first file of this name
abbrev pub found_file : List (Bor (List ℕ) × Bor (List ℕ)) → Contents
found_file [] name = None
found_file (f ∷ fs) name = if bytes_eq f.0.now name then Some f.1.now else found_file fs name

-- the bytes of a text; one that is absent is empty
abbrev pub held_text : Option Held → List ℕ
held_text None = []
held_text (Some h) = h.0.now

-- what texts and files in memory give
abbrev pub held : Inputs HeldFiles Held → Given
held i = record { sizes = i.sizes; manifest = held_text i.manifest; folder = found_file i.folder.now.0.now; file = held_text i.file; state = held_text i.state; history = held_text i.history }
