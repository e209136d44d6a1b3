-- Line by line: the catalogue so far, and the first bad line.
use Rattle.std.specs.Prelude.{ℕ, Bool, ◌&&◌, ◌||◌, List, [], ◌∷◌, ◌++◌, length, Option, Some, None, Result, Ok, Err, nat_lt, nat_le, ◌==◌, if◌then◌else◌, sum_by, bytes_eq}
use Rattle.std.specs.List.{list_any}
use Rattle.maps.specs.declared.shapes.Shape.{Shape}
use Rattle.maps.specs.declared.shapes.TheConstants.{MAX_MAPS}
use Rattle.maps.specs.declared.shapes.MapLimits.{MapLimits}
use Rattle.maps.specs.Shapes.{room_of, standard}
use Rattle.loader.specs.declared.refusals.LoadFault.{LoadFault}
use Rattle.loader.specs.declared.refusals.LoadFault.TheVariants as faults
use Rattle.loader.specs.declared.refusals.LoadRefusal.{LoadRefusal}
use Rattle.loader.specs.declared.loading.TheConstants.{MAX_PROGRAMS}
use Rattle.text.specs.Lines.{lines_of, next_line}
use Rattle.loader.specs.Grammar.{ProgramLine, Meaning, Comment, Map, Program, line_meaning}
use Rattle.loader.specs.CatalogueView.{Entry, CatalogueView, names_of}
use Rattle.loader.specs.ProgramFiles.{◌>>=◌, Files, entry_for}

-- at most 16 maps, of at most so many bytes together as the limits say
abbrev pub are_few : MapLimits → List Shape → Bool
are_few l shapes = nat_le (length shapes) MAX_MAPS && nat_le (sum_by room_of shapes) l.bytes

-- with one more map: C1 behind a program, C5 where the maps are then too many or too large
unfoldable pub with_map : MapLimits → CatalogueView → Shape → Result CatalogueView LoadFault
with_map l so_far shape =
    if nat_lt 0 (length so_far.programs) then Err faults.BadLine
    else if are_few l (so_far.shapes ++ shape ∷ []) then Ok (record so_far { shapes = so_far.shapes ++ shape ∷ [] })
    else Err faults.TooMany

abbrev pub is_taken : List Entry → List ℕ → Bool
is_taken entries name = list_any (λ n. bytes_eq n name) (names_of entries)

-- C5 at a 257th program
unfoldable pub with_entry : CatalogueView → Entry → Result CatalogueView LoadFault
with_entry so_far entry =
    if nat_lt (length so_far.programs) MAX_PROGRAMS
    then Ok (record so_far { programs = so_far.programs ++ entry ∷ [] })
    else Err faults.TooMany

-- with one more program: C1 before any map or where its name is taken
unfoldable pub with_program : Files → CatalogueView → ProgramLine → Result CatalogueView LoadFault
with_program files so_far line =
    if length so_far.shapes == 0 || is_taken so_far.programs line.name then Err faults.BadLine
    else entry_for files so_far.shapes line >>= with_entry so_far

abbrev pub after_meaning : MapLimits → Files → CatalogueView → Option Meaning → Result CatalogueView LoadFault
after_meaning l files so_far None = Err faults.BadLine
after_meaning l files so_far (Some Comment) = Ok so_far
after_meaning l files so_far (Some (Map shape)) = with_map l so_far shape
after_meaning l files so_far (Some (Program line)) = with_program files so_far line

-- the catalogue with one more line, or what is wrong with that line: of several faults the lowest number
unfoldable pub after_line : MapLimits → Files → CatalogueView → List ℕ → Result CatalogueView LoadFault
after_line l files so_far line = after_meaning l files so_far (line_meaning l line)

abbrev pub Outcome : Type 0
Outcome = Result CatalogueView LoadRefusal

abbrev pub either : {Y : Type 0} → (LoadFault → Y) → (CatalogueView → Y) → Result CatalogueView LoadFault → Y
either bad good (Ok so_far) = good so_far
either bad good (Err why) = bad why

-- a text without a map is bad at the line after its last
abbrev pub at_the_end : ℕ → CatalogueView → Outcome
at_the_end n so_far = if length so_far.shapes == 0 then Err (record { line = n; why = faults.BadLine }) else Ok so_far

-- the catalogue that the lines from number n on leave, or the first bad line
unfoldable pub after_lines : MapLimits → Files → ℕ → CatalogueView → List (List ℕ) → Outcome
after_lines l files n so_far [] = at_the_end n so_far
after_lines l files n so_far (line ∷ ls) =
    either (λ why. Err (record { line = n; why = why })) (λ after. after_lines l files (next_line n) after ls) (after_line l files so_far line)

abbrev pub nothing_yet : CatalogueView
nothing_yet = record { shapes = []; programs = []; places = 0; long = 0; opening = None }

-- the catalogue that a manifest says by these limits
unfoldable pub loaded_within : MapLimits → List ℕ → Files → Outcome
loaded_within l text files = after_lines l files 1 nothing_yet (lines_of text)

-- the same by the standard limits
abbrev pub loaded : List ℕ → Files → Outcome
loaded text files = loaded_within standard text files
