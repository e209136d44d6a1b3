-- What is drawn of a manifest, by limits of maps: which programs, and between which words. What is in a program's cluster isn't defined.
use Rattle.std.specs.Prelude.{◌≡◌, ℕ, List, [], ◌∷◌, ◌++◌, codes, decimal, Option, Some, None, MatchResult, if◌then◌else◌}
use Rattle.std.specs.List.{concat}
use Rattle.text.specs.Lines.{lines_of, next_line}
use Rattle.maps.specs.declared.shapes.MapLimits.{MapLimits}
use Rattle.loader.specs.Grammar.{ProgramLine, Meaning, Program, line_meaning}
use Rattle.loader.specs.ProgramFiles.{Files}
use Rattle.explain.specs.Manifest.{is_asked, program_in}

-- the program of a line, if it is asked for
abbrev pub asked_program : Option (List ℕ) → Option Meaning → Option ProgramLine
asked_program name (Some (Program p)) = if is_asked name (Some (Program p)) then Some p else None
asked_program name meaning = None

-- subgraph "cluster_NAME" { label="NAME"; and what is in it
abbrev pub IsCluster : List ℕ → List ℕ → Type 0
IsCluster name text =
    (inside : List ℕ) × (text ≡ concat (codes "  subgraph \"cluster_" ∷ name ∷ codes "\" {\n    label=\"" ∷ name ∷ codes "\";\n" ∷ inside ∷ codes "  }\n" ∷ []))

-- // line N: NAME has no instructions to draw
abbrev pub no_cluster : ℕ → List ℕ → List ℕ
no_cluster n name = concat (codes "  // line " ∷ decimal n ∷ codes ": " ∷ name ∷ codes " has no instructions to draw\n" ∷ [])

-- of a program its cluster, or that its file spells no program
abbrev pub DrawsProgram : Files → ℕ → ProgramLine → List ℕ → Type 0
DrawsProgram files n p text = MatchResult (program_in files p.file) (λ _. IsCluster p.name text) (λ _. text ≡ no_cluster n p.name)

-- nothing of a line without a program that is asked for
abbrev pub DrawsLine : Files → ℕ → Option ProgramLine → List ℕ → Type 0
DrawsLine files n None text = text ≡ []
DrawsLine files n (Some p) text = DrawsProgram files n p text

-- of one line after another, from line n on
abbrev pub DrawsLines : MapLimits → Files → Option (List ℕ) → ℕ → List (List ℕ) → List ℕ → Type 0
DrawsLines limits files name n [] text = text ≡ []
DrawsLines limits files name n (l ∷ ls) text =
    (drawn : List ℕ)
    × (rest : List ℕ)
    × (text ≡ drawn ++ rest)
    × DrawsLine files n (asked_program name (line_meaning limits l)) drawn
    × DrawsLines limits files name (next_line n) ls rest

-- digraph programs { node [..]; and what is drawn of all lines
abbrev pub DrawsManifest : MapLimits → Files → Option (List ℕ) → List ℕ → List ℕ → Type 0
DrawsManifest limits files name manifest text =
    (drawn : List ℕ)
    × (text ≡ concat (codes "digraph programs {\n  node [shape=box, fontname=\"monospace\"];\n" ∷ drawn ∷ codes "}\n" ∷ []))
    × DrawsLines limits files name 1 (lines_of manifest) drawn
