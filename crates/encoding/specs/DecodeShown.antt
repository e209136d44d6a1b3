-- The steps of reading a layout and of writing a state's values. Clauses of private functions alone cite this, but for `Fails`.
use Rattle.std.specs.Prelude.{◌≡◌, ℕ, Bool, true, false, List, ◌++◌, map, Option, Some, None, Result, Err}
use Rattle.std.specs.List.{flat_map}
use Rattle.encoding.specs.declared.layouts.MapLayout.{MapLayout}
use Rattle.encoding.specs.declared.decoding.Entry.{Entry}
use Rattle.encoding.specs.declared.decode_faults.DecodeRefusal.{DecodeRefusal}
use Rattle.encoding.specs.declared.decode_faults.DecodeError.{DecodeError}
use Rattle.encoding.specs.declared.decode_faults.DecodeError.TheVariants.{NoMemory, Refused}
use Rattle.encoding.specs.Layouts.{MapParts}
use Rattle.encoding.specs.Decoded.{spaced}

-- memory ran out, or this reading refuses so
abbrev pub Fails : {Y : Type 0} → DecodeError → Result Y DecodeRefusal → Type 0
Fails NoMemory read = Unit {0}
Fails (Refused e) read = read ≡ Err e

-- ---- layouts by code

abbrev pub shown_layout : MapLayout → MapParts
shown_layout l = (l.map, l.parts.items)

abbrev pub shown_layouts : List MapLayout → List MapParts
shown_layouts ls = map shown_layout ls

-- the layouts became these, where the line is good
abbrev pub Becomes : {A : Type 0} → Option A → Bool → A → Type 0
Becomes None good new = good ≡ false
Becomes (Some wanted) good new = (good ≡ true) × (new ≡ wanted)

-- ---- lines

abbrev pub shown_entry : Entry → ℕ × List ℕ
shown_entry e = (e.map, e.bytes.items)

-- this text was added, if there is one
abbrev pub AddsLine : List ℕ → Option (List ℕ) → Bool → List ℕ → Type 0
AddsLine before None good after = good ≡ false
AddsLine before (Some text) good after = (good ≡ true) × (after ≡ before ++ text)

-- these values were added, each behind a space, if there are any
abbrev pub AddsValues : List ℕ → Option (List (List ℕ)) → Bool → List ℕ → Type 0
AddsValues before None good after = good ≡ false
AddsValues before (Some values) good after = (good ≡ true) × (after ≡ before ++ flat_map spaced values)
