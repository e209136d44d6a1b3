-- Examples of every row of the helpers' tables, and calls one after another on an array of 16 and a hash of one key.
use Rattle.std.specs.Prelude.{◌≡◌, ℕ, Bool, true, false, List, [], ◌∷◌, Option, Some, None}
use Rattle.std.specs.List.{AllByRecursion}
use Rattle.std.specs.FinMap as finite_map
use Rattle.maps.specs.declared.shapes.Shape.{Shape}
use Rattle.maps.specs.declared.shapes.Shape.TheVariants.{Array, Hash}
use Rattle.maps.specs.Maps.{Maps, Entries, IsMapState, index_key}
use Rattle.maps.specs.Values.{Num}
use Rattle.helpers.specs.Helpers.{update_error, delete_error, enoent, e2big, eexist, einval, UpdateCall, DeleteCall, HelperAnswers}

-- the shape, whether the key is present, the number of keys, the flags; the error
abbrev pub UpdateRow : Type 0
UpdateRow = Shape × Bool × ℕ × ℕ × Option ℕ

-- every row of the table of updates, on an array of 16 and on a hash of two keys
abbrev pub update_rows : List UpdateRow
update_rows =
    (Array 8 16, true, 16, 0, None)
    ∷ (Array 8 16, true, 16, 1, Some eexist)
    ∷ (Array 8 16, true, 16, 2, None)
    ∷ (Array 8 16, true, 16, 3, Some einval)
    ∷ (Array 8 16, false, 16, 0, Some e2big)
    ∷ (Array 8 16, false, 16, 1, Some e2big)
    ∷ (Array 8 16, false, 16, 2, Some e2big)
    ∷ (Array 8 16, false, 16, 3, Some einval)
    ∷ (Hash 4 8 2, false, 1, 0, None)
    ∷ (Hash 4 8 2, false, 1, 1, None)
    ∷ (Hash 4 8 2, false, 1, 2, Some enoent)
    ∷ (Hash 4 8 2, false, 1, 3, Some einval)
    ∷ (Hash 4 8 2, false, 2, 0, Some e2big)
    ∷ (Hash 4 8 2, false, 2, 1, Some e2big)
    ∷ (Hash 4 8 2, false, 2, 2, Some enoent)
    ∷ (Hash 4 8 2, true, 2, 0, None)
    ∷ (Hash 4 8 2, true, 2, 1, Some eexist)
    ∷ (Hash 4 8 2, true, 2, 2, None)
    ∷ (Hash 4 8 2, true, 2, 18446744073709551615, Some einval)
    ∷ []

-- the shape, whether the key is present; the error
abbrev pub DeleteRow : Type 0
DeleteRow = Shape × Bool × Option ℕ

-- every row of the table of deletes
abbrev pub delete_rows : List DeleteRow
delete_rows = (Array 8 16, true, Some einval) ∷ (Array 8 16, false, Some einval) ∷ (Hash 4 8 1, false, Some enoent) ∷ (Hash 4 8 1, true, None) ∷ []

-- each row has its error
pub record TablesHold : Type 0 where
  pub updates : AllByRecursion (λ (r : UpdateRow). update_error r.0 r.1 r.2 r.3 ≡ r.4) update_rows
  pub deletes : AllByRecursion (λ (r : DeleteRow). delete_error r.0 r.1 ≡ r.2) delete_rows

-- ---- one call after another

-- map 0 is an array of 16 values, map 1 a hash of one key
abbrev pub both : Entries → Entries → Maps
both array hash = record { shape = Array 8 16; entries = array } ∷ record { shape = Hash 4 8 1; entries = hash } ∷ []

-- a key
abbrev pub a : List ℕ
a = 1 ∷ 0 ∷ 0 ∷ 0 ∷ []

-- another key
abbrev pub b : List ℕ
b = 2 ∷ 0 ∷ 0 ∷ 0 ∷ []

-- a value
abbrev pub zeros : List ℕ
zeros = 0 ∷ 0 ∷ 0 ∷ 0 ∷ 0 ∷ 0 ∷ 0 ∷ 0 ∷ []

-- on the hash: a is put in, b finds it full, a may not be put in as new, b isn't there to be deleted, no flags 3, a is deleted.
-- On the array: no key may be deleted, index 16 is past its end, and index 0 is there
pub record CallsAnswer (array : Entries) : Type 0 where
  pub put : HelperAnswers (UpdateCall 1 a zeros 0) (both array finite_map.empty) (Num 0) (both array (finite_map.insert finite_map.empty a zeros))
  pub full : HelperAnswers (UpdateCall 1 b zeros 0) (both array (finite_map.insert finite_map.empty a zeros)) (Num 18446744073709551609) (both array (finite_map.insert finite_map.empty a zeros))
  pub present : HelperAnswers (UpdateCall 1 a zeros 1) (both array (finite_map.insert finite_map.empty a zeros)) (Num 18446744073709551599) (both array (finite_map.insert finite_map.empty a zeros))
  pub absent : HelperAnswers (DeleteCall 1 b) (both array (finite_map.insert finite_map.empty a zeros)) (Num 18446744073709551614) (both array (finite_map.insert finite_map.empty a zeros))
  pub flags : HelperAnswers (UpdateCall 1 a zeros 3) (both array (finite_map.insert finite_map.empty a zeros)) (Num 18446744073709551594) (both array (finite_map.insert finite_map.empty a zeros))
  pub gone : HelperAnswers (DeleteCall 1 a) (both array (finite_map.insert finite_map.empty a zeros)) (Num 0) (both array (finite_map.remove (finite_map.insert finite_map.empty a zeros) a))
  pub kept : HelperAnswers (DeleteCall 0 a) (both array finite_map.empty) (Num 18446744073709551594) (both array finite_map.empty)
  pub past : HelperAnswers (UpdateCall 0 (index_key 16) zeros 0) (both array finite_map.empty) (Num 18446744073709551609) (both array finite_map.empty)
  pub there : HelperAnswers (UpdateCall 0 (index_key 0) zeros 2) (both array finite_map.empty) (Num 0) (both (finite_map.insert array (index_key 0) zeros) finite_map.empty)

-- whatever the array has
abbrev pub CallsAnswerSo : Type 0
CallsAnswerSo = (array : Entries) → IsMapState (record { shape = Array 8 16; entries = array }) → CallsAnswer array
