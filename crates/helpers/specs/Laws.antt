-- What a caller may take from the helpers' answers.
use Rattle.std.specs.Prelude.{◌≡◌, ℕ, ◌+◌, ◌<◌, ◌≤◌, ◌^◌, neg_ℤ, pos, List, length, Some, None, slice_get}
use Rattle.std.specs.Int.{w64, cast_signed}
use Rattle.maps.specs.declared.shapes.Shape.{Shape}
use Rattle.maps.specs.Shapes.{key_size}
use Rattle.maps.specs.Maps.{Maps, MapState, AreBytes, IsValueOf, HasShapes, value_at}
use Rattle.maps.specs.Values.{MachineValue, Num, IsMachineValue}
use Rattle.helpers.specs.Helpers.{negative_errno, found, HelperCall, LookupCall, UpdateCall, DeleteCall, HelperAnswers}

-- an error is answered by 2^64 less its number, which as a signed number is its negative
abbrev pub ErrorsAreNegative : Type 0
ErrorsAreNegative = (n : ℕ) → 0 < n → n ≤ 2 ^ 63 → (negative_errno n + n ≡ 2 ^ 64) × (cast_signed w64 (negative_errno n) ≡ neg_ℤ (pos n))

-- a lookup answers by the value that is there
abbrev pub LookupsSee : Type 0
LookupsSee = (maps maps' : Maps) (m : ℕ) (key : List ℕ) (r : MachineValue) → HelperAnswers (LookupCall m key) maps r maps' → r ≡ found m key (value_at maps m key)

-- after an update that is answered by 0 the value stands under the key
abbrev pub UpdatesStand : Type 0
UpdatesStand =
    (maps maps' : Maps) (m : ℕ) (key value : List ℕ) (flags : ℕ) → HelperAnswers (UpdateCall m key value flags) maps (Num 0) maps' → value_at maps' m key ≡ Some value

-- after a delete that is answered by 0 the key is gone
abbrev pub DeletesRemove : Type 0
DeletesRemove = (maps maps' : Maps) (m : ℕ) (key : List ℕ) → HelperAnswers (DeleteCall m key) maps (Num 0) maps' → value_at maps' m key ≡ None

-- only an update or a delete that is answered by 0 changes the maps
abbrev pub Changes : HelperCall → MachineValue → Type 0
Changes (LookupCall m key) r = ⊥
Changes (UpdateCall m key value flags) r = r ≡ Num 0
Changes (DeleteCall m key) r = r ≡ Num 0

-- every other answer leaves the maps as they are
abbrev pub RefusalsChangeNothing : Type 0
RefusalsChangeNothing = (call : HelperCall) (maps maps' : Maps) (r : MachineValue) → HelperAnswers call maps r maps' → ¬ Changes call r → maps' ≡ maps

-- the map and the key that the call names
abbrev pub Names : HelperCall → ℕ → List ℕ → Type 0
Names (LookupCall m key) n k = (n ≡ m) × (k ≡ key)
Names (UpdateCall m key value flags) n k = (n ≡ m) × (k ≡ key)
Names (DeleteCall m key) n k = (n ≡ m) × (k ≡ key)

-- every other key of every map keeps its value
abbrev pub OthersStay : Type 0
OthersStay =
    (call : HelperCall) (maps maps' : Maps) (r : MachineValue) (m : ℕ) (key : List ℕ) → HelperAnswers call maps r maps' → ¬ Names call m key → value_at maps' m key ≡ value_at maps m key

-- the call's bytes are bytes, and as many as its map has in a key and in a value
abbrev pub FitsShape : HelperCall → Shape → Type 0
FitsShape (LookupCall m key) shape = (length key ≡ key_size shape) × AreBytes key
FitsShape (UpdateCall m key value flags) shape = (length key ≡ key_size shape) × AreBytes key × IsValueOf shape value
FitsShape (DeleteCall m key) shape = (length key ≡ key_size shape) × AreBytes key

-- the map that the call names
abbrev pub number_of : HelperCall → ℕ
number_of (LookupCall m key) = m
number_of (UpdateCall m key value flags) = m
number_of (DeleteCall m key) = m

-- the call fits the shape of the map that it names
abbrev pub FitsMaps : HelperCall → Maps → Type 0
FitsMaps call maps = (s : MapState) → slice_get maps (number_of call) ≡ Some s → FitsShape call s.shape

-- the maps keep their shapes, with all that a map of a shape has; the result is a value of a register
abbrev pub AnswersKeepShapes : Type 0
AnswersKeepShapes =
    (shapes : List Shape) (call : HelperCall) (maps maps' : Maps) (r : MachineValue)
    → HasShapes shapes maps → FitsMaps call maps → HelperAnswers call maps r maps' → HasShapes shapes maps' × IsMachineValue r
