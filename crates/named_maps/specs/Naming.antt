-- Sets of maps, the maps that a program names, and the first that it names outside of a set.
use Rattle.std.specs.Prelude.{◌≡◌, ◌↔◌, ℕ, ◌&&◌, Bool, false, not, pos, nat_eq, nat_lt, List, Option, None, Some, option_map, position}
use Rattle.std.specs.Int.{bit_at}
use Rattle.std.specs.List.{list_any}
use Rattle.insn.specs.declared.instruction.Form.{Form}
use Rattle.insn.specs.declared.instruction.Form.TheVariants.{MapRef}
use Rattle.maps.specs.declared.shapes.TheConstants.{MAX_MAPS}
use Rattle.maps.specs.Maps.{Maps}
use Rattle.verifier.specs.Accepted.{slot_of}
use Rattle.machine.specs.Effects.{Effect, effect}
use Rattle.machine.specs.Isolation.{NamesMap, AgreeIn}

-- map m is one of these: bit m of the number is set
abbrev pub IsIn : ℕ → ℕ → Type 0
IsIn maps m = bit_at maps m ≡ 1

-- each map that the program names is one of these
abbrev pub NamesOnly : ℕ → List Form → Type 0
NamesOnly maps p = (m : ℕ) → NamesMap p m → IsIn maps m

-- ---- as tests

-- the map to which an instruction loads a reference, if it loads one
abbrev pub map_named : Form → Option ℕ
map_named (MapRef dst (pos m)) = Some m
map_named i = None

-- it loads a reference to a map that is none of these
abbrev pub outside_of : ℕ → Option ℕ → Bool
outside_of maps None = false
outside_of maps (Some m) = not (nat_eq (bit_at maps m) 1)

abbrev pub is_outside : ℕ → Form → Bool
is_outside maps i = outside_of maps (map_named i)

-- the slot of the first such instruction
abbrev pub first_outside : ℕ → List Form → Option ℕ
first_outside maps p = option_map (slot_of p) (position (is_outside maps) p)

-- there is none just where the program names no other map
abbrev pub NamingIsTested : Type 0
NamingIsTested = (maps : ℕ) (p : List Form) → (first_outside maps p ≡ None) ↔ NamesOnly maps p

-- ---- what such a program does

-- it leaves each other map as it was
abbrev pub OthersStay : Type 0
OthersStay =
    (allowed : ℕ) (p : List Form) (maps : Maps) (argument : List ℕ) (e : Effect) → NamesOnly allowed p → effect p maps argument ≡ Some e
    → AgreeIn (λ m. ¬ IsIn allowed m) e.maps maps

-- on other maps which agree in these it does the same: as many steps, the same reply, and what it leaves agrees in these
abbrev pub OthersAreUnseen : Type 0
OthersAreUnseen =
    (allowed : ℕ) (p : List Form) (maps maps' : Maps) (argument : List ℕ) (e : Effect) → NamesOnly allowed p → AgreeIn (IsIn allowed) maps maps'
    → effect p maps argument ≡ Some e
    → (e' : Effect) × (effect p maps' argument ≡ Some e') × (e'.steps ≡ e.steps) × (e'.reply ≡ e.reply) × AgreeIn (IsIn allowed) e.maps e'.maps

-- ---- clauses of private functions alone cite what follows

-- the instruction loads a reference to map m, which is one of the first 16
abbrev pub is_low : ℕ → Option ℕ → Bool
is_low m None = false
is_low m (Some k) = nat_eq k m && nat_lt m MAX_MAPS

abbrev pub names_here : ℕ → Form → Bool
names_here m i = is_low m (map_named i)

-- one of the instructions does
abbrev pub names : ℕ → List Form → Bool
names m p = list_any (names_here m) p
