-- What is wrong with a line, as it is computed, is its fault of the lowest number.
use Rattle.std.proofs.Common.{get_or, ◌≡◌, ◌≢◌, ℕ, zero, ◌+◌, ◌<◌, ◌≤◌, Bool, true, false, not, ◌&&◌, ◌||◌, List, [], ◌∷◌, length, Option, Some, None, Result, Ok, Err, refl, sym, ap, subst, inl, inr, ⊎_elim, ◌∙◌, arith}
use Rattle.std.specs.Prelude.{◌⊎◌, IfSome, IsNone, is_some, nat_lt, ◌==◌, if◌then◌else◌, slice_get}
use Rattle.std.specs.List.{AllByRecursion, list_all}
use Rattle.std.specs.FinMap as finite_map
use Rattle.std.proofs.lemmas.Bool.{and_parts, and_from, cases_lt, eqb-true, eq-eqb, ltb-true, lt-ltb}
use Rattle.std.proofs.lemmas.Option.{slice_get_cases, slice_get_past}
use Rattle.maps.specs.declared.shapes.Shape.{Shape}
use Rattle.maps.specs.declared.shapes.Shape.TheVariants.{Array, Hash}
use Rattle.maps.specs.Shapes.{IsHash, key_size, value_size, entry_count}
use Rattle.maps.specs.Maps.{AreBytes, AreMaps, IsKeyOf, IsMapState, MapState, Maps, shapes_of, value_at}
use Rattle.maps.specs.MapSets.{HasRoom}
use Rattle.verifier.specs.Accepted.{Checked}
use Rattle.loader.specs.declared.installed.InstallRefusal.{InstallRefusal}
use Rattle.loader.specs.Installed.{installed_program}
use Rattle.loader.specs.StoreState.{StoreState, StateSizes}
use Rattle.dumps.specs.declared.refusals.DumpFault.{DumpFault}
use Rattle.dumps.specs.declared.refusals.DumpFault.TheVariants as faults
use Rattle.dumps.specs.FirstBad.{HasFault, IsLowestFault, OfEntry, OfProgram, StandsBehind}
use Rattle.dumps.specs.Refusal.{fault_number}
use Rattle.dumps.specs.Grammar.{EntryLine, ProgramLine, Meaning, Entry, Program}
use Rattle.dumps.specs.Dumping.{entries_of}
use Rattle.dumps.specs.Loading.{Loading, is_hash, is_key_for, is_in_order, is_left_out, is_zero, has_room, entry_fault, is_behind, unless, with_entry, with_program, after_meaning, in_map, in_place}
use Rattle.dumps.proofs.Entries.{room_for}
use Rattle.dumps.proofs.Alike.{array_has}
use Rattle.dumps.proofs.Dumped.{IsRising, in_order}
use Rattle.dumps.proofs.Placing.{AllBefore}
use Rattle.maps.proofs.Export.{all_get}
use Rattle.helpers.proofs.Export.{value_there}

-- ---- numbers of faults

-- the fault of a number, but for a refused program
abbrev of_number : ℕ → DumpFault
of_number n =
    if n == 2 then faults.NoMap
    else if n == 3 then faults.BadKey
    else if n == 4 then faults.BadValue
    else if n == 5 then faults.OutOfOrder
    else if n == 6 then faults.ZeroValue
    else if n == 7 then faults.Full
    else if n == 9 then faults.TooManyPrograms
    else faults.BadLine

plain : (f : DumpFault) → (of_number (fault_number f) ≡ f) ⊎ ((why : InstallRefusal) × (f ≡ faults.Program why))
plain faults.BadLine = inl refl
plain faults.NoMap = inl refl
plain faults.BadKey = inl refl
plain faults.BadValue = inl refl
plain faults.OutOfOrder = inl refl
plain faults.ZeroValue = inl refl
plain faults.Full = inl refl
plain (faults.Program why) = inr (why, refl)
plain faults.TooManyPrograms = inl refl

first_number : (f : DumpFault) → 1 ≤ fault_number f
first_number faults.BadLine = omega arith
first_number faults.NoMap = omega arith
first_number faults.BadKey = omega arith
first_number faults.BadValue = omega arith
first_number faults.OutOfOrder = omega arith
first_number faults.ZeroValue = omega arith
first_number faults.Full = omega arith
first_number (faults.Program why) = omega arith
first_number faults.TooManyPrograms = omega arith

eighth : (f : DumpFault) (why : InstallRefusal) → f ≡ faults.Program why → fault_number f ≡ 8
eighth f why e = ap fault_number e

-- two faults of a line have one number where they are the same
same_fault : (f g : DumpFault) → fault_number f ≡ fault_number g → ((v w : InstallRefusal) → f ≡ faults.Program v → g ≡ faults.Program w → f ≡ g) → f ≡ g
same_fault f g e both = by (plain f) (plain g)
  where
    by : (of_number (fault_number f) ≡ f) ⊎ ((why : InstallRefusal) × (f ≡ faults.Program why)) → (of_number (fault_number g) ≡ g) ⊎ ((why : InstallRefusal) × (g ≡ faults.Program why)) → f ≡ g
    by (inl p) (inl q) = sym p ∙ ap of_number e ∙ q
    by (inl p) (inr q) =
        let is : fault_number f ≡ 8 = e ∙ eighth g q.0 q.1 in
        let other : fault_number f ≡ 1 = sym (ap fault_number (sym (ap of_number is) ∙ p)) in
        absurd (omega (arith, is, other))
    by (inr p) (inl q) =
        let is : fault_number g ≡ 8 = sym e ∙ eighth f p.0 p.1 in
        let other : fault_number g ≡ 1 = sym (ap fault_number (sym (ap of_number is) ∙ q)) in
        absurd (omega (arith, is, other))
    by (inr p) (inr q) = both p.0 q.0 p.1 q.1

-- what these say has no fault below this number
abbrev Clear : (DumpFault → Type 0) → ℕ → Type 0
Clear Has n = (f : DumpFault) → fault_number f < n → Has f → ⊥

module _ (Has : DumpFault → Type 0) where
  clear_first : Clear Has 1
  clear_first f lt h = let some = first_number f in absurd (omega arith)

  clear_next : (g : DumpFault) (n : ℕ) → fault_number g ≡ n → n ≢ 8 → (Has g → ⊥) → Clear Has n → Clear Has (n + 1)
  clear_next g n is other none clear f lt h = ⊎_elim
      (λ (below : fault_number f < n). clear f below h)
      (λ (ge : n ≤ fault_number f).
      let same : fault_number f ≡ fault_number g = omega arith in
      let one : f ≡ g = same_fault f g same (λ v w ef eg. absurd (other (sym is ∙ eighth g w eg))) in
      none (subst Has one h))
      (cases_lt (fault_number f) n)

  clear_program : ((why : InstallRefusal) → Has (faults.Program why) → ⊥) → Clear Has 8 → Clear Has 9
  clear_program none clear f lt h = ⊎_elim
      (λ (below : fault_number f < 8). clear f below h)
      (λ (ge : 8 ≤ fault_number f). let is : fault_number f ≡ 8 = omega arith in by is (plain f))
      (cases_lt (fault_number f) 8)
    where
      by : fault_number f ≡ 8 → (of_number (fault_number f) ≡ f) ⊎ ((why : InstallRefusal) × (f ≡ faults.Program why)) → ⊥
      by is (inl p) = let other : fault_number f ≡ 1 = sym (ap fault_number (sym (ap of_number is) ∙ p)) in omega (arith, is, other)
      by is (inr q) = none q.0 (subst Has q.1 h)

  lowest_by : (why : DumpFault) → Clear Has (fault_number why) → (other : DumpFault) → Has other → fault_number why ≤ fault_number other
  lowest_by why clear other h = ⊎_elim (λ (lt : fault_number other < fault_number why). absurd (clear other lt h)) (λ ge. ge) (cases_lt (fault_number other) (fault_number why))

  last_number : (f : DumpFault) → fault_number f < 10
  last_number faults.BadLine = omega arith
  last_number faults.NoMap = omega arith
  last_number faults.BadKey = omega arith
  last_number faults.BadValue = omega arith
  last_number faults.OutOfOrder = omega arith
  last_number faults.ZeroValue = omega arith
  last_number faults.Full = omega arith
  last_number (faults.Program why) = omega arith
  last_number faults.TooManyPrograms = omega arith

  -- there is none at all
  clear_all : Clear Has 10 → (f : DumpFault) → Has f → ⊥
  clear_all clear f h = clear f (last_number f) h

-- ---- the tests of an entry

both_ways : (b : Bool) → b ≡ true → b ≡ false → ⊥
both_ways b t f = cc

module _ (t : MapState) (key : List ℕ) (is : IsMapState t) (bytes : AreBytes key) where
  key_from : is_key_for t key ≡ true → IsKeyOf t.shape key
  unfolding is_key_for
  key_from h =
      let parts = and_parts (length key == key_size t.shape) (is_hash t.shape || is_some (finite_map.get t.entries key)) h in
      by t.shape is.each_key (eqb-true (length key) (key_size t.shape) parts.0) parts.1
    where
      by : (shape : Shape) → ((k : List ℕ) → finite_map.contains_key t.entries k ≡ true → IsKeyOf shape k) → length key ≡ key_size shape → (is_hash shape || is_some (finite_map.get t.entries key)) ≡ true → IsKeyOf shape key
      by (Array value entries) each size h = each key h
      by (Hash k value entries) each size h = (size, bytes)

  key_to : IsKeyOf t.shape key → is_key_for t key ≡ true
  unfolding is_key_for
  key_to h = and_from (length key == key_size t.shape) (is_hash t.shape || is_some (finite_map.get t.entries key)) (eq-eqb (length key) (key_size t.shape) (size t.shape h)) (there (is_hash t.shape) refl)
    where
      size : (shape : Shape) → IsKeyOf shape key → length key ≡ key_size shape
      size (Array value entries) h = ap length h.2
      size (Hash k value entries) h = h.0

      there : (b : Bool) → is_hash t.shape ≡ b → (is_hash t.shape || is_some (finite_map.get t.entries key)) ≡ true
      there true e = rw e refl
      there false e = rw e (array_has t key is e h)

order_to : (so : Loading) (e : EntryLine) → ((m : ℕ) (k : List ℕ) → AllBefore (entries_of so.state.maps) m k → is_behind so.last m k ≡ true) → StandsBehind so.state e → is_in_order so e ≡ true
unfolding is_in_order
order_to so e last h = and_from (length so.state.programs == 0) (is_behind so.last e.map e.key) (ap (λ cs. length cs == 0) h.0) (last e.map e.key h.1)

order_from : (so : Loading) (e : EntryLine) → IsRising so → is_in_order so e ≡ true → StandsBehind so.state e
order_from so e rising h = let parts = in_order so e h in (parts.0, rising e.map e.key parts.1)

zeros_from : (v : List ℕ) → list_all is_zero v ≡ true → AllByRecursion (λ b. b ≡ 0) v
zeros_from [] h = tt
zeros_from (b ∷ v) h = let parts = and_parts (is_zero b) (list_all is_zero v) h in (eqb-true b 0 parts.0, zeros_from v parts.1)

zeros_to : (v : List ℕ) → AllByRecursion (λ b. b ≡ 0) v → list_all is_zero v ≡ true
zeros_to [] h = refl
zeros_to (b ∷ v) h = and_from (is_zero b) (list_all is_zero v) (eq-eqb b 0 h.0) (zeros_to v h.1)

left_out_from : (shape : Shape) (v : List ℕ) → is_left_out shape v ≡ true → (IsHash shape → ⊥) × AllByRecursion (λ b. b ≡ 0) v
unfolding is_left_out
left_out_from (Array value entries) v h = (λ is. is, zeros_from v h)
left_out_from (Hash key value entries) v h = absurd cc

left_out_to : (shape : Shape) (v : List ℕ) → (IsHash shape → ⊥) × AllByRecursion (λ b. b ≡ 0) v → is_left_out shape v ≡ true
unfolding is_left_out
left_out_to (Array value entries) v h = zeros_to v h.1
left_out_to (Hash key value entries) v h = absurd (h.0 tt)

room_to : (maps : Maps) (m : ℕ) (t : MapState) (key : List ℕ) → slice_get maps m ≡ Some t → HasRoom maps m key → has_room t key ≡ true
unfolding has_room
room_to maps m t key at room = by (is_some (finite_map.get t.entries key)) refl
  where
    absent : is_some (finite_map.get t.entries key) ≡ false → IsNone (value_at maps m key)
    absent e = rw (value_there maps m t key at) e

    hash : (shape : Shape) → IsHash shape → is_hash shape ≡ true
    hash (Array value entries) h = absurd h
    hash (Hash k value entries) h = refl

    by : (b : Bool) → is_some (finite_map.get t.entries key) ≡ b → (is_some (finite_map.get t.entries key) || (is_hash t.shape && nat_lt (finite_map.len t.entries) (entry_count t.shape))) ≡ true
    by true e = rw e refl
    by false e =
        let free : IsHash t.shape × (finite_map.len t.entries < entry_count t.shape) = subst (λ o. IfSome o (λ s. IsHash s.shape × (finite_map.len s.entries < entry_count s.shape))) at (room (absent e)) in
        rw (e, hash t.shape free.0, lt-ltb (finite_map.len t.entries) (entry_count t.shape) free.1) refl

-- ---- what is answered

-- there is no fault, or this one is the lowest
abbrev pub Answers : StoreState → Option Meaning → Result Loading DumpFault → Type 0
Answers s m (Ok after) = (f : DumpFault) → HasFault s m f → ⊥
Answers s m (Err why) = IsLowestFault s m why

-- no line: a line that says nothing
says_nothing : (s : StoreState) → IsLowestFault s None faults.BadLine
says_nothing s = record { has = refl; lowest = λ other h. first_number other }

module _ (so : Loading) (rising : IsRising so) (last : (m : ℕ) (k : List ℕ) → AllBefore (entries_of so.state.maps) m k → is_behind so.last m k ≡ true) (e : EntryLine) where
  abbrev Has : DumpFault → Type 0
  Has = HasFault so.state (Some (Entry e))

  -- the line is an entry
  is_entry : Clear Has 2
  is_entry = clear_next Has faults.BadLine 1 refl (λ z. absurd (omega arith)) (λ h. cc) (clear_first Has)

  no_program : (why : InstallRefusal) → Has (faults.Program why) → ⊥
  no_program why h = let other = h.1 in absurd cc

  no_place : Has faults.TooManyPrograms → ⊥
  no_place h = let other = h.1 in absurd cc

  without_map : slice_get so.state.maps e.map ≡ None → Answers so.state (Some (Entry e)) (Err faults.NoMap)
  without_map at = record { has = (e, refl, past (slice_get_cases so.state.maps e.map).1); lowest = lowest_by Has faults.NoMap is_entry }
    where
      past : ((x : MapState) × (e.map < length so.state.maps) × (slice_get so.state.maps e.map ≡ Some x) × (get_or so.state.maps e.map x ≡ x)) ⊎ ((length so.state.maps ≤ e.map) × (slice_get so.state.maps e.map ≡ None)) → length so.state.maps ≤ e.map
      past (inl h) = let there = h.2 in absurd cc
      past (inr h) = h.0

  module _ (t : MapState) (at : slice_get so.state.maps e.map ≡ Some t) (is : IsMapState t) (bytes : AreBytes e.key) where
    has_map : Clear Has 3
    has_map = clear_next Has faults.NoMap 2 refl (λ z. absurd (omega arith)) none is_entry
      where
        none : Has faults.NoMap → ⊥
        none h =
            let same : h.0 ≡ e = cc in
            let past : length so.state.maps ≤ e.map = subst (λ (d : EntryLine). length so.state.maps ≤ d.map) same h.2 in
            let gone = slice_get_past so.state.maps e.map past in
            absurd cc

    -- of this entry and its map
    of_this : (P : EntryLine → MapState → Type 0) → OfEntry so.state (Some (Entry e)) P → P e t
    of_this P h =
        let same : h.0 ≡ e = (let is = h.2 in cc) in
        let there : slice_get so.state.maps e.map ≡ Some h.1 = subst (λ (d : EntryLine). slice_get so.state.maps d.map ≡ Some h.1) same h.3 in
        let one : h.1 ≡ t = cc in
        subst (λ x. P e x) one (subst (λ d. P d h.1) same h.4)

    this : (P : EntryLine → MapState → Type 0) → P e t → OfEntry so.state (Some (Entry e)) P
    this P h = (e, t, refl, at, h)

    good_key : is_key_for t e.key ≡ true → Has faults.BadKey → ⊥
    good_key test h = of_this (λ e t. IsKeyOf t.shape e.key → ⊥) h (key_from t e.key is bytes test)

    good_value : (length e.value == value_size t.shape) ≡ true → Has faults.BadValue → ⊥
    good_value test h = of_this (λ e t. length e.value ≢ value_size t.shape) h (eqb-true (length e.value) (value_size t.shape) test)

    good_order : is_in_order so e ≡ true → Has faults.OutOfOrder → ⊥
    good_order test h = of_this (λ e t. StandsBehind so.state e → ⊥) h (order_from so e rising test)

    not_zero : is_left_out t.shape e.value ≡ false → Has faults.ZeroValue → ⊥
    not_zero test h = both_ways _ (left_out_to t.shape e.value (of_this (λ e t. (IsHash t.shape → ⊥) × AllByRecursion (λ b. b ≡ 0) e.value) h)) test

    has_place : has_room t e.key ≡ true → Has faults.Full → ⊥
    has_place test h = of_this (λ e t. HasRoom so.state.maps e.map e.key → ⊥) h (room_for so.state.maps e.map t e.key at test)

    by_tests : (a b c d f : Bool) → is_key_for t e.key ≡ a → (length e.value == value_size t.shape) ≡ b → is_in_order so e ≡ c → is_left_out t.shape e.value ≡ d → has_room t e.key ≡ f
        → Answers so.state (Some (Entry e)) (unless (with_entry so e) (if not a then Some faults.BadKey
        else if not b then Some faults.BadValue
        else if not c then Some faults.OutOfOrder
        else if d then Some faults.ZeroValue
        else if not f then Some faults.Full
        else None))
    by_tests false b c d f ea eb ec ed ef = record {
      has = this (λ e t. IsKeyOf t.shape e.key → ⊥) (λ k. both_ways _ (key_to t e.key is bytes k) ea);
      lowest = lowest_by Has faults.BadKey has_map;
    }
    by_tests true b c d f ea eb ec ed ef = key_is b c d f eb ec ed ef (clear_next Has faults.BadKey 3 refl (λ z. absurd (omega arith)) (good_key ea) has_map)
      where
        key_is : (b c d f : Bool) → (length e.value == value_size t.shape) ≡ b → is_in_order so e ≡ c → is_left_out t.shape e.value ≡ d → has_room t e.key ≡ f → Clear Has 4
            → Answers so.state (Some (Entry e)) (unless (with_entry so e) (if not b then Some faults.BadValue
            else if not c then Some faults.OutOfOrder
            else if d then Some faults.ZeroValue
            else if not f then Some faults.Full
            else None))
        key_is false c d f eb ec ed ef clear = record {
          has = this (λ e t. length e.value ≢ value_size t.shape) (λ k. both_ways _ (eq-eqb (length e.value) (value_size t.shape) k) eb);
          lowest = lowest_by Has faults.BadValue clear;
        }
        key_is true c d f eb ec ed ef clear = value_is c d f ec ed ef (clear_next Has faults.BadValue 4 refl (λ z. absurd (omega arith)) (good_value eb) clear)
          where
            value_is : (c d f : Bool) → is_in_order so e ≡ c → is_left_out t.shape e.value ≡ d → has_room t e.key ≡ f → Clear Has 5
                → Answers so.state (Some (Entry e)) (unless (with_entry so e) (if not c then Some faults.OutOfOrder
                else if d then Some faults.ZeroValue
                else if not f then Some faults.Full
                else None))
            value_is false d f ec ed ef clear = record {
              has = this (λ e t. StandsBehind so.state e → ⊥) (λ k. both_ways _ (order_to so e last k) ec);
              lowest = lowest_by Has faults.OutOfOrder clear;
            }
            value_is true true f ec ed ef clear = record {
              has = this (λ e t. (IsHash t.shape → ⊥) × AllByRecursion (λ b. b ≡ 0) e.value) (left_out_from t.shape e.value ed);
              lowest = lowest_by Has faults.ZeroValue (clear_next Has faults.OutOfOrder 5 refl (λ z. absurd (omega arith)) (good_order ec) clear);
            }
            value_is true false false ec ed ef clear = record {
              has = this (λ e t. HasRoom so.state.maps e.map e.key → ⊥) (λ k. both_ways _ (room_to so.state.maps e.map t e.key at k) ef);
              lowest = lowest_by Has faults.Full (clear_next Has faults.ZeroValue 6 refl (λ z. absurd (omega arith)) (not_zero ed) (clear_next Has faults.OutOfOrder 5 refl (λ z. absurd (omega arith)) (good_order ec) clear));
            }
            value_is true false true ec ed ef clear =
                let order = clear_next Has faults.OutOfOrder 5 refl (λ z. absurd (omega arith)) (good_order ec) clear in
                let zero = clear_next Has faults.ZeroValue 6 refl (λ z. absurd (omega arith)) (not_zero ed) order in
                let full = clear_next Has faults.Full 7 refl (λ z. absurd (omega arith)) (has_place ef) zero in
                let program = clear_program Has no_program full in
                clear_all Has (clear_next Has faults.TooManyPrograms 9 refl (λ z. absurd (omega arith)) no_place program)

    in_its_map : Answers so.state (Some (Entry e)) (in_map so e (Some t))
    unfolding entry_fault
    in_its_map = by_tests (is_key_for t e.key) (length e.value == value_size t.shape) (is_in_order so e) (is_left_out t.shape e.value) (has_room t e.key) refl refl refl refl refl

module _ (so : Loading) (p : ProgramLine) where
  abbrev Of : DumpFault → Type 0
  Of = HasFault so.state (Some (Program p))

  no_entry : (P : EntryLine → MapState → Type 0) → OfEntry so.state (Some (Program p)) P → ⊥
  no_entry P h = let other = h.2 in absurd cc

  is_program : Clear Of 8
  is_program =
      let line = clear_next Of faults.BadLine 1 refl (λ z. absurd (omega arith)) (λ h. absurd cc) (clear_first Of) in
      let map = clear_next Of faults.NoMap 2 refl (λ z. absurd (omega arith)) (λ h. let other = h.1 in absurd cc) line in
      let key = clear_next Of faults.BadKey 3 refl (λ z. absurd (omega arith)) (no_entry (λ e t. IsKeyOf t.shape e.key → ⊥)) map in
      let value = clear_next Of faults.BadValue 4 refl (λ z. absurd (omega arith)) (no_entry (λ e t. length e.value ≢ value_size t.shape)) key in
      let order = clear_next Of faults.OutOfOrder 5 refl (λ z. absurd (omega arith)) (no_entry (λ e t. StandsBehind so.state e → ⊥)) value in
      let zero = clear_next Of faults.ZeroValue 6 refl (λ z. absurd (omega arith)) (no_entry (λ e t. (IsHash t.shape → ⊥) × AllByRecursion (λ b. b ≡ 0) e.value)) order in
      clear_next Of faults.Full 7 refl (λ z. absurd (omega arith)) (no_entry (λ e t. HasRoom so.state.maps e.map e.key → ⊥)) zero

  -- it is this program
  of_it : (P : ProgramLine → Type 0) → OfProgram (Some (Program p)) P → P p
  of_it P h = let same : h.0 ≡ p = (let is = h.1 in cc) in subst P same h.2

  installed : (r : Result Checked InstallRefusal) → installed_program (shapes_of so.state.maps) p.mode p.arg_len p.bytes ≡ r → Answers so.state (Some (Program p)) (in_place so r)
  installed (Err why) read = record { has = (p, refl, read); lowest = lowest_by Of (faults.Program why) is_program }
  installed (Ok c) read = by (nat_lt (length so.state.programs) so.state.places) refl
    where
      refused : (why : InstallRefusal) → Of (faults.Program why) → ⊥
      refused why h = let other = of_it (λ p. installed_program (shapes_of so.state.maps) p.mode p.arg_len p.bytes ≡ Err why) h in absurd cc

      by : (b : Bool) → nat_lt (length so.state.programs) so.state.places ≡ b → Answers so.state (Some (Program p)) (if b then Ok (with_program so c) else Err faults.TooManyPrograms)
      by true free = clear_all Of (clear_next Of faults.TooManyPrograms 9 refl (λ z. absurd (omega arith)) (λ h. let lt = ltb-true (length so.state.programs) so.state.places free in let le = of_it (λ p. so.state.places ≤ length so.state.programs) h in absurd (omega arith)) (clear_program Of refused is_program))
      by false full = record { has = (p, refl, ⊎_elim (λ (lt : length so.state.programs < so.state.places). absurd (both_ways _ (lt-ltb _ _ lt) full)) (λ ge. ge) (cases_lt (length so.state.programs) so.state.places)); lowest = lowest_by Of faults.TooManyPrograms (clear_program Of refused is_program) }

-- of two faults that are the lowest there is one
pub one_lowest : (s : StoreState) (m : Option Meaning) (a b : DumpFault) → IsLowestFault s m a → IsLowestFault s m b → a ≡ b
one_lowest s m a b h k =
    let le = h.lowest b k.has in
    let ge = k.lowest a h.has in
    same_fault a b (omega arith) (λ v w ea eb.
    let p = subst (HasFault s m) ea h.has in
    let q = subst (HasFault s m) eb k.has in
    let line : p.0 ≡ q.0 = (let x = p.1 in let y = q.1 in cc) in
    let read = subst (λ (x : ProgramLine). installed_program (shapes_of s.maps) x.mode x.arg_len x.bytes ≡ Err v) line p.2 in
    let other = q.2 in
    let same : v ≡ w = cc in
    ea ∙ ap faults.Program same ∙ sym eb)

-- what a line is answered
pub answered : (z : StateSizes) (so : Loading) (m : Option Meaning) → z.shapes ≡ shapes_of so.state.maps → AreMaps so.state.maps → IsRising so
    → ((n : ℕ) (k : List ℕ) → AllBefore (entries_of so.state.maps) n k → is_behind so.last n k ≡ true)
    → ((e : EntryLine) → m ≡ Some (Entry e) → AreBytes e.key) → Answers so.state m (after_meaning z so m)
answered z so None same maps rising last bytes = says_nothing so.state
answered z so (Some (Entry e)) same maps rising last bytes = by (slice_get so.state.maps e.map) refl
  where
    by : (o : Option MapState) → slice_get so.state.maps e.map ≡ o → Answers so.state (Some (Entry e)) (in_map so e o)
    by None at = without_map so rising last e at
    by (Some t) at = in_its_map so rising last e t at (all_get IsMapState so.state.maps e.map t maps at) (bytes e refl)
answered z so (Some (Program p)) same maps rising last bytes =
    subst (λ x. Answers so.state (Some (Program p)) (in_place so (installed_program x p.mode p.arg_len p.bytes))) (sym same) (installed so p (installed_program (shapes_of so.state.maps) p.mode p.arg_len p.bytes) refl)
