-- A line that is taken is taken where there is more: more entries in the maps, more maps after them, more places, longer programs.
use Rattle.std.proofs.Common.{◌≡◌, ◌≢◌, ℕ, zero, suc, ◌≤◌, Bool, true, false, cond, List, [], ◌∷◌, ◌++◌, map, length, Option, Some, None, Result, Ok, Err, refl, sym, ap, ◌∙◌, ⊎_elim, arith, subst}
use Rattle.std.specs.Prelude.{slice_get, slice_set, replicate, is_some, nat_lt, not, ◌&&◌, ◌||◌, ◌==◌}
use Rattle.std.specs.List.{list_all}
use Rattle.std.specs.Option.{option_or}
use Rattle.std.specs.Ordering.{nat_cmp, eq_by_cmp}
use Rattle.std.specs.Cmp.Lexicographic.{slice_cmp, nat_list_cmp_total}
use Rattle.std.specs.FinMap as finite_map
use Rattle.std.specs.FinMap.{get-insert, same_map, slice_cmp-IsAntisymmetric, nat_cmp-IsAntisymmetric}
use Rattle.std.proofs.lemmas.Bool.{ltb-true, lt-ltb, cases_eq, and_parts, and_from}
use Rattle.std.proofs.lemmas.List.{length-set, map-append}
use Rattle.std.proofs.lemmas.Option.{slice_get_within, get_or_from_slice_get}
use Rattle.hex.specs.Hex.{IsBytes}
use Rattle.insn.specs.declared.decoding.DecodeRefusal.{DecodeRefusal}
use Rattle.insn.specs.declared.instruction.Form.{Form}
use Rattle.insn.specs.Decoded.{decoded}
use Rattle.insn.proofs.Export.{read_is_spelled, are_bytes}
use Rattle.maps.specs.declared.shapes.Shape.{Shape}
use Rattle.maps.specs.declared.shapes.Shape.TheVariants.{Array, Hash}
use Rattle.maps.specs.Shapes.{key_size, value_size, entry_count, IsShapeSupported, AreShapesSupported}
use Rattle.maps.specs.Maps.{MapState, Maps, Entries, shapes_of}
use Rattle.maps.specs.MapSets.{index_keys, opening_map, opening_maps, put_value}
use Rattle.maps.proofs.Export.{get_placed, get_nowhere, found_at, index_at, index_stands, index_distinct, none_free, opening_shapes, put_value_at, get_set_other}
use Rattle.helpers.proofs.Export.{get_set_same, map_set}
use Rattle.verifier.specs.Accepted.{Checked, checked}
use Rattle.verifier.specs.Signature.{signature}
use Rattle.verifier.specs.Verdict.{verdict}
use Rattle.verifier.specs.declared.refusal.Refused.{Refused}
use Rattle.verifier.specs.MoreAllowed.{ComeFirst}
use Rattle.verifier.proofs.Export.{first_maps, accepted_iff}
use Rattle.text.specs.Lines.{next_line}
use Rattle.loader.specs.Installed.{installed_program, accepted_program, unless_unsafe}
use Rattle.loader.specs.StoreState.{StoreState, StateSizes}
use Rattle.dumps.specs.declared.refusals.DumpFault.{DumpFault}
use Rattle.dumps.specs.declared.refusals.DumpFault.TheVariants as faults
use Rattle.dumps.specs.Grammar.{EntryLine, ProgramLine, Meaning, Entry, Program, ended_lines, line_meaning}
use Rattle.dumps.specs.Loading.{Loading, is_hash, is_key_for, is_in_order, is_left_out, is_zero, is_behind, has_room, with_entry, with_program, after_entry, in_place, after_program, after_meaning, after_line, either, after_lines, opening, loaded_state}
use Rattle.dumps.specs.WiderLaws.{Extends, HasAllOf, for_maps, HasMore, IsWidened, DumpFitsMore}
use Rattle.dumps.proofs.Entries.{Passes, passes, put_in}
use Rattle.dumps.proofs.Faults.{none}
use Rattle.dumps.proofs.Longer.{line_more}
use Rattle.dumps.proofs.SpelledLines.{IsBound, said}
use Rattle.dumps.proofs.Dumped.{in_map_ok, meant}

-- ---- one map in another

same_key_size : (s t : Shape) → Extends s t → key_size t ≡ key_size s
same_key_size (Array v n) (Array w m) h = refl
same_key_size (Hash k v n) (Hash l w m) h = h.0
same_key_size (Array v n) (Hash l w m) h = absurd h
same_key_size (Hash k v n) (Array w m) h = absurd h

same_value_size : (s t : Shape) → Extends s t → value_size t ≡ value_size s
same_value_size (Array v n) (Array w m) h = h.0
same_value_size (Hash k v n) (Hash l w m) h = h.1
same_value_size (Array v n) (Hash l w m) h = absurd h
same_value_size (Hash k v n) (Array w m) h = absurd h

same_kind : (s t : Shape) → Extends s t → is_hash t ≡ is_hash s
same_kind (Array v n) (Array w m) h = refl
same_kind (Hash k v n) (Hash l w m) h = refl
same_kind (Array v n) (Hash l w m) h = absurd h
same_kind (Hash k v n) (Array w m) h = absurd h

-- a value that is there is there in the other
has_value : (s t : MapState) (key : List ℕ) → HasAllOf s t → is_some (finite_map.get s.entries key) ≡ true → is_some (finite_map.get t.entries key) ≡ true
has_value s t key all there = by (finite_map.get s.entries key) refl there
  where
    by : (o : Option (List ℕ)) → finite_map.get s.entries key ≡ o → is_some o ≡ true → is_some (finite_map.get t.entries key) ≡ true
    by None e h = absurd cc
    by (Some v) e h = ap is_some (all key ∙ ap (λ o. option_or o (finite_map.get (opening_map t.shape).entries key)) e)

-- a hash begins without a key
empty_hash : (k v n : ℕ) (key : List ℕ) → finite_map.get (opening_map (Hash k v n)).entries key ≡ None
empty_hash k v n key = get_nowhere (replicate n None) (λ _. replicate v 0) 0 key (λ p. none_free n p key)

or_none : (o : Option (List ℕ)) → option_or o None ≡ o
or_none None = refl
or_none (Some v) = refl

same_hash : (k v n : ℕ) (entries others : Entries) → ((key : List ℕ) → finite_map.get others key ≡ option_or (finite_map.get entries key) (finite_map.get (opening_map (Hash k v n)).entries key)) → others ≡ entries
same_hash k v n entries others all =
    same_map nat_list_cmp_total (slice_cmp-IsAntisymmetric nat_cmp-IsAntisymmetric) others entries
    (λ key. all key ∙ ap (option_or (finite_map.get entries key)) (empty_hash k v n key) ∙ or_none (finite_map.get entries key))

-- what a map has when it is opened
opening_all : (s t : Shape) → Extends s t → entry_count t ≤ 2147483648 → HasAllOf (opening_map s) (opening_map t)
opening_all (Hash k v n) (Hash l w m) h few key = ap (λ o. option_or o (finite_map.get (opening_map (Hash l w m)).entries key)) (sym (empty_hash k v n key))
opening_all (Array v n) (Hash l w m) h few key = absurd h
opening_all (Hash k v n) (Array w m) h few key = absurd h
opening_all (Array v n) (Array w m) h few key = by (finite_map.get (opening_map (Array v n)).entries key) refl
  where
    other : Option (List ℕ)
    other = finite_map.get (opening_map (Array w m)).entries key

    by : (o : Option (List ℕ)) → finite_map.get (opening_map (Array v n)).entries key ≡ o → other ≡ option_or (finite_map.get (opening_map (Array v n)).entries key) other
    by None e = ap (λ o. option_or o other) (sym e)
    by (Some x) e =
        let at = found_at (index_keys 0 n) (λ _. replicate v 0) 0 key x e in
        let stands = index_stands 0 n at.0 key at.1 in
        let less = h.1 in
        let lower = stands.0 in
        let here : slice_get (index_keys 0 m) at.0 ≡ Some (Some key) = index_at 0 m at.0 (omega arith) ∙ ap (λ q. Some (Some q)) (sym stands.1) in
        let value : other ≡ Some (replicate w 0) = get_placed (index_keys 0 m) (λ _. replicate w 0) 0 at.0 key (index_distinct 0 m (omega arith)) here in
        value ∙ ap Some (ap (λ size. replicate size 0) h.0 ∙ sym at.2) ∙ ap (λ o. option_or o other) (sym e)

-- a value put into both
put_all : (s t : MapState) (key value : List ℕ) → HasAllOf s t → HasAllOf (record { shape = s.shape; entries = finite_map.insert s.entries key value }) (record { shape = t.shape; entries = finite_map.insert t.entries key value })
put_all s t key value all q =
    get-insert nat_list_cmp_total t.entries key value q
    ∙ by (eq_by_cmp (slice_cmp nat_cmp) q key)
    ∙ ap (λ o. option_or o (finite_map.get (opening_map t.shape).entries q)) (sym (get-insert nat_list_cmp_total s.entries key value q))
  where
    by : (b : Bool) → cond b (Some value) (finite_map.get t.entries q) ≡ option_or (cond b (Some value) (finite_map.get s.entries q)) (finite_map.get (opening_map t.shape).entries q)
    by true = refl
    by false = all q

-- ---- tests of an entry

or_too : (a b c : Bool) → (b ≡ true → c ≡ true) → a || b ≡ true → a || c ≡ true
or_too true b c f h = refl
or_too false b c f h = f h

more_room : (n a b : ℕ) → a ≤ b → nat_lt n a ≡ true → nat_lt n b ≡ true
more_room n a b le h = let low = ltb-true n a h in lt-ltb n b (omega arith)

room_in : (a b : Shape) (key : List ℕ) (entries others : Entries) → Extends a b → ((q : List ℕ) → finite_map.get others q ≡ option_or (finite_map.get entries q) (finite_map.get (opening_map b).entries q))
    → (is_some (finite_map.get entries key) ≡ true → is_some (finite_map.get others key) ≡ true)
    → is_some (finite_map.get entries key) || (is_hash a && nat_lt (finite_map.len entries) (entry_count a)) ≡ true
    → is_some (finite_map.get others key) || (is_hash b && nat_lt (finite_map.len others) (entry_count b)) ≡ true
room_in (Array v n) (Hash l w m) key entries others x all some h = absurd x
room_in (Hash k v n) (Array w m) key entries others x all some h = absurd x
room_in (Array v n) (Array w m) key entries others x all some h = by (is_some (finite_map.get entries key)) (is_some (finite_map.get others key)) some h
  where
    by : (a b : Bool) → (a ≡ true → b ≡ true) → a || false ≡ true → b || false ≡ true
    by true b f h = ap (λ x. x || false) (f refl)
    by false b f h = absurd cc
room_in (Hash k v n) (Hash l w m) key entries others x all some h =
    let same = same_hash l w m entries others all in
    subst (λ (es : Entries). is_some (finite_map.get es key) || nat_lt (finite_map.len es) m ≡ true) (sym same)
    (or_too (is_some (finite_map.get entries key)) (nat_lt (finite_map.len entries) n) (nat_lt (finite_map.len entries) m) (more_room (finite_map.len entries) n m x.2) h)

module _ (s t : MapState) (all : HasAllOf s t) (extends : Extends s.shape t.shape) where
  key_too : (key : List ℕ) → is_key_for s key ≡ true → is_key_for t key ≡ true
  unfolding is_key_for
  key_too key h =
      let parts = and_parts (length key == key_size s.shape) (is_hash s.shape || is_some (finite_map.get s.entries key)) h in
      and_from (length key == key_size t.shape) (is_hash t.shape || is_some (finite_map.get t.entries key))
      (ap (λ n. length key == n) (same_key_size s.shape t.shape extends) ∙ parts.0)
      (ap (λ b. b || is_some (finite_map.get t.entries key)) (same_kind s.shape t.shape extends)
      ∙ or_too (is_hash s.shape) (is_some (finite_map.get s.entries key)) (is_some (finite_map.get t.entries key)) (has_value s t key all) parts.1)

  room_too : (key : List ℕ) → has_room s key ≡ true → has_room t key ≡ true
  unfolding has_room
  room_too key h = room_in s.shape t.shape key s.entries t.entries extends all (has_value s t key all) h

  left_too : (value : List ℕ) → is_left_out s.shape value ≡ false → is_left_out t.shape value ≡ false
  unfolding is_left_out
  left_too value h = ap (λ b. not b && list_all is_zero value) (same_kind s.shape t.shape extends) ∙ h

-- ---- a program that is taken

record TakenProgram (z : StateSizes) (so after : Loading) (p : ProgramLine) : Type 0 where
  program : List Form
  spelled : decoded p.bytes ≡ Ok program
  fine : verdict program (signature z.shapes p.arg_len p.mode) ≡ None
  room : nat_lt (length so.state.programs) so.state.places ≡ true
  is : with_program so (checked program z.shapes p.arg_len p.mode) ≡ after

taken_program : (z : StateSizes) (so after : Loading) (p : ProgramLine) → after_program z so p ≡ Ok after → TakenProgram z so after p
taken_program z so after p h = by (decoded p.bytes) refl h
  where
    by_room : (f : List Form) (b : Bool) → decoded p.bytes ≡ Ok f → verdict f (signature z.shapes p.arg_len p.mode) ≡ None → nat_lt (length so.state.programs) so.state.places ≡ b
        → cond b (Ok (with_program so (checked f z.shapes p.arg_len p.mode))) (Err faults.TooManyPrograms) ≡ Ok after → TakenProgram z so after p
    by_room f true e v r g = record { program = f; spelled = e; fine = v; room = r; is = cc }
    by_room f false e v r g = absurd cc

    by_verdict : (f : List Form) (o : Option Refused) → decoded p.bytes ≡ Ok f → verdict f (signature z.shapes p.arg_len p.mode) ≡ o → in_place so (unless_unsafe (checked f z.shapes p.arg_len p.mode) o) ≡ Ok after → TakenProgram z so after p
    by_verdict f None e v g = by_room f (nat_lt (length so.state.programs) so.state.places) e v refl g
    by_verdict f (Some why) e v g = absurd cc

    by : (r : Result (List Form) DecodeRefusal) → decoded p.bytes ≡ r → in_place so (accepted_program z.shapes p.mode p.arg_len r) ≡ Ok after → TakenProgram z so after p
    by (Err why) e g = absurd cc
    by (Ok f) e g = by_verdict f (verdict f (signature z.shapes p.arg_len p.mode)) e refl g

-- ---- all that is loaded

same_length : {A B : Type 0} (f : A → B) (xs : List A) → length (map f xs) ≡ length xs
same_length f [] = refl
same_length f (x ∷ xs) = ap suc (same_length f xs)

got_map : {A B : Type 0} (f : A → B) (xs : List A) (m : ℕ) (y : B) → slice_get (map f xs) m ≡ Some y → (x : A) × (slice_get xs m ≡ Some x) × (f x ≡ y)
got_map f [] m y e = absurd cc
got_map f (x ∷ xs) zero y e = (x, refl, cc)
got_map f (x ∷ xs) (suc m) y e = got_map f xs m y e

get_map : {A B : Type 0} (f : A → B) (xs : List A) (m : ℕ) (x : A) → slice_get xs m ≡ Some x → slice_get (map f xs) m ≡ Some (f x)
get_map f [] m x e = absurd cc
get_map f (z ∷ xs) zero x e = let same : z ≡ x = cc in ap (λ y. Some (f y)) same
get_map f (z ∷ xs) (suc m) x e = get_map f xs m x e

module _ (old new : StateSizes) (limits : AreShapesSupported new.shapes) (has : HasMore old new) where
  -- the map in the other maps that has all of a map
  record Twin (others : Maps) (m : ℕ) (a : MapState) : Type 0 where
    wide : MapState
    at : slice_get others m ≡ Some wide
    all : HasAllOf a wide
    extends : Extends a.shape wide.shape

  abbrev widened : Checked → Checked
  widened = for_maps new.shapes

  -- what the lines so far say, and what they say where there is more
  record Wide (so on : Loading) : Type 0 where
    shapes_are : shapes_of on.state.maps ≡ new.shapes
    maps : (m : ℕ) (a : MapState) → slice_get so.state.maps m ≡ Some a → Twin on.state.maps m a
    others : (m : ℕ) → length so.state.maps ≤ m → slice_get on.state.maps m ≡ slice_get (opening_maps new.shapes) m
    programs : on.state.programs ≡ map widened so.state.programs
    last : on.last ≡ so.last
    places_are : on.state.places ≡ new.places
    long_is : on.state.long ≡ new.long
    few : so.state.places ≡ old.places

  as_many : (so on : Loading) → Wide so on → length on.state.programs ≡ length so.state.programs
  as_many so on w = ap (λ ps. length ps) w.programs ∙ same_length widened so.state.programs

  order_too : (so on : Loading) (e : EntryLine) → Wide so on → is_in_order so e ≡ true → is_in_order on e ≡ true
  unfolding is_in_order
  order_too so on e w h =
      ap (λ n. (n == 0) && is_behind on.last e.map e.key) (as_many so on w) ∙ ap (λ last. (length so.state.programs == 0) && is_behind last e.map e.key) w.last ∙ h

  -- ---- an entry

  module _ (so on : Loading) (e : EntryLine) (s : MapState) (at : slice_get so.state.maps e.map ≡ Some s) (w : Wide so on) where
    twin : Twin on.state.maps e.map s
    twin = w.maps e.map s at

    abbrev with_it : MapState → MapState
    with_it a = record { shape = a.shape; entries = finite_map.insert a.entries e.key e.value }

    put : (maps : Maps) (a : MapState) → slice_get maps e.map ≡ Some a → put_value maps e.map e.key e.value ≡ slice_set maps e.map (with_it a)
    put maps a there = put_value_at maps e.map a e.key e.value there

    here : Twin (put_value on.state.maps e.map e.key e.value) e.map (with_it s)
    here = record {
      wide = with_it twin.wide;
      at = ap (λ (x : Maps). slice_get x e.map) (put on.state.maps twin.wide twin.at) ∙ get_set_same on.state.maps e.map twin.wide (with_it twin.wide) twin.at;
      all = put_all s twin.wide e.key e.value twin.all;
      extends = twin.extends;
    }

    elsewhere : (m : ℕ) (a : MapState) → m ≢ e.map → slice_get so.state.maps m ≡ Some a → Twin (put_value on.state.maps e.map e.key e.value) m a
    elsewhere m a ne there =
        let t = w.maps m a there in
        record {
          wide = t.wide;
          at = ap (λ (x : Maps). slice_get x m) (put on.state.maps twin.wide twin.at) ∙ get_set_other on.state.maps e.map m (with_it twin.wide) ne ∙ t.at;
          all = t.all;
          extends = t.extends;
        }

    entered : Wide (with_entry so e) (with_entry on e)
    entered = record {
      shapes_are = ap shapes_of (put on.state.maps twin.wide twin.at) ∙ map_set (λ (x : MapState). x.shape) on.state.maps e.map twin.wide (with_it twin.wide) twin.at refl ∙ w.shapes_are;
      maps = λ m a there.
          let set : slice_get (slice_set so.state.maps e.map (with_it s)) m ≡ Some a = ap (λ (x : Maps). slice_get x m) (sym (put so.state.maps s at)) ∙ there in
          ⊎_elim
          (λ same.
          let first : slice_get (slice_set so.state.maps e.map (with_it s)) m ≡ Some (with_it s) = ap (λ n. slice_get (slice_set so.state.maps e.map (with_it s)) n) same ∙ get_set_same so.state.maps e.map s (with_it s) at in
          let is : with_it s ≡ a = cc in
          subst (λ n. Twin (put_value on.state.maps e.map e.key e.value) n a) (sym same) (subst (λ (x : MapState). Twin (put_value on.state.maps e.map e.key e.value) e.map x) is here))
          (λ ne. elsewhere m a ne (sym (get_set_other so.state.maps e.map m (with_it s) ne) ∙ set))
          (cases_eq m e.map);
      others = λ m past.
          let size : length (put_value so.state.maps e.map e.key e.value) ≡ length so.state.maps = ap (λ xs. length xs) (put so.state.maps s at) ∙ length-set so.state.maps e.map (with_it s) in
          let within = slice_get_within so.state.maps e.map s at in
          let ne : m ≢ e.map = omega arith in
          ap (λ (x : Maps). slice_get x m) (put on.state.maps twin.wide twin.at) ∙ get_set_other on.state.maps e.map m (with_it twin.wide) ne ∙ w.others m (omega arith);
      programs = w.programs;
      last = refl;
      places_are = w.places_are;
      long_is = w.long_is;
      few = w.few;
    }

    taken_too : Passes so e s → after_entry on e ≡ Ok (with_entry on e)
    taken_too p =
        put_in on e twin.wide twin.at
        (none on e twin.wide (key_too s twin.wide twin.all twin.extends e.key p.key) (p.value ∙ sym (same_value_size s.shape twin.wide.shape twin.extends)) (order_too so on e w p.order)
        (left_too s twin.wide twin.all twin.extends e.value p.kept) (room_too s twin.wide twin.all twin.extends e.key p.room))

  -- a line that is taken is taken, and leads on
  Leads : Result Loading DumpFault → Loading → Type 0
  Leads r after = (next : Loading) × (r ≡ Ok next) × Wide after next

  entry_too : (so on after : Loading) (e : EntryLine) → Wide so on → after_entry so e ≡ Ok after → Leads (after_entry on e) after
  unfolding Leads
  entry_too so on after e w h =
      let taken = in_map_ok so after e (slice_get so.state.maps e.map) h in (
        with_entry on e,
        taken_too so on e taken.0 taken.1 w (passes so e taken.0 (sym taken.2)),
        subst (λ (x : Loading). Wide x (with_entry on e)) taken.3 (entered so on e taken.0 taken.1 w),
      )

  -- ---- a program

  first : ComeFirst old.shapes new.shapes
  first m s at = let t = has.shapes m s at in (t.0, t.1, same_key_size s t.0 t.2, same_value_size s t.0 t.2)

  program_too : (so on after : Loading) (p : ProgramLine) → IsBytes p.bytes → Wide so on → after_program old so p ≡ Ok after → Leads (after_program new on p) after
  unfolding Leads
  program_too so on after p bytes w h =
      let taken = taken_program old so after p h in
      let f = taken.program in
      let each = (read_is_spelled p.bytes f (are_bytes p.bytes bytes) taken.spelled).each in
      let typable = (accepted_iff f (signature old.shapes p.arg_len p.mode) each).0 taken.fine in
      let fine : verdict f (signature new.shapes p.arg_len p.mode) ≡ None = (accepted_iff f (signature new.shapes p.arg_len p.mode) each).1 (first_maps f old.shapes new.shapes p.arg_len p.mode first typable) in
      let c : Checked = checked f new.shapes p.arg_len p.mode in
      let installed : installed_program new.shapes p.mode p.arg_len p.bytes ≡ Ok c = ap (accepted_program new.shapes p.mode p.arg_len) taken.spelled ∙ ap (unless_unsafe c) fine in
      let low = ltb-true (length so.state.programs) so.state.places taken.room in
      let count = as_many so on w in
      let few = w.few in
      let most = w.places_are in
      let le = has.places in
      let room : nat_lt (length on.state.programs) on.state.places ≡ true = lt-ltb (length on.state.programs) on.state.places (omega arith) in (
        with_program on c,
        ap (in_place on) installed ∙ ap (λ b. cond b (Ok (with_program on c)) (Err faults.TooManyPrograms)) room,
        subst (λ (x : Loading). Wide x (with_program on c)) taken.is (record {
          shapes_are = w.shapes_are;
          maps = w.maps;
          others = w.others;
          programs = ap (λ ps. ps ++ c ∷ []) w.programs ∙ sym (map-append widened so.state.programs (checked f old.shapes p.arg_len p.mode ∷ []));
          last = w.last;
          places_are = w.places_are;
          long_is = w.long_is;
          few = w.few;
        }),
      )

  -- ---- all lines

  meaning_too : (so on after : Loading) (m : Meaning) → IsBound old.long m → Wide so on → after_meaning old so (Some m) ≡ Ok after → Leads (after_meaning new on (Some m)) after
  meaning_too so on after (Entry e) bound w h = entry_too so on after e w h
  meaning_too so on after (Program p) bound w h = program_too so on after p bound.1 w h

  -- a line says what it said
  says_too : (text : List ℕ) (m : Meaning) → line_meaning old.long text ≡ Some m → line_meaning new.long text ≡ Some m
  says_too text m means = line_more old.long new.long has.long text m means

  lines_too : (n : ℕ) (so on : Loading) (lines : List (Option (List ℕ))) (s : StoreState) → Wide so on → after_lines old n so lines ≡ Ok s → (t : StoreState) × (after_lines new n on lines ≡ Ok t) × IsWidened new s t
  unfolding after_lines after_line Leads
  lines_too n so on [] s w h =
      let same : so.state ≡ s = cc in (
        on.state,
        refl,
        subst (λ (x : StoreState). IsWidened new x on.state) same (record {
          shapes = w.shapes_are;
          maps = λ m a at. let t = w.maps m a at in (t.wide, t.at, t.all);
          others = w.others;
          programs = w.programs;
          places = w.places_are;
          long = w.long_is;
        }),
      )
  lines_too n so on (None ∷ lines) s w h = absurd cc
  lines_too n so on (Some text ∷ lines) s w h = by (after_meaning old so (line_meaning old.long text)) refl h (λ after next v g. lines_too (next_line n) after next lines s v g)
    where
      by : (r : Result Loading DumpFault) → after_meaning old so (line_meaning old.long text) ≡ r
          → either (λ why. Err (record { line = n; why = why })) (λ after. after_lines old (next_line n) after lines) r ≡ Ok s
          → ((after next : Loading) → Wide after next → after_lines old (next_line n) after lines ≡ Ok s → (t : StoreState) × (after_lines new (next_line n) next lines ≡ Ok t) × IsWidened new s t)
          → (t : StoreState) × (either (λ why. Err (record { line = n; why = why })) (λ after. after_lines new (next_line n) after lines) (after_meaning new on (line_meaning new.long text)) ≡ Ok t) × IsWidened new s t
      by (Err why) is g rest = absurd cc
      by (Ok after) is g rest =
          let means = meant old so after (line_meaning old.long text) is in
          let leads = meaning_too so on after means.0 (said old.long text means.0 means.1).1 w (ap (after_meaning old so) (sym means.1) ∙ is) in
          let last = rest after leads.0 leads.2 g in (
            last.0,
            ap (either (λ why. Err (record { line = n; why = why })) (λ after. after_lines new (next_line n) after lines)) (ap (after_meaning new on) (says_too text means.0 means.1) ∙ leads.1) ∙ last.1,
            last.2,
          )

  opened : Wide (opening old) (opening new)
  opened = record {
    shapes_are = (opening_shapes new.shapes limits).same;
    maps = λ m a at.
        let s = got_map opening_map old.shapes m a at in
        let t = has.shapes m s.0 s.1 in
        let ok : IsShapeSupported t.0 = subst IsShapeSupported (get_or_from_slice_get new.shapes m t.0 t.0 t.1) (limits.each m t.0 (slice_get_within new.shapes m t.0 t.1)) in
        subst (λ (x : MapState). Twin (opening_maps new.shapes) m x) s.2 (record {
          wide = opening_map t.0;
          at = get_map opening_map new.shapes m t.0 t.1;
          all = opening_all s.0 t.0 t.2 ok.entries.1;
          extends = t.2;
        });
    others = λ m past. refl;
    programs = refl;
    last = refl;
    places_are = refl;
    long_is = refl;
    few = refl;
  }

pub dump_fits_more : DumpFitsMore
unfolding loaded_state
dump_fits_more old new text s limits has h = lines_too old new limits has 1 (opening old) (opening new) (ended_lines text) s (opened old new limits has) h
