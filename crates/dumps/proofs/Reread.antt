-- What a state is dumped as is loaded as that state.
use Rattle.std.proofs.Common.{append_assoc, append-nil, ◌≡◌, ℕ, zero, suc, ◌+◌, ◌^◌, ◌<◌, ◌≤◌, Bool, true, false, cond, ltb, leb, eqb, ◌&&◌, List, [], ◌∷◌, ◌++◌, map, length, decimal, Option, Some, None, Result, Ok, Err, refl, sym, ap, ◌∙◌, subst, arith}
use Rattle.std.specs.Prelude.{slice_get, is_some}
use Rattle.std.specs.List.{AllByRecursion, list_all}
use Rattle.std.proofs.lemmas.Bool.{eq-eqb, lt-ltb, and_parts, leb-true, not-true}
use Rattle.std.proofs.lemmas.Bool.Decides.{nat_tests}
use Rattle.std.proofs.lemmas.Fmt.{digits_decimal}
use Rattle.std.proofs.lemmas.List.{length-append, map-append}
use Rattle.hex.specs.Hex.{IsBytes, encode_lower}
use Rattle.std.specs.FinMap as finite_map
use Rattle.std.proofs.lemmas.List.Elements.{recursion_from_All}
use Rattle.insn.specs.Encoding.{program_bytes, program_slots}
use Rattle.insn.specs.Refusal.{Decodes}
use Rattle.insn.proofs.Export.{spelled_is_read, size_is, slot_bytes_length}
use Rattle.maps.specs.declared.shapes.Shape.{Shape}
use Rattle.maps.specs.declared.shapes.Shape.TheVariants.{Array, Hash}
use Rattle.maps.specs.Shapes.{value_size, entry_count, AreShapesSupported}
use Rattle.maps.specs.Maps.{Maps, MapState, IsKeyOf, IsMapState, HasShapes, HasEntryCount, shapes_of}
use Rattle.maps.proofs.Export.{opening_shapes, all_get}
use Rattle.text.specs.Lines.{next_line}
use Rattle.text.proofs.Export.{HasNoFeed, own}
use Rattle.verifier.specs.declared.refusal.Mode.{Mode}
use Rattle.verifier.specs.declared.refusal.Mode.TheVariants.{Update, Read}
use Rattle.verifier.specs.Typing.{IsTypable}
use Rattle.verifier.specs.Accepted.{Checked, checked, IsAccepted}
use Rattle.verifier.specs.Signature.{signature}
use Rattle.verifier.specs.Verdict.{verdict}
use Rattle.verifier.proofs.Export.{accepted_iff}
use Rattle.loader.specs.declared.installed.InstallRefusal.{InstallRefusal}
use Rattle.loader.specs.declared.installed.TheConstants.{MOST_LONG}
use Rattle.loader.specs.Spelling.{mode_word}
use Rattle.loader.specs.Installed.{installed_program, accepted_program, unless_unsafe, IsShort}
use Rattle.loader.specs.StoreState.{StoreState, StateSizes, IsState}
use Rattle.dumps.specs.declared.refusals.DumpFault.TheVariants as faults
use Rattle.dumps.specs.Grammar.{is_lower_digit, EntryLine, Meaning, Entry, Program, ended_lines}
use Rattle.dumps.specs.Loading.{Loading, is_behind, is_hash, is_key_for, is_in_order, is_left_out, has_room, with_entry, with_program, after_entry, after_program, after_meaning, after_line, after_ended, after_lines, in_place, opening, loaded_state}
use Rattle.dumps.specs.Dumping.{entries_of, program_line, lines_of, text_of, dump}
use Rattle.dumps.proofs.EndedLines.{ended_lines-cut}
use Rattle.dumps.proofs.Entries.{Passes, put_in}
use Rattle.dumps.proofs.Faults.{hash_key, array_key, known_key, hash_room, none}
use Rattle.dumps.proofs.Kept.{maps_keep}
use Rattle.dumps.proofs.Loop.{one_on}
use Rattle.dumps.proofs.LowerHex.{lower_all}
use Rattle.dumps.proofs.SpelledLines.{ProgramFits, Fits, argument_small, spelled_says}
use Rattle.dumps.proofs.TextLines.{joined}
use Rattle.dumps.proofs.Placing.{IsBefore, behind, key_of, all_joined, all_mapped, all_empty}
use Rattle.dumps.proofs.Dumped.{IsRising, entry_listed, entry_rising, opening_rising, texts}
use Rattle.dumps.proofs.Alike.{hash_keeps, array_has, same_maps}
use Rattle.dumps.proofs.ProgramBytes.{program_are_bytes}
use Rattle.dumps.proofs.Belongs.{Belongs, Rises, all_belong, all_rise, count, count_joined, hash_count, entry_fits, at_each, key_bytes, key_long}

-- ---- an entry has no fault

-- the map of this number in maps of the same shapes
same_there : (maps others : Maps) (i : ℕ) (s : MapState) → slice_get maps i ≡ Some s → shapes_of others ≡ shapes_of maps → (t : MapState) × (slice_get others i ≡ Some t) × (t.shape ≡ s.shape)
same_there [] others i s h same = absurd cc
same_there (x ∷ maps) [] i s h same = absurd cc
same_there (x ∷ maps) (y ∷ others) zero s h same =
    let here : x ≡ s = cc in
    let shape : y.shape ≡ x.shape = cc in
    (y, refl, shape ∙ ap (λ (t : MapState). t.shape) here)
same_there (x ∷ maps) (y ∷ others) (suc i) s h same =
    let rest : shapes_of others ≡ shapes_of maps = cc in
    same_there maps others i s h rest

key_for : (t : MapState) (key : List ℕ) → IsMapState t → IsKeyOf t.shape key → is_key_for t key ≡ true
key_for t key is of = by (is_hash t.shape) refl
  where
    by : (b : Bool) → is_hash t.shape ≡ b → is_key_for t key ≡ true
    by true hash = sym (hash_key t key (key_long t.shape key of) hash)
    by false hash = sym (array_key t key true (key_long t.shape key of) hash (sym (array_has t key is hash of)))

in_order : (so : Loading) (e : EntryLine) → so.state.programs ≡ [] → is_behind so.last e.map e.key ≡ true → is_in_order so e ≡ true
unfolding is_in_order
in_order so e empty behind = rw (empty, behind) refl

-- an entry that is the next to be listed, and the map that it goes into
record Coming (maps so : Maps) (e : EntryLine) (t : MapState) : Type 0 where
  belongs : Belongs 0 maps e
  there : slice_get so e.map ≡ Some t
  shape : t.shape ≡ belongs.state.shape
  is : IsMapState t
  is_whole : IsMapState belongs.state
  rest : List EntryLine
  listed : entries_of so ++ e ∷ rest ≡ entries_of maps

fewer : (maps so : Maps) (e : EntryLine) (t : MapState) (c : Coming maps so e t) → is_hash t.shape ≡ true → finite_map.len t.entries < finite_map.len c.belongs.state.entries
fewer maps so e t c hash =
    let whole : is_hash c.belongs.state.shape ≡ true = ap is_hash (sym c.shape) ∙ hash in
    let now = hash_count so 0 e.map e.map t (omega arith) c.there (λ v. hash_keeps t.shape v hash) in
    let then = hash_count maps 0 c.belongs.index e.map c.belongs.state c.belongs.number c.belongs.there (λ v. hash_keeps c.belongs.state.shape v whole) in
    let joined = count_joined e.map (entries_of so) (e ∷ c.rest) in
    let here : eqb e.map e.map ≡ true = eq-eqb e.map e.map refl in
    let first : count e.map (e ∷ c.rest) ≡ 1 + count e.map c.rest = ap (λ b. cond b 1 0 + count e.map c.rest) here in
    let all = ap (count e.map) c.listed in
    omega (arith, now, then, joined, first, all)

hash_limit : (s : MapState) → IsMapState s → is_hash s.shape ≡ true → finite_map.len s.entries ≤ entry_count s.shape
hash_limit s is hash = by s.shape is.count hash
  where
    by : (shape : Shape) → HasEntryCount shape s.entries → is_hash shape ≡ true → finite_map.len s.entries ≤ entry_count shape
    by (Array value entries) count hash = absurd cc
    by (Hash key value entries) count hash = count

room : (maps so : Maps) (e : EntryLine) (t : MapState) (c : Coming maps so e t) → IsKeyOf t.shape e.key → has_room t e.key ≡ true
room maps so e t c of = by (is_some (finite_map.get t.entries e.key)) (is_hash t.shape) refl refl
  where
    by : (known hash : Bool) → is_some (finite_map.get t.entries e.key) ≡ known → is_hash t.shape ≡ hash → has_room t e.key ≡ true
    by true hash there is = sym (known_key t e.key there)
    by false true there is =
        let whole : is_hash c.belongs.state.shape ≡ true = ap is_hash (sym c.shape) ∙ is in
        let fewer_than = fewer maps so e t c is in
        let limit = hash_limit c.belongs.state c.is_whole whole in
        let same : entry_count t.shape ≡ entry_count c.belongs.state.shape = ap entry_count c.shape in
        let free : ltb (finite_map.len t.entries) (entry_count t.shape) ≡ true = lt-ltb _ _ (omega (arith, fewer_than, limit, same)) in
        sym (hash_room t e.key (finite_map.len t.entries) (entry_count t.shape) there is refl refl) ∙ free
    by false false there is =
        let has = array_has t e.key c.is is of in
        absurd cc

-- ---- the entries

-- before the entries that are still to come
record Midway (shapes : List Shape) (maps : Maps) (so : Loading) (es : List EntryLine) : Type 0 where
  has : HasShapes shapes so.state.maps
  empty : so.state.programs ≡ []
  rising : IsRising so
  listed : entries_of so.state.maps ++ es ≡ entries_of maps
  belongs : AllByRecursion (Belongs 0 maps) es
  behind : AllByRecursion (λ (e : EntryLine). is_behind so.last e.map e.key ≡ true) es
  rises : Rises es

-- one of them is put into its map
record Put (shapes : List Shape) (maps : Maps) (so : Loading) (e : EntryLine) (es : List EntryLine) : Type 0 where
  taken : after_entry so e ≡ Ok (with_entry so e)
  next : Midway shapes maps (with_entry so e) es

one_entry : (shapes : List Shape) (maps : Maps) (so : Loading) (e : EntryLine) (es : List EntryLine) → HasShapes shapes maps → Midway shapes maps so (e ∷ es) → Put shapes maps so e es
one_entry shapes maps so e es has mid =
    let b = mid.belongs.0 in
    let found = same_there maps so.state.maps b.index b.state b.there (mid.has.same ∙ sym has.same) in
    let t = found.0 in
    let number : e.map ≡ b.index = (let n = b.number in omega (arith, n)) in
    let there : slice_get so.state.maps e.map ≡ Some t = ap (slice_get so.state.maps) number ∙ found.1 in
    let is_whole = all_get IsMapState maps b.index b.state has.each b.there in
    let is = all_get IsMapState so.state.maps e.map t mid.has.each there in
    let c : Coming maps so.state.maps e t = record { belongs = b; there = there; shape = found.2; is = is; is_whole = is_whole; rest = es; listed = mid.listed } in
    let of : IsKeyOf t.shape e.key = subst (λ x. IsKeyOf x e.key) (sym found.2) (is_whole.each_key e.key (ap is_some b.value)) in
    let value = is_whole.each_value e.key e.value b.value in
    let size : length e.value ≡ value_size t.shape = value.0 ∙ ap value_size (sym found.2) in
    let order = in_order so e mid.empty mid.behind.0 in
    let left : is_left_out t.shape e.value ≡ false = ap (λ x. is_left_out x e.value) found.2 ∙ not-true (is_left_out b.state.shape e.value) b.kept in
    let free = room maps so.state.maps e t c of in
    let key = key_for t e.key is of in
    let p : Passes so e t = record { key = key; value = size; order = order; kept = left; room = free } in
    let listed = entry_listed so e t mid.rising there p in
    record {
      taken = put_in so e t there (none so e t key size order left free);
      next = record {
        has = maps_keep shapes so.state.maps e.map t e.key e.value mid.has there (key_long t.shape e.key of, key_bytes t.shape e.key of) (size, value.1) free;
        empty = mid.empty;
        rising = entry_rising so e t mid.rising there p;
        listed = ap (λ u. u ++ es) listed ∙ append_assoc (entries_of so.state.maps) (e ∷ []) es ∙ mid.listed;
        belongs = mid.belongs.1;
        behind = all_mapped (λ (f : EntryLine). IsBefore e f.map f.key) (λ (f : EntryLine). is_behind (Some (key_of e)) f.map f.key ≡ true) (λ f h. behind e f.map f.key h) es mid.rises.0;
        rises = mid.rises.1;
      };
    }

-- lines that say something, one after the other
abbrev pub spelled : List Meaning → List (Option (List ℕ))
spelled ms = map Some (map text_of ms)

-- the lines of the entries leave these maps
record EntriesRead (z : StateSizes) (maps : Maps) (n : ℕ) (so : Loading) (es : List EntryLine) (rest : List (Option (List ℕ))) : Type 0 where
  number : ℕ
  after : Loading
  are : after.state.maps ≡ maps
  empty : after.state.programs ≡ []
  places : after.state.places ≡ so.state.places
  long : after.state.long ≡ so.state.long
  read : after_lines z n so (spelled (map Entry es) ++ rest) ≡ after_lines z number after rest

said_by : (z : StateSizes) (so after : Loading) (m : Meaning) → Fits z.long m → after_meaning z so (Some m) ≡ Ok after → after_ended z so (Some (text_of m)) ≡ Ok after
unfolding after_line
said_by z so after m fits h = ap (after_meaning z so) (spelled_says z.long m fits) ∙ h

entries_read : (z : StateSizes) (maps : Maps) (n : ℕ) (so : Loading) (es : List EntryLine) (rest : List (Option (List ℕ))) → AreShapesSupported z.shapes → HasShapes z.shapes maps → Midway z.shapes maps so es
    → EntriesRead z maps n so es rest
entries_read z maps n so [] rest ok has mid =
    let listed : entries_of so.state.maps ≡ entries_of maps = sym (append-nil (entries_of so.state.maps)) ∙ mid.listed in
    record {
      number = n;
      after = so;
      are = same_maps 0 so.state.maps maps (mid.has.same ∙ sym has.same) mid.has.each has.each listed;
      empty = mid.empty;
      places = refl;
      long = refl;
      read = refl;
    }
entries_read z maps n so (e ∷ es) rest ok has mid =
    let put = one_entry z.shapes maps so e es has mid in
    let fits = entry_fits z.shapes maps e ok has mid.belongs.0 in
    let behind = entries_read z maps (next_line n) (with_entry so e) es rest ok has put.next in
    let step = said_by z so (with_entry so e) (Entry e) fits put.taken in
    record {
      number = behind.number;
      after = behind.after;
      are = behind.are;
      empty = behind.empty;
      places = behind.places;
      long = behind.long;
      read = one_on z n (next_line n) so (with_entry so e) (spelled (map Entry (e ∷ es)) ++ rest) (spelled (map Entry es) ++ rest) (Some (text_of (Entry e))) refl refl step ∙ behind.read;
    }

-- ---- the programs

record IsGood (z : StateSizes) (c : Checked) : Type 0 where
  for_maps : c.shapes ≡ z.shapes
  accepted : IsAccepted c
  short : IsShort z.long c

abbrev pub as_line : Checked → Meaning
as_line c = Program (program_line c)

decodes : (c : Checked) → IsAccepted c → Decodes (program_bytes c.program) c.program
decodes c ok = record { each = ok.instructions; spelled = refl; some = ok.typable.0.size_good.some; few = ok.typable.0.size_good.few }

installs : (z : StateSizes) (c : Checked) → IsGood z c → installed_program z.shapes c.mode c.arg_len (program_bytes c.program) ≡ Ok c
installs z c good =
    let same : checked c.program z.shapes c.arg_len c.mode ≡ c = λ i. record { program = c.program; shapes = sym good.for_maps i; arg_len = c.arg_len; mode = c.mode } in
    let typable = subst (λ s. IsTypable c.program (signature s c.arg_len c.mode)) good.for_maps good.accepted.typable in
    let safe : verdict c.program (signature z.shapes c.arg_len c.mode) ≡ None = (accepted_iff c.program (signature z.shapes c.arg_len c.mode) good.accepted.instructions).1 typable in
    ap (accepted_program z.shapes c.mode c.arg_len) (spelled_is_read (program_bytes c.program) c.program (decodes c good.accepted))
    ∙ ap (unless_unsafe (checked c.program z.shapes c.arg_len c.mode)) safe ∙ ap Ok same

program_fits : (z : StateSizes) (c : Checked) → z.long ≤ MOST_LONG → IsGood z c → ProgramFits z.long (program_line c)
program_fits z c limit good =
    let bytes = slot_bytes_length (program_slots c.program) in
    let slots = size_is c.program in
    let some = good.accepted.typable.0.size_good.some in
    let short = good.short.slots in
    record {
      argument = good.short.argument;
      bytes = at_each (program_bytes c.program) (program_are_bytes c.program good.accepted.instructions);
      some = omega (arith, bytes, slots, some);
      few = omega (arith, bytes, slots, short);
      limit = limit;
    }

placed : (so : Loading) (c : Checked) (r : Result Checked InstallRefusal) → r ≡ Ok c → length so.state.programs < so.state.places → in_place so r ≡ Ok (with_program so c)
placed so c r is lt =
    let free : ltb (length so.state.programs) so.state.places ≡ true = lt-ltb _ _ lt in
    ap (in_place so) is ∙ ap (λ b. cond b (Ok (with_program so c)) (Err faults.TooManyPrograms)) free

programs_read : (z : StateSizes) (s : StoreState) (n : ℕ) (so : Loading) (cs : List Checked) → so.state.maps ≡ s.maps → so.state.programs ++ cs ≡ s.programs → so.state.places ≡ s.places → so.state.long ≡ s.long
    → length s.programs ≤ s.places → z.long ≤ MOST_LONG → AllByRecursion (IsGood z) cs → after_lines z n so (spelled (map as_line cs)) ≡ Ok s
unfolding after_lines
programs_read z s n so [] maps programs places long few limit good =
    let whole : so.state.programs ≡ s.programs = sym (append-nil so.state.programs) ∙ programs in
    ap Ok (λ i. record { maps = maps i; programs = whole i; places = places i; long = long i })
programs_read z s n so (c ∷ cs) maps programs places long few limit good =
    let count = ap length programs in
    let both = length-append so.state.programs (c ∷ cs) in
    let free : length so.state.programs < so.state.places = omega (arith, count, both, few, places) in
    let taken : after_program z so (program_line c) ≡ Ok (with_program so c) = placed so c _ (installs z c good.0) free in
    let step = said_by z so (with_program so c) (as_line c) (program_fits z c limit good.0) taken in
    let rest = programs_read z s (next_line n) (with_program so c) cs maps (append_assoc so.state.programs (c ∷ []) cs ∙ programs) places long few limit good.1 in
    one_on z n (next_line n) so (with_program so c) (spelled (map as_line (c ∷ cs))) (spelled (map as_line cs)) (Some (text_of (as_line c))) refl refl step ∙ rest

-- ---- the text

abbrev is_plain : ℕ → Bool
is_plain b = leb 32 b

all_plain : (p : ℕ → Bool) → ((b : ℕ) → p b ≡ true → is_plain b ≡ true) → (xs : List ℕ) → list_all p xs ≡ true → list_all is_plain xs ≡ true
all_plain p other [] h = refl
all_plain p other (x ∷ xs) h =
    let both = and_parts (p x) (list_all p xs) h in
    rw (other x both.0) (all_plain p other xs both.1)

plain_joined : (xs ys : List ℕ) → list_all is_plain xs ≡ true → list_all is_plain ys ≡ true → list_all is_plain (xs ++ ys) ≡ true
plain_joined [] ys a b = b
plain_joined (x ∷ xs) ys a b =
    let both = and_parts (is_plain x) (list_all is_plain xs) a in
    rw both.0 (plain_joined xs ys both.1 b)

no_feed : (xs : List ℕ) → list_all is_plain xs ≡ true → HasNoFeed xs
no_feed [] h i lt = absurd (omega (arith, lt))
no_feed (x ∷ xs) h zero lt =
    let plain : 32 ≤ x = leb-true 32 x (and_parts (is_plain x) (list_all is_plain xs) h).0 in
    λ e. omega (arith, plain, e)
no_feed (x ∷ xs) h (suc i) lt = no_feed xs (and_parts (is_plain x) (list_all is_plain xs) h).1 i (omega (arith, lt))

digit_plain : (b : ℕ) → (leb 48 b && leb b 57) ≡ true → is_plain b ≡ true
digit_plain b h = grind (arith, nat_tests)

lower_plain : (b : ℕ) → is_lower_digit b ≡ true → is_plain b ≡ true
lower_plain b h = grind (arith, nat_tests)

plain_number : (n : ℕ) → n < 2 ^ 64 → list_all is_plain (decimal n) ≡ true
plain_number n lt = all_plain (λ b. leb 48 b && leb b 57) digit_plain (decimal n) (digits_decimal own n lt)

plain_hex : (bytes : List ℕ) → IsBytes bytes → list_all is_plain (encode_lower bytes) ≡ true
plain_hex bytes are = all_plain is_lower_digit lower_plain (encode_lower bytes) (lower_all bytes are)

plain_mode : (m : Mode) → list_all is_plain (mode_word m) ≡ true
plain_mode Update = refl
plain_mode Read = refl

plain_text : (long : ℕ) (m : Meaning) → Fits long m → list_all is_plain (text_of m) ≡ true
plain_text long (Entry e) f =
    plain_joined (decimal e.map) (32 ∷ (encode_lower e.key ++ 32 ∷ encode_lower e.value)) (plain_number e.map f.map) (plain_joined (encode_lower e.key) (32 ∷ encode_lower e.value) (plain_hex e.key f.key) (plain_hex e.value f.value))
plain_text long (Program p) f =
    let number = plain_number p.arg_len (argument_small long p f) in
    plain_joined (mode_word p.mode) (32 ∷ (decimal p.arg_len ++ 32 ∷ encode_lower p.bytes)) (plain_mode p.mode) (plain_joined (decimal p.arg_len) (32 ∷ encode_lower p.bytes) number (plain_hex p.bytes f.bytes))

ended_texts : (long : ℕ) (ms : List Meaning) → AllByRecursion (Fits long) ms → ended_lines (joined (map text_of ms)) ≡ spelled ms
ended_texts long [] fits = refl
ended_texts long (m ∷ ms) fits =
    ap ended_lines (append_assoc (text_of m) (10 ∷ []) (joined (map text_of ms)))
    ∙ ended_lines-cut (text_of m) (joined (map text_of ms)) (no_feed (text_of m) (plain_text long m fits.0)) ∙ ap (λ u. Some (text_of m) ∷ u) (ended_texts long ms fits.1)

-- ---- a state

entries_fit : (z : StateSizes) (maps : Maps) (es : List EntryLine) → AreShapesSupported z.shapes → HasShapes z.shapes maps → AllByRecursion (Belongs 0 maps) es → AllByRecursion (Fits z.long) (map Entry es)
entries_fit z maps [] ok has all = tt
entries_fit z maps (e ∷ es) ok has all = (entry_fits z.shapes maps e ok has all.0, entries_fit z maps es ok has all.1)

programs_fit : (z : StateSizes) (cs : List Checked) → z.long ≤ MOST_LONG → AllByRecursion (IsGood z) cs → AllByRecursion (Fits z.long) (map as_line cs)
programs_fit z [] limit all = tt
programs_fit z (c ∷ cs) limit all = (program_fits z c limit all.0, programs_fit z cs limit all.1)

all_good : (z : StateSizes) (cs : List Checked) → AllByRecursion (λ (c : Checked). c.shapes ≡ z.shapes) cs → AllByRecursion IsAccepted cs → AllByRecursion (IsShort z.long) cs → AllByRecursion (IsGood z) cs
all_good z [] a b c = tt
all_good z (x ∷ cs) a b c = (record { for_maps = a.0; accepted = b.0; short = c.0 }, all_good z cs a.1 b.1 c.1)

none_before : (es : List EntryLine) → AllByRecursion (λ (e : EntryLine). is_behind None e.map e.key ≡ true) es
none_before [] = tt
none_before (e ∷ es) = (refl, none_before es)

at_first : (z : StateSizes) (maps : Maps) → AreShapesSupported z.shapes → Midway z.shapes maps (opening z) (entries_of maps)
at_first z maps ok = record {
  has = opening_shapes z.shapes ok;
  empty = refl;
  rising = opening_rising z;
  listed = ap (λ u. u ++ entries_of maps) (all_empty 0 z.shapes);
  belongs = all_belong 0 maps;
  behind = none_before (entries_of maps);
  rises = all_rise 0 maps;
}

pub dump_is_read : (z : StateSizes) (s : StoreState) → IsState z s → loaded_state z (dump s) ≡ Ok s
unfolding loaded_state dump
dump_is_read z s is =
    let ok = is.programs.shapes in
    let limit = is.programs.long_limit in
    let good = all_good z s.programs (recursion_from_All (λ (c : Checked). c.shapes ≡ z.shapes) s.programs is.programs.accepted) (recursion_from_All IsAccepted s.programs is.programs.checked) (recursion_from_All (IsShort z.long) s.programs is.programs.short) in
    let fits = all_joined (Fits z.long) (map Entry (entries_of s.maps)) (map as_line s.programs) (entries_fit z s.maps (entries_of s.maps) ok is.maps (all_belong 0 s.maps)) (programs_fit z s.programs limit good) in
    let read = entries_read z s.maps 1 (opening z) (entries_of s.maps) (spelled (map as_line s.programs)) ok is.maps (at_first z s.maps ok) in
    let few : length s.programs ≤ s.places = (let a = is.programs.few in let b = is.places in omega (arith, a, b)) in
    let lines : spelled (lines_of s) ≡ spelled (map Entry (entries_of s.maps)) ++ spelled (map as_line s.programs) =
    ap (map Some) (map-append text_of (map Entry (entries_of s.maps)) (map as_line s.programs)) ∙ map-append Some (map text_of (map Entry (entries_of s.maps))) (map text_of (map as_line s.programs)) in
    ap (λ t. after_lines z 1 (opening z) (ended_lines t)) (texts (lines_of s))
    ∙ ap (after_lines z 1 (opening z)) (ended_texts z.long (lines_of s) fits ∙ lines)
    ∙ read.read
    ∙ programs_read z s read.number read.after s.programs read.are (ap (λ u. u ++ s.programs) read.empty) (read.places ∙ sym is.places) (read.long ∙ sym is.long) few limit good
