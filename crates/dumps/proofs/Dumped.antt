-- A text that is loaded is what its state is dumped as.
use Rattle.std.proofs.Common.{append_assoc, append-nil, ◌≡◌, ℕ, Bool, true, false, cond, ltb, eqb, List, [], ◌∷◌, ◌++◌, map, length, codes, Option, Some, None, Result, Ok, Err, refl, sym, ap, ap₂, ◌∙◌, subst, arith}
use Rattle.std.specs.Prelude.{slice_get}
use Rattle.std.specs.List.{flat_map}
use Rattle.std.proofs.lemmas.Bool.{and_parts, eqb-true}
use Rattle.std.proofs.lemmas.List.{nil_from_length, map-append}
use Rattle.hex.specs.Hex.{IsBytes}
use Rattle.insn.specs.declared.decoding.DecodeRefusal.{DecodeRefusal}
use Rattle.insn.specs.declared.instruction.Form.{Form}
use Rattle.insn.specs.Decoded.{decoded}
use Rattle.insn.specs.Encoding.{program_bytes}
use Rattle.insn.proofs.Export.{read_is_spelled, are_bytes}
use Rattle.maps.specs.declared.shapes.Shape.{Shape}
use Rattle.maps.specs.Maps.{MapState}
use Rattle.verifier.specs.Accepted.{Checked, checked}
use Rattle.verifier.specs.Signature.{signature}
use Rattle.verifier.specs.Verdict.{verdict}
use Rattle.verifier.specs.declared.refusal.Mode.{Mode}
use Rattle.verifier.specs.declared.refusal.Refused.{Refused}
use Rattle.text.specs.Lines.{next_line}
use Rattle.loader.specs.declared.installed.InstallRefusal.{InstallRefusal}
use Rattle.loader.specs.Installed.{installed_program, accepted_program, unless_unsafe}
use Rattle.loader.specs.StoreState.{StoreState, StateSizes}
use Rattle.dumps.specs.declared.refusals.DumpFault.{DumpFault}
use Rattle.dumps.specs.declared.refusals.DumpFault.TheVariants as faults
use Rattle.dumps.specs.Grammar.{EntryLine, ProgramLine, Meaning, Entry, Program, ended_lines, line_meaning}
use Rattle.dumps.specs.Loading.{Loading, is_behind, is_in_order, entry_fault, with_entry, in_map, unless, in_place, with_program, after_entry, after_program, after_meaning, after_line, either, after_lines, opening, loaded_state}
use Rattle.dumps.specs.Dumping.{entries_of, program_line, lines_of, text_of, dump}
use Rattle.dumps.proofs.Entries.{Passes, passes}
use Rattle.dumps.proofs.SpelledLines.{IsBound, said}
use Rattle.dumps.proofs.TextLines.{joined, text_is_lines}
use Rattle.dumps.proofs.Placing.{IsBefore, AllBefore, before, before_both, all_joined, all_mapped, keeps, placed_last, all_empty}

-- what stands behind the last entry stands behind all of them
abbrev pub IsRising : Loading → Type 0
IsRising so = (m : ℕ) (k : List ℕ) → is_behind so.last m k ≡ true → AllBefore (entries_of so.state.maps) m k

-- a line was taken: its meaning stands behind those before it
pub record Grows (so after : Loading) (m : Meaning) : Type 0 where
  pub lines : lines_of after.state ≡ lines_of so.state ++ m ∷ []
  pub rising : IsRising after

unless_ok : {A : Type 0} (x y : A) (fault : Option DumpFault) → unless x fault ≡ Ok y → (x ≡ y) × (fault ≡ None)
unless_ok x y None h = (cc, refl)
unless_ok x y (Some fault) h = absurd cc

pub in_map_ok : (so after : Loading) (e : EntryLine) (o : Option MapState) → in_map so e o ≡ Ok after → (s : MapState) × (o ≡ Some s) × (entry_fault so e s ≡ None) × (with_entry so e ≡ after)
in_map_ok so after e None h = absurd cc
in_map_ok so after e (Some s) h =
    let parts = unless_ok (with_entry so e) after (entry_fault so e s) h in
    (s, refl, parts.1, parts.0)

pub in_order : (so : Loading) (e : EntryLine) → is_in_order so e ≡ true → (so.state.programs ≡ []) × (is_behind so.last e.map e.key ≡ true)
unfolding is_in_order
in_order so e h =
    let both = and_parts (eqb (length so.state.programs) 0) (is_behind so.last e.map e.key) h in
    (nil_from_length so.state.programs (eqb-true (length so.state.programs) 0 both.0), both.1)

pub entry_listed : (so : Loading) (e : EntryLine) (s : MapState) → IsRising so → slice_get so.state.maps e.map ≡ Some s → Passes so e s → entries_of (with_entry so e).state.maps ≡ entries_of so.state.maps ++ e ∷ []
entry_listed so e s rising at p =
    let order = in_order so e p.order in
    let keep : keeps s.shape e.value ≡ true = rw p.kept refl in
    placed_last so.state.maps 0 e.map e.map s e.key e.value (omega arith) at keep (rising e.map e.key order.1)

pub entry_rising : (so : Loading) (e : EntryLine) (s : MapState) → IsRising so → slice_get so.state.maps e.map ≡ Some s → Passes so e s → IsRising (with_entry so e)
entry_rising so e s rising at p m k behind =
    let order = in_order so e p.order in
    let here : IsBefore e m k = before e m k behind in
    let old : AllBefore (entries_of so.state.maps) m k = all_mapped (λ (f : EntryLine). IsBefore f e.map e.key) (λ (f : EntryLine). IsBefore f m k) (λ f h. before_both f e m k h here) (entries_of so.state.maps) (rising e.map e.key order.1) in
    subst (λ es. AllBefore es m k) (sym (entry_listed so e s rising at p)) (all_joined (λ (f : EntryLine). IsBefore f m k) (entries_of so.state.maps) (e ∷ []) old (here, tt))

entry_grows : (so after : Loading) (e : EntryLine) → IsRising so → after_entry so e ≡ Ok after → Grows so after (Entry e)
entry_grows so after e rising h =
    let taken = in_map_ok so after e (slice_get so.state.maps e.map) h in
    let p = passes so e taken.0 (sym taken.2) in
    let none = (in_order so e p.order).0 in
    let listed = entry_listed so e taken.0 rising taken.1 p in
    let lines : lines_of (with_entry so e).state ≡ lines_of so.state ++ Entry e ∷ [] =
    rw (none, listed) (append-nil (map Entry (entries_of so.state.maps ++ e ∷ [])) ∙ map-append Entry (entries_of so.state.maps) (e ∷ []) ∙ ap (λ u. u ++ Entry e ∷ []) (sym (append-nil (map Entry (entries_of so.state.maps))))) in
    subst (λ a. Grows so a (Entry e)) taken.3 (record { lines = lines; rising = entry_rising so e taken.0 rising taken.1 p })

-- ---- a program

pub in_place_ok : (so after : Loading) (r : Result Checked InstallRefusal) → in_place so r ≡ Ok after → (c : Checked) × (r ≡ Ok c) × (with_program so c ≡ after)
in_place_ok so after (Err e) h = absurd cc
in_place_ok so after (Ok c) h = (c, refl, placed (ltb (length so.state.programs) so.state.places) h)
  where
    placed : (b : Bool) → cond b (Ok (with_program so c)) (Err faults.TooManyPrograms) ≡ Ok after → with_program so c ≡ after
    placed true h = cc
    placed false h = absurd cc

unsafe_ok : (c d : Checked) (o : Option Refused) → unless_unsafe c o ≡ Ok d → c ≡ d
unsafe_ok c d None h = cc
unsafe_ok c d (Some e) h = absurd cc

accepted_ok : (shapes : List Shape) (mode : Mode) (len : ℕ) (r : Result (List Form) DecodeRefusal) (c : Checked) → accepted_program shapes mode len r ≡ Ok c → (p : List Form) × (r ≡ Ok p) × (checked p shapes len mode ≡ c)
accepted_ok shapes mode len (Err e) c h = absurd cc
accepted_ok shapes mode len (Ok p) c h = (p, refl, unsafe_ok (checked p shapes len mode) c (verdict p (signature shapes len mode)) h)

program_grows : (z : StateSizes) (so after : Loading) (p : ProgramLine) → IsBytes p.bytes → IsRising so → after_program z so p ≡ Ok after → Grows so after (Program p)
program_grows z so after p bytes rising h =
    let taken = in_place_ok so after (installed_program z.shapes p.mode p.arg_len p.bytes) h in
    let read = accepted_ok z.shapes p.mode p.arg_len (decoded p.bytes) taken.0 taken.1 in
    let spelled : p.bytes ≡ program_bytes read.0 = (read_is_spelled p.bytes read.0 (are_bytes p.bytes bytes) read.1).spelled in
    let c = checked read.0 z.shapes p.arg_len p.mode in
    let same : program_line c ≡ p = λ i. record { mode = p.mode; arg_len = p.arg_len; bytes = sym spelled i } in
    let line : Program (program_line taken.0) ≡ Program p = ap (λ (d : Checked). Program (program_line d)) (sym read.2) ∙ ap Program same in
    let lines : lines_of (with_program so taken.0).state ≡ lines_of so.state ++ Program p ∷ [] =
    ap (λ u. map Entry (entries_of so.state.maps) ++ u) (map-append (λ (d : Checked). Program (program_line d)) so.state.programs (taken.0 ∷ []) ∙ ap (λ u. map (λ (d : Checked). Program (program_line d)) so.state.programs ++ u ∷ []) line)
    ∙ sym (append_assoc (map Entry (entries_of so.state.maps)) (map (λ (d : Checked). Program (program_line d)) so.state.programs) (Program p ∷ [])) in
    subst (λ a. Grows so a (Program p)) taken.2 (record { lines = lines; rising = rising })

pub grows : (z : StateSizes) (so after : Loading) (m : Meaning) → IsBound z.long m → IsRising so → after_meaning z so (Some m) ≡ Ok after → Grows so after m
grows z so after (Entry e) bound rising h = entry_grows so after e rising h
grows z so after (Program p) bound rising h = program_grows z so after p bound.1 rising h

-- ---- the lines

-- what lines that were all taken say
record Taken (so : Loading) (lines : List (Option (List ℕ))) (s : StoreState) : Type 0 where
  said : List Meaning
  spelled : lines ≡ map Some (map text_of said)
  listed : lines_of s ≡ lines_of so.state ++ said

pub meant : (z : StateSizes) (so after : Loading) (o : Option Meaning) → after_meaning z so o ≡ Ok after → (m : Meaning) × (o ≡ Some m)
meant z so after None h = absurd cc
meant z so after (Some m) h = (m, refl)

one_more : (so after : Loading) (m : Meaning) (text : List ℕ) (lines : List (Option (List ℕ))) (s : StoreState) → text ≡ text_of m → Grows so after m → Taken after lines s → Taken so (Some text ∷ lines) s
one_more so after m text lines s spelled grown taken =
    record {
      said = m ∷ taken.said;
      spelled = ap₂ (λ u v. Some u ∷ v) spelled taken.spelled;
      listed = taken.listed ∙ ap (λ u. u ++ taken.said) grown.lines ∙ append_assoc (lines_of so.state) (m ∷ []) taken.said;
    }

all_taken : (z : StateSizes) (n : ℕ) (so : Loading) (lines : List (Option (List ℕ))) (s : StoreState) → IsRising so → after_lines z n so lines ≡ Ok s → Taken so lines s
unfolding after_lines after_line
all_taken z n so [] s rising h =
    let same : so.state ≡ s = cc in
    record { said = []; spelled = refl; listed = ap lines_of (sym same) ∙ sym (append-nil (lines_of so.state)) }
all_taken z n so (None ∷ lines) s rising h = absurd cc
all_taken z n so (Some text ∷ lines) s rising h = by (after_meaning z so (line_meaning z.long text)) refl h (λ after up g. all_taken z (next_line n) after lines s up g)
  where
    by : (r : Result Loading DumpFault) → after_meaning z so (line_meaning z.long text) ≡ r
        → either (λ why. Err (record { line = n; why = why })) (λ after. after_lines z (next_line n) after lines) r ≡ Ok s
        → ((after : Loading) → IsRising after → after_lines z (next_line n) after lines ≡ Ok s → Taken after lines s) → Taken so (Some text ∷ lines) s
    by (Err why) is h rest = absurd cc
    by (Ok after) is h rest =
        let means = meant z so after (line_meaning z.long text) is in
        let spelled = said z.long text means.0 means.1 in
        let grown = grows z so after means.0 spelled.1 rising (ap (after_meaning z so) (sym means.1) ∙ is) in
        one_more so after means.0 text lines s spelled.0 grown (rest after grown.rising h)

pub opening_rising : (z : StateSizes) → IsRising (opening z)
opening_rising z m k h = subst (λ es. AllBefore es m k) (sym (all_empty 0 z.shapes)) tt

pub no_lines : (z : StateSizes) → lines_of (opening z).state ≡ []
no_lines z = ap (λ es. map Entry es ++ []) (all_empty 0 z.shapes)

pub texts : (ms : List Meaning) → flat_map (λ l. text_of l ++ codes "\n") ms ≡ joined (map text_of ms)
texts [] = refl
texts (m ∷ ms) = ap (λ u. (text_of m ++ 10 ∷ []) ++ u) (texts ms)

pub text_is_dumped : (z : StateSizes) (text : List ℕ) (s : StoreState) → loaded_state z text ≡ Ok s → dump s ≡ text
unfolding loaded_state dump
text_is_dumped z text s h =
    let taken = all_taken z 1 (opening z) (ended_lines text) s (opening_rising z) h in
    let said : lines_of s ≡ taken.said = taken.listed ∙ ap (λ u. u ++ taken.said) (no_lines z) in
    ap (flat_map (λ l. text_of l ++ codes "\n")) said ∙ texts taken.said ∙ sym (text_is_lines text (map text_of taken.said) taken.spelled)
