-- A state that a text says is a state of the sizes that it was read for.
use Rattle.std.proofs.Common.{◌≡◌, ◌≤◌, ◌<◌, ℕ, Bool, true, false, List, [], ◌∷◌, length, Option, Some, None, Result, Ok, Err, refl, sym, subst}
use Rattle.std.specs.Prelude.{nat_lt, slice_get, if◌then◌else◌}
use Rattle.std.proofs.lemmas.Bool.{ltb-true}
use Rattle.insn.proofs.Export.{are_bytes}
use Rattle.maps.specs.Shapes.{AreShapesSupported}
use Rattle.verifier.specs.Accepted.{Checked}
use Rattle.text.specs.Lines.{next_line}
use Rattle.loader.specs.declared.installed.InstallRefusal.{InstallRefusal}
use Rattle.loader.specs.declared.installed.TheConstants.{MOST_LONG, MOST_SPARE}
use Rattle.loader.specs.Installed.{installed_program}
use Rattle.loader.specs.StoreState.{StoreState, StateSizes, IsState, installed_for}
use Rattle.loader.proofs.Export.{installed_is_accepted, one_more_installed, opened_is_state}
use Rattle.dumps.specs.declared.refusals.DumpFault.{DumpFault}
use Rattle.dumps.specs.declared.refusals.DumpFault.TheVariants as faults
use Rattle.dumps.specs.Grammar.{EntryLine, ProgramLine, Meaning, Entry, Program, ended_lines, line_meaning}
use Rattle.dumps.specs.Loading.{Loading, in_map, with_program, in_place, after_meaning, after_line, after_ended, after_lines, either, opening, loaded_state}
use Rattle.dumps.proofs.Entries.{passes, key_fits}
use Rattle.dumps.proofs.Kept.{maps_keep}
use Rattle.dumps.proofs.SpelledLines.{IsBound, said}
use Rattle.dumps.proofs.Dumped.{in_map_ok}

module _ (z : StateSizes) (ok : AreShapesSupported z.shapes) (limit : z.long ≤ MOST_LONG) where
  abbrev Is : StoreState → Type 0
  Is s = IsState z s

  module _ (so after : Loading) (is : Is so.state) where
    ends_at : (l : Loading) → Is l.state → l ≡ after → Is after.state
    ends_at l f same = subst (λ (x : Loading). Is x.state) same f

    entry_is : (e : EntryLine) → IsBound z.long (Entry e) → in_map so e (slice_get so.state.maps e.map) ≡ Ok after → Is after.state
    entry_is e bound h =
        let taken = in_map_ok so after e (slice_get so.state.maps e.map) h in
        let s = taken.0 in
        let p = passes so e s (sym taken.2) in
        let maps = maps_keep z.shapes so.state.maps e.map s e.key e.value is.maps taken.1 (key_fits s e.key p.key, are_bytes e.key bound.0) (p.value, are_bytes e.value bound.1) p.room in
        subst (λ (x : Loading). Is x.state) taken.3 (record { maps = maps; places = is.places; long = is.long; programs = is.programs })

    program_put : (p : ProgramLine) (c : Checked) (b : Bool) → IsBound z.long (Program p) → installed_program z.shapes p.mode p.arg_len p.bytes ≡ Ok c → nat_lt (length so.state.programs) so.state.places ≡ b
        → (if b then Ok (with_program so c) else Err faults.TooManyPrograms) ≡ Ok after → Is after.state
    program_put p c false bound read full h = absurd cc
    program_put p c true bound read free h =
        let known = installed_is_accepted z.shapes p.mode p.arg_len z.long p.bytes c ok bound.0 limit (are_bytes p.bytes bound.1) bound.2 read in
        let below : length so.state.programs < z.places = subst (λ n. length so.state.programs < n) is.places (ltb-true (length so.state.programs) so.state.places free) in
        let programs = one_more_installed (installed_for z so.state.programs) c is.programs below known.0 known.1 known.2 in
        ends_at (with_program so c) (record { maps = is.maps; places = is.places; long = is.long; programs = programs }) cc

    program_is : (p : ProgramLine) → IsBound z.long (Program p) → (r : Result Checked InstallRefusal) → installed_program z.shapes p.mode p.arg_len p.bytes ≡ r → in_place so r ≡ Ok after → Is after.state
    program_is p bound (Err e) read h = absurd cc
    program_is p bound (Ok c) read h = program_put p c (nat_lt (length so.state.programs) so.state.places) bound read refl h

    meaning_is : (m : Option Meaning) → ((x : Meaning) → m ≡ Some x → IsBound z.long x) → after_meaning z so m ≡ Ok after → Is after.state
    meaning_is None bound h = absurd cc
    meaning_is (Some (Entry e)) bound h = entry_is e (bound (Entry e) refl) h
    meaning_is (Some (Program p)) bound h = program_is p (bound (Program p) refl) (installed_program z.shapes p.mode p.arg_len p.bytes) refl h

    pub line_is : (l : Option (List ℕ)) → after_ended z so l ≡ Ok after → Is after.state
    unfolding after_line
    line_is None h = absurd cc
    line_is (Some line) h = meaning_is (line_meaning z.long line) (λ m means. (said z.long line m means).1) h

  lines_are : (n : ℕ) (so : Loading) (ls : List (Option (List ℕ))) (s : StoreState) → Is so.state → after_lines z n so ls ≡ Ok s → Is s
  unfolding after_lines
  lines_are n so [] s is h =
      let same : so.state ≡ s = cc in
      subst (λ (x : StoreState). Is x) same is
  lines_are n so (l ∷ ls) s is h = by (after_ended z so l) refl (λ after. lines_are (next_line n) after ls s) h
    where
      by : (r : Result Loading DumpFault) → after_ended z so l ≡ r
          → ((after : Loading) → Is after.state → after_lines z (next_line n) after ls ≡ Ok s → Is s)
          → either (λ why. Err (record { line = n; why = why })) (λ after. after_lines z (next_line n) after ls) r ≡ Ok s → Is s
      by (Err why) taken rest h = absurd cc
      by (Ok after) taken rest h = rest after (line_is so after is l taken) h

  pub loaded_is_state : (text : List ℕ) (s : StoreState) → z.places ≤ MOST_SPARE → loaded_state z text ≡ Ok s → IsState z s
  unfolding loaded_state
  loaded_is_state text s few h = lines_are 1 (opening z) (ended_lines text) s (opened_is_state z ok few limit) h
