-- A text that says no state is refused at its first bad line.
use Rattle.std.proofs.Common.{append_assoc, append-nil, ◌≡◌, ℕ, ◌+◌, ◌≤◌, ◌-◌, ◌^◌, min, true, List, [], ◌∷◌, ◌++◌, map, length, Option, Some, None, Result, Ok, Err, refl, sym, ap, ap₂, ◌∙◌, subst, arith}
use Rattle.std.proofs.lemmas.List.{length-map}
use Rattle.std.specs.Prelude.{slice_get}
use Rattle.insn.proofs.Export.{are_bytes}
use Rattle.maps.specs.Shapes.{AreShapesSupported}
use Rattle.text.specs.Lines.{next_line}
use Rattle.loader.specs.declared.installed.TheConstants.{MOST_LONG, MOST_SPARE}
use Rattle.loader.specs.Installed.{installed_program}
use Rattle.loader.specs.StoreState.{StoreState, StateSizes, IsState}
use Rattle.loader.proofs.Export.{number_behind, numbered, opened_is_state}
use Rattle.dumps.specs.declared.refusals.DumpFault.{DumpFault}
use Rattle.dumps.specs.declared.refusals.DumpRefusal.{DumpRefusal}
use Rattle.dumps.specs.Dumping.{entries_of, lines_of, text_of, dump}
use Rattle.dumps.specs.FirstBad.{IsFirstBad, IsLowestFault, RefusedIsFirstBad, meaning_of}
use Rattle.dumps.specs.Grammar.{EntryLine, Meaning, Entry, Program, ended_lines, line_meaning}
use Rattle.dumps.specs.Loading.{Loading, after_ended, after_line, after_lines, after_meaning, either, is_behind, loaded_state, opening, with_entry, with_program}
use Rattle.dumps.proofs.CutLines.{appended, cut}
use Rattle.dumps.proofs.Dumped.{IsRising, entry_listed, grows, in_map_ok, in_place_ok, meant, no_lines, opening_rising, texts}
use Rattle.dumps.proofs.Entries.{passes}
use Rattle.dumps.proofs.LoadedState.{line_is}
use Rattle.dumps.proofs.LowestFaults.{Answers, answered, one_lowest}
use Rattle.dumps.proofs.Placing.{AllBefore, IsBefore, all_parts, behind}
use Rattle.dumps.proofs.Reread.{dump_is_read}
use Rattle.dumps.proofs.SpelledLines.{said}
use Rattle.dumps.proofs.TextLines.{joined}

-- ---- line by line

-- these lines are taken, one after the other
abbrev pub Goes : StateSizes → List (Option (List ℕ)) → Loading → Loading → Type 0
Goes z [] so after = so ≡ after
Goes z (l ∷ ls) so after = (mid : Loading) × (after_ended z so l ≡ Ok mid) × Goes z ls mid after

-- the number of the line behind these, from that of the first
abbrev number_after : ℕ → List (Option (List ℕ)) → ℕ
number_after n [] = n
number_after n (l ∷ ls) = number_after (next_line n) ls

-- a line in its place
blank : Option (List ℕ) → List ℕ
blank l = []

as_lines : (n : ℕ) (ls : List (Option (List ℕ))) → number_after n ls ≡ number_behind n (map blank ls)
as_lines n [] = refl
as_lines n (l ∷ ls) = as_lines (next_line n) ls

number_is : (ls : List (Option (List ℕ))) → number_after 1 ls ≡ next_line (length ls)
number_is ls =
    as_lines 1 ls
    ∙ numbered 1 (map blank ls) (omega arith)
    ∙ ap (λ n. min n (2 ^ 32 - 1)) (let e : length (map blank ls) ≡ length ls = length-map ls blank in let same : 1 + length (map blank ls) ≡ length ls + 1 = omega arith in same)

through : (z : StateSizes) (front back : List (Option (List ℕ))) (n : ℕ) (so after : Loading) → Goes z front so after → after_lines z n so (front ++ back) ≡ after_lines z (number_after n front) after back
unfolding after_lines
through z [] back n so after g = ap (λ x. after_lines z n x back) g
through z (l ∷ front) back n so after (mid, step, g) = rw step (through z front back (next_line n) mid after g)

-- what leads to a state
goes_from : (z : StateSizes) (ls : List (Option (List ℕ))) (n : ℕ) (so : Loading) (s : StoreState) → after_lines z n so ls ≡ Ok s → (after : Loading) × Goes z ls so after × (after.state ≡ s)
unfolding after_lines
goes_from z [] n so s h = (so, refl, cc)
goes_from z (l ∷ ls) n so s h = by (after_ended z so l) refl h (λ mid k. goes_from z ls (next_line n) mid s k)
  where
    by : (r : Result Loading DumpFault) → after_ended z so l ≡ r → either (λ why. Err (record { line = n; why = why })) (λ after. after_lines z (next_line n) after ls) r ≡ Ok s
        → ((mid : Loading) → after_lines z (next_line n) mid ls ≡ Ok s → (after : Loading) × Goes z ls mid after × (after.state ≡ s)) → (after : Loading) × Goes z (l ∷ ls) so after × (after.state ≡ s)
    by (Err why) is h rest = absurd cc
    by (Ok mid) is h rest = let r = rest mid h in (r.0, (mid, is, r.1), r.2)

-- what leads to a refusal
abbrev refusal : ℕ → DumpFault → DumpRefusal
refusal n why = record { line = n; why = why }

record BadAt (z : StateSizes) (ls : List (Option (List ℕ))) (n : ℕ) (so : Loading) (e : DumpRefusal) : Type 0 where
  before : List (Option (List ℕ))
  line : Option (List ℕ)
  rest : List (Option (List ℕ))
  split : ls ≡ before ++ line ∷ rest
  so_far : Loading
  good : Goes z before so so_far
  bad : after_ended z so_far line ≡ Err e.why
  number : e.line ≡ number_after n before

bad_from : (z : StateSizes) (ls : List (Option (List ℕ))) (n : ℕ) (so : Loading) (e : DumpRefusal) → after_lines z n so ls ≡ Err e → BadAt z ls n so e
unfolding after_lines
bad_from z [] n so e h = absurd cc
bad_from z (l ∷ ls) n so e h = by (after_ended z so l) refl h (λ mid k. bad_from z ls (next_line n) mid e k)
  where
    by : (r : Result Loading DumpFault) → after_ended z so l ≡ r → either (λ why. Err (record { line = n; why = why })) (λ after. after_lines z (next_line n) after ls) r ≡ Err e
        → ((mid : Loading) → after_lines z (next_line n) mid ls ≡ Err e → BadAt z ls (next_line n) mid e) → BadAt z (l ∷ ls) n so e
    by (Err why) is h rest =
        let same : refusal n why ≡ e = cc in
        record { before = []; line = l; rest = ls; split = refl; so_far = so; good = refl; bad = is ∙ ap (λ (x : DumpRefusal). Err x.why) same; number = ap (λ (x : DumpRefusal). x.line) (sym same) }
    by (Ok mid) is h rest =
        let b = rest mid h in
        record { before = l ∷ b.before; line = b.line; rest = b.rest; split = ap (λ x. l ∷ x) b.split; so_far = b.so_far; good = (mid, is, b.good); bad = b.bad; number = b.number }

-- ---- what is kept

-- the last entry is the one that all others stand before
abbrev IsLast : Loading → Type 0
IsLast so = (m : ℕ) (k : List ℕ) → AllBefore (entries_of so.state.maps) m k → is_behind so.last m k ≡ true

record Kept (z : StateSizes) (so : Loading) : Type 0 where
  state : IsState z so.state
  rising : IsRising so
  last : IsLast so

last_kept : (z : StateSizes) (so after : Loading) (m : Meaning) → IsRising so → IsLast so → after_meaning z so (Some m) ≡ Ok after → IsLast after
last_kept z so after (Entry e) rising kept h =
    let taken = in_map_ok so after e (slice_get so.state.maps e.map) h in
    let p = passes so e taken.0 (sym taken.2) in
    let listed = entry_listed so e taken.0 rising taken.1 p in
    let is : IsLast (with_entry so e) = λ m k all. behind e m k (all_parts (λ (d : EntryLine). IsBefore d m k) (entries_of so.state.maps) (e ∷ []) (subst (λ es. AllBefore es m k) listed all)).1.0 in
    subst IsLast taken.3 is
last_kept z so after (Program p) rising kept h =
    let taken = in_place_ok so after (installed_program z.shapes p.mode p.arg_len p.bytes) h in
    let is : IsLast (with_program so taken.0) = kept in
    subst IsLast taken.2 is

-- what lines that were taken say
record Said (so : Loading) (lines : List (Option (List ℕ))) (after : Loading) : Type 0 where
  said_by : List Meaning
  spelled : lines ≡ map Some (map text_of said_by)
  listed : lines_of after.state ≡ lines_of so.state ++ said_by

module _ (z : StateSizes) (ok : AreShapesSupported z.shapes) (limit : z.long ≤ MOST_LONG) where
  one_line : (so after : Loading) (l : Option (List ℕ)) → Kept z so → after_ended z so l ≡ Ok after → Kept z after × Said so (l ∷ []) after
  unfolding after_line
  one_line so after None kept h = absurd cc
  one_line so after (Some text) kept h =
      let means = meant z so after (line_meaning z.long text) h in
      let m = means.0 in
      let step : after_meaning z so (Some m) ≡ Ok after = ap (after_meaning z so) (sym means.1) ∙ h in
      let spelled = said z.long text m means.1 in
      let grown = grows z so after m spelled.1 kept.rising step in (
        record { state = line_is z ok limit so after kept.state (Some text) h; rising = grown.rising; last = last_kept z so after m kept.rising kept.last step },
        record { said_by = m ∷ []; spelled = ap (λ u. Some u ∷ []) spelled.0; listed = grown.lines },
      )

  all_lines : (lines : List (Option (List ℕ))) (so after : Loading) → Kept z so → Goes z lines so after → Kept z after × Said so lines after
  all_lines [] so after kept g =
      (subst (Kept z) g kept, record { said_by = []; spelled = refl; listed = ap (λ (x : Loading). lines_of x.state) (sym g) ∙ sym (append-nil (lines_of so.state)) })
  all_lines (l ∷ lines) so after kept (mid, step, g) =
      let first = one_line so mid l kept step in
      let rest = all_lines lines mid after first.0 g in (
        rest.0,
        record {
          said_by = first.1.said_by ++ rest.1.said_by;
          spelled = ap₂ (λ u v. u ++ v) first.1.spelled rest.1.spelled ∙ sym (both first.1.said_by rest.1.said_by);
          listed = rest.1.listed ∙ ap (λ u. u ++ rest.1.said_by) first.1.listed ∙ append_assoc (lines_of so.state) first.1.said_by rest.1.said_by;
        },
      )
    where
      both : (xs ys : List Meaning) → map Some (map text_of (xs ++ ys)) ≡ map Some (map text_of xs) ++ map Some (map text_of ys)
      both [] ys = refl
      both (x ∷ xs) ys = ap (λ u. Some (text_of x) ∷ u) (both xs ys)

  opened : z.places ≤ MOST_SPARE → Kept z (opening z)
  opened few = record { state = opened_is_state z ok few limit; rising = opening_rising z; last = λ m k all. refl }

  -- what a line is answered, behind these
  line_answered : (so : Loading) (l : Option (List ℕ)) → Kept z so → Answers so.state (meaning_of z.long l) (after_ended z so l)
  unfolding after_line
  line_answered so None kept = answered z so None (sym kept.state.maps.same) kept.state.maps.each kept.rising kept.last (λ e none. absurd cc)
  line_answered so (Some text) kept =
      answered z so (line_meaning z.long text) (sym kept.state.maps.same) kept.state.maps.each kept.rising kept.last (λ e means. are_bytes e.key (said z.long text (Entry e) means).1.0)

lowest_of : (s : StoreState) (m : Option Meaning) (r : Result Loading DumpFault) (why : DumpFault) → Answers s m r → r ≡ Err why → IsLowestFault s m why
lowest_of s m (Ok after) why a e = absurd cc
lowest_of s m (Err other) why a e = let same : other ≡ why = cc in subst (IsLowestFault s m) same a

refused_of : (s : StoreState) (m : Option Meaning) (r : Result Loading DumpFault) (why : DumpFault) → Answers s m r → IsLowestFault s m why → r ≡ Err why
refused_of s m (Ok after) why a low = absurd (a why low.has)
refused_of s m (Err other) why a low = ap Err (one_lowest s m other why a low)

-- ---- the text

from_refusal : (z : StateSizes) (text : List ℕ) (e : DumpRefusal) → AreShapesSupported z.shapes → z.places ≤ MOST_SPARE → z.long ≤ MOST_LONG → loaded_state z text ≡ Err e → IsFirstBad z text e
unfolding loaded_state dump
from_refusal z text e ok few limit h =
    let b = bad_from z (ended_lines text) 1 (opening z) e h in
    let read = all_lines z ok limit b.before (opening z) b.so_far (opened z ok limit few) b.good in
    let kept = read.0 in
    let said_by = read.1.said_by in
    let lines : lines_of b.so_far.state ≡ said_by = read.1.listed ∙ ap (λ u. u ++ said_by) (no_lines z) in
    let at = cut text (map text_of said_by) (b.line ∷ b.rest) (b.split ∙ ap (λ u. u ++ b.line ∷ b.rest) read.1.spelled) in
    let text_before : dump b.so_far.state ≡ joined (map text_of said_by) = texts (lines_of b.so_far.state) ∙ ap (λ u. joined (map text_of u)) lines in
    let count : length b.before ≡ length (lines_of b.so_far.state) = ap length read.1.spelled ∙ length-map (map text_of said_by) Some ∙ length-map said_by text_of ∙ ap length (sym lines) in
    record {
      before = b.so_far.state;
      state = kept.state;
      rest = at.rest;
      split = at.split ∙ ap (λ u. u ++ at.rest) (sym text_before);
      line = b.line;
      behind = b.rest;
      first = at.first;
      fault = lowest_of b.so_far.state (meaning_of z.long b.line) (after_ended z b.so_far b.line) e.why (line_answered z ok limit b.so_far b.line kept) b.bad;
      number = b.number ∙ number_is b.before ∙ ap next_line count;
    }

at_bad : (z : StateSizes) (n : ℕ) (so : Loading) (l : Option (List ℕ)) (ls : List (Option (List ℕ))) (e : DumpRefusal) → after_ended z so l ≡ Err e.why → n ≡ e.line → after_lines z n so (l ∷ ls) ≡ Err e
unfolding after_lines
at_bad z n so l ls e bad number = rw (bad, number) refl

to_refusal : (z : StateSizes) (text : List ℕ) (e : DumpRefusal) → AreShapesSupported z.shapes → z.places ≤ MOST_SPARE → z.long ≤ MOST_LONG → IsFirstBad z text e → loaded_state z text ≡ Err e
unfolding loaded_state
to_refusal z text e ok few limit b =
    let good = goes_from z (ended_lines (dump b.before)) 1 (opening z) b.before (dump_is_read z b.before b.state) in
    let so = good.0 in
    let read = all_lines z ok limit (ended_lines (dump b.before)) (opening z) so (opened z ok limit few) good.1 in
    let said_by = read.1.said_by in
    let listed : lines_of b.before ≡ said_by = ap lines_of (sym good.2) ∙ read.1.listed ∙ ap (λ u. u ++ said_by) (no_lines z) in
    let lines : ended_lines text ≡ ended_lines (dump b.before) ++ b.line ∷ b.behind =
    ap ended_lines b.split ∙ appended (dump b.before) b.rest (map text_of said_by) read.1.spelled ∙ ap₂ (λ u v. u ++ v) (sym read.1.spelled) b.first in
    let low : IsLowestFault so.state (meaning_of z.long b.line) e.why = subst (λ s. IsLowestFault s (meaning_of z.long b.line) e.why) (sym good.2) b.fault in
    let bad = refused_of so.state (meaning_of z.long b.line) (after_ended z so b.line) e.why (line_answered z ok limit so b.line read.0) low in
    let count : length (ended_lines (dump b.before)) ≡ length (lines_of b.before) = ap length read.1.spelled ∙ length-map (map text_of said_by) Some ∙ length-map said_by text_of ∙ ap length (sym listed) in
    let number : number_after 1 (ended_lines (dump b.before)) ≡ e.line = number_is (ended_lines (dump b.before)) ∙ ap next_line count ∙ sym b.number in
    ap (after_lines z 1 (opening z)) lines
    ∙ through z (ended_lines (dump b.before)) (b.line ∷ b.behind) 1 (opening z) so good.1
    ∙ at_bad z (number_after 1 (ended_lines (dump b.before))) so b.line b.behind e bad number

pub refused_is_first_bad : RefusedIsFirstBad
refused_is_first_bad z text e ok few limit = (from_refusal z text e ok few limit, to_refusal z text e ok few limit)
