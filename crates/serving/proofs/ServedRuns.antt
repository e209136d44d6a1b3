-- A text whose lines all end is served as its lines are run.
use Rattle.std.proofs.Common.{◌≡◌, ℕ, true, false, List, [], ◌∷◌, ◌++◌, Option, Some, None, refl, sym, ap, subst, ◌∙◌, append_assoc, arith}
use Rattle.std.specs.Prelude.{not, unwrap_or}
use Rattle.std.specs.Option.{option_map_or}
use Rattle.std.specs.List.{list_all}
use Rattle.std.proofs.lemmas.Bool.{and_parts, not-true}
use Rattle.text.specs.Lines.{lines_of, next_line}
use Rattle.loader.specs.CatalogueView.{CatalogueView}
use Rattle.oplog.specs.declared.configuration.TheConstants.{MAX_LIMIT, ENDLESS}
use Rattle.oplog.specs.History.{History}
use Rattle.std.specs.Str.{is_utf8}
use Rattle.engine.specs.Answer.{Answer}
use Rattle.running.specs.RunAnswer.{Turn, line_turn, behind, bad_line, lines_answer}
use Rattle.running.proofs.Export.{limit_is_unfelt}
use Rattle.serving.specs.ServeAnswer.{ServiceState, Served, nothing_served, served_text, text_turn, turn_at}
use Rattle.serving.specs.ServeLaws.{BeginsAs, ServedIsRunWithoutEnd, ServedIsRun}
use Rattle.serving.specs.StoreText.{asks}
use Rattle.serving.proofs.ServedLines.{lines_served, all_served, ends_so}

-- ---- one line

-- a bad line writes that it is, and the history stays
abbrev or_bad : ℕ → History → Option Turn → Turn
or_bad n h o = unwrap_or o (record { text = (bad_line n).text; history = h })

by_line : (n : ℕ) (h : History) (o : Option Turn) (text : List ℕ) (next : Turn → Answer) → BeginsAs text (next (or_bad n h o))
    → BeginsAs ((or_bad n h o).text ++ text) (option_map_or (λ turn. behind turn.text (next turn)) o (bad_line n))
by_line n h None text next behind_it = record { rest = text; same = refl; whole = λ good. absurd cc }
by_line n h (Some turn) text next behind_it =
    record {
      rest = behind_it.rest;
      same = ap (λ (x : List ℕ). turn.text ++ x) behind_it.same ∙ sym (append_assoc turn.text (next turn).text behind_it.rest);
      whole = behind_it.whole;
    }

module _ (c : CatalogueView) (n : ℕ) (h : History) where
  abbrev at : List ℕ → ServiceState
  at before = record { has_values = false; number = n; history = h; left = before }

  is_turn : (line : List ℕ) → is_utf8 line ≡ true → not (asks line) ≡ true → text_turn false c h line ≡ line_turn ENDLESS c h line
  is_turn line text quiet = rw (not-true (asks line) quiet) (rw text refl)

  line_begins : (line text : List ℕ) (ls : List (List ℕ)) → is_utf8 line ≡ true → not (asks line) ≡ true → BeginsAs text (lines_answer ENDLESS c (next_line n) (turn_at c (at line)).history ls)
      → BeginsAs ((turn_at c (at line)).text ++ text) (lines_answer ENDLESS c n h (line ∷ ls))
  unfolding lines_answer
  line_begins line text ls is quiet behind_it =
      subst (λ (o : Option Turn). BeginsAs ((or_bad n h (text_turn false c h line)).text ++ text) (option_map_or (λ turn. behind turn.text (lines_answer ENDLESS c (next_line n) turn.history ls)) o (bad_line n)))
      (is_turn line is quiet) (by_line n h (text_turn false c h line) text (λ turn. lines_answer ENDLESS c (next_line n) turn.history ls) behind_it)

nothing_begins : (c : CatalogueView) (n : ℕ) (h : History) → BeginsAs [] (lines_answer ENDLESS c n h [])
unfolding lines_answer
nothing_begins c n h = record { rest = []; same = refl; whole = λ good. refl }

-- ---- all lines

runs_on : (c : CatalogueView) (n : ℕ) (h : History) (ls : List (List ℕ)) → list_all is_utf8 ls ≡ true → list_all (λ line. not (asks line)) ls ≡ true → BeginsAs (lines_served c (at c n h []) ls).text (lines_answer ENDLESS c n h ls)
runs_on c n h [] texts quiet = nothing_begins c n h
runs_on c n h (l ∷ ls) texts quiet =
    let parts = and_parts (is_utf8 l) (list_all is_utf8 ls) texts in
    let asked = and_parts (not (asks l)) (list_all (λ line. not (asks line)) ls) quiet in
    let turn = turn_at c (at c n h l) in
    line_begins c n h l (lines_served c (at c (next_line n) turn.history []) ls).text ls parts.0 asked.0 (runs_on c (next_line n) turn.history ls parts.1 asked.1)

pub served_is_endless : ServedIsRunWithoutEnd
served_is_endless c bytes ends texts quiet =
    subst (λ (t : Served). BeginsAs t.text (lines_answer ENDLESS c 1 [] (lines_of bytes))) (sym (all_served c (nothing_served false) bytes refl (ends_so bytes ends)))
    (runs_on c 1 [] (lines_of bytes) texts quiet)

pub served_is_run : ServedIsRun
served_is_run c bytes ends texts quiet few =
    subst (BeginsAs (served_text false c bytes)) (sym (limit_is_unfelt MAX_LIMIT ENDLESS c 1 [] (lines_of bytes) (omega arith) few)) (served_is_endless c bytes ends texts quiet)
