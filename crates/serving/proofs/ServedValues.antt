-- Calls with values are served as the script that `encode` makes of them.
use Rattle.std.proofs.Common.{◌≡◌, ◌⊎◌, inl, inr, ℕ, suc, Bool, true, false, List, [], ◌∷◌, ◌++◌, Option, Result, Ok, refl, sym, ap, subst, ◌∙◌, length, length-append, arith}
use Rattle.std.specs.Prelude.{option_and_then, unwrap_or}
use Rattle.std.specs.List.{list_all}
use Rattle.std.specs.Result.{result_ok}
use Rattle.std.specs.Str.{is_utf8}
use Rattle.std.proofs.lemmas.Bool.{and_parts}
use Rattle.text.specs.Lines.{kind_of, lines_of, next_line}
use Rattle.text.specs.Words.{is_name}
use Rattle.text.proofs.Export.{lines_of-cut}
use Rattle.encoding.specs.Encoded.{call_line, digits_of, encoded, encoded_from, encoded_text, named_line, script_line}
use Rattle.encoding.proofs.Export.{is_feedless, line_feedless, line_or_call, line_text, lines_feedless, no_feed, split_behind}
use Rattle.loader.specs.CatalogueView.{CatalogueView}
use Rattle.oplog.specs.declared.configuration.TheConstants.{ENDLESS}
use Rattle.oplog.specs.History.{History}
use Rattle.running.specs.RunAnswer.{Turn, bad_line, line_turn}
use Rattle.serving.specs.ServeAnswer.{ServiceState, Served, served, served_after, nothing_served, text_turn}
use Rattle.serving.specs.StoreText.{asks}
use Rattle.serving.specs.ServeLaws.{ServedIsEncoded, IsServedAlike}
use Rattle.serving.proofs.KeptLines.{one_mark}
use Rattle.serving.proofs.ServedLines.{Ends, all_served, ends_behind, ends_so, lines_served}

-- ---- one line

-- neither a line that `encode` takes nor its line of a script asks what the store has
one_mark_refused : (written : List ℕ) → encoded (63 ∷ []) ≡ Ok written → ⊥
unfolding encoded call_line named_line kind_of is_name
one_mark_refused written is = cc

abbrev first_of : List ℕ → ℕ
first_of [] = 0
first_of (x ∷ xs) = x

never_one : (name rest : List ℕ) → name ++ 32 ∷ rest ≡ 63 ∷ [] → ⊥
never_one [] rest is = let same : 32 ≡ 63 = ap first_of is in omega (arith, same)
never_one (x ∷ name) rest is = let long : suc (length (name ++ 32 ∷ rest)) ≡ 1 = ap length is in omega (arith, long, length-append name (32 ∷ rest))

quiet_line : (line written : List ℕ) → encoded line ≡ Ok written → asks line ≡ false
quiet_line line written is = by_test (asks line) refl
  where
    by_test : (b : Bool) → asks line ≡ b → asks line ≡ false
    by_test false off = off
    by_test true on = absurd (one_mark_refused written (subst (λ l. encoded l ≡ Ok written) (one_mark line on) is))

quiet_written : (line written : List ℕ) → encoded line ≡ Ok written → asks written ≡ false
quiet_written line written is = by_form (line_or_call line written is)
  where
    by_form : (written ≡ line) ⊎ ((name : List ℕ) × (argument : List ℕ) × (written ≡ script_line name argument)) → asks written ≡ false
    by_form (inl same) = ap asks same ∙ quiet_line line written is
    by_form (inr call) = by_test (asks written) refl
      where
        by_test : (b : Bool) → asks written ≡ b → asks written ≡ false
        by_test false off = off
        by_test true on = absurd (never_one call.0 (digits_of call.1) (sym call.2 ∙ one_mark written on))

module _ (c : CatalogueView) (h : History) (line written : List ℕ) (text : is_utf8 line ≡ true) (is : encoded line ≡ Ok written) where
  same_turn : text_turn true c h line ≡ text_turn false c h written
  same_turn =
      let other : is_utf8 written ≡ true = line_text line written text is in
      rw (quiet_line line written is) (rw (quiet_written line written is) (rw text (rw other (ap (λ (r : Result (List ℕ) _). option_and_then (line_turn ENDLESS c h) (result_ok r)) is))))

-- ---- all lines

-- with values, and as script lines
abbrev with_values : ℕ → History → ServiceState
with_values n h = record { has_values = true; number = n; history = h; left = [] }

abbrev of_script : ℕ → History → ServiceState
of_script n h = record { has_values = false; number = n; history = h; left = [] }

after_same : (c : CatalogueView) (n : ℕ) (t u : Turn) (ls ms : List (List ℕ)) → t ≡ u
    → ((h : History) → IsServedAlike (lines_served c (with_values n h) ls) (lines_served c (of_script n h) ms))
    → IsServedAlike (served_after t.text (lines_served c (with_values n t.history) ls)) (served_after u.text (lines_served c (of_script n u.history) ms))
after_same c n t u ls ms is on =
    let next = on u.history in
    subst (λ (x : Turn). IsServedAlike (served_after x.text (lines_served c (with_values n x.history) ls)) (served_after u.text (lines_served c (of_script n u.history) ms))) (sym is)
    (record { text = ap (λ (x : List ℕ). u.text ++ x) next.text; history = next.history })

alike : (c : CatalogueView) (n m : ℕ) (ls : List (List ℕ)) (script : List ℕ) → list_all is_feedless ls ≡ true → list_all is_utf8 ls ≡ true → encoded_from m ls ≡ Ok script
    → (h : History) → IsServedAlike (lines_served c (with_values n h) ls) (lines_served c (of_script n h) (lines_of script))
unfolding encoded_from
alike c n m [] script feedless texts is h =
    let none : [] ≡ script = cc in
    subst (λ s. IsServedAlike (lines_served c (with_values n h) []) (lines_served c (of_script n h) (lines_of s))) none (record { text = refl; history = refl })
alike c n m (line ∷ ls) script feedless texts is h =
    let parts = split_behind m (encoded line) (encoded_from (next_line m) ls) script is in
    let first = and_parts (is_feedless line) (list_all is_feedless ls) feedless in
    let text = and_parts (is_utf8 line) (list_all is_utf8 ls) texts in
    let cut : lines_of script ≡ parts.0 ∷ lines_of parts.1 = ap lines_of parts.4 ∙ lines_of-cut parts.0 parts.1 (no_feed parts.0 (line_feedless line parts.0 first.0 parts.2)) in
    let bad : Turn = record { text = (bad_line n).text; history = h } in
    subst (λ l. IsServedAlike (lines_served c (with_values n h) (line ∷ ls)) (lines_served c (of_script n h) l)) (sym cut)
    (after_same c (next_line n) _ _ ls (lines_of parts.1) (ap (λ (t : Option Turn). unwrap_or t bad) (same_turn c h line parts.0 text.0 parts.2))
    (alike c (next_line n) (next_line m) ls parts.1 first.1 text.1 parts.3))

-- ---- each line of the script ends

ends_more : (xs ys : List ℕ) → Ends ys → Ends (xs ++ ys)
ends_more [] ys ends = ends
ends_more (x ∷ []) [] ends = absurd ends
ends_more (x ∷ []) (y ∷ ys) ends = ends
ends_more (x ∷ z ∷ xs) ys ends = ends_more (z ∷ xs) ys ends

ends_after : (xs ys : List ℕ) → (ys ≡ []) ⊎ Ends ys → Ends (xs ++ 10 ∷ ys)
ends_after xs ys (inl none) = subst (λ y. Ends (xs ++ 10 ∷ y)) (sym none) (ends_behind xs)
ends_after xs [] (inr ends) = absurd ends
ends_after xs (y ∷ ys) (inr ends) = ends_more xs (10 ∷ y ∷ ys) ends

script_ends : (m : ℕ) (ls : List (List ℕ)) (script : List ℕ) → encoded_from m ls ≡ Ok script → (script ≡ []) ⊎ Ends script
unfolding encoded_from
script_ends m [] script is = inl cc
script_ends m (line ∷ ls) script is =
    let parts = split_behind m (encoded line) (encoded_from (next_line m) ls) script is in
    inr (subst Ends (sym parts.4) (ends_after parts.0 parts.1 (script_ends (next_line m) ls parts.1 parts.3)))

pub served_is_encoded : ServedIsEncoded
unfolding encoded_text
served_is_encoded c text script ends texts is =
    subst (λ (t : Served). IsServedAlike t (served c (nothing_served false) script)) (sym (all_served c (nothing_served true) text refl (ends_so text ends)))
    (subst (λ (t : Served). IsServedAlike (lines_served c (nothing_served true) (lines_of text)) t) (sym (all_served c (nothing_served false) script refl (script_ends 1 (lines_of text) script is)))
    (alike c 1 1 (lines_of text) script (lines_feedless text) texts is []))
