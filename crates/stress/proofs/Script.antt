-- The loop over the lines of a script: one line on, a bad line, and the end.
use Rattle.std.proofs.Common.{◌≡◌, ℕ, List, [], ◌∷◌, ◌++◌, Some, None, Result, Ok, Err, map, refl, sym, ap, ◌∙◌}
use Rattle.std.specs.Result.{result_map_both}
use Rattle.std.proofs.lemmas.List.{append_assoc, append-nil, map_push}
use Rattle.text.specs.Lines.{next_line}
use Rattle.loader.specs.CatalogueView.{CatalogueView}
use Rattle.stress.specs.Playing.{line_calls}
use Rattle.stress.specs.declared.calls.ScriptCall.{ScriptCall}
use Rattle.stress.specs.Calls.{Called, script_calls}
use Rattle.stress.specs.Shown.{called}

-- these calls before those of the lines behind
abbrev pub before : List Called → Result (List Called) ℕ → Result (List Called) ℕ
before calls r = result_map_both (λ more. calls ++ more) (λ bad. bad) r

before_more : (a b : List Called) (r : Result (List Called) ℕ) → before a (before b r) ≡ before (a ++ b) r
before_more a b (Ok more) = ap Ok (sym (append_assoc a b more))
before_more a b (Err n) = refl

module _ (c : CatalogueView) (n : ℕ) (all : List (List ℕ)) (line : List ℕ) (rest : List (List ℕ)) (first : all ≡ line ∷ rest) where
  here : (said : List Called) → Some said ≡ line_calls c n line → script_calls c n all ≡ before said (script_calls c (next_line n) rest)
  unfolding script_calls
  here said is = rw (first, sym is) refl

  -- a comment
  pub none_here : (calls : List Called) → Some [] ≡ line_calls c n line → before calls (script_calls c (next_line n) rest) ≡ before calls (script_calls c n all)
  none_here calls is =
      sym (ap (before calls) (here [] is) ∙ before_more calls [] (script_calls c (next_line n) rest) ∙ ap (λ xs. before xs (script_calls c (next_line n) rest)) (append-nil calls))

  -- a call
  pub one_here : (calls : List ScriptCall) (call : ScriptCall) → Some (called call ∷ []) ≡ line_calls c n line
      → before (map called (calls ++ call ∷ [])) (script_calls c (next_line n) rest) ≡ before (map called calls) (script_calls c n all)
  one_here calls call is =
      ap (λ xs. before xs (script_calls c (next_line n) rest)) (map_push called calls call)
      ∙ sym (ap (before (map called calls)) (here (called call ∷ []) is) ∙ before_more (map called calls) (called call ∷ []) (script_calls c (next_line n) rest))

  pub bad_here : (calls : List Called) → None ≡ line_calls c n line → before calls (script_calls c n all) ≡ Err n
  unfolding script_calls
  bad_here calls is = rw (first, sym is) refl

pub all_read : (c : CatalogueView) (n : ℕ) (all : List (List ℕ)) (calls : List Called) → all ≡ [] → before calls (script_calls c n all) ≡ Ok calls
unfolding script_calls
all_read c n all calls empty = rw empty (ap Ok (append-nil calls))
