-- The files that are listed are those that the loading asks for.
use Rattle.maps.specs.declared.shapes.MapLimits.{MapLimits}
use Rattle.std.proofs.Common.{◌≡◌, ◌⊎◌, inl, inr, ℕ, zero, suc, true, false, List, [], ◌∷◌, ◌++◌, codes, decimal, Option, Some, None, Result, Ok, Err, refl, sym, ap, subst, ◌∙◌, arith, append_assoc}
use Rattle.std.specs.List.{Any, Contains, cons_option, filter_map, list_all}
use Rattle.std.proofs.lemmas.Bool.{and_parts}
use Rattle.std.proofs.lemmas.Bool.Decides.{nat_tests}
use Rattle.text.specs.Fields.{is_space, has_no_space, split_at_space}
use Rattle.text.specs.Lines.{lines_of, next_line}
use Rattle.text.proofs.Export.{steps, split_to}
use Rattle.maps.specs.declared.shapes.Shape.{Shape}
use Rattle.loader.specs.declared.grammar.FirstWord.{FirstWord}
use Rattle.loader.specs.declared.grammar.FirstWord.TheVariants as words
use Rattle.loader.specs.declared.refusals.LoadFault.{LoadFault}
use Rattle.loader.specs.Grammar.{is_path_byte, is_path, ProgramLine, Meaning, Comment, Map, Program, words_of, line_meaning}
use Rattle.loader.specs.Spelling.{mode_word, program_spelling}
use Rattle.loader.specs.CatalogueView.{CatalogueView}
use Rattle.loader.specs.ProgramFiles.{Files, file_named, entry_for}
use Rattle.loader.specs.Loading.{either, with_program, after_meaning, after_line, after_lines, nothing_yet, loaded_within}
use Rattle.loader.specs.NamedFiles.{last_word, file_behind, file_field, named_in, AreAlike, NamesAreFiles, IsProgramLine, NoOtherFile}
use Rattle.loader.proofs.Spelled.{spelled}
use Rattle.loader.proofs.Respelled.{no_space_from, fields}
use Rattle.loader.proofs.WordLemmas.{is_program, IsCut, cut_from, last_alone, last_behind, last_cut}

-- ---- a line of a program names its file

path_no_space : (b : ℕ) → is_path_byte b ≡ true → is_space b ≡ false
path_no_space b h = grind (arith, nat_tests)

no_space_in_path : (t : List ℕ) → is_path t ≡ true → has_no_space t ≡ true
unfolding is_path
no_space_in_path t h =
    let last = and_parts _ (list_all is_path_byte t) h in
    no_space_from is_path_byte path_no_space t last.1

joined : (n m d f : List ℕ) → (n ++ 32 ∷ (m ++ 32 ∷ d)) ++ 32 ∷ f ≡ n ++ 32 ∷ (m ++ 32 ∷ (d ++ 32 ∷ f))
joined n m d f = append_assoc n (32 ∷ (m ++ 32 ∷ d)) (32 ∷ f) ∙ ap (λ x. n ++ 32 ∷ x) (append_assoc m (32 ∷ d) (32 ∷ f))

spelled_file : (p : ProgramLine) → is_path p.file ≡ true → file_field (program_spelling p) ≡ Some p.file
unfolding words_of
spelled_file p path =
    let cut : split_at_space (codes "program" ++ 32 ∷ fields p) ≡ Some (codes "program", fields p) = split_to (codes "program") _ refl in
    let last : last_word (fields p) ≡ p.file =
    ap last_word (sym (joined p.name (mode_word p.mode) (decimal p.arg_len) p.file)) ∙ last_behind (p.name ++ 32 ∷ (mode_word p.mode ++ 32 ∷ decimal p.arg_len)) p.file (no_space_in_path p.file path) in
    rw cut (ap Some last)

line_file : (lim : MapLimits) (line : List ℕ) (p : ProgramLine) → line_meaning lim line ≡ Some (Program p) → file_field line ≡ Some p.file
line_file lim line p e =
    let s = (spelled lim line (Program p) e).1 in
    subst (λ l. file_field l ≡ Some p.file) (sym s.0) (spelled_file p s.3)

-- ---- files that are alike under the names that are listed

module _ (lim : MapLimits) (fs gs : Files) where
  same_entry : (shapes : List Shape) (p : ProgramLine) → file_named fs p.file ≡ file_named gs p.file → entry_for fs shapes p ≡ entry_for gs shapes p
  unfolding entry_for
  same_entry shapes p same = rw same refl

  same_step : (v : CatalogueView) (o : Option Meaning) → ((p : ProgramLine) → o ≡ Some (Program p) → file_named fs p.file ≡ file_named gs p.file) → after_meaning lim fs v o ≡ after_meaning lim gs v o
  unfolding with_program
  same_step v None same = refl
  same_step v (Some Comment) same = refl
  same_step v (Some (Map s)) same = refl
  same_step v (Some (Program p)) same = rw (same_entry v.shapes p (same p refl)) refl

  first_alike : (name : List ℕ) (o : Option (List ℕ)) (names : List (List ℕ)) → o ≡ Some name → AreAlike (cons_option o names) fs gs → file_named fs name ≡ file_named gs name
  first_alike name o names is alike = subst (λ q. AreAlike (cons_option q names) fs gs) is alike 0 [] (omega arith)

  others_alike : (o : Option (List ℕ)) (names : List (List ℕ)) → AreAlike (cons_option o names) fs gs → AreAlike names fs gs
  others_alike None names alike = alike
  others_alike (Some name) names alike = λ k d lt. alike (suc k) d (omega (arith, lt))

  same_line : (v : CatalogueView) (l : List ℕ) (names : List (List ℕ)) → AreAlike (cons_option (file_field l) names) fs gs → after_line lim fs v l ≡ after_line lim gs v l
  unfolding after_line
  same_line v l names alike = same_step v (line_meaning lim l) (λ p is. first_alike p.file (file_field l) names (line_file lim l p is) alike)

  same_rest : (n : ℕ) (ls : List (List ℕ)) (r : Result CatalogueView LoadFault) → ((w : CatalogueView) → after_lines lim fs (next_line n) w ls ≡ after_lines lim gs (next_line n) w ls)
      → either (λ why. Err (record { line = n; why = why })) (λ after. after_lines lim fs (next_line n) after ls) r ≡ either (λ why. Err (record { line = n; why = why })) (λ after. after_lines lim gs (next_line n) after ls) r
  same_rest n ls (Ok w) same = same w
  same_rest n ls (Err why) same = refl

  same_lines : (ls : List (List ℕ)) (n : ℕ) (v : CatalogueView) → AreAlike (filter_map file_field ls) fs gs → after_lines lim fs n v ls ≡ after_lines lim gs n v ls
  unfolding after_lines
  same_lines [] n v alike = refl
  same_lines (l ∷ ls) n v alike =
      let rest = others_alike (file_field l) (filter_map file_field ls) alike in
      rw (same_line v l (filter_map file_field ls) alike) (same_rest n ls (after_line lim gs v l) (λ w. same_lines ls (next_line n) w rest))

pub names_are_files : NamesAreFiles
unfolding loaded_within named_in
names_are_files lim text fs gs alike = same_lines lim fs gs (lines_of text) 1 nothing_yet alike

-- ---- what is listed is the last word of a line of a program

found : (x y : List ℕ) → Some x ≡ Some y → x ≡ y
found x y e = cc

by_kind : (line name : List ℕ) (k : FirstWord) (rest : List ℕ) → file_behind k rest ≡ Some name → IsCut line (k, rest) → IsProgramLine name line
by_kind line name words.Map rest e c = absurd cc
by_kind line name words.Other rest e c = absurd cc
by_kind line name words.Program rest e c = by_last (last_cut rest)
  where
    whole : line ≡ codes "program " ++ rest
    whole = c.whole ∙ ap (λ w. w ++ 32 ∷ rest) (is_program c.word c.kind)

    last : last_word rest ≡ name
    last = found (last_word rest) name e

    by_last : (has_no_space rest ≡ true) ⊎ ((a b : List ℕ) × (rest ≡ a ++ 32 ∷ b) × (has_no_space b ≡ true)) → IsProgramLine name line
    by_last (inl plain) =
        let same : rest ≡ name = sym (last_alone rest plain) ∙ last in
        record { rest = rest; whole = whole; last = inl same; word = subst (λ t. has_no_space t ≡ true) same plain }
    by_last (inr (a, b, cut, plain)) =
        let same : b ≡ name = sym (last_behind a b plain) ∙ ap last_word (sym cut) ∙ last in
        record {
          rest = rest;
          whole = whole;
          last = inr (a, cut ∙ ap (λ t. a ++ 32 ∷ t) same);
          word = subst (λ t. has_no_space t ≡ true) same plain;
        }

program_line : (line name : List ℕ) → file_field line ≡ Some name → IsProgramLine name line
program_line line name e =
    let w = steps (words_of line) _ name e in
    by_kind line name w.0.0 w.0.1 w.2 (cut_from line w.0 w.1)

later : (P : List ℕ → Type 0) (l : List ℕ) (ls : List (List ℕ)) → Any P ls → Any P (l ∷ ls)
later P l ls (k, x, lt, e, h) = (suc k, x, omega (arith, lt), e, h)

listed : (ls : List (List ℕ)) (name : List ℕ) → Contains (filter_map file_field ls) name → Any (IsProgramLine name) ls
listed [] name c = absurd (omega (arith, c.1))
listed (l ∷ ls) name c = by (file_field l) refl c (listed ls name)
  where
    by : (o : Option (List ℕ)) → file_field l ≡ o → Contains (cons_option o (filter_map file_field ls)) name → (Contains (filter_map file_field ls) name → Any (IsProgramLine name) ls) → Any (IsProgramLine name) (l ∷ ls)
    by None is c more = later (IsProgramLine name) l ls (more c)
    by (Some x) is (zero, lt, e) more = (0, l, omega arith, refl, program_line l name (is ∙ ap Some e))
    by (Some x) is (suc k, lt, e) more = later (IsProgramLine name) l ls (more (k, omega (arith, lt), e))

pub no_other_file : NoOtherFile
unfolding named_in
no_other_file text name c = listed (lines_of text) name c
