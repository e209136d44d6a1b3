-- Layouts that are read and values that are written: one turn on, and the end.
use Rattle.std.proofs.Common.{◌≡◌, ℕ, ◌+◌, ◌<◌, ◌≤◌, Bool, true, false, cond, ltb, eqb, List, [], ◌∷◌, ◌++◌, length, get_or, take, drop, Option, Some, None, Result, Ok, Err, refl, sym, ap, ◌∙◌, subst, append_assoc, append-nil, arith}
use Rattle.std.specs.Prelude.{codes, option_map}
use Rattle.std.specs.List.{flat_map}
use Rattle.std.proofs.lemmas.Bool.{eqb-true, false≢true, lt-ltb, le-ltb}
use Rattle.std.proofs.lemmas.List.{drop_more}
use Rattle.text.specs.Lines.{next_line}
use Rattle.text.specs.Words.{◌>>=◌}
use Rattle.encoding.specs.declared.layouts.Part.{Part}
use Rattle.encoding.specs.declared.decode_faults.DecodeRefusal.{DecodeRefusal}
use Rattle.encoding.specs.declared.decode_faults.DecodeRefusal.TheVariants as refusals
use Rattle.encoding.specs.Decoded.{behind, decoded_from, onto, part_size, spaced, state_line, value_text, values_of}
use Rattle.encoding.specs.DecodeShown.{AddsLine, AddsValues, Becomes}
use Rattle.encoding.specs.Layouts.{MapParts, layouts_from, or_bad, part_of, parts_of, with_line}

-- ---- the parts that words name

module _ (so_far : List Part) (all : List (List ℕ)) (word : List ℕ) (words : List (List ℕ)) (total : Option (List Part)) (is_cut : all ≡ word ∷ words) (is_total : option_map (λ ps. so_far ++ ps) (parts_of all) ≡ total) where
  whole_parts : option_map (λ ps. so_far ++ ps) (part_of word >>= (λ p. parts_of words >>= (λ ps. Some (p ∷ ps)))) ≡ total
  unfolding parts_of
  whole_parts = subst (λ ws. option_map (λ ps. so_far ++ ps) (parts_of ws) ≡ total) is_cut is_total

  one_more : (p : Part) (o : Option (List Part)) → option_map (λ ps. (so_far ++ p ∷ []) ++ ps) o ≡ option_map (λ ps. so_far ++ ps) (o >>= (λ ps. Some (p ∷ ps)))
  one_more p None = refl
  one_more p (Some ps) = ap Some (append_assoc so_far (p ∷ []) ps)

  pub good_part : (p : Part) → Some p ≡ part_of word → option_map (λ ps. (so_far ++ p ∷ []) ++ ps) (parts_of words) ≡ total
  good_part p is = one_more p (parts_of words) ∙ ap (λ o. option_map (λ ps. so_far ++ ps) (o >>= (λ q. parts_of words >>= (λ ps. Some (q ∷ ps))))) is ∙ whole_parts

  pub bad_part : None ≡ part_of word → None ≡ total
  bad_part is = ap (λ o. option_map (λ ps. so_far ++ ps) (o >>= (λ q. parts_of words >>= (λ ps. Some (q ∷ ps))))) is ∙ whole_parts

pub no_part : (so_far : List Part) (all : List (List ℕ)) (total : Option (List Part)) → all ≡ [] → option_map (λ ps. so_far ++ ps) (parts_of all) ≡ total → Some so_far ≡ total
unfolding parts_of
no_part so_far all total none is = ap Some (sym (append-nil so_far)) ∙ subst (λ ws. option_map (λ ps. so_far ++ ps) (parts_of ws) ≡ total) none is

-- ---- the lines of a layout

became : {A : Type 0} (o : Option A) (new : A) → Becomes o true new → o ≡ Some new
became None new h = absurd (false≢true (sym h))
became (Some wanted) new h = ap Some (sym h.1)

stayed : {A : Type 0} (o : Option A) (new : A) → Becomes o false new → o ≡ None
stayed None new h = refl
stayed (Some wanted) new h = absurd (false≢true h.0)

module _ (n : ℕ) (so_far : List MapParts) (all : List (List ℕ)) (line : List ℕ) (lines : List (List ℕ)) (total : Result (List MapParts) DecodeRefusal) (is_cut : all ≡ line ∷ lines) (is_total : layouts_from n so_far all ≡ total) where
  whole_layouts : or_bad n (λ more. layouts_from (next_line n) more lines) (with_line so_far line) ≡ total
  unfolding layouts_from
  whole_layouts = subst (λ ls. layouts_from n so_far ls ≡ total) is_cut is_total

  pub good_layout : (after : ℕ) (new : List MapParts) → after ≡ next_line n → Becomes (with_line so_far line) true new → layouts_from after new lines ≡ total
  good_layout after new next h =
      ap (λ k. layouts_from k new lines) next ∙ ap (or_bad n (λ more. layouts_from (next_line n) more lines)) (sym (became (with_line so_far line) new h)) ∙ whole_layouts

  pub bad_layout : (new : List MapParts) → Becomes (with_line so_far line) false new → total ≡ Err (refusals.Layout n)
  bad_layout new h = sym whole_layouts ∙ ap (or_bad n (λ more. layouts_from (next_line n) more lines)) (stayed (with_line so_far line) new h)

pub no_layout : (n : ℕ) (so_far : List MapParts) (all : List (List ℕ)) (total : Result (List MapParts) DecodeRefusal) → all ≡ [] → layouts_from n so_far all ≡ total → total ≡ Ok so_far
unfolding layouts_from
no_layout n so_far all total none is = sym (subst (λ ls. layouts_from n so_far ls ≡ total) none is)

-- ---- the values of parts

abbrev pub with_values : List ℕ → Option (List (List ℕ)) → Option (List ℕ)
with_values before o = option_map (λ vs. before ++ flat_map spaced vs) o

adds_some : (before after : List ℕ) (o : Option (List (List ℕ))) → with_values before o ≡ Some after → AddsValues before o true after
adds_some before after None h = absurd cc
adds_some before after (Some vs) h = (refl, let same : before ++ flat_map spaced vs ≡ after = cc in sym same)

adds_none : (before after : List ℕ) (o : Option (List (List ℕ))) → with_values before o ≡ None → AddsValues before o false after
adds_none before after None h = refl
adds_none before after (Some vs) h = absurd cc

module _ (ps : List Part) (k : ℕ) (d p : Part) (lt : k < length ps) (is : p ≡ get_or ps k d) (left before : List ℕ) (total : Option (List ℕ)) (is_total : with_values before (values_of (drop k ps) left) ≡ total) where
  here : drop k ps ≡ p ∷ drop (k + 1) ps
  here = drop_more ps k d lt ∙ ap (λ q. q ∷ drop (k + 1) ps) (sym is)

  whole_values : with_values before (cond (ltb (length left) (part_size p)) None (option_map (λ vs. value_text p (take (part_size p) left) ∷ vs) (values_of (drop (k + 1) ps) (drop (part_size p) left)))) ≡ total
  unfolding values_of
  whole_values = subst (λ qs. with_values before (values_of qs left) ≡ total) here is_total

  pub too_few : length left < part_size p → None ≡ total
  too_few less = ap (λ b. with_values before (cond b None (option_map (λ vs. value_text p (take (part_size p) left) ∷ vs) (values_of (drop (k + 1) ps) (drop (part_size p) left))))) (sym (lt-ltb (length left) (part_size p) less)) ∙ whole_values

  put_first : (o : Option (List (List ℕ))) → with_values (before ++ spaced (value_text p (take (part_size p) left))) o ≡ with_values before (option_map (λ vs. value_text p (take (part_size p) left) ∷ vs) o)
  put_first None = refl
  put_first (Some vs) = ap Some (append_assoc before (spaced (value_text p (take (part_size p) left))) (flat_map spaced vs))

  taken : (after : List ℕ) → part_size p ≤ length left → after ≡ before ++ spaced (value_text p (take (part_size p) left))
      → with_values after (values_of (drop (k + 1) ps) (drop (part_size p) left)) ≡ total
  taken after enough put =
      ap (λ t. with_values t (values_of (drop (k + 1) ps) (drop (part_size p) left))) put ∙ put_first (values_of (drop (k + 1) ps) (drop (part_size p) left))
      ∙ ap (λ b. with_values before (cond b None (option_map (λ vs. value_text p (take (part_size p) left) ∷ vs) (values_of (drop (k + 1) ps) (drop (part_size p) left))))) (sym (le-ltb (length left) (part_size p) enough)) ∙ whole_values

  pub value_more : (after first rest : List ℕ) → part_size p ≤ length left → first ≡ take (part_size p) left → rest ≡ drop (part_size p) left
      → after ≡ before ++ spaced (value_text p first) → with_values after (values_of (drop (k + 1) ps) rest) ≡ total
  value_more after first rest enough is_first is_rest put =
      ap (λ r. with_values after (values_of (drop (k + 1) ps) r)) is_rest ∙ taken after enough (put ∙ ap (λ t. before ++ spaced (value_text p t)) is_first)

pub none_added : (before after : List ℕ) (o : Option (List (List ℕ))) → None ≡ with_values before o → AddsValues before o false after
none_added before after o h = adds_none before after o (sym h)

nothing_left : (ps : List Part) → drop (length ps) ps ≡ []
nothing_left [] = refl
nothing_left (p ∷ ps) = nothing_left ps

by_left : (left before after : List ℕ) (total : Option (List ℕ)) → with_values before (values_of [] left) ≡ total → (b : Bool) → b ≡ eqb (length left) 0 → cond b (Some before) None ≡ total
unfolding values_of
by_left [] before after total h true e = ap Some (sym (append-nil before)) ∙ h
by_left [] before after total h false e = absurd (false≢true e)
by_left (c ∷ left) before after total h true e = let none = eqb-true (length (c ∷ left)) 0 (sym e) in absurd (omega (arith, none))
by_left (c ∷ left) before after total h false e = h

-- behind the last part no byte is left, or the entry has too many
pub all_added : (ps : List Part) (k : ℕ) (left old out : List ℕ) (o : Option (List (List ℕ))) (b : Bool) → k ≡ length ps → with_values out (values_of (drop k ps) left) ≡ with_values old o
    → b ≡ eqb (length left) 0 → AddsValues old o b out
all_added ps k left old out o b end is e =
    by b (by_left left out out (with_values old o) (subst (λ qs. with_values out (values_of qs left) ≡ with_values old o) (ap (λ n. drop n ps) end ∙ nothing_left ps) is) b e)
  where
    by : (a : Bool) → cond a (Some out) None ≡ with_values old o → AddsValues old o a out
    by true h = adds_some old out o (sym h)
    by false h = adds_none old out o (sym h)

-- ---- the lines of a state

onto-onto : (xs ys : List ℕ) (read : Result (List ℕ) DecodeRefusal) → onto (xs ++ ys) read ≡ onto xs (onto ys read)
onto-onto xs ys (Ok p) = ap Ok (append_assoc xs ys p)
onto-onto xs ys (Err e) = refl

pub onto-nil : (read : Result (List ℕ) DecodeRefusal) → onto [] read ≡ read
onto-nil (Ok p) = refl
onto-nil (Err e) = refl

-- a good line adds its text, and a bad one has none
line_added : (before after : List ℕ) (o : Option (List ℕ)) → AddsLine before o true after → (text : List ℕ) × (o ≡ Some text) × (after ≡ before ++ text)
line_added before after None h = absurd (false≢true (sym h))
line_added before after (Some text) h = (text, refl, h.1)

line_refused : (before after : List ℕ) (o : Option (List ℕ)) → AddsLine before o false after → o ≡ None
line_refused before after None h = refl
line_refused before after (Some text) h = absurd (false≢true h.0)

module _ (layouts : List MapParts) (n : ℕ) (all : List (List ℕ)) (line : List ℕ) (lines : List (List ℕ)) (before : List ℕ) (total : Result (List ℕ) DecodeRefusal) (is_cut : all ≡ line ∷ lines) (is_total : onto before (decoded_from layouts n all) ≡ total) where
  whole_lines : onto before (behind n (state_line layouts line) (decoded_from layouts (next_line n) lines)) ≡ total
  unfolding decoded_from
  whole_lines = subst (λ ls. onto before (decoded_from layouts n ls) ≡ total) is_cut is_total

  pub good_line : (next : ℕ) (middle after : List ℕ) → next ≡ next_line n → AddsLine before (state_line layouts line) true middle → after ≡ middle ++ codes "\n"
      → onto after (decoded_from layouts next lines) ≡ total
  good_line next middle after is_next h put =
      let added = line_added before middle (state_line layouts line) h in
      let text = added.0 in
      let is : after ≡ before ++ (text ++ codes "\n") = put ∙ ap (λ t. t ++ codes "\n") added.2 ∙ append_assoc before text (codes "\n") in
      ap (λ t. onto t (decoded_from layouts next lines)) is ∙ ap (λ k. onto (before ++ (text ++ codes "\n")) (decoded_from layouts k lines)) is_next
      ∙ onto-onto before (text ++ codes "\n") (decoded_from layouts (next_line n) lines)
      ∙ ap (λ o. onto before (behind n o (decoded_from layouts (next_line n) lines))) (sym added.1) ∙ whole_lines

  pub bad_line : (middle : List ℕ) → AddsLine before (state_line layouts line) false middle → total ≡ Err (refusals.State n)
  bad_line middle h = sym whole_lines ∙ ap (λ o. onto before (behind n o (decoded_from layouts (next_line n) lines))) (line_refused before middle (state_line layouts line) h)

pub no_line : (layouts : List MapParts) (n : ℕ) (all : List (List ℕ)) (before : List ℕ) (total : Result (List ℕ) DecodeRefusal) → all ≡ [] → onto before (decoded_from layouts n all) ≡ total → total ≡ Ok before
unfolding decoded_from
no_line layouts n all before total none is = sym (subst (λ ls. onto before (decoded_from layouts n ls) ≡ total) none is) ∙ ap Ok (append-nil before)

-- ---- a search

-- nothing stands before the first part
pub started : (o : Option (List Part)) → option_map (λ ps. [] ++ ps) o ≡ o
started None = refl
started (Some ps) = refl
