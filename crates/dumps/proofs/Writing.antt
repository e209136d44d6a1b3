-- The text of a state is the lines of its maps and of its programs.
use Rattle.std.proofs.Common.{append_assoc, append-nil, ◌≡◌, ℕ, zero, suc, ◌+◌, ◌<◌, ◌≤◌, Bool, true, false, not, cond, List, [], ◌∷◌, ◌++◌, map, length, drop, codes, Some, refl, sym, ap, ◌∙◌, subst, arith}
use Rattle.std.specs.Prelude.{slice_get, filter}
use Rattle.std.proofs.lemmas.List.{length-map, map-append}
use Rattle.std.specs.List.{flat_map}
use Rattle.std.specs.FinMap as finite_map
use Rattle.std.proofs.lemmas.List.Concat.{flat_map-append}
use Rattle.maps.specs.declared.shapes.Shape.{Shape}
use Rattle.maps.specs.Maps.{Maps}
use Rattle.maps.specs.MapSets.{Stored, Contents, map_of, maps_of, stored_shapes}
use Rattle.verifier.specs.Accepted.{Checked}
use Rattle.loader.specs.StoreState.{StoreState}
use Rattle.dumps.specs.Grammar.{Meaning, Entry, Program}
use Rattle.dumps.specs.Loading.{is_left_out}
use Rattle.dumps.specs.Dumping.{text_of, map_entries, program_line, dump}
use Rattle.dumps.specs.Written.{Pair, entries_at, entry_at, entry_line, kept_text, map_text, maps_text, place_text, program_line_text}
use Rattle.dumps.proofs.Placing.{entries_from}

-- ---- the text

abbrev line_text : Meaning → List ℕ
line_text l = text_of l ++ codes "\n"

one_map : (m : ℕ) (shape : Shape) (es : List Pair) → flat_map line_text (map Entry (map (entry_line m) (filter (λ e. not (is_left_out shape e.1)) es))) ≡ flat_map (kept_text m shape) es
one_map m shape [] = refl
one_map m shape (e ∷ es) = by (is_left_out shape e.1) (one_map m shape es)
  where
    by : (b : Bool) → flat_map line_text (map Entry (map (entry_line m) (filter (λ e. not (is_left_out shape e.1)) es))) ≡ flat_map (kept_text m shape) es
        → flat_map line_text (map Entry (map (entry_line m) (cond (not b) (e ∷ filter (λ e. not (is_left_out shape e.1)) es) (filter (λ e. not (is_left_out shape e.1)) es)))) ≡ cond b [] (line_text (Entry (entry_line m e))) ++ flat_map (kept_text m shape) es
    by true rest = rest
    by false rest = ap (λ u. line_text (Entry (entry_line m e)) ++ u) rest

all_maps : (n : ℕ) (maps : Maps) → flat_map line_text (map Entry (entries_from n maps)) ≡ maps_text n maps
all_maps n [] = refl
all_maps n (s ∷ maps) =
    ap (flat_map line_text) (map-append Entry (map_entries n s) (entries_from (n + 1) maps))
    ∙ flat_map-append line_text (map Entry (map_entries n s)) (map Entry (entries_from (n + 1) maps))
    ∙ ap (λ u. u ++ flat_map line_text (map Entry (entries_from (n + 1) maps))) (one_map n s.shape (finite_map.entries s.entries))
    ∙ ap (λ u. map_text n s ++ u) (all_maps (n + 1) maps)

all_programs : (ps : List Checked) → flat_map line_text (map (λ c. Program (program_line c)) ps) ≡ flat_map program_line_text ps
all_programs [] = refl
all_programs (p ∷ ps) = ap (λ u. program_line_text p ++ u) (all_programs ps)

pub dumped : (s : StoreState) → maps_text 0 s.maps ++ flat_map program_line_text s.programs ≡ dump s
unfolding dump
dumped s =
    sym (flat_map-append line_text (map Entry (entries_from 0 s.maps)) (map (λ c. Program (program_line c)) s.programs)
    ∙ ap (λ u. u ++ flat_map line_text (map (λ c. Program (program_line c)) s.programs)) (all_maps 0 s.maps)
    ∙ ap (λ u. maps_text 0 s.maps ++ u) (all_programs s.programs))

-- ---- one more

next_left : {A : Type 0} (xs : List A) (i : ℕ) (x : A) → slice_get xs i ≡ Some x → drop i xs ≡ x ∷ drop (suc i) xs
next_left [] i x e = absurd cc
next_left (y ∷ xs) zero x e = let is : y ≡ x = cc in ap (λ z. z ∷ xs) is
next_left (y ∷ xs) (suc i) x e = next_left xs i x e

pub dropped : {A : Type 0} (xs : List A) (i : ℕ) (x : A) → slice_get xs i ≡ Some x → drop i xs ≡ x ∷ drop (i + 1) xs
dropped xs i x e = next_left xs i x e ∙ ap (λ n. x ∷ drop n xs) (let n : suc i ≡ i + 1 = omega arith in n)

pub none_left : {A : Type 0} (xs : List A) (i : ℕ) → length xs ≤ i → drop i xs ≡ []
none_left [] zero h = refl
none_left [] (suc i) h = refl
none_left (x ∷ xs) zero h = absurd (omega (arith, h))
none_left (x ∷ xs) (suc i) h = none_left xs i (omega (arith, h))

pub there : {A : Type 0} (xs : List A) (i : ℕ) → i < length xs → (x : A) × (slice_get xs i ≡ Some x)
there [] i h = absurd (omega (arith, h))
there (x ∷ xs) zero h = (x, refl)
there (x ∷ xs) (suc i) h = there xs i (omega (arith, h))

-- what was written, and what is left to be written
pub one_more : (o p text rest left all : List ℕ) → p ≡ o ++ text → left ≡ text ++ rest → o ++ left ≡ all → p ++ rest ≡ all
one_more o p text rest left all a b c = ap (λ u. u ++ rest) a ∙ append_assoc o text rest ∙ ap (λ u. o ++ u) (sym b) ∙ c

pub no_more : (o left all : List ℕ) → left ≡ [] → o ++ left ≡ all → o ≡ all
no_more o left all a b = sym (append-nil o) ∙ ap (λ u. o ++ u) (sym a) ∙ b

pub maps_end : (c : Contents) (n : ℕ) (o all : List ℕ) → length (stored_shapes c) ≤ n → o ++ maps_text n (drop n (maps_of c)) ≡ all → o ≡ all
maps_end c n o all past before =
    let many = length-map c map_of in
    let shapes = length-map c (λ (s : Stored). s.shape) in
    no_more o (maps_text n (drop n (maps_of c))) all (ap (maps_text n) (none_left (maps_of c) n (omega (arith, many, shapes, past)))) before

pub program_more : (ps : List Checked) (k n : ℕ) (o p all : List ℕ) → n ≡ k + 1 → k < length ps → ((c : Checked) → slice_get ps k ≡ Some c → p ≡ o ++ program_line_text c) → o ++ flat_map program_line_text (drop k ps) ≡ all
    → p ++ flat_map program_line_text (drop n ps) ≡ all
program_more ps k n o p all next low step before =
    let at = there ps k low in
    subst (λ i. p ++ flat_map program_line_text (drop i ps) ≡ all) (sym next)
    (one_more o p (program_line_text at.0) (flat_map program_line_text (drop (k + 1) ps)) (flat_map program_line_text (drop k ps)) all (step at.0 at.1) (ap (flat_map program_line_text) (dropped ps k at.0 at.1)) before)

-- ---- the entries at places

pub flat_twice : (m : ℕ) (s : Stored) (ps : List ℕ) → flat_map (place_text m s) ps ≡ flat_map (kept_text m s.shape) (entries_at s ps)
flat_twice m s [] = refl
flat_twice m s (p ∷ ps) = ap (λ u. place_text m s p ++ u) (flat_twice m s ps) ∙ sym (flat_map-append (kept_text m s.shape) (entry_at s p) (entries_at s ps))
