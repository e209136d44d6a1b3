-- What is told at a slot, piece by piece.
use Rattle.std.proofs.Common.{◌≡◌, ℕ, zero, suc, ◌+◌, ◌<◌, ◌≤◌, Bool, true, false, cond, List, [], ◌∷◌, ◌++◌, length, take, drop, get_or, Option, Some, None, Result, Ok, Err, IfOk, inl, inr, ⊎_elim, refl, sym, ap, subst, ◌∙◌, append_assoc, add-one, arith}
use Rattle.std.specs.Prelude.{◌⊎◌, ◌↔◌, ◌-◌, ◌==◌, min, nat_eq, pos, filter, flat_map, codes, decimal, is_some, option_and_then, option_map}
use Rattle.std.specs.List.{concat, prefix_len, range_with_len}
use Rattle.std.proofs.lemmas.Bool.{cases_lt, eq-eqb, false≢true, ne_eqb}
use Rattle.std.proofs.lemmas.List.{append-nil, drop_more, take_all as all_taken}
use Rattle.std.proofs.lemmas.List.Elements.{filter-append}
use Rattle.std.proofs.lemmas.Grind.{flat_map-append}
use Rattle.insn.specs.declared.instruction.Form.{Form}
use Rattle.insn.specs.declared.instruction.Edge.{Edge}
use Rattle.insn.specs.declared.instruction.Edge.TheVariants.{Jump}
use Rattle.insn.specs.declared.instruction.TheConstants.{MAX_SLOTS}
use Rattle.insn.specs.Layout.{instruction_at, size, slot_contents, slot_count, LeadsTo}
use Rattle.regkind.specs.declared.frames.Cell.{Cell}
use Rattle.regkind.specs.declared.frames.Cell.TheVariants.{Marks, Spilled}
use Rattle.regkind.specs.Frames.{Frame, kind, cell}
use Rattle.flow.specs.Structure.{HasBadSize, HasGoodSize}
use Rattle.flow.proofs.Export.{Placed, one_or_two}
use Rattle.verifier.specs.declared.refusal.Refused.{Refused}
use Rattle.verifier.specs.Known.{IsUpTo}
use Rattle.verifier.specs.Signature.{Signature}
use Rattle.verifier.specs.Verdict.{lowest_refusal}
use Rattle.verifier.specs.Joined.{frame_in, is_same, joined_frame, leads}
use Rattle.verifier.proofs.Export.{is_leads, leads_is}
use Rattle.explain.specs.declared.programs.Byte.{Byte}
use Rattle.explain.specs.declared.programs.Byte.TheVariants as bytes
use Rattle.explain.specs.declared.programs.Study.{Study}
use Rattle.explain.specs.Listing.{kinds_refusal}
use Rattle.explain.specs.Slots.{kind_in, cell_in, begins_row, row_end, is_new, register_told, cell_told, row_told, registers_told, bytes_told, pointers_told, changes_told, leads_by, slots_into, falls_into, line_above, slots_told, more_told, reached_told, frame_told, slot_told, told_at}
use Rattle.explain.specs.Study.{IsStudy, Knows}
use Rattle.explain.specs.Told.{BeginsWith}
use Rattle.explain.specs.Words.{register_words, row_words}
use Rattle.explain.proofs.Pieces.{none_left, three}

-- ---- one after another

next_number : (a n : ℕ) → range_with_len a (suc n) ≡ range_with_len a n ++ (a + n) ∷ []
next_number a zero = let e : a ≡ a + 0 = omega arith in ap (λ m. m ∷ []) e
next_number a (suc n) = let e : a + 1 + n ≡ a + suc n = omega arith in ap (λ ns. a ∷ ns) (next_number (a + 1) n ∙ ap (λ m. range_with_len (a + 1) n ++ m ∷ []) e)

numbers_to : (n : ℕ) → range_with_len 0 (suc n) ≡ range_with_len 0 n ++ n ∷ []
numbers_to n = next_number 0 n ∙ ap (λ m. range_with_len 0 n ++ m ∷ []) (let e : 0 + n ≡ n = omega arith in e)

-- of one number more
pub told_more : (f : ℕ → List ℕ) (n : ℕ) (old now after : List ℕ) → now ≡ old ++ flat_map f (range_with_len 0 n)
    → after ≡ now ++ f n → after ≡ old ++ flat_map f (range_with_len 0 (n + 1))
told_more f n old now after so_far one =
    one
    ∙ ap (λ t. t ++ f n) so_far
    ∙ append_assoc old (flat_map f (range_with_len 0 n)) (f n)
    ∙ ap (λ t. old ++ t)
    (ap (λ t. flat_map f (range_with_len 0 n) ++ t) (sym (append-nil (f n)))
    ∙ sym (flat_map-append f (range_with_len 0 n) (n ∷ []))
    ∙ ap (flat_map f) (sym (numbers_to n) ∙ ap (range_with_len 0) (sym (add-one n))))

-- of all numbers
pub told_all : (f : ℕ → List ℕ) (n m : ℕ) (old now : List ℕ) → n ≡ m → now ≡ old ++ flat_map f (range_with_len 0 n)
    → now ≡ old ++ flat_map f (range_with_len 0 m)
told_all f n m old now end so_far = so_far ∙ ap (λ k. old ++ flat_map f (range_with_len 0 k)) end

-- of one item more
pub item_more : (f : ℕ → List ℕ) (xs : List ℕ) (k d x : ℕ) → k < length xs → x ≡ get_or xs k d
    → (out after all : List ℕ) → out ++ flat_map f (drop k xs) ≡ all → after ≡ out ++ f x
    → after ++ flat_map f (drop (k + 1) xs) ≡ all
item_more f xs k d x lt is out after all so_far one =
    let here : drop k xs ≡ x ∷ drop (k + 1) xs = drop_more xs k d lt ∙ ap (λ q. q ∷ drop (k + 1) xs) (sym is) in
    ap (λ t. t ++ flat_map f (drop (k + 1) xs)) one ∙ append_assoc out (f x) (flat_map f (drop (k + 1) xs)) ∙ ap (λ q. out ++ flat_map f q) (sym here) ∙ so_far

-- of all items
pub items_all : (f : ℕ → List ℕ) (xs : List ℕ) (k : ℕ) (out all : List ℕ) → k ≡ length xs
    → out ++ flat_map f (drop k xs) ≡ all → out ≡ all
items_all f xs k out all end so_far = sym (append-nil out) ∙ ap (λ q. out ++ flat_map f q) (sym (ap (λ n. drop n xs) end ∙ none_left xs)) ∙ so_far

-- ---- rows

-- the bytes in a row from this one on
abbrev pub in_row : (ℕ → Bool) → ℕ → ℕ
in_row is next = prefix_len is (range_with_len next (512 - next))

taken : (is : ℕ → Bool) (a n : ℕ) → is a ≡ true
    → prefix_len is (range_with_len a (suc n)) ≡ 1 + prefix_len is (range_with_len (a + 1) n)
taken is a n holds = rw holds refl

stopped : (is : ℕ → Bool) (a n : ℕ) → is a ≡ false → prefix_len is (range_with_len a n) ≡ 0
stopped is a zero fails = refl
stopped is a (suc n) fails = rw fails refl

pub row_begins : (is : ℕ → Bool) (first : ℕ) → first < 512 → row_end is first + 1 ≡ (first + 1) + in_row is (first + 1)
row_begins is first lt =
    let same : 511 - first ≡ 512 - (first + 1) = omega (arith, lt) in
    let row = ap (λ n. prefix_len is (range_with_len (first + 1) n)) same in
    omega (arith, row)

pub row_more : (is : ℕ → Bool) (next : ℕ) → next < 512 → is next ≡ true → in_row is next ≡ 1 + in_row is (next + 1)
row_more is next lt holds =
    let count : 512 - next ≡ suc (512 - (next + 1)) = omega (arith, lt) in
    ap (λ n. prefix_len is (range_with_len next n)) count ∙ taken is next (512 - (next + 1)) holds

pub row_stops : (is : ℕ → Bool) (next : ℕ) → is next ≡ false → in_row is next ≡ 0
row_stops is next fails = stopped is next (512 - next) fails

pub row_whole : (is : ℕ → Bool) (next : ℕ) → next ≡ 512 → in_row is next ≡ 0
row_whole is next end = let none : 512 - next ≡ 0 = omega (arith, end) in ap (λ n. prefix_len is (range_with_len next n)) none

-- ---- separators

-- nothing, or it begins with the separator
abbrev pub Separated : List ℕ → List ℕ → Type 0
Separated separator text = (text ≡ []) ⊎ BeginsWith separator text

both_separated : (s a b : List ℕ) → Separated s a → Separated s b → Separated s (a ++ b)
both_separated s a b (inl none) h = subst (λ t. Separated s (t ++ b)) (sym none) h
both_separated s a b (inr begins) h = inr (begins.0 ++ b, ap (λ t. t ++ b) begins.1 ∙ append_assoc s begins.0 b)

each_separated : (s : List ℕ) (f : ℕ → List ℕ) (xs : List ℕ) → ((x : ℕ) → Separated s (f x))
    → Separated s (flat_map f xs)
each_separated s f [] h = inl refl
each_separated s f (x ∷ xs) h = both_separated s (f x) (flat_map f xs) (h x) (each_separated s f xs h)

if_separated : (s : List ℕ) (b : Bool) (x y : List ℕ) → Separated s x → Separated s y → Separated s (cond b x y)
if_separated s true x y h k = h
if_separated s false x y h k = k

cell_separated : (c : ℕ) (old now : Cell) → Separated (codes "; ") (cell_told c old now)
cell_separated c old (Marks n) = inl refl
cell_separated c (Marks n) (Spilled k) = inr (_, refl)
cell_separated c (Spilled a) (Spilled k) = if_separated (codes "; ") (is_same a k) _ _ (inl refl) (inr (_, refl))

row_separated : (known : Byte) (is : ℕ → Bool) (k : ℕ) → Separated (codes "; ") (row_told known is k)
row_separated known is k = if_separated (codes "; ") (begins_row is k) (row_words known k (row_end is k)) [] (if_separated (codes "; ") (k == row_end is k) _ _ (inr (_, refl)) (inr (_, refl))) (inl refl)

register_separated : (before : Option Frame) (now : Frame) (r : ℕ) → Separated (codes "; ") (register_told before now r)
register_separated before now r = if_separated (codes "; ") (is_same (kind_in before r) (kind now r)) [] (register_words r (kind now r)) (inl refl) (inr (_, refl))

registers_separated : (before : Option Frame) (now : Frame) → Separated (codes "; ") (registers_told before now)
unfolding registers_told
registers_separated before now = each_separated (codes "; ") (register_told before now) (range_with_len 0 11) (register_separated before now)

bytes_separated : (known : Byte) (before : Option Frame) (now : Frame)
    → Separated (codes "; ") (bytes_told known before now)
unfolding bytes_told
bytes_separated known before now = each_separated (codes "; ") (row_told known (is_new known before now)) (range_with_len 0 512) (row_separated known (is_new known before now))

pointers_separated : (before : Option Frame) (now : Frame) → Separated (codes "; ") (pointers_told before now)
unfolding pointers_told
pointers_separated before now =
    each_separated (codes "; ") (λ c. cell_told c (cell_in before c) (cell now c)) (range_with_len 0 64) (λ c. cell_separated c (cell_in before c) (cell now c))

pub changes_separated : (before : Option Frame) (now : Frame) → Separated (codes "; ") (changes_told before now)
changes_separated before now =
    let s = codes "; " in
    let r = registers_told before now in
    let a = bytes_told bytes.Number before now in
    let b = bytes_told bytes.Unwritten before now in
    let p = pointers_told before now in
    both_separated s r (a ++ (b ++ (p ++ []))) (registers_separated before now)
    (both_separated s a (b ++ (p ++ [])) (bytes_separated bytes.Number before now)
    (both_separated s b (p ++ []) (bytes_separated bytes.Unwritten before now) (both_separated s p [] (pointers_separated before now) (inl refl))))

slots_separated : (slots : List ℕ) → Separated (codes ", ") (slots_told slots)
slots_separated slots = each_separated (codes ", ") (λ s. concat (codes ", " ∷ decimal s ∷ [])) slots (λ s. inr (_, refl))

pub sources_separated : (jumps falls : List ℕ)
    → Separated (codes ", ") (concat (slots_told (take 4 jumps) ∷ more_told (length jumps - 4) ∷ slots_told falls ∷ []))
sources_separated [] falls = both_separated (codes ", ") (slots_told falls) [] (slots_separated falls) (inl refl)
sources_separated (j ∷ jumps) falls = inr (_, refl)

-- ---- slots that lead to a slot

-- the slot to which an edge leads is this one
abbrev pub is_led : Option ℕ → ℕ → Bool
is_led None t = false
is_led (Some next) t = nat_eq next t

not_led : (r : Option ℕ) (t : ℕ) → (r ≡ Some t → ⊥) → is_led r t ≡ false
not_led None t n = refl
not_led (Some next) t n = ne_eqb next t (λ e. n (ap Some e))

pub led_is : (i : Form) (s : ℕ) (e : Edge) (t : ℕ) (r : Option ℕ) → ((t : ℕ) → (r ≡ Some t) ↔ LeadsTo i s e (pos t))
    → is_led r t ≡ leads i s e t
led_is i s e t r gives = by (leads i s e t) refl
  where
    by : (b : Bool) → leads i s e t ≡ b → is_led r t ≡ leads i s e t
    by true h = ap (λ o. is_led o t) ((gives t).1 (leads_is i s e t h)) ∙ eq-eqb t t refl ∙ sym h
    by false h = not_led r t (λ is. false≢true (sym h ∙ is_leads i s e t ((gives t).0 is))) ∙ sym h

pub some_mapped : {A B : Type 0} (f : A → B) (o : Option A) → is_some (option_map f o) ≡ is_some o
some_mapped f None = refl
some_mapped f (Some x) = refl

-- the slots below slot n from which an edge leads to slot t
abbrev pub into : List Form → Edge → ℕ → ℕ → List ℕ
into p edge t n = filter (λ s. leads_by (instruction_at p s) s edge t) (range_with_len 0 n)

into_next : (p : List Form) (edge : Edge) (t n : ℕ)
    → into p edge t (suc n) ≡ into p edge t n ++ cond (leads_by (instruction_at p n) n edge t) (n ∷ []) []
into_next p edge t n =
    ap (filter (λ s. leads_by (instruction_at p s) s edge t)) (numbers_to n) ∙ filter-append (λ s. leads_by (instruction_at p s) s edge t) (range_with_len 0 n) (n ∷ [])

pub take_all : (p : List Form) → take (length p) p ≡ p
take_all [] = refl
take_all (i ∷ p) = ap (λ q. i ∷ q) (take_all p)

-- the slots of an instruction more
pub into_more : (p : List Form) (edge : Edge) (t s : ℕ) (i : Form) → Placed p i s → s < t
    → into p edge t (min (s + slot_count i) t) ≡ into p edge t s ++ cond (leads i s edge t) (s ∷ []) []
into_more p edge t s i at lt =
    whole (one_or_two i) ∙ into_next p edge t s ∙ ap (λ o. into p edge t s ++ cond (leads_by o s edge t) (s ∷ []) []) at.stands
  where
    second : slot_contents i ≡ Some i ∷ None ∷ [] → into p edge t (suc (suc s)) ≡ into p edge t (suc s)
    second wide = into_next p edge t (suc s) ∙ ap (λ o. into p edge t (suc s) ++ cond (leads_by o (suc s) edge t) (suc s ∷ []) []) (at.wide wide) ∙ append-nil (into p edge t (suc s))

    upto : (m : ℕ) → (m ≡ suc s) ⊎ (m ≡ suc (suc s)) → slot_contents i ≡ Some i ∷ None ∷ []
        → into p edge t m ≡ into p edge t (suc s)
    upto m (inl one) wide = ap (into p edge t) one
    upto m (inr two) wide = ap (into p edge t) two ∙ second wide

    whole : (slot_count i ≡ 1) ⊎ ((slot_count i ≡ 2) × (slot_contents i ≡ Some i ∷ None ∷ []))
        → into p edge t (min (s + slot_count i) t) ≡ into p edge t (suc s)
    whole (inl one) = let m : min (s + slot_count i) t ≡ suc s = omega (arith, one, lt) in ap (into p edge t) m
    whole (inr two) = upto (min (s + slot_count i) t) (far (cases_lt (suc s) t)) two.1
      where
        far : (suc s < t) ⊎ (t ≤ suc s) → (min (s + slot_count i) t ≡ suc s) ⊎ (min (s + slot_count i) t ≡ suc (suc s))
        far (inl past) = inr (omega (arith, two.0, lt, past))
        far (inr near) = inl (omega (arith, two.0, lt, near))

-- ---- what is known of them

-- one kept more
pub kept_more : (q : ℕ → Bool) (xs : List ℕ) (k d x : ℕ) → k < length xs → x ≡ get_or xs k d
    → (out after all : List ℕ) → out ++ filter q (drop k xs) ≡ all → after ≡ out ++ cond (q x) (x ∷ []) []
    → after ++ filter q (drop (k + 1) xs) ≡ all
kept_more q xs k d x lt is out after all so_far one =
    let here : drop k xs ≡ x ∷ drop (k + 1) xs = drop_more xs k d lt ∙ ap (λ y. y ∷ drop (k + 1) xs) (sym is) in
    ap (λ t. t ++ filter q (drop (k + 1) xs)) one
    ∙ append_assoc out (cond (q x) (x ∷ []) []) (filter q (drop (k + 1) xs))
    ∙ ap (λ t. out ++ t) (sym (filter-append q (x ∷ []) (drop (k + 1) xs)))
    ∙ ap (λ y. out ++ filter q y) (sym here)
    ∙ so_far

pub kept_all : (q : ℕ → Bool) (xs : List ℕ) (k : ℕ) (out all : List ℕ) → k ≡ length xs
    → out ++ filter q (drop k xs) ≡ all → out ≡ all
kept_all q xs k out all end so_far = sym (append-nil out) ∙ ap (λ y. out ++ filter q y) (sym (ap (λ n. drop n xs) end ∙ none_left xs)) ∙ so_far

abbrev Agree : (ℕ → Option Frame) → (ℕ → Option Frame) → ℕ → Type 0
Agree f g n = (s : ℕ) → s < n → f s ≡ g s

abbrev kept : (ℕ → Option Frame) → List ℕ → List ℕ
kept f xs = filter (λ s. is_some (f s)) xs

kept_one : (f g : ℕ → Option Frame) (a : ℕ) (xs : List ℕ) → f a ≡ g a → kept f xs ≡ kept g xs → (b : Bool)
    → kept f (cond b (a ∷ xs) xs) ≡ kept g (cond b (a ∷ xs) xs)
kept_one f g a xs here rest true = ap (λ o. cond (is_some o) (a ∷ kept f xs) (kept f xs)) here ∙ ap (λ ys. cond (is_some (g a)) (a ∷ ys) ys) rest
kept_one f g a xs here rest false = rest

kept_same : (f g : ℕ → Option Frame) (q : ℕ → Bool) (a n m : ℕ) → a + n ≡ m → Agree f g m
    → kept f (filter q (range_with_len a n)) ≡ kept g (filter q (range_with_len a n))
kept_same f g q a zero m e same = refl
kept_same f g q a (suc n) m e same = kept_one f g a (filter q (range_with_len (a + 1) n)) (same a (omega (arith, e))) (kept_same f g q (a + 1) n m (omega (arith, e)) same) (q a)

-- the first that is kept is one of them
one_below : (r : ℕ → Bool) (a : ℕ) (xs : List ℕ) (m s : ℕ) (rest : List ℕ) → a < m → (filter r xs ≡ s ∷ rest → s < m)
    → (b : Bool) → filter r (cond b (a ∷ xs) xs) ≡ s ∷ rest → s < m
one_below r a xs m s rest lt later false is = later is
one_below r a xs m s rest lt later true is = kept_or_not (r a) is
  where
    kept_or_not : (c : Bool) → cond c (a ∷ filter r xs) (filter r xs) ≡ s ∷ rest → s < m
    kept_or_not true is = let one : a ≡ s = cc in omega (arith, lt, one)
    kept_or_not false is = later is

first_below : (r q : ℕ → Bool) (a n m s : ℕ) (rest : List ℕ) → a + n ≡ m
    → filter r (filter q (range_with_len a n)) ≡ s ∷ rest → s < m
first_below r q a zero m s rest e is = absurd cc
first_below r q a (suc n) m s rest e is =
    one_below r a (filter q (range_with_len (a + 1) n)) m s rest (omega (arith, e)) (λ later. first_below r q (a + 1) n m s rest (omega (arith, e)) later) (q a) is

line_same : (f g : ℕ → Option Frame) (n : ℕ) (jumps falls : List ℕ)
    → ((s : ℕ) (rest : List ℕ) → falls ≡ s ∷ rest → s < n) → Agree f g n
    → line_above f jumps falls ≡ line_above g jumps falls
line_same f g n [] [] below same = refl
line_same f g n [] (s ∷ falls) below same = same s (below s falls refl)
line_same f g n (j ∷ jumps) falls below same = refl

-- what is told at a slot hangs on what is known up to it
pub told_same : (p : List Form) (f g : ℕ → Option Frame) (t : ℕ) → Agree f g t → f t ≡ g t
    → told_at p f t ≡ told_at p g t
unfolding told_at
told_same p f g t same here =
    let falls : falls_into p f t ≡ falls_into p g t = kept_same f g _ 0 t t (omega arith) same in
    let jumps = slots_into p Jump t in
    let line : line_above f jumps (falls_into p f t) ≡ line_above g jumps (falls_into p g t) =
    line_same f g t jumps (falls_into p f t) (λ s rest is. first_below _ _ 0 t t s rest (omega arith) is) same ∙ ap (line_above g jumps) falls in
    ap (λ o. frame_told t jumps (falls_into p f t) (line_above f jumps (falls_into p f t)) o) here
    ∙ ap (λ o. frame_told t jumps (falls_into p f t) o (g t)) line
    ∙ ap (λ fs. frame_told t jumps fs (line_above g jumps (falls_into p g t)) (g t)) falls

-- what is told where nothing leads there, and where something does
pub told_nothing : (p : List Form) (f : ℕ → Option Frame) (t : ℕ) → f t ≡ None
    → told_at p f t ≡ codes "nothing leads here"
unfolding told_at
told_nothing p f t none = ap (frame_told t (slots_into p Jump t) (falls_into p f t) (line_above f (slots_into p Jump t) (falls_into p f t))) none

pub told_known : (p : List Form) (f : ℕ → Option Frame) (t : ℕ) (now : Frame) (jumps falls : List ℕ) (before : Option Frame) (rest out : List ℕ) → f t ≡ Some now → jumps ≡ slots_into p Jump t
    → falls ≡ falls_into p f t → before ≡ line_above f jumps falls → rest ≡ drop 2 (changes_told before now)
    → out ≡ reached_told t jumps falls before ++ rest → out ≡ told_at p f t
unfolding told_at
told_known p f t now jumps falls before rest out is j fs b r o =
    o
    ∙ ap (λ x. reached_told t jumps falls before ++ x) r
    ∙ ap (frame_told t jumps falls before) (sym is)
    ∙ ap (λ x. frame_told t jumps falls x (f t)) b
    ∙ ap (λ x. frame_told t jumps x (line_above f jumps x) (f t)) fs
    ∙ ap (λ x. frame_told t x (falls_into p f t) (line_above f x (falls_into p f t)) (f t)) j

-- ---- what a study knows

up_to : (o : Option Refused) (t slot : ℕ) → t ≤ slot → IsUpTo o slot → IsUpTo o t
up_to None t slot le upto = tt
up_to (Some e) t slot le upto = omega (arith, le, upto)

known_frame : (s : Study) (slot : ℕ) → IsStudy s → Knows s slot → (t : ℕ) → t ≤ slot
    → frame_in s.known.frames.items t ≡ joined_frame s.subject.program.now t
known_frame s slot study knows t le =
    let good : HasGoodSize s.subject.program.now = record { some = omega (arith, knows.has.within); few = knows.has.few } in
    ap (option_and_then (λ o. o)) (study.frames good t (omega (arith, le, knows.has.within)) (up_to s.known.kinds t slot le knows.upto))

pub told_of : (s : Study) (slot : ℕ) → IsStudy s → Knows s slot
    → told_at s.subject.program.now (frame_in s.known.frames.items) slot ≡ slot_told s.subject.program.now slot
told_of s slot study knows =
    told_same s.subject.program.now (frame_in s.known.frames.items) (joined_frame s.subject.program.now) slot (λ t lt. known_frame s slot study knows t (omega (arith, lt))) (known_frame s slot study knows slot (omega arith))

-- ---- from where a slot is reached

take_min : (xs : List ℕ) (m : ℕ) → m ≡ min (length xs) 4 → take m xs ≡ take 4 xs
take_min xs m is =
    ⊎_elim
    (λ few. ap (λ n. take n xs) is ∙ all_taken (min (length xs) 4) xs (omega (arith, few)) ∙ sym (all_taken 4 xs (omega (arith, few))))
    (λ many. let four : m ≡ 4 = omega (arith, is, many) in ap (λ n. take n xs) four)
    (cases_lt (length xs) 4)

pub sources_put : (jumps falls named : List ℕ) (mid left : ℕ) (old n m new : List ℕ) → old ≡ []
    → mid ≡ min (length jumps) 4 → named ≡ take mid jumps → left + mid ≡ length jumps → n ≡ old ++ slots_told named
    → m ≡ n ++ more_told left → new ≡ m ++ slots_told falls
    → new ≡ concat (slots_told (take 4 jumps) ∷ more_told (length jumps - 4) ∷ slots_told falls ∷ [])
sources_put jumps falls named mid left old n m new none is front back x y z =
    let count : left ≡ length jumps - 4 = omega (arith, is, back) in
    three (slots_told named) (more_told left) (slots_told falls) old n m new x y z
    ∙ ap (λ t. t ++ concat (slots_told named ∷ more_told left ∷ slots_told falls ∷ [])) none
    ∙ ap (λ xs. concat (slots_told xs ∷ more_told left ∷ slots_told falls ∷ [])) (front ∙ take_min jumps mid is)
    ∙ ap (λ c. concat (slots_told (take 4 jumps) ∷ more_told c ∷ slots_told falls ∷ [])) count

-- the refusal by kinds, also of a program without instructions
pub kinds_of : (p : List Form) (l : Signature) (k : Option Refused)
    → (HasGoodSize p → k ≡ lowest_refusal p l (size p)) → (HasBadSize p → k ≡ None) → size p ≤ MAX_SLOTS
    → k ≡ kinds_refusal p l
unfolding lowest_refusal
kinds_of p l k good bad small =
    ⊎_elim (λ some. good (record { some = some; few = small }))
    (λ none. let zero : size p ≡ 0 = omega (arith, none) in bad (inl zero) ∙ ap (lowest_refusal p l) (sym zero))
    (cases_lt 0 (size p))

-- what holds where a call gave something
pub if_ok : {A E : Type 0} (P Q : A → Type 0) (r : Result A E) → ((x : A) → P x → Q x) → IfOk r P → IfOk r Q
if_ok P Q (Ok x) f p = f x p
if_ok P Q (Err e) f p = tt
