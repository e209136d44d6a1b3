-- The lines of a listing, one after another.
use Rattle.std.proofs.Common.{◌≡◌, ℕ, ◌+◌, ◌<◌, ◌≤◌, Bool, true, cond, ltb, List, [], ◌∷◌, ◌++◌, length, take, drop, get_or, Option, Some, None, inl, inr, ⊎_elim, refl, sym, ap, subst, ◌∙◌, append_assoc, arith}
use Rattle.std.specs.Prelude.{◌⊎◌, ◌-◌, ◌^◌, ◌==◌, false, not, replicate, codes, decimal, unwrap_or}
use Rattle.std.specs.Prelude.{IfSome, MatchBool}
use Rattle.std.specs.List.{concat}
use Rattle.std.proofs.lemmas.Bool.{and_right, eqb-true, false≢true, le-leb, lt-leb, lt-ltb, ltb-false, ltb-true}
use Rattle.std.specs.Cmp.Derive.{both_true}
use Rattle.std.proofs.lemmas.Grind.{replicate_next}
use Rattle.std.proofs.lemmas.List.{append-nil, drop_more, length-append, take-append-drop}
use Rattle.insn.specs.declared.instruction.Form.{Form}
use Rattle.insn.specs.Layout.{slot_contents, slot_count, layout, size}
use Rattle.asm.specs.Words.{word_of}
use Rattle.asm.specs.Text.{mnemonic, operands, operand_text, line_text, text_of}
use Rattle.insn.specs.declared.instruction.TheConstants.{MAX_SLOTS}
use Rattle.verifier.specs.declared.refusal.Refused.{Refused}
use Rattle.flow.specs.Faults.{has_good_size}
use Rattle.flow.proofs.Export.{one_or_two}
use Rattle.explain.specs.declared.programs.Study.{Study}
use Rattle.explain.specs.declared.programs.Subject.{Subject}
use Rattle.explain.specs.Listing.{line_of, is_structural, kinds_refusal, refusal_text, signature_of, verdict_on, head_text, AddsListing, Explains, ExplainsLong, IsReason, TellsKinds, TellsStructure, aside, margin, left_text, last_listed, AreListed, BeginUpto, IsLine, IsListing, Lists}
use Rattle.explain.specs.Slots.{told_upto}
use Rattle.explain.specs.Study.{IsStudy}
use Rattle.explain.specs.Told.{Adds, BeginsWith}
use Rattle.explain.proofs.Pieces.{none_left, three}

-- the text of one instruction is its line
pub text_of_one : (i : Form) → text_of (i ∷ []) ≡ line_text i
unfolding text_of
text_of_one i = append-nil (line_text i)

-- what is written of the first k instructions: with the lines of the others behind it, it is the lines of all
pub record SoFar (told : ℕ → List ℕ) (p : List Form) (k slot : ℕ) (old new : List ℕ) : Type 0 where
  pub text : List ℕ
  pub written : new ≡ old ++ text
  pub listed : (rest : List ℕ) → Lists told slot (drop k p) rest → Lists told 0 p (text ++ rest)
  pub slots : slot + size (drop k p) ≡ size p

pub nothing : (told : ℕ → List ℕ) (p : List Form) (old : List ℕ) → SoFar told p 0 0 old old
nothing told p old = record { text = []; written = sym (append-nil old); listed = λ rest l. l; slots = omega arith }

-- behind the last one all are written
pub whole : (told : ℕ → List ℕ) (p : List Form) (k slot : ℕ) (old new : List ℕ) → k ≡ length p
    → SoFar told p k slot old new → Adds (Lists told 0 p) old new
whole told p k slot old new end s =
    let none : drop k p ≡ [] = ap (λ n. drop n p) end ∙ none_left p in
    (s.text, s.written, subst (Lists told 0 p) (append-nil s.text) (s.listed [] (subst (λ q. Lists told slot q []) (sym none) refl)))

module _ (p : List Form) (k : ℕ) (d f : Form) (lt : k < length p) (is : f ≡ get_or p k d) where
  here : drop k p ≡ f ∷ drop (k + 1) p
  here = drop_more p k d lt ∙ ap (λ g. g ∷ drop (k + 1) p) (sym is)

  counted : size (drop k p) ≡ slot_count f + size (drop (k + 1) p)
  counted = ap size here ∙ length-append (slot_contents f) (layout (drop (k + 1) p))

  -- one line more
  pub line_more : (told : ℕ → List ℕ) (slot : ℕ) (old now after : List ℕ) → SoFar told p k slot old now
      → (line : List ℕ) × (after ≡ now ++ line) × IsLine slot f (told slot) line
      → SoFar told p (k + 1) (slot + slot_count f) old after
  line_more told slot old now after s one =
      let line = one.0 in
      record {
        text = s.text ++ line;
        written = one.1 ∙ ap (λ t. t ++ line) s.written ∙ append_assoc old s.text line;
        listed = λ rest l.
            subst (Lists told 0 p) (sym (append_assoc s.text line rest))
            (s.listed (line ++ rest) (subst (λ q. Lists told slot q (line ++ rest)) (sym here) (line, rest, refl, one.2, l)));
        slots = omega (arith, s.slots, counted);
      }

  -- how far the slots go
  pub slots_more : (slot : ℕ) → slot + size (drop k p) ≡ size p → slot + slot_count f ≤ size p
  slots_more slot s = omega (arith, counted, s)

-- ---- a line

-- the line of an instruction ends
pub ends : (i : Form) → (front : List ℕ) × (line_text i ≡ front ++ codes "\n")
ends i =
    let words = word_of (mnemonic i) in
    let rest = operand_text (operands i) in
    (words ++ rest, sym (append_assoc words rest (codes "\n")))

pub is_line : (slot : ℕ) (i : Form) (words told old new : List ℕ) → line_text i ≡ words ++ codes "\n"
    → new ≡ old ++ concat (margin slot ∷ decimal slot ∷ codes "  " ∷ words ∷ aside (length words) told ∷ codes "\n" ∷ []) → (line : List ℕ) × (new ≡ old ++ line) × IsLine slot i told line
is_line slot i words told old new ends put = (_, put, record { words = words; disassembled = ends; whole = refl })

-- one blank more
pub blank_more : (n : ℕ) (old now after : List ℕ) → now ≡ old ++ replicate n 32 → after ≡ now ++ codes " "
    → after ≡ old ++ replicate (n + 1) 32
blank_more n old now after so_far one =
    one ∙ ap (λ t. t ++ codes " ") so_far ∙ append_assoc old (replicate n 32) (codes " ") ∙ ap (λ t. old ++ t) (sym (replicate_next n 32))

pub aside_is : (columns left : ℕ) (told old n m out : List ℕ) → length told == 0 ≡ false → left ≡ 24 - columns
    → old ≡ [] → n ≡ old ++ codes " " → m ≡ n ++ replicate left 32 → out ≡ m ++ told
    → out ≡ aside columns told
aside_is columns left [] old n m out some is none x y z = absurd (false≢true (sym some))
aside_is columns left (b ∷ told) old n m out some is none x y z =
    three (codes " ") (replicate left 32) (b ∷ told) old n m out x y z
    ∙ ap (λ t. t ++ concat (codes " " ∷ replicate left 32 ∷ (b ∷ told) ∷ [])) none
    ∙ ap (λ k. concat (codes " " ∷ replicate k 32 ∷ (b ∷ told) ∷ [])) is

-- ---- a listing

size_append : (xs ys : List Form) → size (xs ++ ys) ≡ size xs + size ys
size_append [] ys = omega arith
size_append (i ∷ xs) ys =
    omega (arith, length-append (slot_contents i) (layout (xs ++ ys)), size_append xs ys, length-append (slot_contents i) (layout xs))

pub size_take : (n : ℕ) (p : List Form) → size (take n p) ≤ size p
size_take n p = omega (arith, ap size (take-append-drop n p), size_append (take n p) (drop n p))

-- so many slots are those of the first k instructions, each of which begins up to the last one
pub record CountedTo (p : List Form) (last k slot : ℕ) : Type 0 where
  pub slots : slot ≡ size (take k p)
  pub each : (j : ℕ) → j < k → size (take j p) ≤ last

below_or : (j k : ℕ) → j < k + 1 → (j < k) ⊎ (j ≡ k)
below_or j k below = by (ltb j k) refl
  where
    by : (b : Bool) → ltb j k ≡ b → (j < k) ⊎ (j ≡ k)
    by true e = inl (ltb-true j k e)
    by false e = inr (omega (arith, ltb-false j k e, below))

pub counted_none : (p : List Form) (last : ℕ) → CountedTo p last 0 0
counted_none p last = record { slots = refl; each = λ j lt. absurd (omega (arith, lt)) }

module _ (p : List Form) (k : ℕ) (d f : Form) (lt : k < length p) (is : f ≡ get_or p k d) where
  take_next : size (take (k + 1) p) ≡ size (take k p) + slot_count f
  take_next =
      let one = ap size (take-append-drop k p) in
      let all = ap size (take-append-drop (k + 1) p) in
      omega (arith, one, all, size_append (take k p) (drop k p), size_append (take (k + 1) p) (drop (k + 1) p), counted p k d f lt is)

  pub counted_more : (last slot next : ℕ) → size p ≤ MAX_SLOTS → slot ≤ last
      → (slot + slot_count f < 2 ^ 64 → next ≡ slot + slot_count f) → CountedTo p last k slot
      → CountedTo p last (k + 1) next
  counted_more last slot next small upto sum c =
      let fits : slot + slot_count f < 2 ^ 64 = omega (arith, c.slots, take_next, size_take (k + 1) p, small) in
      record {
        slots = omega (arith, sum fits, c.slots, take_next);
        each = λ j below. ⊎_elim (λ less. c.each j less) (λ same. subst (λ n. size (take n p) ≤ last) (sym same) (omega (arith, c.slots, upto))) (below_or j k below);
      }

pub begin_upto : (p : List Form) (last k slot count : ℕ) → count ≡ k → CountedTo p last k slot
    → (length p ≤ k) ⊎ (last < slot) → BeginUpto p last count
begin_upto p last k slot count same c end =
    subst (λ n. BeginUpto p last n) (sym same)
    (record { each = c.each; enough = ⊎_elim (λ all. inl all) (λ far. inr (omega (arith, far, c.slots))) end })

pub are_listed : (p : List Form) (upto : Option ℕ) (count limit : ℕ) → size p ≤ MAX_SLOTS
    → limit ≡ unwrap_or upto (2 ^ 64 - 1) → BeginUpto p limit count → AreListed p upto count
are_listed p (Some last) count limit small is upto = subst (λ n. BeginUpto p n count) is upto
are_listed p None count limit small is upto = ⊎_elim (λ all. all) (λ far. absurd (omega (arith, far, is, size_take count p, small))) upto.enough

pub is_listing : (p : List Form) (kinds verdict : Option Refused) (count left : ℕ) (old now after : List ℕ)
    → Adds (Lists (told_upto p kinds) 0 (take count p)) old now → left + count ≡ length p
    → after ≡ now ++ left_text left → AreListed p (last_listed kinds verdict) count
    → (text : List ℕ) × (after ≡ old ++ text) × IsListing p kinds verdict text
is_listing p kinds verdict count left old now after written rest put upto =
    let lines = written.0 in
    let same : left ≡ length p - count = omega (arith, rest) in (
      lines ++ left_text left,
      put ∙ ap (λ t. t ++ left_text left) written.1 ∙ append_assoc old lines (left_text left),
      record { count = count; lines = lines; listed = written.2; upto = upto; whole = ap (λ n. lines ++ left_text n) same },
    )

-- an instruction takes a slot
pub some_slot : (i : Form) → 0 < slot_count i
some_slot i = ⊎_elim (λ one. omega (arith, one)) (λ two. omega (arith, two.0)) (one_or_two i)

-- ---- a program

pub kinds_are : (study : Study) (s : Subject) → study.subject ≡ s → IsStudy study → size s.program.now ≤ MAX_SLOTS
    → study.known.kinds ≡ kinds_refusal s.program.now (signature_of s)
kinds_are study s same known few =
    known.kinds (subst (λ z. size z.program.now ≤ MAX_SLOTS) (sym same) few) ∙ ap (λ z. kinds_refusal z.program.now (signature_of z)) same

pub some_of : {A : Type 0} (P : A → Type 0) (o : Option A) (x : A) → o ≡ Some x → IfSome o P → P x
some_of P o x is holds = subst (λ q. IfSome q P) is holds

-- a study of a program that is too long has no refusal by kinds
pub none_of : (study : Study) (s : Subject) → study.subject ≡ s → IsStudy study → MAX_SLOTS < size s.program.now
    → study.known.kinds ≡ None
none_of study s same known many = known.no_kinds (subst (λ z. MAX_SLOTS < size z.program.now) (sym same) many)

pub some_is_none : {A : Type 0} (x : A) (o : Option A) → o ≡ Some x → o ≡ None → ⊥
some_is_none x o is none = cc

-- a listing alone, and then behind a text
pub listed_behind : (p : List Form) (k v : Option Refused) (before none lines all : List ℕ) → none ≡ []
    → all ≡ before ++ lines → AddsListing p k v none lines → AddsListing p k v before all
listed_behind p k v before none lines all empty put listing few =
    let own = listing few in
    (own.0, put ∙ ap (λ t. before ++ t) (own.1 ∙ ap (λ t. t ++ own.0) empty), own.2)

pub explained : (s t : Subject) (k v : Option Refused) (head lines all : List ℕ) → t ≡ s
    → k ≡ kinds_refusal s.program.now (signature_of s) → v ≡ verdict_on s → head ≡ head_text s.line (line_of s)
    → AddsListing t.program.now k v head lines → Adds (IsReason k v) lines all → size s.program.now ≤ MAX_SLOTS
    → Explains s all
explained s t k v head lines all same kinds is put listing reason small =
    let own = subst (λ z. AddsListing z.program.now k v head lines) same listing small in
    let known = subst (λ w. (text : List ℕ) × (lines ≡ head ++ text) × IsListing s.program.now w v text) kinds own in
    let l = subst (λ w. (text : List ℕ) × (lines ≡ head ++ text) × IsListing s.program.now (kinds_refusal s.program.now (signature_of s)) w text) is known in
    let r = subst (λ w. Adds (IsReason (kinds_refusal s.program.now (signature_of s)) w) lines all) is (subst (λ w. Adds (IsReason w v) lines all) kinds reason) in (
      l.0 ++ r.0,
      r.1 ∙ ap (λ t. t ++ r.0) l.1 ∙ append_assoc head l.0 r.0 ∙ ap (λ t. t ++ (l.0 ++ r.0)) put,
      record { listing = l.0; reason = r.0; lists = l.2; refuses = r.2; whole = refl },
    )

pub explained_long : (s : Subject) (k v : Option Refused) (head lines more all : List ℕ) → k ≡ None
    → v ≡ verdict_on s → head ≡ head_text s.line (line_of s) → lines ≡ [] → more ≡ head ++ lines
    → Adds (IsReason k v) more all → ExplainsLong s all
explained_long s k v head lines more all none is put empty behind reason =
    let r = subst (λ w. Adds (IsReason None w) more all) is (subst (λ w. Adds (IsReason w v) more all) none reason) in
    record {
      reason = r.0;
      refuses = r.2;
      whole = r.1 ∙ ap (λ t. t ++ r.0) (behind ∙ ap (λ t. head ++ t) empty ∙ append-nil head ∙ put);
    }

-- ---- the length of a program

module _ (p : List Form) where
  abbrev sized : Bool → Option ℕ
  sized b = cond b (Some (size p)) None

  -- one of good size isn't too long
  pub not_long : (n : ℕ) → Some n ≡ sized (has_good_size p) → false ≡ ltb MAX_SLOTS (size p)
  not_long n is = by (ltb MAX_SLOTS (size p)) refl
    where
      by : (b : Bool) → ltb MAX_SLOTS (size p) ≡ b → false ≡ b
      by false e = refl
      by true e =
          let bad : has_good_size p ≡ false = and_right (ltb 0 (size p)) _ (lt-leb (size p) MAX_SLOTS (ltb-true MAX_SLOTS (size p) e)) in
          absurd (some_is_none n _ refl (is ∙ ap sized bad))

  good : 0 < size p → size p ≤ MAX_SLOTS → sized (has_good_size p) ≡ Some (size p)
  good some few = ap sized (both_true (lt-ltb 0 (size p) some) (le-leb (size p) MAX_SLOTS few))

-- of the others all but the empty one are
pub are_long : (p : List Form) (b : Bool) → b ≡ (length p == 0) → None ≡ sized p (has_good_size p)
    → not b ≡ ltb MAX_SLOTS (size p)
are_long [] b is none = ap not is
are_long (i ∷ q) b is none = by (ltb MAX_SLOTS (size (i ∷ q))) refl
  where
    not_empty : (b : Bool) → b ≡ (length (i ∷ q) == 0) → not b ≡ true
    not_empty false is = refl
    not_empty true is = absurd (omega (arith, eqb-true (length (i ∷ q)) 0 (sym is)))

    by : (c : Bool) → ltb MAX_SLOTS (size (i ∷ q)) ≡ c → not b ≡ c
    by true e = not_empty b is
    by false e =
        let some : 0 < size (i ∷ q) = omega (arith, some_slot i, length-append (slot_contents i) (layout q)) in
        absurd (some_is_none (size (i ∷ q)) _ (good (i ∷ q) some (omega (arith, ltb-false MAX_SLOTS (size (i ∷ q)) e))) (sym none))

-- what is told of a refusal begins with its rule and its slot
pub reason_begins : (kinds : Option Refused) (e : Refused) (text : List ℕ) → IsReason kinds (Some e) text
    → BeginsWith (refusal_text e) text
reason_begins kinds e text is = by (is_structural e.why) is
  where
    by : (b : Bool) → MatchBool b (TellsStructure e kinds text) (TellsKinds e text) → BeginsWith (refusal_text e) text
    by true told = (concat (codes "\n      " ∷ told.advice ∷ codes "\n" ∷ told.second ∷ []), told.whole)
    by false told = (codes " The way: " ++ told.0, told.1 ∙ append_assoc (refusal_text e) (codes " The way: ") told.0)
