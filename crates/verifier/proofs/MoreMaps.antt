-- An instruction that breaks no rule breaks none where there are more maps, or where maps may be changed.
use Rattle.std.proofs.Common.{◌≡◌, ℕ, zero, suc, ◌<◌, Bool, true, false, List, [], ◌∷◌, ◌++◌, length, Option, Some, None, refl, sym, ap, ◌∙◌, arith}
use Rattle.std.specs.Prelude.{ℤ, pos, negsuc, ◌+ℤ◌, ◌||◌, ◌&&◌, not, unsigned_abs, is_none, slice_get}
use Rattle.std.specs.List.{list_any}
use Rattle.std.specs.Option.{option_map_or}
use Rattle.std.proofs.lemmas.Bool.{false≢true, not-false}
use Rattle.std.proofs.lemmas.Bool.Decides.{nat_tests}
use Rattle.std.proofs.lemmas.Option.{slice_get_within}
use Rattle.insn.specs.declared.instruction.Form.{Form}
use Rattle.insn.specs.declared.instruction.Form.TheVariants.{Alu, Load, Store, MapRef, Call, Exit}
use Rattle.insn.specs.Sizes.{byte_count}
use Rattle.insn.specs.Moves.{distance}
use Rattle.regkind.specs.declared.frames.Kind.{Kind}
use Rattle.regkind.specs.declared.frames.Kind.TheVariants.{Stack, Arg, Map, Value}
use Rattle.regkind.specs.Frames.{Frame, kind, entry_frame}
use Rattle.maps.specs.declared.shapes.Shape.{Shape}
use Rattle.maps.specs.Shapes.{key_size, value_size}
use Rattle.helpers.specs.declared.numbers.Helper.{Helper}
use Rattle.helpers.specs.declared.numbers.Helper.TheVariants.{Lookup, Update, Delete}
use Rattle.helpers.specs.Numbers.{helper_of}
use Rattle.flow.specs.declared.rules.StructureRule.TheVariants.{Unreachable}
use Rattle.flow.specs.Structure.{IsStructured, StandsAt, Reached}
use Rattle.flow.specs.Structure as flow
use Rattle.verifier.specs.declared.refusal.Mode.{Mode}
use Rattle.verifier.specs.declared.refusal.Mode.TheVariants.{Read}
use Rattle.verifier.specs.declared.refusal.VerifyFault.{VerifyFault}
use Rattle.verifier.specs.declared.refusal.VerifyFault.TheVariants.{UnreadableRegister, FramePointerWritten, UndefinedOperation, OffsetOutOfRange, OutOfRegion, UninitialisedStack, ArgumentWritten, PointerStored, UncheckedNull, HelperArgument, UnknownHelperOrMap, PointerReply, WriteInReadMode}
use Rattle.verifier.specs.Signature.{Signature, signature}
use Rattle.verifier.specs.Kinds.{is_value}
use Rattle.verifier.specs.Regions.{size_of, lies_in, is_within, Access, access, call_reads, memory_read, memory_written, is_outside, has_unmarked, is_unmarked, pointer_in}
use Rattle.verifier.specs.Rules.{leaves_region, writes_through, changes_map, is_map_index, is_read, breaks, first_broken, rules_in_order}
use Rattle.verifier.specs.FrameAfter.{frame_after}
use Rattle.verifier.specs.Typing.{Frames, IsTyping, IsTypable}
use Rattle.verifier.specs.MoreAllowed.{ComeFirst}
use Rattle.verifier.proofs.Broken.{find_none_too, unbroken_rules}
use Rattle.verifier.proofs.Lists.{get_left}
use Rattle.verifier.proofs.MapsOfKinds.{IsKindOf, IsFrameOf, RefersTo, kind_of, less, of_after, of_entry}

-- ---- rules

-- what the second allows where the first does, on a frame
record Allows (l m : Signature) (f : Frame) : Type 0 where
  within : (r : ℕ) (d : ℤ) (n : ℕ) → is_within m (kind f r) d n ≡ is_within l (kind f r) d n
  calls : (h : Option Helper) → call_reads m h f (kind f 1) ≡ call_reads l h f (kind f 1)
  maps : (z : ℤ) → is_map_index l z ≡ true → is_map_index m z ≡ true
  mode : is_read m.mode ≡ true → is_read l.mode ≡ true

module _ (l m : Signature) (f : Frame) (a : Allows l m f) where
  same_leaving : (i : Form) → leaves_region m i f ≡ leaves_region l i f
  same_leaving (Alu w64 op dst src) = by (distance w64 op src)
    where
      by : (o : Option ℤ) → option_map_or (λ d. not (is_within m (kind f dst) d 0)) o false ≡ option_map_or (λ d. not (is_within l (kind f dst) d 0)) o false
      by None = refl
      by (Some d) = ap not (a.within dst d 0)
  same_leaving i = refl

  outside_one : (r : ℕ) (d : ℤ) (n : ℕ) (b : Bool) → not (is_within m (kind f r) d n) || b ≡ not (is_within l (kind f r) d n) || b
  outside_one r d n b = ap (λ x. not x || b) (a.within r d n)

  outside_call : (h : Option Helper) (k : Kind) → list_any (is_outside m) (call_reads l h f k) ≡ list_any (is_outside l) (call_reads l h f k)
  outside_call (Some Lookup) (Map q) = outside_one 2 (pos 0) (size_of key_size l.shapes q) false
  outside_call (Some Delete) (Map q) = outside_one 2 (pos 0) (size_of key_size l.shapes q) false
  outside_call (Some Update) (Map q) =
      let key = not (is_within m (kind f 2) (pos 0) (size_of key_size l.shapes q)) in
      ap (λ b. key || b) (outside_one 3 (pos 0) (size_of value_size l.shapes q) false)
      ∙ outside_one 2 (pos 0) (size_of key_size l.shapes q) (not (is_within l (kind f 3) (pos 0) (size_of value_size l.shapes q)) || false)
  outside_call h k = refl

  outside_read : (i : Form) → list_any (is_outside m) (memory_read m i f) ≡ list_any (is_outside l) (memory_read l i f)
  outside_read (Load size signed dst src off) = outside_one src off (byte_count size) false
  outside_read (Call id) = ap (list_any (is_outside m)) (a.calls (helper_of id)) ∙ outside_call (helper_of id) (kind f 1)
  outside_read i = refl

  outside_written : (i : Form) → list_any (is_outside m) (memory_written i f) ≡ list_any (is_outside l) (memory_written i f)
  outside_written (Store size dst off src) = outside_one dst off (byte_count size) false
  outside_written i = refl

  same_unmarked : (k : Kind) (d : ℤ) (n : ℕ) → has_unmarked m f k d n ≡ has_unmarked l f k d n
  same_unmarked (Stack o) d n = refl
  same_unmarked k d n = refl

  unmarked_each : (xs : List Access) → list_any (is_unmarked m f) xs ≡ list_any (is_unmarked l f) xs
  unmarked_each [] = refl
  unmarked_each (x ∷ xs) = ap (λ b. b || list_any (is_unmarked m f) xs) (same_unmarked x.base x.distance x.bytes) ∙ ap (λ b. is_unmarked l f x || b) (unmarked_each xs)

  read_only : (b : Bool) → is_read l.mode && b ≡ false → is_read m.mode && b ≡ false
  read_only b e = by (is_read m.mode) refl
    where
      by : (x : Bool) → is_read m.mode ≡ x → x && b ≡ false
      by true is = ap (λ x. x && b) (sym (a.mode is)) ∙ e
      by false is = refl

  rule_too : (i : Form) (v : VerifyFault) → breaks v l i f ≡ false → breaks v m i f ≡ false
  rule_too i UnreadableRegister e = e
  rule_too i FramePointerWritten e = e
  rule_too i UndefinedOperation e = e
  rule_too i OffsetOutOfRange e = same_leaving i ∙ e
  rule_too i OutOfRegion e = ap (λ b. b || list_any (is_outside m) (memory_written i f)) (outside_read i) ∙ ap (λ b. list_any (is_outside l) (memory_read l i f) || b) (outside_written i) ∙ e
  rule_too (Load size signed dst src off) UninitialisedStack e = ap (λ b. is_none (pointer_in f (kind f src) off (byte_count size)) && b) (same_unmarked (kind f src) off (byte_count size)) ∙ e
  rule_too (Call id) UninitialisedStack e = ap (list_any (is_unmarked m f)) (a.calls (helper_of id)) ∙ unmarked_each (call_reads l (helper_of id) f (kind f 1)) ∙ e
  rule_too i UninitialisedStack e = refl
  rule_too i ArgumentWritten e = e
  rule_too (Store size dst off src) PointerStored e = e
  rule_too i PointerStored e = refl
  rule_too i UncheckedNull e = e
  rule_too (Call id) HelperArgument e = e
  rule_too i HelperArgument e = refl
  rule_too (Call id) UnknownHelperOrMap e = e
  rule_too (MapRef dst index) UnknownHelperOrMap e = ap not (a.maps index (not-false (is_map_index l index) e))
  rule_too i UnknownHelperOrMap e = refl
  rule_too Exit PointerReply e = e
  rule_too i PointerReply e = refl
  rule_too (Call id) WriteInReadMode e = read_only (changes_map (helper_of id)) e
  rule_too i WriteInReadMode e = read_only (writes_through is_value i f) e
  rule_too i v e = refl

  unbroken_too : (i : Form) → first_broken l i f ≡ None → first_broken m i f ≡ None
  unbroken_too i e = find_none_too (λ v. breaks v l i f) (λ v. breaks v m i f) rules_in_order (rule_too i) e

-- ---- another mode

pub readers : (p : List Form) (shapes : List Shape) (arg_len : ℕ) (mode : Mode) → IsTypable p (signature shapes arg_len Read) → IsTypable p (signature shapes arg_len mode)
readers p shapes arg_len mode t = (
  t.0,
  (
    t.1.0,
    record {
      frames = t.1.1.frames;
      entry = t.1.1.entry;
      each = λ i s at. unbroken_too (signature shapes arg_len Read) (signature shapes arg_len mode) (t.1.0 s) (allows (t.1.0 s)) i (t.1.1.each i s at);
      edges = t.1.1.edges;
    },
  ),
)
  where
    same_within : (k : Kind) (d : ℤ) (n : ℕ) → is_within (signature shapes arg_len mode) k d n ≡ is_within (signature shapes arg_len Read) k d n
    same_within (Stack o) d n = refl
    same_within (Arg o) d n = refl
    same_within (Value m o) d n = refl
    same_within k d n = refl

    same_calls : (h : Option Helper) (f : Frame) (k : Kind) → call_reads (signature shapes arg_len mode) h f k ≡ call_reads (signature shapes arg_len Read) h f k
    same_calls (Some Lookup) f (Map m) = refl
    same_calls (Some Update) f (Map m) = refl
    same_calls (Some Delete) f (Map m) = refl
    same_calls h f k = refl

    same_index : (z : ℤ) → is_map_index (signature shapes arg_len Read) z ≡ true → is_map_index (signature shapes arg_len mode) z ≡ true
    same_index (pos m) e = e
    same_index (negsuc m) e = e

    allows : (f : Frame) → Allows (signature shapes arg_len Read) (signature shapes arg_len mode) f
    allows f = record { within = λ r. same_within (kind f r); calls = λ h. same_calls h f (kind f 1); maps = same_index; mode = λ e. refl }

-- ---- more maps

there : (shapes : List Shape) (m : ℕ) → m < length shapes → (s : Shape) × (slice_get shapes m ≡ Some s)
there [] m lt = absurd (omega arith)
there (s ∷ shapes) zero lt = (s, refl)
there (s ∷ shapes) (suc m) lt = there shapes m (omega arith)

module _ (p : List Form) (shapes others : List Shape) (arg_len : ℕ) (mode : Mode) (first : ComeFirst shapes others) where
  l : Signature
  l = signature shapes arg_len mode

  wide : Signature
  wide = signature others arg_len mode

  -- a map that is there, and the one in its place
  placed : (m : ℕ) → m < length shapes → (s : Shape) × (slice_get shapes m ≡ Some s) × (t : Shape) × (slice_get others m ≡ Some t) × (key_size t ≡ key_size s) × (value_size t ≡ value_size s)
  placed m lt = let at = there shapes m lt in let t = first m at.0 at.1 in (at.0, at.1, t.0, t.1, t.2, t.3)

  same_key : (m : ℕ) → m < length shapes → size_of key_size others m ≡ size_of key_size shapes m
  same_key m lt = let at = placed m lt in ap (λ o. option_map_or key_size o 0) at.3 ∙ at.4 ∙ sym (ap (λ o. option_map_or key_size o 0) at.1)

  same_value : (m : ℕ) → m < length shapes → size_of value_size others m ≡ size_of value_size shapes m
  same_value m lt = let at = placed m lt in ap (λ o. option_map_or value_size o 0) at.3 ∙ at.5 ∙ sym (ap (λ o. option_map_or value_size o 0) at.1)

  wide_within : (k : Kind) (d : ℤ) (n : ℕ) → IsKindOf (length shapes) k → is_within wide k d n ≡ is_within l k d n
  unfolding l wide
  wide_within (Value m o) d n h = ap (λ x. lies_in (pos 0) (pos x) (o +ℤ d) n) (same_value m h)
  wide_within (Stack o) d n h = refl
  wide_within (Arg o) d n h = refl
  wide_within k d n h = refl

  wide_calls : (h : Option Helper) (f : Frame) (k : Kind) → IsKindOf (length shapes) k → call_reads wide h f k ≡ call_reads l h f k
  unfolding l wide
  wide_calls (Some Lookup) f (Map m) h = ap (λ x. access (kind f 2) (pos 0) x ∷ []) (same_key m h)
  wide_calls (Some Delete) f (Map m) h = ap (λ x. access (kind f 2) (pos 0) x ∷ []) (same_key m h)
  wide_calls (Some Update) f (Map m) h = rw (same_key m h, same_value m h) refl
  wide_calls helper f k h = refl

  wide_index : (z : ℤ) → is_map_index l z ≡ true → is_map_index wide z ≡ true
  unfolding l wide
  wide_index (pos m) e = let lt : m < length shapes = grind (arith, nat_tests) in let at = placed m lt in let le : m < length others = slice_get_within others m at.2 at.3 in grind (arith, nat_tests)
  wide_index (negsuc m) e = e

  wide_allows : (f : Frame) → IsFrameOf (length shapes) f → Allows l wide f
  unfolding l wide
  wide_allows f h = record {
    within = λ r d n. wide_within (kind f r) d n (kind_of (length shapes) f r h);
    calls = λ helper. wide_calls helper f (kind f 1) (kind_of (length shapes) f 1 h);
    maps = wide_index;
    mode = λ e. e;
  }

  -- an instruction that breaks no rule refers to a map that is there
  refers : (i : Form) (f : Frame) → first_broken l i f ≡ None → RefersTo (length shapes) i
  unfolding l wide
  refers (MapRef dst index) f e = by index (not-false (is_map_index l index) (unbroken_rules l (MapRef dst index) f e).1.1.1.1.1.1.1.1.1.1.0)
    where
      by : (z : ℤ) → is_map_index l z ≡ true → unsigned_abs z < length shapes
      by (pos m) h = grind (arith, nat_tests)
      by (negsuc m) h = absurd (false≢true h)
  refers i f e = tt

  module _ (F : Frames) (typing : IsTyping p l F) where
    reached : (t : ℕ) → Reached p t → IsFrameOf (length shapes) (F t)
    reached t flow.Reached.first = less (length shapes) (F 0) entry_frame (typing.frames 0) typing.entry (of_entry (length shapes))
    reached t (flow.Reached.next {s = s} {i = i} e r stands leads lt) =
        let before = reached s r in
        let after = of_after (length shapes) i (F s) e (refers i (F s) (typing.each i s stands)) before in
        less (length shapes) (F t) (frame_after i (F s) e) (typing.frames t) (typing.edges i s t e (stands, leads)) after

    unbroken : IsStructured p → (i : Form) (s : ℕ) → StandsAt p i s → first_broken wide i (F s) ≡ None
    unbroken structured i s at = by (first_broken wide i (F s)) refl
      where
        by : (o : Option VerifyFault) → first_broken wide i (F s) ≡ o → o ≡ None
        by None e = refl
        by (Some v) e = absurd (structured.each i s tt at Unreachable (λ r.
            let none = unbroken_too l wide (F s) (wide_allows (F s) (reached s r)) i (typing.each i s at) in
            let bad : Some v ≡ None = sym e ∙ none in cc))

  pub first_maps : IsTypable p (signature shapes arg_len mode) → IsTypable p (signature others arg_len mode)
  unfolding l wide
  first_maps t = (
    t.0,
    (t.1.0, record { frames = t.1.1.frames; entry = t.1.1.entry; each = unbroken t.1.0 t.1.1 t.0; edges = t.1.1.edges }),
  )

-- where more come after them
come_first : (shapes more : List Shape) → ComeFirst shapes (shapes ++ more)
come_first shapes more m s at = (s, get_left shapes more m (slice_get_within shapes m s at) ∙ at, refl, refl)

pub more_maps : (p : List Form) (shapes more : List Shape) (arg_len : ℕ) (mode : Mode) → IsTypable p (signature shapes arg_len mode) → IsTypable p (signature (shapes ++ more) arg_len mode)
more_maps p shapes more arg_len mode t = first_maps p shapes (shapes ++ more) arg_len mode (come_first shapes more) t
