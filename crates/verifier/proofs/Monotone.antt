-- A frame that says more breaks no more rules, and leads to frames that say more.
use Rattle.std.proofs.Common.{◌≡◌, ℕ, zero, suc, ◌≤◌, Bool, true, false, cond, List, [], ◌∷◌, Option, Some, None, refl, sym, ap, ◌∙◌, inl, inr, ⊎_elim, arith, subst}
use Rattle.std.specs.Prelude.{◌||◌, ◌&&◌, not, ◌/◌, ◌<◌, is_none, unwrap_or, ℤ, pos, ◌+ℤ◌}
use Rattle.std.specs.List.{list_any, AllByRecursion}
use Rattle.std.proofs.lemmas.Bool.{false≢true, cases_lt}
use Rattle.std.proofs.lemmas.List.{get_or_past}
use Rattle.insn.specs.declared.instruction.Form.{Form}
use Rattle.insn.specs.declared.instruction.Form.TheVariants.{Alu, Neg, MovSx, Swap, Load, Store, Imm64, MapRef, Ja, Branch, Call, Exit}
use Rattle.insn.specs.declared.instruction.Operation.{Operation}
use Rattle.insn.specs.declared.instruction.Operation.TheVariants.{Mov}
use Rattle.insn.specs.declared.instruction.Condition.{Condition}
use Rattle.insn.specs.declared.instruction.Condition.TheVariants.{Jeq, Jne}
use Rattle.insn.specs.declared.instruction.Source.{Source}
use Rattle.insn.specs.declared.instruction.Source.TheVariants.{Reg, Imm}
use Rattle.insn.specs.Encoding.{HasEncoding}
use Rattle.insn.specs.declared.instruction.Edge.{Edge}
use Rattle.insn.specs.Sizes.{byte_count}
use Rattle.insn.specs.declared.instruction.Size.{Size}
use Rattle.regkind.specs.declared.frames.Kind.{Kind}
use Rattle.regkind.specs.declared.frames.Kind.TheVariants.{Unreadable, Scalar, Stack, Map, ValueOrNull}
use Rattle.regkind.specs.declared.frames.Cell.{Cell}
use Rattle.regkind.specs.declared.frames.Cell.TheVariants.{Spilled}
use Rattle.regkind.specs.Frames.{Frame, Covers, CoversKind, CoversCell, IsCell, IsFrame, kind, cell, all_marked, with_kind, with_cell, with_marks}
use Rattle.regkind.proofs.Export as frames
use Rattle.helpers.specs.declared.numbers.Helper.{Helper}
use Rattle.helpers.specs.declared.numbers.Helper.TheVariants.{Lookup, Update, Delete}
use Rattle.helpers.specs.Numbers.{helper_of}
use Rattle.verifier.specs.declared.refusal.VerifyFault.{VerifyFault}
use Rattle.verifier.specs.declared.refusal.VerifyFault.TheVariants.{UnreadableRegister, UndefinedOperation, OutOfRegion, UninitialisedStack, UncheckedNull, HelperArgument}
use Rattle.verifier.specs.Signature.{Signature}
use Rattle.verifier.specs.Kinds.{is_unreadable, is_pointer, cannot_be_tested}
use Rattle.verifier.specs.Operands.{call_registers, source_registers, reads, copied, jumps_at_null, source_kind}
use Rattle.insn.specs.Moves.{distance}
use Rattle.verifier.specs.Regions.{is_within, is_outside, has_unmarked, is_unmarked, Access, stack_index, call_reads, pointer_in}
use Rattle.verifier.specs.Rules.{breaks, first_broken, rules_in_order, misuses, has_bad_argument}
use Rattle.verifier.specs.FrameAfter.{frame_after, shifted, result_kind, after_store, loaded_kind, after_test, after_call, without_arguments, forgotten, forgetting, forgetting_cells}
use Rattle.verifier.proofs.Broken.{or_parts, or_from, find_none_too, unbroken_rules}
use Rattle.verifier.proofs.Spilled.{stack_index_end, pointer_too, marked_is_no_pointer, forgotten_is, forgotten_covers}

-- ---- what is read is known alike

covers_kind : (a b : Frame) → IsFrame a → Covers a b → (r : ℕ) → CoversKind (kind a r) (kind b r)
covers_kind a b fa h r =
    ⊎_elim (λ lt. h.kinds r lt) (λ le. inl (get_or_past a.kinds r Unreadable (omega (arith, fa.kinds)))) (cases_lt r 11)

readable_same : (x y : Kind) → CoversKind x y → is_unreadable x ≡ false → x ≡ y
readable_same x y (inl e) h = absurd (false≢true (sym h ∙ ap is_unreadable e))
readable_same x y (inr e) h = e

-- these registers are known alike
abbrev pub SameKinds : Frame → Frame → List ℕ → Type 0
SameKinds a b rs = AllByRecursion (λ r. kind a r ≡ kind b r) rs

same_kinds : (a b : Frame) → IsFrame a → Covers a b → (rs : List ℕ) → list_any (λ r. is_unreadable (kind a r)) rs ≡ false → SameKinds a b rs
same_kinds a b fa h [] e = tt
same_kinds a b fa h (r ∷ rs) e =
    let parts = or_parts _ _ e in
    (readable_same (kind a r) (kind b r) (covers_kind a b fa h r) parts.0, same_kinds a b fa h rs parts.1)

-- what an instruction reads is known alike by a frame that says more
pub alike : (l : Signature) (i : Form) (a b : Frame) → IsFrame a → Covers a b → first_broken l i a ≡ None → SameKinds a b (reads i)
alike l i a b fa h e = same_kinds a b fa h (reads i) (unbroken_rules l i a e).0

-- ---- rules

same_unreadable : (a b : Frame) (rs : List ℕ) → SameKinds a b rs → list_any (λ r. is_unreadable (kind a r)) rs ≡ list_any (λ r. is_unreadable (kind b r)) rs
same_unreadable a b [] s = refl
same_unreadable a b (r ∷ rs) s = rw (s.0, same_unreadable a b rs s.1) refl

and_not : (w x y : Bool) → (w ≡ true → x ≡ true → y ≡ true) → w && not x ≡ false → w && not y ≡ false
and_not true true y h e = ap not (h refl refl)
and_not true false y h e = absurd (false≢true (sym e))
and_not false x y h e = refl

-- bytes that are marked in the stack are marked by a frame that says more
marked_too : (l : Signature) (a b : Frame) (k : Kind) (d : ℤ) (n : ℕ) → Covers a b → has_unmarked l a k d n ≡ false → has_unmarked l b k d n ≡ false
marked_too l a b (Stack o) d n h e =
    and_not (is_within l (Stack o) d n) (all_marked a (stack_index (o +ℤ d)) n) (all_marked b (stack_index (o +ℤ d)) n) (λ w m. frames.all_marked-covers a b (stack_index (o +ℤ d)) n (stack_index_end (o +ℤ d) n w) h m) e
marked_too l a b k d n h e = refl

all_marked_too : (l : Signature) (a b : Frame) (xs : List Access) → Covers a b → list_any (is_unmarked l a) xs ≡ false → list_any (is_unmarked l b) xs ≡ false
all_marked_too l a b [] h e = refl
all_marked_too l a b (x ∷ xs) h e =
    let parts = or_parts (is_unmarked l a x) _ e in
    or_from (is_unmarked l b x) _ (marked_too l a b x.base x.distance x.bytes h parts.0) (all_marked_too l a b xs h parts.1)

-- bytes that are a pointer or marked are that by a frame that says more
loaded_too : (l : Signature) (a b : Frame) (k : Kind) (d : ℤ) (n : ℕ) → Covers a b → is_none (pointer_in a k d n) && has_unmarked l a k d n ≡ false → is_none (pointer_in b k d n) && has_unmarked l b k d n ≡ false
loaded_too l a b k d n h e = by (pointer_in a k d n) refl e
  where
    neither : (x y : Bool) → y ≡ false → x && y ≡ false
    neither true y h = h
    neither false y h = refl

    by : (o : Option Kind) → pointer_in a k d n ≡ o → is_none o && has_unmarked l a k d n ≡ false → is_none (pointer_in b k d n) && has_unmarked l b k d n ≡ false
    by (Some p) is e = rw (pointer_too a b k d n p h is) refl
    by None is e = neither (is_none (pointer_in b k d n)) _ (marked_too l a b k d n h e)

load_rule : (l : Signature) (size : Size) (signed : Bool) (dst src : ℕ) (off : ℤ) (a b : Frame) → Covers a b → kind a src ≡ kind b src → (v : VerifyFault) → breaks v l (Load size signed dst src off) a ≡ false → breaks v l (Load size signed dst src off) b ≡ false
load_rule l size signed dst src off a b h s UninitialisedStack e =
    subst (λ k. is_none (pointer_in b k off (byte_count size)) && has_unmarked l b k off (byte_count size) ≡ false) s (loaded_too l a b (kind a src) off (byte_count size) h e)
load_rule l size signed dst src off a b h s UnreadableRegister e = rw (← s) e
load_rule l size signed dst src off a b h s UndefinedOperation e = rw (← s) e
load_rule l size signed dst src off a b h s OutOfRegion e = rw (← s) e
load_rule l size signed dst src off a b h s UncheckedNull e = rw (← s) e
load_rule l size signed dst src off a b h s v e = e

-- ---- calls

same_reads_at : (l : Signature) (h : Option Helper) (k : Kind) (a b : Frame) → SameKinds a b (call_registers h) → call_reads l h a k ≡ call_reads l h b k
same_reads_at l (Some Lookup) (Map m) a b s = rw s.1.0 refl
same_reads_at l (Some Update) (Map m) a b s = rw (s.1.0, s.1.1.0) refl
same_reads_at l (Some Delete) (Map m) a b s = rw s.1.0 refl
same_reads_at l h k a b s = refl

same_reads : (l : Signature) (h : Option Helper) (a b : Frame) → SameKinds a b (call_registers h) → call_reads l h a (kind a 1) ≡ call_reads l h b (kind b 1)
same_reads l None a b s = refl
same_reads l (Some Lookup) a b s = same_reads_at l (Some Lookup) (kind a 1) a b s ∙ ap (call_reads l (Some Lookup) b) s.0
same_reads l (Some Update) a b s = same_reads_at l (Some Update) (kind a 1) a b s ∙ ap (call_reads l (Some Update) b) s.0
same_reads l (Some Delete) a b s = same_reads_at l (Some Delete) (kind a 1) a b s ∙ ap (call_reads l (Some Delete) b) s.0

same_arguments : (h : Option Helper) (a b : Frame) → SameKinds a b (call_registers h) → has_bad_argument h a ≡ has_bad_argument h b
same_arguments None a b s = refl
same_arguments (Some Lookup) a b s = rw (s.0, s.1.0) refl
same_arguments (Some Update) a b s = rw (s.0, s.1.0, s.1.1.0, s.1.1.1.0) refl
same_arguments (Some Delete) a b s = rw (s.0, s.1.0) refl

call_rule : (l : Signature) (id : ℤ) (a b : Frame) → Covers a b → SameKinds a b (call_registers (helper_of id)) → (v : VerifyFault) → breaks v l (Call id) a ≡ false → breaks v l (Call id) b ≡ false
call_rule l id a b h s UnreadableRegister e = sym (same_unreadable a b (call_registers (helper_of id)) s) ∙ e
call_rule l id a b h s OutOfRegion e =
    subst (λ xs. list_any (is_outside l) xs || false ≡ false) (same_reads l (helper_of id) a b s) e
call_rule l id a b h s UninitialisedStack e =
    subst (λ xs. list_any (is_unmarked l b) xs ≡ false) (same_reads l (helper_of id) a b s) (all_marked_too l a b (call_reads l (helper_of id) a (kind a 1)) h e)
call_rule l id a b h s HelperArgument e = sym (same_arguments (helper_of id) a b s) ∙ e
call_rule l id a b h s v e = e

-- ---- branches

same_misuse : (w64 : Bool) (cond : Condition) (dst : ℕ) (src : Source) (off : ℤ) (a b : Frame) → SameKinds a b (reads (Branch w64 cond dst src off)) → misuses (Branch w64 cond dst src off) a ≡ misuses (Branch w64 cond dst src off) b
same_misuse true Jeq dst (Imm (pos zero)) off a b s = ap cannot_be_tested s.0
same_misuse true Jne dst (Imm (pos zero)) off a b s = ap cannot_be_tested s.0
same_misuse w64 cond dst (Imm imm) off a b s = ap (λ k. is_pointer k || false) s.0
same_misuse true Jeq dst (Reg src) off a b s = rw (s.0, s.1.0) refl
same_misuse true Jne dst (Reg src) off a b s = rw (s.0, s.1.0) refl
same_misuse false cond dst (Reg src) off a b s = rw (s.0, s.1.0) refl
same_misuse true cond dst (Reg src) off a b s = rw (s.0, s.1.0) refl

branch_rule : (l : Signature) (w64 : Bool) (cond : Condition) (dst : ℕ) (src : Source) (off : ℤ) (a b : Frame) → SameKinds a b (reads (Branch w64 cond dst src off)) → (v : VerifyFault) → breaks v l (Branch w64 cond dst src off) a ≡ false → breaks v l (Branch w64 cond dst src off) b ≡ false
branch_rule l w64 cond dst src off a b s UnreadableRegister e = sym (same_unreadable a b (reads (Branch w64 cond dst src off)) s) ∙ e
branch_rule l w64 cond dst src off a b s UndefinedOperation e = sym (same_misuse w64 cond dst src off a b s) ∙ e
branch_rule l w64 cond dst src off a b s v e = e

-- ---- all rules

unbroken_too : (l : Signature) (i : Form) (a b : Frame) → Covers a b → SameKinds a b (reads i) → first_broken l i a ≡ None → first_broken l i b ≡ None
unbroken_too l (Alu true Mov dst (Imm imm)) a b h s e = e
unbroken_too l (Alu false Mov dst (Imm imm)) a b h s e = e
unbroken_too l (Alu true Mov dst (Reg src)) a b h s e = rw (← s.0) e
unbroken_too l (Alu false Mov dst (Reg src)) a b h s e = rw (← s.0) e
unbroken_too l (Alu w64 op dst (Imm imm)) a b h s e = rw (← s.0) e
unbroken_too l (Alu w64 op dst (Reg src)) a b h s e = rw (← s.0, ← s.1.0) e
unbroken_too l (Neg w64 dst) a b h s e = rw (← s.0) e
unbroken_too l (MovSx w64 bits dst src) a b h s e = rw (← s.0) e
unbroken_too l (Swap order bits dst) a b h s e = rw (← s.0) e
unbroken_too l (Load size signed dst src off) a b h s e =
    find_none_too (λ v. breaks v l (Load size signed dst src off) a) (λ v. breaks v l (Load size signed dst src off) b) rules_in_order (load_rule l size signed dst src off a b h s.0) e
unbroken_too l (Store size dst off (Imm imm)) a b h s e = rw (← s.0) e
unbroken_too l (Store size dst off (Reg src)) a b h s e = rw (← s.0, ← s.1.0) e
unbroken_too l (Imm64 dst value) a b h s e = e
unbroken_too l (MapRef dst index) a b h s e = e
unbroken_too l (Ja long by) a b h s e = e
unbroken_too l (Branch w64 cond dst src off) a b h s e =
    find_none_too (λ v. breaks v l (Branch w64 cond dst src off) a) (λ v. breaks v l (Branch w64 cond dst src off) b) rules_in_order (branch_rule l w64 cond dst src off a b s) e
unbroken_too l (Call id) a b h s e =
    find_none_too (λ v. breaks v l (Call id) a) (λ v. breaks v l (Call id) b) rules_in_order (call_rule l id a b h s) e
unbroken_too l Exit a b h s e = rw (← s.0) e

-- an instruction that breaks no rule breaks none on a frame that says more
pub check_mono : (l : Signature) (i : Form) (a b : Frame) → HasEncoding i → IsFrame a → IsFrame b → Covers a b → first_broken l i a ≡ None → first_broken l i b ≡ None
check_mono l i a b instruction fa fb h e = unbroken_too l i a b h (alike l i a b fa h e) e

-- ---- the frame after

-- the same number, or the same pointer moved by the same distance
same_moved : (d : Option ℤ) (dst : ℕ) (a b : Frame) → kind a dst ≡ kind b dst → result_kind None d dst a ≡ result_kind None d dst b
same_moved None dst a b s = refl
same_moved (Some z) dst a b s = ap (λ k. shifted k z) s

same_result : (w64 : Bool) (op : Operation) (dst : ℕ) (src : Source) (a b : Frame) → SameKinds a b (reads (Alu w64 op dst src)) → result_kind (copied w64 op src) (distance w64 op src) dst a ≡ result_kind (copied w64 op src) (distance w64 op src) dst b
same_result true Mov dst (Reg src) a b s = s.0
same_result false Mov dst (Reg src) a b s = refl
same_result true Mov dst (Imm imm) a b s = refl
same_result false Mov dst (Imm imm) a b s = refl
same_result w64 op dst (Reg src) a b s = same_moved (distance w64 op (Reg src)) dst a b s.0
same_result w64 op dst (Imm imm) a b s = same_moved (distance w64 op (Imm imm)) dst a b s.0

-- frames, of which the second says more
record Grown (a b : Frame) : Type 0 where
  first : IsFrame a
  second : IsFrame b
  covers : Covers a b

grown-with_kind : (a b : Frame) (r : ℕ) (k k' : Kind) → Grown a b → CoversKind k k' → Grown (with_kind a r k) (with_kind b r k')
grown-with_kind a b r k k' g c = record {
  first = frames.IsFrame-with_kind a r k g.first;
  second = frames.IsFrame-with_kind b r k' g.second;
  covers = frames.covers-with_kind a b r k k' g.first g.second g.covers c;
}

grown-with_cell : (a b : Frame) (c : ℕ) (x y : Cell) → Grown a b → IsCell x → IsCell y → CoversCell x y → Grown (with_cell a c x) (with_cell b c y)
grown-with_cell a b c x y g first second covers = record {
  first = frames.IsFrame-with_cell a c x first g.first;
  second = frames.IsFrame-with_cell b c y second g.second;
  covers = frames.covers-with_cell a b c x y g.first g.second covers g.covers;
}

grown-with_marks : (a b : Frame) (at n : ℕ) → Grown a b → Grown (with_marks a at n) (with_marks b at n)
grown-with_marks a b at n g = record {
  first = frames.IsFrame-with_marks a at n g.first;
  second = frames.IsFrame-with_marks b at n g.second;
  covers = frames.covers-with_marks a b at n g.first g.second g.covers;
}

grown-after_store : (a b : Frame) (base : Kind) (d : ℤ) (n : ℕ) (k : Kind) → Grown a b → Grown (after_store a base d n k) (after_store b base d n k)
grown-after_store a b (Stack o) d n k g = by (is_pointer k) refl
  where
    place : ℕ
    place = stack_index (o +ℤ d)

    by : (p : Bool) → is_pointer k ≡ p → Grown (cond p (with_cell a (place / 8) (Spilled k)) (with_marks a place n)) (cond p (with_cell b (place / 8) (Spilled k)) (with_marks b place n))
    by true is = grown-with_cell a b (place / 8) (Spilled k) (Spilled k) g is is (λ i lt one. one, refl)
    by false is = grown-with_marks a b place n g
grown-after_store a b base d n k g = g

-- the same number, or the same pointer
same_source : (a b : Frame) (src : Source) → SameKinds a b (source_registers src) → source_kind src a ≡ source_kind src b
same_source a b (Reg r) s = s.0
same_source a b (Imm imm) s = refl

-- what a load gives is known alike: the same pointer, or a number
same_loaded : (l : Signature) (a b : Frame) (k : Kind) (d : ℤ) (n : ℕ) → Covers a b → is_none (pointer_in a k d n) && has_unmarked l a k d n ≡ false → loaded_kind a k d n ≡ loaded_kind b k d n
same_loaded l a b k d n h e = by (pointer_in a k d n) (pointer_in b k d n) refl refl e
  where
    by : (x y : Option Kind) → pointer_in a k d n ≡ x → pointer_in b k d n ≡ y → is_none x && has_unmarked l a k d n ≡ false → unwrap_or (pointer_in a k d n) Scalar ≡ unwrap_or (pointer_in b k d n) Scalar
    by (Some p) y ea eb e = rw (ea, pointer_too a b k d n p h ea) refl
    by None None ea eb e = rw (ea, eb) refl
    by None (Some p) ea eb e = absurd (marked_is_no_pointer l b k d n p (marked_too l a b k d n h e) eb)

grown-after_test : (jumps : Option Bool) (a b : Frame) (r : ℕ) (k : Kind) (e : Edge) → Grown a b → Grown (after_test jumps a r k e) (after_test jumps b r k e)
grown-after_test (Some jumps) a b r (ValueOrNull m) e g = grown-with_kind a b r _ _ g (inr refl)
grown-after_test jumps a b r k e g = g

grown-without_arguments : (a b : Frame) → Grown a b → Grown (without_arguments a) (without_arguments b)
grown-without_arguments a b g =
    let one = grown-with_kind a b 1 Unreadable Unreadable g (inr refl) in
    let two = grown-with_kind _ _ 2 Unreadable Unreadable one (inr refl) in
    let three = grown-with_kind _ _ 3 Unreadable Unreadable two (inr refl) in
    let four = grown-with_kind _ _ 4 Unreadable Unreadable three (inr refl) in
    grown-with_kind _ _ 5 Unreadable Unreadable four (inr refl)

forgotten_too : (m : ℕ) (k k' : Kind) → CoversKind k k' → CoversKind (forgotten m k) (forgotten m k')
forgotten_too m k k' (inl e) = inl (ap (forgotten m) e)
forgotten_too m k k' (inr e) = inr (ap (forgotten m) e)

grown-forgetting : (m : ℕ) (a b : Frame) (n : ℕ) → Grown a b → Grown (forgetting m a n) (forgetting m b n)
grown-forgetting m a b zero g = g
grown-forgetting m a b (suc n) g =
    grown-with_kind _ _ n _ _ (grown-forgetting m a b n g) (forgotten_too m (kind a n) (kind b n) (covers_kind a b g.first g.covers n))

grown-forgetting_cells : (m : ℕ) (a b : Frame) (n : ℕ) → n ≤ 64 → Grown a b → Grown (forgetting_cells m a n) (forgetting_cells m b n)
grown-forgetting_cells m a b zero le g = g
grown-forgetting_cells m a b (suc n) le g =
    let below : n < 64 = omega arith in
    let covered : CoversCell (cell a n) (cell b n) = (frames.cells_from_marks a b n below g.covers.marks, g.covers.pointers n below) in
    grown-with_cell _ _ n _ _ (grown-forgetting_cells m a b n (omega arith) g) (forgotten_is m (cell a n) (g.first.each n)) (forgotten_is m (cell b n) (g.second.each n)) (forgotten_covers m (cell a n) (cell b n) covered)

-- no register and no cell keeps a pointer to a value of the map
grown-forgotten : (m : ℕ) (a b : Frame) → Grown a b → Grown (with_kind (forgetting_cells m (forgetting m a 11) 64) 0 Scalar) (with_kind (forgetting_cells m (forgetting m b 11) 64) 0 Scalar)
grown-forgotten m a b g = grown-with_kind _ _ 0 _ _ (grown-forgetting_cells m _ _ 64 (omega arith) (grown-forgetting m a b 11 g)) (inr refl)

grown-after_helper : (h : Helper) (k : Kind) (a b : Frame) → Grown a b → Grown (after_call (Some h) k a) (after_call (Some h) k b)
grown-after_helper Lookup (Map m) a b g = grown-with_kind _ _ 0 _ _ (grown-without_arguments a b g) (inr refl)
grown-after_helper Update (Map m) a b g = grown-forgotten m _ _ (grown-without_arguments a b g)
grown-after_helper Delete (Map m) a b g = grown-forgotten m _ _ (grown-without_arguments a b g)
grown-after_helper h k a b g = g

grown-after_call : (h : Option Helper) (a b : Frame) → SameKinds a b (call_registers h) → Grown a b → Grown (after_call h (kind a 1) a) (after_call h (kind b 1) b)
grown-after_call None a b s g = g
grown-after_call (Some Lookup) a b s g = subst (λ k. Grown (after_call (Some Lookup) (kind a 1) a) (after_call (Some Lookup) k b)) s.0 (grown-after_helper Lookup (kind a 1) a b g)
grown-after_call (Some Update) a b s g = subst (λ k. Grown (after_call (Some Update) (kind a 1) a) (after_call (Some Update) k b)) s.0 (grown-after_helper Update (kind a 1) a b g)
grown-after_call (Some Delete) a b s g = subst (λ k. Grown (after_call (Some Delete) (kind a 1) a) (after_call (Some Delete) k b)) s.0 (grown-after_helper Delete (kind a 1) a b g)

-- what a load gives is known alike by both
abbrev LoadsAlike : Form → Frame → Frame → Type 0
LoadsAlike (Load size signed dst src off) a b = loaded_kind a (kind a src) off (byte_count size) ≡ loaded_kind b (kind b src) off (byte_count size)
LoadsAlike i a b = Unit {0}

grown-after : (i : Form) (a b : Frame) (e : Edge) → SameKinds a b (reads i) → LoadsAlike i a b → Grown a b → Grown (frame_after i a e) (frame_after i b e)
grown-after (Alu w64 op dst src) a b e s loads g = grown-with_kind a b dst _ _ g (inr (same_result w64 op dst src a b s))
grown-after (Neg w64 dst) a b e s loads g = grown-with_kind a b dst Scalar Scalar g (inr refl)
grown-after (MovSx w64 bits dst src) a b e s loads g = grown-with_kind a b dst Scalar Scalar g (inr refl)
grown-after (Swap order bits dst) a b e s loads g = grown-with_kind a b dst Scalar Scalar g (inr refl)
grown-after (Load size signed dst src off) a b e s loads g = grown-with_kind a b dst _ _ g (inr loads)
grown-after (Store size dst off src) a b e s loads g =
    let stored = source_kind src a in
    subst (λ k. Grown (after_store a (kind a dst) off (byte_count size) stored) (after_store b (kind b dst) off (byte_count size) k)) (same_source a b src s.1)
    (subst (λ k. Grown (after_store a (kind a dst) off (byte_count size) stored) (after_store b k off (byte_count size) stored)) s.0 (grown-after_store a b (kind a dst) off (byte_count size) stored g))
grown-after (Imm64 dst value) a b e s loads g = grown-with_kind a b dst Scalar Scalar g (inr refl)
grown-after (MapRef dst index) a b e s loads g = grown-with_kind a b dst _ _ g (inr refl)
grown-after (Ja long by) a b e s loads g = g
grown-after (Branch w64 cond dst src off) a b e s loads g =
    let jumps = jumps_at_null w64 cond src in
    subst (λ k. Grown (after_test jumps a dst (kind a dst) e) (after_test jumps b dst k e)) s.0 (grown-after_test jumps a b dst (kind a dst) e g)
grown-after (Call id) a b e s loads g = grown-after_call (helper_of id) a b s g
grown-after Exit a b e s loads g = g

loads_alike : (l : Signature) (i : Form) (a b : Frame) → IsFrame a → Covers a b → first_broken l i a ≡ None → LoadsAlike i a b
loads_alike l (Load size signed dst src off) a b fa h ok =
    let same = (alike l (Load size signed dst src off) a b fa h ok).0 in
    same_loaded l a b (kind a src) off (byte_count size) h (unbroken_rules l (Load size signed dst src off) a ok).1.1.1.1.1.0 ∙ ap (λ k. loaded_kind b k off (byte_count size)) same
loads_alike l i a b fa h ok = tt

-- where no rule is broken, a frame that says more leads to one that says more, by either edge
pub after_mono : (l : Signature) (i : Form) (a b : Frame) (e : Edge) → HasEncoding i → IsFrame a → IsFrame b → Covers a b → first_broken l i a ≡ None → Covers (frame_after i a e) (frame_after i b e)
after_mono l i a b e instruction fa fb h ok =
    let g = grown-after i a b e (alike l i a b fa h ok) (loads_alike l i a b fa h ok) (record { first = fa; second = fb; covers = h }) in
    g.covers

every_same : (a : Frame) (rs : List ℕ) → SameKinds a a rs
every_same a [] = tt
every_same a (r ∷ rs) = (refl, every_same a rs)

loads_same : (i : Form) (a : Frame) → LoadsAlike i a a
loads_same (Load size signed dst src off) a = refl
loads_same i a = tt

-- the frame after is a frame
pub after_frame : (i : Form) (f : Frame) (e : Edge) → IsFrame f → IsFrame (frame_after i f e)
after_frame i f e h =
    let g = grown-after i f f e (every_same f (reads i)) (loads_same i f) (record { first = h; second = h; covers = frames.covers_refl f }) in
    g.first
