-- The maps that are named by the kinds of a frame: where the frame before an instruction names only the first n, so does the one after.
use Rattle.std.proofs.Common.{◌≡◌, ℕ, zero, suc, ◌+◌, ◌/◌, ◌<◌, ◌≤◌, Bool, true, false, cond, length, Option, Some, None, refl, sym, inl, inr, ⊎_elim, arith, subst}
use Rattle.std.specs.Prelude.{ℤ, pos, ◌+ℤ◌, ◌==◌, unwrap_or, unsigned_abs}
use Rattle.std.proofs.lemmas.Bool.{cases_eq, cases_lt}
use Rattle.std.proofs.lemmas.List.{get_or_past, get_or-replicate}
use Rattle.insn.specs.declared.instruction.Form.{Form}
use Rattle.insn.specs.declared.instruction.Form.TheVariants.{Alu, Neg, MovSx, Swap, Load, Store, Imm64, MapRef, Ja, Branch, Call, Exit}
use Rattle.insn.specs.declared.instruction.Source.{Source}
use Rattle.insn.specs.declared.instruction.Source.TheVariants.{Reg, Imm}
use Rattle.insn.specs.declared.instruction.Edge.{Edge}
use Rattle.insn.specs.Sizes.{byte_count}
use Rattle.insn.specs.Moves.{distance}
use Rattle.regkind.specs.declared.frames.Kind.{Kind}
use Rattle.regkind.specs.declared.frames.Kind.TheVariants.{Unreadable, Scalar, Stack, Arg, Map, Value, ValueOrNull}
use Rattle.regkind.specs.declared.frames.Cell.{Cell}
use Rattle.regkind.specs.declared.frames.Cell.TheVariants.{Marks, Spilled}
use Rattle.regkind.specs.Frames.{Frame, Covers, CoversKind, CoversPointer, IsCell, IsFrame, is_pointer, kind, cell, with_kind, with_cell, with_mark, with_marks, blank_frame, entry_frame}
use Rattle.regkind.proofs.Export as frames
use Rattle.helpers.specs.declared.numbers.Helper.{Helper}
use Rattle.helpers.specs.declared.numbers.Helper.TheVariants.{Lookup, Update, Delete}
use Rattle.helpers.specs.Numbers.{helper_of}
use Rattle.verifier.specs.Operands.{copied, jumps_at_null, source_kind}
use Rattle.verifier.specs.Regions.{stack_index, pointer_in}
use Rattle.verifier.specs.FrameAfter.{frame_after, shifted, result_kind, after_store, loaded_kind, is_null_on, after_test, without_arguments, forgotten, forgetting, forgotten_cell, forgetting_cells, after_change, after_helper, after_call}
use Rattle.verifier.proofs.Spilled.{pointer_is, forgotten_is}

-- a kind that names a map names one of the first n
abbrev pub IsKindOf : ℕ → Kind → Type 0
IsKindOf n (Map m) = m < n
IsKindOf n (Value m o) = m < n
IsKindOf n (ValueOrNull m) = m < n
IsKindOf n k = Unit {0}

-- so does the kind of a cell's pointer
abbrev pub IsCellOf : ℕ → Cell → Type 0
IsCellOf n (Marks m) = Unit {0}
IsCellOf n (Spilled k) = IsKindOf n k

pub record IsFrameOf (n : ℕ) (f : Frame) : Type 0 where
  pub frame : IsFrame f
  pub kinds : (r : ℕ) → r < 11 → IsKindOf n (kind f r)
  pub cells : (c : ℕ) → c < 64 → IsCellOf n (cell f c)

module _ (n : ℕ) where
  pub kind_of : (f : Frame) (r : ℕ) → IsFrameOf n f → IsKindOf n (kind f r)
  kind_of f r h = ⊎_elim
      (λ lt. h.kinds r lt)
      (λ past. subst (IsKindOf n) (sym (get_or_past f.kinds r Unreadable (omega (arith, h.frame.kinds)))) tt)
      (cases_lt r 11)

  -- ---- frames that say no more

  kind_less : (a b : Kind) → CoversKind a b → IsKindOf n b → IsKindOf n a
  kind_less a b (inl e) h = subst (IsKindOf n) (sym e) tt
  kind_less a b (inr e) h = subst (IsKindOf n) (sym e) h

  cell_less : (a b : Cell) → CoversPointer a b → IsCellOf n b → IsCellOf n a
  cell_less (Marks m) b e h = tt
  cell_less (Spilled k) b e h = subst (IsCellOf n) e h

  pub less : (a b : Frame) → IsFrame a → Covers a b → IsFrameOf n b → IsFrameOf n a
  less a b frame h of = record {
    frame = frame;
    kinds = λ r lt. kind_less (kind a r) (kind b r) (h.kinds r lt) (of.kinds r lt);
    cells = λ c lt. cell_less (cell a c) (cell b c) (h.pointers c lt) (of.cells c lt);
  }

  -- ---- frames out of frames

  of_with_kind : (f : Frame) (r : ℕ) (k : Kind) → IsFrameOf n f → IsKindOf n k → IsFrameOf n (with_kind f r k)
  of_with_kind f r k h is = record {
    frame = frames.IsFrame-with_kind f r k h.frame;
    kinds = λ q lt. ⊎_elim
        (λ e.
        let inside : r < 11 = omega arith in
        subst (λ x. IsKindOf n (kind (with_kind f r k) x)) (sym e) (subst (IsKindOf n) (sym (frames.kind-with_kind_same f r k h.frame inside)) is))
        (λ ne. subst (IsKindOf n) (sym (frames.kind-with_kind_other f r q k ne)) (h.kinds q lt))
        (cases_eq q r);
    cells = h.cells;
  }

  of_with_cell : (f : Frame) (c : ℕ) (x : Cell) → IsFrameOf n f → IsCell x → IsCellOf n x → IsFrameOf n (with_cell f c x)
  of_with_cell f c x h fine is = record {
    frame = frames.IsFrame-with_cell f c x fine h.frame;
    kinds = h.kinds;
    cells = λ q lt. ⊎_elim
        (λ e.
        let inside : c < 64 = omega arith in
        subst (λ y. IsCellOf n (cell (with_cell f c x) y)) (sym e) (subst (IsCellOf n) (sym (frames.cell-with_cell_same f c x h.frame inside)) is))
        (λ ne. subst (IsCellOf n) (sym (frames.cell-with_cell_other f c q x ne)) (h.cells q lt))
        (cases_eq q c);
  }

  of_with_mark : (f : Frame) (k c : ℕ) → IsFrame f → c < 64 → IsCellOf n (cell f c) → IsCellOf n (cell (with_mark f k) c)
  of_with_mark f k c frame lt h = ⊎_elim
      (λ e.
      let inside : k / 8 < length f.cells = omega (arith, frame.cells, e) in
      subst (λ x. IsCellOf n (cell (with_mark f k) x)) (sym e) (subst (IsCellOf n) (sym (frames.cell-with_mark_same f k inside)) tt))
      (λ ne. subst (IsCellOf n) (sym (frames.cell-with_mark_other f k c ne)) h)
      (cases_eq c (k / 8))

  cells_marked : (f : Frame) (at m c : ℕ) → IsFrame f → c < 64 → IsCellOf n (cell f c) → IsCellOf n (cell (with_marks f at m) c)
  unfolding with_marks
  cells_marked f at zero c frame lt h = h
  cells_marked f at (suc m) c frame lt h = of_with_mark (with_marks f at m) (at + m) c (frames.IsFrame-with_marks f at m frame) lt (cells_marked f at m c frame lt h)

  of_with_marks : (f : Frame) (at m : ℕ) → IsFrameOf n f → IsFrameOf n (with_marks f at m)
  of_with_marks f at m h = record {
    frame = frames.IsFrame-with_marks f at m h.frame;
    kinds = λ r lt. subst (IsKindOf n) (sym (frames.kind-with_marks f at m r)) (h.kinds r lt);
    cells = λ c lt. cells_marked f at m c h.frame lt (h.cells c lt);
  }

  -- ---- the frame after

  of_shifted : (k : Kind) (d : ℤ) → IsKindOf n k → IsKindOf n (shifted k d)
  of_shifted (Value m o) d h = h
  of_shifted (Stack o) d h = tt
  of_shifted (Arg o) d h = tt
  of_shifted k d h = tt

  of_result : (src : Option ℕ) (d : Option ℤ) (dst : ℕ) (f : Frame) → IsFrameOf n f → IsKindOf n (result_kind src d dst f)
  of_result (Some src) d dst f h = kind_of f src h
  of_result None (Some d) dst f h = of_shifted (kind f dst) d (kind_of f dst h)
  of_result None None dst f h = tt

  of_store : (f : Frame) (base : Kind) (d : ℤ) (m : ℕ) (k : Kind) → IsFrameOf n f → IsKindOf n k → IsFrameOf n (after_store f base d m k)
  of_store f (Stack o) d m k h is = by (is_pointer k) refl
    where
      by : (p : Bool) → is_pointer k ≡ p → IsFrameOf n (cond p (with_cell f (stack_index (o +ℤ d) / 8) (Spilled k)) (with_marks f (stack_index (o +ℤ d)) m))
      by true e = of_with_cell f (stack_index (o +ℤ d) / 8) (Spilled k) h e is
      by false e = of_with_marks f (stack_index (o +ℤ d)) m h
  of_store f base d m k h is = h

  of_loaded : (f : Frame) (base : Kind) (d : ℤ) (m : ℕ) → IsFrameOf n f → IsKindOf n (loaded_kind f base d m)
  of_loaded f base d m h = by (pointer_in f base d m) refl
    where
      by : (o : Option Kind) → pointer_in f base d m ≡ o → IsKindOf n (unwrap_or o Scalar)
      by None e = tt
      by (Some k) e =
          let at = pointer_is f base d m k e in
          subst (IsCellOf n) at.spilled (cell_of at.place)
        where
          cell_of : (c : ℕ) → IsCellOf n (cell f c)
          cell_of c = ⊎_elim
              (λ lt. h.cells c lt)
              (λ past. subst (IsCellOf n) (sym (get_or_past f.cells c (Marks 0) (omega (arith, h.frame.cells)))) tt)
              (cases_lt c 64)

  of_source : (src : Source) (f : Frame) → IsFrameOf n f → IsKindOf n (source_kind src f)
  of_source (Reg r) f h = kind_of f r h
  of_source (Imm imm) f h = tt

  of_test : (jumps : Option Bool) (f : Frame) (r : ℕ) (k : Kind) (e : Edge) → IsFrameOf n f → IsKindOf n k → IsFrameOf n (after_test jumps f r k e)
  of_test (Some jumps) f r (ValueOrNull m) e h is = of_with_kind f r (cond (is_null_on jumps e) Scalar (Value m (pos 0))) h (by (is_null_on jumps e))
    where
      by : (b : Bool) → IsKindOf n (cond b Scalar (Value m (pos 0)))
      by true = tt
      by false = is
  of_test jumps f r k e h is = h

  of_without : (f : Frame) → IsFrameOf n f → IsFrameOf n (without_arguments f)
  of_without f h =
      let one = of_with_kind f 1 Unreadable h tt in
      let two = of_with_kind _ 2 Unreadable one tt in
      let three = of_with_kind _ 3 Unreadable two tt in
      let four = of_with_kind _ 4 Unreadable three tt in
      of_with_kind _ 5 Unreadable four tt

  of_forgotten : (m : ℕ) (k : Kind) → IsKindOf n k → IsKindOf n (forgotten m k)
  of_forgotten m (Value q o) h = by (m == q)
    where
      by : (b : Bool) → IsKindOf n (cond b Unreadable (Value q o))
      by true = tt
      by false = h
  of_forgotten m (ValueOrNull q) h = by (m == q)
    where
      by : (b : Bool) → IsKindOf n (cond b Unreadable (ValueOrNull q))
      by true = tt
      by false = h
  of_forgotten m k h = h

  of_forgotten_cell : (m : ℕ) (x : Cell) → IsCellOf n x → IsCellOf n (forgotten_cell m x)
  of_forgotten_cell m (Marks q) h = tt
  of_forgotten_cell m (Spilled (Value q o)) h = by (m == q)
    where
      by : (b : Bool) → IsCellOf n (cond b (Marks 0) (Spilled (Value q o)))
      by true = tt
      by false = h
  of_forgotten_cell m (Spilled (ValueOrNull q)) h = by (m == q)
    where
      by : (b : Bool) → IsCellOf n (cond b (Marks 0) (Spilled (ValueOrNull q)))
      by true = tt
      by false = h
  of_forgotten_cell m (Spilled k) h = h

  of_forgetting : (m : ℕ) (f : Frame) (q : ℕ) → IsFrameOf n f → IsFrameOf n (forgetting m f q)
  of_forgetting m f zero h = h
  of_forgetting m f (suc q) h = of_with_kind (forgetting m f q) q (forgotten m (kind f q)) (of_forgetting m f q h) (of_forgotten m (kind f q) (kind_of f q h))

  of_forgetting_cells : (m : ℕ) (f : Frame) (q : ℕ) → q ≤ 64 → IsFrameOf n f → IsFrameOf n (forgetting_cells m f q)
  of_forgetting_cells m f zero le h = h
  of_forgetting_cells m f (suc q) le h =
      of_with_cell (forgetting_cells m f q) q (forgotten_cell m (cell f q)) (of_forgetting_cells m f q (omega arith) h) (forgotten_is m (cell f q) (h.frame.each q)) (of_forgotten_cell m (cell f q) (h.cells q (omega arith)))

  of_change : (m : ℕ) (f : Frame) → IsFrameOf n f → IsFrameOf n (after_change m f)
  of_change m f h = of_with_kind _ 0 Scalar (of_forgetting_cells m _ 64 (omega arith) (of_forgetting m _ 11 (of_without f h))) tt

  of_helper : (helper : Helper) (m : ℕ) (f : Frame) → IsFrameOf n f → m < n → IsFrameOf n (after_helper helper m f)
  of_helper Lookup m f h lt = of_with_kind _ 0 (ValueOrNull m) (of_without f h) lt
  of_helper Update m f h lt = of_change m f h
  of_helper Delete m f h lt = of_change m f h

  of_call : (helper : Option Helper) (k : Kind) (f : Frame) → IsFrameOf n f → IsKindOf n k → IsFrameOf n (after_call helper k f)
  of_call (Some helper) (Map m) f h is = of_helper helper m f h is
  of_call helper k f h is = h

  -- a reference is to one of these maps
  abbrev pub RefersTo : Form → Type 0
  RefersTo (MapRef dst index) = unsigned_abs index < n
  RefersTo i = Unit {0}

  pub of_after : (i : Form) (f : Frame) (e : Edge) → RefersTo i → IsFrameOf n f → IsFrameOf n (frame_after i f e)
  of_after (Alu w64 op dst src) f e to h = of_with_kind f dst (result_kind (copied w64 op src) (distance w64 op src) dst f) h (of_result (copied w64 op src) (distance w64 op src) dst f h)
  of_after (Neg w64 dst) f e to h = of_with_kind f dst Scalar h tt
  of_after (MovSx w64 bits dst src) f e to h = of_with_kind f dst Scalar h tt
  of_after (Swap order bits dst) f e to h = of_with_kind f dst Scalar h tt
  of_after (Load size signed dst src off) f e to h = of_with_kind f dst (loaded_kind f (kind f src) off (byte_count size)) h (of_loaded f (kind f src) off (byte_count size) h)
  of_after (Imm64 dst value) f e to h = of_with_kind f dst Scalar h tt
  of_after (MapRef dst index) f e to h = of_with_kind f dst (Map (unsigned_abs index)) h to
  of_after (Store size dst off src) f e to h = of_store f (kind f dst) off (byte_count size) (source_kind src f) h (of_source src f h)
  of_after (Branch w64 cond dst src off) f e to h = of_test (jumps_at_null w64 cond src) f dst (kind f dst) e h (kind_of f dst h)
  of_after (Call id) f e to h = of_call (helper_of id) (kind f 1) f h (kind_of f 1 h)
  of_after (Ja long by) f e to h = h
  of_after Exit f e to h = h

  pub of_entry : IsFrameOf n entry_frame
  of_entry = record {
    frame = frames.IsFrame-entry;
    kinds = λ r lt. (of_with_kind _ 10 (Stack (pos 0)) (of_with_kind _ 1 (Arg (pos 0)) blank tt) tt).kinds r lt;
    cells = λ c lt. subst (IsCellOf n) (sym (frames.blank_cell c)) tt;
  }
    where
      blank : IsFrameOf n blank_frame
      blank = record {
        frame = frames.IsFrame-blank;
        kinds = λ r lt. subst (IsKindOf n) (sym (get_or-replicate 11 r Unreadable Unreadable lt)) tt;
        cells = λ c lt. subst (IsCellOf n) (sym (frames.blank_cell c)) tt;
      }
