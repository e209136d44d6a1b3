-- A run on other maps that are the same in those that the program names.
use Rattle.std.proofs.Common.{◌≡◌, ℕ, zero, suc, ◌+◌, Bool, true, false, cond, List, [], ◌∷◌, length, Option, Some, None, refl, sym, ap, ◌∙◌, arith, subst}
use Rattle.std.specs.Prelude.{ℤ, pos, negsuc, ◌+ℤ◌, ◌==◌, nat_lt, slice_get, is_some, option_and_then, Contains}
use Rattle.std.specs.List.{AllByRecursion}
use Rattle.std.specs.Option.{option_map}
use Rattle.std.proofs.lemmas.Bool.Decides.{nat_tests}
use Rattle.std.proofs.lemmas.List.Elements.{All-contains_itself, recursion_from_All}
use Rattle.insn.specs.declared.instruction.Source.{Source}
use Rattle.insn.specs.declared.instruction.Source.TheVariants.{Reg, Imm}
use Rattle.insn.specs.declared.instruction.Operation.{Operation}
use Rattle.insn.specs.declared.instruction.Operation.TheVariants.{Mov}
use Rattle.insn.specs.declared.instruction.Form.{Form}
use Rattle.insn.specs.declared.instruction.Form.TheVariants.{Alu, Neg, MovSx, Swap, Load, Store, Imm64, MapRef, Ja, Branch, Call, Exit}
use Rattle.insn.specs.Layout.{instruction_at}
use Rattle.insn.specs.Sizes.{byte_count}
use Rattle.insn.specs.Moves.{distance}
use Rattle.maps.specs.Maps.{Maps}
use Rattle.maps.specs.Values.{MachineValue, Num, StackAt, ArgAt, MapAt, ValueAt}
use Rattle.helpers.proofs.Export.{option_map_some}
use Rattle.machine.specs.Arithmetic.{bits_of, unsigned, alu, negated}
use Rattle.machine.specs.Conversions.{sign_extended, swapped}
use Rattle.machine.specs.State.{State, numeric, entry_state}
use Rattle.machine.specs.Memory.{fetched}
use Rattle.machine.specs.Step.{on_number, operand, moved, result_of, jumps, map_of, assigned, stored, changed, next_slot, go_on, execute, step, Step}
use Rattle.machine.specs.Runs.{Steps, Runs}
use Rattle.machine.specs.Isolation.{NamesMap, AgreeIn}
use Rattle.machine.proofs.Bytes.{and_then_some}
use Rattle.machine.proofs.Keeps.{stands_at}
use Rattle.machine.proofs.OnOtherMaps.{IsOf, AreOf, is_of, Holds, on, Alike, assigned_alike, fetched_same, fetched_of, stored_alike, called_alike, further}

-- a reference that the instruction loads is to a map of such a number
abbrev pub Refers : (ℕ → Type 0) → Form → Type 0
Refers such i = (dst m : ℕ) → i ≡ MapRef dst (pos m) → such m

module _ (such : ℕ → Type 0) where
  -- ---- results

  of_number : (f : ℕ → ℕ) (o : Option MachineValue) → AreOf such (on_number f o)
  of_number f o v e = let n = option_map_some (λ n. Num (f n)) (numeric o) v e in subst (IsOf such) n.2 tt

  of_moved : (v : MachineValue) (d : ℤ) → IsOf such v → AreOf such (moved v d)
  of_moved (Num n) d h w e = absurd cc
  of_moved (StackAt o) d h w e = is_of such (StackAt (o +ℤ d)) tt w e
  of_moved (ArgAt o) d h w e = is_of such (ArgAt (o +ℤ d)) tt w e
  of_moved (MapAt m) d h w e = absurd cc
  of_moved (ValueAt m key o) d h w e = is_of such (ValueAt m key (o +ℤ d)) h w e

  of_pointer : (v : MachineValue) (o : Option ℤ) → IsOf such v → AreOf such (option_and_then (moved v) o)
  of_pointer v o h w e = let d = and_then_some (moved v) o w e in of_moved v d.0 h w d.2

  of_result : (full : Bool) (op : Operation) (src : Source) (a b : Option MachineValue) → AreOf such a → AreOf such b → AreOf such (result_of full op src a b)
  of_result true Mov src a b h k = k
  of_result false Mov src a b h k = of_number (λ n. alu Mov 32 n n) b
  of_result full op src (Some (Num m)) b h k = of_number (alu op (bits_of full) m) b
  of_result full op src (Some v) b h k = of_pointer v (distance full op src) (h v refl)
  of_result full op src None b h k = λ v e. absurd cc

  of_operand : (c : State) (src : Source) → Holds such c → AreOf such (operand c src)
  of_operand c (Reg r) h = h.registers r
  of_operand c (Imm imm) h = is_of such (Num (unsigned 64 imm)) tt

  same_operand : (c : State) (ms : Maps) (src : Source) → operand (on ms c) src ≡ operand c src
  same_operand c ms (Reg r) = refl
  same_operand c ms (Imm imm) = refl

  -- ---- a load

  load_alike : (c d : State) (ms : Maps) (sign : Bool) (dst n : ℕ) (off : ℤ) (o : Option MachineValue) → Holds such c → AgreeIn such c.maps ms → AreOf such o → assigned c dst (option_and_then (fetched c sign off n) o) ≡ Some d
      → Alike such c d (assigned (on ms c) dst (option_and_then (fetched (on ms c) sign off n) o))
  load_alike c d ms sign dst n off None h a k e = absurd cc
  load_alike c d ms sign dst n off (Some v) h a k e =
      subst (λ (x : Option MachineValue). Alike such c d (assigned (on ms c) dst x)) (sym (fetched_same such c ms sign off n v a (k v refl)))
      (assigned_alike such c d ms dst (fetched c sign off n v) h a (fetched_of such c sign off n v h) e)

  -- ---- a reference to a map

  lt_suc : (m n : ℕ) → nat_lt (suc m) (suc n) ≡ nat_lt m n
  lt_suc m n = grind (arith, nat_tests)

  none : (m : ℕ) → nat_lt m 0 ≡ false
  none m = grind (arith, nat_tests)

  some : (n : ℕ) → nat_lt 0 (suc n) ≡ true
  some n = grind (arith, nat_tests)

  is_there : (maps : Maps) (m : ℕ) → is_some (slice_get maps m) ≡ nat_lt m (length maps)
  is_there [] m = sym (none m)
  is_there (s ∷ maps) zero = sym (some (length maps))
  is_there (s ∷ maps) (suc m) = is_there maps m ∙ sym (lt_suc m (length maps))

  map_same : (maps ms : Maps) (m : ℕ) → slice_get maps m ≡ slice_get ms m → map_of ms (pos m) ≡ map_of maps (pos m)
  map_same maps ms m e = ap (λ b. cond b (Some (MapAt m)) None) (sym (is_there ms m) ∙ ap is_some (sym e) ∙ is_there maps m)

  of_map : (maps : Maps) (m : ℕ) → such m → AreOf such (map_of maps (pos m))
  of_map maps m k = by (nat_lt m (length maps))
    where
      by : (b : Bool) → AreOf such (cond b (Some (MapAt m)) None)
      by true = is_of such (MapAt m) k
      by false = λ v e. absurd cc

  map_alike : (c d : State) (ms : Maps) (dst : ℕ) (z : ℤ) → Refers such (MapRef dst z) → Holds such c → AgreeIn such c.maps ms → assigned c dst (map_of c.maps z) ≡ Some d → Alike such c d (assigned (on ms c) dst (map_of ms z))
  map_alike c d ms dst (negsuc m) names h a e = absurd cc
  map_alike c d ms dst (pos m) names h a e =
      let k = names dst m refl in
      subst (λ (x : Option MachineValue). Alike such c d (assigned (on ms c) dst x)) (sym (map_same c.maps ms m (a m k)))
      (assigned_alike such c d ms dst (map_of c.maps (pos m)) h a (of_map c.maps m k) e)

  -- ---- instructions

  changed_alike : (i : Form) (c d : State) (ms : Maps) → Refers such i → Holds such c → AgreeIn such c.maps ms → changed i c ≡ Some d → Alike such c d (changed i (on ms c))
  changed_alike (Alu full op dst src) c d ms names h a e =
      subst (λ (x : Option MachineValue). Alike such c d (assigned (on ms c) dst (result_of full op src (c.registers dst) x))) (sym (same_operand c ms src))
      (assigned_alike such c d ms dst (result_of full op src (c.registers dst) (operand c src)) h a (of_result full op src (c.registers dst) (operand c src) (h.registers dst) (of_operand c src h)) e)
  changed_alike (Neg full dst) c d ms names h a e =
      assigned_alike such c d ms dst (on_number (negated (bits_of full)) (c.registers dst)) h a (of_number (negated (bits_of full)) (c.registers dst)) e
  changed_alike (MovSx full bits dst src) c d ms names h a e =
      assigned_alike such c d ms dst (on_number (sign_extended (bits_of full) bits) (c.registers src)) h a (of_number (sign_extended (bits_of full) bits) (c.registers src)) e
  changed_alike (Swap order bits dst) c d ms names h a e =
      assigned_alike such c d ms dst (on_number (swapped order bits) (c.registers dst)) h a (of_number (swapped order bits) (c.registers dst)) e
  changed_alike (Load size sign dst src off) c d ms names h a e = load_alike c d ms sign dst (byte_count size) off (c.registers src) h a (h.registers src) e
  changed_alike (Store size dst off src) c d ms names h a e =
      subst (λ (x : Option MachineValue). Alike such c d (stored (on ms c) (c.registers dst) off (byte_count size) x)) (sym (same_operand c ms src))
      (stored_alike such c d ms (c.registers dst) off (byte_count size) (operand c src) h a (h.registers dst) (of_operand c src h) e)
  changed_alike (Imm64 dst value) c d ms names h a e = assigned_alike such c d ms dst (Some (Num value)) h a (is_of such (Num value) tt) e
  changed_alike (MapRef dst index) c d ms names h a e = map_alike c d ms dst index names h a e
  changed_alike (Ja long by) c d ms names h a e = let is : c ≡ d = cc in subst (λ (x : State). Alike such c x (Some (on ms c))) is (record { after = ms; made = refl; agree = a; holds = h; rests = λ m n. refl })
  changed_alike (Branch full condition dst src off) c d ms names h a e = let is : c ≡ d = cc in subst (λ (x : State). Alike such c x (Some (on ms c))) is (record { after = ms; made = refl; agree = a; holds = h; rests = λ m n. refl })
  changed_alike (Call id) c d ms names h a e = called_alike such c d ms id h a e
  changed_alike Exit c d ms names h a e = absurd cc

  next_same : (i : Form) (c : State) (ms : Maps) → next_slot i (on ms c) ≡ next_slot i c
  next_same (Alu full op dst src) c ms = refl
  next_same (Neg full dst) c ms = refl
  next_same (MovSx full bits dst src) c ms = refl
  next_same (Swap order bits dst) c ms = refl
  next_same (Load size sign dst src off) c ms = refl
  next_same (Store size dst off src) c ms = refl
  next_same (Imm64 dst value) c ms = refl
  next_same (MapRef dst index) c ms = refl
  next_same (Ja long by) c ms = refl
  next_same (Branch full condition dst src off) c ms =
      ap (λ x. option_map (λ b. cond b (pos (c.slot + 1) +ℤ off) (pos (c.slot + 1))) (jumps full condition src (c.registers dst) x)) (same_operand c ms src)
  next_same (Call id) c ms = refl
  next_same Exit c ms = refl

  -- ---- steps

  go_alike : (p : List Form) (c d e : State) (z : ℤ) (ms : Maps) (one : Holds such d) → AgreeIn such d.maps ms → go_on p d z ≡ Some e → Alike such d e (go_on p (on ms d) z)
  go_alike p c d e (negsuc t) ms h a x = absurd cc
  go_alike p c d e (pos t) ms h a x = by (is_some (instruction_at p t)) x
    where
      by : (b : Bool) → cond b (Some (record d { slot = t })) None ≡ Some e → Alike such d e (cond b (Some (record (on ms d) { slot = t })) None)
      by true q =
          let is : record d { slot = t } ≡ e = cc in
          subst (λ (y : State). Alike such d y (Some (record (on ms d) { slot = t }))) is (record { after = ms; made = refl; agree = a; holds = record { registers = h.registers; pointers = h.pointers }; rests = λ m n. refl })
      by false q = absurd cc

  executed_alike : (p : List Form) (i : Form) (c e : State) (ms : Maps) → Refers such i → Holds such c → AgreeIn such c.maps ms → execute p i c ≡ Some e → Alike such c e (execute p i (on ms c))
  executed_alike p i c e ms names h a x =
      let d = and_then_some (λ (d : State). option_and_then (go_on p d) (next_slot i c)) (changed i c) e x in
      let z = and_then_some (go_on p d.0) (next_slot i c) e d.2 in
      let one = changed_alike i c d.0 ms names h a d.1 in
      let next = λ (y : State). option_and_then (go_on p y) (next_slot i (on ms c)) in
      further such c d.0 e (changed i (on ms c)) next one
      (subst (λ (o : Option ℤ). Alike such d.0 e (option_and_then (go_on p (on one.after d.0)) o)) (sym (next_same i c ms ∙ z.1))
      (go_alike p c d.0 e z.0 one.after one.holds one.agree z.2))

  step_alike : (p : List Form) (c d : State) (ms : Maps) → AllByRecursion (Refers such) p → Holds such c → AgreeIn such c.maps ms → Step p c d → Alike such c d (step p (on ms c))
  step_alike p c d ms all h a e =
      let i = and_then_some (λ (i : Form). execute p i c) (instruction_at p c.slot) d e in
      subst (λ (o : Option Form). Alike such c d (option_and_then (λ (i : Form). execute p i (on ms c)) o)) (sym i.1)
      (executed_alike p i.0 c d ms (stands_at (Refers such) p c.slot i.0 all i.1) h a i.2)

  -- so many steps
  pub record StepAlike (p : List Form) (n : ℕ) (c d : State) (ms : Maps) : Type 0 where
    pub after : Maps
    pub steps : Steps p n (on ms c) (on after d)
    pub agree : AgreeIn such d.maps after
    pub rests : AgreeIn (λ m. ¬ such m) d.maps c.maps

  pub steps_alike : (p : List Form) (n : ℕ) (c d : State) (ms : Maps) → AllByRecursion (Refers such) p → Holds such c → AgreeIn such c.maps ms → Steps p n c d → StepAlike p n c d ms
  steps_alike p zero c d ms all h a s = subst (λ (x : State). StepAlike p zero c x ms) s (record { after = ms; steps = refl; agree = a; rests = λ m n. refl })
  steps_alike p (suc n) c d ms all h a s =
      let one = step_alike p c s.0 ms all h a s.1 in
      let rest = steps_alike p n s.0 d one.after all one.holds one.agree s.2 in
      record { after = rest.after; steps = (on one.after s.0, one.made, rest.steps); agree = rest.agree; rests = λ m other. rest.rests m other ∙ one.rests m other }

-- ---- runs

refers : (p : List Form) → AllByRecursion (Refers (NamesMap p)) p
refers p = each p (recursion_from_All (Contains p) p (All-contains_itself p))
  where
    each : (xs : List Form) → AllByRecursion (Contains p) xs → AllByRecursion (Refers (NamesMap p)) xs
    each [] h = tt
    each (x ∷ xs) h = ((λ dst m e. (dst, subst (Contains p) e h.0)), each xs h.1)

entry_holds : (such : ℕ → Type 0) (maps : Maps) (argument : List ℕ) → Holds such (entry_state maps argument)
entry_holds such maps argument = record { registers = λ r. by (r == 1) (r == 10); pointers = λ k v e. absurd cc }
  where
    by : (a b : Bool) → AreOf such (cond a (Some (ArgAt (pos 0))) (cond b (Some (StackAt (pos 0))) None))
    by true b = is_of such (ArgAt (pos 0)) tt
    by false true = is_of such (StackAt (pos 0)) tt
    by false false = λ v e. absurd cc

run_alike : (p : List Form) (maps ms left : Maps) (argument : List ℕ) (n r : ℕ) → AgreeIn (NamesMap p) maps ms → (run : Runs p maps argument n r left) → StepAlike (NamesMap p) p run.before (entry_state maps argument) run.last ms
run_alike p maps ms left argument n r a run =
    steps_alike (NamesMap p) p run.before (entry_state maps argument) run.last ms (refers p) (entry_holds (NamesMap p) maps argument) a run.steps

pub others_stay : (p : List Form) (maps left : Maps) (argument : List ℕ) (n r : ℕ) → Runs p maps argument n r left → AgreeIn (λ m. ¬ NamesMap p m) left maps
others_stay p maps left argument n r run =
    let alike = run_alike p maps maps left argument n r (λ m names. refl) run in
    subst (λ (x : Maps). AgreeIn (λ m. ¬ NamesMap p m) x maps) run.left alike.rests

pub others_unseen : (p : List Form) (maps ms left : Maps) (argument : List ℕ) (n r : ℕ) → AgreeIn (NamesMap p) maps ms → Runs p maps argument n r left
    → (left' : Maps) × Runs p ms argument n r left' × AgreeIn (NamesMap p) left left'
others_unseen p maps ms left argument n r a run =
    let alike = run_alike p maps ms left argument n r a run in (
      alike.after,
      record {
        before = run.before;
        last = on alike.after run.last;
        count = run.count;
        steps = alike.steps;
        exits = record { instruction = run.exits.instruction; reply_is = run.exits.reply_is };
        left = refl;
      },
      subst (λ (x : Maps). AgreeIn (NamesMap p) x alike.after) run.left alike.agree,
    )
