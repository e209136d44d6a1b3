-- What an instruction makes of a state, it makes on other maps that are the same in those of such numbers, where no other map is at hand.
use Rattle.std.proofs.Common.{◌≡◌, ℕ, zero, suc, Bool, true, false, cond, List, [], ◌∷◌, Option, Some, None, refl, sym, ap, ◌∙◌, ⊎_elim, subst}
use Rattle.std.specs.Prelude.{ℤ, pos, ◌+ℤ◌, ◌==◌, ◌&&◌, nat_le, slice_get, option_and_then}
use Rattle.std.specs.Option.{option_map, option_or}
use Rattle.std.specs.FinMap as finite_map
use Rattle.std.proofs.lemmas.Bool.{cases_eq}
use Rattle.maps.specs.Shapes.{key_size, value_size}
use Rattle.maps.specs.Maps.{Maps, MapState, Entries}
use Rattle.maps.specs.Values.{MachineValue, Num, StackAt, ArgAt, MapAt, ValueAt}
use Rattle.helpers.specs.declared.numbers.Helper.{Helper}
use Rattle.helpers.specs.declared.numbers.Helper.TheVariants.{Lookup, Update, Delete}
use Rattle.helpers.specs.Numbers.{helper_of}
use Rattle.helpers.specs.Helpers.{HelperCall, LookupCall, UpdateCall, DeleteCall, HelperAnswer, answer_of, found, with_entries, changed_unless, update_error, delete_error, update_answer, delete_answer}
use Rattle.helpers.specs.Laws.{number_of}
use Rattle.helpers.proofs.Export.{get_set_same, option_map_some}
use Rattle.machine.specs.Conversions.{bytes_of}
use Rattle.machine.specs.State.{State, numeric, set_register, with_register}
use Rattle.machine.specs.Memory.{byte_in, read_byte, read_bytes, loaded, is_in_stack, cell_of, set_byte, set_value_byte, with_byte, write_byte, write_bytes, is_cell, with_pointer, write_pointer, pointer_at, fetched}
use Rattle.machine.specs.Calls.{bytes_at, call_on, call_of, without_arguments, answered, called}
use Rattle.machine.specs.Step.{put_at, stored, assigned}
use Rattle.machine.specs.Isolation.{AgreeIn}
use Rattle.machine.proofs.Bytes.{and_then_some}
use Rattle.machine.proofs.Spilled.{fetched_is}
use Rattle.maps.proofs.Export.{get_set_other}

-- a value that is of a map is of one of such a number
abbrev pub IsOf : (ℕ → Type 0) → MachineValue → Type 0
IsOf such (MapAt m) = such m
IsOf such (ValueAt m key o) = such m
IsOf such v = Unit {0}

-- so is what is there, if anything is
abbrev pub AreOf : (ℕ → Type 0) → Option MachineValue → Type 0
AreOf such o = (v : MachineValue) → o ≡ Some v → IsOf such v

pub is_of : (such : ℕ → Type 0) (v : MachineValue) → IsOf such v → AreOf such (Some v)
is_of such v h w e = let is : v ≡ w = cc in subst (IsOf such) is h

-- so are all that a state has
pub record Holds (such : ℕ → Type 0) (c : State) : Type 0 where
  pub registers : (r : ℕ) → AreOf such (c.registers r)
  pub pointers : (k : ℕ) → AreOf such (c.pointers k)

-- a state with other maps
abbrev pub on : Maps → State → State
on maps c = record c { maps = maps }

-- what led from c to d leads from c on other maps to d on other maps
pub record Alike (such : ℕ → Type 0) (c d : State) (other : Option State) : Type 0 where
  pub after : Maps
  pub made : other ≡ Some (on after d)
  pub agree : AgreeIn such d.maps after
  pub holds : Holds such d
  pub rests : AgreeIn (λ m. ¬ such m) d.maps c.maps

module _ (such : ℕ → Type 0) where
  -- ---- registers

  set_of : (registers : ℕ → Option MachineValue) (r : ℕ) (v : MachineValue) → ((q : ℕ) → AreOf such (registers q)) → IsOf such v → (q : ℕ) → AreOf such (set_register registers r v q)
  set_of registers r v h k q = by (q == r)
    where
      by : (b : Bool) → AreOf such (cond b (Some v) (registers q))
      by true = is_of such v k
      by false = h q

  register_alike : (c d : State) (ms : Maps) (r : ℕ) (v : MachineValue) → Holds such c → AgreeIn such c.maps ms → IsOf such v → with_register c r v ≡ Some d → Alike such c d (with_register (on ms c) r v)
  register_alike c d ms r v h a k e = by (r == 10) e
    where
      by : (b : Bool) → cond b None (Some (record c { registers = set_register c.registers r v })) ≡ Some d → Alike such c d (cond b None (Some (record (on ms c) { registers = set_register c.registers r v })))
      by true p = absurd cc
      by false p =
          let is : record c { registers = set_register c.registers r v } ≡ d = cc in
          subst (λ (x : State). Alike such c x (Some (record (on ms c) { registers = set_register c.registers r v }))) is
          (record { after = ms; made = refl; agree = a; holds = record { registers = set_of c.registers r v h.registers k; pointers = h.pointers }; rests = λ m n. refl })

  pub assigned_alike : (c d : State) (ms : Maps) (r : ℕ) (o : Option MachineValue) → Holds such c → AgreeIn such c.maps ms → AreOf such o → assigned c r o ≡ Some d → Alike such c d (assigned (on ms c) r o)
  assigned_alike c d ms r o h a k e =
      let v = and_then_some (with_register c r) o d e in
      subst (λ (x : Option MachineValue). Alike such c d (assigned (on ms c) r x)) (sym v.1) (register_alike c d ms r v.0 h a (k v.0 v.1) v.2)

  -- ---- reading

  byte_same : (c : State) (ms : Maps) (v : MachineValue) (z : ℤ) → AgreeIn such c.maps ms → IsOf such v → read_byte (on ms c) v z ≡ read_byte c v z
  byte_same c ms (Num n) z a k = refl
  byte_same c ms (StackAt o) z a k = refl
  byte_same c ms (ArgAt o) z a k = refl
  byte_same c ms (MapAt m) z a k = refl
  byte_same c ms (ValueAt m key o) z a k = ap (λ (x : Option MapState). option_and_then (λ v. byte_in v (o +ℤ z)) (option_and_then (λ (s : MapState). finite_map.get s.entries key) x)) (sym (a m k))

  bytes_same : (c : State) (ms : Maps) (v : MachineValue) (z : ℤ) (n : ℕ) → AgreeIn such c.maps ms → IsOf such v → read_bytes (on ms c) v z n ≡ read_bytes c v z n
  bytes_same c ms v z zero a k = refl
  bytes_same c ms v z (suc n) a k = rw (byte_same c ms v z a k, bytes_same c ms v (z +ℤ pos 1) n a k) refl

  pointer_same : (c : State) (ms : Maps) (v : MachineValue) (z : ℤ) (n : ℕ) → pointer_at (on ms c) v z n ≡ pointer_at c v z n
  pointer_same c ms (Num m) z n = refl
  pointer_same c ms (StackAt o) z n = refl
  pointer_same c ms (ArgAt o) z n = refl
  pointer_same c ms (MapAt m) z n = refl
  pointer_same c ms (ValueAt m key o) z n = refl

  pub fetched_same : (c : State) (ms : Maps) (sign : Bool) (z : ℤ) (n : ℕ) (v : MachineValue) → AgreeIn such c.maps ms → IsOf such v → fetched (on ms c) sign z n v ≡ fetched c sign z n v
  fetched_same c ms sign z n v a k =
      ap (λ x. option_or (option_map (loaded sign n) x) (pointer_at (on ms c) v z n)) (bytes_same c ms v z n a k)
      ∙ ap (option_or (option_map (loaded sign n) (read_bytes c v z n))) (pointer_same c ms v z n)

  number_of_map : (sign : Bool) (n : ℕ) (bs : List ℕ) → IsOf such (loaded sign n bs)
  number_of_map true n bs = tt
  number_of_map false n bs = tt

  pub fetched_of : (c : State) (sign : Bool) (z : ℤ) (n : ℕ) (v : MachineValue) → Holds such c → AreOf such (fetched c sign z n v)
  fetched_of c sign z n v h w e =
      ⊎_elim
      (λ r. subst (IsOf such) r.2 (number_of_map sign n r.0))
      (λ r. h.pointers r.0 w r.1)
      (fetched_is c sign z n v w e)

  -- ---- one map changed

  agree_with : (maps ms : Maps) (m : ℕ) (s : MapState) (entries : Entries) → AgreeIn such maps ms → such m → slice_get maps m ≡ Some s → AgreeIn such (with_entries maps m s entries) (with_entries ms m s entries)
  agree_with maps ms m s entries a k there n q =
      let new : MapState = record { shape = s.shape; entries = entries } in
      ⊎_elim
      (λ e. subst (λ x. slice_get (with_entries maps m s entries) x ≡ slice_get (with_entries ms m s entries) x) (sym e) (get_set_same maps m s new there ∙ sym (get_set_same ms m s new (sym (a m k) ∙ there))))
      (λ ne. get_set_other maps m n new ne ∙ a n q ∙ sym (get_set_other ms m n new ne))
      (cases_eq n m)

  rest_with : (maps : Maps) (m : ℕ) (s : MapState) (entries : Entries) → such m → AgreeIn (λ n. ¬ such n) (with_entries maps m s entries) maps
  rest_with maps m s entries k n other = get_set_other maps m n (record { shape = s.shape; entries = entries }) (λ e. other (subst such (sym e) k))

  -- ---- writing

  -- map m with another value under a key
  abbrev with_value : Maps → ℕ → List ℕ → MapState → List ℕ → Maps
  with_value maps m key s w = with_entries maps m s (finite_map.insert s.entries key w)

  value_alike : (c : State) (ms : Maps) (m : ℕ) (key : List ℕ) (z : ℤ) (b : ℕ) (s : MapState) (v w : List ℕ) → Holds such c → AgreeIn such c.maps ms → such m
      → slice_get c.maps m ≡ Some s → finite_map.get s.entries key ≡ Some v → set_byte v z b ≡ Some w
      → Alike such c (on (with_value c.maps m key s w) c) (option_map (λ (x : Maps). on x c) (option_and_then (set_value_byte ms m key z b) (slice_get ms m)))
  value_alike c ms m key z b s v w h a k there old new = record {
    after = with_value ms m key s w;
    made =
        ap (λ (x : Option MapState). option_map (λ (y : Maps). on y c) (option_and_then (set_value_byte ms m key z b) x)) (sym (a m k) ∙ there)
        ∙ ap (λ x. option_map (λ (y : Maps). on y c) (option_and_then (λ v. option_map (with_value ms m key s) (set_byte v z b)) x)) old
        ∙ ap (λ x. option_map (λ (y : Maps). on y c) (option_map (with_value ms m key s) x)) new;
    agree = agree_with c.maps ms m s (finite_map.insert s.entries key w) a k there;
    holds = record { registers = h.registers; pointers = h.pointers };
    rests = rest_with c.maps m s (finite_map.insert s.entries key w) k;
  }

  byte_alike : (c d : State) (ms : Maps) (v : MachineValue) (z : ℤ) (b : ℕ) → Holds such c → AgreeIn such c.maps ms → IsOf such v → write_byte c v z b ≡ Some d → Alike such c d (write_byte (on ms c) v z b)
  byte_alike c d ms (Num n) z b h a k e = absurd cc
  byte_alike c d ms (ArgAt o) z b h a k e = absurd cc
  byte_alike c d ms (MapAt m) z b h a k e = absurd cc
  byte_alike c d ms (StackAt o) z b h a k e = by (is_in_stack (o +ℤ z)) e
    where
      taken : (j q : ℕ) (t : Bool) → AreOf such (cond t None (c.pointers q))
      taken j q true = λ w p. absurd cc
      taken j q false = h.pointers q

      by : (t : Bool) → cond t (Some (with_byte c (o +ℤ z) b)) None ≡ Some d → Alike such c d (cond t (Some (with_byte (on ms c) (o +ℤ z) b)) None)
      by true p =
          let is : with_byte c (o +ℤ z) b ≡ d = cc in
          subst (λ (x : State). Alike such c x (Some (with_byte (on ms c) (o +ℤ z) b))) is
          (record { after = ms; made = refl; agree = a; holds = record { registers = h.registers; pointers = λ q. taken (cell_of (o +ℤ z)) q (q == cell_of (o +ℤ z)) }; rests = λ m n. refl })
      by false p = absurd cc
  byte_alike c d ms (ValueAt m key o) z b h a k e =
      let maps = option_map_some (λ (x : Maps). on x c) (option_and_then (set_value_byte c.maps m key (o +ℤ z) b) (slice_get c.maps m)) d e in
      let s = and_then_some (set_value_byte c.maps m key (o +ℤ z) b) (slice_get c.maps m) maps.0 maps.1 in
      let v = and_then_some (λ v. option_map (with_value c.maps m key s.0) (set_byte v (o +ℤ z) b)) (finite_map.get s.0.entries key) maps.0 s.2 in
      let w = option_map_some (with_value c.maps m key s.0) (set_byte v.0 (o +ℤ z) b) maps.0 v.2 in
      subst (λ (x : State). Alike such c x (write_byte (on ms c) (ValueAt m key o) z b)) {x = on maps.0 c} maps.2
      (subst (λ (x : Maps). Alike such c (on x c) (write_byte (on ms c) (ValueAt m key o) z b)) {x = with_value c.maps m key s.0 w.0} w.2
      (value_alike c ms m key (o +ℤ z) b s.0 v.0 w.0 h a k s.1 v.1 w.1))

  -- one after another
  pub further : (c d e : State) (first : Option State) (next : State → Option State) → (one : Alike such c d first) → Alike such d e (next (on one.after d)) → Alike such c e (option_and_then next first)
  further c d e first next one two = record {
    after = two.after;
    made = ap (option_and_then next) one.made ∙ two.made;
    agree = two.agree;
    holds = two.holds;
    rests = λ m other. two.rests m other ∙ one.rests m other;
  }

  bytes_alike : (c d : State) (ms : Maps) (v : MachineValue) (z : ℤ) (bs : List ℕ) → Holds such c → AgreeIn such c.maps ms → IsOf such v → write_bytes c v z bs ≡ Some d → Alike such c d (write_bytes (on ms c) v z bs)
  bytes_alike c d ms v z [] h a k e = let is : c ≡ d = cc in subst (λ (x : State). Alike such c x (Some (on ms c))) is (record { after = ms; made = refl; agree = a; holds = h; rests = λ m n. refl })
  bytes_alike c d ms v z (b ∷ bs) h a k e =
      let mid = and_then_some (λ (x : State). write_bytes x v (z +ℤ pos 1) bs) (write_byte c v z b) d e in
      let one = byte_alike c mid.0 ms v z b h a k mid.1 in
      further c mid.0 d (write_byte (on ms c) v z b) (λ (x : State). write_bytes x v (z +ℤ pos 1) bs) one (bytes_alike mid.0 d one.after v (z +ℤ pos 1) bs one.holds one.agree k mid.2)

  pointer_alike : (c d : State) (ms : Maps) (place : MachineValue) (z : ℤ) (n : ℕ) (v : MachineValue) → Holds such c → AgreeIn such c.maps ms → IsOf such v → write_pointer c place z n v ≡ Some d → Alike such c d (write_pointer (on ms c) place z n v)
  pointer_alike c d ms (Num m) z n v h a k e = absurd cc
  pointer_alike c d ms (ArgAt o) z n v h a k e = absurd cc
  pointer_alike c d ms (MapAt m) z n v h a k e = absurd cc
  pointer_alike c d ms (ValueAt m key o) z n v h a k e = absurd cc
  pointer_alike c d ms (StackAt o) z n v h a k e = by (is_cell (o +ℤ z) n) e
    where
      put : (q : ℕ) (t : Bool) → AreOf such (cond t (Some v) (c.pointers q))
      put q true = is_of such v k
      put q false = h.pointers q

      by : (t : Bool) → cond t (Some (with_pointer c (cell_of (o +ℤ z)) v)) None ≡ Some d → Alike such c d (cond t (Some (with_pointer (on ms c) (cell_of (o +ℤ z)) v)) None)
      by true p =
          let is : with_pointer c (cell_of (o +ℤ z)) v ≡ d = cc in
          subst (λ (x : State). Alike such c x (Some (with_pointer (on ms c) (cell_of (o +ℤ z)) v))) is
          (record { after = ms; made = refl; agree = a; holds = record { registers = h.registers; pointers = λ q. put q (q == cell_of (o +ℤ z)) }; rests = λ m n. refl })
      by false p = absurd cc

  put_alike : (c d : State) (ms : Maps) (place : MachineValue) (z : ℤ) (n : ℕ) (v : MachineValue) → Holds such c → AgreeIn such c.maps ms → IsOf such place → IsOf such v → put_at c place z n v ≡ Some d → Alike such c d (put_at (on ms c) place z n v)
  put_alike c d ms place z n (Num x) h a p k e = bytes_alike c d ms place z (bytes_of n x) h a p e
  put_alike c d ms place z n (StackAt o) h a p k e = pointer_alike c d ms place z n (StackAt o) h a k e
  put_alike c d ms place z n (ArgAt o) h a p k e = pointer_alike c d ms place z n (ArgAt o) h a k e
  put_alike c d ms place z n (MapAt m) h a p k e = pointer_alike c d ms place z n (MapAt m) h a k e
  put_alike c d ms place z n (ValueAt m key o) h a p k e = pointer_alike c d ms place z n (ValueAt m key o) h a k e

  pub stored_alike : (c d : State) (ms : Maps) (place : Option MachineValue) (z : ℤ) (n : ℕ) (x : Option MachineValue) → Holds such c → AgreeIn such c.maps ms → AreOf such place → AreOf such x → stored c place z n x ≡ Some d → Alike such c d (stored (on ms c) place z n x)
  stored_alike c d ms place z n x h a p k e =
      let v = and_then_some (λ v. option_and_then (put_at c v z n) x) place d e in
      let y = and_then_some (put_at c v.0 z n) x d v.2 in
      subst (λ (o : Option MachineValue). Alike such c d (stored (on ms c) o z n x)) (sym v.1)
      (subst (λ (o : Option MachineValue). Alike such c d (option_and_then (put_at (on ms c) v.0 z n) o)) (sym y.1)
      (put_alike c d ms v.0 z n y.0 h a (p v.0 v.1) (k y.0 y.1) y.2))

  -- ---- calls

  record AnswersAlike (maps : Maps) (a : HelperAnswer) (other : Option HelperAnswer) : Type 0 where
    after : Maps
    made : other ≡ Some (record a { maps = after })
    agree : AgreeIn such a.maps after
    of : IsOf such a.result
    rests : AgreeIn (λ m. ¬ such m) a.maps maps

  found_of : (m : ℕ) (key : List ℕ) (o : Option (List ℕ)) → such m → IsOf such (found m key o)
  found_of m key None k = tt
  found_of m key (Some v) k = k

  unless_alike : (o : Option ℕ) (maps ms : Maps) (m : ℕ) (s : MapState) (entries : Entries) → AgreeIn such maps ms → such m → slice_get maps m ≡ Some s
      → AnswersAlike maps (changed_unless o maps m s entries) (Some (changed_unless o ms m s entries))
  unless_alike (Some errno) maps ms m s entries a k there = record { after = ms; made = refl; agree = a; of = tt; rests = λ n other. refl }
  unless_alike None maps ms m s entries a k there =
      record { after = with_entries ms m s entries; made = refl; agree = agree_with maps ms m s entries a k there; of = tt; rests = rest_with maps m s entries k }

  abbrev looked_up : ℕ → List ℕ → Maps → MapState → HelperAnswer
  looked_up m key maps s = record { result = found m key (finite_map.get s.entries key); maps = maps }

  answer_alike : (call : HelperCall) (maps ms : Maps) (a : HelperAnswer) → AgreeIn such maps ms → such (number_of call) → answer_of maps call ≡ Some a → AnswersAlike maps a (answer_of ms call)
  answer_alike (LookupCall m key) maps ms a h k e =
      let s = option_map_some (looked_up m key maps) (slice_get maps m) a e in
      let there : slice_get ms m ≡ Some s.0 = sym (h m k) ∙ s.1 in
      subst (λ (x : HelperAnswer). AnswersAlike maps x (answer_of ms (LookupCall m key))) s.2
      (subst (λ (x : Option MapState). AnswersAlike maps (looked_up m key maps s.0) (option_map (looked_up m key ms) x)) (sym there)
      (record { after = ms; made = refl; agree = h; of = found_of m key (finite_map.get s.0.entries key) k; rests = λ n other. refl }))
  answer_alike (UpdateCall m key value flags) maps ms a h k e =
      let s = option_map_some (update_answer maps m key value flags) (slice_get maps m) a e in
      let there : slice_get ms m ≡ Some s.0 = sym (h m k) ∙ s.1 in
      subst (λ (x : HelperAnswer). AnswersAlike maps x (answer_of ms (UpdateCall m key value flags))) s.2
      (subst (λ (x : Option MapState). AnswersAlike maps (update_answer maps m key value flags s.0) (option_map (update_answer ms m key value flags) x)) (sym there)
      (unless_alike (update_error s.0.shape (finite_map.contains_key s.0.entries key) (finite_map.len s.0.entries) flags) maps ms m s.0 (finite_map.insert s.0.entries key value) h k s.1))
  answer_alike (DeleteCall m key) maps ms a h k e =
      let s = option_map_some (delete_answer maps m key) (slice_get maps m) a e in
      let there : slice_get ms m ≡ Some s.0 = sym (h m k) ∙ s.1 in
      subst (λ (x : HelperAnswer). AnswersAlike maps x (answer_of ms (DeleteCall m key))) s.2
      (subst (λ (x : Option MapState). AnswersAlike maps (delete_answer maps m key s.0) (option_map (delete_answer ms m key) x)) (sym there)
      (unless_alike (delete_error s.0.shape (finite_map.contains_key s.0.entries key)) maps ms m s.0 (finite_map.remove s.0.entries key) h k s.1))

  argument_same : (c : State) (ms : Maps) (r n : ℕ) → Holds such c → AgreeIn such c.maps ms → bytes_at (on ms c) r n ≡ bytes_at c r n
  argument_same c ms r n h a = by (c.registers r) (h.registers r)
    where
      by : (o : Option MachineValue) → AreOf such o → option_and_then (λ v. read_bytes (on ms c) v (pos 0) n) o ≡ option_and_then (λ v. read_bytes c v (pos 0) n) o
      by None k = refl
      by (Some v) k = bytes_same c ms v (pos 0) n a (k v refl)

  call_on_same : (c : State) (ms : Maps) (m : ℕ) (s : MapState) (helper : Helper) → Holds such c → AgreeIn such c.maps ms → call_on (on ms c) m s helper ≡ call_on c m s helper
  call_on_same c ms m s Lookup h a = ap (option_map (LookupCall m)) (argument_same c ms 2 (key_size s.shape) h a)
  call_on_same c ms m s Delete h a = ap (option_map (DeleteCall m)) (argument_same c ms 2 (key_size s.shape) h a)
  call_on_same c ms m s Update h a =
      let whole = λ (x y : Option (List ℕ)). option_and_then (λ key. option_and_then (λ value. option_map (UpdateCall m key value) (numeric (c.registers 4))) y) x in
      ap (λ x. whole x (bytes_at (on ms c) 3 (value_size s.shape))) (argument_same c ms 2 (key_size s.shape) h a)
      ∙ ap (whole (bytes_at c 2 (key_size s.shape))) (argument_same c ms 3 (value_size s.shape) h a)

  -- the call names a map of such a number
  call_on_names : (c : State) (m : ℕ) (s : MapState) (helper : Helper) (call : HelperCall) → such m → call_on c m s helper ≡ Some call → such (number_of call)
  call_on_names c m s Lookup call k e = let key = option_map_some (LookupCall m) (bytes_at c 2 (key_size s.shape)) call e in subst (λ (x : HelperCall). such (number_of x)) key.2 k
  call_on_names c m s Delete call k e = let key = option_map_some (DeleteCall m) (bytes_at c 2 (key_size s.shape)) call e in subst (λ (x : HelperCall). such (number_of x)) key.2 k
  call_on_names c m s Update call k e =
      let key = and_then_some (λ key. option_and_then (λ value. option_map (UpdateCall m key value) (numeric (c.registers 4))) (bytes_at c 3 (value_size s.shape))) (bytes_at c 2 (key_size s.shape)) call e in
      let value = and_then_some (λ value. option_map (UpdateCall m key.0 value) (numeric (c.registers 4))) (bytes_at c 3 (value_size s.shape)) call key.2 in
      let flags = option_map_some (UpdateCall m key.0 value.0) (numeric (c.registers 4)) call value.2 in
      subst (λ (x : HelperCall). such (number_of x)) flags.2 k

  record AsksAlike (call : HelperCall) (other : Option HelperCall) : Type 0 where
    made : other ≡ Some call
    names : such (number_of call)

  asks_alike : (c : State) (ms : Maps) (o : Option MachineValue) (helper : Helper) (call : HelperCall) → Holds such c → AgreeIn such c.maps ms → AreOf such o → call_of c o helper ≡ Some call → AsksAlike call (call_of (on ms c) o helper)
  asks_alike c ms (Some (MapAt m)) helper call h a k e =
      let such_m : such m = k (MapAt m) refl in
      let s = and_then_some (λ (s : MapState). call_on c m s helper) (slice_get c.maps m) call e in
      record {
        made = ap (option_and_then (λ (s : MapState). call_on (on ms c) m s helper)) (sym (a m such_m) ∙ s.1) ∙ call_on_same c ms m s.0 helper h a ∙ s.2;
        names = call_on_names c m s.0 helper call such_m s.2;
      }
  asks_alike c ms (Some (Num n)) helper call h a k e = absurd cc
  asks_alike c ms (Some (StackAt o)) helper call h a k e = absurd cc
  asks_alike c ms (Some (ArgAt o)) helper call h a k e = absurd cc
  asks_alike c ms (Some (ValueAt m key o)) helper call h a k e = absurd cc
  asks_alike c ms None helper call h a k e = absurd cc

  missing_of : (registers : ℕ → Option MachineValue) → ((q : ℕ) → AreOf such (registers q)) → (q : ℕ) → AreOf such (without_arguments registers q)
  missing_of registers h q = by (nat_le 1 q && nat_le q 5)
    where
      by : (b : Bool) → AreOf such (cond b None (registers q))
      by true = λ v e. absurd cc
      by false = h q

  pub called_alike : (c d : State) (ms : Maps) (id : ℤ) → Holds such c → AgreeIn such c.maps ms → called c id ≡ Some d → Alike such c d (called (on ms c) id)
  called_alike c d ms id h a e =
      let r = option_map_some (answered c) (option_and_then (answer_of c.maps) (option_and_then (call_of c (c.registers 1)) (helper_of id))) d e in
      let call = and_then_some (answer_of c.maps) (option_and_then (call_of c (c.registers 1)) (helper_of id)) r.0 r.1 in
      let helper = and_then_some (call_of c (c.registers 1)) (helper_of id) call.0 call.1 in
      let asks = asks_alike c ms (c.registers 1) helper.0 call.0 h a (h.registers 1) helper.2 in
      let answers = answer_alike call.0 c.maps ms r.0 a asks.names call.2 in
      let made : called (on ms c) id ≡ Some (on answers.after (answered c r.0)) =
      ap (λ x. option_map (answered (on ms c)) (option_and_then (answer_of ms) (option_and_then (call_of (on ms c) (c.registers 1)) x))) helper.1
      ∙ ap (λ x. option_map (answered (on ms c)) (option_and_then (answer_of ms) x)) asks.made
      ∙ ap (option_map (answered (on ms c))) answers.made in
      subst (λ (x : State). Alike such c x (called (on ms c) id)) r.2
      (record {
        after = answers.after;
        made = made;
        agree = answers.agree;
        holds = record { registers = set_of (without_arguments c.registers) 0 r.0.result (missing_of c.registers h.registers) answers.of; pointers = h.pointers };
        rests = answers.rests;
      })
