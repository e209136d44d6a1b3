-- The maps after a call: the other keys, and the shapes.
use Rattle.std.proofs.Common.{◌≡◌, ◌≢◌, ℕ, ◌<◌, Bool, true, false, cond, List, length, Option, Some, None, refl, sym, ap, ◌∙◌, inl, inr, ⊎_elim, arith, subst}
use Rattle.std.specs.Prelude.{◌⊎◌, slice_get, ◌==◌, nat_lt, nat_le}
use Rattle.std.proofs.lemmas.Bool.Decides.{eqb_tells, nat_tests}
use Rattle.std.specs.FinMap as finite_map
use Rattle.maps.specs.declared.shapes.Shape.{Shape}
use Rattle.maps.specs.declared.shapes.Shape.TheVariants.{Array, Hash}
use Rattle.maps.specs.Shapes.{IsHash, entry_count, key_size}
use Rattle.maps.specs.Maps.{Maps, MapState, Entries, AreBytes, IsValueOf, IsMapState, HasShapes, value_at}
use Rattle.maps.specs.Values.{MachineValue, Num, IsMachineValue}
use Rattle.helpers.specs.Helpers.{enoent, e2big, eexist, einval, noexist, exist, found, update_error, delete_error, changed_unless, with_entries, update_answer, delete_answer, HelperCall, LookupCall, UpdateCall, DeleteCall, HelperAnswer, HelperAnswers}
use Rattle.helpers.specs.Laws.{Names, FitsMaps}
use Rattle.maps.proofs.Export.{MayPut, put_keeps, put_key, take_keeps, all_get, all_set}
use Rattle.helpers.proofs.Places.{map_set, option_map_some}
use Rattle.helpers.proofs.Answers.{IsErrno, update_errno, delete_errno, value_there, value_after, value_elsewhere, inserted_other, removed_other}

-- ---- an answer either changes the entries and is 0, or leaves the maps

Outcome : Option ℕ → Maps → ℕ → MapState → Entries → MachineValue → Maps → Type 0
Outcome o maps m s entries r maps' = ((o ≡ None) × (r ≡ Num 0) × (maps' ≡ with_entries maps m s entries)) ⊎ (IsMachineValue r × (maps' ≡ maps))

outcome : (o : Option ℕ) (maps maps' : Maps) (m : ℕ) (s : MapState) (entries : Entries) (r : MachineValue) → IsErrno o → changed_unless o maps m s entries ≡ record { result = r; maps = maps' } → Outcome o maps m s entries r maps'
unfolding Outcome
outcome None maps maps' m s entries r h e = inl (refl, sym (ap (λ (a : HelperAnswer). a.result) e), sym (ap (λ (a : HelperAnswer). a.maps) e))
outcome (Some n) maps maps' m s entries r h e =
    inr (subst IsMachineValue (ap (λ (a : HelperAnswer). a.result) e) (omega (arith, h.0, h.1)), sym (ap (λ (a : HelperAnswer). a.maps) e))

-- ---- other keys

other_kept : (maps : Maps) (m n : ℕ) (s : MapState) (entries : Entries) (key k : List ℕ) → slice_get maps m ≡ Some s
    → ((q : List ℕ) → q ≢ key → finite_map.get entries q ≡ finite_map.get s.entries q)
    → ¬ ((n ≡ m) × (k ≡ key)) → value_at (with_entries maps m s entries) n k ≡ value_at maps n k
other_kept maps m n s entries key k there same ne = ⊎_elim
    (λ e. let at : n ≡ m = e.1 in let other : k ≢ key = λ p. ne (at, p) in
    subst (λ (x : ℕ). value_at (with_entries maps m s entries) x k ≡ value_at maps x k) (sym at) (value_after maps m s entries k there ∙ same k other ∙ sym (value_there maps m s k there)))
    (λ e. value_elsewhere maps m n s entries k e.1)
    (eqb_tells n m)

pub others : (call : HelperCall) (maps maps' : Maps) (r : MachineValue) (n : ℕ) (k : List ℕ) → HelperAnswers call maps r maps' → ¬ Names call n k → value_at maps' n k ≡ value_at maps n k
unfolding Outcome
others (LookupCall m key) maps maps' r n k e ne = let o = option_map_some _ (slice_get maps m) _ e in ap (λ (x : Maps). value_at x n k) (sym (ap (λ (a : HelperAnswer). a.maps) o.2))
others (UpdateCall m key value flags) maps maps' r n k e ne =
    let o = option_map_some (update_answer maps m key value flags) (slice_get maps m) _ e in
    let after = finite_map.insert o.0.entries key value in
    ⊎_elim
    (λ t. ap (λ (x : Maps). value_at x n k) t.2 ∙ other_kept maps m n o.0 after key k o.1 (λ q. inserted_other o.0.entries key value q) ne)
    (λ t. ap (λ (x : Maps). value_at x n k) t.1)
    (outcome _ maps maps' m o.0 after r (update_errno o.0.shape (finite_map.contains_key o.0.entries key) (finite_map.len o.0.entries) flags) o.2)
others (DeleteCall m key) maps maps' r n k e ne =
    let o = option_map_some (delete_answer maps m key) (slice_get maps m) _ e in
    let after = finite_map.remove o.0.entries key in
    ⊎_elim
    (λ t. ap (λ (x : Maps). value_at x n k) t.2 ∙ other_kept maps m n o.0 after key k o.1 (λ q. removed_other o.0.entries key q) ne)
    (λ t. ap (λ (x : Maps). value_at x n k) t.1)
    (outcome _ maps maps' m o.0 after r (delete_errno o.0.shape (finite_map.contains_key o.0.entries key)) o.2)

-- ---- what an update that is not refused needs

array_has : (large present first : Bool) → cond large (Some einval) (cond present (cond first (Some eexist) None) (Some e2big)) ≡ None → present ≡ true
array_has true present first e = absurd cc
array_has false true first e = refl
array_has false false first e = absurd cc

pub hash_room : (large present first second : Bool) (entries keys : ℕ)
    → cond large (Some einval) (cond present (cond first (Some eexist) None) (cond second (Some enoent) (cond (nat_le entries keys) (Some e2big) None))) ≡ None
    → (present ≡ true) ⊎ ((present ≡ false) × (keys < entries))
hash_room true present first second entries keys e = absurd cc
hash_room false true first second entries keys e = inl refl
hash_room false false first true entries keys e = absurd cc
hash_room false false first false entries keys e = inr (refl, free (nat_le entries keys) refl e)
  where
    free : (b : Bool) → nat_le entries keys ≡ b → cond b (Some e2big) None ≡ None → keys < entries
    free true p h = absurd cc
    free false p h = grind (arith, nat_tests)

-- ---- a map keeps its shape

-- a key whose update is not refused may be put
may_insert : (s : MapState) (key : List ℕ) (flags : ℕ) → update_error s.shape (finite_map.contains_key s.entries key) (finite_map.len s.entries) flags ≡ None → MayPut s key
may_insert s key flags e = by s.shape e
  where
    by : (shape : Shape) → update_error shape (finite_map.contains_key s.entries key) (finite_map.len s.entries) flags ≡ None
        → (finite_map.contains_key s.entries key ≡ true) ⊎ (IsHash shape × (finite_map.len s.entries < entry_count shape))
    by (Array size entries) e = inl (array_has (nat_lt exist flags) (finite_map.contains_key s.entries key) (flags == noexist) e)
    by (Hash size width entries) e =
        ⊎_elim (λ p. inl p) (λ p. inr (tt, p.1)) (hash_room (nat_lt exist flags) (finite_map.contains_key s.entries key) (flags == noexist) (flags == exist) entries (finite_map.len s.entries) e)

pub insert_keeps : (s : MapState) (key value : List ℕ) (flags : ℕ) → IsMapState s → update_error s.shape (finite_map.contains_key s.entries key) (finite_map.len s.entries) flags ≡ None
    → (length key ≡ key_size s.shape) × AreBytes key → IsValueOf s.shape value → IsMapState (record { shape = s.shape; entries = finite_map.insert s.entries key value })
insert_keeps s key value flags is e fits v = let may = may_insert s key flags e in put_keeps s key value is may (put_key s.shape s.entries key may is.each_key fits) v

deletes_from : (shape : Shape) (present : Bool) → delete_error shape present ≡ None → IsHash shape
deletes_from (Array size entries) present e = absurd cc
deletes_from (Hash size width entries) present e = tt

-- ---- all maps keep their shapes

pub entries_kept : (shapes : List Shape) (maps : Maps) (m : ℕ) (s : MapState) (entries : Entries) → HasShapes shapes maps → slice_get maps m ≡ Some s → IsMapState (record { shape = s.shape; entries = entries }) → HasShapes shapes (with_entries maps m s entries)
entries_kept shapes maps m s entries h e is = record {
  same = map_set (λ (x : MapState). x.shape) maps m s (record { shape = s.shape; entries = entries }) e refl ∙ h.same;
  each = all_set IsMapState maps m (record { shape = s.shape; entries = entries }) h.each is;
}

found_is_value : (m : ℕ) (key : List ℕ) (o : Option (List ℕ)) → AreBytes key → IsMachineValue (found m key o)
found_is_value m key None b = omega arith
found_is_value m key (Some v) b = b

pub keep_shapes : (shapes : List Shape) (call : HelperCall) (maps maps' : Maps) (r : MachineValue) → HasShapes shapes maps → FitsMaps call maps → HelperAnswers call maps r maps' → HasShapes shapes maps' × IsMachineValue r
unfolding Outcome
keep_shapes shapes (LookupCall m key) maps maps' r h fits e =
    let o = option_map_some _ (slice_get maps m) _ e in
    (subst (HasShapes shapes) (ap (λ (a : HelperAnswer). a.maps) o.2) h, subst IsMachineValue (ap (λ (a : HelperAnswer). a.result) o.2) (found_is_value m key (finite_map.get o.0.entries key) (fits o.0 o.1).1))
keep_shapes shapes (UpdateCall m key value flags) maps maps' r h fits e =
    let o = option_map_some (update_answer maps m key value flags) (slice_get maps m) _ e in
    let f = fits o.0 o.1 in
    let after = finite_map.insert o.0.entries key value in
    ⊎_elim
    (λ t. (subst (HasShapes shapes) (sym t.2) (entries_kept shapes maps m o.0 after h o.1 (insert_keeps o.0 key value flags (all_get IsMapState maps m o.0 h.each o.1) t.0 (f.0, f.1) f.2)), subst IsMachineValue (sym t.1) (omega arith)))
    (λ t. (subst (HasShapes shapes) (sym t.1) h, t.0))
    (outcome _ maps maps' m o.0 after r (update_errno o.0.shape (finite_map.contains_key o.0.entries key) (finite_map.len o.0.entries) flags) o.2)
keep_shapes shapes (DeleteCall m key) maps maps' r h fits e =
    let o = option_map_some (delete_answer maps m key) (slice_get maps m) _ e in
    let after = finite_map.remove o.0.entries key in
    ⊎_elim
    (λ t. (subst (HasShapes shapes) (sym t.2) (entries_kept shapes maps m o.0 after h o.1 (take_keeps o.0 key (all_get IsMapState maps m o.0 h.each o.1) (deletes_from o.0.shape (finite_map.contains_key o.0.entries key) t.0))), subst IsMachineValue (sym t.1) (omega arith)))
    (λ t. (subst (HasShapes shapes) (sym t.1) h, t.0))
    (outcome _ maps maps' m o.0 after r (delete_errno o.0.shape (finite_map.contains_key o.0.entries key)) o.2)
