-- What follows from an answer.
use Rattle.std.proofs.Common.{◌≡◌, ◌≢◌, ℕ, ◌<◌, Bool, true, false, cond, List, Option, Some, None, refl, sym, ap, ◌∙◌, arith}
use Rattle.std.specs.Prelude.{slice_get, ◌==◌, nat_lt, nat_le}
use Rattle.std.specs.Cmp.Lexicographic.{nat_list_cmp_total}
use Rattle.std.specs.FinMap as finite_map
use Rattle.std.specs.FinMap.{get-insert, get-remove}
use Rattle.maps.specs.declared.shapes.Shape.{Shape}
use Rattle.maps.specs.declared.shapes.Shape.TheVariants.{Array, Hash}
use Rattle.maps.specs.Maps.{Maps, MapState, Entries, value_at}
use Rattle.maps.specs.Values.{Num}
use Rattle.helpers.specs.Helpers.{enoent, e2big, eexist, einval, noexist, exist, negative_errno, update_error, delete_error, changed_unless, with_entries, update_answer, delete_answer, UpdateCall, DeleteCall, HelperAnswer, HelperAnswers}
use Rattle.maps.proofs.Export.{key_ties, key_differs, get_set_other}
use Rattle.helpers.proofs.Places.{get_set_same, option_map_some}

-- ---- errors are numbers below 4096

-- an answer of an error table: none, or a small number that is not 0
abbrev pub IsErrno : Option ℕ → Type 0
IsErrno None = Unit {0}
IsErrno (Some n) = (0 < n) × (n < 4096)

chosen : (b : Bool) (x y : Option ℕ) → IsErrno x → IsErrno y → IsErrno (cond b x y)
chosen true x y p q = p
chosen false x y p q = q

is_e2big : IsErrno (Some e2big)
is_e2big = (omega arith, omega arith)

is_eexist : IsErrno (Some eexist)
is_eexist = (omega arith, omega arith)

is_enoent : IsErrno (Some enoent)
is_enoent = (omega arith, omega arith)

is_einval : IsErrno (Some einval)
is_einval = (omega arith, omega arith)

pub update_errno : (shape : Shape) (present : Bool) (keys flags : ℕ) → IsErrno (update_error shape present keys flags)
update_errno (Array value entries) present keys flags =
    chosen (nat_lt exist flags) _ _ is_einval (chosen present _ _ (chosen (flags == noexist) _ None is_eexist tt) is_e2big)
update_errno (Hash key value entries) present keys flags =
    chosen (nat_lt exist flags) _ _ is_einval
    (chosen present _ _ (chosen (flags == noexist) _ None is_eexist tt) (chosen (flags == exist) _ _ is_enoent (chosen (nat_le entries keys) _ None is_e2big tt)))

pub delete_errno : (shape : Shape) (present : Bool) → IsErrno (delete_error shape present)
delete_errno (Array value entries) present = is_einval
delete_errno (Hash key value entries) true = tt
delete_errno (Hash key value entries) false = is_enoent

-- ---- an answer of 0 changes the entries as it says

taken : (o : Option ℕ) (maps maps' : Maps) (m : ℕ) (s : MapState) (entries : Entries) → IsErrno o → changed_unless o maps m s entries ≡ record { result = Num 0; maps = maps' } → (o ≡ None) × (maps' ≡ with_entries maps m s entries)
taken None maps maps' m s entries h e = (refl, sym (ap (λ (a : HelperAnswer). a.maps) e))
taken (Some n) maps maps' m s entries h e = let zero_is : Num (negative_errno n) ≡ Num 0 = ap (λ (a : HelperAnswer). a.result) e in let is : negative_errno n ≡ 0 = cc in absurd (omega (arith, h.0, h.1))

-- an update that is answered by 0 was not refused, and inserts
pub record IsUpdate (maps maps' : Maps) (m : ℕ) (key value : List ℕ) (flags : ℕ) : Type 0 where
  pub state : MapState
  pub there : slice_get maps m ≡ Some state
  pub allowed : update_error state.shape (finite_map.contains_key state.entries key) (finite_map.len state.entries) flags ≡ None
  pub after : maps' ≡ with_entries maps m state (finite_map.insert state.entries key value)

pub update_is : (maps maps' : Maps) (m : ℕ) (key value : List ℕ) (flags : ℕ) → HelperAnswers (UpdateCall m key value flags) maps (Num 0) maps' → IsUpdate maps maps' m key value flags
update_is maps maps' m key value flags e =
    let o = option_map_some (update_answer maps m key value flags) (slice_get maps m) _ e in
    let t = taken _ maps maps' m o.0 (finite_map.insert o.0.entries key value) (update_errno o.0.shape (finite_map.contains_key o.0.entries key) (finite_map.len o.0.entries) flags) o.2 in
    record { state = o.0; there = o.1; allowed = t.0; after = t.1 }

pub record IsDelete (maps maps' : Maps) (m : ℕ) (key : List ℕ) : Type 0 where
  pub state : MapState
  pub there : slice_get maps m ≡ Some state
  pub allowed : delete_error state.shape (finite_map.contains_key state.entries key) ≡ None
  pub after : maps' ≡ with_entries maps m state (finite_map.remove state.entries key)

pub delete_is : (maps maps' : Maps) (m : ℕ) (key : List ℕ) → HelperAnswers (DeleteCall m key) maps (Num 0) maps' → IsDelete maps maps' m key
delete_is maps maps' m key e =
    let o = option_map_some (delete_answer maps m key) (slice_get maps m) _ e in
    let t = taken _ maps maps' m o.0 (finite_map.remove o.0.entries key) (delete_errno o.0.shape (finite_map.contains_key o.0.entries key)) o.2 in
    record { state = o.0; there = o.1; allowed = t.0; after = t.1 }

-- ---- what stands under a key afterwards

pub value_there : (maps : Maps) (m : ℕ) (s : MapState) (key : List ℕ) → slice_get maps m ≡ Some s → value_at maps m key ≡ finite_map.get s.entries key
value_there maps m s key e = rw e refl

pub value_after : (maps : Maps) (m : ℕ) (s : MapState) (entries : Entries) (key : List ℕ) → slice_get maps m ≡ Some s → value_at (with_entries maps m s entries) m key ≡ finite_map.get entries key
value_after maps m s entries key e = value_there (with_entries maps m s entries) m (record { shape = s.shape; entries = entries }) key (get_set_same maps m s _ e)

pub value_elsewhere : (maps : Maps) (m n : ℕ) (s : MapState) (entries : Entries) (key : List ℕ) → n ≢ m → value_at (with_entries maps m s entries) n key ≡ value_at maps n key
value_elsewhere maps m n s entries key ne = let e = get_set_other maps m n (record { shape = s.shape; entries = entries }) ne in rw e refl

pub inserted : (c : Entries) (key value : List ℕ) → finite_map.get (finite_map.insert c key value) key ≡ Some value
inserted c key value = get-insert nat_list_cmp_total c key value key ∙ ap (λ b. cond b (Some value) (finite_map.get c key)) (key_ties key)

pub inserted_other : (c : Entries) (key value q : List ℕ) → q ≢ key → finite_map.get (finite_map.insert c key value) q ≡ finite_map.get c q
inserted_other c key value q ne = get-insert nat_list_cmp_total c key value q ∙ ap (λ b. cond b (Some value) (finite_map.get c q)) (key_differs q key ne)

pub removed : (c : Entries) (key : List ℕ) → finite_map.get (finite_map.remove c key) key ≡ None
removed c key = get-remove nat_list_cmp_total c key key ∙ ap (λ b. cond b None (finite_map.get c key)) (key_ties key)

pub removed_other : (c : Entries) (key q : List ℕ) → q ≢ key → finite_map.get (finite_map.remove c key) q ≡ finite_map.get c q
removed_other c key q ne = get-remove nat_list_cmp_total c key q ∙ ap (λ b. cond b None (finite_map.get c q)) (key_differs q key ne)

pub stands : (maps maps' : Maps) (m : ℕ) (key value : List ℕ) (flags : ℕ) → HelperAnswers (UpdateCall m key value flags) maps (Num 0) maps' → value_at maps' m key ≡ Some value
stands maps maps' m key value flags e =
    let u = update_is maps maps' m key value flags e in
    ap (λ (x : Maps). value_at x m key) u.after ∙ value_after maps m u.state (finite_map.insert u.state.entries key value) key u.there ∙ inserted u.state.entries key value

pub gone : (maps maps' : Maps) (m : ℕ) (key : List ℕ) → HelperAnswers (DeleteCall m key) maps (Num 0) maps' → value_at maps' m key ≡ None
gone maps maps' m key e =
    let d = delete_is maps maps' m key e in
    ap (λ (x : Maps). value_at x m key) d.after ∙ value_after maps m d.state (finite_map.remove d.state.entries key) key d.there ∙ removed d.state.entries key
