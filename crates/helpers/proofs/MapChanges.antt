-- What an update and a delete of maps in memory answer, by the tables.
use Rattle.std.proofs.Common.{◌≡◌, ◌≢◌, ℕ, zero, suc, ◌<◌, ◌≤◌, Bool, true, false, not, List, [], ◌∷◌, length, Option, Some, None, refl, sym, ap, ◌∙◌, subst, arith}
use Rattle.std.specs.Prelude.{IfSome, IsSome, is_some, slice_get}
use Rattle.std.specs.Option.{option_map}
use Rattle.std.specs.FinMap as finite_map
use Rattle.std.proofs.lemmas.Bool.{lt-leb}
use Rattle.maps.specs.declared.shapes.Shape.{Shape}
use Rattle.maps.specs.declared.shapes.Shape.TheVariants.{Array, Hash}
use Rattle.maps.specs.declared.entry.Entry.{Entry}
use Rattle.maps.specs.Shapes.{IsHash, entry_count, value_size}
use Rattle.maps.specs.Maps.{MapState, value_at}
use Rattle.maps.specs.Values.{Num}
use Rattle.maps.specs.MapSets.{Contents, maps_of, stored_shapes, put_value, take_key, write_value, PutsWritten, HasRoom}
use Rattle.maps.proofs.Export.{map_there, put_value_at, take_key_at, others_kept}
use Rattle.helpers.specs.Helpers.{e2big, enoent, exist, noexist, negative_errno, update_error, delete_error, changed_unless, update_answer, delete_answer, answer_of, HelperAnswers, UpdateCall, DeleteCall}
use Rattle.helpers.proofs.Answers.{value_there}

-- map m, and whether it has a key
pub record IsMap (c : Contents) (m : ℕ) (key : List ℕ) (present : Bool) (s : MapState) : Type 0 where
  pub there : slice_get (maps_of c) m ≡ Some s
  pub shape_is : slice_get (stored_shapes c) m ≡ Some s.shape
  pub present_is : finite_map.contains_key s.entries key ≡ present

pub named_map : (c : Contents) (m : ℕ) (key : List ℕ) (present : Bool) → m < length (stored_shapes c) → is_some (value_at (maps_of c) m key) ≡ present → (s : MapState) × IsMap c m key present s
named_map c m key present h is =
    let map = map_there c m h in
    (map.0, record { there = map.1; shape_is = map.2; present_is = sym (ap is_some (value_there (maps_of c) m map.0 key map.1)) ∙ is })

-- what a look at the shape tells
pub its_shape : (c : Contents) (m : ℕ) (key : List ℕ) (present : Bool) (s : MapState) (shape : Shape) → IsMap c m key present s → slice_get (stored_shapes c) m ≡ Some shape → s.shape ≡ shape
its_shape c m key present s shape h e = let p : Some s.shape ≡ Some shape = sym h.shape_is ∙ e in cc

-- ---- deletes

deleted : (c : Contents) (m : ℕ) (key : List ℕ) (present : Bool) (s : MapState) (e : Option ℕ) → IsMap c m key present s → delete_error s.shape present ≡ e
    → answer_of (maps_of c) (DeleteCall m key) ≡ Some (changed_unless e (maps_of c) m s (finite_map.remove s.entries key))
deleted c m key present s e h is =
    ap (option_map (delete_answer (maps_of c) m key)) h.there
    ∙ ap (λ x. Some (changed_unless x (maps_of c) m s (finite_map.remove s.entries key))) (ap (delete_error s.shape) h.present_is ∙ is)

pub delete_refused : (c : Contents) (m : ℕ) (key : List ℕ) (present : Bool) (s : MapState) (errno r : ℕ) → IsMap c m key present s → delete_error s.shape present ≡ Some errno → r ≡ negative_errno errno
    → HelperAnswers (DeleteCall m key) (maps_of c) (Num r) (maps_of c)
delete_refused c m key present s errno r h is number = deleted c m key present s (Some errno) h is ∙ ap (λ n. Some (record { result = Num n; maps = maps_of c })) (sym number)

pub delete_done : (c d : Contents) (m : ℕ) (key : List ℕ) (present : Bool) (s : MapState) → IsMap c m key present s → delete_error s.shape present ≡ None → maps_of d ≡ take_key (maps_of c) m key
    → HelperAnswers (DeleteCall m key) (maps_of c) (Num 0) (maps_of d)
delete_done c d m key present s h is after =
    deleted c m key present s None h is ∙ ap (λ maps. Some (record { result = Num 0; maps = maps })) (sym (after ∙ take_key_at (maps_of c) m s key h.there))

-- ---- updates

updated : (c : Contents) (m : ℕ) (key value : List ℕ) (flags : ℕ) (present : Bool) (s : MapState) (e : Option ℕ) → IsMap c m key present s
    → update_error s.shape present (finite_map.len s.entries) flags ≡ e → answer_of (maps_of c) (UpdateCall m key value flags) ≡ Some (changed_unless e (maps_of c) m s (finite_map.insert s.entries key value))
updated c m key value flags present s e h is =
    ap (option_map (update_answer (maps_of c) m key value flags)) h.there
    ∙ ap (λ x. Some (changed_unless x (maps_of c) m s (finite_map.insert s.entries key value)))
    (ap (λ b. update_error s.shape b (finite_map.len s.entries) flags) h.present_is ∙ is)

pub update_refused : (c : Contents) (m : ℕ) (key value : List ℕ) (flags : ℕ) (present : Bool) (s : MapState) (errno r : ℕ) → IsMap c m key present s
    → update_error s.shape present (finite_map.len s.entries) flags ≡ Some errno → r ≡ negative_errno errno
    → HelperAnswers (UpdateCall m key value flags) (maps_of c) (Num r) (maps_of c)
update_refused c m key value flags present s errno r h is number =
    updated c m key value flags present s (Some errno) h is ∙ ap (λ n. Some (record { result = Num n; maps = maps_of c })) (sym number)

pub update_done : (c d : Contents) (m : ℕ) (key value : List ℕ) (flags : ℕ) (present : Bool) (s : MapState) → IsMap c m key present s
    → update_error s.shape present (finite_map.len s.entries) flags ≡ None → maps_of d ≡ put_value (maps_of c) m key value
    → HelperAnswers (UpdateCall m key value flags) (maps_of c) (Num 0) (maps_of d)
update_done c d m key value flags present s h is after =
    updated c m key value flags present s None h is ∙ ap (λ maps. Some (record { result = Num 0; maps = maps })) (sym (after ∙ put_value_at (maps_of c) m s key value h.there))

-- ---- the errors of an update, flag by flag

pub put_over : (shape : Shape) (keys flags : ℕ) → flags ≤ exist → flags ≢ noexist → update_error shape true keys flags ≡ None
put_over (Array value entries) keys zero low ne = refl
put_over (Array value entries) keys (suc zero) low ne = absurd (ne refl)
put_over (Array value entries) keys (suc (suc zero)) low ne = refl
put_over (Array value entries) keys (suc (suc (suc n))) low ne = absurd (omega (arith, low))
put_over (Hash key value entries) keys zero low ne = refl
put_over (Hash key value entries) keys (suc zero) low ne = absurd (ne refl)
put_over (Hash key value entries) keys (suc (suc zero)) low ne = refl
put_over (Hash key value entries) keys (suc (suc (suc n))) low ne = absurd (omega (arith, low))

pub nowhere_in_array : (shape : Shape) (value entries keys : ℕ) → shape ≡ Array value entries → update_error shape false keys exist ≡ Some e2big
nowhere_in_array shape value entries keys is = ap (λ k. update_error k false keys exist) is

pub nowhere_in_hash : (shape : Shape) (key value entries keys : ℕ) → shape ≡ Hash key value entries → update_error shape false keys exist ≡ Some enoent
nowhere_in_hash shape key value entries keys is = ap (λ k. update_error k false keys exist) is

-- a new key under a flag that lets it be new
put_new : (s : MapState) (flags : ℕ) → flags < exist → IsHash s.shape → finite_map.len s.entries < entry_count s.shape → update_error s.shape false (finite_map.len s.entries) flags ≡ None
put_new s flags low hash room = by s.shape (finite_map.len s.entries) flags low hash room
  where
    by : (shape : Shape) (keys flags : ℕ) → flags < exist → IsHash shape → keys < entry_count shape → update_error shape false keys flags ≡ None
    by (Array value entries) keys flags low hash room = absurd hash
    by (Hash key value entries) keys zero low hash room = let is = lt-leb entries keys room in rw is refl
    by (Hash key value entries) keys (suc zero) low hash room = let is = lt-leb entries keys room in rw is refl
    by (Hash key value entries) keys (suc (suc n)) low hash room = absurd (omega (arith, low))

-- ---- what was written

same_size : (shapes : List Shape) (m a b : ℕ) → m < length shapes → IfSome (slice_get shapes m) (λ s. a ≡ value_size s) → IfSome (slice_get shapes m) (λ s. b ≡ value_size s) → a ≡ b
same_size [] m a b low p q = absurd (omega (arith, low))
same_size (x ∷ xs) zero a b low p q = p ∙ sym q
same_size (x ∷ xs) (suc m) a b low p q = same_size xs m a b (omega (arith, low)) p q

pub sizes_agree : (shapes : List Shape) (m n a b : ℕ) → n ≡ m → m < length shapes → IfSome (slice_get shapes n) (λ s. a ≡ value_size s) → IfSome (slice_get shapes m) (λ s. b ≡ value_size s) → a ≡ b
sizes_agree shapes m n a b same low p q = same_size shapes m a b low (subst (λ i. IfSome (slice_get shapes i) (λ s. a ≡ value_size s)) same p) q

allowed : (o : Option Shape) (P : Shape → Type 0) (Q : Type 0) → IsSome o → IfSome o (λ s. P s → Q) → IfSome o P → Q
allowed None P Q some f p = absurd cc
allowed (Some s) P Q some f p = f p

there_is : (shapes : List Shape) (m : ℕ) → m < length shapes → IsSome (slice_get shapes m)
there_is [] m low = absurd (omega (arith, low))
there_is (x ∷ xs) zero low = refl
there_is (x ∷ xs) (suc m) low = there_is xs m (omega (arith, low))

-- a value written at the entry that a key was given
pub put_written : (c d : Contents) (m : ℕ) (key value w : List ℕ) (e : Entry) → m < length (stored_shapes c) → PutsWritten c d m key e → w ≡ value → IfSome (slice_get (stored_shapes c) m) (λ s. length value ≡ value_size s)
    → maps_of (write_value d e w) ≡ put_value (maps_of c) m key value
put_written c d m key value w e low puts is size =
    ap (λ x. maps_of (write_value d e x)) is
    ∙ allowed (slice_get (stored_shapes c) m) (λ s. length value ≡ value_size s) (maps_of (write_value d e value) ≡ put_value (maps_of c) m key value) (there_is (stored_shapes c) m low) (puts value) size

pub insert_done : (c d : Contents) (m : ℕ) (key value : List ℕ) (flags : ℕ) (new : Bool) → m < length (stored_shapes c) → is_some (value_at (maps_of c) m key) ≡ not new → HasRoom (maps_of c) m key → flags < exist → (flags ≡ noexist → new ≡ true)
    → maps_of d ≡ put_value (maps_of c) m key value → HelperAnswers (UpdateCall m key value flags) (maps_of c) (Num 0) (maps_of d)
insert_done c d m key value flags true h is room low first after =
    let map = named_map c m key false h is in
    let free = subst (λ o. IfSome o (λ (s : MapState). IsHash s.shape × (finite_map.len s.entries < entry_count s.shape))) map.1.there (room is) in
    update_done c d m key value flags false map.0 map.1 (put_new map.0 flags low free.0 free.1) after
insert_done c d m key value flags false h is room low first after =
    let map = named_map c m key true h is in
    update_done c d m key value flags true map.0 map.1 (put_over map.0.shape (finite_map.len map.0.entries) flags (omega (arith, low)) (λ e. let no : false ≡ true = first e in cc)) after

pub some_not_none : (b : Bool) → (b ≡ false → true ≡ false) → b ≡ true
some_not_none true h = refl
some_not_none false h = sym (h refl)

pub others_written : (c : Contents) (e : Entry) (w : List ℕ) (m n : ℕ) → e.map ≡ m → n ≢ m → slice_get (write_value c e w) n ≡ slice_get c n
others_written c e w m n same ne = others_kept _ c e.map n (λ is. ne (is ∙ same))
