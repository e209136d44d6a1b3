-- One line after another, of maps and of programs.
use Rattle.std.proofs.Common.{◌≡◌, ℕ, zero, suc, ◌+◌, List, [], ◌∷◌, ◌++◌, slice_get, take, Option, Some, None, Result, refl, sym, ap, ap₂, ◌∙◌, append_assoc, append-nil, arith}
use Rattle.std.specs.Prelude.{IfSome, OnOk}
use Rattle.std.specs.FinMap as finite_map
use Rattle.std.specs.List.{flat_map}
use Rattle.std.specs.Option.{option_map, option_map_or}
use Rattle.std.proofs.lemmas.Result.{on_ok_weaker}
use Rattle.maps.specs.declared.shapes.Shape.{Shape}
use Rattle.maps.specs.Maps.{MapState}
use Rattle.serving.specs.StoreText.{keys_line, map_line}

-- ---- lines in order

more : {A : Type 0} (line : A → List ℕ) (xs : List A) (k : ℕ) → flat_map line (take (suc k) xs) ≡ flat_map line (take k xs) ++ option_map_or line (slice_get xs k) []
more line [] zero = refl
more line [] (suc k) = refl
more line (x ∷ xs) zero = append-nil (line x)
more line (x ∷ xs) (suc k) = ap (λ t. line x ++ t) (more line xs k) ∙ sym (append_assoc (line x) (flat_map line (take k xs)) (option_map_or line (slice_get xs k) []))

module _ {A : Type 0} (line : A → List ℕ) (xs : List A) (old : List ℕ) where
  pub no_line : old ≡ old ++ flat_map line (take 0 xs)
  no_line = sym (append-nil old)

  -- the line after those of the first k
  pub line_more : (k : ℕ) (before after : List ℕ) → before ≡ old ++ flat_map line (take k xs) → after ≡ before ++ option_map_or line (slice_get xs k) [] → after ≡ old ++ flat_map line (take (k + 1) xs)
  line_more k before after is one =
      let count : suc k ≡ k + 1 = omega arith in
      one ∙ ap (λ t. t ++ option_map_or line (slice_get xs k) []) is ∙ append_assoc old (flat_map line (take k xs)) (option_map_or line (slice_get xs k) [])
      ∙ ap (λ t. old ++ t) (sym (more line xs k)) ∙ ap (λ n. old ++ flat_map line (take n xs)) count

-- ---- a map

pub map_told : (o : Option MapState) (shape : Shape) (keys : ℕ) → option_map (λ (m : MapState). m.shape) o ≡ Some shape → IfSome o (λ (m : MapState). keys ≡ finite_map.len m.entries)
    → option_map_or map_line o [] ≡ keys_line shape keys
map_told None shape keys is count = absurd cc
map_told (Some m) shape keys is count =
    let same : m.shape ≡ shape = cc in
    ap₂ keys_line same (sym count)

-- ---- all of it

pub put_together : {E : Type 0} (r : Result (Unit {0}) E) (old one two new a b d : List ℕ) → one ≡ old ++ a → two ≡ one ++ b → OnOk r (new ≡ two ++ d) → OnOk r (new ≡ old ++ (a ++ (b ++ d)))
put_together r old one two new a b d p q put =
    on_ok_weaker r (λ e. e ∙ ap (λ (x : List ℕ). x ++ d) (q ∙ ap (λ (x : List ℕ). x ++ b) p) ∙ append_assoc (old ++ a) b d ∙ append_assoc old a (b ++ d)) put
