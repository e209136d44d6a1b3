-- Tables copied one by one.
use Rattle.std.proofs.Common.{◌≡◌, ◌≢◌, ℕ, zero, suc, ◌+◌, ◌<◌, ◌≤◌, List, [], ◌∷◌, length, Some, refl, sym, ap, ◌∙◌, arith, subst, get_or, ⊎_elim}
use Rattle.std.specs.Prelude.{slice_get, slice_set}
use Rattle.std.specs.Option.{option_map}
use Rattle.std.proofs.lemmas.List.{length-map}
use Rattle.std.proofs.lemmas.Option.{slice_get-map}
use Rattle.std.proofs.lemmas.Bool.Decides.{eqb_tells}
use Rattle.maps.specs.declared.shapes.Shape.{Shape}
use Rattle.maps.specs.declared.table.Table.{Table}
use Rattle.maps.specs.MapSets.{Stored, Contents, stored_shapes}
use Rattle.maps.specs.Blocks.{stored, contents, IsTable, AreTables}
use Rattle.maps.proofs.Stored.{get_at, all_get}
use Rattle.maps.proofs.Written.{kept_shapes, tables_kept}

-- the first i are those of the source, and all have the shapes of the source's
pub record IsCopied (i : ℕ) (ts source : List Table) : Type 0 where
  pub tables : AreTables ts
  pub shapes : stored_shapes (contents ts) ≡ stored_shapes (contents source)
  pub first : (j : ℕ) → j < i → slice_get (contents ts) j ≡ slice_get (contents source) j

get_set_same : (ts : List Table) (i : ℕ) (u : Table) → i < length ts → slice_get (contents (slice_set ts i u)) i ≡ Some (stored u)
get_set_same [] i u h = absurd (omega arith)
get_set_same (x ∷ ts) zero u h = refl
get_set_same (x ∷ ts) (suc i) u h = get_set_same ts i u (omega arith)

get_set_other : (ts : List Table) (i j : ℕ) (u : Table) → j ≢ i → slice_get (contents (slice_set ts i u)) j ≡ slice_get (contents ts) j
get_set_other [] i j u ne = refl
get_set_other (x ∷ ts) zero zero u ne = absurd (ne refl)
get_set_other (x ∷ ts) zero (suc j) u ne = refl
get_set_other (x ∷ ts) (suc i) zero u ne = refl
get_set_other (x ∷ ts) (suc i) (suc j) u ne = get_set_other ts i j u (λ e. ne (ap suc e))

one : (a b : Shape) → Some a ≡ Some b → a ≡ b
one a b e = cc

pub count : (ts source : List Table) → stored_shapes (contents ts) ≡ stored_shapes (contents source) → length ts ≡ length source
count ts source e =
    sym (length-map (contents ts) (λ (s : Stored). s.shape) ∙ length-map ts stored) ∙ (ap length e ∙ (length-map (contents source) (λ (s : Stored). s.shape) ∙ length-map source stored))

at : (ts : List Table) (i : ℕ) (t : Table) → i < length ts → t ≡ get_or ts i t → slice_get (contents ts) i ≡ Some (stored t)
at ts i t h e = slice_get-map stored ts i ∙ ap (option_map stored) (get_at ts i t h e)

shape_at : (ts : List Table) (i : ℕ) (t : Table) → i < length ts → t ≡ get_or ts i t → slice_get (stored_shapes (contents ts)) i ≡ Some t.shape
shape_at ts i t h e = slice_get-map (λ (s : Stored). s.shape) (contents ts) i ∙ ap (option_map (λ (s : Stored). s.shape)) (at ts i t h e)

-- the next of both are tables of one shape
pub record IsNext (t x : Table) : Type 0 where
  pub table : IsTable t
  pub source : IsTable x
  pub shape : t.shape ≡ x.shape

pub alike : (i : ℕ) (ts source : List Table) (t x : Table) → AreTables source → IsCopied i ts source → i < length ts → t ≡ get_or ts i t → x ≡ get_or source i x → IsNext t x
alike i ts source t x tables c h e f =
    let within : i < length source = subst (λ n. i < n) (count ts source c.shapes) h in
    record {
      table = all_get IsTable ts i t c.tables.each (get_at ts i t h e);
      source = all_get IsTable source i x tables.each (get_at source i x within f);
      shape = one t.shape x.shape (sym (shape_at ts i t h e) ∙ (ap (λ s. slice_get s i) c.shapes ∙ shape_at source i x within f));
    }

pub copied_one : (i : ℕ) (ts source : List Table) (t x u : Table) → AreTables source → IsCopied i ts source → i < length ts → t ≡ get_or ts i t → x ≡ get_or source i x
    → stored u ≡ stored x → IsTable u → IsCopied (i + 1) (slice_set ts i u) source
copied_one i ts source t x u tables c h e f same fits =
    let next = alike i ts source t x tables c h e f in
    let within : i < length source = subst (λ n. i < n) (count ts source c.shapes) h in
    let shape : u.shape ≡ t.shape = ap (λ (s : Stored). s.shape) same ∙ sym next.shape in
    record {
      tables = tables_kept ts i t u c.tables e shape fits;
      shapes = kept_shapes ts i t u e shape ∙ c.shapes;
      first = λ j below. ⊎_elim
          (λ is. let ji : j ≡ i = is.1 in subst (λ n. slice_get (contents (slice_set ts i u)) n ≡ slice_get (contents source) n) (sym ji) (get_set_same ts i u h ∙ (ap Some same ∙ sym (at source i x within f))))
          (λ other. get_set_other ts i j u other.1 ∙ c.first j (omega (arith, below, other.1)))
          (eqb_tells j i);
    }

all_same : (a b : Contents) → length a ≡ length b → ((j : ℕ) → j < length a → slice_get a j ≡ slice_get b j) → a ≡ b
all_same [] [] e same = refl
all_same [] (y ∷ b) e same = absurd (omega (arith, e))
all_same (x ∷ a) [] e same = absurd (omega (arith, e))
all_same (x ∷ a) (y ∷ b) e same =
    let first : x ≡ y = let p : Some x ≡ Some y = same 0 (omega arith) in cc in
    ap (λ s. s ∷ a) first ∙ ap (λ c. y ∷ c) (all_same a b (omega (arith, e)) (λ j h. same (suc j) (omega (arith, h))))

pub copied_all : (ts source : List Table) (n : ℕ) → length ts ≤ n → IsCopied n ts source → contents ts ≡ contents source
copied_all ts source n h c =
    let many = length-map ts stored in
    all_same (contents ts) (contents source) (many ∙ (count ts source c.shapes ∙ sym (length-map source stored))) (λ j below. c.first j (omega (arith, below, many, h)))
