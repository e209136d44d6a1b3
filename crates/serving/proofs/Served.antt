-- Bytes that are served in parts, and one after the other.
use Rattle.std.proofs.Common.{◌≡◌, ℕ, ◌+◌, ◌<◌, Bool, true, false, cond, List, [], ◌∷◌, ◌++◌, length, take, get_or, refl, sym, ap, subst, ◌∙◌, append_assoc}
use Rattle.std.specs.Prelude.{◌==◌}
use Rattle.std.proofs.lemmas.List.{take_more, append-nil}
use Rattle.std.proofs.lemmas.Bool.{ne_eqb}
use Rattle.loader.specs.CatalogueView.{CatalogueView}
use Rattle.serving.specs.declared.service.Service.{Service}
use Rattle.serving.specs.ServeAnswer.{ServiceState, Served, served, served_after, turn_at, after_line}
use Rattle.serving.specs.ServiceKept.{Stands, with_byte}

-- bytes that were served, and then others
abbrev and_then : CatalogueView → Served → List ℕ → Served
and_then c before bytes = served_after before.text (served c before.serving bytes)

behind_behind : (xs ys : List ℕ) (t : Served) → served_after xs (served_after ys t) ≡ served_after (xs ++ ys) t
behind_behind xs ys t = ap (λ (z : List ℕ). record { text = z; serving = t.serving }) (sym (append_assoc xs ys t.text))

-- in two parts: a byte ends the line or does not
by_byte : (c : CatalogueView) (s : ServiceState) (x : ℕ) (xs b : List ℕ) → served c (after_line c s) (xs ++ b) ≡ and_then c (served c (after_line c s) xs) b
    → served c (with_byte s x) (xs ++ b) ≡ and_then c (served c (with_byte s x) xs) b
    → (t : Bool)
    → cond t (served_after (turn_at c s).text (served c (after_line c s) (xs ++ b))) (served c (with_byte s x) (xs ++ b))
    ≡ and_then c (cond t (served_after (turn_at c s).text (served c (after_line c s) xs)) (served c (with_byte s x) xs)) b
by_byte c s x xs b ended goes_on true =
    let t = served c (after_line c s) xs in
    ap (served_after (turn_at c s).text) ended ∙ behind_behind (turn_at c s).text t.text (served c t.serving b)
by_byte c s x xs b ended goes_on false = goes_on

pub served_parts : (c : CatalogueView) (s : ServiceState) (a b : List ℕ) → served c s (a ++ b) ≡ and_then c (served c s a) b
unfolding served
served_parts c s [] b = refl
served_parts c s (x ∷ xs) b = by_byte c s x xs b (served_parts c (after_line c s) xs b) (served_parts c (with_byte s x) xs b) (x == 10)

-- one byte
pub one_feed : (c : CatalogueView) (s : ServiceState) (b : ℕ) → b ≡ 10 → served c s (b ∷ []) ≡ record { text = (turn_at c s).text; serving = after_line c s }
unfolding served
one_feed c s b is = rw is (ap (λ (z : List ℕ). record { text = z; serving = after_line c s }) (append-nil (turn_at c s).text))

pub one_byte : (c : CatalogueView) (s : ServiceState) (b : ℕ) → (b ≡ 10 → ⊥) → served c s (b ∷ []) ≡ record { text = []; serving = with_byte s b }
unfolding served
one_byte c s b other = rw (ne_eqb b 10 other) refl

pub none_served : (c : CatalogueView) (s : ServiceState) → served c s [] ≡ record { text = []; serving = s }
unfolding served
none_served c s = refl

-- the byte behind i bytes
module _ (c : CatalogueView) (s : ServiceState) (bytes : List ℕ) (i b : ℕ) (lt : i < length bytes) (is : b ≡ get_or bytes i 0) where
  abbrev so_far : Served
  so_far = served c s (take i bytes)

  abbrev then_on : Served
  then_on = served c s (take (i + 1) bytes)

  next : then_on ≡ and_then c so_far (b ∷ [])
  next = ap (served c s) (take_more bytes i 0 lt ∙ ap (λ (x : ℕ). take i bytes ++ x ∷ []) (sym is)) ∙ served_parts c s (take i bytes) (b ∷ [])

  module _ (d : CatalogueView) (same : d ≡ c) where
    pub text_on : (before now after : List ℕ) → now ≡ before ++ so_far.text → after ≡ now ++ (served d so_far.serving (b ∷ [])).text → after ≡ before ++ then_on.text
    text_on before now after p q =
        let one : List ℕ = (served c so_far.serving (b ∷ [])).text in
        q ∙ ap (λ (x : CatalogueView). now ++ (served x so_far.serving (b ∷ [])).text) same ∙ ap (λ (x : List ℕ). x ++ one) p ∙ append_assoc before so_far.text one ∙ ap (λ (t : Served). before ++ t.text) (sym next)

    pub stands_on : (service : Service) → Stands (served d so_far.serving (b ∷ [])).serving service → Stands then_on.serving service
    stands_on service stands =
        subst (λ (t : Served). Stands t.serving service) (sym next) (subst (λ (x : CatalogueView). Stands (served x so_far.serving (b ∷ [])).serving service) same stands)
