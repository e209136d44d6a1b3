use Rattle.std.proofs.Common.{◌≡◌, Bool, true, false, ◌||◌, refl, sym, ◌∙◌}
use Rattle.std.specs.Prelude.{not}
use Rattle.explain.proofs.Pieces.{on_ok}
use Rattle.explain.proofs.Texts.{adds_so, if_true}
use Rattle.explain.proofs.files.manifest.Explanation.put_misplaced.Goals as goal

without_map : (b t : Bool) → b ≡ false → (not b || t) ≡ true
without_map false t e = refl
without_map true t e = absurd cc

with_name : (b t : Bool) → t ≡ true → (not b || t) ≡ true
with_name false t e = refl
with_name true t e = e

pub returns-then-not-has_map : goal.returns-then-not-has_map
returns-then-not-has_map c =
    let none = sym c.has_map.ensures ∙ c.if-not-has_map.true in
    on_ok c.put_fault.result (λ told. adds_so _ _ _ _ (λ t begins. if_true _ _ t (without_map _ _ none) begins) told) c.put_fault.ensures

pub returns : goal.returns
returns c =
    let taken = sym c.in-Some.ensures in
    on_ok c.put_fault-2.result (λ told. adds_so _ _ _ _ (λ t begins. if_true _ _ t (with_name _ _ taken) begins) told) c.put_fault-2.ensures
