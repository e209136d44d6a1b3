-- Lines of texts that are not UTF-8, one after another.
use Rattle.std.proofs.Common.{◌≡◌, ℕ, List, [], ◌∷◌, ◌++◌, Result, Ok, Err, Vec, IfOk, flat_map, sym, ap, ◌∙◌, append_assoc}
use Rattle.std.specs.Global.{Global}
use Rattle.std.proofs.lemmas.Grind.{flat_map-append}
use Rattle.std.proofs.lemmas.List.{append-nil}
use Rattle.findings.specs.Objects.{stranger_line}
use Rattle.console.specs.FindAnswer.{AddsStrangers}

pub none_added : (old : List ℕ) → AddsStrangers old old
none_added old = ([], sym (append-nil old))

one_added : (old new name : List ℕ) → new ≡ old ++ stranger_line name → AddsStrangers old new
one_added old new name is = (name ∷ [], is ∙ ap (λ t. old ++ t) (sym (append-nil (stranger_line name))))

-- if this line is added
pub line_added : {E : Type 0} (r : Result (Vec ℕ Global) E) (old name : List ℕ)
    → IfOk r (λ v. v.items ≡ old ++ stranger_line name) → IfOk r (λ v. AddsStrangers old v.items)
line_added (Ok v) old name is = one_added old v.items name is
line_added (Err e) old name is = tt

-- first these, then those
pub both_added : (a b d : List ℕ) → AddsStrangers a b → AddsStrangers b d → AddsStrangers a d
both_added a b d these those = (
  these.0 ++ those.0,
  those.1
      ∙ ap (λ t. t ++ flat_map stranger_line those.0) these.1
      ∙ append_assoc a (flat_map stranger_line these.0) (flat_map stranger_line those.0)
      ∙ ap (λ t. a ++ t) (sym (flat_map-append stranger_line these.0 those.0)),
)
