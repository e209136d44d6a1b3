-- A row of full slots, taken from one end to the other.
use Rattle.std.proofs.Common.{◌≡◌, ℕ, zero, suc, ◌+◌, ◌<◌, Bool, false, List, [], ◌∷◌, get_or, set, sym, refl, ◌∙◌, subst, arith, get_or-set_other}
use mathlib.Core.Logic.{dite}
use native.Mathlib.Decide.{ℕ_discrete}
use Rattle.std.specs.Mem.Slots.Ownership.{Filled}

filled_next : (fs : List Bool) (place next count : ℕ) → next ≡ place + 1 → Filled fs place count → Filled (set fs place false) next count
filled_next fs place next count is full k low high = get_or-set_other fs place k false false (λ e. omega (arith, low, e, is)) ∙ full k (omega (arith, low, is)) high

none_here : (fs : List Bool) (k : ℕ) → get_or (set fs k false) k false ≡ false
none_here [] k = refl
none_here (f ∷ fs) zero = refl
none_here (f ∷ fs) (suc k) = none_here fs k

emptied_next : (fs : List Bool) (place next : ℕ) → next ≡ place + 1 → ((k : ℕ) → k < place → get_or fs k false ≡ false) → (k : ℕ) → k < next → get_or (set fs place false) k false ≡ false
emptied_next fs place next is empty k low = dite (ℕ_discrete k place)
    (λ e. subst (λ z. get_or (set fs place false) z false ≡ false) (sym e) (none_here fs place))
    (λ ne. get_or-set_other fs place k false false ne ∙ empty k (omega (arith, low, ne, is)))

pub filled_with : (fs gs : List Bool) (place next count : ℕ) → gs ≡ set fs place false → next ≡ place + 1 → Filled fs place count → Filled gs next count
filled_with fs gs place next count is one full = subst (λ z. Filled z next count) (sym is) (filled_next fs place next count one full)

pub emptied_with : (fs gs : List Bool) (place next : ℕ) → gs ≡ set fs place false → next ≡ place + 1 → ((k : ℕ) → k < place → get_or fs k false ≡ false) → (k : ℕ) → k < next → get_or gs k false ≡ false
emptied_with fs gs place next is one empty = subst (λ z. (k : ℕ) → k < next → get_or z k false ≡ false) (sym is) (emptied_next fs place next one empty)
