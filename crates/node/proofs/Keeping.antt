-- What a replay keeps, as one function of the records.
use Rattle.std.proofs.Common.{◌≡◌, ℕ, zero, suc, ◌+◌, ◌-◌, ◌<◌, ◌≤◌, List, [], ◌∷◌, length, take, Option, Some, None, refl, sym, ap, ◌∙◌, inl, inr, ⊎_elim, arith}
use Rattle.std.specs.Prelude.{slice_get, ◌⊎◌}
use Rattle.std.proofs.lemmas.Option.{none-some, same_Some}
use Rattle.std.proofs.lemmas.Bool.{cases_lt}
use Rattle.loader.specs.CatalogueView.{CatalogueView}
use Rattle.loader.specs.StoreState.{StoreState}
use Rattle.oplog.specs.declared.records.Record.{Record}
use Rattle.oplog.specs.History.{Effect, History, after, left_by}
use Rattle.replica.specs.StoreMeaning.{store_meaning, outcome_of}
use Rattle.replica.specs.Views.{RepliesView}
use Rattle.replica.specs.Replaying.{KeepsOutcomes}
use Rattle.replica.proofs.Export.{count_with, at_with, off_with}
use Rattle.node.specs.Following.{with_effect, outcomes_after}
use Rattle.machine.proofs.Export.{get_inside}

-- two lists that are equal at each index
pub same_lists : {A : Type 0} (xs ys : List A) → length xs ≡ length ys → ((k : ℕ) → k < length xs → slice_get xs k ≡ slice_get ys k) → xs ≡ ys
same_lists [] [] l e = refl
same_lists [] (y ∷ ys) l e = absurd (omega arith)
same_lists (x ∷ xs) [] l e = absurd (omega arith)
same_lists (x ∷ xs) (y ∷ ys) l e =
    let first : x ≡ y = same_Some x y (e 0 (omega arith)) in
    let rest : xs ≡ ys = same_lists xs ys (omega arith) (λ k lt. e (suc k) (omega arith)) in
    ap (λ z. z ∷ xs) first ∙ ap (λ zs. y ∷ zs) rest

effect_count : (kept : RepliesView) (index : ℕ) (o : Option (Effect StoreState)) → length (with_effect kept index o).outcomes ≡ length kept.outcomes
effect_count kept index None = refl
effect_count kept index (Some e) = count_with kept index (outcome_of e)

effect_first : (kept : RepliesView) (index : ℕ) (o : Option (Effect StoreState)) → (with_effect kept index o).first ≡ kept.first
effect_first kept index None = refl
effect_first kept index (Some e) = refl

effect_off : (kept : RepliesView) (index k : ℕ) (o : Option (Effect StoreState)) → (kept.first + k ≡ index → ⊥) → slice_get (with_effect kept index o).outcomes k ≡ slice_get kept.outcomes k
effect_off kept index k None ne = refl
effect_off kept index k (Some e) ne = off_with kept index k (outcome_of e) ne

pub after_count : (c : CatalogueView) (state : StoreState) (index : ℕ) (rs : History) (kept : RepliesView) → length (outcomes_after c state index rs kept).outcomes ≡ length kept.outcomes
after_count c state index [] kept = refl
after_count c state index (r ∷ rs) kept =
    after_count c (left_by (store_meaning.update c r.op state) state) (index + 1) rs (with_effect kept index (store_meaning.update c r.op state)) ∙ effect_count kept index (store_meaning.update c r.op state)

pub after_first : (c : CatalogueView) (state : StoreState) (index : ℕ) (rs : History) (kept : RepliesView) → (outcomes_after c state index rs kept).first ≡ kept.first
after_first c state index [] kept = refl
after_first c state index (r ∷ rs) kept =
    after_first c (left_by (store_meaning.update c r.op state) state) (index + 1) rs (with_effect kept index (store_meaning.update c r.op state)) ∙ effect_first kept index (store_meaning.update c r.op state)

-- an index that none of the records has
after_off : (c : CatalogueView) (state : StoreState) (index k : ℕ) (rs : History) (kept : RepliesView) → (kept.first + k < index) ⊎ (index + length rs ≤ kept.first + k)
    → slice_get (outcomes_after c state index rs kept).outcomes k ≡ slice_get kept.outcomes k
after_off c state index k [] kept off = refl
after_off c state index k (r ∷ rs) kept off =
    let o : Option (Effect StoreState) = store_meaning.update c r.op state in
    let first = effect_first kept index o in
    let later : ((with_effect kept index o).first + k < index + 1) ⊎ ((index + 1) + length rs ≤ (with_effect kept index o).first + k) = ⊎_elim (λ l. inl (omega arith)) (λ g. inr (omega arith)) off in
    let ne : kept.first + k ≡ index → ⊥ = λ e. ⊎_elim (λ l. omega arith) (λ g. omega arith) off in
    after_off c (left_by o state) (index + 1) k rs (with_effect kept index o) later ∙ effect_off kept index k o ne

-- the index of the first record
first_at : (c : CatalogueView) (state : StoreState) (index k : ℕ) (q r : Record) (rs : History) (kept : RepliesView) (done : Effect StoreState) → slice_get (q ∷ rs) 0 ≡ Some r → kept.first + k ≡ index → k < length kept.outcomes
    → store_meaning.update c r.op state ≡ Some done → slice_get (outcomes_after c state index (q ∷ rs) kept).outcomes k ≡ Some (Some (outcome_of done))
first_at c state index k q r rs kept done g at lt is =
    let same : q ≡ r = same_Some q r g in
    let o : Option (Effect StoreState) = store_meaning.update c q.op state in
    let known : store_meaning.update c q.op state ≡ Some done = ap (λ y. store_meaning.update c y.op state) same ∙ is in
    let first = effect_first kept index o in
    after_off c (left_by o state) (index + 1) k rs (with_effect kept index o) (inl (omega arith))
    ∙ ap (λ v. slice_get (with_effect kept index v).outcomes k) known
    ∙ at_with kept index k (outcome_of done) at lt

-- the index of the i-th record
after_at : (c : CatalogueView) (state : StoreState) (index k i : ℕ) (rs : History) (kept : RepliesView) (r : Record) (done : Effect StoreState) → slice_get rs i ≡ Some r → kept.first + k ≡ index + i → k < length kept.outcomes
    → store_meaning.update c r.op (after store_meaning c state (take i rs)) ≡ Some done → slice_get (outcomes_after c state index rs kept).outcomes k ≡ Some (Some (outcome_of done))
after_at c state index k i [] kept r done g at lt is = absurd (none-some r g)
after_at c state index k zero (q ∷ []) kept r done g at lt is = first_at c state index k q r [] kept done g (omega arith) lt is
after_at c state index k zero (q ∷ (z ∷ rs)) kept r done g at lt is = first_at c state index k q r (z ∷ rs) kept done g (omega arith) lt is
after_at c state index k (suc i) (q ∷ rs) kept r done g at lt is =
    let o : Option (Effect StoreState) = store_meaning.update c q.op state in
    let first = effect_first kept index o in
    let count = effect_count kept index o in
    after_at c (left_by o state) (index + 1) k i rs (with_effect kept index o) r done g (omega arith) (omega arith) is

-- what a replay says that it keeps is what the function says
pub keeps_after : (c : CatalogueView) (state : StoreState) (index : ℕ) (rs : History) (old new : RepliesView) → KeepsOutcomes c state index rs old new → new ≡ outcomes_after c state index rs old
keeps_after c state index rs old new x =
    let first : new.first ≡ (outcomes_after c state index rs old).first = x.first ∙ sym (after_first c state index rs old) in
    let count : length new.outcomes ≡ length (outcomes_after c state index rs old).outcomes = x.count ∙ sym (after_count c state index rs old) in
    let same : new.outcomes ≡ (outcomes_after c state index rs old).outcomes = same_lists new.outcomes (outcomes_after c state index rs old).outcomes count (λ k lt. each k lt) in
    ap (λ f. (let v : RepliesView = record { first = f; outcomes = new.outcomes } in v)) first ∙ ap (λ os. (let v : RepliesView = record { first = (outcomes_after c state index rs old).first; outcomes = os } in v)) same
  where
    there : (k i : ℕ) → i < length rs → k < length old.outcomes → old.first + k ≡ index + i → slice_get new.outcomes k ≡ slice_get (outcomes_after c state index rs old).outcomes k
    there k i inside lt at =
        let r = get_inside rs i inside in
        let w = x.replayed k i r.0 lt r.1 at in
        w.1 ∙ ap (λ o. Some (Some o)) (w.2).outcome ∙ sym (after_at c state index k i rs old r.0 (w.2).done r.1 at lt (w.2).takes)

    each : (k : ℕ) → k < length new.outcomes → slice_get new.outcomes k ≡ slice_get (outcomes_after c state index rs old).outcomes k
    each k lt =
        let count = x.count in
        ⊎_elim
        (λ before. x.others k (inl before) ∙ sym (after_off c state index k rs old (inl before)))
        (λ from. ⊎_elim
        (λ within. let at : old.first + k ≡ index + ((old.first + k) - index) = omega arith in there k ((old.first + k) - index) (omega arith) (omega arith) at)
        (λ behind. x.others k (inr behind) ∙ sym (after_off c state index k rs old (inr behind)))
        (cases_lt (old.first + k) (index + length rs)))
        (cases_lt (old.first + k) index)
