-- The state after records, one by one.
use Rattle.std.proofs.Common.{◌≡◌, ℕ, zero, suc, ◌+◌, [], ◌∷◌, take, Some, slice_get, ap, sym, ◌∙◌, add-one}
use Rattle.loader.specs.CatalogueView.{CatalogueView}
use Rattle.loader.specs.StoreState.{StoreState}
use Rattle.oplog.specs.declared.records.Record.{Record}
use Rattle.oplog.specs.History.{Meaning, History, left_by, after}
use Rattle.replica.specs.StoreMeaning.{store_meaning}

-- after one record more
pub after_suc : {C S : Type 0} (E : Meaning C S) (c : C) (state : S) (records : History) (k : ℕ) (r : Record) → slice_get records k ≡ Some r
    → after E c state (take (suc k) records) ≡ left_by (E.update c r.op (after E c state (take k records))) (after E c state (take k records))
after_suc E c state [] k r e = absurd cc
after_suc E c state (x ∷ xs) zero r e =
    let same : x ≡ r = cc in ap (λ (y : Record). left_by (E.update c y.op state) state) same
after_suc E c state (x ∷ xs) (suc k) r e = after_suc E c (left_by (E.update c x.op state) state) xs k r e

after_next : {C S : Type 0} (E : Meaning C S) (c : C) (state : S) (records : History) (k : ℕ) (r : Record) → slice_get records k ≡ Some r
    → after E c state (take (k + 1) records) ≡ left_by (E.update c r.op (after E c state (take k records))) (after E c state (take k records))
after_next E c state records k r e = rw add-one (after_suc E c state records k r e)

-- as the loop has it: the record was run on these maps
pub after_one_more : (c : CatalogueView) (s before left : StoreState) (records : History) (k : ℕ) (r : Record) → slice_get records k ≡ Some r
    → before ≡ after store_meaning c s (take k records) → left ≡ left_by (store_meaning.update c r.op before) before → left ≡ after store_meaning c s (take (k + 1) records)
after_one_more c s before left records k r is state_is left_is =
    left_is ∙ ap (λ (x : StoreState). left_by (store_meaning.update c r.op x) x) state_is ∙ sym (after_next store_meaning c s records k r is)
