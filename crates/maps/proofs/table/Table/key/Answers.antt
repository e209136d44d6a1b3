use Rattle.std.proofs.Common.{◌≡◌, ℕ, ◌∙◌, ap, subst, sym, Some}
use Rattle.std.specs.Prelude.{slice_get, ◌<◌}
use Rattle.keyindex.specs.declared.index.KeyIndex.{KeyIndex}
use Rattle.keyindex.specs.Places.{key_in}
use Rattle.keyindex.proofs.Export.{key_listed}
use Rattle.maps.specs.declared.table.Table.{Table}
use Rattle.maps.specs.Shapes.{entry_count}
use Rattle.maps.specs.Blocks.{keys_at, FitsIndex}
use Rattle.maps.proofs.Stored.{sizes}
use Rattle.maps.proofs.TableKeys.{index_found}
use Rattle.maps.proofs.table.Table.key.Goals as goal

-- what stands at a place of a hash
listed : (t : Table) (x : KeyIndex) (p : ℕ) → FitsIndex t.shape t.index → t.index ≡ Some x → p < entry_count t.shape → slice_get (keys_at t.shape t.index) p ≡ Some (key_in x p)
listed t x p fits some low =
    let many = (sizes t.shape x (subst (FitsIndex t.shape) some fits)).places_are in
    ap (λ i. slice_get (keys_at t.shape i) p) some ∙ key_listed x p (subst (λ n. p < n) (sym many) low)

pub returns-in-None-clause-there : goal.returns-in-None-clause-there
returns-in-None-clause-there c =
    λ _. index_found c.args.self.now c.args.place c.copy_from_slice.new.self c.in-None.is c.requires.place (c.copy_from_slice.ensures.after ∙ c.to_le_bytes.ensures)

pub returns-in-Some-key-clause-there : goal.returns-in-Some-key-clause-there
returns-in-Some-key-clause-there c =
    λ _. listed c.args.self.now c.in-Some.index c.args.place c.requires.table.index c.in-Some.is c.requires.place
    ∙ ap Some (sym c.in-Some-key.ensures.key ∙ ap Some (sym c.copy_from_slice-in-Some-key.ensures.after))

pub returns-in-None-key-clause-free : goal.returns-in-None-key-clause-free
returns-in-None-key-clause-free c =
    λ _. listed c.args.self.now c.in-Some.index c.args.place c.requires.table.index c.in-Some.is c.requires.place ∙ ap Some (sym c.in-None-key.ensures.key)
