-- How states are told apart, which a model asks for. No public clause cites this module.
use Rattle.std.specs.Prelude.{ℕ, List, Option, refl}
use Rattle.std.specs.Coded.{Coded, code_by, coded×, coded_list, coded_option, coded_ℕ}
use Rattle.std.specs.FinMap as finite_map
use Rattle.maps.specs.declared.shapes.Shape.{Shape}
use Rattle.maps.specs.contracts.shapes.Shape as shape
use Rattle.maps.specs.Maps.{Maps, MapState, Entries}
use Rattle.verifier.specs.declared.refusal.Mode.{Mode}
use Rattle.verifier.specs.contracts.refusal.Mode as mode
use Rattle.insn.specs.declared.instruction.Form.{Form}
use Rattle.insn.specs.contracts.instruction.Form as form
use Rattle.verifier.specs.Accepted.{Checked}
use Rattle.loader.specs.StoreState.{StoreState}
use Rattle.loader.specs.CatalogueView.{Entry, CatalogueView}

abbrev pub entries_code : Coded Entries
entries_code = finite_map.code (coded_list coded_ℕ) (coded_list coded_ℕ)

abbrev pub map_code : Coded MapState
map_code =
    code_by (Shape × Entries) (coded× shape.the_row.coded entries_code) (λ s. (s.shape, s.entries)) (λ p. record { shape = p.0; entries = p.1 }) (λ _. refl)

abbrev pub maps_code : Coded Maps
maps_code = coded_list map_code

abbrev pub program_code : Coded Checked
program_code =
    code_by (List Form × (List Shape × (ℕ × Mode))) (coded× (coded_list form.the_row.coded) (coded× (coded_list shape.the_row.coded) (coded× coded_ℕ mode.the_row.coded)))
    (λ c. (c.program, (c.shapes, (c.arg_len, c.mode)))) (λ p. record { program = p.0; shapes = p.1.0; arg_len = p.1.1.0; mode = p.1.1.1 }) (λ _. refl)

abbrev pub state_code : Coded StoreState
state_code =
    code_by (Maps × (List Checked × (ℕ × ℕ))) (coded× maps_code (coded× (coded_list program_code) (coded× coded_ℕ coded_ℕ))) (λ s. (s.maps, (s.programs, (s.places, s.long))))
    (λ p. record { maps = p.0; programs = p.1.0; places = p.1.1.0; long = p.1.1.1 }) (λ _. refl)

abbrev pub entry_code : Coded Entry
entry_code = code_by (List ℕ × Checked) (coded× (coded_list coded_ℕ) program_code) (λ e. (e.name, e.checked)) (λ p. record { name = p.0; checked = p.1 }) (λ _. refl)

abbrev pub catalogue_code : Coded CatalogueView
catalogue_code =
    code_by (List Shape × (List Entry × (ℕ × (ℕ × Option StoreState))))
    (coded× (coded_list shape.the_row.coded) (coded× (coded_list entry_code) (coded× coded_ℕ (coded× coded_ℕ (coded_option state_code)))))
    (λ c. (c.shapes, (c.programs, (c.places, (c.long, c.opening))))) (λ p. record { shapes = p.0; programs = p.1.0; places = p.1.1.0; long = p.1.1.1.0; opening = p.1.1.1.1 }) (λ _. refl)
