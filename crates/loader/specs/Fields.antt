-- A catalogue from its fields. The type's model alone cites this.
use Rattle.std.specs.Prelude.{ℕ, List, Option, option_map}
use Rattle.maps.specs.declared.shapes.Shape.{Shape}
use Rattle.loader.specs.declared.opened_on.OpenedOn.{OpenedOn}
use Rattle.loader.specs.StoreState.{StateSizes, with_room}
use Rattle.loader.specs.CatalogueView.{Entry, CatalogueView}

-- the state that a store opens on has room for as many programs as there are places, and as long
abbrev pub catalogue_of : List Shape → List Entry → ℕ → ℕ → Option OpenedOn → CatalogueView
catalogue_of shapes programs places long opening =
    let sizes : StateSizes = record { shapes = shapes; places = places; long = long } in
    record { shapes = shapes; programs = programs; places = places; long = long; opening = option_map (λ o. with_room o.value sizes) opening }
