use Rattle.std.proofs.Common.{sym, ap, ◌∙◌}
use Rattle.maps.specs.Maps.{shapes_of}
use Rattle.maps.proofs.Export.{stored_are}
use Rattle.loader.specs.StoreState.{StoreState}
use Rattle.loader.proofs.store_state.StoreState.copy_parts.Goals as goal

pub copy_from-requires : goal.copy_from-requires
copy_from-requires c =
    record { shapes = stored_are c.self.inside.maps ∙ ap (λ (s : StoreState). shapes_of s.maps) c.self.view_is ∙ sym c.requires.shapes.same ∙ sym (stored_are c.args.maps.now) }
