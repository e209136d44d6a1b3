use Rattle.std.proofs.Common.{sym, ap, ◌∙◌}
use Rattle.maps.specs.Maps.{shapes_of}
use Rattle.maps.proofs.Export.{stored_are}
use Rattle.replica.specs.Views.{ReplicaView}
use Rattle.replica.proofs.replicas.Replica.rebase.Goals as goal

pub copy_from-requires : goal.copy_from-requires
copy_from-requires c =
    record { shapes = stored_are c.self.inside.ground.maps ∙ ap (λ (v : ReplicaView). shapes_of v.state.maps) c.self.view_is ∙ sym c.requires.shapes.same ∙ sym (stored_are c.args.maps.now) }
