use Rattle.std.proofs.Common.{rules, sym, ap, ◌∙◌, ◌+◌, ◌<◌, length, refl, slice_get, Some}
use Rattle.std.proofs.lemmas.Option.{slice_get_read}
use Rattle.store.specs.Opening.{ClosedView}
use Rattle.store.proofs.Left.{past, some_there}
use Rattle.store.proofs.closed.Closed.replica.Goals as goal

pub returns-then-place-len : goal.returns-then-place-len
returns-then-place-len c =
    record { replica = sym (ap (λ (z : ClosedView). slice_get z.replicas c.args.node) (sym c.self.view_is) ∙ past c.self.inside.values.items c.args.node c.self.invariant.0 (search rules)) }

pub replica_in-requires : goal.replica_in-requires
replica_in-requires c =
    let within : 1 + c.args.node < length c.self.inside.values.items = search rules in
    let at = slice_get_read c.self.inside.values.items (length c.self.inside.values.items) (1 + c.args.node) c.index.result.now refl within (search rules) in
    let t = some_there c.self.inside.values.items c.args.node c.index.result.now c.self.invariant.0 at in
    record { replica = (t.0, t.1) }

pub returns : goal.returns
returns c =
    let within : 1 + c.args.node < length c.self.inside.values.items = search rules in
    let at = slice_get_read c.self.inside.values.items (length c.self.inside.values.items) (1 + c.args.node) c.index.result.now refl within (search rules) in
    let t = some_there c.self.inside.values.items c.args.node c.index.result.now c.self.invariant.0 at in
    record { replica = ap Some (c.replica_in.ensures.replica t.0 t.1) ∙ sym (ap (λ (z : ClosedView). slice_get z.replicas c.args.node) (sym c.self.view_is) ∙ t.2) }
