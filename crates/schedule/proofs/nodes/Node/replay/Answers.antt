use Rattle.std.proofs.Common.{◌≡◌, rules, sym, subst}
use Rattle.node.specs.Following.{IsNext, with_next}
use Rattle.schedule.specs.Worlds.{own_of}
use Rattle.schedule.proofs.Owned.{is_next}
use Rattle.schedule.proofs.nodes.Node.replay.Goals as goal

pub replay-requires : goal.replay-requires
replay-requires c =
    let is : c.copy_next.new.own ≡ with_next c.args.log.now (own_of c.args.self.now) = search rules in
    record { next = subst (IsNext c.args.catalogue.now) (sym is) (is_next c.args.catalogue.now c.requires.own.1 c.requires.own.2 (search rules)) }

pub replay-requires-in_default : goal.replay-requires-in_default
replay-requires-in_default c =
    let is : c.copy_next.new.own ≡ with_next c.args.log.now (own_of c.args.self.now) = search rules in
    record { next = subst (IsNext c.args.catalogue.now) (sym is) (is_next c.args.catalogue.now c.requires.own.1 c.requires.own.2 (search rules)) }
