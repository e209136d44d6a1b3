use Rattle.std.proofs.Common.{◌≡◌, sym, subst}
use Rattle.std.specs.Prelude.{IfSome}
use Rattle.std.specs.FinMap as finite_map
use Rattle.maps.specs.Maps.{MapState}
use Rattle.maps.specs.Blocks.{stored}
use Rattle.maps.proofs.Stored.{within, is_at, map_at}
use Rattle.maps.proofs.map_set.MapSet.len.Goals as goal

pub len-requires-clause-shape : goal.len-requires-clause-shape
len-requires-clause-shape c = (is_at c.self.inside.tables.items c.args.self.now c.args.m c.index.result.now c.self.view_is c.self.invariant (within c.args.self.now c.args.m c.requires.map) c.index.ensures).ok

pub returns : goal.returns
returns c =
    let t = c.index.result.now in
    let at = is_at c.self.inside.tables.items c.args.self.now c.args.m t c.self.view_is c.self.invariant (within c.args.self.now c.args.m c.requires.map) c.index.ensures in
    record { keys = subst (λ o. IfSome o (λ (s : MapState). c.len.result ≡ finite_map.len s.entries)) (sym (map_at c.args.self.now c.args.m (stored t) at.there)) c.len.ensures.keys }
