use Rattle.std.proofs.Common.{refl, subst, sym, ◌∙◌}
use Rattle.ownlock.proofs.Export.{one_known}
use Rattle.store_steps.specs.Seen.{holds}
use Rattle.store_steps.specs.Sights.{SessionLooks, heard_by}
use Rattle.accounts.specs.Moves.{IsAtRest}
use Rattle.store_steps.specs.Standing.{IsFree}
use Rattle.store_steps.proofs.Looked.{sight_since, sights_since}
use Rattle.store_steps.proofs.Taken.{free_on, shelf_on}
use Rattle.store_steps.proofs.Tried.{still_self, still_then}
use Rattle.store_steps.proofs.Waiting.{still_holds_none}
use Rattle.store_steps.proofs.looks.look_waiting.Goals as goal

pub loop-init : goal.loop-init
loop-init g c = (
  refl,
  λ k is.
      let i = c.requires.idle in
      let free = subst (λ z. IsFree c.args.here.caller z) (one_known c.args.seat.now i.0 k i.1 is) i.2.0 in
      (k, is, still_self k free.held),
  refl,
)

pub try_look-requires-clause-idle : goal.try_look-requires-clause-idle
try_look-requires-clause-idle g c =
    let i = c.requires.idle in
    let m = c.loop.invariant.1 i.0 i.1 in
    (m.0, m.1, (free_on c.args.here.caller i.0 m.0 m.2.session m.2.held m.2.extends i.2.0, shelf_on _ _ _ _ i.0 m.0 m.2.extends i.2.1, subst IsAtRest (sym m.2.note) i.2.2))

pub returns-in-Ok-clause-told : goal.returns-in-Ok-clause-told
returns-in-Ok-clause-told g c k is =
    let m = c.loop.invariant.1 k is in
    let told = c.in-Ok.told in
    let t = (subst (λ z. SessionLooks c.loop.seat c.try_look.new.seat (heard_by g.L.Look.asks z (g.L.Look.replies told)) (holds (g.L.Look.sees z c.try_look.new.look told)) (g.L.Look.point told))
    c.loop.invariant.2 c.in-Ok.ensures.told) m.0 m.1 in
    let heard = heard_by g.L.Look.asks c.args.look.now (g.L.Look.replies told) in
    let sees = holds (g.L.Look.sees c.args.look.now c.try_look.new.look told) in (
      t.0,
      t.1,
      sight_since heard k m.0 t.0 m.2 sees (g.L.Look.point told) t.2,
      sights_since heard k m.0 t.0 m.2 sees (g.L.Look.point told) t.2.1.0 t.3,
    )

pub loop-preserved : goal.loop-preserved
loop-preserved g c = (
  c.try_look.ensures.same ∙ c.loop.invariant.0,
  λ k is.
      let m = c.loop.invariant.1 k is in
      let t = c.in-Err.ensures.stays m.0 m.1 in
      (t.0, t.1, still_then k m.0 t.0 m.2 t.2),
  c.in-Err.ensures.kept ∙ c.loop.invariant.2,
)

pub wait-requires-clause-own : goal.wait-requires-clause-own
wait-requires-clause-own g c = c.try_look.ensures.same ∙ (c.loop.invariant.0 ∙ c.requires.own)

pub wait-requires-clause-idle : goal.wait-requires-clause-idle
wait-requires-clause-idle g c = let i = c.requires.idle in still_holds_none c.args.seat.now c.loop.seat c.try_look.new.seat i.0 i.1 c.loop.invariant.1 c.in-Err.ensures.stays
