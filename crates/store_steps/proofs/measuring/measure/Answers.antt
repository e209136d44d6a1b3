use Rattle.std.proofs.Common.{refl, subst, ◌∙◌}
use Rattle.ownlock.proofs.Export.{one_known}
use Rattle.store_steps.specs.Standing.{IsFree}
use Rattle.store_steps.proofs.Measured.{measured_since}
use Rattle.store_steps.proofs.Taken.{free_on, shelf_on}
use Rattle.store_steps.proofs.Tried.{still_self, still_then}
use Rattle.store_steps.proofs.Waiting.{still_holds_none}
use Rattle.store_steps.proofs.measuring.measure.Goals as goal

pub loop-init : goal.loop-init
loop-init g c = (
  refl,
  λ k is.
      let i = c.requires.idle in
      (k, is, still_self k (subst (λ z. IsFree c.args.here.caller z) (one_known c.args.seat.now i.0 k i.1 is) i.2.0).held),
)

pub try_measure-requires-clause-idle : goal.try_measure-requires-clause-idle
try_measure-requires-clause-idle g c =
    let i = c.requires.idle in
    let m = c.loop.invariant.1 i.0 i.1 in
    (m.0, m.1, (free_on c.args.here.caller i.0 m.0 m.2.session m.2.held m.2.extends i.2.0, shelf_on _ _ _ _ i.0 m.0 m.2.extends i.2.1))

pub returns-in-Ok-clause-told : goal.returns-in-Ok-clause-told
returns-in-Ok-clause-told g c k is =
    let m = c.loop.invariant.1 k is in
    let t = c.in-Ok.ensures.told m.0 m.1 in
    (t.0, t.1, measured_since k m.0 t.0 c.in-Ok.stats m.2 t.2)

pub wait-requires-clause-own : goal.wait-requires-clause-own
wait-requires-clause-own g c = c.try_measure.ensures.same ∙ (c.loop.invariant.0 ∙ c.requires.own)

pub wait-requires-clause-idle : goal.wait-requires-clause-idle
wait-requires-clause-idle g c = let i = c.requires.idle in still_holds_none c.args.seat.now c.loop.seat c.try_measure.new.seat i.0 i.1 c.loop.invariant.1 c.in-Err.ensures.stays

pub loop-preserved : goal.loop-preserved
loop-preserved g c = (
  c.try_measure.ensures.same ∙ c.loop.invariant.0,
  λ k is.
      let m = c.loop.invariant.1 k is in
      let t = c.in-Err.ensures.stays m.0 m.1 in
      (t.0, t.1, still_then k m.0 t.0 m.2 t.2),
)
