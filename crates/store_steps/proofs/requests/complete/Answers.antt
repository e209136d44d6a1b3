use Rattle.std.proofs.Common.{refl, subst, ◌∙◌}
use Rattle.ownlock.proofs.Export.{one_known}
use Rattle.store_steps.specs.AtDesk.{HasAsked}
use Rattle.store_steps.specs.Requests.{HasTurned}
use Rattle.store_steps.specs.Standing.{IsFree}
use Rattle.store_steps.specs.Updating.{Begins, Combines, TurnsBy, Waits}
use Rattle.store_steps.proofs.Resumed.{asked_by, free_back, free_then, has_claimed, has_completed, resumed_combined, resumed_first, resumed_waited, shelf_then}
use Rattle.store_steps.proofs.requests.complete.Goals as goal

pub loop-init : goal.loop-init
loop-init g c = (refl, λ k is. (k, is, resumed_first k, Begins k))

pub turn-requires-clause-asked : goal.turn-requires-clause-asked
turn-requires-clause-asked g c =
    let i = c.requires.asked in
    let m = c.loop.invariant.1 i.0 i.2 in
    (m.0, i.1, m.1, free_then c.args.here.caller i.0 m.0 i.3 m.2, asked_by i.0 m.0 i.1 m.2.note i.4, shelf_then _ _ _ _ i.0 m.0 m.2.extends i.5)

pub returns-in-Collects-clause-completed : goal.returns-in-Collects-clause-completed
returns-in-Collects-clause-completed g c k o is asked =
    let m = c.loop.invariant.1 k is in
    let t = c.turn.ensures.turned m.0 o m.1 (asked_by k m.0 o m.2.note asked) in
    let b = c.turn.new.batch in (
      t.0,
      t.1,
      has_completed k m.0 t.0 o b c.in-Collects.reply m.2 (subst (λ z. HasTurned m.0 t.0 o b z) c.in-Collects.is t.2),
      record { waited = m.0; rounds = m.3; batch = b; collects = subst (λ z. TurnsBy m.0 t.0 b z) c.in-Collects.is t.3 },
    )

pub combine-requires-clause-claimed : goal.combine-requires-clause-claimed
combine-requires-clause-claimed g c =
    let i = c.requires.asked in
    let m = c.loop.invariant.1 i.0 i.2 in
    let t = c.turn.ensures.turned m.0 i.1 m.1 (asked_by i.0 m.0 i.1 m.2.note i.4) in
    let h = subst (λ z. HasTurned m.0 t.0 i.1 c.turn.new.batch z) c.in-Combines.is t.2 in
    let free = free_then c.args.here.caller i.0 m.0 i.3 m.2 in
    (t.0, t.1, (free_back c.args.here.caller m.0 t.0 free h.back, has_claimed m.0 t.0 i.1 c.turn.new.batch h, shelf_then _ _ _ _ m.0 t.0 h.back.extends (shelf_then _ _ _ _ i.0 m.0 m.2.extends i.5)))

pub loop-preserved-in-Combines : goal.loop-preserved-in-Combines
loop-preserved-in-Combines g c = (
  c.combine.ensures.same ∙ (c.turn.ensures.same ∙ c.loop.invariant.0),
  λ k is.
      let i = c.requires.asked in
      let e = one_known c.args.seat.now i.0 k i.2 is in
      let asked = subst (λ z. HasAsked z i.1) e i.4 in
      let m = c.loop.invariant.1 k is in
      let t = c.turn.ensures.turned m.0 i.1 m.1 (asked_by k m.0 i.1 m.2.note asked) in
      let n = c.combine.ensures.combined t.0 t.1 in (
        n.0,
        n.1,
        resumed_combined c.args.here.caller k m.0 t.0 n.0 i.1 c.turn.new.batch (subst (λ z. IsFree c.args.here.caller z) e i.3) asked m.2 (subst (λ z. HasTurned m.0 t.0 i.1 c.turn.new.batch z) c.in-Combines.is t.2) n.2,
        Combines k m.0 t.0 n.0 c.turn.new.batch c.combine.new.batch m.3 (subst (λ z. TurnsBy m.0 t.0 c.turn.new.batch z) c.in-Combines.is t.3) n.3,
      ),
)

pub loop-preserved : goal.loop-preserved
loop-preserved g c = (
  c.turn.ensures.same ∙ c.loop.invariant.0,
  λ k is.
      let i = c.requires.asked in
      let e = one_known c.args.seat.now i.0 k i.2 is in
      let asked = subst (λ z. HasAsked z i.1) e i.4 in
      let m = c.loop.invariant.1 k is in
      let t = c.turn.ensures.turned m.0 i.1 m.1 (asked_by k m.0 i.1 m.2.note asked) in (
        t.0,
        t.1,
        resumed_waited c.args.here.caller k m.0 t.0 i.1 c.turn.new.batch (subst (λ z. IsFree c.args.here.caller z) e i.3) m.2 (subst (λ z. HasTurned m.0 t.0 i.1 c.turn.new.batch z) c.in-Waits.is t.2),
        Waits k m.0 t.0 c.turn.new.batch m.3 (subst (λ z. TurnsBy m.0 t.0 c.turn.new.batch z) c.in-Waits.is t.3),
      ),
)
