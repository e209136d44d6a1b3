use Rattle.std.proofs.Common.{sym, subst, ◌≡◌, arith}
use Rattle.store.specs.PolledPipelines.{AreWaiting}
use Rattle.host_calls.proofs.Homes.{seen}
use Rattle.host_calls.proofs.Listed.{is_out}
use Rattle.host_calls.proofs.lanes.Lane.is_waiting.Goals as goal

pub returns-then-out-gt0-clause-out : goal.returns-then-out-gt0-clause-out
returns-then-out-gt0-clause-out c e idle =
    let l = c.self.inside in
    is_out c.waiting-out.result l.sessions c.if-out-gt0.true c.waiting-out.ensures.few c.waiting-out.ensures.waiting (subst (AreWaiting 0) (seen l.homes.items l.sessions c.args.self.now c.self.invariant.0.count c.self.view_is) idle)

pub returns-clause-idle : goal.returns-clause-idle
returns-clause-idle c e =
    let l = c.self.inside in
    let few = c.if-out-gt0.false in
    let none : c.waiting-out.result ≡ 0 = omega (arith, few) in
    subst (AreWaiting 0) (sym (seen l.homes.items l.sessions c.args.self.now c.self.invariant.0.count c.self.view_is)) (subst (λ n. AreWaiting n l.sessions) none c.waiting-out.ensures.waiting)
