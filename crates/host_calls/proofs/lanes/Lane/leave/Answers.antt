use Rattle.std.proofs.Common.{◌∷◌, ◌++◌, [], List, sym, ap, ◌∙◌, subst, arith}
use Rattle.store_steps.specs.Views.{SessionView}
use Rattle.store.specs.PolledPipelines.{AreWaiting}
use Rattle.store.specs.Sessions.{IsOf}
use Rattle.host_calls.specs.declared.lanes.Home.{Home}
use Rattle.host_calls.specs.Homes.{AreAtHome, attached_at, attached_of}
use Rattle.host_calls.specs.Views.{IsPlaced}
use Rattle.host_calls.proofs.Homes.{home_less, one_behind, seen}
use Rattle.host_calls.proofs.lanes.Lane.leave.Goals as goal

pub take_last-requires : goal.take_last-requires
take_last-requires c = let l = c.self.inside in record { idle = subst (AreWaiting 0) (seen l.homes.items l.sessions c.args.self.now c.self.invariant.0.count c.self.view_is) c.requires.idle }

pub new-requires-2 : goal.new-requires-2
new-requires-2 c =
    let out = home_less c.pop.new.self.items c.take_last.new.self c.in-Some.field-0 c.in_ok-session.session
    (subst (λ (z : List Home × List SessionView). AreAtHome z.0 z.1) (λ i. (c.in-Some.ensures.items i, c.in_ok-session.ensures.last i)) c.self.invariant.0) in
    record { own = subst (IsOf _) (sym c.new.ensures.same) out.of; placed = subst (IsPlaced _ _) (sym c.new.ensures.same) out.placed }

pub invariant_of-self-2 : goal.invariant_of-self-2
invariant_of-self-2 c =
    let out = home_less c.pop.new.self.items c.take_last.new.self c.in-Some.field-0 c.in_ok-session.session
    (subst (λ (z : List Home × List SessionView). AreAtHome z.0 z.1) (λ i. (c.in-Some.ensures.items i, c.in_ok-session.ensures.last i)) c.self.invariant.0) in
    let room = c.self.invariant.1 in
    let roomy = c.pop.ensures.capacity in
    (out.home, omega (arith, room, roomy))

pub returns : goal.returns
returns c =
    let homes = c.pop.new.self.items in
    let ss = c.take_last.new.self in
    let h = c.in-Some.field-0 in
    let s = c.in_ok-session.session in
    let out = home_less homes ss h s (subst (λ (z : List Home × List SessionView). AreAtHome z.0 z.1) (λ i. (c.in-Some.ensures.items i, c.in_ok-session.ensures.last i)) c.self.invariant.0) in
    record {
      left = sym c.self.view_is ∙ ((λ i. attached_of (c.in-Some.ensures.items i) (c.in_ok-session.ensures.last i)) ∙ (one_behind homes ss h s out.home.count
          ∙ ap (λ z. attached_of homes ss ++ z ∷ []) (ap (attached_at h) (sym c.new.ensures.same) ∙ sym c.new-2.ensures)));
    }
