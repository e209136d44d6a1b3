use Rattle.std.proofs.Common.{rules, ◌≡◌, ◌∷◌, ◌++◌, [], List, length, sym, ap, ◌∙◌, subst, arith}
use Rattle.std.specs.Arc.{arc_value}
use Rattle.store_steps.specs.Views.{SessionView}
use Rattle.store.specs.Opening.{AreOf}
use Rattle.store.specs.PolledPipelines.{AreWaiting, MayFollow}
use Rattle.store.specs.Sessions.{IsOf, StoreView}
use Rattle.host_calls.specs.declared.lanes.Home.{Home}
use Rattle.host_calls.specs.Homes.{AreAtHome, attached_of}
use Rattle.host_calls.specs.Lanes.{AreOneLane}
use Rattle.host_calls.specs.Views.{IsPlaced}
use Rattle.host_calls.proofs.Homes.{home_more, one_behind, own_of, seen}
use Rattle.host_calls.proofs.lanes.Lane.join.Goals as goal

pub returns-then-len-ge-MOST_ASKED-clause-refused : goal.returns-then-len-ge-MOST_ASKED-clause-refused
returns-then-len-ge-MOST_ASKED-clause-refused c may =
    let l = c.self.inside in
    let full = c.if-len-ge-MOST_ASKED.true in
    let long : c.len.result ≡ length l.homes.items = search rules in
    let room = may.1.room in
    let same = ap length (seen l.homes.items l.sessions c.args.self.now c.self.invariant.0.count c.self.view_is) in
    let count = c.self.invariant.0.count in
    omega (arith, full, long, room, same, count)

pub add-requires-clause-own : goal.add-requires-clause-own
add-requires-clause-own c =
    let l = c.self.inside in
    let is : c.args.attached.store ≡ c.deref.result.now = search rules in (
      subst (λ (z : StoreView). AreOf z l.sessions) is (own_of l.homes.items l.sessions c.args.attached.store c.self.invariant.0 (subst (AreOneLane c.args.attached.store) (sym c.self.view_is) c.requires.own)),
      subst (λ (z : StoreView). IsOf z c.into_parts-store.result.2) is c.into_parts-store.ensures.own,
    )

pub add-requires-clause-idle : goal.add-requires-clause-idle
add-requires-clause-idle c = let l = c.self.inside in subst (AreWaiting 0) (seen l.homes.items l.sessions c.args.self.now c.self.invariant.0.count c.self.view_is) c.requires.idle.0

pub invariant_of-self-in_default : goal.invariant_of-self-in_default
invariant_of-self-in_default c =
    let l = c.self.inside in
    let h : Home = record { store = c.into_parts-store.result.0; place = c.into_parts-store.result.1 } in
    let s = c.into_parts-store.result.2 in
    let free = c.if-len-ge-MOST_ASKED.false in
    let long : c.len.result ≡ length l.homes.items = search rules in
    let store : c.args.attached.store ≡ arc_value h.store = sym c.into_parts-store.ensures.parts.0 in
    let one = subst (λ (z : StoreView). AreOneLane z (attached_of l.homes.items l.sessions)) store (subst (AreOneLane c.args.attached.store) (sym c.self.view_is) c.requires.own) in
    let more = home_more l.homes.items l.sessions h s c.self.invariant.0 (omega (arith, free, long)) one (subst (λ (z : StoreView). IsOf z s) store c.into_parts-store.ensures.own) (subst (λ (z : StoreView). IsPlaced z h.place s) store c.into_parts-store.ensures.placed) in
    let room = c.self.invariant.1 in
    let roomy = c.push_reserved.ensures.capacity in
    (subst (λ (z : List Home × List SessionView). AreAtHome z.0 z.1) (λ i. ((sym c.push_reserved.ensures.items) i, (sym c.in_default.ensures.added) i)) more, omega (arith, room, roomy))

pub returns-in_default-clause-joined : goal.returns-in_default-clause-joined
returns-in_default-clause-joined c =
    let l = c.self.inside in
    let h : Home = record { store = c.into_parts-store.result.0; place = c.into_parts-store.result.1 } in
    let s = c.into_parts-store.result.2 in
    let p = c.into_parts-store.ensures.parts in
    (λ i. attached_of (c.push_reserved.ensures.items i) (c.in_default.ensures.added i)) ∙ (one_behind l.homes.items l.sessions h s c.self.invariant.0.count
    ∙ (λ i. c.self.view_is i ++ record { store = p.0 i; place = p.1 i; session = p.2 i } ∷ []))

pub returns-clause-refused : goal.returns-clause-refused
returns-clause-refused c may =
    let l = c.self.inside in
    let p = c.into_parts-store.ensures.parts in
    let is : c.args.attached.store ≡ c.deref.result.now = search rules in
    let same = seen l.homes.items l.sessions c.args.self.now c.self.invariant.0.count c.self.view_is in
    c.in-Err.ensures.refused (subst (λ (z : StoreView × (List SessionView × SessionView)). MayFollow z.0.config z.1.0 z.1.1) (λ i. (is i, (same i, (sym p.2) i))) may.1)

pub returns-in_default-clause-may : goal.returns-in_default-clause-may
returns-in_default-clause-may c =
    let l = c.self.inside in
    let p = c.into_parts-store.ensures.parts in
    let is : c.args.attached.store ≡ c.deref.result.now = search rules in
    let same = seen l.homes.items l.sessions c.args.self.now c.self.invariant.0.count c.self.view_is in
    (c.requires.own, subst (λ (z : StoreView × (List SessionView × SessionView)). MayFollow z.0.config z.1.0 z.1.1) (λ i. ((sym is) i, ((sym same) i, p.2 i))) c.in_default.ensures.may)
