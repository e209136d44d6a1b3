use Rattle.std.proofs.Common.{rules, ◌∷◌, ◌++◌, [], List, sym, subst, arith, IsTrue}
use Rattle.loader.specs.Installed.{InstalledView}
use Rattle.store_steps.specs.declared.pipelines.Member.{Member}
use Rattle.store_steps.specs.Views.{session_view}
use Rattle.store.specs.Opening.{AreOf}
use Rattle.store.specs.PolledPipelines.{AreListed, AreWaiting, Follows, MayFollow}
use Rattle.store.specs.Sessions.{IsOf}
use Rattle.store.proofs.Following.{follows_may, follows_too, may_follow, one_more}
use Rattle.store.proofs.Ascending.{HasSlot, has_slot, member_slot, seat_seen}
use Rattle.store.proofs.PolledEach.{all_idle, listed_new, posted_is}
use Rattle.store.proofs.polled_pipeline.PolledPipeline.add.Goals as goal

pub returns-then-not-follows-clause-refused : goal.returns-then-not-follows-clause-refused
returns-then-not-follows-clause-refused c may =
    let p = c.self.inside in
    let l = c.self.invariant.0 in
    let none = posted_is p.members.items p.rooms.items p.list.posted p.list.room.combining.batch p.list.room.combining.replies p.list.stage l 0 (omega arith) (subst (AreWaiting 0) (sym c.self.view_is) c.requires.idle) in
    let joined = all_idle p.members.items p.rooms.items p.list.posted p.list.room.combining.batch p.list.room.combining.replies p.list.stage l none in
    let own = subst (AreOf c.args.store.now) (sym c.self.view_is) c.requires.own.0 in
    let slot = has_slot c.args.store.now c.args.session c.caller.result c.requires.own.1 c.caller.ensures.own c.caller.ensures.within in
    let f = may_follow c.args.store.now p.members.items p.rooms.items joined own c.args.session c.caller.result slot (subst (λ z. MayFollow c.args.store.now.config z c.args.session) (sym c.self.view_is) may) in
    let yes : IsTrue c.follows.result = c.follows.ensures.follows.1 (subst (λ z. Follows z c.caller.result) (sym c.deref.ensures.value) f) in
    let no = c.if-not-follows.true in
    absurd cc

pub invariant_of-self-2 : goal.invariant_of-self-2
invariant_of-self-2 c =
    let p = c.self.inside in
    let l = c.self.invariant.0 in
    let none = posted_is p.members.items p.rooms.items p.list.posted p.list.room.combining.batch p.list.room.combining.replies p.list.stage l 0 (omega arith) (subst (AreWaiting 0) (sym c.self.view_is) c.requires.idle) in
    let joined = all_idle p.members.items p.rooms.items p.list.posted p.list.room.combining.batch p.list.room.combining.replies p.list.stage l none in
    let own = subst (AreOf c.args.store.now) (sym c.self.view_is) c.requires.own.0 in
    let m : Member = record { seat = c.into_room-seat.result.0; caller = c.into_room-seat.result.1 } in
    let seen = seat_seen m.seat c.args.session c.into_room-seat.ensures.shelf c.into_room-seat.ensures.known in
    let of : IsOf c.args.store.now (session_view m.seat) = subst (IsOf c.args.store.now) (sym seen) c.requires.own.1 in
    let slot = has_slot c.args.store.now c.args.session c.caller.result c.requires.own.1 c.caller.ensures.own c.caller.ensures.within in
    let its = subst (λ z. HasSlot c.args.store.now.config z m.caller) seen (member_slot c.args.store.now m c.into_room-seat.ensures.idle of) in
    let yes : IsTrue c.follows.result = search rules in
    let f = subst (λ z. Follows z c.caller.result) c.deref.ensures.value (c.follows.ensures.follows.0 yes) in
    let more = one_more c.args.store.now p.members.items p.rooms.items joined own m c.into_room-seat.result.2 c.into_room-seat.ensures.idle c.into_room-seat.ensures.room of (follows_too c.args.store.now c.args.session c.caller.result m.caller p.members.items slot its f) in
    let listed = subst (λ n. AreListed (p.members.items ++ m ∷ []) (p.rooms.items ++ c.into_room-seat.result.2 ∷ []) n p.list.room.combining.batch p.list.room.combining.replies p.list.stage) (sym none)
    (listed_new (p.members.items ++ m ∷ []) (p.rooms.items ++ c.into_room-seat.result.2 ∷ []) p.list.room.combining.batch p.list.room.combining.replies p.list.stage more) in
    let space = c.self.invariant.1 in
    let room = c.self.invariant.2 in
    let wide = c.push_reserved.ensures.capacity in
    let roomy = c.push_reserved-2.ensures.capacity in (
      subst (λ (z : List Member × List InstalledView). AreListed z.0 z.1 p.list.posted p.list.room.combining.batch p.list.room.combining.replies p.list.stage) (λ i. ((sym c.push_reserved.ensures.items) i, (sym c.push_reserved-2.ensures.items) i)) listed,
      omega (arith, space, wide),
      omega (arith, room, roomy),
    )

pub returns-clause-may : goal.returns-clause-may
returns-clause-may c =
    let p = c.self.inside in
    let idle = subst (AreWaiting 0) (sym c.self.view_is) c.requires.idle in
    let listed = c.self.invariant.0 in
    let joined = all_idle _ _ _ _ _ _ listed (posted_is _ _ _ _ _ _ listed 0 (omega arith) idle) in
    let own = subst (AreOf c.args.store.now) (sym c.self.view_is) c.requires.own.0 in
    let yes : IsTrue c.follows.result = search rules in
    let f = subst (λ z. Follows z c.caller.result) c.deref.ensures.value (c.follows.ensures.follows.0 yes) in
    let slot = has_slot c.args.store.now c.args.session c.caller.result c.requires.own.1 c.caller.ensures.own c.caller.ensures.within in
    subst (λ z. MayFollow c.args.store.now.config z c.args.session) c.self.view_is
    (follows_may c.args.store.now p.members.items p.rooms.items joined own c.args.session c.caller.result slot f)
