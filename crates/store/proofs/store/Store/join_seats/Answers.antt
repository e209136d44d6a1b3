use Rattle.std.proofs.Common.{rules, sym, ap, ◌∙◌, ◌≡◌, ◌++◌, ◌∷◌, []}
use Rattle.store.proofs.Joined.{all_joined, first_of, gathers_first, gathers_more, next_of, one_holds_none}
use Rattle.store.proofs.store.Store.join_seats.Goals as goal

pub loop-next-init : goal.loop-next-init
loop-next-init c =
    let is : c.args.sessions.items ≡ c.pop.new.self.items ++ c.in-Some.last ∷ [] = search rules in
    record { gathered = gathers_first c.args.self.now.id _ _ c.in-Some.last _ c.into_parts-all.result.1 is (c.into_parts-all.ensures.shelf ∙ first_of c.args.self.now _ _ c.in-Some.last c.requires.own is) c.into_parts-all.ensures.known c.into_parts-all.ensures.idle }

pub join-requires-clause-own : goal.join-requires-clause-own
join-requires-clause-own c =
    let is : c.loop-next.sessions.items ≡ c.pop-in-loop-next.new.self.items ++ c.in-Some-pop.next ∷ [] = search rules in
    let id = sym (ap (λ z. z.id) c.self.view_is) in
    (c.loop-next.invariant.gathered.shelf ∙ id, c.into_parts-seat.ensures.shelf ∙ (next_of c.args.self.now c.args.self.now.id _ _ _ c.in-Some-pop.next _ c.requires.own c.loop-next.invariant.gathered is ∙ id))

pub join-requires-clause-idle : goal.join-requires-clause-idle
join-requires-clause-idle c = one_holds_none _ c.in-Some-pop.next c.into_parts-seat.ensures.known

pub loop-next-preserved : goal.loop-next-preserved
loop-next-preserved c =
    let is : c.loop-next.sessions.items ≡ c.pop-in-loop-next.new.self.items ++ c.in-Some-pop.next ∷ [] = search rules in
    record { gathered = gathers_more c.args.self.now.id _ _ _ c.in-Some-pop.next _ c.into_parts-seat.result.0 _ c.into_parts-seat.result.1 c.loop-next.invariant.gathered is c.into_parts-seat.ensures.known c.into_parts-seat.ensures.idle c.join.ensures.same c.join.ensures.joined }

pub returns-clause-shelf : goal.returns-clause-shelf
returns-clause-shelf c = c.loop-next.invariant.gathered.shelf

pub returns-clause-joined : goal.returns-clause-joined
returns-clause-joined c = (all_joined c.args.self.now.id c.args.sessions.items c.loop-next.sessions.items c.loop-next.all (search rules) c.loop-next.invariant.gathered).1

pub returns-clause-idle : goal.returns-clause-idle
returns-clause-idle c = (all_joined c.args.self.now.id c.args.sessions.items c.loop-next.sessions.items c.loop-next.all (search rules) c.loop-next.invariant.gathered).2
