use Rattle.std.proofs.Common.{◌≡◌, ℕ, ◌<◌, arith, ◌∙◌, sym, subst, ⊎_elim, slice_index_or}
use Rattle.atomic_table.proofs.Lists.{set_else, set_here}
use Rattle.ownlock.specs.Held.{held_place}
use Rattle.combiner.specs.Desks.{BatchView}
use Rattle.accounts.proofs.Export.{at_one}
use Rattle.store_steps.specs.EachMember.{HasRecordOf}
use Rattle.store_steps.specs.Pipelines.{HasDesk, here_of, spot_of}
use Rattle.store_steps.specs.Requests.{HasTurned}
use Rattle.store_steps.specs.Updating.{TurnsBy}
use Rattle.store_steps.specs.declared.desks.Turn.{Turn}
use Rattle.store_steps.specs.declared.desks.Turn.TheVariants.{Collects, Combines, Waits}
use Rattle.store_steps.specs.declared.pipelines.Member.{Member}
use Rattle.store_steps.proofs.AtOnce.{asks}
use Rattle.store_steps.proofs.Handing.{session_turns, taken, was_turn}
use Rattle.store_steps.proofs.Gathered.{claimed_of, post_asks, post_keeps}
use Rattle.store_steps.proofs.Posting.{claiming, map_set, member_at}
use Rattle.store_steps.proofs.pipelines.claim_first.Goals as goal

pub post_and_settle-held-requires-clause-place : goal.post_and_settle-held-requires-clause-place
post_and_settle-held-requires-clause-place c =
    (c.requires.has (slice_index_or c.args.members.now 0 c.index-members-0.result) (member_at c.args.members.now 0 c.index-members-0.result c.requires.some c.index-members-0.is)).0

pub post_and_settle-held-requires-clause-has : goal.post_and_settle-held-requires-clause-has
post_and_settle-held-requires-clause-has c =
    (c.requires.has (slice_index_or c.args.members.now 0 c.index-members-0.result) (member_at c.args.members.now 0 c.index-members-0.result c.requires.some c.index-members-0.is)).1

pub turn_and_put-requires-clause-there : goal.turn_and_put-requires-clause-there
turn_and_put-requires-clause-there c = c.post_and_settle-held.ensures.same.1.1

pub turn_and_put-requires-clause-asked : goal.turn_and_put-requires-clause-asked
turn_and_put-requires-clause-asked c =
    let own = slice_index_or c.args.members.now 0 c.index-members-0.result in
    let i = (c.requires.has own (member_at c.args.members.now 0 c.index-members-0.result c.requires.some c.index-members-0.is)).1 in
    let p = c.post_and_settle-held.ensures.kept i.0 i.1 i.2 i.3 in
    (p.asked, p.now, p.posted.request, p.has.is, taken c.post_and_settle-held.new.seat (here_of c.args.shared own) c.post_and_settle-held.result p.asked p.now p.has c.post_and_settle-held.ensures.same.1, asks i.0 p.asked c.args.op.now i.3 p.posted)

abbrev IsNoClaim : Turn → Type 0
IsNoClaim (Collects reply) = Unit {0}
IsNoClaim Combines = ⊥
IsNoClaim Waits = Unit {0}

pub unreached-assert_unchecked-requires : goal.unreached-assert_unchecked-requires
unreached-assert_unchecked-requires c =
    let own = slice_index_or c.args.members.now 0 c.index-members-0.result in
    let h = c.requires.has own (member_at c.args.members.now 0 c.index-members-0.result c.requires.some c.index-members-0.is) in
    let i = h.1 in
    let p = c.post_and_settle-held.ensures.kept i.0 i.1 i.2 i.3 in
    let g = claiming c.args.shared own c.args.first.0 c.post_and_settle-held.new.seat c.args.first.1 c.post_and_settle-held.result i.0 i.1 p.asked p.now i.2 h.0 c.args.op.now c.post_and_settle-held.ensures.posted c.requires.free p.has c.post_and_settle-held.ensures.same.1 p.posted.back.session c.turn_and_put.new.batch c.turn_and_put.result _ (was_turn (here_of c.args.shared own) c.post_and_settle-held.result c.turn_and_put.new.batch c.turn_and_put.result c.turn_and_put.ensures.turn) in
    absurd (subst IsNoClaim g.claims (⊎_elim (λ u. subst IsNoClaim (sym u.1) tt) (λ u. subst IsNoClaim (sym u) tt) c.in-Collects.is))

not_zero : (j : ℕ) → 0 < j → j ≡ 0 → ⊥
not_zero j lt e = omega (arith, lt, e)

pub returns-clause-same : goal.returns-clause-same
returns-clause-same c =
    let own = slice_index_or c.args.members.now 0 c.index-members-0.result in
    let there = member_at c.args.members.now 0 c.index-members-0.result c.requires.some c.index-members-0.is in
    let shelf = c.turn_and_put.ensures.same ∙ (c.post_and_settle-held.ensures.same.0 ∙ (c.requires.own ∙ sym (c.requires.members.own 0 own there))) in (
      map_set spot_of c.args.members.now 0 own (record own { seat = c.turn_and_put.new.seat }) there (λ i. (own.caller, shelf i)),
      λ j member lt at. set_else c.args.members.now 0 j (record own { seat = c.turn_and_put.new.seat }) (λ e. not_zero j lt e) ∙ at,
    )

pub returns-clause-claims : goal.returns-clause-claims
returns-clause-claims c member f t at d0 alone =
    let own = slice_index_or c.args.members.now 0 c.index-members-0.result in
    let there = member_at c.args.members.now 0 c.index-members-0.result c.requires.some c.index-members-0.is in
    let h = c.requires.has own there in
    let d = subst (λ (z : Member). HasDesk c.args.first.0 (here_of c.args.shared z) c.args.first.1 f t) (at_one c.args.members.now 0 member own at there) d0 in
    let p = c.post_and_settle-held.ensures.kept f t d alone in
    let g = claiming c.args.shared own c.args.first.0 c.post_and_settle-held.new.seat c.args.first.1 c.post_and_settle-held.result f t p.asked p.now d h.0 c.args.op.now c.post_and_settle-held.ensures.posted c.requires.free p.has c.post_and_settle-held.ensures.same.1 p.posted.back.session c.turn_and_put.new.batch c.turn_and_put.result _ (was_turn (here_of c.args.shared own) c.post_and_settle-held.result c.turn_and_put.new.batch c.turn_and_put.result c.turn_and_put.ensures.turn) in
    let u = session_turns c.post_and_settle-held.new.seat c.turn_and_put.new.seat (here_of c.args.shared own) c.post_and_settle-held.result c.post_and_settle-held.ensures.same.1 c.turn_and_put.new.batch c.turn_and_put.result c.turn_and_put.ensures.turned p.asked p.now p.posted.request p.has (asks f p.asked c.args.op.now alone p.posted) in (
      record {
        asked = p.asked;
        posted = p.posted;
        posts = p.posts;
        after = u.after;
        is = (record own { seat = c.turn_and_put.new.seat }, set_here c.args.members.now 0 (record own { seat = c.turn_and_put.new.seat }) c.requires.some, u.is.0);
        turned = subst (λ z. HasTurned p.asked u.after p.posted.request c.turn_and_put.new.batch z) g.claims u.turned;
        turns = subst (λ z. TurnsBy p.asked u.after c.turn_and_put.new.batch z) g.claims u.turns;
        own = subst (λ (z : BatchView). HasRecordOf z.records f.session) (sym g.batch_is) (claimed_of g.y f (post_asks f own.caller.slot c.args.op.now g.x g.y g.becomes g.own));
        again = record { place = held_place c.post_and_settle-held.result; value = c.post_and_settle-held.result.value; now = p.now; took = p.has.took; next = p.next; put = u.is.1 };
      },
      p.put,
    )

pub returns-clause-asks : goal.returns-clause-asks
returns-clause-asks c x f is a =
    let own = slice_index_or c.args.members.now 0 c.index-members-0.result in
    let h = c.requires.has own (member_at c.args.members.now 0 c.index-members-0.result c.requires.some c.index-members-0.is) in
    let i = h.1 in
    let p = c.post_and_settle-held.ensures.kept i.0 i.1 i.2 i.3 in
    let g = claiming c.args.shared own c.args.first.0 c.post_and_settle-held.new.seat c.args.first.1 c.post_and_settle-held.result i.0 i.1 p.asked p.now i.2 h.0 c.args.op.now c.post_and_settle-held.ensures.posted c.requires.free p.has c.post_and_settle-held.ensures.same.1 p.posted.back.session c.turn_and_put.new.batch c.turn_and_put.result _ (was_turn (here_of c.args.shared own) c.post_and_settle-held.result c.turn_and_put.new.batch c.turn_and_put.result c.turn_and_put.ensures.turn) in
    subst (λ (z : BatchView). HasRecordOf z.records f.session) (sym g.batch_is) (claimed_of g.y f (post_keeps f own.caller.slot c.args.op.now x g.y (c.post_and_settle-held.ensures.posted x is ∙ g.is) a))
