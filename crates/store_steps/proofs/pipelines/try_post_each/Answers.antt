use Rattle.std.proofs.Common.{◌≡◌, ℕ, suc, ◌<◌, ◌-◌, ◌≤◌, length, map, set, slice_index_or, sym, ap, ◌∙◌, subst, arith, true}
use Rattle.std.specs.Prelude.{[]}
use Rattle.atomic_table.proofs.Lists.{set_else, set_here}
use Rattle.maps.specs.declared.shapes.TheConstants.{MOST_ARG_LEN}
use Rattle.ownlock.specs.Held.{held_place}
use Rattle.ownlock.specs.Seats.{At, HoldsNone}
use Rattle.verifier.specs.declared.refusal.Mode.TheVariants.{Update}
use Rattle.replica.specs.StoreMeaning.{is_operation}
use Rattle.accounts.proofs.Export.{at_one, at_there}
use Rattle.store_steps.specs.Asking.{asked_op}
use Rattle.ownlock.proofs.Export.{one_known}
use Rattle.store_steps.specs.AtOnce.{IsAlone}
use Rattle.store_steps.specs.EachMember.{ClaimsAt}
use Rattle.store_steps.specs.Pipelines.{HasDesk, KnownAt, MayPostWith, PostsAt, here_of, spot_of}
use Rattle.store_steps.specs.Standing.{SessionKnown}
use Rattle.store_steps.specs.Visits.{PutsBack}
use Rattle.store_steps.specs.declared.steps.Question.{Question}
use Rattle.store_steps.specs.declared.pipelines.Member.{Member}
use Rattle.store_steps.proofs.AskingEach.{are_members}
use Rattle.store_steps.proofs.Handing.{holds_none}
use Rattle.store_steps.proofs.Holds.{posts_held}
use Rattle.store_steps.proofs.PostedEach.{begins_so, claims_as, looks_so, requested, was_known}
use Rattle.store_steps.proofs.Posting.{desk_here, map_set, or_at, member_at}
use Rattle.store_steps.proofs.pipelines.try_post_each.Goals as goal

pub split-at-requires-clause-own : goal.split-at-requires-clause-own
split-at-requires-clause-own c =
    let own = slice_index_or c.args.members.now (length c.args.calls.now - 1) c.index-members-last.result in
    let there = member_at c.args.members.now (length c.args.calls.now - 1) c.index-members-last.result (omega (arith, c.requires.may.some, c.requires.may.count)) c.index-members-last.is in
    c.requires.may.members.own (length c.args.calls.now - 1) own there

pub split-at-requires-clause-some : goal.split-at-requires-clause-some
split-at-requires-clause-some c =
    let own = slice_index_or c.args.members.now (length c.args.calls.now - 1) c.index-members-last.result in
    let there = member_at c.args.members.now (length c.args.calls.now - 1) c.index-members-last.result (omega (arith, c.requires.may.some, c.requires.may.count)) c.index-members-last.is in
    let m = c.requires.may.idle (length c.args.calls.now - 1) own there in
    (m.0, [], m.1)

pub split-at-requires-clause-idle : goal.split-at-requires-clause-idle
split-at-requires-clause-idle c =
    let own = slice_index_or c.args.members.now (length c.args.calls.now - 1) c.index-members-last.result in
    let there = member_at c.args.members.now (length c.args.calls.now - 1) c.index-members-last.result (omega (arith, c.requires.may.some, c.requires.may.count)) c.index-members-last.is in
    let m = c.requires.may.idle (length c.args.calls.now - 1) own there in
    subst HoldsNone (sym m.1) (holds_none m.0 m.2.held)

pub try_take_free-requires-clause-own : goal.try_take_free-requires-clause-own
try_take_free-requires-clause-own c =
    let own = slice_index_or c.args.members.now (length c.args.calls.now - 1) c.index-members-last.result in
    let there = member_at c.args.members.now (length c.args.calls.now - 1) c.index-members-last.result (omega (arith, c.requires.may.some, c.requires.may.count)) c.index-members-last.is in
    c.split-at.ensures.same.1 ∙ c.requires.may.members.own (length c.args.calls.now - 1) own there

pub try_take_free-requires-clause-idle : goal.try_take_free-requires-clause-idle
try_take_free-requires-clause-idle c =
    let own = slice_index_or c.args.members.now (length c.args.calls.now - 1) c.index-members-last.result in
    let there = member_at c.args.members.now (length c.args.calls.now - 1) c.index-members-last.result (omega (arith, c.requires.may.some, c.requires.may.count)) c.index-members-last.is in
    let m = c.requires.may.idle (length c.args.calls.now - 1) own there in
    (m.0, (c.split-at.ensures.apart m.0 [] m.1).1, m.2, m.3, m.4)

pub returns-in-Err-clause-same : goal.returns-in-Err-clause-same
returns-in-Err-clause-same c =
    let own = slice_index_or c.args.members.now (length c.args.calls.now - 1) c.index-members-last.result in
    let there = member_at c.args.members.now (length c.args.calls.now - 1) c.index-members-last.result (omega (arith, c.requires.may.some, c.requires.may.count)) c.index-members-last.is in
    map_set spot_of c.args.members.now (length c.args.calls.now - 1) own (record own { seat = c.try_take_free.new.seat }) there (λ i. (own.caller, (c.in-Err.ensures.same ∙ c.split-at.ensures.same.1) i))

pub returns-in-Err-clause-stays : goal.returns-in-Err-clause-stays
returns-in-Err-clause-stays c =
    let own = slice_index_or c.args.members.now (length c.args.calls.now - 1) c.index-members-last.result in
    let there = member_at c.args.members.now (length c.args.calls.now - 1) c.index-members-last.result (omega (arith, c.requires.may.some, c.requires.may.count)) c.index-members-last.is in
    looks_so c.args.members.now (length c.args.calls.now - 1) own there c.split-at.result (λ k is. (c.split-at.ensures.apart k [] is).1) c.try_take_free.new.seat c.in-Err.ensures.stays

pub post_later-at-requires-clause-members : goal.post_later-at-requires-clause-members
post_later-at-requires-clause-members c =
    let own = slice_index_or c.args.members.now (length c.args.calls.now - 1) c.index-members-last.result in
    let there = member_at c.args.members.now (length c.args.calls.now - 1) c.index-members-last.result (omega (arith, c.requires.may.some, c.requires.may.count)) c.index-members-last.is in
    let rest = set c.args.members.now (length c.args.calls.now - 1) (record own { seat = c.split-at.new.seat }) in
    let moved : map spot_of rest ≡ map spot_of c.args.members.now = map_set spot_of c.args.members.now (length c.args.calls.now - 1) own (record own { seat = c.split-at.new.seat }) there (λ i. (own.caller, c.split-at.ensures.same.0 i)) in
    are_members c.args.shared c.args.members.now rest moved c.requires.may.members

pub post_later-at-requires-clause-idle : goal.post_later-at-requires-clause-idle
post_later-at-requires-clause-idle c j lt member at =
    let own = slice_index_or c.args.members.now (length c.args.calls.now - 1) c.index-members-last.result in
    let there = member_at c.args.members.now (length c.args.calls.now - 1) c.index-members-last.result (omega (arith, c.requires.may.some, c.requires.may.count)) c.index-members-last.is in
    c.requires.may.idle j member (sym (set_else c.args.members.now (length c.args.calls.now - 1) j (record own { seat = c.split-at.new.seat }) (λ e. omega (arith, e, lt))) ∙ at)

pub post_later-at-requires-clause-own : goal.post_later-at-requires-clause-own
post_later-at-requires-clause-own c =
    let own = slice_index_or c.args.members.now (length c.args.calls.now - 1) c.index-members-last.result in
    let there = member_at c.args.members.now (length c.args.calls.now - 1) c.index-members-last.result (omega (arith, c.requires.may.some, c.requires.may.count)) c.index-members-last.is in
    c.in-Ok.ensures.same ∙ (c.split-at.ensures.same.1 ∙ c.requires.may.members.own (length c.args.calls.now - 1) own there)

pub post_later-at-requires-clause-has : goal.post_later-at-requires-clause-has
post_later-at-requires-clause-has c member at =
    let own = slice_index_or c.args.members.now (length c.args.calls.now - 1) c.index-members-last.result in
    let there = member_at c.args.members.now (length c.args.calls.now - 1) c.index-members-last.result (omega (arith, c.requires.may.some, c.requires.may.count)) c.index-members-last.is in
    let m = c.requires.may.idle (length c.args.calls.now - 1) own there in
    let new = record own { seat = c.split-at.new.seat } in
    let is : new ≡ member = at_one (set c.args.members.now (length c.args.calls.now - 1) new) (length c.args.calls.now - 1) new member (set_here c.args.members.now (length c.args.calls.now - 1) new (omega (arith, c.requires.may.some, c.requires.may.count))) at in
    let t = c.in-Ok.ensures.taken m.0 (c.split-at.ensures.apart m.0 [] m.1).1 in
    subst (λ (z : Member). MayPostWith (here_of c.args.shared z) c.try_take_free.new.seat c.in-Ok.held) is (c.in-Ok.ensures.desk, (m.0, t.0, t.1, m.3))

pub run-op-requires : goal.run-op-requires
run-op-requires c =
    let q = at_there c.args.calls.now 0 c.requires.may.some in
    record { fits = subst (λ (z : Question). length z.argument.now ≤ MOST_ARG_LEN) (sym (or_at c.args.calls.now 0 _ q.0 q.1)) (c.requires.may.calls 0 q.0 q.1).1 }

pub claim_first-requires-clause-members : goal.claim_first-requires-clause-members
claim_first-requires-clause-members c =
    let own = slice_index_or c.args.members.now (length c.args.calls.now - 1) c.index-members-last.result in
    let there = member_at c.args.members.now (length c.args.calls.now - 1) c.index-members-last.result (omega (arith, c.requires.may.some, c.requires.may.count)) c.index-members-last.is in
    let rest = set c.args.members.now (length c.args.calls.now - 1) (record own { seat = c.split-at.new.seat }) in
    let moved : map spot_of rest ≡ map spot_of c.args.members.now = map_set spot_of c.args.members.now (length c.args.calls.now - 1) own (record own { seat = c.split-at.new.seat }) there (λ i. (own.caller, c.split-at.ensures.same.0 i)) in
    are_members c.args.shared c.args.members.now c.post_later-at.new.members (c.post_later-at.ensures.same.0 ∙ moved) c.requires.may.members

pub claim_first-requires-clause-has : goal.claim_first-requires-clause-has
claim_first-requires-clause-has c member at =
    let own = slice_index_or c.args.members.now (length c.args.calls.now - 1) c.index-members-last.result in
    let there = member_at c.args.members.now (length c.args.calls.now - 1) c.index-members-last.result (omega (arith, c.requires.may.some, c.requires.may.count)) c.index-members-last.is in
    let p0 = at_there c.args.members.now 0 (omega (arith, c.requires.may.some, c.requires.may.count)) in
    let m0 = c.requires.may.idle 0 p0.0 p0.1 in
    let w = c.post_later-at.ensures.holds.0 m0.0 (begins_so c.args.members.now (length c.args.calls.now - 1) own there c.split-at.result (λ k is. (c.split-at.ensures.apart k [] is).1) c.args.shared c.split-at.new.seat c.try_take_free.new.seat c.in-Ok.held c.in-Ok.ensures.taken 0 m0.0 (p0.0, p0.1, m0.1)) in
    (c.post_later-at.ensures.holds.1 member at, (m0.0, w.1, subst (λ (z : Member). HasDesk c.post_later-at.result.0 (here_of c.args.shared z) c.post_later-at.result.1 m0.0 w.1) (at_one c.post_later-at.new.members 0 w.0 member w.2 at) w.3, m0.3))

pub claim_first-requires-clause-update : goal.claim_first-requires-clause-update
claim_first-requires-clause-update c =
    let q = at_there c.args.calls.now 0 c.requires.may.some in
    subst (λ z. is_operation Update c.args.shared.catalogue.now z ≡ true) (sym (c.run-op.ensures.call ∙ ap asked_op (or_at c.args.calls.now 0 _ q.0 q.1))) (c.requires.may.calls 0 q.0 q.1).0

pub returns-clause-same : goal.returns-clause-same
returns-clause-same c =
    let own = slice_index_or c.args.members.now (length c.args.calls.now - 1) c.index-members-last.result in
    let there = member_at c.args.members.now (length c.args.calls.now - 1) c.index-members-last.result (omega (arith, c.requires.may.some, c.requires.may.count)) c.index-members-last.is in
    let rest = set c.args.members.now (length c.args.calls.now - 1) (record own { seat = c.split-at.new.seat }) in
    let moved : map spot_of rest ≡ map spot_of c.args.members.now = map_set spot_of c.args.members.now (length c.args.calls.now - 1) own (record own { seat = c.split-at.new.seat }) there (λ i. (own.caller, c.split-at.ensures.same.0 i)) in
    c.claim_first.ensures.same.0 ∙ (c.post_later-at.ensures.same.0 ∙ moved)

pub returns-clause-posted : goal.returns-clause-posted
returns-clause-posted c =
    let own = slice_index_or c.args.members.now (length c.args.calls.now - 1) c.index-members-last.result in
    let there = member_at c.args.members.now (length c.args.calls.now - 1) c.index-members-last.result (omega (arith, c.requires.may.some, c.requires.may.count)) c.index-members-last.is in
    let p0 = at_there c.args.members.now 0 (omega (arith, c.requires.may.some, c.requires.may.count)) in
    let m0 = c.requires.may.idle 0 p0.0 p0.1 in
    let q = at_there c.args.calls.now 0 c.requires.may.some in
    let begins = begins_so c.args.members.now (length c.args.calls.now - 1) own there c.split-at.result (λ k is. (c.split-at.ensures.apart k [] is).1) c.args.shared c.split-at.new.seat c.try_take_free.new.seat c.in-Ok.held c.in-Ok.ensures.taken in
    let first : (k : SessionKnown) (r : Question) → At 0 r c.args.calls.now → KnownAt c.args.members.now 0 k
    → (a : ClaimsAt c.claim_first.new.members k (asked_op r) c.claim_first.new.batch) × (member : Member) × (t : SessionKnown) × HasDesk c.post_later-at.result.0 (here_of c.args.shared member) c.post_later-at.result.1 k t × PutsBack t a.asked =
    λ k r at known.
    let w = c.post_later-at.ensures.holds.0 k (begins 0 k known) in
    let may = c.requires.may.idle 0 known.0 known.1 in
    let alone = subst IsAlone (one_known known.0.seat may.0 k may.1 known.2) may.3 in
    let e = c.run-op.ensures.call ∙ ap asked_op (or_at c.args.calls.now 0 _ r at) in
    let now = c.claim_first.ensures.claims w.0 k w.1 w.2 w.3 alone in
    (claims_as c.claim_first.new.members k _ (asked_op r) c.claim_first.new.batch e now.0, w.0, w.1, w.3, now.1) in
    let w0 = c.post_later-at.ensures.holds.0 m0.0 (begins 0 m0.0 (p0.0, p0.1, m0.1)) in
    let x = desk_here c.args.shared c.post_later-at.result.0 c.post_later-at.result.1 w0.0 m0.0 w0.1 w0.3 (c.post_later-at.ensures.holds.1 w0.0 w0.2) in
    let others : (j : ℕ) (k : SessionKnown) (r : Question) → 0 < j → At j r c.args.calls.now → KnownAt c.args.members.now j k → PostsAt c.claim_first.new.members j k (asked_op r) =
    λ j k r lt at known. let p = c.post_later-at.ensures.posted j k r lt at (begins j k known) in (p.0, (p.1.0, c.claim_first.ensures.same.1 j p.1.0 lt p.1.1, p.1.2), p.2, p.3) in
    let was = λ (j : ℕ) (k : SessionKnown) (lt : 0 < j) (known : KnownAt c.claim_first.new.members j k). was_known c.post_later-at.new.members c.claim_first.new.members c.claim_first.ensures.same j k lt known in
    record {
      first = λ k r at known. (first k r at known).0;
      others = others;
      requests = requested c.args.members.now c.claim_first.new.batch (λ k known. (first k q.0 q.1 known).0.own) (λ j k lt known. c.claim_first.ensures.asks x.0 k x.1 (c.post_later-at.ensures.desk.1 x.0 j k x.1 lt (begins j k known)));
      held = posts_held c.args.members.now c.claim_first.new.members c.args.calls.now c.claim_first.new.batch c.requires.may.some
          (λ j lt. let p = at_there c.args.members.now j (omega (arith, lt, c.requires.may.count)) in let m = c.requires.may.idle j p.0 p.1 in (m.0, (p.0, p.1, m.1)))
          (λ k r at known. (first k r at known).0) others
          (λ k r at known b more is_b. let f = first k r at known in
          record { place = held_place c.post_later-at.result.1; value = c.post_later-at.result.1.value; now = f.2; took = f.3.took; next = c.post_later-at.ensures.next.1 f.2 b more f.3.is (was 1 b (omega arith) is_b); put = f.4 })
          (λ j k a b lt more known is_a is_b. c.post_later-at.ensures.next.0 j k a b lt more (begins j k known) (was j a lt is_a) (was (suc j) b (omega arith) is_b));
    }
