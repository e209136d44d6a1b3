use Rattle.std.proofs.Common.{List, length, sym, ap, ◌∙◌, subst, arith}
use Rattle.std.proofs.lemmas.List.{length-map}
use Rattle.combiner.specs.Desks.{BatchView}
use Rattle.store_steps.specs.Holds.{session_at}
use Rattle.store_steps.specs.Pipelines.{spot_of}
use Rattle.store_steps.specs.PollingEach.{AreOut, WaitsEach}
use Rattle.store_steps.specs.declared.pipelines.Member.{Member}
use Rattle.store_steps.proofs.AskingEach.{are_members}
use Rattle.store_steps.proofs.PollingEach.{completes_after, deeds_between, gives_each, may_give_out, on_after}
use Rattle.store_steps.proofs.polling_each.go_on_each.Goals as goal

pub try_give_each-requires-clause-members : goal.try_give_each-requires-clause-members
try_give_each-requires-clause-members c = are_members c.args.shared c.args.members.now c.combine_first.new.members c.combine_first.ensures.same c.requires.members

pub try_give_each-requires-clause-count : goal.try_give_each-requires-clause-count
try_give_each-requires-clause-count c =
    let long = sym (length-map c.combine_first.new.members spot_of) ∙ (ap length c.combine_first.ensures.same ∙ length-map c.args.members.now spot_of) in
    let some = c.requires.count.0 in
    let room = c.requires.count.1 in
    (omega (arith, long, some), omega (arith, long, room))

pub try_give_each-requires-clause-may : goal.try_give_each-requires-clause-may
try_give_each-requires-clause-may c =
    let room = c.combine_first.new.room.combining in
    let old = c.args.room.now.combining in
    may_give_out c.args.shared c.combine_first.new.members room.batch room.replies
    (subst (λ z. AreOut c.combine_first.new.members room.batch room.replies z) c.in-Some.ensures.ready c.combine_first.ensures.out)
    (on_after c.args.shared c.args.members.now c.combine_first.new.members room.batch old.replies room.replies c.args.stage.now c.combine_first.new.stage c.combine_first.ensures.same
    (subst (λ z. AreOut c.args.members.now z old.replies c.args.stage.now) (sym c.combine_first.ensures.kept) c.requires.out) c.combine_first.ensures.out c.combine_first.ensures.waits c.requires.on)

pub returns-in_default-try_give_each-clause-waits : goal.returns-in_default-try_give_each-clause-waits
returns-in_default-try_give_each-clause-waits c =
    let e = c.in_default-try_give_each.ensures.stays in
    subst (λ (z : List Member × BatchView). WaitsEach c.args.members.now z.0 z.1 c.combine_first.new.room.combining.replies c.combine_first.new.stage) (λ i. (sym e.0 i, sym e.1 i)) c.combine_first.ensures.waits

pub returns-clause-completed : goal.returns-clause-completed
returns-clause-completed c =
    let room = c.combine_first.new.room.combining in
    let out = subst (λ z. AreOut c.combine_first.new.members room.batch room.replies z) c.in-Some.ensures.ready c.combine_first.ensures.out in
    completes_after c.args.members.now c.combine_first.new.members c.try_give_each.new.members room.batch c.try_give_each.new.batch room.replies room.replies c.combine_first.new.stage c.try_give_each.new.replies c.combine_first.ensures.same c.try_give_each.ensures.same.0 c.combine_first.ensures.waits
    (gives_each c.combine_first.new.members c.try_give_each.new.members room.batch c.try_give_each.new.batch room.replies c.try_give_each.new.replies out c.in-Some-try_give_each.ensures.gives)

pub returns-clause-held : goal.returns-clause-held
returns-clause-held c =
    let room = c.combine_first.new.room.combining in
    let out = subst (λ z. AreOut c.args.members.now z c.args.room.now.combining.replies c.args.stage.now) (sym c.combine_first.ensures.kept) c.requires.out in
    record {
      between = session_at c.combine_first.new.members;
      deeds = λ j lt. deeds_between c.args.members.now c.combine_first.new.members room.batch c.args.room.now.combining.replies room.replies c.args.stage.now c.combine_first.new.stage c.combine_first.ensures.same out c.combine_first.ensures.out c.combine_first.ensures.waits j (omega (arith, lt, c.try_give_each.ensures.same.1, c.requires.count.1));
      batch = room.batch;
      kept = room.replies;
      collects = c.in-Some-try_give_each.ensures.gives.held;
    }
