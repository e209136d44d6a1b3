use Rattle.std.proofs.Common.{◌≡◌, ◌<◌, ap, arith, length, refl, subst, ◌∙◌}
use Rattle.std.proofs.lemmas.Option.{slice_get_within}
use Rattle.loader.specs.StoreState.{sizes_of}
use Rattle.node.specs.declared.following.NodeReplica.{NodeReplica}
use Rattle.store_steps.proofs.Numbered.{FirstReplies, one_more_reply}
use Rattle.store_steps.proofs.questions.answer_each.Goals as goal

pub loop-number-init : goal.loop-number-init
loop-number-init c = record { node = refl; replies = λ i asked low at. absurd (omega (arith, low)) }

pub answer_there-answer-requires : goal.answer_there-answer-requires
answer_there-answer-requires c = record { sizes = ap (λ (z : NodeReplica). sizes_of z.replica.state) c.loop-number.invariant.node ∙ c.requires.sizes }

pub loop-number-preserved : goal.loop-number-preserved
loop-number-preserved c =
    let more = c.loop-number-test.true in
    let long = c.loop-number.auto.replies in
    let room = c.requires.room in
    let low : c.loop-number.number < length c.loop-number.replies = omega (arith, more, long, room) in
    record {
      node = c.answer_there-answer.ensures.same ∙ c.loop-number.invariant.node;
      replies = one_more_reply c.args.catalogue.now c.args.node.now.replica.state c.args.questions.now c.loop-number.number c.loop-number.replies _ c.answer_there-answer.result.reply low c.loop-number.invariant.replies
          c.loop-number.node.replica.state (ap (λ (z : NodeReplica). z.replica.state) c.loop-number.invariant.node) c.answer_there-answer.ensures.reply;
    }

pub returns-clause-replies : goal.returns-clause-replies
returns-clause-replies c =
    let past = c.loop-number-test.false in
    let upto = c.loop-number.auto.number-end in
    let all : c.loop-number.number ≡ length c.args.questions.now = omega (arith, past, upto) in
    λ i asked at. (subst (λ n. FirstReplies c.args.catalogue.now c.args.node.now.replica.state c.args.questions.now n c.loop-number.replies) all c.loop-number.invariant.replies) i asked (slice_get_within c.args.questions.now i asked at) at

pub returns-clause-same : goal.returns-clause-same
returns-clause-same c = c.loop-number.invariant.node
