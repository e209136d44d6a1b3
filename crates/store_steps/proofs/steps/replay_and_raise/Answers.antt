use Rattle.std.proofs.Common.{◌≡◌, ◌++◌, ◌+◌, length, ap, sym, subst, ◌∙◌, arith}
use Rattle.std.proofs.lemmas.List.{length-append, length-take-le}
use Rattle.loader.specs.StoreState.{sizes_of}
use Rattle.node.specs.Following.{IsNext, replayed, replies_after, with_more}
use Rattle.replica.specs.Replaying.{KeepsOutcomes}
use Rattle.store_steps.specs.Due.{IsDue, brought, placed_of}
use Rattle.store_steps.proofs.Taken.{known_as, well_formed}
use Rattle.store_steps.proofs.Played.{all, is_next, replayed_all, has_replayed, raised_as, rest_of}
use Rattle.store_steps.proofs.Stretches.{replays_by}
use Rattle.store_steps.proofs.steps.replay_and_raise.Goals as goal

pub replay-requires : goal.replay-requires
replay-requires g c =
    let i = c.requires.known in
    let rs = (g.C.Claimed.batch c.args.due.now.requests.now).records in
    let kept = g.C.Claimed.kept c.args.kept.now in
    let more = placed_of rs kept in
    let now = brought c.args.shared.catalogue.now c.args.due.now.owed more c.args.node.now in
    let there = ap (with_more more) c.replay_owed.ensures.node in
    let next = subst (λ z. IsNext z now) i.2.catalogue (is_next i.0.progress now i.2.others (well_formed i.0.progress i.2.stands.notes i.2.stands.accounts)) in
    let whole = all i.0.progress now (rest_of i.0.progress now i.2.others) in
    let hand = c.replay_owed.new.node.hand.records in
    let long : length (hand ++ more) ≡ length hand + length kept.outcomes = length-append hand more ∙ ap (λ n. length hand + n) (length-take-le (length kept.outcomes) rs i.2.placed) in
    let tail = ap (λ n. n.replica.tail + length n.hand.records) there in
    let last = i.2.last in
    record {
      placed = i.2.placed;
      last = omega (arith, whole, long, tail, last);
      next = subst (IsNext c.args.shared.catalogue.now) (sym there) next;
    }

pub raise_to-requires-clause-known : goal.raise_to-requires-clause-known
raise_to-requires-clause-known g c =
    let i = c.requires.known in
    let more = placed_of (g.C.Claimed.batch c.args.due.now.requests.now).records (g.C.Claimed.kept c.args.kept.now) in
    let now = brought c.args.shared.catalogue.now c.args.due.now.owed more c.args.node.now in
    let there = ap (with_more more) c.replay_owed.ensures.node in
    let is = c.replay.ensures.node ∙ (ap (replayed c.args.shared.catalogue.now) there ∙ ap (λ z. replayed z now) (sym i.2.catalogue)) in
    let all = replayed_all i.0.progress now c.replay.new.node i.2.others is (c.replay.ensures.sizes ∙ ap (λ n. sizes_of n.replica.state) there) in
    let tail = all.tail in
    let here = c.tail-replayed.ensures.tail in
    (i.0, i.1, omega (arith, tail, here))

pub returns-clause-replayed : goal.returns-clause-replayed
returns-clause-replayed g c k is =
    let cat = c.args.shared.catalogue.now in
    let rs = (g.C.Claimed.batch c.args.due.now.requests.now).records in
    let old = g.C.Claimed.kept c.args.kept.now in
    let new = g.C.Claimed.kept c.replay.new.replies in
    let more = placed_of rs old in
    let has = known_as c.args.seat.now (IsDue cat c.args.due.now.owed rs old c.args.node.now) c.requires.known k is in
    let there = ap (with_more more) c.replay_owed.ensures.node in
    let r = c.raise_to.ensures.raised k is in
    let here = c.tail-replayed.ensures.tail in
    let sizes = c.replay.ensures.sizes ∙ ap (λ n. sizes_of n.replica.state) there in
    let kept = subst (λ n. KeepsOutcomes cat n.replica.state n.replica.tail n.hand.records old new) there c.replay.ensures.kept in
    let up = raised_as k r.0 _ c.replay.new.node.replica.tail r.2 (omega (arith, here)) in
    let now = brought cat c.args.due.now.owed more c.args.node.now in
    let is_node = c.replay.ensures.node ∙ ap (replayed cat) there in
    let is_replies = c.replay.ensures.replies ∙ ap (λ n. replies_after cat n old) there in (
      r.0,
      r.1,
      has_replayed k r.0 now c.replay.new.node cat old new has.catalogue has.others is_node sizes kept up,
      λ log log_is. replays_by k r.0 log now c.replay.new.node old new log_is (ap (λ z. z.begin) has.others.hand)
          (is_node ∙ ap (λ z. replayed z now) (sym has.catalogue)) (is_replies ∙ ap (λ z. replies_after z now old) (sym has.catalogue)) up,
    )
