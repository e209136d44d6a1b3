use Rattle.std.proofs.Common.{◌<◌, length, arith, rules}
use Rattle.stress.proofs.EachCall.{all_made, none_made, one_made, team_on}
use Rattle.stress.proofs.Standing.{stands}
use Rattle.stress.proofs.rounds.ask_in_turn.Goals as goal

pub loop-number-init : goal.loop-number-init
loop-number-init g c = (none_made c.args.round.first c.args.round.calls.now c.args.sessions.now c.in_ok-told.told.items (search rules), c.requires.team, search rules)

pub ask_noted-requires-clause-own : goal.ask_noted-requires-clause-own
ask_noted-requires-clause-own g c =
    let n = c.loop-number.number in
    let below = c.loop-number-test.true in
    let long = c.loop-number.invariant.0.long in
    let few = c.requires.calls in
    let there : n < length c.loop-number.sessions = omega (arith, below, few, long) in
    c.loop-number.invariant.1.own n _ (stands c.loop-number.sessions n c.index-sessions-number.result there)

pub loop-number-preserved : goal.loop-number-preserved
loop-number-preserved g c =
    let h = c.loop-number.invariant in
    let n = c.loop-number.number in
    let calls = c.args.round.calls.now in
    let below = c.loop-number-test.true in
    let long = h.0.long in
    let few = c.requires.calls in
    let there : n < length c.loop-number.sessions = omega (arith, below, few, long) in
    let asked = c.ask_noted.ensures in
    let at_s = stands c.loop-number.sessions n _ there in
    let kept = c.push_reserved.ensures.capacity in
    let room = h.2 in (
      rw c.push_reserved.ensures.items (
          one_made c.args.round.first calls c.args.sessions.now n c.loop-number.sessions c.loop-number.told.items _ c.ask_noted.new.session _ c.ask_noted.result h.0 (search rules) at_s
          (stands calls n _ below) (record { call = asked.call; asked = asked.told; noted = asked.noted })
          ),
      team_on c.args.ground.now.store.now c.args.round.first n c.loop-number.sessions _ c.ask_noted.new.session h.1 at_s asked.own asked.told.session,
      omega (arith, room, kept),
    )

pub returns-clause-made : goal.returns-clause-made
returns-clause-made g c =
    let past = c.loop-number-test.false in
    let upto = c.loop-number.auto.number-end in
    all_made c.args.round.first c.args.round.calls.now c.args.sessions.now c.loop-number.number c.loop-number.sessions c.loop-number.told.items (omega (arith, past, upto)) c.loop-number.invariant.0
