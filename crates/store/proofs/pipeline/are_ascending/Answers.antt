use Rattle.std.proofs.Common.{rules, ◌<◌, length, refl, arith}
use Rattle.store.proofs.Ascending.{all_checked, are_no_neighbours, at_read, has_slot, none_checked, one_checked}
use Rattle.store.proofs.pipeline.are_ascending.Goals as goal
use Rattle.store.proofs.pipeline.are_ascending.Goals.{then-caller-node-via-then-caller-node, then-caller-node-via-else-caller-node+then-caller-lowest}

pub loop-number-init : goal.loop-number-init
loop-number-init c = record { checked = none_checked c.args.store.now.config c.args.sessions.now _ }

pub returns-then-caller-node-clause-ascending : goal.returns-then-caller-node-clause-ascending
returns-then-caller-node-clause-ascending c =
    let store = c.args.store.now in
    let sessions = c.args.sessions.now in
    let n = c.loop-number.number in
    let more = c.loop-number-test.true in
    let s = c.index-sessions-0.result in
    let t = c.index-sessions-number.result in
    let at_s = at_read sessions 0 s (omega (arith, more)) c.index-sessions-0.is in
    let at_t = at_read sessions n t more c.index-sessions-number.is in (
      λ e. absurd cc,
      λ are. absurd (are_no_neighbours store.config sessions c.caller-node.result.node n c.loop-number.lowest s t c.caller-node.result c.caller-caller.result c.loop-number.invariant.checked at_s
          (has_slot store s c.caller-node.result (c.requires.own 0 s at_s) c.caller-node.ensures.own c.caller-node.ensures.within) refl at_t
          (has_slot store t c.caller-caller.result (c.requires.own n t at_t) c.caller-caller.ensures.own c.caller-caller.ensures.within)
          (elim c.then-caller-node.branch [ then-caller-node-via-then-caller-node w ↦ λ node up. w.if-caller-node.true node | then-caller-node-via-else-caller-node+then-caller-lowest w ↦ λ node up. let low = w.if-caller-lowest.true in omega (arith, low, up) ])
          are),
    )

pub overflow_add-lowest : goal.overflow_add-lowest
overflow_add-lowest c =
    let store = c.args.store.now in
    let sessions = c.args.sessions.now in
    let n = c.loop-number.number in
    let t = c.index-sessions-number.result in
    let at_t = at_read sessions n t c.loop-number-test.true c.index-sessions-number.is in
    let fits = (has_slot store t c.caller-caller.result (c.requires.own n t at_t) c.caller-caller.ensures.own c.caller-caller.ensures.within).within in
    let few = c.shared-shared.ensures.config.slots.1 in
    omega (arith, fits, few)

pub loop-number-preserved : goal.loop-number-preserved
loop-number-preserved c =
    let store = c.args.store.now in
    let sessions = c.args.sessions.now in
    let n = c.loop-number.number in
    let t = c.index-sessions-number.result in
    let at_t = at_read sessions n t c.loop-number-test.true c.index-sessions-number.is in
    let low = c.if-caller-lowest.false in
    record {
      checked = one_checked store.config sessions c.caller-node.result.node n c.loop-number.lowest t c.caller-caller.result c.loop-number.invariant.checked at_t
          (has_slot store t c.caller-caller.result (c.requires.own n t at_t) c.caller-caller.ensures.own c.caller-caller.ensures.within) c.if-caller-node.false (omega (arith, low));
    }

pub returns-clause-ascending : goal.returns-clause-ascending
returns-clause-ascending c =
    let past = c.loop-number-test.false in
    let upto = c.loop-number.auto.number-end in
    let some : 0 < length c.args.sessions.now = search rules in
    (λ e. all_checked c.args.store.now.config c.args.sessions.now c.caller-node.result.node c.loop-number.number c.loop-number.lowest c.loop-number.invariant.checked (omega (arith, past, upto)) some, λ are. refl)
