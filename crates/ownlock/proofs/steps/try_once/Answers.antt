use Rattle.std.proofs.Common.{rules, Some}
use Rattle.ownlock.proofs.Tries.{taken_out, slot_out, was_there}
use Rattle.ownlock.proofs.steps.try_once.Goals as goal

pub exchange-found-requires : goal.exchange-found-requires
exchange-found-requires g c =
    let m = c.requires.may in
    let t = (c.is_taken.ensures.tried m.0 m.1).1 (search rules) in (
      search rules,
      (Some t.1, slot_out g.V.Shelved.rules c.args.pass.now.me _ t.0 c.args.spot.place _ t.1 c.slot_of.ensures t.3),
    )

pub unreached-assert_unchecked-requires : goal.unreached-assert_unchecked-requires
unreached-assert_unchecked-requires g c =
    let m = c.requires.may in
    let t = (c.is_taken.ensures.tried m.0 m.1).1 (search rules) in
    absurd (c.in_default.not-Some t.1
    (was_there g.V.Shelved.rules c.args.pass.now.me _ t.0 c.args.spot.place _ t.1 _ t.3 c.exchange-found.ensures.2))

pub returns-clause-taken : goal.returns-clause-taken
returns-clause-taken g c value is k sits =
    let t = (c.is_taken.ensures.tried k sits).1 (search rules) in
    let e = c.exchange-found.ensures in
    taken_out g.V.Shelved.rules c.args.pass.now.me c.is_taken.new.pass.me _ k t.0 c.args.spot.place _ t.1 _
    c.exchange-found.result c.slot_of.ensures sits t.2 t.3 e.2 e.3 (search rules)
