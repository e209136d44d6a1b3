use Rattle.std.proofs.Common.{rules, ◌∷◌, sym, ◌∙◌, Some, None}
use Rattle.std.proofs.lemmas.Option.{same_Some}
use Rattle.ownlock.proofs.OnlyOut.{only_out, only_none, only_in, only_full, only_back}
use Rattle.ownlock.proofs.steps.pass_on.Goals as goal

pub exchange-before-requires : goal.exchange-before-requires
exchange-before-requires g c =
    let m = c.requires.may in
    (search rules, (None, only_out _ (m.0 ∷ m.1 ∷ m.2) c.args.spot.place _ c.slot_of.ensures m.3))

pub unreached-assert_unchecked-requires : goal.unreached-assert_unchecked-requires
unreached-assert_unchecked-requires g c =
    let m = c.requires.may in
    absurd (c.in_default.not-None (only_none _ (m.0 ∷ m.1 ∷ m.2) c.args.spot.place _ _ m.3 c.exchange-before.ensures.2))

pub change_hands-requires-clause-may : goal.change_hands-requires-clause-may
change_hands-requires-clause-may g c =
    let m = c.requires.may in (
      m.0,
      m.1,
      m.2,
      c.args.value,
      only_in _ _ (m.0 ∷ m.1 ∷ m.2) c.args.spot.place _ c.args.value c.slot_of.ensures m.3
          c.exchange-before.ensures.3,
      m.4,
      m.5,
    )

pub exchange-found-requires : goal.exchange-found-requires
exchange-found-requires g c =
    let m = c.requires.may in
    let is =
    only_in _ _ (m.0 ∷ m.1 ∷ m.2) c.args.spot.place _ c.args.value c.slot_of.ensures m.3
    c.exchange-before.ensures.3 in
    let t = c.change_hands.ensures.handed m.0 m.1 m.2 c.args.value is in (
      search rules,
      (
        Some c.args.value,
        only_full c.change_hands.new.pass.me _ c.args.spot.place _ c.args.value c.slot_of-2.ensures
            t.2.5,
      ),
    )

pub unreached-assert_unchecked-requires-in_default-found : goal.unreached-assert_unchecked-requires-in_default-found
unreached-assert_unchecked-requires-in_default-found g c =
    let m = c.requires.may in
    let is =
    only_in _ _ (m.0 ∷ m.1 ∷ m.2) c.args.spot.place _ c.args.value c.slot_of.ensures m.3
    c.exchange-before.ensures.3 in
    let t = c.change_hands.ensures.handed m.0 m.1 m.2 c.args.value is in
    absurd (c.in_default-found.not-Some c.args.value
    (only_back c.change_hands.new.pass.me c.exchange-found.new.seat.me _ c.args.spot.place _ c.args.value _
    c.slot_of-2.ensures t.2.5 c.exchange-found.ensures.2 c.exchange-found.ensures.3).0)

pub returns-clause-value : goal.returns-clause-value
returns-clause-value g c =
    let m = c.requires.may in
    let is =
    only_in _ _ (m.0 ∷ m.1 ∷ m.2) c.args.spot.place _ c.args.value c.slot_of.ensures m.3
    c.exchange-before.ensures.3 in
    let t = c.change_hands.ensures.handed m.0 m.1 m.2 c.args.value is in
    same_Some _ _
    (sym c.in-Some.is
    ∙ (only_back c.change_hands.new.pass.me c.exchange-found.new.seat.me _ c.args.spot.place _ c.args.value _
    c.slot_of-2.ensures t.2.5 c.exchange-found.ensures.2 c.exchange-found.ensures.3).0)

pub returns-clause-handed : goal.returns-clause-handed
returns-clause-handed g c k m ms sits =
    let is =
    only_in _ _ (k ∷ m ∷ ms) c.args.spot.place _ c.args.value c.slot_of.ensures sits c.exchange-before.ensures.3 in
    let t = c.change_hands.ensures.handed k m ms c.args.value is in (
      t.0,
      t.1,
      (
        t.2.0,
        t.2.1,
        t.2.2,
        t.2.3,
        t.2.4,
        (only_back c.change_hands.new.pass.me c.exchange-found.new.seat.me _ c.args.spot.place _ c.args.value _
            c.slot_of-2.ensures t.2.5 c.exchange-found.ensures.2 c.exchange-found.ensures.3).1,
      ),
    )
