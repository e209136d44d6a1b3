use Rattle.std.proofs.Common.{◌∙◌, ap, subst, sym}
use Rattle.store_steps.specs.AtOnce.{HasGone, IsAlone, MayGoOn}
use Rattle.store_steps.specs.Knowing.{IsOn}
use Rattle.store_steps.specs.Standing.{IsFree, StoreSeat}
use Rattle.store_steps.proofs.AtOnce.{gone_free, gone_on}
use Rattle.store_steps.proofs.Own.{asks_at_once, has_gone}
use Rattle.store_steps.proofs.Resumed.{shelf_then}
use Rattle.store_steps.proofs.Taken.{known_as}
use Rattle.store_steps.proofs.at_once.ask_at_once.Goals as goal

pub let_line_go-requires-clause-idle : goal.let_line_go-requires-clause-idle
let_line_go-requires-clause-idle g c =
    let i = c.requires.idle in
    let a = c.ask-at.ensures.asked i.0 (ap (λ (z : StoreSeat). z.sessions) c.win_line-won.ensures.same ∙ i.1) in
    let n = has_gone c.args.here.caller i.0 c.args.op.now i.2 i.3 c.ask-at.new.seat c.ask-at.new.room.batch
    c.ask-at.result a in
    let on = shelf_then _ _ _ _ i.0 a.asked a.posted.back.extends i.4 in (
      n.waits.now,
      n.waits.is,
      (
        gone_free c.args.here.caller c.ask-at.new.seat a.asked a.posted.request _ _ n,
        gone_on c.args.here.shared
            c.args.here.caller c.ask-at.new.seat a.asked a.posted.request _ _ n on,
      ),
    )

pub go_on-requires-clause-waited : goal.go_on-requires-clause-waited
go_on-requires-clause-waited g c =
    let i = c.requires.idle in
    let a = c.ask-at.ensures.asked i.0 (ap (λ (z : StoreSeat). z.sessions) c.win_line-won.ensures.same ∙ i.1) in
    let n = has_gone c.args.here.caller i.0 c.args.op.now i.2 i.3 c.ask-at.new.seat c.ask-at.new.room.batch
    c.ask-at.result a in
    let on = shelf_then _ _ _ _ i.0 a.asked a.posted.back.extends i.4 in
    subst (λ (z : StoreSeat). MayGoOn z c.args.here.caller c.args.here.shared c.ask-at.new.room.batch c.ask-at.result)
    (sym c.let_line_go.ensures.same) (a.asked, a.posted.request, n, on)

pub returns-in-Collects-clause-asked : goal.returns-in-Collects-clause-asked
returns-in-Collects-clause-asked g c k is =
    let i = c.requires.idle in
    let has =
    known_as c.args.seat.now (λ z. IsFree c.args.here.caller z × IsAlone z × IsOn c.args.here.shared z)
    (i.0, i.1, (i.2, i.3, i.4)) k is in
    let a = c.ask-at.ensures.asked k (ap (λ (z : StoreSeat). z.sessions) c.win_line-won.ensures.same ∙ is) in
    let n = has_gone c.args.here.caller k c.args.op.now has.0 has.1 c.ask-at.new.seat c.ask-at.new.room.batch
    c.ask-at.result a in
    asks_at_once c.args.here.caller c.let_line_go.new.seat k a.asked c.args.op.now a.posted a.posts
    c.ask-at.new.room.batch c.in-Collects.reply
    (subst (λ z. HasGone c.let_line_go.new.seat c.args.here.caller a.asked a.posted.request c.ask-at.new.room.batch z)
    c.in-Collects.is
    (subst (λ (z : StoreSeat). HasGone z c.args.here.caller a.asked a.posted.request c.ask-at.new.room.batch
    c.ask-at.result) (sym c.let_line_go.ensures.same) n))

pub returns-in_default-clause-asked : goal.returns-in_default-clause-asked
returns-in_default-clause-asked g c k is =
    let i = c.requires.idle in
    let has =
    known_as c.args.seat.now (λ z. IsFree c.args.here.caller z × IsAlone z × IsOn c.args.here.shared z)
    (i.0, i.1, (i.2, i.3, i.4)) k is in
    let a = c.ask-at.ensures.asked k (ap (λ (z : StoreSeat). z.sessions) c.win_line-won.ensures.same ∙ is) in
    let n = has_gone c.args.here.caller k c.args.op.now has.0 has.1 c.ask-at.new.seat c.ask-at.new.room.batch
    c.ask-at.result a in
    asks_at_once c.args.here.caller c.go_on.new.seat k a.asked c.args.op.now a.posted a.posts c.go_on.new.room.batch
    c.go_on.result
    (c.go_on.ensures.answered a.asked a.posted.request
    (subst (λ (z : StoreSeat). HasGone z c.args.here.caller a.asked a.posted.request c.ask-at.new.room.batch
    c.ask-at.result) (sym c.let_line_go.ensures.same) n))
