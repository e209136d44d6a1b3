use Rattle.std.proofs.Common.{subst, sym, ◌∙◌, arith}
use Rattle.ownlock.proofs.Export.{one_known}
use Rattle.store_steps.specs.Rooms.{caught_up}
use Rattle.store_steps.specs.Standing.{HasPlace}
use Rattle.store_steps.specs.Whole.{MakesRoom}
use Rattle.store_steps.proofs.MakingRoom.{base_goes, base_owes, base_room, kept_above, kept_fits, kept_sizes, kept_updates, none_goes, none_owes, none_room, risen_above, risen_fits, risen_sizes, risen_within}
use Rattle.store_steps.proofs.steps.make_room.Goals as goal

pub rebase_if_behind-requires : goal.rebase_if_behind-requires
rebase_if_behind-requires c =
    let i = c.requires.holds in
    record { sizes = i.2.log.sizes.2 ∙ sym i.2.follows.sizes }

pub is_base_due-requires-clause-above : goal.is_base_due-requires-clause-above
is_base_due-requires-clause-above c = let i = c.requires.holds in let r = c.rebase_if_behind in kept_above i.0 _ _ _ i.2 r.new.node r.ensures.behind r.ensures.above

pub is_base_due-requires-clause-fits : goal.is_base_due-requires-clause-fits
is_base_due-requires-clause-fits c = let i = c.requires.holds in let r = c.rebase_if_behind in kept_fits i.0 _ _ _ i.2 r.new.node r.ensures.behind r.ensures.above

pub follow_for_room-requires-clause-above : goal.follow_for_room-requires-clause-above
follow_for_room-requires-clause-above c = let i = c.requires.holds in let r = c.rebase_if_behind in kept_above i.0 _ _ _ i.2 r.new.node r.ensures.behind r.ensures.above

pub follow_for_room-requires-clause-fits : goal.follow_for_room-requires-clause-fits
follow_for_room-requires-clause-fits c = let i = c.requires.holds in let r = c.rebase_if_behind in kept_fits i.0 _ _ _ i.2 r.new.node r.ensures.behind r.ensures.above

pub follow_for_room-requires-clause-sizes : goal.follow_for_room-requires-clause-sizes
follow_for_room-requires-clause-sizes c = let i = c.requires.holds in let r = c.rebase_if_behind in kept_sizes i.0 _ _ _ i.2 r.new.node r.ensures.behind r.ensures.above

pub follow_for_room-requires-clause-updates : goal.follow_for_room-requires-clause-updates
follow_for_room-requires-clause-updates c = let i = c.requires.holds in let r = c.rebase_if_behind in kept_updates i.0 _ _ _ i.2 r.new.node r.ensures.behind r.ensures.above

pub raise_to-requires-clause-known : goal.raise_to-requires-clause-known
raise_to-requires-clause-known c =
    let i = c.requires.holds in let r = c.rebase_if_behind in let d = c.is_base_due.ensures in let m = c.follow_for_room in
    let low = risen_within i.0 _ _ _ i.2 r.new.node r.ensures.behind r.ensures.above c.args.want c.requires.few d.window.0 (d.due c.if-is_base_due.true) m.new.node m.result m.ensures.stays m.ensures.follows m.ensures.sizes in
    let here = c.tail.ensures.tail in
    (i.0, i.1, omega (arith, low, here))

pub bring_base-requires-clause-above : goal.bring_base-requires-clause-above
bring_base-requires-clause-above c =
    let i = c.requires.holds in let r = c.rebase_if_behind in let d = c.is_base_due.ensures in let m = c.follow_for_room in
    risen_above i.0 _ _ _ i.2 r.new.node r.ensures.behind r.ensures.above c.args.want c.requires.few d.window.0 (d.due c.if-is_base_due.true) m.new.node m.result m.ensures.stays m.ensures.follows m.ensures.sizes

pub bring_base-requires-clause-fits : goal.bring_base-requires-clause-fits
bring_base-requires-clause-fits c =
    let i = c.requires.holds in let r = c.rebase_if_behind in let d = c.is_base_due.ensures in let m = c.follow_for_room in
    risen_fits i.0 _ _ _ i.2 r.new.node r.ensures.behind r.ensures.above c.args.want c.requires.few d.window.0 (d.due c.if-is_base_due.true) m.new.node m.result m.ensures.stays m.ensures.follows m.ensures.sizes

pub bring_base-requires-clause-sizes : goal.bring_base-requires-clause-sizes
bring_base-requires-clause-sizes c =
    let i = c.requires.holds in let r = c.rebase_if_behind in let d = c.is_base_due.ensures in let m = c.follow_for_room in
    risen_sizes i.0 _ _ _ i.2 r.new.node r.ensures.behind r.ensures.above c.args.want c.requires.few d.window.0 (d.due c.if-is_base_due.true) m.new.node m.result m.ensures.stays m.ensures.follows m.ensures.sizes

pub copy-requires-clause-above : goal.copy-requires-clause-above
copy-requires-clause-above c = let i = c.requires.holds in let r = c.rebase_if_behind in kept_above i.0 _ _ _ i.2 r.new.node r.ensures.behind r.ensures.above

pub copy-requires-clause-fits : goal.copy-requires-clause-fits
copy-requires-clause-fits c = let i = c.requires.holds in let r = c.rebase_if_behind in kept_fits i.0 _ _ _ i.2 r.new.node r.ensures.behind r.ensures.above

pub returns-then-is_base_due-clause-owes : goal.returns-then-is_base_due-clause-owes
returns-then-is_base_due-clause-owes c =
    let i = c.requires.holds in let r = c.rebase_if_behind in let d = c.is_base_due.ensures in let m = c.follow_for_room in
    let rose = c.raise_to.ensures.raised i.0 i.1 in let here = c.tail.ensures.tail in let b = c.bring_base in
    base_owes i.0 _ _ _ i.2 r.new.node r.ensures.behind r.ensures.above c.args.want c.requires.few d.window.0 (d.due c.if-is_base_due.true) m.new.node m.result m.ensures.stays m.ensures.follows m.ensures.sizes
    rose.0 _ rose.2 (omega (arith, here)) b.new.log b.new.node b.result b.ensures.log b.ensures.within b.ensures.copied b.ensures.exchanged

pub returns-then-is_base_due-clause-room : goal.returns-then-is_base_due-clause-room
returns-then-is_base_due-clause-room c k is =
    let i = c.requires.holds in let r = c.rebase_if_behind in let d = c.is_base_due.ensures in let m = c.follow_for_room in
    let rose = c.raise_to.ensures.raised i.0 i.1 in let here = c.tail.ensures.tail in let b = c.bring_base in
    let room = base_room i.0 _ _ _ i.2 r.new.node r.ensures.behind r.ensures.above c.args.want c.requires.few d.window.0 (d.due c.if-is_base_due.true) m.new.node m.result m.ensures.stays m.ensures.follows m.ensures.sizes
    rose.0 _ rose.2 (omega (arith, here)) b.new.log b.new.node b.result b.ensures.log b.ensures.within b.ensures.copied b.ensures.exchanged in
    let goes = base_goes i.0 _ _ _ i.2 r.new.node r.ensures.behind r.ensures.above c.args.want c.requires.few d.window.0 (d.due c.if-is_base_due.true) m.new.node m.result m.ensures.stays m.ensures.follows m.ensures.sizes
    rose.0 _ rose.2 (omega (arith, here)) b.new.log b.new.node b.result b.ensures.log b.ensures.within b.ensures.copied b.ensures.exchanged (d.reason c.if-is_base_due.true) in
    let there = caught_up c.args.shared.catalogue.now b.result b.new.node in
    let e = one_known c.args.seat.now i.0 k i.1 is in
    (rose.0, rose.1, subst (λ q. HasPlace q rose.0 c.args.want c.args.log.now b.new.log there) e room, subst (λ q. MakesRoom c.args.want q rose.0 c.args.log.now b.new.log c.args.node.now there) e goes)

pub returns-else-is_base_due-clause-owes : goal.returns-else-is_base_due-clause-owes
returns-else-is_base_due-clause-owes c =
    let i = c.requires.holds in let r = c.rebase_if_behind in
    none_owes i.0 _ _ _ i.2 r.new.node r.ensures.behind r.ensures.above c.copy.new.node c.copy.ensures.node c.copy.ensures.within

pub returns-else-is_base_due-clause-room : goal.returns-else-is_base_due-clause-room
returns-else-is_base_due-clause-room c k is =
    let i = c.requires.holds in let r = c.rebase_if_behind in
    let room = none_room i.0 _ _ _ i.2 r.new.node r.ensures.behind r.ensures.above c.copy.new.node c.copy.ensures.node c.args.want (c.is_base_due.ensures.room c.if-is_base_due.false) in
    let goes = none_goes i.0 _ _ _ i.2 r.new.node r.ensures.behind r.ensures.above c.copy.new.node c.copy.ensures.node c.args.want (c.is_base_due.ensures.room c.if-is_base_due.false) in
    let there = caught_up c.args.shared.catalogue.now 0 c.copy.new.node in
    let e = one_known c.args.seat.now i.0 k i.1 is in
    (k, is, subst (λ q. HasPlace q q c.args.want c.args.log.now c.args.log.now there) e room, subst (λ q. MakesRoom c.args.want q q c.args.log.now c.args.log.now c.args.node.now there) e goes)
