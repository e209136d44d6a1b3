use Rattle.std.proofs.Common.{refl}
use Rattle.oplog.proofs.Pushing.{MayPush, bytes_fit, stays, pushed}
use Rattle.oplog.proofs.record_list.RecordList.push.Goals as goal

pub set-requires-clause-room : goal.set-requires-clause-room
set-requires-clause-room c = (bytes_fit c.self.inside c.args.self.now c.args.op.now (record { is = c.self.invariant; seen = c.self.view_is; room = c.requires.room; fits = c.requires.fits })).0

pub set-requires-clause-short : goal.set-requires-clause-short
set-requires-clause-short c = (bytes_fit c.self.inside c.args.self.now c.args.op.now (record { is = c.self.invariant; seen = c.self.view_is; room = c.requires.room; fits = c.requires.fits })).1

pub invariant_of-self : goal.invariant_of-self
invariant_of-self c =
    let may : MayPush c.self.inside c.args.self.now c.args.op.now = record { is = c.self.invariant; seen = c.self.view_is; room = c.requires.room; fits = c.requires.fits } in
    stays c.self.inside c.args.self.now c.args.op.now may _ _ _ _ _ c.fill_place.ensures.there c.fill_place.ensures.before c.fill_place.ensures.capacity c.set.ensures.put c.set.ensures.capacity

pub returns : goal.returns
returns c =
    let may : MayPush c.self.inside c.args.self.now c.args.op.now = record { is = c.self.invariant; seen = c.self.view_is; room = c.requires.room; fits = c.requires.fits } in
    record { pushed = pushed c.self.inside c.args.self.now c.args.op.now may _ _ _ _ _ c.fill_place.ensures.there c.fill_place.ensures.before c.fill_place.ensures.capacity c.set.ensures.put c.set.ensures.capacity c.args.author c.args.seq refl refl }
