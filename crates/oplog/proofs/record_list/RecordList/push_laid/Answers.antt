use Rattle.std.proofs.Common.{refl}
use Rattle.oplog.proofs.Pushing.{MayPush, bytes_fit, stays, pushed}
use Rattle.oplog.proofs.record_list.RecordList.push_laid.Goals as goal

pub assign-requires-clause-room : goal.assign-requires-clause-room
assign-requires-clause-room c = (bytes_fit c.self.inside c.args.self.now c.args.op (record { is = c.self.invariant; seen = c.self.view_is; room = c.requires.room; fits = c.requires.fits })).0

pub assign-requires-clause-short : goal.assign-requires-clause-short
assign-requires-clause-short c = (bytes_fit c.self.inside c.args.self.now c.args.op (record { is = c.self.invariant; seen = c.self.view_is; room = c.requires.room; fits = c.requires.fits })).1

pub invariant_of-self : goal.invariant_of-self
invariant_of-self c =
    let may : MayPush c.self.inside c.args.self.now c.args.op = record { is = c.self.invariant; seen = c.self.view_is; room = c.requires.room; fits = c.requires.fits } in
    stays c.self.inside c.args.self.now c.args.op may _ _ _ _ _ c.fill_place.ensures.there c.fill_place.ensures.before c.fill_place.ensures.capacity c.assign.ensures.put c.assign.ensures.capacity

pub returns : goal.returns
returns c =
    let may : MayPush c.self.inside c.args.self.now c.args.op = record { is = c.self.invariant; seen = c.self.view_is; room = c.requires.room; fits = c.requires.fits } in
    record { pushed = pushed c.self.inside c.args.self.now c.args.op may _ _ _ _ _ c.fill_place.ensures.there c.fill_place.ensures.before c.fill_place.ensures.capacity c.assign.ensures.put c.assign.ensures.capacity c.args.author c.args.seq refl refl }
