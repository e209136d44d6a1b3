use Rattle.std.proofs.Common.{Some, arith, refl}
use Rattle.maps.proofs.TableKeys.{index_claimed, index_found, index_missing, hash_claimed, hash_was, hash_new, hash_room, hash_absent}
use Rattle.maps.proofs.table.Table.claim.Goals as goal

pub returns-then-place-entry_count-clause-claimed : goal.returns-then-place-entry_count-clause-claimed
returns-then-place-entry_count-clause-claimed c =
    index_claimed c.args.self.now c.args.self.now c.index_of-place.result c.args.key.now refl
    (index_found c.args.self.now c.index_of-place.result c.args.key.now c.in-None.is (omega (arith, c.if-place-entry_count.true, c.entry_count.ensures.entries)) c.index_of-place.ensures.index)

pub returns-then-place-entry_count-clause-found : goal.returns-then-place-entry_count-clause-found
returns-then-place-entry_count-clause-found c = λ _.
    index_found c.args.self.now c.index_of-place.result c.args.key.now c.in-None.is (omega (arith, c.if-place-entry_count.true, c.entry_count.ensures.entries)) c.index_of-place.ensures.index

pub returns-else-place-entry_count-clause-absent : goal.returns-else-place-entry_count-clause-absent
returns-else-place-entry_count-clause-absent c =
    index_missing c.args.self.now c.index_of-place.result c.args.key.now c.in-None.is c.requires.shape.entries.1 (omega (arith, c.if-place-entry_count.false, c.entry_count.ensures.entries)) (omega (arith, c.index_of-place.type_inv)) c.index_of-place.ensures.index

pub returns-in-Some-clause-claimed : goal.returns-in-Some-clause-claimed
returns-in-Some-clause-claimed c =
    let t = c.args.self.now in let x = c.in-Some.index in let y = c.insert.new.self in let h = c.insert.ensures in
    hash_claimed t (record t { index = Some y }) x y c.args.key.now c.insert.result c.in-Some.is refl h.place h.keys h.own

pub returns-in-Some-clause-found : goal.returns-in-Some-clause-found
returns-in-Some-clause-found c = hash_was c.args.self.now c.in-Some.index c.args.key.now c.insert.result c.in-Some.is c.insert.ensures.place c.insert.ensures.found

pub returns-in-Some-clause-new : goal.returns-in-Some-clause-new
returns-in-Some-clause-new c = hash_new c.args.self.now c.in-Some.index c.args.key.now c.insert.result c.in-Some.is c.insert.ensures.new

pub returns-in-Some-clause-absent : goal.returns-in-Some-clause-absent
returns-in-Some-clause-absent c = hash_absent c.args.self.now c.in-Some.index c.args.key.now c.insert.result c.in-Some.is c.insert.ensures.absent

pub returns-in-Some-clause-room : goal.returns-in-Some-clause-room
returns-in-Some-clause-room c = hash_room c.args.self.now c.in-Some.index c.insert.result c.in-Some.is c.requires.table c.insert.ensures.room
