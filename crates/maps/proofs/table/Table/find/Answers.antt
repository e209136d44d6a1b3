use Rattle.std.proofs.Common.{arith}
use Rattle.maps.proofs.TableKeys.{index_found, index_missing, hash_found, if_missing}
use Rattle.maps.proofs.table.Table.find.Goals as goal

pub returns-then-place-entry_count-clause-found : goal.returns-then-place-entry_count-clause-found
returns-then-place-entry_count-clause-found c =
    index_found c.args.self.now c.index_of-place.result c.args.key.now c.in-None.is (omega (arith, c.if-place-entry_count.true, c.entry_count.ensures.entries)) c.index_of-place.ensures.index

pub returns-else-place-entry_count-clause-absent : goal.returns-else-place-entry_count-clause-absent
returns-else-place-entry_count-clause-absent c =
    index_missing c.args.self.now c.index_of-place.result c.args.key.now c.in-None.is c.requires.shape.entries.1 (omega (arith, c.if-place-entry_count.false, c.entry_count.ensures.entries)) (omega (arith, c.index_of-place.type_inv)) c.index_of-place.ensures.index

pub returns-in-Some-clause-found : goal.returns-in-Some-clause-found
returns-in-Some-clause-found c = hash_found c.args.self.now c.in-Some.index c.args.key.now c.lookup.result c.in-Some.is c.lookup.ensures.place c.lookup.ensures.found

pub returns-in-Some-clause-absent : goal.returns-in-Some-clause-absent
returns-in-Some-clause-absent c = if_missing c.args.self.now c.in-Some.index c.args.key.now c.lookup.result c.in-Some.is c.lookup.ensures.absent
