use Rattle.std.proofs.Common.{◌+◌, ◌*◌, arith}
use Rattle.std.proofs.lemmas.List.{get_or_past}
use Rattle.keyindex.specs.Walks.{word_of}
use Rattle.keyindex.proofs.bits.last_word.Goals as goal

pub returns-then-key-w-eq4 : goal.returns-then-key-w-eq4
unfolding word_of
returns-then-key-w-eq4 c =
    let k = c.args.key.now in let w = 8 * c.args.i in
    let z4 = get_or_past k (w + 4) 0 (omega arith) in
    let z5 = get_or_past k (w + 5) 0 (omega arith) in
    let z6 = get_or_past k (w + 6) 0 (omega arith) in
    let z7 = get_or_past k (w + 7) 0 (omega arith) in
    let is = c.from_le_bytes.ensures in omega (arith, is, z4, z5, z6, z7)

pub returns-else-key-w-eq4 : goal.returns-else-key-w-eq4
unfolding word_of
returns-else-key-w-eq4 c =
    let z7 = get_or_past c.args.key.now (8 * c.args.i + 7) 0 (omega arith) in
    let b1 = c.byte.ensures in let b2 = c.byte-else-key-w-eq4.ensures in let b3 = c.byte-else-key-w-eq4-2.ensures in
    let b4 = c.byte-else-key-w-eq4-3.ensures in let b5 = c.byte-else-key-w-eq4-4.ensures in let b6 = c.byte-else-key-w-eq4-5.ensures in
    let is = c.from_le_bytes-else-key-w-eq4.ensures in omega (arith, is, b1, b2, b3, b4, b5, b6, z7)
