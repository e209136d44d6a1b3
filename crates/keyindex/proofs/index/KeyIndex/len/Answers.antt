use Rattle.std.proofs.Common.{length, arith}
use Rattle.keyindex.proofs.Listed.{keys_counted}
use Rattle.keyindex.proofs.index.KeyIndex.len.Goals as goal

pub returns : goal.returns
returns c =
    let s = c.args.self.now in
    let counted = keys_counted s.size s.depths.items s.keys.items (length s.free.items) s.room.free_len s.linked.null in
    let all = s.store.all in let low = s.store.within in let ok = s.free.ok.0 in let len = c.len.ensures in
    record { keys = omega (arith, counted, all, low, ok, len) }
