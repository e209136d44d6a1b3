use Rattle.std.proofs.Common.{◌≡◌, ◌+◌, ◌-◌, ◌*◌, ◌≤◌, length, sym, subst, arith, ◌∙◌}
use Rattle.maps.proofs.EntriesAt.{part_kept, mid_long}
use Rattle.maps.proofs.table.Table.key_into.Goals as goal

pub returns-clause-others : goal.returns-clause-others
returns-clause-others c =
    let n = c.args.n in
    let s = c.key_bytes-size.result in
    let b = c.args.keys.now in
    let room : n * s + s ≤ length b = subst (λ z. n * z + z ≤ length b) (sym c.key_bytes-size.ensures.key) c.requires.room in
    let mid = c.key.ensures.size ∙ mid_long (n * s) (n * s + s - n * s) b (omega (arith, room)) in
    let long : length c.key.new.key ≡ s = omega (arith, mid) in
    part_kept n s _ (n * s + s - n * s) b c.key.new.key c.key_bytes-size.ensures.key (omega arith) long c.requires.room
