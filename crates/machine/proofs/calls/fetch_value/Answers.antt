use Rattle.std.proofs.Common.{take, ap, sym, ◌∙◌}
use Rattle.machine.proofs.calls.fetch_value.Goals as goal

pub part-requires : goal.part-requires
part-requires c = record { inside = (c.locate-spot.ensures.part c.args.n c.requires.told.0 c.requires.some c.requires.told.1).inside }

pub returns-clause-copied : goal.returns-clause-copied
returns-clause-copied c = λ bs told.
    let p = c.locate-spot.ensures.part c.args.n bs c.requires.some told in
    ap (λ n. take n c.put_first.new.room) (sym c.part.ensures.count) ∙ (c.put_first.ensures.written ∙ (c.part.ensures.bytes ∙ p.same))
