use Rattle.std.proofs.Common.{[], ap}
use Rattle.oplog.specs.Laid.{op_in}
use Rattle.combiner.specs.Slots.{is_claimed}
use Rattle.combiner.specs.Places.{stage_in}
use Rattle.combiner.proofs.places.Place.answer.Goals as goal

pub answer_no-self-requires : goal.answer_no-self-requires
answer_no-self-requires c =
    let p = c.args.self.now in
    record { set = c.requires.answer [] (ap (λ stage. is_claimed (stage_in stage (op_in [] p.op) p.reply)) c.in-Claimed.is) }
