use Rattle.std.proofs.Common.{◌≡◌, [], drop, refl, arith}
use Rattle.std.proofs.lemmas.List.{drop_all}
use Rattle.running.proofs.run_texts.write_outcome.Goals as goal

pub returns-clause-written : goal.returns-clause-written
returns-clause-written c =
    let none : drop 88 c.args.room.now ≡ [] = drop_all 88 c.args.room.now (omega (arith, c.told-room)) in
    rw (c.write_number.ensures.written, c.write_text-end-3.ensures.written, c.write_number-end-2.ensures.written, c.write_text-end-2.ensures.written, c.write_number-end.ensures.written, c.write_text-end.ensures.written, none) refl
