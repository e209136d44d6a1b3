use Rattle.std.proofs.Common.{inr, refl, take, arith}
use Rattle.engine.proofs.SentPieces.{broken_off, piece_sent}
use Rattle.engine.proofs.performing.write_pieces.Goals as goal

pub loop-pieces-preserved : goal.loop-pieces-preserved
loop-pieces-preserved g c =
    let contents = g.W.Sink.contents in
    let same = c.read-count.auto.room in
    let long = c.loop-pieces.invariant.1 in (
      piece_sent (contents c.args.writer.now) (contents c.loop-pieces.writer) (contents c.send.new.self) c.args.pieces c.loop-pieces.pieces c.read-count.new.self (take c.read-count.result c.read-count.new.room)
          c.read-count.ensures.read c.in-Ok.ensures.sent c.loop-pieces.invariant.0,
      omega (arith, same, long),
      λ failed. c.loop-pieces.invariant.2 (c.in-Ok.ensures.spared failed),
    )

pub returns-in-Err : goal.returns-in-Err
returns-in-Err g c =
    let contents = g.W.Sink.contents in record {
      sent =
          inr (
            refl,
            broken_off (contents c.args.writer.now) (contents c.loop-pieces.writer) (contents c.send.new.self) c.args.pieces c.loop-pieces.pieces c.read-count.new.self (take c.read-count.result c.read-count.new.room)
                c.read-count.ensures.read c.in-Err.ensures.stopped c.loop-pieces.invariant.0,
          );
      failed = inr (refl, c.in-Err.ensures.failed);
      spared = λ other. absurd (other refl);
    }
