use Rattle.std.proofs.Common.{◌≡◌, length, arith, refl}
use Rattle.explain.proofs.Pieces.{piece_more, whole}
use Rattle.explain.proofs.sentences.put_all.Goals as goal

pub loop-piece-preserved : goal.loop-piece-preserved
loop-piece-preserved c =
    piece_more c.args.pieces.now c.loop-piece.piece-index _ _ c.loop-piece-test.true refl _ _ _ c.loop-piece.invariant c.in_ok-push_str.ensures.bytes

pub returns : goal.returns
returns c =
    let past = c.loop-piece-test.false in
    let upto = c.loop-piece.auto.piece-index-end in
    let end : c.loop-piece.piece-index ≡ length c.args.pieces.now = omega arith in
    whole c.args.pieces.now c.loop-piece.piece-index _ _ end c.loop-piece.invariant
