-- A beginning that was copied over, and the zeros that stay behind it.
use Rattle.std.proofs.Common.{◌++◌, length, drop, replicate, ap, ◌∙◌}
use Rattle.std.proofs.lemmas.List.{drop-replicate}
use Rattle.oplog.proofs.padding.padded.Goals as goal

pub returns : goal.returns
returns c r =
    record { padded = ap (λ z. z ++ drop (length r.args.bytes.now) (replicate c.row.SIZE 0)) r.copy_from_slice.ensures.after ∙ ap (λ z. r.args.bytes.now ++ z) (drop-replicate (length r.args.bytes.now) c.row.SIZE 0) }
