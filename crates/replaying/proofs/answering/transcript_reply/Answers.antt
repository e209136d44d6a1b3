use Rattle.std.proofs.Common.{subst}
use Rattle.replaying.specs.Noted.{Explains}
use Rattle.replaying.proofs.TranscriptLines.{so_if_ok}
use Rattle.replaying.proofs.answering.transcript_reply.Goals as goal

pub returns-clause-told : goal.returns-clause-told
returns-clause-told c =
    so_if_ok _ c.end_reply.result (subst (λ text. Explains c.args.notes.now c.tell_end.new.notes text) c.take_lines-end.ensures.noted c.in_ok-tell_end.ensures.told)
