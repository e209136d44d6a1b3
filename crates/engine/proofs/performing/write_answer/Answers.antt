use Rattle.std.proofs.Common.{inr, ℕ, List, ◌++◌, refl, sym, ap, subst}
use Rattle.std.specs.Option.{option_map_or}
use Rattle.engine.specs.declared.replies.Status.TheVariants as statuses
use Rattle.engine.specs.Report.{Sends}
use Rattle.engine.proofs.SentPieces.{first_broken_off, sent_after}
use Rattle.engine.proofs.performing.write_answer.Goals as goal

pub returns-in-Ok-clause-sent : goal.returns-in-Ok-clause-sent
returns-in-Ok-clause-sent g c =
    let contents = g.W.Sink.contents in
    let first : List ℕ = c.args.text.bytes.now in
    let left : List ℕ = c.in-Some.state.now.left in
    let old = contents c.args.writer.now in
    let now = contents c.send.new.self in
    let new = contents c.write_pieces.new.writer in
    let rest = subst (λ (t : List ℕ). Sends now new c.write_pieces.result t c.args.status) c.pieces.ensures c.write_pieces.ensures.sent in
    subst (λ (t : List ℕ). Sends old new c.write_pieces.result t c.args.status) (sym (ap (λ o. option_map_or (λ s. first ++ s.now.left) o first) c.in-Some.is))
    (sent_after old now new c.write_pieces.result c.args.status first left c.in-Ok.ensures.sent rest)

pub returns-in-Err-clause-sent : goal.returns-in-Err-clause-sent
returns-in-Err-clause-sent g c =
    let contents = g.W.Sink.contents in
    let first : List ℕ = c.args.text.bytes.now in
    let left : List ℕ = c.in-Some.state.now.left in
    let old = contents c.args.writer.now in
    let new = contents c.send.new.self in
    subst (λ (t : List ℕ). Sends old new statuses.CannotWrite t c.args.status) (sym (ap (λ o. option_map_or (λ s. first ++ s.now.left) o first) c.in-Some.is))
    (inr (refl, first_broken_off old new first left c.in-Err.ensures.stopped))

pub returns-in-Ok-clause-spared : goal.returns-in-Ok-clause-spared
returns-in-Ok-clause-spared g c other failed = c.in-Ok.ensures.spared (c.write_pieces.ensures.spared other failed)
