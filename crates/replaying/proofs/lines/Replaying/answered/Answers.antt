use Rattle.std.proofs.Common.{◌≡◌, subst}
use Rattle.verifier.specs.declared.refusal.Mode.TheVariants.{Update}
use Rattle.oplog.specs.Operations.{Operation}
use Rattle.replaying.specs.Noted.{due_at}
use Rattle.oplog.specs.declared.records.Op.TheVariants.{Run}
use Rattle.scripts.specs.ScriptShown.{keyed_of}
use Rattle.replaying.proofs.TranscriptLines.{due_of, of_operation, of_read}
use Rattle.replaying.proofs.lines.Replaying.answered.Goals as goal

pub returns-in-Read-clause-replayed : goal.returns-in-Read-clause-replayed
returns-in-Read-clause-replayed c =
    λ at has. rw c.verdict_of-in-Read.ensures
    (of_operation c.args.catalogue.now at c.args.mode (keyed_of c.args.call.now) c.args.told (Run c.in-Some.call) _ c.read.new.self c.in-Some.ensures.found
    (rw c.in-Read.is
    (of_read c.args.catalogue.now at (Run c.in-Some.call) c.args.told.index c.args.told.reply c.read.result c.read.new.self
    (c.read.ensures.compared at has))))

pub returns-in-Read-clause-due : goal.returns-in-Read-clause-due
returns-in-Read-clause-due c =
    λ at has differs. due_of c.args.catalogue.now at c.args.mode (keyed_of c.args.call.now) c.args.told (Run c.in-Some.call) c.read.new.self.due c.in-Some.ensures.found (rw c.in-Read.is (c.read.ensures.due at has))

pub returns-in-Update-clause-due : goal.returns-in-Update-clause-due
returns-in-Update-clause-due c =
    λ at has differs. due_of c.args.catalogue.now at c.args.mode (keyed_of c.args.call.now) c.args.told (Run c.in-Some.call) c.update.new.self.due c.in-Some.ensures.found (rw c.in-Update.is
    (subst (λ (op : Operation). c.update.new.self.due ≡ due_at c.args.catalogue.now Update at.history op) c.op.ensures.run (c.update.ensures.due at has)))
