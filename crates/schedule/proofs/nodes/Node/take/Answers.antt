use Rattle.std.proofs.Common.{◌≡◌, sym, subst, rules}
use Rattle.verifier.specs.declared.refusal.Mode.TheVariants.{Update}
use Rattle.oplog.specs.declared.records.Op.TheVariants.{Run}
use Rattle.schedule.specs.Steps.{part_of, post}
use Rattle.schedule.specs.Taking.{MayCall, TakesPart}
use Rattle.schedule.proofs.nodes.Node.take.Goals as goal

pub returns-in-Ok-clause-taken : goal.returns-in-Ok-clause-taken
returns-in-Ok-clause-taken c =
    let is : c.op.result ≡ Run (record { program = c.in-Post.program; argument = c.in-Post.argument.items }) = search rules in
    let may : MayCall c.args.opening.now Update c.op.result = subst (MayCall c.args.opening.now Update) (sym c.op.ensures.run) c.in-Ok.ensures.call.1 in
    subst (λ step. TakesPart (part_of c.args.opening.now step c.args.log.now c.args.self.now) c.args.log.now c.args.self.now c.args.log.now c.post.new.self c.post.result) (sym c.in-Post.is)
    (subst (λ op. TakesPart (post c.args.opening.now c.in-Post.slot op c.args.log.now c.args.self.now) c.args.log.now c.args.self.now c.args.log.now c.post.new.self c.post.result) is
    (c.post.ensures.posted c.args.opening.now c.args.log.now may))

pub returns-in-Append-clause-taken : goal.returns-in-Append-clause-taken
returns-in-Append-clause-taken c = subst (λ step. TakesPart (part_of c.args.opening.now step c.args.log.now c.args.self.now) c.args.log.now c.args.self.now c.append.new.log c.append.new.self c.append.result) (sym c.in-Append.is) (c.append.ensures.appended c.args.opening.now)

pub returns-in-Finish-clause-taken : goal.returns-in-Finish-clause-taken
returns-in-Finish-clause-taken c = subst (λ step. TakesPart (part_of c.args.opening.now step c.args.log.now c.args.self.now) c.args.log.now c.args.self.now c.finish.new.log c.args.self.now c.finish.result) (sym c.in-Finish.is) (c.finish.ensures.finished c.args.opening.now)

pub returns-in-Reply-clause-taken : goal.returns-in-Reply-clause-taken
returns-in-Reply-clause-taken c = subst (λ step. TakesPart (part_of c.args.opening.now step c.args.log.now c.args.self.now) c.args.log.now c.args.self.now c.args.log.now c.reply.new.self c.reply.result) (sym c.in-Reply.is) (c.reply.ensures.replied c.args.opening.now)

pub returns-in-Reclaim-clause-taken : goal.returns-in-Reclaim-clause-taken
returns-in-Reclaim-clause-taken c = subst (λ step. TakesPart (part_of c.args.opening.now step c.args.log.now c.args.self.now) c.args.log.now c.args.self.now c.reclaim.new.log c.args.self.now c.reclaim.result) (sym c.in-Reclaim.is) (c.reclaim.ensures.reclaimed c.args.opening.now)

pub returns-in-Rebase-clause-taken : goal.returns-in-Rebase-clause-taken
returns-in-Rebase-clause-taken c = subst (λ step. TakesPart (part_of c.args.opening.now step c.args.log.now c.args.self.now) c.args.log.now c.args.self.now c.args.log.now c.rebase.new.self c.rebase.result) (sym c.in-Rebase.is) (c.rebase.ensures.rebased c.args.opening.now)
