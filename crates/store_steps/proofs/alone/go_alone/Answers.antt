use Rattle.std.proofs.Common.{◌∙◌, ap, subst, sym}
use Rattle.combiner.specs.Desks.{only}
use Rattle.store_steps.specs.Alone.{MayReply}
use Rattle.store_steps.specs.Standing.{StoreSeat}
use Rattle.store_steps.proofs.AtOnce.{answered_waits}
use Rattle.store_steps.proofs.Own.{may_reply}
use Rattle.store_steps.proofs.alone.go_alone.Goals as goal

pub returns-in-Some-clause-went : goal.returns-in-Some-clause-went
returns-in-Some-clause-went g c k o is waits =
    let r = c.args.new.now in
    let kept = c.combine_alone-replies.result in
    let a = c.combine_alone-replies.ensures.combined k is in
    let may =
    may_reply c.args.here.caller.node c.args.seat.now c.combine_alone-replies.new.seat c.args.here.caller
    c.args.here.shared r kept c.requires.claimed c.combine_alone-replies.ensures.combined in
    record {
      kept = kept;
      answered = a.0;
      has = a.2;
      answers = a.3;
      gives =
          c.in-Some.ensures.turned r may a.0 o a.1 (answered_waits k a.0 o (only r) kept waits a.2);
    }

pub returns-clause-went : goal.returns-clause-went
returns-clause-went g c k o is waits =
    let r = c.args.new.now in
    let kept = c.combine_alone-replies.result in
    let a = c.combine_alone-replies.ensures.combined k is in
    let may =
    may_reply c.args.here.caller.node c.args.seat.now c.combine_alone-replies.new.seat c.args.here.caller
    c.args.here.shared r kept c.requires.claimed c.combine_alone-replies.ensures.combined in
    let same = c.let_line_go.ensures.same ∙ c.in_default.ensures.stays in
    record {
      kept = kept;
      answered = a.0;
      has = a.2;
      answers = a.3;
      gives = c.wait_and_reply.ensures.turned r
          (subst (λ z. MayReply z c.args.here.caller c.args.here.shared r kept) (sym same) may) a.0 o
          (ap (λ (z : StoreSeat). z.sessions) same ∙ a.1) (answered_waits k a.0 o (only r) kept waits a.2);
    }
