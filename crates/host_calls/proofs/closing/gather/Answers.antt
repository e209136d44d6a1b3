use Rattle.std.proofs.Common.{◌++◌, sym, ap, subst, ◌∙◌, arith, IfSome, length, append_assoc, length-append}
use Rattle.std.proofs.lemmas.List.Elements.{All-pop}
use Rattle.host_calls.specs.Leaving.{sessions_at, sessions_back}
use Rattle.host_calls.specs.Seating.{IsIdleSeat, IsSeatOf}
use Rattle.host_calls.proofs.Gathered.{at_most_one, back_more}
use Rattle.host_calls.proofs.closing.gather.Goals as goal

pub loop-place-preserved : goal.loop-place-preserved
loop-place-preserved c =
    let i = c.loop-place.invariant in
    let old = c.loop-place.sessions.items in
    let ys = c.pop.new.self.items in
    let p = c.in-Some.place in
    let is = c.in-Some.ensures.items in
    let pushed = c.push_session.ensures.pushed in
    let capacity = c.push_session.ensures.capacity in
    let room = i.room in
    let more = ap length is ∙ length-append ys _ in
    let long = ap length pushed ∙ length-append old (sessions_at p) in
    let few = at_most_one p in
    record {
      idle = (All-pop IsIdleSeat _ ys c.pop.result c.pop.ensures.items i.idle).0;
      room = omega (arith, capacity, room, more, long, few);
      sessions = ap (λ z. z ++ sessions_back ys) pushed ∙ (append_assoc old (sessions_at p) (sessions_back ys) ∙ (ap (λ z. old ++ z) (sym (back_more ys p) ∙ ap sessions_back (sym is)) ∙ i.sessions));
      own = λ store all.
          let o = i.own store all in
          let popped = All-pop (IsSeatOf store) _ ys c.pop.result c.pop.ensures.items o.1 in
          (c.push_session.ensures.own store (subst (λ r. IfSome r (IsSeatOf store)) c.in-Some.is popped.1) o.0, popped.0);
    }
