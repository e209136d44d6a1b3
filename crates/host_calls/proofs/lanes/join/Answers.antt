use Rattle.std.proofs.Common.{◌≡◌, sym, ap, ◌∙◌, Some, Option, refl}
use Rattle.host_calls.specs.declared.attached.Attached.{Attached}
use Rattle.host_calls.specs.Lanes.{AreIdleBoth}
use Rattle.host_calls.proofs.Moves.{joins_done, joins_not, joins_open, none_if}
use Rattle.host_calls.proofs.lanes.join.Goals as goal

pub returns-in-Ok : goal.returns-in-Ok
returns-in-Ok c =
    let session = c.args.session.now in
    let a = c.in-Some-take.attached in
    let idle : AreIdleBoth c.in-Some.lane a = (c.is_waiting-else-is_waiting.ensures.idle c.if-is_waiting-2.false, none_if a.session.note.pending c.is_waiting.result c.is_waiting.ensures.waiting c.if-is_waiting.false) in
    record {
      joins = joins_open c.args.handle.now _ session _ c.in-Some.lane c.join.new.self a c.in-Some.is refl (sym c.take.ensures.value ∙ c.in-Some-take.is) refl
          (joins_done c.in-Some.lane c.join.new.self a session _ idle c.take.ensures.after (ap (λ (o : Option Attached). record session { own = o }) c.take.ensures.after) c.in-Ok.ensures.joined c.in-Ok.ensures.may);
    }

pub returns-in-Err : goal.returns-in-Err
returns-in-Err c =
    let session = c.args.session.now in
    let a = c.in-Some-take.attached in
    let idle : AreIdleBoth c.in-Some.lane a = (c.is_waiting-else-is_waiting.ensures.idle c.if-is_waiting-2.false, none_if a.session.note.pending c.is_waiting.result c.is_waiting.ensures.waiting c.if-is_waiting.false) in
    let had : session.own ≡ Some a = sym c.take.ensures.value ∙ c.in-Some-take.is in
    record {
      joins = joins_open c.args.handle.now _ session _ c.in-Some.lane c.join.new.self a c.in-Some.is refl had refl
          (joins_not c.in-Some.lane c.join.new.self a c.in-Err.attached session _ idle refl
          (ap (λ (o : Option Attached). record session { own = o }) (ap (λ (z : Attached). Some z) c.in-Err.ensures.back.0 ∙ sym had)) c.in-Err.ensures.back.1 c.in-Err.ensures.refused);
    }
