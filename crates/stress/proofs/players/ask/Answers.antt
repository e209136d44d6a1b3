use Rattle.std.proofs.Common.{◌≡◌, ◌∙◌, None, Some, refl, ap, sym, subst}
use Rattle.text.specs.Digits.{field_bytes}
use Rattle.oplog.specs.Operations.{Operation}
use Rattle.readpath.specs.declared.reading.ReadAnswer.{ReadAnswer}
use Rattle.std.specs.Prelude.{IfOk}
use Rattle.accounts.specs.declared.sessions.SessionNote.{SessionNote}
use Rattle.store.specs.Linear.{NotesRead}
use Rattle.store.specs.Looks.{TellsSight, HasReply}
use Rattle.store.specs.Sessions.{TellsUpdate}
use Rattle.verifier.specs.declared.refusal.Mode.{Mode}
use Rattle.verifier.specs.declared.refusal.Mode.TheVariants.{Update, Read}
use Rattle.stress.specs.declared.calls.Asked.TheVariants as asks
use Rattle.stress.specs.declared.lines.AnsweredCall.{AnsweredCall}
use Rattle.stress.specs.Calls.{operation_on, asked_refusal}
use Rattle.stress.specs.Shown.{called}
use Rattle.stress.specs.OneHistory.{Asks}
use Rattle.stress.proofs.OneHistory.{told_update, seen}
use Rattle.stress.proofs.players.ask.Goals as goal
use Rattle.stress.proofs.players.ask.Goals.{in-Run+in-Update, in-Run+in-Read+in-Ok, in-Install}

pub returns-clause-told : goal.returns-clause-told
returns-clause-told g c =
    let t : AnsweredCall = record { call = c.args.call; said = c.match-call.said; noted = record { session = 0; begun = 0; ended = 0; waited = 0 } } in
    let call = c.args.call.now in
    let ready = c.requires.ready in
    let catalogue = c.args.store.now.catalogue in
    let bytes = c.as_slice-bytes.result.now in
    let spelled : field_bytes call.digits.now ≡ Some bytes = sym c.in-Some.ensures.bytes ∙ ap Some (sym c.as_slice-bytes.ensures.value) in
    let op : Operation = operation_on call.asked bytes in
    let asked : Asks (called call) op = (bytes, spelled, refl) in
    let both : Some ready.bytes ≡ Some bytes = sym ready.spelled ∙ spelled in
    let same : ready.bytes ≡ bytes = cc in
    let none : asked_refusal catalogue call.asked bytes ≡ None = subst (λ b. asked_refusal catalogue call.asked b ≡ None) same ready.ready in
    let old = c.args.session.now in
    elim c.match-call.branch [
      | in-Run+in-Update w ↦
          let h = w.update.ensures in
          let is : call.asked ≡ asks.Run Update w.in-Run.program = w.in-Run.is ∙ ap (λ (m : Mode). asks.Run m w.in-Run.program) w.in-Update.is in
          let tells = h.answered (subst (λ a. asked_refusal catalogue a bytes ≡ None) is none) in
          rw (w.session-is, w.said-is, w.update_said.ensures.said)
          (told_update old w.update.new.session t op asked h.session.same.1 h.session.grown h.session.well_formed w.update.result (subst (λ a. TellsUpdate old w.update.new.session (operation_on a bytes) w.update.result) (sym is) tells))
      | in-Run+in-Read+in-Ok w ↦
          let h = w.read.ensures in
          let is : call.asked ≡ asks.Run Read w.in-Run.program = w.in-Run.is ∙ ap (λ (m : Mode). asks.Run m w.in-Run.program) w.in-Read.is in
          let tells = h.told (subst (λ a. asked_refusal catalogue a bytes ≡ None) is none) in
          let mine = subst (λ a. TellsSight (HasReply (operation_on a bytes)) (λ (r : ReadAnswer). r.point) old w.read.new.self w.read.result) (sym is) tells in
          let answer = subst (λ r. TellsSight (HasReply op) (λ (a : ReadAnswer). a.point) old w.read.new.self r) w.in-Ok.is mine in
          let noted = subst (λ r. IfOk r (λ a. NotesRead old w.read.new.self (operation_on (asks.Run Read w.in-Run.program) bytes) (Some a))) w.in-Ok.is h.note in
          rw (w.session-is, w.said-is) (seen old w.read.new.self t op asked h.session.same.1 h.session.grown h.session.well_formed w.in-Ok.answer answer.1 (ap (λ (n : SessionNote). n.answered) noted))
      | in-Install w ↦
          let h = w.install.ensures in
          let is : call.asked ≡ asks.Install w.in-Install.mode w.in-Install.arg_len = w.in-Install.is in
          let tells = h.answered (subst (λ a. asked_refusal catalogue a bytes ≡ None) is none) in
          rw (w.session-is, w.said-is, w.update_said-said.ensures.said)
          (told_update old w.install.new.self t op asked h.session.same.1 h.session.grown h.session.well_formed w.install.result (subst (λ a. TellsUpdate old w.install.new.self (operation_on a bytes) w.install.result) (sym is) tells))
    ]
