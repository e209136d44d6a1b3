use Rattle.std.proofs.Common.{◌≡◌, ◌≤◌, ◌∙◌, ℕ, List, length, Some, refl, sym, ap, subst, arith}
use Rattle.verifier.specs.declared.refusal.Mode.TheVariants.{Update, Read}
use Rattle.stress.specs.declared.calls.Asked.TheVariants as asks
use Rattle.stress.specs.Calls.{behind_field}
use Rattle.stress.proofs.Digits.{call_hex, invoke_hex, read_hex, install_hex}
use Rattle.stress.proofs.Ready.{free_with, ready_call, line_said}
use Rattle.scripts.specs.declared.script.ScriptLine.{ScriptLine}
use Rattle.scripts.specs.Script.{line_meaning}
use Rattle.scripts.specs.ScriptShown.{call_of, at_number_of, program_of, meaning_of}
use Rattle.stress.proofs.calls.call_of_line.Goals as goal

-- what the line means, as this line of a script
means : (line : List ℕ) {x y : ScriptLine} → x ≡ y → Some (meaning_of x) ≡ line_meaning line → Some (meaning_of y) ≡ line_meaning line
means line is e = subst (λ l. Some (meaning_of l) ≡ line_meaning line) is e

pub returns-in-Some-Call-clause-ready : goal.returns-in-Some-Call-clause-ready
returns-in-Some-Call-clause-ready c =
    let catalogue = c.args.catalogue.now in
    let line = c.args.line.now in
    let call = call_of c.in-Some-Call.call in
    let field = c.behind_field in
    let hex = call_hex line call (sym (means line c.in-Some-Call.field-0-is c.in-Some-Call.ensures)) in
    c.one_call.ensures.ready catalogue
    (ready_call catalogue c.args.number line call.argument (behind_field line) field.result c.program_named.result hex field.ensures.short field.ensures.behind c.program_named.ensures.ready)

pub returns-in-Some-InvokeAt-clause-said : goal.returns-in-Some-InvokeAt-clause-said
returns-in-Some-InvokeAt-clause-said c =
    let line = c.args.line.now in
    let is = c.behind_field-in-Some-InvokeAt-2.ensures.behind ∙ ap behind_field c.behind_field-in-Some-InvokeAt.ensures.behind in
    let asked = c.program_numbered-asked in
    line_said c.args.catalogue.now c.args.number line _ _ _ asked.result _ _ (means line c.in-Some-InvokeAt.field-0-is c.in-Some-InvokeAt.ensures) c.one_call-in-Some-InvokeAt.ensures.said is asked.ensures.asked refl

pub returns-in-Some-InvokeAt-clause-ready : goal.returns-in-Some-InvokeAt-clause-ready
returns-in-Some-InvokeAt-clause-ready c =
    let catalogue = c.args.catalogue.now in
    let line = c.args.line.now in
    let call = at_number_of c.in-Some-InvokeAt.call in
    let first = c.behind_field-in-Some-InvokeAt in
    let second = c.behind_field-in-Some-InvokeAt-2 in
    let is = second.ensures.behind ∙ ap behind_field first.ensures.behind in
    let short : length second.result.now ≤ length line = omega arith in
    let asked = c.program_numbered-asked in
    let hex = invoke_hex line call (sym (means line c.in-Some-InvokeAt.field-0-is c.in-Some-InvokeAt.ensures)) in
    let free = free_with catalogue call.argument (asks.Run Update call.program) asked.result asked.ensures.asked in
    c.one_call-in-Some-InvokeAt.ensures.ready catalogue
    (ready_call catalogue c.args.number line call.argument (behind_field (behind_field line)) second.result asked.result hex short is free)

pub returns-in-Some-ReadAt-clause-said : goal.returns-in-Some-ReadAt-clause-said
returns-in-Some-ReadAt-clause-said c =
    let line = c.args.line.now in
    let is = c.behind_field-in-Some-ReadAt-2.ensures.behind ∙ ap behind_field c.behind_field-in-Some-ReadAt.ensures.behind in
    let asked = c.program_numbered-asked-in-Some-ReadAt in
    line_said c.args.catalogue.now c.args.number line _ _ _ asked.result _ _ (means line c.in-Some-ReadAt.field-0-is c.in-Some-ReadAt.ensures) c.one_call-in-Some-ReadAt.ensures.said is asked.ensures.asked refl

pub returns-in-Some-ReadAt-clause-ready : goal.returns-in-Some-ReadAt-clause-ready
returns-in-Some-ReadAt-clause-ready c =
    let catalogue = c.args.catalogue.now in
    let line = c.args.line.now in
    let call = at_number_of c.in-Some-ReadAt.call in
    let first = c.behind_field-in-Some-ReadAt in
    let second = c.behind_field-in-Some-ReadAt-2 in
    let is = second.ensures.behind ∙ ap behind_field first.ensures.behind in
    let short : length second.result.now ≤ length line = omega arith in
    let asked = c.program_numbered-asked-in-Some-ReadAt in
    let hex = read_hex line call (sym (means line c.in-Some-ReadAt.field-0-is c.in-Some-ReadAt.ensures)) in
    let free = free_with catalogue call.argument (asks.Run Read call.program) asked.result asked.ensures.asked in
    c.one_call-in-Some-ReadAt.ensures.ready catalogue
    (ready_call catalogue c.args.number line call.argument (behind_field (behind_field line)) second.result asked.result hex short is free)

pub returns-in-Some-Install-clause-said : goal.returns-in-Some-Install-clause-said
returns-in-Some-Install-clause-said c =
    let line = c.args.line.now in
    let first = c.behind_field-in-Some-Install.ensures.behind in
    let is = c.behind_field-in-Some-Install-3.ensures.behind ∙ ap behind_field (c.behind_field-in-Some-Install-2.ensures.behind ∙ ap behind_field first) in
    let asked = c.program_installed-asked in
    line_said c.args.catalogue.now c.args.number line _ _ _ asked.result _ _ (means line c.in-Some-Install.field-0-is c.in-Some-Install.ensures) c.one_call-in-Some-Install.ensures.said is
    (asked.ensures.asked c.args.catalogue.now c.requires.room) refl

pub returns-in-Some-Install-clause-ready : goal.returns-in-Some-Install-clause-ready
returns-in-Some-Install-clause-ready c =
    let catalogue = c.args.catalogue.now in
    let line = c.args.line.now in
    let new = program_of c.in-Some-Install.text in
    let first = c.behind_field-in-Some-Install in
    let second = c.behind_field-in-Some-Install-2 in
    let third = c.behind_field-in-Some-Install-3 in
    let is = third.ensures.behind ∙ ap behind_field (second.ensures.behind ∙ ap behind_field first.ensures.behind) in
    let short : length third.result.now ≤ length line = omega arith in
    let asked = c.program_installed-asked in
    let hex = install_hex line new (sym (means line c.in-Some-Install.field-0-is c.in-Some-Install.ensures)) in
    let free = free_with catalogue new.bytes (asks.Install new.mode new.arg_len) asked.result (asked.ensures.asked catalogue c.requires.room) in
    c.one_call-in-Some-Install.ensures.ready catalogue
    (ready_call catalogue c.args.number line new.bytes (behind_field (behind_field (behind_field line))) third.result asked.result hex short is free)
