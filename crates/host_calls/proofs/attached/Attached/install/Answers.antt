use Rattle.std.proofs.Common.{rules, ◌≡◌, None, Ok, Option, sym, subst}
use Rattle.store_steps.specs.Views.{SessionView}
use Rattle.store.specs.Sessions.{StoreView, install_of, install_refused}
use Rattle.store.specs.Polled.{TellsPost}
use Rattle.host_calls.specs.CallResults.{TellsUpdate}
use Rattle.host_calls.proofs.Posted.{asked_for, none_of, posted_then}
use Rattle.host_calls.proofs.attached.Attached.install.Goals as goal

pub returns-in-Ok-Some-clause-tells : goal.returns-in-Ok-Some-clause-tells
returns-in-Ok-Some-clause-tells c =
    let before = c.args.self.now in
    let old = c.self.inside.session in
    let posted = c.try_install in
    let after = c.go_on-in-Ok-Some in
    let some = c.in-Ok-Some in
    let op = install_of c.args.mode c.args.argument c.args.bytes.now in
    let is_old : old ≡ before.session = search rules in
    let is_of : c.deref.result.now ≡ before.store = search rules in
    let idle : before.session.note.pending ≡ None = search rules in
    let none = none_of (install_refused (c.deref.result.now) c.args.mode c.args.argument c.args.bytes.now) (λ r is. let no = (some.ensures.early r is).0 in absurd cc) in
    let at = subst (λ (x : Option (Unit {0})). TellsPost old posted.new.self op (Ok x)) some.field-0-is (some.ensures.posted none) in
    let told = posted_then op (install_refused (c.deref.result.now) c.args.mode c.args.argument c.args.bytes.now) old posted.new.self after.new.self.session after.result (subst (λ (s : SessionView). s.note.pending ≡ None) (sym is_old) idle) none (asked_for old posted.new.self op at) posted.ensures.session.same.1 posted.ensures.session.grown posted.ensures.session.gone after.ensures.grown after.ensures.tells in
    subst (λ (s : SessionView). TellsUpdate op (install_refused (before.store) c.args.mode c.args.argument c.args.bytes.now) s after.new.self.session after.result) is_old
    (subst (λ (z : StoreView). TellsUpdate op (install_refused (z) c.args.mode c.args.argument c.args.bytes.now) old after.new.self.session after.result) is_of told)
