use Rattle.std.proofs.Common.{rules, ◌≡◌, None, Ok, Option, sym, subst}
use Rattle.replica.specs.declared.refusals.StoreRefused.{StoreRefused}
use Rattle.store_steps.specs.Views.{SessionView}
use Rattle.store.specs.Sessions.{StoreView, install_of, new_program}
use Rattle.store.specs.Polled.{TellsPost}
use Rattle.store.specs.Within.{within_refusal}
use Rattle.host_calls.specs.CallResults.{TellsUpdate}
use Rattle.host_calls.proofs.Posted.{asked_for, none_of, posted_then}
use Rattle.host_calls.proofs.attached.Attached.install_within.Goals as goal

pub returns-in-Ok-Some-clause-tells : goal.returns-in-Ok-Some-clause-tells
returns-in-Ok-Some-clause-tells c =
    let op = install_of c.args.mode c.args.argument c.args.bytes.now in
    let refused : StoreView → Option StoreRefused = λ z. within_refusal z.catalogue.shapes z.catalogue.long c.args.maps (new_program c.args.mode c.args.argument c.args.bytes.now) in
    let old = c.self.inside.session in
    let is_old : old ≡ c.args.self.now.session = search rules in
    let is_of : c.deref.result.now ≡ c.args.self.now.store = search rules in
    let idle : c.args.self.now.session.note.pending ≡ None = search rules in
    let posted = c.try_install_within in
    let some = c.in-Ok-Some in
    let none = none_of (refused c.deref.result.now) (λ r is. let no = (some.ensures.early r is).0 in absurd cc) in
    let at = subst (λ (x : Option (Unit {0})). TellsPost old posted.new.self op (Ok x)) some.field-0-is (some.ensures.posted none) in
    let after = c.go_on-in-Ok-Some in
    let told = posted_then op (refused c.deref.result.now) old posted.new.self after.new.self.session after.result (subst (λ (s : SessionView). s.note.pending ≡ None) (sym is_old) idle) none (asked_for old posted.new.self op at) posted.ensures.session.same.1 posted.ensures.session.grown posted.ensures.session.gone after.ensures.grown after.ensures.tells in
    subst (λ (s : SessionView). TellsUpdate op (refused c.args.self.now.store) s after.new.self.session after.result) is_old
    (subst (λ (z : StoreView). TellsUpdate op (refused z) old after.new.self.session after.result) is_of told)
