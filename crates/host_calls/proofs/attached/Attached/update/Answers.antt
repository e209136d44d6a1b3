use Rattle.std.proofs.Common.{rules, ◌≡◌, None, sym, subst}
use Rattle.verifier.specs.declared.refusal.Mode.TheVariants.{Update}
use Rattle.replica.specs.Refusals.{early_refusal}
use Rattle.store_steps.specs.Views.{SessionView, op_of}
use Rattle.store.specs.Sessions.{StoreView}
use Rattle.host_calls.specs.declared.attached.CallResult.{CallResult}
use Rattle.host_calls.specs.CallResults.{TellsUpdate}
use Rattle.host_calls.proofs.Posted.{none_of, tried_then}
use Rattle.host_calls.proofs.attached.Attached.update.Goals as goal

pub returns-in-Ok-clause-tells : goal.returns-in-Ok-clause-tells
returns-in-Ok-clause-tells c =
    let before = c.args.self.now in
    let old = c.self.inside.session in
    let store = c.deref.result.now in
    let new = c.try_update.new.self in
    let op = op_of c.args.program c.args.argument.now in
    let refused = λ (z : StoreView). early_refusal z.catalogue Update c.args.program c.args.argument.now in
    let e = c.in-Ok.ensures in
    let is_old : old ≡ before.session = search rules in
    let is_of : store ≡ before.store = search rules in
    let pending : before.session.note.pending ≡ None = search rules in
    let idle = subst (λ (s : SessionView). s.note.pending ≡ None) (sym is_old) pending in
    let none = none_of (refused store) (λ r is. let no = (e.early r is).0 in absurd cc) in
    let tells = tried_then store op (refused store) old new idle none e.session c.in-Ok.tried (e.told none) in
    subst (λ (z : StoreView × SessionView × CallResult). TellsUpdate op (refused z.0) z.1 new z.2)
    (λ j. (is_of j, is_old j, sym c.tried_call.ensures.tried j)) tells
