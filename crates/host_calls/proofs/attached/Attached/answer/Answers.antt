use Rattle.std.proofs.Common.{rules, ◌≡◌, length, None, refl, sym, subst}
use Rattle.store_steps.specs.Questions.{first_refused}
use Rattle.store_steps.specs.Views.{SessionView}
use Rattle.store.specs.Looks.{IsSight, HaveReplies}
use Rattle.store.specs.Sessions.{StoreView}
use Rattle.host_calls.specs.declared.attached.Looked.{Looked}
use Rattle.host_calls.specs.declared.attached.Looked.TheVariants.{Seen}
use Rattle.host_calls.specs.declared.handles.TheConstants.{AT_END}
use Rattle.host_calls.specs.Looks.{TellsLook, TellsReplies, look_each, no_read}
use Rattle.host_calls.proofs.CatchingUp.{catches_up}
use Rattle.host_calls.proofs.Looking.{tried_told}
use Rattle.host_calls.proofs.attached.Attached.answer.Goals as goal

pub returns-clause-tells : goal.returns-clause-tells
returns-clause-tells c =
    let before = c.args.self.now in
    let old = c.self.inside.session in
    let tried = c.try_read_each-tried in
    let h = tried.ensures in
    let asked = c.args.questions.now in
    let after = tried.new.replies in
    let is_old : old ≡ before.session = search rules in
    let is_of : c.deref.result.now ≡ before.store = search rules in
    let idle : before.session.note.pending ≡ None = search rules in
    let is : look_each (length asked) tried.result ≡ c.look_each.result = search rules in
    let told = tried_told no_read (λ point. Seen point (length asked) AT_END) (after ≡ c.args.replies.now) (IsSight (HaveReplies asked after) (λ point. point) old tried.new.self) (TellsReplies asked after old tried.new.self)
    (λ point t. record { point = point; seen = refl; answers = (t.0, t.1); up = catches_up old tried.new.self point t.2.0 })
    (first_refused c.deref.result.now.catalogue 0 asked) old tried.new.self tried.result h.early h.kept h.told
    (subst (λ (s : SessionView). s.note.pending ≡ None) (sym is_old) idle) (record { grown = h.session.grown; well_formed = h.session.well_formed; gone = h.session.gone }) h.note in
    subst (λ (told' : Looked). TellsLook (first_refused before.store.catalogue 0 asked) no_read (after ≡ c.args.replies.now) (TellsReplies asked after before.session tried.new.self) before.session tried.new.self told') is
    (subst (λ (s : SessionView). TellsLook (first_refused before.store.catalogue 0 asked) no_read (after ≡ c.args.replies.now) (TellsReplies asked after s tried.new.self) s tried.new.self (look_each (length asked) tried.result)) is_old
    (subst (λ (z : StoreView). TellsLook (first_refused z.catalogue 0 asked) no_read (after ≡ c.args.replies.now) (TellsReplies asked after old tried.new.self) old tried.new.self (look_each (length asked) tried.result)) is_of told))
