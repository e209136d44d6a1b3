use Rattle.std.proofs.Common.{ap, ◌∙◌}
use Rattle.store_steps.specs.Views.{SessionView}
use Rattle.store.proofs.Between.{idle_at}
use Rattle.store.proofs.polled.Polled.into_session.Goals as goal

pub new-requires-clause-idle : goal.new-requires-clause-idle
new-requires-clause-idle c =
    let s = c.self.inside in
    let none = ap (λ (z : SessionView). z.note.pending) c.self.view_is ∙ c.requires.idle in
    idle_at s.seat s.caller s.batch s.replies s.stage c.self.invariant.0 none
