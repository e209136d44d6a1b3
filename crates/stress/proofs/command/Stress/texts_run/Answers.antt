use Rattle.std.proofs.Common.{rules, sym, ap, subst, ◌∙◌}
use Rattle.engine.specs.Opening.{IsOpened, on_which, opening}
use Rattle.engine.specs.Reading.{texts_read}
use Rattle.stress.proofs.Sizes.{may_open}
use Rattle.stress.proofs.command.Stress.texts_run.Goals as goal

pub script_run-requires-clause-opens : goal.script_run-requires-clause-opens
script_run-requires-clause-opens g c κs within =
    let said = sym (ap on_which c.in-On.is) ∙ c.in_ok-opened.ensures.answered ∙ ap (λ p. opening p (texts_read c.args.texts)) c.places_in.ensures.places in
    may_open c.args.self.now.config (texts_read c.args.texts) c.in-On.catalogue _ c.in-On.state said (search rules) (subst IsOpened c.in-On.is c.in_ok-opened.ensures.opened)
