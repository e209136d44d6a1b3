use Rattle.std.proofs.Common.{◌≡◌, ap, subst, sym, ◌∙◌}
use Rattle.std.proofs.lemmas.Option.{IfSome_then}
use Rattle.std.specs.Prelude.{MatchOption}
use Rattle.ownlock.specs.Knowledge.{MayTake, Takes}
use Rattle.ownlock.specs.Words.{IsSpot}
use Rattle.store_steps.specs.Shelving.{store_rules}
use Rattle.store_steps.proofs.taking.take_log.Goals as goal

pub try_take_by-requires-clause-may : goal.try_take_by-requires-clause-may
try_take_by-requires-clause-may c = let m = c.requires.may in (m.0, m.1, subst (λ z. MayTake store_rules z m.0) (sym c.leader.ensures.1) m.2)

pub returns-clause-place : goal.returns-clause-place
returns-clause-place c = IfSome_then c.try_take_by.result c.try_take_by.ensures.spot (λ h e. ap (λ z. z.place) e ∙ c.leader.ensures.1)

pub returns-clause-there : goal.returns-clause-there
returns-clause-there c = IfSome_then c.try_take_by.result c.try_take_by.ensures.spot (λ h e. subst (IsSpot c.args.shelf.now.places) (sym e) c.leader.ensures.0)

pub returns-clause-taken : goal.returns-clause-taken
returns-clause-taken c = subst (λ z. MatchOption c.try_take_by.result (c.try_take_by.new.seat ≡ c.args.seat.now) (λ h. Takes store_rules c.args.seat.now z h.value c.try_take_by.new.seat)) c.leader.ensures.1 c.try_take_by.ensures.taken
