use Rattle.std.proofs.Common.{rules, sym, ap, ◌∙◌, subst}
use Rattle.ownlock.specs.Seats.{HoldsNone}
use Rattle.ownlock.proofs.Seats.{joins, none_out, joined_idle}
use Rattle.ownlock.proofs.shelf.Shelf.join.Goals as goal

pub join_seat-requires : goal.join_seat-requires
join_seat-requires g c = (
  search rules,
  search rules,
  ap (λ z. z.1) c.into_pass.ensures.sessions ∙ none_out c.args.other.sessions c.requires.idle,
  search rules,
  joins g.V.Shelved.rules g.V.Shelved.laws _ _ _ _ _,
)

pub invariant_of-seat : goal.invariant_of-seat
invariant_of-seat g c = joined_idle c.seat.inside.pass.me c.into_pass.result.me _ (subst (λ v. HoldsNone v) (sym (ap (λ z. z.0) c.into_pass.ensures.sessions)) c.requires.idle) c.seat.invariant c.join_seat.ensures.2
