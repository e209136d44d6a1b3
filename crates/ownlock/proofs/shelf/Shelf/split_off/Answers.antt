use Rattle.std.proofs.Common.{rules, List, sym, ap, ◌∙◌, subst}
use Rattle.atomic_table.specs.Table.{Splits}
use Rattle.ownlock.specs.declared.known.Known.{Known}
use Rattle.ownlock.specs.Seats.{HoldsNone, opened_with}
use Rattle.ownlock.specs.Invariant.{LockInvariant, first_of, others_of}
use Rattle.ownlock.proofs.Seats.{splits_off, left_alone, rest_out}
use Rattle.ownlock.proofs.shelf.Shelf.split_off.Goals as goal

pub split_seat-pass-requires : goal.split_seat-pass-requires
split_seat-pass-requires g c =
    let some = c.requires.some in
    let R = g.V.Shelved.rules in
    let setup = c.self.inside.table.shared.key in
    let opened = opened_with (g.V.Shelved.first_progress setup) (g.V.Shelved.places setup) (g.V.Shelved.first_notes setup) in (
      search rules,
      search rules,
      subst
          (λ (v : List (Known g.row.V-Progress.Denot g.row.V-SessionNote.Denot g.row.V.Denot)). Splits (LockInvariant R opened) c.seat.inside.pass.id v (first_of v) (others_of v))
          (sym (ap (λ z. z.sessions) c.seat.view_is ∙ some.2))
          (splits_off R g.V.Shelved.laws opened c.seat.inside.pass.id some.0 some.1),
    )

pub invariant_of-seat : goal.invariant_of-seat
invariant_of-seat g c = left_alone c.seat.inside.pass.me _ (subst (λ v. HoldsNone (others_of v)) (sym (ap (λ z. z.sessions) c.seat.view_is)) c.requires.idle) c.seat.invariant c.split_seat-pass.ensures.2

pub invariant_of-result : goal.invariant_of-result
invariant_of-result g c = rest_out c.seat.inside.pass.me _ (subst (λ v. HoldsNone (others_of v)) (sym (ap (λ z. z.sessions) c.seat.view_is)) c.requires.idle) c.split_seat-pass.ensures.4
