use Rattle.std.proofs.Common.{◌≡◌, ◌+◌, ◌<◌, ◌≤◌, length, get_or, ◌∙◌, refl, sym, subst, arith, inl, inr}
use Rattle.realtime.specs.declared.histories.Timed.{Timed}
use Rattle.realtime.specs.Judging.{AreTurns, IsFirstOut}
use Rattle.realtime.proofs.Turning.{turns_none, first_none, first_skip, first_kept, first_found, first_is, turns_skip, none_begins, one_begins, one_index}
use Rattle.realtime.proofs.orders.first_out_of_turn.Goals as goal
use Rattle.realtime.proofs.orders.first_out_of_turn.Goals.{then-k-calls, then-k-first+then-is_out_of_turn, else-k-first, else-k-first-via-then-k-first+else-is_out_of_turn, else-k-first-via-else-k-first, else-k-calls}

pub loop-x-init : goal.loop-x-init
loop-x-init c = (turns_none c.args.calls.now, first_none c.args.calls.now)

pub loop-x-preserved : goal.loop-x-preserved
loop-x-preserved c =
    let zero : Timed = record { session = 0; line = 0; begun = 0; ended = 0; rank = 0 } in
    let calls = c.args.calls.now in
    let begins = c.args.begins.now in
    let numbers = length begins in
    let good = c.requires.good in
    let begin = c.requires.all in
    let x = c.loop-x.x in
    let first = c.loop-x.first in
    let turns = c.loop-x.turns in
    let h = c.loop-x.invariant in
    let k = get_or begins x 0 in
    let inside : x < length begins = omega arith in
    let at : get_or begins x 0 ≡ k = refl in
    let one = one_index numbers calls good begins begin x k in
    elim c.if-k-calls.branch [
      | then-k-calls w ↦
          let within : k < length calls = omega arith in
          let call = get_or calls k zero in
          let here = one_begins numbers calls good begins begin x k zero inside at within in
          let kept : AreTurns calls (x + 1) w.keep.new.self =
          subst (λ y. AreTurns calls (y + 1) w.keep.new.self) here.0 (w.keep.ensures calls (subst (λ y. AreTurns calls y turns) (sym here.0) h.0) here.1) in
          let least : IsFirstOut calls (x + 1) w.if-k-first.first =
          elim w.if-k-first.branch [
            | then-k-first+then-is_out_of_turn v ↦
                let out = v.is_out_of_turn.ensures calls (subst (λ y. AreTurns calls y turns) (sym here.0) h.0) here.1 in
                rw v.first-is (first_found calls x first h.1 k zero within (λ j d. one j d at) v.if-k-first.true (sym out ∙ v.if-is_out_of_turn.true))
            | else-k-first v ↦ elim v.else-k-first.branch [
              | else-k-first-via-then-k-first+else-is_out_of_turn u ↦
                  let out = u.is_out_of_turn.ensures calls (subst (λ y. AreTurns calls y turns) (sym here.0) h.0) here.1 in
                  rw v.first-is (first_kept calls x first h.1 k zero within (λ j d. one j d at) (inr (sym out ∙ u.if-is_out_of_turn.false)))
              | else-k-first-via-else-k-first u ↦ rw v.first-is (first_kept calls x first h.1 k zero within (λ j d. one j d at) (inl u.if-k-first.false))
            ]
          ] in
          (rw w.turns-is kept, rw w.first-is least)
      | else-k-calls w ↦
          let past : length calls ≤ get_or begins x 0 = omega (arith, at) in
          let none = none_begins numbers calls good begins begin x past in
          (rw w.turns-is (turns_skip calls x turns none h.0), rw w.first-is (first_skip calls x first h.1 none))
    ]

pub returns : goal.returns
returns c =
    let calls = c.args.calls.now in
    let all : c.loop-x.x ≡ length c.args.begins.now = omega arith in
    first_is (length c.args.begins.now) calls c.loop-x.first c.requires.good (subst (λ y. IsFirstOut calls y c.loop-x.first) all c.loop-x.invariant.1)
