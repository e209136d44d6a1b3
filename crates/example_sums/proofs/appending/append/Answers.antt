use Rattle.std.proofs.Common.{◌+◌, ◌≤◌, length, sym, ap, subst, arith, ◌∙◌}
use Rattle.example_sums.specs.Sums.{StartsWith, moved_progress}
use Rattle.example_sums.specs.Laws.{starts_on}
use Rattle.ownlock.proofs.Export.{one_known}
use Rattle.example_sums.proofs.Puts.{outcome, puts_list, puts_sum, reaches, sum_of_raised, one_more, none_more, counts, counts_none, sum_moves_nothing, stands_behind, raised_low}
use Rattle.example_sums.proofs.Taken.{both, list_at, sum_left, is_list, may_follow, nothing_left}
use Rattle.example_sums.proofs.appending.append.Goals as goal

pub extend-appended-requires : goal.extend-appended-requires
extend-appended-requires g c =
    let i = c.requires.idle in
    let t = c.take-follower.ensures.taken i.0 i.1 in
    let u = c.take-leader.ensures.taken t.0 t.2 in
    is_list i.0 u.0 c.take-follower.result.value c.take-leader.result.value (both i.0 t.0 u.0 c.take-follower.result.value c.take-leader.result.value t.1 u.1)

pub catch_up-requires : goal.catch_up-requires
catch_up-requires g c =
    let i = c.requires.idle in
    let w = c.take-follower.result.value in
    let x = c.take-leader.result.value in
    let y = c.extend-appended.new.value in
    let t = c.take-follower.ensures.taken i.0 i.1 in
    let u = c.take-leader.ensures.taken t.0 t.2 in
    let o = outcome c.extend-appended.result x y c.args.item c.extend-appended.ensures in
    may_follow i.0 u.0 w x (both i.0 t.0 u.0 w x t.1 u.1) y o.0 o.1

pub put-requires-clause-may : goal.put-requires-clause-may
put-requires-clause-may g c =
    let i = c.requires.idle in
    let w = c.take-follower.result.value in
    let x = c.take-leader.result.value in
    let y = c.extend-appended.new.value in
    let t = c.take-follower.ensures.taken i.0 i.1 in
    let u = c.take-leader.ensures.taken t.0 t.2 in
    let o = outcome c.extend-appended.result x y c.args.item c.extend-appended.ensures in
    (u.0, u.2, puts_list u.0 0 _ x y o.0 c.take-leader.new.seat.sessions c.take-leader.ensures.same.1 (list_at i.0 u.0 w x (both i.0 t.0 u.0 w x t.1 u.1)) o.1 u.2)

pub raise-requires-clause-may : goal.raise-requires-clause-may
raise-requires-clause-may g c =
    let i = c.requires.idle in
    let t = c.take-follower.ensures.taken i.0 i.1 in
    let u = c.take-leader.ensures.taken t.0 t.2 in
    let p = c.put.ensures.put u.0 u.2 in
    (_, p.2, reaches p.0 c.extend-appended.new.value c.catch_up.new.follower _ _ c.catch_up.ensures c.tail_and_sum-tail.ensures)

pub put-requires-2-clause-may : goal.put-requires-2-clause-may
put-requires-2-clause-may g c =
    let i = c.requires.idle in
    let w = c.take-follower.result.value in
    let x = c.take-leader.result.value in
    let y = c.extend-appended.new.value in
    let z = c.catch_up.new.follower in
    let t = c.take-follower.ensures.taken i.0 i.1 in
    let u = c.take-leader.ensures.taken t.0 t.2 in
    let b = both i.0 t.0 u.0 w x t.1 u.1 in
    let p = c.put.ensures.put u.0 u.2 in
    let r = c.raise.ensures.raised _ p.2 in (
      _,
      r.4,
      puts_sum _ 0 _ w z c.raise.new.seat.sessions r.4 c.take-follower.ensures.same.1 (sum_left i.0 u.0 w x b _ c.take-leader.ensures.same.1)
          (sum_of_raised p.0 r.0 y z _ _ c.catch_up.ensures c.tail_and_sum-tail.ensures r.1.0.0),
    )

pub returns-in-Ok-clause-note : goal.returns-in-Ok-clause-note
returns-in-Ok-clause-note g c k is =
    let i = c.requires.idle in
    let w = c.take-follower.result.value in
    let x = c.take-leader.result.value in
    let y = c.extend-appended.new.value in
    let z = c.catch_up.new.follower in
    let t = c.take-follower.ensures.taken k is in
    let u = c.take-leader.ensures.taken t.0 t.2 in
    let b = both k t.0 u.0 w x t.1 u.1 in
    let o = outcome c.extend-appended.result x y c.args.item c.extend-appended.ensures in
    let p = c.put.ensures.put u.0 u.2 in
    let r = c.raise.ensures.raised _ p.2 in
    let v = c.put-2.ensures.put _ r.4 in
    let idle = ap (λ m. m.held) (one_known c.args.seat.now k i.0 is i.1) ∙ i.2 in
    let sum = sum_of_raised p.0 r.0 y z _ _ c.catch_up.ensures c.tail_and_sum-tail.ensures r.1.0.0 in
    let one = one_more c.extend-appended.result _ _ _ o.2 c.in-Ok.is in
    let note = counts_none _ z c.raise.new.seat.sessions _ sum ∙ (counts u.0 b.notes x y o.0 c.take-leader.new.seat.sessions b.list o.1 u.2 ∙ (ap (λ n. n + length o.0) b.note ∙ ap (λ l. k.note + length l) one)) in
    let still = sum_moves_nothing _ z v.0 sum in
    let up = v.1.1.0.0.1 in (
      _,
      v.2,
      (
        b.session,
        nothing_left k u.0 w x b _ _ c.take-leader.ensures.same.1 c.take-follower.ensures.same.1 idle,
        (
          note,
          stands_behind u.0.progress p.0 _ b.notes x y z o.0 c.args.item k.progress.items _ _ b.list o.1 c.catch_up.ensures c.tail_and_sum-tail.ensures b.start
              (subst (λ l. StartsWith (moved_progress y p.0).items l.items) (sym still) (starts_on _ _ _ r.1.0.0 v.1.1.0.0.0))
              (subst (λ l. c.tail_and_sum-tail.result.0 ≤ l.completed) (sym still) (raised_low r.0 _ v.0 up)) one,
        ),
      ),
    )

pub returns-in-Err-clause-note : goal.returns-in-Err-clause-note
returns-in-Err-clause-note g c k is =
    let i = c.requires.idle in
    let w = c.take-follower.result.value in
    let x = c.take-leader.result.value in
    let y = c.extend-appended.new.value in
    let z = c.catch_up.new.follower in
    let t = c.take-follower.ensures.taken k is in
    let u = c.take-leader.ensures.taken t.0 t.2 in
    let b = both k t.0 u.0 w x t.1 u.1 in
    let o = outcome c.extend-appended.result x y c.args.item c.extend-appended.ensures in
    let p = c.put.ensures.put u.0 u.2 in
    let r = c.raise.ensures.raised _ p.2 in
    let v = c.put-2.ensures.put _ r.4 in
    let none = none_more c.extend-appended.result _ _ _ o.2 c.in-Err.is in
    let much = counts u.0 b.notes x y o.0 c.take-leader.new.seat.sessions b.list o.1 u.2 ∙ (ap (λ n. n + length o.0) b.note ∙ ap (λ l. k.note + length l) none) in (
      _,
      v.2,
      (
        b.session,
        nothing_left k u.0 w x b _ _ c.take-leader.ensures.same.1 c.take-follower.ensures.same.1 (ap (λ m. m.held) (one_known c.args.seat.now k i.0 is i.1) ∙ i.2),
        counts_none _ z c.raise.new.seat.sessions _ (sum_of_raised p.0 r.0 y z _ _ c.catch_up.ensures c.tail_and_sum-tail.ensures r.1.0.0) ∙ omega (arith, much),
      ),
    )
