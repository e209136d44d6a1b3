-- A session moves into a lane, or out of it, by their handles.
use Rattle.std.proofs.Common.{◌≡◌, List, [], ◌∷◌, ◌++◌, refl, sym, subst, None, Some, Option, MatchOption, Bool, true, false}
use Rattle.accounts.specs.declared.sessions.Pending.{Pending}
use Rattle.host_calls.specs.declared.attached.Attached.{Attached}
use Rattle.host_calls.specs.declared.handles.LaneHandle.{LaneHandle}
use Rattle.host_calls.specs.declared.handles.SessionHandle.{SessionHandle}
use Rattle.host_calls.specs.declared.lanes.Lane.{Lane}
use Rattle.host_calls.specs.Lanes.{AreIdleBoth, IsIdleLane, IsStatusAlone, Joins, JoinsTo, Leaves, LeavesFrom, MayJoin, StaysOut}
use Rattle.host_calls.specs.Statuses.{done, not_open, not_ours}
use Rattle.host_calls.specs.Views.{AttachedView}
use Rattle.host_calls.specs.Words.{HasNewWords}

pub none_if : (p : Option Pending) (b : Bool) → MatchOption p (b ≡ false) (λ _. b ≡ true) → b ≡ false → p ≡ None
none_if None b told e = refl
none_if (Some o) b told e = absurd cc

pub joins_open : (before after : LaneHandle) (session left : SessionHandle) (l l' : Lane) (a : Attached)
    → before.own ≡ Some l → after.own ≡ Some l' → session.own ≡ Some a
    → IsStatusAlone before.answered after.answered
    → JoinsTo l l' a session left after.answered.status → Joins before session after left
joins_open before after session left l l' a was is had words to = record {
  answered = words;
  joins = subst (λ (z : Option Lane × (Option Lane × Option Attached)). MatchOption z.0 ((after.own ≡ None) × (left ≡ session) × (after.answered.status ≡ not_open))
      (λ m. MatchOption z.1.0 ⊥ (λ m'. MatchOption z.1.1 (StaysOut m m' session left after.answered.status not_open) (λ b. JoinsTo m m' b session left after.answered.status))))
      (λ i. ((sym was) i, ((sym is) i, (sym had) i))) to;
}

pub joins_done : (lane now : List AttachedView) (a : AttachedView) (session left : SessionHandle) → AreIdleBoth lane a
    → left.own ≡ None → left ≡ record session { own = None } → now ≡ lane ++ a ∷ [] → MayJoin lane a
    → JoinsTo lane now a session left done
joins_done lane now a session left idle own is more may = record {
  idle = λ _. subst (λ (o : Option Attached). MatchOption o (MayJoin lane a × (now ≡ lane ++ a ∷ []) × (left ≡ record session { own = None }) × (done ≡ done)) (λ b. (MayJoin lane a → ⊥) × StaysOut lane now session left done not_ours))
      (sym own) (may, more, is, refl);
  out = λ busy. absurd (busy idle);
}

pub joins_not : (lane now : List AttachedView) (a b : AttachedView) (session left : SessionHandle)
    → AreIdleBoth lane a → left.own ≡ Some b → left ≡ session → now ≡ lane → (MayJoin lane a → ⊥)
    → JoinsTo lane now a session left not_ours
joins_not lane now a b session left idle own is same never = record {
  idle = λ _. subst (λ (o : Option Attached). MatchOption o (MayJoin lane a × (now ≡ lane ++ a ∷ []) × (left ≡ record session { own = None }) × (not_ours ≡ done)) (λ b'. (MayJoin lane a → ⊥) × StaysOut lane now session left not_ours not_ours))
      (sym own) (never, (same, is, refl));
  out = λ busy. absurd (busy idle);
}

pub leaves_open : (before after : LaneHandle) (given : SessionHandle) (l l' : Lane) (a : Attached)
    → before.own ≡ Some l → after.own ≡ Some l' → given.own ≡ Some a
    → IsStatusAlone before.answered after.answered → HasNewWords given after.answered.status
    → after.answered.status ≡ done → IsIdleLane l → l ≡ l' ++ a ∷ [] → Leaves before after given
leaves_open before after given l l' a was is own words fresh ok idle less = record {
  answered = words;
  words = fresh;
  leaves = subst (λ (z : Option Lane × Option Lane). MatchOption z.0 ((after.own ≡ None) × (given.own ≡ None) × (after.answered.status ≡ not_open))
      (λ m. MatchOption z.1 ⊥ (λ m'. LeavesFrom m m' given after.answered.status)))
      (λ i. ((sym was) i, (sym is) i)) (record {
        idle = λ _. subst (λ (o : Option Attached). MatchOption o ((l ≡ []) × (l' ≡ []) × (after.answered.status ≡ not_open)) (λ b. (l ≡ l' ++ b ∷ []) × (after.answered.status ≡ done))) (sym own) (less, ok);
        out = λ busy. absurd (busy idle);
      });
}
