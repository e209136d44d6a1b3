-- Round after round: what calls that may fail for want of memory leave.
use Rattle.std.proofs.Common.{◌≡◌, ◌∙◌, ℕ, ◌<◌, ◌++◌, List, length, take, drop, sym, ap, subst}
use Rattle.std.specs.Prelude.{Vec, Result, Ok, Err, IfOk, MatchResult, false, is_err}
use Rattle.std.proofs.Math.Seq.{take-append_seam}
use Rattle.store_steps.specs.Views.{SessionView}
use Rattle.stress.specs.declared.calls.ScriptCall.{ScriptCall}
use Rattle.stress.specs.declared.lines.AnsweredCall.{AnsweredCall}
use Rattle.stress.specs.Teams.{AreAtWork, Grow, MakeEach}
use Rattle.stress.proofs.EachTeam.{next_round}

-- what follows, if memory is left
pub if_left : {A E : Type 0} (P Q : A → Type 0) (r : Result A E) → ((v : A) → P v → Q v) → IfOk r P → IfOk r Q
if_left P Q (Ok v) f h = f v h
if_left P Q (Err e) f h = tt

-- what holds unless it failed
pub unless_err : {A E : Type 0} (r : Result A E) (Q : Type 0) → is_err r ≡ false → IfOk r (λ _. Q) → Q
unless_err (Ok v) Q good h = h
unless_err (Err e) Q good h = absurd (let same = good in cc)

module _ {X Y E : Type 0} (n first : ℕ) (calls left : List ScriptCall) (old new : List SessionView) (told now : List (Vec AnsweredCall X)) where
  pub round_more : (size : ℕ) (answers : Result (Vec AnsweredCall Y) E) → length old ≡ size → 0 < n → AreAtWork n first calls left old told → IfOk answers (λ v. MakeEach first (take size left) old new v.items)
      → MatchResult answers (λ a. Grow told now a.items) (λ _. ⊥) → AreAtWork n first calls (drop n left) new now
  round_more size (Ok a) is some work made grown = next_round n first calls left old new told now a.items some work (subst (λ k. MakeEach first (take k left) old new a.items) (sym is) made) grown
  round_more size (Err e) is some work made grown = absurd grown

-- what is written back of lists that were lent
pub written_back : {X : Type 0} (n first : ℕ) (calls left after : List ScriptCall) (sessions : List SessionView) (now rest : List (Vec AnsweredCall X)) (len : ℕ) → length now ≡ len → after ≡ drop n left
    → AreAtWork n first calls (drop n left) sessions now → AreAtWork n first calls after sessions (take len (now ++ rest))
written_back n first calls left after sessions now rest len long is work =
    let back : take len (now ++ rest) ≡ now = ap (λ k. take k (now ++ rest)) (sym long) ∙ take-append_seam now rest in
    subst (AreAtWork n first calls after sessions) (sym back) (subst (λ (cs : List ScriptCall). AreAtWork n first calls cs sessions now) (sym is) work)
