-- What a list on a lane tells, by what it does on the sessions there.
use Rattle.std.proofs.Common.{◌≡◌, ℕ, ◌<◌, ◌≤◌, List, length, get_or, refl, sym, ap, ◌∙◌, subst, arith}
use Rattle.std.specs.Arc.{arc_value}
use Rattle.ownlock.specs.Seats.{At}
use Rattle.store_steps.specs.Views.{SessionView}
use Rattle.store.specs.Pipelines.{EachGoesOn, OthersStay}
use Rattle.store.specs.PolledPipelines.{AreWaiting}
use Rattle.store.specs.Sessions.{StoreView}
use Rattle.store_steps.specs.declared.steps.Question.{Question}
use Rattle.host_calls.specs.declared.handles.Outcome.{Outcome}
use Rattle.host_calls.specs.declared.lanes.Home.{Home}
use Rattle.host_calls.specs.declared.lanes.Listed.{Listed}
use Rattle.host_calls.specs.declared.lanes.Listed.TheVariants.{Answered, NoWord}
use Rattle.host_calls.specs.Homes.{AreAtHome, attached_of}
use Rattle.host_calls.specs.Lanes.{AreOneLane, AreSame, HasRoomFor, TellsBegun, TellsList, TellsOutList, sessions_in}
use Rattle.host_calls.specs.Views.{AttachedView}
use Rattle.host_calls.proofs.Homes.{as_long, home_on, same_on, same_self, seen, sessions_are, store_of}
use Rattle.store.proofs.Export.{stands}

-- the first home
pub first_at : (homes : List Home) (h : Home) → 0 < length homes → h ≡ get_or homes 0 h → At 0 h homes
first_at homes h some is = subst (λ (z : Home). At 0 z homes) (sym is) (stands homes 0 h some)

module _ (homes : List Home) (ss : List SessionView) (lane : List AttachedView) (home : AreAtHome homes ss) (is : attached_of homes ss ≡ lane) where
  sessions : sessions_in lane ≡ ss
  sessions = seen homes ss lane home.count is

  pub long_lane : length lane ≡ length ss
  long_lane = ap length (sym is) ∙ as_long homes ss home.count

  module _ (asked : List Question) (before : List Outcome) (out : ℕ) (waits : AreWaiting out ss) (few : out ≤ length ss) where
    waiting : AreWaiting out (sessions_in lane) × (out ≤ length lane)
    waiting = let long = long_lane in (subst (AreWaiting out) (sym sessions) waits, omega (arith, few, long))

    pub tells_short : (new : List AttachedView) → new ≡ lane → 0 < out → length before < out
        → TellsList asked before before lane new NoWord
    tells_short new same some less = record {
      out = out;
      waiting = waiting;
      same = subst (AreSame lane) (sym same) (same_self lane);
      goes_on = λ _ room. absurd (omega (arith, room, less));
      short = λ _ _. (refl, refl, same);
      begins = λ none _ _. absurd (omega (arith, none, some));
      none = λ none _. absurd (omega (arith, none, some));
      long = λ none _. absurd (omega (arith, none, some));
    }

    pub tells_long : (new : List AttachedView) → new ≡ lane → out ≡ 0 → (HasRoomFor asked before lane → ⊥)
        → TellsList asked before before lane new NoWord
    tells_long new same none never = record {
      out = out;
      waiting = waiting;
      same = subst (AreSame lane) (sym same) (same_self lane);
      goes_on = λ some _. absurd (omega (arith, none, some));
      short = λ some _. absurd (omega (arith, none, some));
      begins = λ _ _ room. absurd (never room);
      none = λ _ empty. absurd (never (omega (arith, empty), omega (arith, empty)));
      long = λ _ _. (refl, refl, same);
    }

    pub tells_none : (new : List AttachedView) → new ≡ lane → out ≡ 0 → length asked ≡ 0
        → TellsList asked before before lane new (Answered 0)
    tells_none new same none empty = record {
      out = out;
      waiting = waiting;
      same = subst (AreSame lane) (sym same) (same_self lane);
      goes_on = λ some _. absurd (omega (arith, none, some));
      short = λ some _. absurd (omega (arith, none, some));
      begins = λ _ some _. absurd (omega (arith, some, empty));
      none = λ _ _. (refl, refl, same);
      long = λ _ never. absurd (never (omega (arith, empty), omega (arith, empty)));
    }

    module _ (new : List SessionView) (after : List Outcome) (told : Listed) (h : Home) (first : At 0 h homes) (store : StoreView) (its : arc_value h.store ≡ store) (on : EachGoesOn store ss new) where
      now : sessions_in (attached_of homes new) ≡ new
      now = sessions_are homes new (home.count ∙ sym on.0)

      only : (z : StoreView) → AreOneLane z lane → store ≡ z
      only z one = sym its ∙ store_of homes ss z home.count (subst (AreOneLane z) (sym is) one) 0 h first

      same : AreSame lane (attached_of homes new)
      same = subst (λ (z : List AttachedView). AreSame z (attached_of homes new)) is (same_on homes ss new store home.count on)

      both : (P : List SessionView → List SessionView → Type 0) → P ss new
          → P (sessions_in lane) (sessions_in (attached_of homes new))
      both P p = subst (λ (z : List SessionView × List SessionView). P z.0 z.1) (λ i. ((sym sessions) i, (sym now) i)) p

      goes : (z : StoreView) → AreOneLane z lane → EachGoesOn z (sessions_in lane) (sessions_in (attached_of homes new))
      goes z one = both (EachGoesOn z) (subst (λ (y : StoreView). EachGoesOn y ss new) (only z one) on)

      pub still_home : AreAtHome homes new
      still_home = home_on homes ss new store home on (λ i g at. home.one i 0 g h at first ∙ its)

      pub tells_on : 0 < out → OthersStay out ss new → TellsOutList before after ss new out told
          → out ≤ length before → TellsList asked before after lane (attached_of homes new) told
      tells_on some others t room = record {
        out = out;
        waiting = waiting;
        same = same;
        goes_on = λ _ _. (both (OthersStay out) others, both (λ x y. TellsOutList before after x y out told) t, goes);
        short = λ _ less. absurd (omega (arith, room, less));
        begins = λ none _ _. absurd (omega (arith, none, some));
        none = λ none _. absurd (omega (arith, none, some));
        long = λ none _. absurd (omega (arith, none, some));
      }

      pub tells_begun : out ≡ 0 → 0 < length asked → length asked ≤ length ss → length asked ≤ length before
          → OthersStay (length asked) ss new → TellsBegun store asked before after ss new told
          → TellsList asked before after lane (attached_of homes new) told
      tells_begun none some fits room others t = record {
        out = out;
        waiting = waiting;
        same = same;
        goes_on = λ more _. absurd (omega (arith, none, more));
        short = λ more _. absurd (omega (arith, none, more));
        begins = λ _ _ _. (
          both (OthersStay (length asked)) others,
          λ z one. (goes z one, both (λ x y. TellsBegun z asked before after x y told) (subst (λ (y : StoreView). TellsBegun y asked before after ss new told) (only z one) t)),
        );
        none = λ _ empty. absurd (omega (arith, some, empty));
        long = λ _ never. absurd (never ((let long = long_lane in omega (arith, fits, long)), room));
      }
