-- What is told of a list that was begun, and went on.
use Rattle.std.proofs.Common.{◌≡◌, ℕ, ◌<◌, ◌≤◌, List, length, sym, ap, ◌∙◌, subst, arith, None, Some, Option, MatchOption}
use Rattle.std.proofs.lemmas.Option.{none-some}
use Rattle.ownlock.specs.Seats.{At}
use Rattle.accounts.proofs.Export.{at_below, at_one, at_there}
use Rattle.accounts.specs.declared.sessions.Pending.{Pending}
use Rattle.accounts.specs.declared.sessions.SessionNote.{SessionNote}
use Rattle.verifier.specs.declared.refusal.Mode.TheVariants.{Update}
use Rattle.replica.specs.Refusals.{store_fault_number}
use Rattle.store_steps.specs.declared.questions.QuestionRefused.{QuestionRefused}
use Rattle.store_steps.specs.declared.steps.Question.{Question}
use Rattle.store_steps.specs.Questions.{first_refused_in}
use Rattle.store_steps.specs.Views.{SessionView}
use Rattle.store.specs.Opening.{AreOf}
use Rattle.store.specs.Pipelines.{EachGoesOn, OthersStay}
use Rattle.store.specs.PolledPipelines.{AreWaiting, EachAsks}
use Rattle.store.specs.Sessions.{StoreView}
use Rattle.store.proofs.Export.{goes_then}
use Rattle.host_calls.specs.declared.handles.Outcome.{Outcome}
use Rattle.host_calls.specs.declared.lanes.Listed.{Listed}
use Rattle.host_calls.specs.declared.lanes.Listed.TheVariants.{Busy, Again, Answered, Refused, NotOpen, NoWord}
use Rattle.host_calls.specs.Lanes.{TellsBegun, TellsNewList, TellsOutList}
use Rattle.host_calls.specs.Statuses.{letter_S, refusal}

-- a list that was posted went on
pub new_list : (store : StoreView) (calls : List Question) (before after : List Outcome) (old posted new : List SessionView) (told : Listed)
    → EachGoesOn store old posted → EachAsks old posted calls → EachGoesOn store posted new
    → TellsOutList before after posted new (length calls) told → TellsNewList store calls before after old new told
new_list store calls before after old posted new Busy first asks more t = absurd t
new_list store calls before after old posted new Again first asks more t = (posted, first, asks, more, t)
new_list store calls before after old posted new (Answered n) first asks more t = (posted, first, asks, more, t)
new_list store calls before after old posted new (Refused status number) first asks more t = absurd t
new_list store calls before after old posted new NotOpen first asks more t = absurd t
new_list store calls before after old posted new NoWord first asks more t = absurd t

pub on_and_on : (store : StoreView) (old mid new : List SessionView) → EachGoesOn store old mid
    → EachGoesOn store mid new → EachGoesOn store old new
on_and_on store old mid new x y = (
  y.0 ∙ x.0,
  λ j s t at there.
      let below = at_below old j s at in
      let long = x.0 in
      let m = at_there mid j (omega (arith, below, long)) in
      goes_then store s m.0 t (x.1 j s m.0 at m.1) (y.1 j m.0 t m.1 there),
)

-- those that have posted their calls wait
pub waits_now : (old posted : List SessionView) (calls : List Question) → length posted ≡ length old
    → length calls ≤ length old → AreWaiting 0 old → EachAsks old posted calls
    → OthersStay (length calls) old posted → AreWaiting (length calls) posted
waits_now old posted calls same few idle asks others j t at = (λ below. first below, λ above. rest above)
  where
    was : (s : SessionView) × At j s old
    was = let below = at_below posted j t at in at_there old j (omega (arith, below, same))

    first : j < length calls → (o : Pending) × (t.note.pending ≡ Some o)
    first below =
        let q = at_there calls j below in
        let a = (asks j was.0 t q.0 was.1 at q.1).0 in
        (a.0, ap (λ (n : SessionNote). n.pending) a.3)

    rest : length calls ≤ j → t.note.pending ≡ None
    rest above =
        let there = others j was.0 above was.1 in
        subst (λ (z : SessionView). z.note.pending ≡ None) (at_one posted j was.0 t there at) ((idle j was.0 was.1).1 (omega arith))

-- a list that is out is none that isn't
pub is_out : (count : ℕ) (ss : List SessionView) → 0 < count → count ≤ length ss → AreWaiting count ss
    → AreWaiting 0 ss → ⊥
is_out count ss some few out idle =
    let s = at_there ss 0 (omega (arith, some, few)) in
    let o = (out 0 s.0 s.1).0 some in
    none-some o.0 (sym ((idle 0 s.0 s.1).1 (omega arith)) ∙ o.1)

pub own_on : (store : StoreView) (old new : List SessionView) → EachGoesOn store old new → AreOf store new
own_on store old new on j t there =
    let below = at_below new j t there in
    let long = on.0 in
    let s = at_there old j (omega (arith, below, long)) in
    (on.1 j s.0 t s.1 there).own

pub begun_told : (store : StoreView) (calls : List Question) (before after : List Outcome) (old new : List SessionView) (told : Listed) → first_refused_in Update store.catalogue 0 calls ≡ None
    → TellsNewList store calls before after old new told → TellsBegun store calls before after old new told
begun_told store calls before after old new told none t =
    subst (λ (o : Option QuestionRefused). MatchOption o (TellsNewList store calls before after old new told)
    (λ (why : QuestionRefused). (told ≡ Refused (refusal letter_S (store_fault_number why.refused)) why.number) × (after ≡ before) × (new ≡ old))) (sym none) t
