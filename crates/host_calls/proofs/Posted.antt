-- A call that posts an update and goes on with it.
use Rattle.std.proofs.Common.{◌≡◌, ◌≤◌, [], length, refl, None, Some, Option, Result, Ok, MatchOption, sym, ap, subst, ◌∙◌}
use Rattle.oplog.specs.Operations.{Operation}
use Rattle.combiner.specs.declared.slots.Reply.{Reply}
use Rattle.combiner.specs.declared.slots.Reply.TheVariants.{Placed, Ended}
use Rattle.replica.specs.StoreMeaning.{store_meaning}
use Rattle.replica.specs.declared.refusals.StoreRefused.{StoreRefused}
use Rattle.accounts.specs.declared.sessions.Pending.{Pending}
use Rattle.accounts.specs.declared.sessions.SessionNote.{SessionNote}
use Rattle.accounts.specs.Accounts.{Extends}
use Rattle.accounts.specs.Moves.{answered_with, posted_with}
use Rattle.accounts.specs.Told.{Tells}
use Rattle.store_steps.specs.Polling.{HasAskedFor}
use Rattle.store_steps.specs.Stages.{TellsDone}
use Rattle.store_steps.specs.Views.{SessionView, known_of}
use Rattle.store_steps.proofs.Export.{store_laws}
use Rattle.store_laws.specs.Gone.{GoneOn}
use Rattle.store.specs.declared.answers.Answer.{Answer}
use Rattle.store.specs.Polled.{HasPostedFor, TellsAnswer}
use Rattle.store.specs.declared.updating.Tried.{Tried}
use Rattle.store.specs.declared.updating.Tried.TheVariants.{Busy as StillHeld, Waits, Ends}
use Rattle.store.specs.Sessions.{SessionGoesOn, StoreView, said}
use Rattle.store.specs.Asking.{AsksAndGoesOn, TellsTried}
use Rattle.store.proofs.Export.{gone_then}
use Rattle.host_calls.specs.declared.attached.CallResult.{CallResult}
use Rattle.host_calls.specs.declared.attached.CallResult.TheVariants.{Busy, Again, Answered, Refused, NotOpen, IsOut, NoWord, Allowed}
use Rattle.host_calls.specs.CallResults.{HasGrown, answered, posted_as, tried_call, TellsOut, TellsPosting, TellsRefused, TellsUpdate}

pub none_of : {A : Type 0} (x : Option A) → ((a : A) → x ≡ Some a → ⊥) → x ≡ None
none_of None never = refl
none_of (Some a) never = absurd (never a refl)

-- what is told of a request that was posted within the call
out_from : (old mid new : SessionView) (o : Pending) (told : CallResult) → mid.session ≡ old.session
    → record mid.note { batch = [] } ≡ record (posted_with old.note o) { batch = [] } → TellsOut mid new o told
    → TellsOut (posted_as old o) new o told
out_from old mid new o Again same note t = t ∙ note
out_from old mid new o (Answered place reply) same note t =
    let at = subst (λ n. Tells store_meaning new.progress mid.session (length n.answered) o (Placed place reply) × (new.note ≡ answered_with (record n { batch = [] }) o.op (Placed place reply))) note t in
    (subst (λ s. Tells store_meaning new.progress s (length old.note.answered) o (Placed place reply)) same at.0, at.1)
out_from old mid new o (Refused why) same note t =
    let at = subst (λ n. Tells store_meaning new.progress mid.session (length n.answered) o Ended × (new.note ≡ answered_with (record n { batch = [] }) o.op Ended)) note t.1 in
    (t.0, (subst (λ s. Tells store_meaning new.progress s (length old.note.answered) o Ended) same at.0, at.1))
out_from old mid new o Busy same note t = t
out_from old mid new o NotOpen same note t = t
out_from old mid new o IsOut same note t = t
out_from old mid new o NoWord same note t = t
out_from old mid new o Allowed same note t = t

posting : (op : Operation) (old new : SessionView) (o : Pending) (told : CallResult) → o.op ≡ op
    → length old.progress.history ≤ o.seen → TellsOut (posted_as old o) new o told → TellsPosting op old new told
posting op old new o Busy is seen t = absurd t
posting op old new o Again is seen t = (o, is, seen, t)
posting op old new o (Answered place reply) is seen t = (o, is, seen, t)
posting op old new o (Refused why) is seen t = (o, is, seen, t)
posting op old new o NotOpen is seen t = absurd t
posting op old new o IsOut is seen t = absurd t
posting op old new o NoWord is seen t = absurd t
posting op old new o Allowed is seen t = absurd t

-- who has the answer tells it
pub out_answered : (old new : SessionView) (o : Pending) (answer : Result Answer StoreRefused)
    → TellsAnswer old new o answer → TellsOut old new o (answered answer)
out_answered old new o answer (reply, is, done) = subst (λ z. TellsOut old new o (answered z)) (sym is) (by reply done)
  where
    by : (reply : Reply) → TellsDone old new o reply → TellsOut old new o (answered (said reply))
    by (Placed place x) d = d
    by Ended d = (refl, d)

-- who has posted has asked
pub asked_for : (old mid : SessionView) (op : Operation) → HasPostedFor old mid op → HasAskedFor old mid op
asked_for old mid op (o, is, seen, note) = (o, is, seen, ap (λ (n : SessionNote). record n { batch = [] }) note)

pub posted_then : (op : Operation) (refused : Option StoreRefused) (old mid new : SessionView) (told : CallResult)
    → old.note.pending ≡ None → refused ≡ None → HasAskedFor old mid op → mid.session ≡ old.session
    → Extends old.progress mid.progress → GoneOn (known_of old) (known_of mid) → HasGrown mid new
    → ((o : Pending) → mid.note.pending ≡ Some o → TellsOut mid new o told) → TellsUpdate op refused old new told
posted_then op refused old mid new told idle none (o, is, seen, note) same grew went grown tells =
    let at = posting op old new o told is seen (out_from old mid new o told same note (tells o (ap (λ (n : SessionNote). n.pending) note))) in (
      record { grown = store_laws.extends_on _ _ _ grew grown.grown; well_formed = grown.well_formed; gone = gone_then (known_of old) (known_of mid) (known_of new) went grown.gone },
      subst (λ p. MatchOption p (MatchOption refused (TellsPosting op old new told) (λ why. TellsRefused old new told why)) (λ o'. TellsOut old new o' told)) (sym idle)
          (subst (λ r. MatchOption r (TellsPosting op old new told) (λ why. TellsRefused old new told why)) (sym none) at),
    )

-- who has asked and gone on in one call
asked_then : (store : StoreView) (op : Operation) (refused : Option StoreRefused) (old new : SessionView)
    (answer : Option (Result Answer StoreRefused)) (told : CallResult) → old.note.pending ≡ None → refused ≡ None
    → (a : AsksAndGoesOn store old new op answer)
    → ((o : Pending) → a.between.note.pending ≡ Some o → TellsOut a.between new o told)
    → TellsUpdate op refused old new told
asked_then store op refused old new answer told idle none a tells =
    let s = a.asks.session in
    let t = a.goes_on.session in
    let grown : HasGrown a.between new = record { grown = t.grown; well_formed = t.well_formed; gone = t.gone } in
    posted_then op refused old a.between new told idle none a.asks.asked s.same.1 s.grown s.gone grown tells

pub tried_then : (store : StoreView) (op : Operation) (refused : Option StoreRefused) (old new : SessionView)
    → old.note.pending ≡ None → refused ≡ None → SessionGoesOn store old new → (tried : Tried)
    → TellsTried store old new op (Ok tried) → TellsUpdate op refused old new (tried_call tried)
tried_then store op refused old new idle none goes StillHeld told = (
  record { grown = goes.grown; well_formed = goes.well_formed; gone = goes.gone },
  subst (λ p. MatchOption p (MatchOption refused (TellsPosting op old new Busy)
      (λ why. TellsRefused old new Busy why)) (λ o. TellsOut old new o Busy)) (sym idle)
      (subst (λ r. MatchOption r (TellsPosting op old new Busy) (λ why. TellsRefused old new Busy why)) (sym none) told),
)
tried_then store op refused old new idle none goes Waits told =
    asked_then store op refused old new None Again idle none told told.goes_on.completed
tried_then store op refused old new idle none goes (Ends answer) told =
    asked_then store op refused old new (Some answer) (answered answer) idle none told
    (λ o is. out_answered told.between new o answer (told.goes_on.completed o is))
