-- What two sessions were told is what their calls added, which one list of operations explains.
use Rattle.std.proofs.Common.{◌≡◌, ◌+◌, ◌<◌, ◌≤◌, ℕ, [], ◌∷◌, ◌++◌, length, Result, Ok, Err, refl, sym, ap, ◌∙◌, subst, arith, Option, Some, None, List}
use Rattle.std.specs.Prelude.{IfOk, IfSome, slice_get}
use Rattle.std.specs.Result.{result_ok}
use Rattle.std.proofs.lemmas.List.{map-append}
use Rattle.std.proofs.lemmas.Option.{same_Some}
use Rattle.ownlock.specs.Seats.{At}
use Rattle.oplog.specs.Operations.{Operation}
use Rattle.combiner.specs.declared.slots.Reply.{Reply}
use Rattle.combiner.specs.declared.slots.Reply.TheVariants.{Ended, Placed}
use Rattle.replica.specs.StoreMeaning.{store_meaning}
use Rattle.replica.specs.declared.refusals.StoreRefused.{StoreRefused}
use Rattle.accounts.specs.Moves.{answered_with, called_with, posted_with}
use Rattle.accounts.specs.Told.{Tells}
use Rattle.accounts.proofs.Export.{whole_note}
use Rattle.accounts.specs.declared.sessions.Pending.{Pending}
use Rattle.accounts.specs.declared.sessions.SessionEvent.TheVariants.{UpdateBack, UpdateCall}
use Rattle.verifier.specs.declared.refusal.Mode.TheVariants.{Update}
use Rattle.verifier.proofs.Export.{behind}
use Rattle.readpath.specs.declared.reading.ReadAnswer.{ReadAnswer}
use Rattle.schedule.specs.Trace.{Back, Call, Trace, Updated}
use Rattle.store_steps.specs.Views.{SessionView}
use Rattle.store_laws.specs.RunEvents.{event_of, events_of_session, own_trace}
use Rattle.store.specs.Explained.{ClosesExplained}
use Rattle.store.specs.InOrder.{CallsInOrder}
use Rattle.store.specs.Linear.{Adds, AddsAnswer, AddsPost, AddsRead, AddsUpdate, AreExplained as StandExplained, own_events}
use Rattle.store.specs.Looks.{HasReply, IsRefused, TellsSight}
use Rattle.store.specs.Opening.{ClosedView, last_state, setup_of}
use Rattle.store.specs.Sessions.{StoreView, TellsUpdate, said}
use Rattle.store.specs.declared.answers.Answer.{Answer}
use Rattle.store.proofs.Export.{adds_then}
use Rattle.example_calls.specs.Heard.{AreExplained, HasRead, HasUpdated, HasUpdatedTwice, call_and_back, two_calls}
use Rattle.example_calls.specs.declared.heard.Heard.{Heard}

-- ---- opening

-- what holds of an answer holds of what `ok` makes of it
pub ok_holds : {A E : Type 0} (P : A → Type 0) (r : Result A E) (x : A) → result_ok r ≡ Some x → IfOk r P → P x
ok_holds P (Ok a) x is holds = subst P (same_Some a x is) holds
ok_holds P (Err e) x is holds = absurd cc

-- the last of two, and of one
pub last_two : {A : Type 0} (ys : List A) (a b x : A) → a ∷ b ∷ [] ≡ ys ++ x ∷ [] → (ys ≡ a ∷ []) × (x ≡ b)
last_two [] a b x e = absurd cc
last_two (y ∷ []) a b x e = (cc, cc)
last_two (y ∷ z ∷ []) a b x e = absurd cc
last_two (y ∷ z ∷ w ∷ zs) a b x e = absurd cc

pub last_one : {A : Type 0} (ys : List A) (a x : A) → a ∷ [] ≡ ys ++ x ∷ [] → x ≡ a
last_one [] a x e = cc
last_one (y ∷ []) a x e = absurd cc
last_one (y ∷ z ∷ zs) a x e = absurd cc

-- ---- an update

-- what a reply was
reply_is : (a : Answer) (reply : Reply) → Ok a ≡ said reply → reply ≡ Placed a.index a.reply
reply_is a (Placed i x) is = cc
reply_is a Ended is = absurd cc

-- who posted this request, and has this answer, has made an update
pub answered_as : (old new : SessionView) (o : Pending) (op : Operation) (a : Answer) → o.op ≡ op
    → length old.progress.history ≤ o.seen
    → Tells store_meaning new.progress old.session (length old.note.answered) o (Placed a.index a.reply)
    → new.note ≡ answered_with (record (posted_with old.note o) { batch = [] }) o.op (Placed a.index a.reply)
    → TellsUpdate old new op (Ok a)
answered_as old new o op a is seen told note =
    let low = told.0 in
    let answers = subst (λ (z : Operation). Tells store_meaning new.progress old.session (length old.note.answered)
    (record { op = z; seen = length old.progress.history }) (Placed a.index a.reply)) is
    (omega (arith, seen, low), told.1) in (
      answers,
      note ∙ ((λ j. answered_with (record (called_with old.note (is j)) { batch = [] }) (is j)
          (Placed a.index a.reply)) ∙ whole_note old.note op (Placed a.index a.reply)),
    )

-- the note of who made this update has its call and its answer
pub noted_by : (old new : SessionView) (op : Operation) (a : Answer) → HasUpdated old new op a
    → own_events new ≡ own_events old ++ call_and_back old.session op a
noted_by old new op a u = (λ j. own_trace (u.session j) (u.tells.1 j))
    ∙ map-append (event_of old.session) old.note.events (UpdateCall op ∷ UpdateBack (Placed a.index a.reply) ∷ [])

-- so has that of who waited for this result
pub waits_adds : (old new : SessionView) (op : Operation) (r : Result Answer StoreRefused) → AddsUpdate old new op r
    → (result : Option Answer) → result ≡ result_ok r
    → IfSome result (λ a. Adds old new (call_and_back old.session op a))
waits_adds old new op r told result value =
    subst (λ z. IfSome z (λ a. Adds old new (call_and_back old.session op a))) (sym value) (by told.0 r told.1 told.2)
  where
    by : (reply : Reply) (r : Result Answer StoreRefused) → r ≡ said reply
        → Adds old new (Call old.session Update op ∷ Back old.session (Updated reply) ∷ [])
        → IfSome (result_ok r) (λ a. Adds old new (call_and_back old.session op a))
    by reply (Err e) is adds = tt
    by reply (Ok a) is adds =
        subst (λ z. Adds old new (Call old.session Update op ∷ Back old.session (Updated z) ∷ []))
        (reply_is a reply is) adds

pub update_adds : (old new : SessionView) (op : Operation) (refusal : Option StoreRefused)
    (r : Result Answer StoreRefused) → IsRefused refusal r (new ≡ old) → (refusal ≡ None → AddsUpdate old new op r)
    → (result : Option Answer)
    → result ≡ result_ok r → IfSome result (λ a. Adds old new (call_and_back old.session op a))
update_adds old new op None r early adds result value = waits_adds old new op r (adds refl) result value
update_adds old new op (Some e) r early adds result value =
    subst (λ z. IfSome z (λ a. Adds old new (call_and_back old.session op a)))
    (sym (value ∙ ap result_ok (early e refl).0)) tt

-- what was not refused early was not to be
ok_no_err : {A E : Type 0} (a : A) (e : E) → Ok a ≡ Err e → ⊥
ok_no_err a e same = absurd cc

may_call : {A E : Type 0} (refusal : Option E) (a : A) (P : Type 0) → IsRefused refusal (Ok a) P → refusal ≡ None
may_call None a P early = refl
may_call (Some e) a P early = absurd (ok_no_err a e (early e refl).0)

-- and that of who posted, and then polled until he had it
pub polled_adds : {A : Type 0} (old mid new : SessionView) (op : Operation) (refusal : Option StoreRefused)
    (o : Option A) (a : A) → o ≡ Some a → IsRefused refusal (Ok o) (mid ≡ old)
    → (refusal ≡ None → AddsPost old mid op (Ok o)) → (r : Result Answer StoreRefused) → AddsAnswer mid new (Some r)
    → (result : Option Answer) → result ≡ result_ok r
    → IfSome result (λ a. Adds old new (call_and_back old.session op a))
polled_adds {A} old mid new op refusal o a is early post r back result value =
    let posts = subst (λ (z : Option A). AddsPost old mid op (Ok z)) is (post (may_call refusal o _ early)) in
    let event = subst (λ x. Adds mid new (Back x (Updated back.0) ∷ [])) posts.same back.2 in
    waits_adds old new op r
    (back.0, back.1, adds_then old mid new (Call old.session Update op ∷ []) _ posts event) result value

-- ---- a read

by_read : (old new : SessionView) (op : Operation) (r : Result ReadAnswer StoreRefused) → AddsRead old new op r
    → TellsSight (HasReply op) (λ (a : ReadAnswer). a.point) old new r
    → IfSome (result_ok r) (λ a. HasRead old new op a)
by_read old new op (Ok a) adds told = record { adds = adds; sees = told.1.0 }
by_read old new op (Err e) adds told = absurd told

pub read_told : (old new : SessionView) (op : Operation) (refusal : Option StoreRefused)
    (r : Result ReadAnswer StoreRefused)
    → IsRefused refusal r (new ≡ old) → (refusal ≡ None → AddsRead old new op r)
    → (refusal ≡ None → TellsSight (HasReply op) (λ (a : ReadAnswer). a.point) old new r) → (result : Option ReadAnswer)
    → result ≡ result_ok r
    → IfSome result (λ a. HasRead old new op a)
read_told old new op None r early adds told result value =
    subst (λ z. IfSome z (λ a. HasRead old new op a)) (sym value) (by_read old new op r (adds refl) (told refl))
read_told old new op (Some e) r early adds told result value =
    subst (λ z. IfSome z (λ a. HasRead old new op a)) (sym (value ∙ ap result_ok (early e refl).0)) tt

-- ---- one session, and then another

pub in_turn : CallsInOrder → (store : StoreView) (fresh one other later : SessionView) (op : Operation) (a b : Answer)
    → Adds fresh one (call_and_back fresh.session op a) → StandExplained store (one ∷ other ∷ [])
    → Adds other later (call_and_back other.session op b) → StandExplained store (one ∷ later ∷ []) → a.index < b.index
in_turn law store fresh one other later op a b first before second after =
    let own = own_events fresh in
    let told = Updated (Placed a.index a.reply) in
    let has = ap (λ l. slice_get l (length own + 1)) first.own
    ∙ (behind own (call_and_back fresh.session op a) 1 ∙ ap (λ x. Some (Back x told)) (sym first.same)) in
    let comes : a.index + 1 ≤ b.index =
    law store one other later (length own + 1) told Update op
    (Updated (Placed b.index b.reply)) has before second after in
    omega (arith, comes)

-- ---- the closed store

-- the first of two updates of a session came before the second
comes_before : (old mid new : SessionView) (op : Operation) (a b : Answer) → HasUpdated old mid op a
    → HasUpdated mid new op b → a.index < b.index
comes_before old mid new op a b x y =
    let low = x.tells.0.1.0 in
    let top = x.well_formed.completed in
    let far = y.tells.0.0 in
    omega (arith, low, top, far)

-- and its read has seen the second
pub sees_it : (mid new : SessionView) (op : Operation) (b : Answer) (point : ℕ) → HasUpdated mid new op b
    → new.progress.completed ≤ point
    → b.index < point
sees_it mid new op b point y far = let low = y.tells.0.1.0 in omega (arith, low, far)

-- of a closed store, whose sessions 0 and 1 made these calls since it was opened
module _ (store : StoreView) (op : Operation) (more : Trace) (heard : Heard) (sessions : List SessionView)
    (closed : ClosedView) (is : ClosesExplained store sessions closed) (waiting polls : SessionView) (i j : ℕ)
    (at : At i waiting sessions) (at2 : At j polls sessions) where
  pub are_explained : (fresh updated : SessionView) → HasUpdatedTwice fresh updated op heard.first heard.second
      → waiting.session ≡ 0 → own_events waiting ≡ two_calls 0 op heard.first heard.second ++ more
      → polls.session ≡ 1 → own_events polls ≡ call_and_back 1 op heard.polled
      → AreExplained (setup_of store) op more heard (last_state closed)
  are_explained fresh updated w zero waits one answered = record {
    history = is.is.progress.history;
    last = is.is.last;
    trace = is.linear.trace;
    positions = is.linear.positions;
    explains = is.linear.explains;
    waits = (λ k. events_of_session (sym zero k) is.linear.trace) ∙ (is.linear.own i waiting at ∙ waits);
    polls = (λ k. events_of_session (sym one k) is.linear.trace) ∙ (is.linear.own j polls at2 ∙ answered);
    before = comes_before fresh w.between updated op heard.first heard.second w.once w.again;
  }
