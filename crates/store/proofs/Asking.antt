-- An update that a session asks for and waits for nobody.
use Rattle.std.proofs.Common.{◌≡◌, Option, None, Some, Result, Ok, refl, sym, ap, subst, ◌∙◌}
use Rattle.std.proofs.lemmas.Option.{same_Some}
use Rattle.oplog.specs.Operations.{Operation}
use Rattle.combiner.specs.Desks.{BatchView}
use Rattle.replica.specs.Views.{RepliesView}
use Rattle.replica.specs.declared.refusals.StoreRefused.{StoreRefused}
use Rattle.accounts.specs.declared.sessions.Pending.{Pending}
use Rattle.store_steps.specs.declared.deeds.Deed.{Deed}
use Rattle.store_steps.specs.declared.deeds.Deed.TheVariants.{Busy, Collected, Went}
use Rattle.store_steps.specs.declared.deeds.Stage.{Stage}
use Rattle.store_steps.specs.declared.deeds.Stage.TheVariants.{Claimed}
use Rattle.store_steps.specs.declared.steps.Caller.{Caller}
use Rattle.store_steps.specs.Polling.{AsksAndGoes, BeginsBy, BeginsInOneHold, DeedsGo, HasAskedFor, HasBegun}
use Rattle.store_steps.specs.Stages.{HasDone, HasGone}
use Rattle.store_steps.specs.Standing.{StoreSeat}
use Rattle.store_steps.specs.Views.{SessionView, known_of, session_view}
use Rattle.store.specs.declared.answers.Answer.{Answer}
use Rattle.store.specs.Going.{CompleteGoes}
use Rattle.store.specs.Polled.{TellsCompleted}
use Rattle.store.specs.Sessions.{IsOf, SessionGoesOn, StoreView}
use Rattle.store.specs.Asking.{Asks, AsksAndGoesOn, GoesOn, TellsTried, answer_by, tried_with}
use Rattle.store.proofs.Between.{goes_on, goes_then}
use Rattle.store.proofs.Gone.{begin_goes, done_goes}
use Rattle.store.proofs.Linear.{adds_answer, adds_asked}

module _ (store : StoreView) (old new : StoreSeat) (caller : Caller) (was : SessionView)
    (seen : session_view old ≡ was) (own : IsOf store was) (op : Operation) (b : BatchView) (kept : RepliesView)
    (stage : Stage) where
  abbrev now : SessionView
  now = session_view new

  -- who has begun has asked
  pub asks_by : new.shelf ≡ old.shelf → HasBegun old new caller op b kept stage
      → BeginsInOneHold (known_of (session_view old)) (known_of now) op → Asks store was now op
  asks_by shelf h held =
      let gone = begin_goes _ _ op h.goes in
      let session = goes_on store (session_view old) was now seen own shelf h.session h.extends h.well_formed gone in
      let asked = subst (λ (z : SessionView). HasAskedFor z now op) seen h.asked in record {
        session = session;
        asked = asked;
        goes = subst (λ (z : SessionView). BeginsBy (known_of z) (known_of now) op) seen h.goes;
        held = subst (λ (z : SessionView). BeginsInOneHold (known_of z) (known_of now) op) seen held;
        adds = adds_asked store was now op session asked;
      }

  -- and who has gone on by deeds has gone on
  pub goes_by : new.shelf ≡ old.shelf → (deed : Deed) → HasGone DeedsGo old new caller b kept stage deed
      → GoesOn store was now (answer_by deed)
  goes_by shelf deed h =
      let gone = done_goes _ _ deed h.goes in
      let session = goes_on store (session_view old) was now seen own shelf h.session h.extends h.well_formed gone in
      let done = subst (λ (z : SessionView). HasDone z now h.request deed) seen h.done in
      let waited = sym (ap (λ (z : SessionView). z.note.pending) seen) ∙ h.waited in record {
        session = session;
        completed =
            λ o is. completed deed o (subst (λ z. HasDone was now z deed) (same_Some h.request o (sym waited ∙ is)) done);
        goes = went deed (subst (λ (z : SessionView). DeedsGo (known_of z) (known_of now) deed) seen h.goes);
        adds = adds_answer store was now h.request session (answer_by deed) (completed deed h.request done);
      }
    where
      completed : (deed : Deed) (o : Pending) → HasDone was now o deed → TellsCompleted was now o (answer_by deed)
      completed Busy o d = d
      completed Went o d = d
      completed (Collected reply) o d = (reply, refl, d)

      went : (deed : Deed) → DeedsGo (known_of was) (known_of now) deed → CompleteGoes was now (answer_by deed)
      went Busy d = d
      went Went d = d
      went (Collected reply) d = (reply, refl, d)

-- who did both in one call has done so
module _ (store : StoreView) (old new : StoreSeat) (caller : Caller) (was : SessionView)
    (seen : session_view old ≡ was) (own : IsOf store was) (op : Operation) (b : BatchView) (kept : RepliesView)
    (stage : Stage) (deed : Deed) (shelf : new.shelf ≡ old.shelf)
    (h : AsksAndGoes old new caller op b kept stage deed) where
  pub both : AsksAndGoesOn store was (session_view new) op (answer_by deed)
  both =
      let mid = h.between in
      let asks = asks_by store old mid caller was seen own op h.claimed kept Claimed h.shelf (h.begun kept) h.held in record {
        between = session_view h.between;
        asks = asks;
        goes_on = goes_by store mid new caller (session_view mid) refl asks.session.own op b kept stage
            (shelf ∙ sym h.shelf) deed h.gone;
      }

-- ---- what is told

module _ (store : StoreView) (old new : SessionView) (op : Operation) (answer : Option (Result Answer StoreRefused))
    (a : AsksAndGoesOn store old new op answer) where
  pub both_session : SessionGoesOn store old new
  both_session = goes_then store old a.between new a.asks.session a.goes_on.session

  pub both_told : TellsTried store old new op (Ok (tried_with answer))
  both_told = by answer a
    where
      by : (r : Option (Result Answer StoreRefused)) → AsksAndGoesOn store old new op r
          → TellsTried store old new op (Ok (tried_with r))
      by None a = a
      by (Some r) a = a
