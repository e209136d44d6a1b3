-- A read that is called again until it is answered, by what each call tells, and by the law of what a call adds.
use Rattle.std.proofs.Common.{◌≡◌, ◌≤◌, ◌⊎◌, ℕ, [], sym, ap, ◌∙◌, subst, arith}
use Rattle.std.proofs.Common.{List, Option, None, Some, ⊎_elim}
use Rattle.std.specs.Prelude.{MatchOption}
use Rattle.std.proofs.lemmas.Option.{same_Some}
use Rattle.oplog.specs.Operations.{Operation}
use Rattle.verifier.specs.declared.refusal.Mode.TheVariants.{Read}
use Rattle.replica.specs.Refusals.{early_refusal}
use Rattle.replica.specs.declared.refusals.StoreRefused.{StoreRefused}
use Rattle.readpath.specs.declared.reading.ReadAnswer.{ReadAnswer}
use Rattle.accounts.specs.declared.sessions.Pending.{Pending}
use Rattle.accounts.specs.declared.sessions.SessionNote.{SessionNote}
use Rattle.store_steps.specs.Views.{SessionView, op_of}
use Rattle.store.specs.Linear.{Adds}
use Rattle.store.proofs.Export.{adds_then}
use Rattle.host_calls.specs.declared.attached.CallResult.{CallResult}
use Rattle.host_calls.specs.declared.attached.CallResult.TheVariants.{Busy, Again, Answered, Refused}
use Rattle.host_calls.specs.declared.attached.CallResult.TheVariants.{NotOpen, IsOut, NoWord, Allowed}
use Rattle.host_calls.specs.declared.handles.Answered.{Answered as AnsweredWords}
use Rattle.host_calls.specs.declared.handles.Asked.{Asked}
use Rattle.host_calls.specs.declared.handles.SessionHandle.{SessionHandle}
use Rattle.host_calls.specs.Adding.{CallsAdd, call_events, read_events}
use Rattle.host_calls.specs.Calls.{Goes, asks, asks_read, status_of, written}
use Rattle.host_calls.specs.CallResults.{HasGrown, TellsRefused, TellsSeen}
use Rattle.host_calls.specs.Views.{AttachedView, IsSame}
use Rattle.example_calls.specs.Heard.{HasRead}
use Rattle.example_raw_calls.proofs.Called.{Tells, calls, free_as, is_again, no_status, same_then, words}

-- The session has called the read in vain, as often as it did: it stands at the handle, and has added nothing.
pub record IsReading (a : AttachedView) (h : SessionHandle) : Type 0 where
  pub at : AttachedView
  pub has : h.own ≡ Some at
  pub same : IsSame a at
  pub note : at.session.note ≡ a.session.note
  pub low : a.session.progress.completed ≤ at.session.progress.completed
  pub adds : Adds a.session at.session []

refused_not : (why : StoreRefused) (told : CallResult) → (told ≡ Busy) ⊎ (told ≡ Again) → told ≡ Refused why → ⊥
refused_not why told again is =
    ⊎_elim (λ (e : told ≡ Busy). absurd cc) (λ (e : told ≡ Again). absurd cc) again

module _ (op : Operation) (old new : SessionView) where
  -- what a call tells of a read, which the store may refuse
  abbrev TellsRead : Option StoreRefused → CallResult → Type 0
  TellsRead refused told = MatchOption refused (TellsSeen op old new told) (λ why. TellsRefused old new told why)

  -- it was called in vain
  stays : (refused : Option StoreRefused) (told : CallResult) → (told ≡ Busy) ⊎ (told ≡ Again) → TellsRead refused told
      → (told ≡ Busy) × (new.note ≡ old.note)
  stays (Some why) told again t = absurd (refused_not why told again t.0)
  stays None told again t = ⊎_elim (λ busy. (busy, subst (TellsSeen op old new) busy t))
      (λ e. absurd (subst (TellsSeen op old new) e t)) again

  -- no update is out then
  rests : (refused : Option StoreRefused) (told : CallResult) → old.note.pending ≡ None → TellsRead refused told
      → new.note.pending ≡ None
  rests (Some why) told free t = ap (λ (s : SessionView). s.note.pending) t.1 ∙ free
  rests None Busy free t = ap (λ (n : SessionNote). n.pending) t ∙ free
  rests None (Answered point reply) free t = ap (λ (n : SessionNote). n.pending) t.0 ∙ free
  rests None Again free t = absurd t
  rests None (Refused why) free t = absurd t
  rests None NotOpen free t = absurd t
  rests None IsOut free t = absurd t
  rests None NoWord free t = absurd t
  rests None Allowed free t = absurd t

  -- it was answered
  sees : (refused : Option StoreRefused) (point reply : ℕ) → TellsRead refused (Answered point reply)
      → old.progress.completed ≤ point
  sees None point reply t = t.1.1.0
  sees (Some why) point reply t = absurd (no_refusal t.0)
    where
      no_refusal : Answered point reply ≡ Refused why → ⊥
      no_refusal e = absurd cc

  not_allowed : (refused : Option StoreRefused) → TellsRead refused Allowed → ⊥
  not_allowed None t = t
  not_allowed (Some why) t = no_refusal t.0
    where
      no_refusal : Allowed ≡ Refused why → ⊥
      no_refusal e = absurd cc

module _ (law : CallsAdd) (a : AttachedView) (program : ℕ) (bytes : List ℕ) (before after : SessionHandle)
    (free : a.session.note.pending ≡ None) (asked : before.asked ≡ words 1 program) (w : IsReading a before)
    (g : Goes bytes before after) where
  abbrev op : Operation
  op = op_of program bytes

  abbrev refused : Option StoreRefused
  refused = early_refusal w.at.store.catalogue Read program bytes

  abbrev t : Tells (asks_read w.at.store program bytes) w.at before after
  t = calls 1 program bytes w.at before after asked w.has g

  at_rest : w.at.session.note.pending ≡ None
  at_rest = ap (λ (n : SessionNote). n.pending) w.note ∙ free

  told : HasGrown w.at.session t.at.session × TellsRead op w.at.session t.at.session refused g.told
  told = free_as w.at.session.note.pending _ (λ o. (g.told ≡ IsOut) × (t.at.session ≡ w.at.session)) at_rest t.tells

  low : a.session.progress.completed ≤ t.at.session.progress.completed
  low = let more = told.0.grown.completed in let was = w.low in omega (arith, more, was)

  same : IsSame a t.at
  same = same_then a w.at t.at w.same t.same

  -- what it has added since it began
  adds : Adds a.session t.at.session (read_events w.at.session.session op None g.told)
  adds = adds_then a.session w.at.session t.at.session [] _ w.adds
      (subst (λ (p : Asked × Option Pending). Adds w.at.session t.at.session
      (call_events w.at.session.session (asks w.at.store p.0 bytes) p.1 g.told))
      (λ i. (asked i, at_rest i)) (law bytes before after g w.at t.at w.has t.has))

  -- it goes on
  pub reads_on : (after.answered.status ≡ 1) ⊎ (after.answered.status ≡ 2) → IsReading a after
  reads_on status =
      let again : (status_of g.told ≡ 1) ⊎ (status_of g.told ≡ 2) =
      subst (λ (z : AnsweredWords). (z.status ≡ 1) ⊎ (z.status ≡ 2)) t.answered status in
      let s = stays op w.at.session t.at.session refused g.told (is_again g.told again) told.1 in
      record {
        at = t.at;
        has = t.has;
        same = same;
        note = s.1 ∙ w.note;
        low = low;
        adds = subst (λ z. Adds a.session t.at.session (read_events w.at.session.session op None z)) s.0 adds;
      }

  -- or is over
  pub read_is_over : (b : AttachedView) × (after.own ≡ Some b) × IsSame a b × (b.session.note.pending ≡ None)
  read_is_over = (t.at, t.has, same, rests op w.at.session t.at.session refused g.told at_rest told.1)

  by_told : (r : CallResult) (now : AnsweredWords) → now ≡ written before.answered r → now.status ≡ 0
      → TellsRead op w.at.session t.at.session refused r
      → Adds a.session t.at.session (read_events w.at.session.session op None r)
      → HasRead a.session t.at.session op (record { point = now.point; reply = now.reply })
  by_told (Answered point reply) now is zero said added =
      let far = sees op w.at.session t.at.session refused point reply said in
      let was = w.low in
      subst (λ (z : AnsweredWords). HasRead a.session t.at.session op (record { point = z.point; reply = z.reply }))
      (sym is)
      (record {
        adds = subst (λ s. Adds a.session t.at.session (read_events s op None (Answered point reply))) w.same.session added;
        sees = omega (arith, far, was);
      })
  by_told Allowed now is zero said added = absurd (not_allowed op w.at.session t.at.session refused said)
  by_told Busy now is zero said added = absurd (let e = no_status now before.answered Busy is zero in omega (arith, e))
  by_told Again now is zero said added = absurd (let e = no_status now before.answered Again is zero in omega (arith, e))
  by_told (Refused why) now is zero said added = absurd (let e = no_status now before.answered (Refused why) is zero in omega (arith, e))
  by_told NotOpen now is zero said added = absurd (let e = no_status now before.answered NotOpen is zero in omega (arith, e))
  by_told IsOut now is zero said added = absurd (let e = no_status now before.answered IsOut is zero in omega (arith, e))
  by_told NoWord now is zero said added = absurd (let e = no_status now before.answered NoWord is zero in omega (arith, e))

  -- and has its answer
  pub was_read : after.answered.status ≡ 0 → (b : AttachedView) → after.own ≡ Some b
      → HasRead a.session b.session op (record { point = after.answered.point; reply = after.answered.reply })
  was_read zero b has =
      subst (λ (z : AttachedView). HasRead a.session z.session op
      (record { point = after.answered.point; reply = after.answered.reply }))
      (same_Some t.at b (sym t.has ∙ has)) (by_told g.told after.answered t.answered zero told.1 adds)
