-- An update that is called again until it is answered, by what each call tells.
use Rattle.std.proofs.Common.{◌≡◌, ◌≢◌, ◌≤◌, ◌⊎◌, ℕ, [], length, refl, sym, ap, ◌∙◌, subst, inl, inr, arith, List, Option, None, Some}
use Rattle.std.specs.Prelude.{IfSome, MatchOption}
use Rattle.std.proofs.lemmas.Option.{same_Some}
use Rattle.oplog.specs.Operations.{Operation}
use Rattle.verifier.specs.declared.refusal.Mode.TheVariants.{Update}
use Rattle.combiner.specs.declared.slots.Reply.TheVariants.{Ended, Placed}
use Rattle.combiner.specs.declared.slots.Reply.{Reply}
use Rattle.replica.specs.StoreMeaning.{store_meaning}
use Rattle.replica.specs.Refusals.{early_refusal}
use Rattle.replica.specs.declared.refusals.StoreRefused.{StoreRefused}
use Rattle.accounts.specs.Accounts.{IsWellFormed}
use Rattle.accounts.specs.Moves.{answered_with}
use Rattle.accounts.specs.Told.{Tells as TellsReply}
use Rattle.accounts.specs.declared.sessions.Pending.{Pending}
use Rattle.accounts.specs.declared.sessions.SessionNote.{SessionNote}
use Rattle.store_steps.specs.Stages.{IsOnItsWay, TellsDone}
use Rattle.store_steps.specs.Views.{SessionView, op_of}
use Rattle.host_calls.specs.declared.attached.CallResult.{CallResult}
use Rattle.host_calls.specs.declared.attached.CallResult.TheVariants.{Busy, Again, Answered, Refused, NotOpen, IsOut, NoWord, Allowed}
use Rattle.host_calls.specs.declared.handles.SessionHandle.{SessionHandle}
use Rattle.host_calls.specs.Views.{AttachedView, IsSame}
use Rattle.host_calls.specs.declared.handles.Answered.{Answered as AnsweredWords}
use Rattle.host_calls.specs.declared.handles.Asked.{Asked}
use Rattle.host_calls.specs.Calls.{Asks, Goes, TellsAttached, TellsCall, asks, status_of, written}
use Rattle.host_calls.specs.CallResults.{TellsNew, TellsOut, TellsPosting, TellsRefused, TellsUpdate, posted_as}
use Rattle.example_calls.specs.Heard.{HasUpdated}
use Rattle.example_calls.proofs.Export.{answered_as}
use Rattle.example_raw_calls.specs.Raw.{Has, IsAtRest}

-- the session has not posted the operation yet, or is on its way with it
pub data IsUnder (old : SessionView) (op : Operation) (s : SessionView) : Type 0 where
  Not : s ≡ old → IsUnder old op s
  Out : (o : Pending) → o.op ≡ op → length old.progress.history ≤ o.seen → IsOnItsWay (posted_as old o) s
      → IsUnder old op s

-- and this session stands at the handle
pub record IsWorking (a : AttachedView) (op : Operation) (h : SessionHandle) : Type 0 where
  pub at : AttachedView
  pub has : h.own ≡ Some at
  pub same : IsSame a at
  pub under : IsUnder a.session op at.session

out_as : (s new : SessionView) (told : CallResult) (P : Type 0) (o : Pending) → s.note.pending ≡ Some o
    → MatchOption s.note.pending P (λ z. TellsOut s new z told) → TellsOut s new o told
out_as s new told P o is t = subst (λ z. MatchOption z P (λ o'. TellsOut s new o' told)) is t

pub free_as : {A : Type 0} (x : Option A) (P : Type 0) (Q : A → Type 0) → x ≡ None → MatchOption x P Q → P
free_as x P Q is t = subst (λ z. MatchOption z P Q) is t

module _ (op : Operation) (refused : Option StoreRefused) (old : SessionView) (free : old.note.pending ≡ None) where
  -- ---- called for the first time, or in vain before

  abbrev Posts : (new : SessionView) → CallResult → Type 0
  Posts new told = MatchOption refused (TellsPosting op old new told) (λ why. TellsRefused old new told why)

  first : (s new : SessionView) (told : CallResult) → s ≡ old → TellsUpdate op refused s new told → Posts new told
  first s new told is t = free_as old.note.pending (Posts new told) (λ o. TellsOut old new o told) free (subst (λ z. TellsUpdate op refused z new told) is t).1

  -- ---- it goes on

  posts_on : (r : Option StoreRefused) (new : SessionView) (told : CallResult)
      → MatchOption r (TellsPosting op old new told) (λ why. TellsRefused old new told why)
      → (told ≡ Busy) ⊎ (told ≡ Again) → IsUnder old op new
  posts_on None new told t (inl busy) = Not (subst (TellsPosting op old new) busy t)
  posts_on None new told t (inr again) = let p = subst (TellsPosting op old new) again t in Out p.0 p.1 p.2 p.3
  posts_on (Some why) new told t (inl busy) = absurd (no_refusal why (sym t.0 ∙ busy))
    where
      no_refusal : (why : StoreRefused) → Refused why ≡ Busy → ⊥
      no_refusal why e = absurd cc
  posts_on (Some why) new told t (inr again) = absurd (no_refusal why (sym t.0 ∙ again))
    where
      no_refusal : (why : StoreRefused) → Refused why ≡ Again → ⊥
      no_refusal why e = absurd cc

  outs_on : (s new : SessionView) (o : Pending) (told : CallResult) → TellsOut s new o told
      → (told ≡ Busy) ⊎ (told ≡ Again) → IsOnItsWay s new
  outs_on s new o told t (inl busy) = absurd (subst (TellsOut s new o) busy t)
  outs_on s new o told t (inr again) = subst (TellsOut s new o) again t

  pub goes_under : (s new : SessionView) (told : CallResult) → IsUnder old op s → TellsUpdate op refused s new told
      → (told ≡ Busy) ⊎ (told ≡ Again) → IsUnder old op new
  goes_under s new told (Not is) t again = posts_on refused new told (first s new told is t) again
  goes_under s new told (Out o op_is seen way) t again =
      let out = out_as s new told _ o (ap (λ (n : SessionNote). n.pending) way) t.1 in Out o op_is seen (outs_on s new o told out again ∙ way)

  -- ---- it is answered

  done_as : (s new : SessionView) (o : Pending) (reply : Reply) → s.session ≡ old.session
      → IsOnItsWay (posted_as old o) s → TellsDone s new o reply → TellsDone (posted_as old o) new o reply
  done_as s new o reply same way t = (
    subst (λ (z : ℕ × SessionNote). TellsReply store_meaning new.progress z.0 (length z.1.answered) o reply) (λ j. (same j, way j)) t.0,
    t.1 ∙ (λ j. answered_with (way j) o.op reply),
  )

  done : (new : SessionView) (o : Pending) (point reply : ℕ) → o.op ≡ op → length old.progress.history ≤ o.seen
      → new.session ≡ old.session → IsWellFormed store_meaning new.progress
      → TellsDone (posted_as old o) new o (Placed point reply)
      → HasUpdated old new op (record { index = point; reply = reply })
  done new o point reply op_is seen same well t = record { session = same; well_formed = well; tells = answered_as old new o op (record { index = point; reply = reply }) op_is seen t.0 t.1 }

  posts_done : (r : Option StoreRefused) (new : SessionView) (told : CallResult) (point reply : ℕ)
      → MatchOption r (TellsPosting op old new told) (λ why. TellsRefused old new told why)
      → told ≡ Answered point reply
      → TellsNew op old new (Answered point reply)
  posts_done None new told point reply t is = subst (TellsPosting op old new) is t
  posts_done (Some why) new told point reply t is = absurd (no_refusal why (sym t.0 ∙ is))
    where
      no_refusal : (why : StoreRefused) → Refused why ≡ Answered point reply → ⊥
      no_refusal why e = absurd cc

  pub has_updated : (s new : SessionView) (told : CallResult) (point reply : ℕ) → IsUnder old op s
      → s.session ≡ old.session → new.session ≡ old.session → TellsUpdate op refused s new told
      → told ≡ Answered point reply
      → HasUpdated old new op (record { index = point; reply = reply })
  has_updated s new told point reply (Not is) was same t answered =
      let p = posts_done refused new told point reply (first s new told is t) answered in done new p.0 point reply p.1 p.2 same t.0.well_formed p.3
  has_updated s new told point reply (Out o op_is seen way) was same t answered =
      let out = subst (TellsOut s new o) answered (out_as s new told _ o (ap (λ (n : SessionNote). n.pending) way) t.1) in
      done new o point reply op_is seen same t.0.well_formed (done_as s new o (Placed point reply) was way out)

  -- ---- no update is out then

  none_left : (n : SessionNote) (o : Pending) (reply : Reply) → (answered_with n o.op reply).pending ≡ None
  none_left n o (Placed point x) = refl
  none_left n o Ended = refl

  outs_rest : (s new : SessionView) (o : Pending) (told : CallResult) → told ≢ Again → TellsOut s new o told
      → new.note.pending ≡ None
  outs_rest s new o Busy over t = absurd t
  outs_rest s new o Again over t = absurd (over refl)
  outs_rest s new o (Answered point reply) over t = ap (λ (n : SessionNote). n.pending) t.1
      ∙ none_left (record s.note { batch = [] }) o (Placed point reply)
  outs_rest s new o (Refused why) over t = ap (λ (n : SessionNote). n.pending) t.1.1
      ∙ none_left (record s.note { batch = [] }) o Ended
  outs_rest s new o NotOpen over t = absurd t
  outs_rest s new o IsOut over t = absurd t
  outs_rest s new o NoWord over t = absurd t
  outs_rest s new o Allowed over t = absurd t

  posting_rests : (new : SessionView) (told : CallResult) → told ≢ Busy → told ≢ Again → TellsPosting op old new told
      → new.note.pending ≡ None
  posting_rests new Busy idle over t = absurd (idle refl)
  posting_rests new Again idle over t = absurd (over refl)
  posting_rests new (Answered point reply) idle over t = outs_rest (posted_as old t.0) new t.0 (Answered point reply) over t.3
  posting_rests new (Refused why) idle over t = outs_rest (posted_as old t.0) new t.0 (Refused why) over t.3
  posting_rests new NotOpen idle over t = absurd t.3
  posting_rests new IsOut idle over t = absurd t.3
  posting_rests new NoWord idle over t = absurd t.3
  posting_rests new Allowed idle over t = absurd t.3

  posts_rest : (r : Option StoreRefused) (new : SessionView) (told : CallResult) → told ≢ Busy → told ≢ Again
      → MatchOption r (TellsPosting op old new told) (λ why. TellsRefused old new told why) → new.note.pending ≡ None
  posts_rest None new told idle over t = posting_rests new told idle over t
  posts_rest (Some why) new told idle over t = ap (λ (s : SessionView). s.note.pending) t.1 ∙ free

  pub rests_then : (s new : SessionView) (told : CallResult) → told ≢ Busy → told ≢ Again → IsUnder old op s
      → TellsUpdate op refused s new told → new.note.pending ≡ None
  rests_then s new told idle over (Not is) t = posts_rest refused new told idle over (first s new told is t)
  rests_then s new told idle over (Out o op_is seen way) t = outs_rest s new o told over (out_as s new told _ o (ap (λ (n : SessionNote). n.pending) way) t.1)

-- ---- by the words of the handle

pub some_of : {A : Type 0} (x : Option A) (P : A → Type 0) → MatchOption x ⊥ P → (y : A) × (x ≡ Some y) × P y
some_of None P t = absurd t
some_of (Some y) P t = (y, refl, t)

-- what a call tells of the session that stands there
pub record Tells (asked : Asks) (b : AttachedView) (before after : SessionHandle) : Type 0 where
  pub told : CallResult
  pub answered : after.answered ≡ written before.answered told
  pub at : AttachedView
  pub has : after.own ≡ Some at
  pub same : IsSame b at
  pub tells : TellsCall asked b.session at.session told

-- the words of a call of a program
abbrev pub words : (call program : ℕ) → Asked
words call program = record { call = call; program = program; mode = 0; argument = 0 }

abbrev pub calls : (call program : ℕ) (bytes : List ℕ) (b : AttachedView) (before after : SessionHandle)
    → before.asked ≡ words call program → before.own ≡ Some b → Goes bytes before after
    → Tells (asks b.store (words call program) bytes) b before after
calls call program bytes b before after asked has g =
    let t = subst (λ z. MatchOption z ((g.told ≡ NotOpen) × (after.own ≡ None)) (λ x. MatchOption after.own ⊥ (λ y. TellsAttached before.asked bytes x y g.told))) has g.tells in
    let s = some_of after.own (λ y. TellsAttached before.asked bytes b y g.told) t in
    record {
      told = g.told;
      answered = g.written;
      at = s.0;
      has = s.1;
      same = s.2.same;
      tells = subst (λ (z : Asked). TellsCall (asks b.store z bytes) b.session s.0.session g.told) asked s.2.tells;
    }

pub same_then : (a b c : AttachedView) → IsSame a b → IsSame b c → IsSame a c
same_then a b c f g = record { store = g.store ∙ f.store; place = g.place ∙ f.place; shelf = g.shelf ∙ f.shelf; session = g.session ∙ f.session }

pub is_again : (told : CallResult) → (status_of told ≡ 1) ⊎ (status_of told ≡ 2) → (told ≡ Busy) ⊎ (told ≡ Again)
is_again Busy e = inl refl
is_again Again e = inr refl
is_again (Answered point reply) (inl e) = absurd (omega (arith, e))
is_again (Answered point reply) (inr e) = absurd (omega (arith, e))
is_again (Refused why) (inl e) = absurd (omega (arith, e))
is_again (Refused why) (inr e) = absurd (omega (arith, e))
is_again NotOpen (inl e) = absurd (omega (arith, e))
is_again NotOpen (inr e) = absurd (omega (arith, e))
is_again IsOut (inl e) = absurd (omega (arith, e))
is_again IsOut (inr e) = absurd (omega (arith, e))
is_again NoWord (inl e) = absurd (omega (arith, e))
is_again NoWord (inr e) = absurd (omega (arith, e))
is_again Allowed (inl e) = absurd (omega (arith, e))
is_again Allowed (inr e) = absurd (omega (arith, e))

-- it goes on
pub works_on : (a : AttachedView) (program : ℕ) (bytes : List ℕ) (before after : SessionHandle)
    → a.session.note.pending ≡ None → before.asked ≡ words 0 program
    → IsWorking a (op_of program bytes) before → Goes bytes before after
    → (after.answered.status ≡ 1) ⊎ (after.answered.status ≡ 2) → IsWorking a (op_of program bytes) after
works_on a program bytes before after free asked w g status =
    let t = calls 0 program bytes w.at before after asked w.has g in
    let told : (status_of t.told ≡ 1) ⊎ (status_of t.told ≡ 2) = subst (λ (z : AnsweredWords). (z.status ≡ 1) ⊎ (z.status ≡ 2)) t.answered status in
    record {
      at = t.at;
      has = t.has;
      same = same_then a w.at t.at w.same t.same;
      under = goes_under (op_of program bytes) (early_refusal w.at.store.catalogue Update program bytes) a.session free w.at.session t.at.session t.told w.under t.tells (is_again t.told told);
    }

-- or is over
pub is_over : (a : AttachedView) (program : ℕ) (bytes : List ℕ) (before after : SessionHandle)
    → a.session.note.pending ≡ None → before.asked ≡ words 0 program
    → IsWorking a (op_of program bytes) before → Goes bytes before after
    → (after.answered.status ≢ 1) × (after.answered.status ≢ 2)
    → (b : AttachedView) × (after.own ≡ Some b) × IsSame a b × (b.session.note.pending ≡ None)
is_over a program bytes before after free asked w g status =
    let t = calls 0 program bytes w.at before after asked w.has g in
    let is : (told : CallResult) → t.told ≡ told → after.answered.status ≡ status_of told = λ told e. ap (λ (z : AnsweredWords). z.status) t.answered ∙ ap status_of e in (
      t.at,
      t.has,
      same_then a w.at t.at w.same t.same,
      rests_then (op_of program bytes) (early_refusal w.at.store.catalogue Update program bytes) a.session free w.at.session t.at.session t.told (λ e. status.0 (is Busy e)) (λ e. status.1 (is Again e)) w.under t.tells,
    )

pub no_status : (now before : AnsweredWords) (told : CallResult) → now ≡ written before told → now.status ≡ 0
    → 0 ≡ (written before told).status
no_status now before told is zero = sym zero ∙ ap (λ (z : AnsweredWords). z.status) is

module _ (a : AttachedView) (op : Operation) (refused : Option StoreRefused) (s new : SessionView) (free : a.session.note.pending ≡ None) (under : IsUnder a.session op s) (was : s.session ≡ a.session.session) (same : new.session ≡ a.session.session) where
  posts_allowed : (r : Option StoreRefused)
      → MatchOption r (TellsPosting op a.session new Allowed) (λ why. TellsRefused a.session new Allowed why) → ⊥
  posts_allowed None t = t.3
  posts_allowed (Some why) t = no_refusal why t.0
    where
      no_refusal : (why : StoreRefused) → Allowed ≡ Refused why → ⊥
      no_refusal why e = absurd cc

  not_allowed : IsUnder a.session op s → TellsUpdate op refused s new Allowed → ⊥
  not_allowed (Not is) t = posts_allowed refused (first op refused a.session free s new Allowed is t)
  not_allowed (Out o op_is seen way) t = out_as s new Allowed _ o (ap (λ (n : SessionNote). n.pending) way) t.1

  by_told : (told : CallResult) (now : AnsweredWords) (before : AnsweredWords) → now ≡ written before told
      → now.status ≡ 0 → TellsUpdate op refused s new told
      → HasUpdated a.session new op (record { index = now.point; reply = now.reply })
  by_told (Answered point reply) now before is zero t =
      subst (λ (z : AnsweredWords). HasUpdated a.session new op (record { index = z.point; reply = z.reply })) (sym is)
      (has_updated op refused a.session free s new (Answered point reply) point reply under was same t refl)
  by_told Allowed now before is zero t = absurd (not_allowed under t)
  by_told Busy now before is zero t = absurd (let e = no_status now before Busy is zero in omega (arith, e))
  by_told Again now before is zero t = absurd (let e = no_status now before Again is zero in omega (arith, e))
  by_told (Refused why) now before is zero t = absurd (let e = no_status now before (Refused why) is zero in omega (arith, e))
  by_told NotOpen now before is zero t = absurd (let e = no_status now before NotOpen is zero in omega (arith, e))
  by_told IsOut now before is zero t = absurd (let e = no_status now before IsOut is zero in omega (arith, e))
  by_told NoWord now before is zero t = absurd (let e = no_status now before NoWord is zero in omega (arith, e))

-- and has its answer
pub was_updated : (a : AttachedView) (program : ℕ) (bytes : List ℕ) (before after : SessionHandle)
    → a.session.note.pending ≡ None → before.asked ≡ words 0 program
    → IsWorking a (op_of program bytes) before → Goes bytes before after → after.answered.status ≡ 0
    → (b : AttachedView) → after.own ≡ Some b
    → HasUpdated a.session b.session (op_of program bytes) (record { index = after.answered.point; reply = after.answered.reply })
was_updated a program bytes before after free asked w g zero b has =
    let t = calls 0 program bytes w.at before after asked w.has g in
    let one : t.at ≡ b = same_Some t.at b (sym t.has ∙ has) in
    subst (λ (z : AttachedView). HasUpdated a.session z.session (op_of program bytes) (record { index = after.answered.point; reply = after.answered.reply })) one
    (by_told a (op_of program bytes) (early_refusal w.at.store.catalogue Update program bytes) w.at.session t.at.session free w.under w.same.session (t.same.session ∙ w.same.session) t.told after.answered before.answered t.answered zero t.tells)

-- ---- by what `update` says

pub so_answered : {A : Type 0} (P : Type 0) (Q : A → Type 0) (r : A) (x : Option A) → (P → Q r)
    → IfSome x (λ y. P × (y ≡ r)) → IfSome x Q
so_answered P Q r None so told = told
so_answered P Q r (Some y) so told = subst Q (sym told.1) (so told.0)

-- no update is out of whatever session stands there
pub at_rest : (h : SessionHandle) → IsAtRest h → (a : AttachedView) → Has h a → a.session.note.pending ≡ None
at_rest h rests a has = subst (λ (z : AttachedView). z.session.note.pending ≡ None) (same_Some rests.0 a (sym rests.1 ∙ has)) rests.2
