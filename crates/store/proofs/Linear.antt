-- What a call adds, by what it tells; and the history of a closed store linearizes what its sessions did.
use Rattle.std.proofs.Common.{◌≡◌, ℕ, zero, suc, ◌≤◌, ◌++◌, length, List, [], ◌∷◌, append-nil, append_assoc, map, refl, sym, ap, ◌∙◌, subst, Option, Some, None, Result, Ok, Err}
use Rattle.std.specs.Prelude.{MatchOption}
use Rattle.std.proofs.lemmas.List.{map-append}
use Rattle.std.proofs.lemmas.List.Elements.{All-weaker}
use mathlib.Core.Option.{some-injective}
use mathlib.Core.Option as kernel
use Rattle.ownlock.specs.Invariant.{StandsThere}
use Rattle.ownlock.specs.Runs.{Runs}
use Rattle.ownlock.specs.Seats.{At, Continues, EndsWithOwn, own_steps}
use Rattle.ownlock.proofs.Export.{between}
use Rattle.verifier.specs.declared.refusal.Mode.TheVariants.{Read, Update}
use Rattle.machine.specs.Soundness.{TypableProgramsRun}
use Rattle.loader.specs.CatalogueView.{CatalogueView, IsCatalogue}
use Rattle.oplog.specs.declared.configuration.Sizes.{Sizes}
use Rattle.oplog.specs.Operations.{Operation}
use Rattle.combiner.specs.declared.slots.Reply.{Reply}
use Rattle.combiner.specs.declared.slots.Reply.TheVariants.{Ended, Placed}
use Rattle.replica.specs.declared.refusals.StoreRefused.{StoreRefused}
use Rattle.accounts.specs.declared.sessions.Progress.{Progress}
use Rattle.accounts.specs.Moves.{answered_with, posted_with}
use Rattle.accounts.proofs.Export.{at_none}
use Rattle.accounts.specs.Told.{read_with, updated_with}
use Rattle.readpath.specs.declared.reading.ReadAnswer.{ReadAnswer}
use Rattle.accounts.specs.declared.sessions.Pending.{Pending}
use Rattle.accounts.specs.declared.sessions.SessionEvent.TheVariants.{ReadBack as ReadBackNoted, ReadCall, UpdateBack, UpdateCall}
use Rattle.accounts.specs.declared.sessions.SessionNote.{SessionNote}
use Rattle.schedule.specs.Trace.{Back, Call, ReadBack, Trace, Updated, caller}
use Rattle.store_steps.specs.Asking.{asked_op}
use Rattle.store_steps.specs.Shelving.{places_of, sessions_of, store_opening, store_rules}
use Rattle.store_steps.specs.Polling.{HasAskedFor}
use Rattle.store_steps.specs.Stages.{IsOnItsWay}
use Rattle.store_steps.specs.Standing.{SessionKnown}
use Rattle.store_steps.specs.Views.{SessionView, known_of}
use Rattle.store_laws.specs.Gone.{GoneOn}
use Rattle.store_laws.specs.RunEvents.{StoreRun, event_of, opening_of, own_trace, trace_of}
use Rattle.store_laws.proofs.Export.{answers_are_in_run, notes_tell, runs_are_explained, since_begins, trace_goes_on, traces_are_theirs}
use Rattle.promise.specs.Operations.{After}
use Rattle.promise.proofs.Export.{explains, leaves}
use Rattle.store.specs.Adding.{ListsAdd, LooksAddNothing, PollsAdd, PostsAdd}
use Rattle.store.specs.Explained.{ClosesExplained}
use Rattle.store.specs.Linear.{Adds, AddsAnswer, AddsPost, AddsRead, AddsTry, AddsUpdate, AreExplained, Explained, Linearizes, own_events, seen}
use Rattle.store.specs.Opening.{ClosedView, IsClosed, last_state, setup_of}
use Rattle.store.specs.PolledPipelines.{IsTold}
use Rattle.store.specs.Polled.{TellsCompleted, TellsPost}
use Rattle.store.specs.Sessions.{SessionGoesOn, StoreView, TellsUpdate}
use Rattle.store.specs.declared.answers.Answer.{Answer}

-- ---- what is seen, and what is noted

seen_then : (old new : SessionView) → GoneOn (known_of old) (known_of new)
    → (more : Trace) × (seen new ≡ seen old ++ more)
seen_then old new gone =
    let more = trace_goes_on gone.0.0 old.run in
    (more.0, ap trace_of gone.0.1 ∙ more.1)

-- the notes of a session grow by these events
abbrev pub Notes : (old new : SessionView) → Trace → Type 0
Notes old new events = own_trace old.session new.note ≡ own_trace old.session old.note ++ events

pub adds_noted : (old new : SessionView) (events : Trace) → new.session ≡ old.session
    → GoneOn (known_of old) (known_of new) → Notes old new events → Adds old new events
adds_noted old new events same gone noted = record {
  same = same;
  own = ap (λ x. own_trace x new.note) same ∙ noted;
  grown = seen_then old new gone;
}

adds : (store : StoreView) (old new : SessionView) (events : Trace) → SessionGoesOn store old new
    → Notes old new events → Adds old new events
adds store old new events goes noted = adds_noted old new events goes.same.1 goes.gone noted

-- and nothing, if the session is as it was
pub adds_still : (old new : SessionView) → new ≡ old → Adds old new []
adds_still old new same = subst (λ z. Adds old z []) (sym same) (record {
  same = refl;
  own = sym (append-nil (own_events old));
  grown = ([], sym (append-nil (seen old)));
})

-- after two calls it has added what each has
pub adds_then : (old mid new : SessionView) (first second : Trace) → Adds old mid first → Adds mid new second
    → Adds old new (first ++ second)
adds_then old mid new first second a b = record {
  same = b.same ∙ a.same;
  own = b.own ∙ (ap (λ t. t ++ second) a.own ∙ append_assoc (own_events old) first second);
  grown =
      let all = ap (λ t. t ++ b.grown.0) a.grown.1 ∙ append_assoc (seen old) a.grown.0 b.grown.0 in
      (a.grown.0 ++ b.grown.0, b.grown.1 ∙ all);
}

pub quiet : (old new : SessionView) → new.note ≡ old.note → Notes old new []
quiet old new same = ap (own_trace old.session) same ∙ sym (append-nil (own_trace old.session old.note))

-- a call that leaves the note adds nothing
pub adds_nothing : (store : StoreView) (old new : SessionView) → SessionGoesOn store old new → new.note ≡ old.note
    → Adds old new []
adds_nothing store old new goes same = adds store old new [] goes (quiet old new same)

pub still : (old new : SessionView) → new ≡ old → Notes old new []
still old new same = quiet old new (ap (λ (s : SessionView). s.note) same)

-- ---- what a call adds

-- who has posted this request
pub posts_notes : (old new : SessionView) (o : Pending) (op : Operation) → o.op ≡ op
    → new.note.events ≡ (posted_with old.note o).events → Notes old new (Call old.session Update op ∷ [])
posts_notes old new o op is noted = ap (map (event_of old.session)) noted
    ∙ (map-append (event_of old.session) old.note.events (UpdateCall o.op ∷ [])
    ∙ ap (λ z. own_trace old.session old.note ++ Call old.session Update z ∷ []) is)

-- who waits still
pub waits_notes : (old new : SessionView) → IsOnItsWay old new → Notes old new []
waits_notes old new way = ap (λ (n : SessionNote). map (event_of old.session) n.events) way
    ∙ sym (append-nil (own_trace old.session old.note))

-- who has the answer
pub answered_notes : (old new : SessionView) (o : Pending) (reply : Reply)
    → new.note ≡ answered_with (record old.note { batch = [] }) o.op reply
    → Notes old new (Back old.session (Updated reply) ∷ [])
answered_notes old new o (Placed i x) note = ap (own_trace old.session) note
    ∙ map-append (event_of old.session) old.note.events (UpdateBack (Placed i x) ∷ [])
answered_notes old new o Ended note = ap (own_trace old.session) note
    ∙ map-append (event_of old.session) old.note.events (UpdateBack Ended ∷ [])

module _ (store : StoreView) (old new : SessionView) (op : Operation) (goes : SessionGoesOn store old new) where
  updates : (reply : Reply) → new.note ≡ updated_with old.note op reply
      → Adds old new (Call old.session Update op ∷ Back old.session (Updated reply) ∷ [])
  updates (Placed i x) note = adds store old new _ goes (ap (own_trace old.session) note
      ∙ map-append (event_of old.session) old.note.events (UpdateCall op ∷ UpdateBack (Placed i x) ∷ []))
  updates Ended note = adds store old new _ goes (ap (own_trace old.session) note
      ∙ map-append (event_of old.session) old.note.events (UpdateCall op ∷ UpdateBack Ended ∷ []))

  pub adds_update : (result : Result Answer StoreRefused) → TellsUpdate old new op result → AddsUpdate old new op result
  adds_update (Ok a) told = (Placed a.index a.reply, refl, updates (Placed a.index a.reply) told.1)
  adds_update (Err e) told = (Ended, ap Err told.0, updates Ended told.2)

  posts : (o : Pending) → o.op ≡ op → new.note.events ≡ (posted_with old.note o).events
      → Adds old new (Call old.session Update op ∷ [])
  posts o is noted = adds store old new _ goes (posts_notes old new o op is noted)

  pub adds_post : {A : Type 0} (result : Result (Option A) StoreRefused) → TellsPost old new op result
      → AddsPost old new op result
  adds_post (Ok None) told = adds_still old new told
  adds_post (Ok (Some a)) told = posts told.0 told.1 (ap (λ (n : SessionNote). n.events) told.3)
  adds_post (Err e) told = absurd told

  pub adds_asked : HasAskedFor old new op → Adds old new (Call old.session Update op ∷ [])
  adds_asked told = posts told.0 told.1 (ap (λ (n : SessionNote). n.events) told.3)

-- ---- a read

-- who has asked a read and heard its answer
pub reads_notes : (old new : SessionView) (op : Operation) (a : ReadAnswer)
    → new.note ≡ read_with old.note op a.point a.reply
    → Notes old new (Call old.session Read op ∷ Back old.session (ReadBack a) ∷ [])
reads_notes old new op a note = ap (own_trace old.session) note
    ∙ map-append (event_of old.session) old.note.events (ReadCall op ∷ ReadBackNoted a.point a.reply ∷ [])

module _ (store : StoreView) (old new : SessionView) (op : Operation) (goes : SessionGoesOn store old new) where
  pub adds_read : (a : ReadAnswer) → new.note ≡ read_with old.note op a.point a.reply → AddsRead old new op (Ok a)
  adds_read a note = adds store old new _ goes (reads_notes old new op a note)

  pub adds_try : (o : Option ReadAnswer)
      → MatchOption o (new.note ≡ old.note) (λ a. new.note ≡ read_with old.note op a.point a.reply)
      → AddsTry old new op (Ok o)
  adds_try None note = adds_nothing store old new goes note
  adds_try (Some a) note = adds_read a note

-- who goes on with its update until it has the answer
pub adds_back : (store : StoreView) (old mid new : SessionView) (o : Pending) (reply : Reply)
    → SessionGoesOn store old new → IsOnItsWay old mid
    → new.note ≡ answered_with (record mid.note { batch = [] }) o.op reply
    → Adds old new (Back old.session (Updated reply) ∷ [])
adds_back store old mid new o reply goes way note = adds store old new _ goes
    (answered_notes old new o reply (note ∙ (λ j. answered_with (way j) o.op reply)))

pub adds_answer : (store : StoreView) (old new : SessionView) (o : Pending) → SessionGoesOn store old new
    → (result : Option (Result Answer StoreRefused)) → TellsCompleted old new o result → AddsAnswer old new result
adds_answer store old new o goes None told = adds store old new [] goes (waits_notes old new told)
adds_answer store old new o goes (Some r) told =
    (told.0, told.1, adds store old new _ goes (answered_notes old new o told.0 told.2.1))

-- ---- looks and lists

pub looks_add_nothing : LooksAddNothing
looks_add_nothing store old new goes same = adds_nothing store old new goes same

pub lists_add : ListsAdd
lists_add store old new calls answers goes tells j s t q was now call =
    let told = tells j s t q was now call in
    (told.0, told.1, adds_update store s t (asked_op q) (goes.1 j s t was now) told.0 told.2)

pub posts_add : PostsAdd
posts_add store old new calls goes asks j s t q was now call =
    let told = (asks j s t q was now call).0 in
    posts store s t (asked_op q) (goes.1 j s t was now) told.0 told.1 (ap (λ (n : SessionNote). n.events) told.3)

pub polls_add : PollsAdd
polls_add store old new answers result goes told j s t o was now waits = by result (told j s t o was now waits)
  where
    Has : (Result Answer StoreRefused → Type 0) → Type 0
    Has P = (a : Result Answer StoreRefused) × At j a answers × P a

    by : (r : Option (Unit {0})) → MatchOption r (IsTold s t o None) (λ _. Has (λ a. IsTold s t o (Some a)))
        → MatchOption r (AddsAnswer s t None) (λ _. Has (λ a. AddsAnswer s t (Some a)))
    by None is = adds_answer store s t o (goes.1 j s t was now) None is.0
    by (Some x) is = (is.0, is.1, adds_answer store s t o (goes.1 j s t was now) (Some is.0) is.2.0)

-- ---- one list of operations

-- one run of a store's lock, in which these sessions stand
pub record InOneRun (store : StoreView) (sessions : List SessionView) : Type 0 where
  pub progress : Progress CatalogueView
  pub notes : List SessionNote
  pub run : StoreRun
  pub leads : Runs store_rules (store_opening (setup_of store)) run progress notes
  pub within : length progress.history ≤ store.config.limit
  pub noted : (a : ℕ) (s : SessionView) → At a s sessions → At s.session s.note notes
  pub goes_on : (a : ℕ) (s : SessionView) → At a s sessions → Continues s.run run
  pub own : (a : ℕ) (s : SessionView) → At a s sessions → own_steps s.session run ≡ s.steps
  pub ends : (a : ℕ) (s : SessionView) → At a s sessions → EndsWithOwn (known_of s)

explained_in : TypableProgramsRun → (store : StoreView) (sessions : List SessionView) → IsCatalogue store.catalogue
    → (c : InOneRun store sessions) → Explained store sessions c.progress.history
explained_in always store sessions whole c =
    let m = opening_of (setup_of store) in
    let count = sessions_of store.config in
    let places = places_of store.config in
    let explained = runs_are_explained m count places c.run c.progress c.notes c.leads in record {
      trace = trace_of c.run;
      own = λ a s at. notes_tell m count places c.run c.progress c.notes c.leads s.session s.note (c.noted a s at);
      begins = λ a s at.
          let on = c.goes_on a s at in
          let own = ap (own_steps s.session) (sym on.1) ∙ c.own a s at in
          let more = since_begins s.session on.0 s.run s.steps (c.ends a s at).seen own in
          (more.0, ap trace_of on.1 ∙ more.1, more.2);
      positions = explained.0;
      explains = explains always m c.progress.history explained.0 (trace_of c.run) whole explained.1 c.within;
      callers = traces_are_theirs m count places c.run c.progress c.notes c.leads;
    }

-- two sessions in a state between two atomic steps
stands_in : (store : StoreView) (one other : SessionView)
    → StandsThere store_rules (store_opening (setup_of store)) (known_of one ∷ known_of other ∷ [])
    → InOneRun store (one ∷ other ∷ [])
stands_in store one other t = let b = between store_rules (store_opening (setup_of store)) t.0 t.1 in record {
  progress = b.0;
  notes = b.1;
  run = b.10.run;
  leads = b.10.leads;
  within = subst (λ (z : Sizes). length b.0.history ≤ z.limit) (sym b.3.config) b.2.limit;
  noted = λ a s at. (b.7 t.2.0 a view (known_of s) t.2.1 (there a s at)).1;
  goes_on = λ a s at. b.10.goes_on (known_of s) (t.2.0, a, view, t.2.1, there a s at);
  own = λ a s at. b.10.own (known_of s) (t.2.0, a, view, t.2.1, there a s at);
  ends = λ a s at. b.10.ends (known_of s) (t.2.0, a, view, t.2.1, there a s at);
}
  where
    view : List SessionKnown
    view = known_of one ∷ known_of other ∷ []

    there : (a : ℕ) (s : SessionView) → At a s (one ∷ other ∷ []) → At a (known_of s) view
    there zero s at = ap (λ z. kernel.some (known_of z)) (some-injective one s at)
    there (suc zero) s at = ap (λ z. kernel.some (known_of z)) (some-injective other s at)
    there (suc (suc a)) s at = absurd (at_none a s at)

pub stands_explained : TypableProgramsRun → (store : StoreView) (one other : SessionView) → IsCatalogue store.catalogue
    → StandsThere store_rules (store_opening (setup_of store)) (known_of one ∷ known_of other ∷ [])
    → AreExplained store (one ∷ other ∷ [])
stands_explained always store one other whole t =
    let c = stands_in store one other t in (c.progress.history, explained_in always store (one ∷ other ∷ []) whole c)

-- that of a closed store
abbrev run_of_closed : (store : StoreView) (sessions : List SessionView) (closed : ClosedView) → IsClosed store sessions closed
    → InOneRun store sessions
run_of_closed store sessions closed c = record {
  progress = c.progress;
  notes = c.notes;
  run = c.run;
  leads = c.leads;
  within = subst (λ (z : Sizes). length c.progress.history ≤ z.limit) c.of.0 c.well_formed.limit;
  noted = c.noted;
  goes_on = c.goes_on;
  own = c.own;
  ends = c.ends;
}

linearizes : TypableProgramsRun → (store : StoreView) (sessions : List SessionView) (closed : ClosedView)
    → IsCatalogue store.catalogue → (c : IsClosed store sessions closed) → Linearizes store sessions c.progress.history
unfolding explained_in
linearizes always store sessions closed whole c =
    let count = sessions_of store.config in
    let places = places_of store.config in record {
      of = explained_in always store sessions whole (run_of_closed store sessions closed c);
      only = All-weaker _ _ (λ e few. c.all (caller e) few) (trace_of c.run)
          (traces_are_theirs (opening_of (setup_of store)) count places c.run c.progress c.notes c.leads);
    }

-- the state that its history leaves
leaves_last : TypableProgramsRun → (store : StoreView) (sessions : List SessionView) (closed : ClosedView)
    → IsCatalogue store.catalogue → (c : IsClosed store sessions closed) → After store.catalogue c.progress.history (last_state closed)
leaves_last always store sessions closed whole c =
    let m = opening_of (setup_of store) in
    let explained = runs_are_explained m (sessions_of store.config) (places_of store.config) c.run c.progress c.notes c.leads in
    let few = (run_of_closed store sessions closed c).within in
    subst (After store.catalogue c.progress.history) (sym c.last)
    (leaves always m c.progress.history explained.0 (trace_of c.run) whole explained.1 few)

pub closes_explained : TypableProgramsRun → (store : StoreView) (sessions : List SessionView) (closed : ClosedView)
    → IsCatalogue store.catalogue → IsClosed store sessions closed → ClosesExplained store sessions closed
unfolding linearizes
closes_explained always store sessions closed whole c = record {
  is = c;
  linear = linearizes always store sessions closed whole c;
  leaves = leaves_last always store sessions closed whole c;
  told = λ a q s u at has.
      answers_are_in_run (opening_of (setup_of store)) (sessions_of store.config) (places_of store.config) c.run c.progress c.notes c.leads s.session q s.note u (c.noted a s at) has;
}
