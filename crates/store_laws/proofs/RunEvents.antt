-- The events of a run of the lock, step by step, and the history that explains them.
use Rattle.std.proofs.Common.{◌≡◌, ◌≢◌, ne_eqb, eq-eqb, if◌then◌else◌, ℕ, zero, suc, ◌<◌, ◌≤◌, List, [], ◌∷◌, ◌++◌, map, drop, length, replicate, Some, sym, ap, ◌∙◌, refl, subst, ⊎_elim, arith, append-nil, append_assoc}
use Rattle.std.specs.Prelude.{slice_get, slice_set}
use Rattle.std.specs.List.{All}
use Rattle.std.proofs.lemmas.Bool.{cases_eq}
use Rattle.std.proofs.lemmas.List.{append_cancel_right}
use Rattle.std.proofs.lemmas.List.Elements.{All-append, All-cons, All-drop, All-head, All-nil, All-tail, filter-append}
use Rattle.std.proofs.lemmas.Option.{slice_get_within}
use Rattle.atomic_table.proofs.Lists.{set_again, set_else, set_here}
use Rattle.ownlock.specs.declared.known.ShelfStep.{ShelfStep}
use Rattle.ownlock.specs.declared.known.ShelfStep.TheVariants.{Took, Raised}
use Rattle.ownlock.specs.Rules.{IsAmong, Move}
use Rattle.ownlock.specs.Runs.{Begins, Loads, Puts, Raises, Runs, Takes, keeping}
use Rattle.ownlock.specs.Seats.{At, own_steps}
use Rattle.ownlock.proofs.Export.{own_else, own_here}
use Rattle.accounts.specs.Accounts.{Accounts, Extends}
use Rattle.accounts.specs.LogSteps.{first_progress, fresh_note}
use Rattle.accounts.specs.Moves.{MayBegin, raised}
use Rattle.accounts.specs.declared.sessions.SessionEvent.{SessionEvent}
use Rattle.accounts.specs.declared.sessions.SessionEvent.TheVariants as noted
use Rattle.accounts.specs.declared.sessions.SessionNote.{SessionNote}
use Rattle.accounts.proofs.Export.{at_below, at_one, at_replicate, get_of, opens}
use Rattle.replica.specs.StoreMeaning.{store_meaning}
use Rattle.schedule.specs.declared.parts.Opening.{Opening}
use Rattle.schedule.specs.Explains.{Explains}
use Rattle.schedule.specs.Trace.{Answer, Back, Event, Positions, Trace, caller, stamp}
use Rattle.schedule.proofs.Export.{replicate_length}
use Rattle.store_steps.specs.declared.values.Value.{Value}
use Rattle.store_steps.specs.Shelving.{places_of, sessions_of, store_rules, view_of}
use Rattle.store_steps.proofs.Export.{store_laws}
use Rattle.store_laws.specs.RunEvents.{AnswersAreInRun, BetweenIsExplained, CalledLater, EachStepStands, EventsGoOn, KnownEventsBegin, NotesTell, RunsAreExplained, StoreRun, StoreStep, TracesAreTheirs}
use Rattle.store_laws.specs.RunEvents.{added, event_of, events_of_session, opened_for, opening_of, own_trace, trace_of}
use Rattle.store_laws.proofs.Behind.{own_both}
use Rattle.store_laws.proofs.Kept.{begins, moves, opening_stands, raise_kept}
use Rattle.store_laws.proofs.Noted.{Keeps, Kept, drop_front, further, no_more}
use Rattle.store_laws.proofs.Stands.{EventsStand, L}
use Rattle.maps.proofs.Export.{length_set}
use Rattle.node.proofs.Export.{get_some}

none_some_list : {A : Type 0} (x : A) (xs : List A) → [] ≡ x ∷ xs → ⊥
none_some_list x xs e = let long = ap length e in omega (arith, long)

module _ (m : Opening) (sessions places : ℕ) where
  abbrev Leads : StoreRun → L → List SessionNote → Type 0
  Leads run l ns = Runs store_rules (opened_for m sessions places) run l ns

  -- a run of no steps stands where the store was opened
  begins_with : {run : StoreRun} {l : L} {ns : List SessionNote} → Leads run l ns → run ≡ [] → (l ≡ first_progress m.config m.catalogue) × (ns ≡ replicate sessions fresh_note)
  begins_with Begins e = (refl, refl)
  begins_with (Takes run l ns c p x n r at agrees) e = absurd (none_some_list _ _ (sym e))
  begins_with (Puts run ns move y r among puts) e = absurd (none_some_list _ _ (sym e))
  begins_with (Loads run l ns c found n n' r at is asks) e = absurd (none_some_list _ _ (sym e))
  begins_with (Raises run l ns c k n r at reaches) e = absurd (none_some_list _ _ (sym e))

  accounted : {run : StoreRun} {l : L} {ns : List SessionNote} → Leads run l ns → Accounts store_meaning l ns
  accounted Begins = (opens store_meaning m.config m.catalogue sessions).0
  accounted (Takes run l ns c p x n r at agrees) = accounted r
  accounted (Puts run ns move y r among puts) = store_laws.moves_account move ns among
  accounted (Loads run l ns c found n n' r at is asks) = store_laws.asks_account c l n n' ns asks at (accounted r)
  accounted (Raises run l ns c k n r at reaches) = store_laws.raised_account l k ns reaches (accounted r)

  -- a step of the run: its session goes from its note to another, which has the events that the step adds; and what they explain
  pub record Goes (e : StoreStep) (es : StoreRun) (l : L) (ns : List SessionNote) : Type 0 where
    pub was : L
    pub notes : List SessionNote
    pub leads : Leads es was notes
    pub here : At e.session e.before notes
    pub noted : ns ≡ slice_set notes e.session e.note
    pub grows : own_trace e.session e.note ≡ own_trace e.session e.before ++ added e
    pub grown : Extends was l
    pub is : l ≡ e.progress
    pub goes : (p : Positions) → Kept m p was notes (trace_of es) → Kept m p l ns (trace_of (e ∷ es))

  -- what a session adds by a step is what its note has more then
  adds : (c : ℕ) (n n' : SessionNote) (events : Trace) → own_trace c n' ≡ own_trace c n ++ events → drop (length (own_trace c n)) (own_trace c n') ≡ events
  adds c n n' events grows = ap (drop (length (own_trace c n))) grows ∙ drop_front (own_trace c n) events

  -- so it is added to the trace
  added_to : (c : ℕ) (n n' : SessionNote) (l : L) (ns : List SessionNote) (p : Positions) (t : Trace) → Keeps m p t c n n' l ns → Kept m p l ns (t ++ drop (length (own_trace c n)) (own_trace c n'))
  added_to c n n' l ns p t k = subst (λ z. Kept m p l ns (t ++ z)) (sym (adds c n n' k.events k.grows)) k.kept

  grown_by : (c : ℕ) (n n' : SessionNote) (l : L) (ns : List SessionNote) (p : Positions) (t : Trace) → Keeps m p t c n n' l ns → own_trace c n' ≡ own_trace c n ++ drop (length (own_trace c n)) (own_trace c n')
  grown_by c n n' l ns p t k = k.grows ∙ ap (λ z. own_trace c n ++ z) (sym (adds c n n' k.events k.grows))

  -- where the note stays nothing is added
  still : (c : ℕ) (n : SessionNote) → own_trace c n ≡ own_trace c n ++ drop (length (own_trace c n)) (own_trace c n)
  still c n = sym (append-nil (own_trace c n)) ∙ ap (λ z. own_trace c n ++ z) (sym (adds c n n [] (sym (append-nil (own_trace c n)))))

  none_added : (c : ℕ) (n : SessionNote) (l : L) (ns : List SessionNote) (p : Positions) (t : Trace) → Kept m p l ns t → Kept m p l ns (t ++ drop (length (own_trace c n)) (own_trace c n))
  none_added c n l ns p t k = subst (Kept m p l ns) (sym (ap (λ z. t ++ z) (adds c n n [] (sym (append-nil (own_trace c n)))) ∙ append-nil t)) k

  -- what stood before this session's step stands for the positions that it has then
  from_kept : (p : Positions) (c : ℕ) (n n' : SessionNote) (l l' : L) (ns ns' : List SessionNote) (t : Trace) → ((q : Positions) → EventsStand m l ns q t → Keeps m q t c n n' l' ns') → Kept m p l ns t → Kept m p l' ns' (t ++ drop (length (own_trace c n)) (own_trace c n'))
  from_kept p c n n' l l' ns ns' t keeps k = further m p k.0 l' ns' _ (added_to c n n' l' ns' (p ++ k.0) t (keeps (p ++ k.0) k.1))

  raises_tail : (l : L) (ns : List SessionNote) (t : Trace) (k : ℕ) → k ≤ length l.history → (p : Positions) → Kept m p l ns t → Kept m p (raised l k) ns t
  raises_tail l ns t k within p kept = (kept.0, raise_kept m l ns (p ++ kept.0) t k within kept.1)

  moves_it : (run : StoreRun) (move : Move store_rules) (ns : List SessionNote) → IsAmong move ns → (q : Positions) → EventsStand m move.progress ns q (trace_of run)
      → Keeps m q (trace_of run) move.session move.note move.new_note move.new_progress (slice_set ns move.session move.new_note)
  moves_it run move ns among q stands =
      moves m move.progress ns q (trace_of run) stands move.session move.note among.own among.accounts move.place (view_of move.value) move.new_progress move.new_note move.allowed among.agrees.0

  asks_it : {run : StoreRun} {l : L} {ns : List SessionNote} → Leads run l ns → (c : ℕ) (n n' : SessionNote) → At c n ns → MayBegin store_meaning l n n' → (q : Positions) → EventsStand m l ns q (trace_of run)
      → Keeps m q (trace_of run) c n n' l (slice_set ns c n')
  asks_it {run} {l} {ns} r c n n' at asks q stands = begins m l ns q (trace_of run) stands c n at (accounted r) n' asks

  -- what the events of a run explain
  pub comes : {run : StoreRun} {l : L} {ns : List SessionNote} → Leads run l ns → Kept m [] l ns (trace_of run)
  comes Begins = no_more m [] _ _ [] (opening_stands m sessions)
  comes (Takes run l ns c p x n r at agrees) = none_added c n l ns [] (trace_of run) (comes r)
  comes (Puts run ns move y r among puts) =
      from_kept [] move.session move.note move.new_note move.progress move.new_progress ns (slice_set ns move.session move.new_note) (trace_of run) (moves_it run move ns among) (comes r)
  comes (Loads run l ns c found n n' r at is asks) = from_kept [] c n n' l l ns (slice_set ns c n') (trace_of run) (asks_it r c n n' at asks) (comes r)
  comes (Raises run l ns c k n r at reaches) = none_added c n (raised l k) ns [] (trace_of run) (raises_tail l ns (trace_of run) k reaches [] (comes r))

  abbrev StepGoes : StoreRun → L → List SessionNote → Type 0
  StepGoes [] l ns = Unit {0}
  StepGoes (e ∷ es) l ns = Goes e es l ns

  -- a step at which no note changes
  keeps_notes : (c : ℕ) (step : ShelfStep Value) (was l : L) (n : SessionNote) (ns : List SessionNote) (run : StoreRun) → Leads run was ns → At c n ns → Extends was l
      → ((p : Positions) → Kept m p was ns (trace_of run) → Kept m p l ns (trace_of run)) → Goes (keeping c step l n) run l ns
  keeps_notes c step was l n ns run r at grown on = record {
    was = was;
    notes = ns;
    leads = r;
    here = at;
    noted = sym (set_again ns c n at);
    grows = still c n;
    grown = grown;
    is = refl;
    goes = λ p kept. none_added c n l ns p (trace_of run) (on p kept);
  }

  step_goes : {run : StoreRun} {l : L} {ns : List SessionNote} → Leads run l ns → StepGoes run l ns
  step_goes Begins = tt
  step_goes (Takes run l ns c p x n r at agrees) = keeps_notes c (Took p x) l l n ns run r at (store_laws.extends_self l) (λ _ kept. kept)
  step_goes (Puts run ns move y r among puts) = let k = comes r in record {
    was = move.progress;
    notes = ns;
    leads = r;
    here = among.own;
    noted = refl;
    grows = grown_by move.session move.note move.new_note move.new_progress (slice_set ns move.session move.new_note) k.0 (trace_of run) (moves_it run move ns among k.0 k.1);
    grown = store_laws.moves_extend move;
    is = refl;
    goes = λ p kept. from_kept p move.session move.note move.new_note move.progress move.new_progress ns (slice_set ns move.session move.new_note) (trace_of run) (moves_it run move ns among) kept;
  }
  step_goes (Loads run l ns c found n n' r at is asks) = let k = comes r in record {
    was = l;
    notes = ns;
    leads = r;
    here = at;
    noted = refl;
    grows = grown_by c n n' l (slice_set ns c n') k.0 (trace_of run) (asks_it r c n n' at asks k.0 k.1);
    grown = store_laws.extends_self l;
    is = refl;
    goes = λ p kept. from_kept p c n n' l l ns (slice_set ns c n') (trace_of run) (asks_it r c n n' at asks) kept;
  }
  step_goes (Raises run l ns c k n r at reaches) = keeps_notes c (Raised k) l (raised l k) n ns run r at (store_laws.raised_extends l k) (raises_tail l ns (trace_of run) k reaches)

  -- what stood then stands on
  pub record StoodThen (run : StoreRun) (l : L) (ns : List SessionNote) (t : Trace) : Type 0 where
    pub was : L
    pub notes : List SessionNote
    pub leads : Leads run was notes
    pub grown : Extends was l
    pub positions : Positions
    pub stood : EventsStand m was notes positions (trace_of run)
    pub now : Kept m positions l ns t

  pub stands_on : (since run : StoreRun) (l : L) (ns : List SessionNote) → Leads (since ++ run) l ns → StoodThen run l ns (trace_of (since ++ run))
  stands_on [] run l ns leads =
      let k = comes leads in
      record { was = l; notes = ns; leads = leads; grown = store_laws.extends_self l; positions = k.0; stood = k.1; now = no_more m k.0 l ns (trace_of run) k.1 }
  stands_on (e ∷ es) run l ns leads =
      let s = step_goes leads in
      let rest = stands_on es run s.was s.notes s.leads in
      record { was = rest.was; notes = rest.notes; leads = rest.leads; grown = store_laws.extends_on rest.was s.was l rest.grown s.grown; positions = rest.positions; stood = rest.stood; now = s.goes rest.positions rest.now }

  long_notes : {run : StoreRun} {l : L} {ns : List SessionNote} → Leads run l ns → length ns ≡ sessions
  long_notes Begins = replicate_length sessions fresh_note
  long_notes (Takes run l ns c p x n r at agrees) = long_notes r
  long_notes (Puts run ns move y r among puts) = length_set ns move.session move.new_note ∙ long_notes r
  long_notes (Loads run l ns c found n n' r at is asks) = length_set ns c n' ∙ long_notes r
  long_notes (Raises run l ns c k n r at reaches) = long_notes r

  low : {run : StoreRun} {l : L} {ns : List SessionNote} → Leads run l ns → (c : ℕ) (n : SessionNote) → At c n ns → c < sessions
  low {run} {l} {ns} r c n at = let long = long_notes r in let below = at_below ns c n at in omega (arith, long, below)

-- ---- one history

pub runs_are_explained : RunsAreExplained
runs_are_explained m sessions places run l ns runs = let k = comes m sessions places runs in (k.0, k.1.explains)

pub answers_are_in_run : AnswersAreInRun
answers_are_in_run m sessions places run l ns runs x q n u at has = (comes m sessions places runs).1.told x q n u (get_of ns x n at) (get_of n.answered q u has)

pub trace_goes_on : EventsGoOn
trace_goes_on [] run = ([], sym (append-nil (trace_of run)))
trace_goes_on (e ∷ es) run =
    let rest = trace_goes_on es run in
    (rest.0 ++ added e, ap (λ t. t ++ added e) rest.1 ∙ append_assoc (trace_of run) rest.0 (added e))

pub each_step_stands : EachStepStands
each_step_stands m sessions places since run e l ns leads =
    let s = stands_on m sessions places since (e ∷ run) l ns leads in
    let is = (step_goes m sessions places s.leads).is in (
      subst (λ z. Extends z l) is s.grown,
      subst (λ (z : L). (positions : Positions) × Explains m z.history positions (trace_of (e ∷ run))) is (s.positions, s.stood.explains),
      subst (λ (z : L). (b x : ℕ) (answer : Answer) → slice_get (trace_of (e ∷ run)) b ≡ Some (Back x answer) → stamp m.config.limit answer ≤ z.completed) is s.stood.stamps,
    )

-- ---- between two atomic steps

pub between_is_explained : BetweenIsExplained
between_is_explained opening s w = runs_are_explained (opening_of opening) (sessions_of opening.config) (places_of opening.config) w.run w.progress w.notes w.leads

pub known_events_begin : KnownEventsBegin
known_events_begin opening s w k h =
    let on = w.goes_on h.0 h.1 h.2 k h.3 h.4 in
    let more = trace_goes_on on.0 k.run in
    (more.0, ap trace_of on.1 ∙ more.1)

-- ---- calls behind a step

get_front : {A : Type 0} (xs ys : List A) (i : ℕ) (v : A) → i < length xs → slice_get (xs ++ ys) i ≡ Some v → slice_get xs i ≡ Some v
get_front [] ys i v low e = absurd (omega (arith, low))
get_front (x ∷ xs) ys zero v low e = e
get_front (x ∷ xs) ys (suc i) v low e = get_front xs ys i v (omega (arith, low)) e

pub called_later : CalledLater
called_later m sessions places since run e l ns leads =
    let k = stands_on m sessions places since (e ∷ run) l ns leads in
    let is : k.was ≡ e.progress = (step_goes m sessions places k.leads).is in (
      k.positions ++ k.now.0,
      k.now.1.explains,
      λ i c at low.
          let before : Explains m e.progress.history k.positions (trace_of (e ∷ run)) = subst (λ (z : L). Explains m z.history k.positions (trace_of (e ∷ run))) is k.stood.explains in
          let many = before.each_placed in
          let there = get_front k.positions k.now.0 i c (omega (arith, many, low)) at in
          let r = get_some e.progress.history i low in
          slice_get_within (trace_of (e ∷ run)) c _ (before.calls i c r.0 r.1 there),
    )

-- ---- whose events they are

-- all that one session notes is its own
all_own : (P : Event → Type 0) (x : ℕ) → ((e : Event) → caller e ≡ x → P e) → (events : List SessionEvent) → All P (map (event_of x) events)
all_own P x own [] = All-nil P
all_own P x own (noted.UpdateCall op ∷ es) = All-cons P _ _ (own _ refl) (all_own P x own es)
all_own P x own (noted.UpdateBack reply ∷ es) = All-cons P _ _ (own _ refl) (all_own P x own es)
all_own P x own (noted.ReadCall op ∷ es) = All-cons P _ _ (own _ refl) (all_own P x own es)
all_own P x own (noted.ReadBack point reply ∷ es) = All-cons P _ _ (own _ refl) (all_own P x own es)

all_added : (P : Event → Type 0) (e : StoreStep) → ((f : Event) → caller f ≡ e.session → P f) → All P (added e)
all_added P e own = All-drop P (length (own_trace e.session e.before)) (own_trace e.session e.note) (all_own P e.session own e.note.events)

module _ (m : Opening) (sessions places : ℕ) where
  theirs : (run : StoreRun) {l : L} {ns : List SessionNote} → Leads m sessions places run l ns → All (λ e. caller e < sessions) (trace_of run)
  theirs [] leads = All-nil (λ e. caller e < sessions)
  theirs (e ∷ es) leads =
      let s = step_goes m sessions places leads in
      let few = low m sessions places s.leads e.session e.before s.here in
      All-append (λ f. caller f < sessions) (trace_of es) (added e) (theirs es s.leads) (all_added (λ f. caller f < sessions) e (λ f is. subst (λ z. z < sessions) (sym is) few))

pub traces_are_theirs : TracesAreTheirs
traces_are_theirs m sessions places run l ns leads = theirs m sessions places run leads

-- ---- the events of one session

-- of one session's events, all are its own
all_of : (c x : ℕ) → x ≡ c → (t : Trace) → All (λ e. caller e ≡ x) t → events_of_session c t ≡ t
all_of c x same [] all = refl
all_of c x same (e ∷ es) all =
    let is = All-head (λ e. caller e ≡ x) e es all in
    ap (λ b. if b then e ∷ events_of_session c es else events_of_session c es) (eq-eqb (caller e) c (is ∙ same))
    ∙ ap (λ t. e ∷ t) (all_of c x same es (All-tail (λ e. caller e ≡ x) e es all))

-- and none is another's
none_of : (c x : ℕ) → x ≢ c → (t : Trace) → All (λ e. caller e ≡ x) t → events_of_session c t ≡ []
none_of c x ne [] all = refl
none_of c x ne (e ∷ es) all =
    let is = All-head (λ e. caller e ≡ x) e es all in
    ap (λ b. if b then e ∷ events_of_session c es else events_of_session c es)
    (ne_eqb (caller e) c (λ same. ne (sym is ∙ same)))
    ∙ none_of c x ne es (All-tail (λ e. caller e ≡ x) e es all)

added_here : (c : ℕ) (e : StoreStep) → e.session ≡ c → events_of_session c (added e) ≡ added e
added_here c e same = all_of c e.session same (added e) (all_added (λ f. caller f ≡ e.session) e (λ f is. is))

added_else : (c : ℕ) (e : StoreStep) → e.session ≢ c → events_of_session c (added e) ≡ []
added_else c e ne = none_of c e.session ne (added e) (all_added (λ f. caller f ≡ e.session) e (λ f is. is))

module _ (m : Opening) (sessions places : ℕ) (c : ℕ) where
  tell : (run : StoreRun) {l : L} {ns : List SessionNote} → Leads m sessions places run l ns → (n : SessionNote) → At c n ns → events_of_session c (trace_of run) ≡ own_trace c n
  tell [] {l} {ns} leads n at =
      let opened = (begins_with m sessions places leads refl).1 in
      sym (ap (own_trace c) (at_replicate sessions c fresh_note n (subst (At c n) opened at)).0)
  tell (e ∷ es) {l} {ns} leads n at = let s = step_goes m sessions places leads in by s (λ k here. tell es s.leads k here)
    where
      by : (s : Goes m sessions places e es l ns) → ((k : SessionNote) → At c k s.notes → events_of_session c (trace_of es) ≡ own_trace c k) → events_of_session c (trace_of (e ∷ es)) ≡ own_trace c n
      by s before = filter-append _ (trace_of es) (added e) ∙ ⊎_elim here else_ (cases_eq e.session c)
        where
          now : At c n (slice_set s.notes e.session e.note)
          now = subst (At c n) s.noted at

          here : e.session ≡ c → events_of_session c (trace_of es) ++ events_of_session c (added e) ≡ own_trace c n
          here same =
              let mine = set_here s.notes e.session e.note (at_below s.notes e.session e.before s.here) in
              let one : n ≡ e.note = at_one (slice_set s.notes e.session e.note) c n e.note now (subst (λ z. At z e.note (slice_set s.notes e.session e.note)) same mine) in
              let old = before e.before (subst (λ z. At z e.before s.notes) same s.here) in
              (λ j. old j ++ added_here c e same j)
              ∙ (ap (λ z. own_trace z e.before ++ added e) (sym same) ∙ (sym s.grows ∙ (λ j. own_trace (same j) (sym one j))))

          else_ : e.session ≢ c → events_of_session c (trace_of es) ++ events_of_session c (added e) ≡ own_trace c n
          else_ ne =
              (λ j. events_of_session c (trace_of es) ++ added_else c e ne j)
              ∙ (append-nil (events_of_session c (trace_of es)) ∙ before n (sym (set_else s.notes e.session c e.note (λ same. ne (sym same))) ∙ now))

pub notes_tell : NotesTell
notes_tell m sessions places run l ns leads x n at = tell m sessions places x run leads n at

-- ---- a session that takes no more steps

since : (c : ℕ) (more run : StoreRun) → own_steps c more ≡ []
    → (events : Trace) × (trace_of (more ++ run) ≡ trace_of run ++ events) × (events_of_session c events ≡ [])
since c [] run none = ([], sym (append-nil (trace_of run)), refl)
since c (e ∷ es) run none = ⊎_elim
    (λ (same : e.session ≡ c). absurd (none_some_list e.step (own_steps c es) (sym none ∙ own_here c e es same)))
    (λ (ne : e.session ≢ c).
    let rest = since c es run (sym (own_else c e es ne) ∙ none) in (
      rest.0 ++ added e,
      ap (λ t. t ++ added e) rest.1 ∙ append_assoc (trace_of run) rest.0 (added e),
      filter-append _ rest.0 (added e) ∙ (λ j. rest.2 j ++ added_else c e ne j),
    ))
    (cases_eq e.session c)

-- What such a session has seen begins the trace, and what comes later has none of its events.
pub since_begins : (c : ℕ) (more run : StoreRun) (steps : List (ShelfStep Value)) → own_steps c run ≡ steps
    → own_steps c (more ++ run) ≡ steps
    → (events : Trace) × (trace_of (more ++ run) ≡ trace_of run ++ events) × (events_of_session c events ≡ [])
since_begins c more run steps seen own = since c more run (append_cancel_right (own_steps c more) [] steps
    (ap (λ z. own_steps c more ++ z) (sym seen) ∙ (sym (own_both c more run) ∙ own)))
