-- Turn after turn: what was read, and what was written.
use Rattle.std.proofs.Common.{◌≡◌, inl, inr, ℕ, ◌+◌, ◌<◌, ◌≤◌, Bool, List, [], ◌++◌, length, take, Option, Some, None, Result, Ok, Err, refl, sym, ap, subst, ◌∙◌, append_assoc, arith}
use Rattle.std.proofs.Math.Seq.{take-append-add, take-length}
use Rattle.std.proofs.lemmas.List.{append-nil, length-append, length-take}
use Rattle.std.proofs.lemmas.Option.{same_Some}
use Rattle.std.specs.Io.KnownBytes.{Appends, Consumes, Keeps, IsAtEnd}
use Rattle.loader.specs.StoreState.{StoreState}
use Rattle.loader.specs.CatalogueView.{CatalogueView}
use Rattle.serving.specs.declared.turns.ServeEnd.{ServeEnd}
use Rattle.engine.specs.declared.replies.Status.{Status}
use Rattle.engine.specs.declared.replies.Status.TheVariants as statuses
use Rattle.serving.specs.declared.service.Service.{Service}
use Rattle.engine.specs.Transfer.{AppendsBeginning}
use Rattle.engine.specs.Texts.{no_memory_line}
use Rattle.engine.specs.Report.{Sends}
use Rattle.oplog.specs.declared.configuration.TheConstants.{ENDLESS}
use Rattle.running.specs.RunAnswer.{state_of}
use Rattle.running.proofs.Export as run_turns
use Rattle.serving.specs.declared.turns.TheConstants.{ROOM_BYTES}
use Rattle.serving.specs.ServeAnswer.{ServiceState, Served, served, served_text, nothing_served, given_back, AnswersBytes, IsInLastRead, Ports, Serves}
use Rattle.serving.specs.ServiceKept.{Stands, HasTaken, TakesBytes, Turns, Going}
use Rattle.serving.proofs.Served.{served_parts, none_served}
use Rattle.engine.proofs.Export.{appended, first_broken_off}

-- the state that the lines of an input leave which are answered
abbrev pub state_served : Bool → CatalogueView → List ℕ → StoreState
state_served v c bytes = state_of c (served c (nothing_served v) bytes).serving.history

-- a reader and a writer of which this is known
abbrev pub between : (given left old new : Option (List ℕ)) → Ports
between given left old new = record { given = given; left = left; old = old; new = new }

-- ---- known bytes

pub consumes_both : (x y z : Option (List ℕ)) (a b : List ℕ) → Consumes x y a → Consumes y z b → Consumes x z (a ++ b)
consumes_both None y z a b p q = tt
consumes_both (Some x) None z a b p q = absurd p
consumes_both (Some x) (Some y) None a b p q = absurd q
consumes_both (Some x) (Some y) (Some z) a b p q = p ∙ ap (λ (t : List ℕ). a ++ t) q ∙ sym (append_assoc a b z)

pub consumes_none : (x : Option (List ℕ)) → Consumes x x []
consumes_none None = tt
consumes_none (Some x) = refl

pub consumes_kept : (x y : Option (List ℕ)) → Keeps x y → Consumes x y []
consumes_kept None y k = tt
consumes_kept (Some x) None k = absurd k
consumes_kept (Some x) (Some y) k = sym k

pub appends_none : (x : Option (List ℕ)) → Appends x x []
appends_none None = tt
appends_none (Some x) = sym (append-nil x)

pub appends_kept : (x y : Option (List ℕ)) → Keeps x y → Appends x y []
appends_kept None y k = tt
appends_kept (Some x) None k = absurd k
appends_kept (Some x) (Some y) k = k ∙ sym (append-nil x)

pub begins_both : (x y z : Option (List ℕ)) (a b : List ℕ) → Appends x y a → AppendsBeginning y z b → AppendsBeginning x z (a ++ b)
begins_both x y z a b p q = (length a + q.0, subst (λ (t : List ℕ). Appends x z t) (sym (take-append-add a b q.0)) (appended x y z a (take q.0 b) p q.1))

-- ---- how a turn ends

-- the line that no memory is left was sent behind what a beginning is answered, or broke off
pub no_memory_at : (old now new : Option (List ℕ)) (got : Status) (P : ℕ → Type 0) (text : List ℕ → List ℕ) (bytes : List ℕ) (k : ℕ) → P k
    → Appends old now (text (take k bytes)) → Sends now new got no_memory_line statuses.NoMemory → AnswersBytes old new got P text bytes
no_memory_at old now new got P text bytes k so p (inl whole) =
    subst (λ (s : Status). AnswersBytes old new s P text bytes) (sym whole.0) (k, so, appended old now new (text (take k bytes)) no_memory_line p whole.1)
no_memory_at old now new got P text bytes k so p (inr broke) =
    subst (λ (s : Status). AnswersBytes old new s P text bytes) (sym broke.0) (inr (k, so, begins_both old now new (text (take k bytes)) no_memory_line p broke.1))

-- it is not said then that all is well
pub never_good : (now new : Option (List ℕ)) (got : Status) → Sends now new got no_memory_line statuses.NoMemory → got ≡ statuses.Good → ⊥
never_good now new got (inl whole) good = cc
never_good now new got (inr broke) good = cc

-- and no state is given back
pub none_given : (now new : Option (List ℕ)) (got : Status) (s : StoreState) → Sends now new got no_memory_line statuses.NoMemory → None ≡ given_back got s
none_given now new got s (inl whole) = subst (λ (x : Status). None ≡ given_back x s) (sym whole.0) refl
none_given now new got s (inr broke) = subst (λ (x : Status). None ≡ given_back x s) (sym broke.0) refl

-- ---- one turn

-- what was read into room for one read
pub few_read : (n : ℕ) (room was : List ℕ) → length room ≡ length was → length was ≤ ROOM_BYTES → length (take n room) ≤ ROOM_BYTES
few_read n room was same few = omega (arith, length-take n room, same, few)

module _ (c : CatalogueView) (s : ServiceState) (service : Service) (given left : Option (List ℕ)) where
  nothing_written : (old new : Option (List ℕ)) → Appends old new [] → Appends old new (served c s []).text
  nothing_written old new a = subst (λ (t : Served). Appends old new t.text) (sym (none_served c s)) a

  pub at_end : (old : Option (List ℕ)) (room : List ℕ) (n : ℕ) → n ≡ 0 → 0 < length room → Consumes given left (take n room) × (n ≡ 0 → 0 < length room → IsAtEnd left)
      → Turns c s service (between given left old old) (Some statuses.Good)
  at_end old room n none there some =
      record { bytes = []; read = subst (λ (k : ℕ). Consumes given left (take k room)) none some.0; few = omega arith; whole = λ good. (some.1 none there, refl); answers = nothing_written old old (appends_none old) }

  pub unread : (old : Option (List ℕ)) → Keeps given left → Turns c s service (between given left old old) (Some statuses.CannotRead)
  unread old kept =
      record { bytes = []; read = consumes_kept given left kept; few = omega arith; whole = λ good. absurd cc; answers = nothing_written old old (appends_none old) }

  module _ (old now new : Option (List ℕ)) (bytes before after : List ℕ) (read : Consumes given left bytes) (few : length bytes ≤ ROOM_BYTES) (empty : before ≡ []) where
    pub all_sent : (after ≡ before ++ (served c s bytes).text) × Stands (served c s bytes).serving service → Appends old new after → Turns c s service (between given left old new) None
    all_sent taken sent =
        record {
          bytes = bytes;
          read = read;
          few = few;
          whole = λ good. absurd cc;
          answers = (subst (λ (x : List ℕ). Appends old new x) (taken.0 ∙ ap (λ (x : List ℕ). x ++ (served c s bytes).text) empty) sent, taken.1);
        }

    -- the answers broke off
    broke_off : {E : Type 0} (r : Result (Unit {0}) E) → TakesBytes c s bytes service before after r → AppendsBeginning old new after
        → AnswersBytes old new statuses.CannotWrite (HasTaken c s bytes service) (λ b. (served c s b).text) bytes
    broke_off (Ok u) taken sent =
        inl (subst (λ (x : List ℕ). AppendsBeginning old new x) (taken.0 ∙ ap (λ (x : List ℕ). x ++ (served c s bytes).text) empty) sent)
    broke_off (Err e) taken sent =
        inr (
          taken.0,
          taken.2,
          first_broken_off old new (served c s (take taken.0 bytes)).text no_memory_line
              (subst (λ (x : List ℕ). AppendsBeginning old new x) (taken.1 ∙ ap (λ (x : List ℕ). x ++ (served c s (take taken.0 bytes)).text) empty) sent),
        )

    pub unsent : {E : Type 0} (r : Result (Unit {0}) E) → TakesBytes c s bytes service before after r → AppendsBeginning old new after → Turns c s service (between given left old new) (Some statuses.CannotWrite)
    unsent r taken sent = record { bytes = bytes; read = read; few = few; whole = λ good. absurd cc; answers = broke_off r taken sent }

    pub without_memory : (got : Status) → (k : ℕ) × (after ≡ before ++ (served c s (take k bytes)).text) × HasTaken c s bytes service k → Appends old now after
        → Sends now new got no_memory_line statuses.NoMemory → Turns c s service (between given left old new) (Some got)
    without_memory got taken sent line =
        record {
          bytes = bytes;
          read = read;
          few = few;
          whole = λ good. absurd (never_good now new got line (same_Some got statuses.Good good));
          answers = no_memory_at old now new got (HasTaken c s bytes service) (λ b. (served c s b).text) bytes taken.0 taken.2
              (subst (λ (x : List ℕ). Appends old now x) (taken.1 ∙ ap (λ (x : List ℕ). x ++ (served c s (take taken.0 bytes)).text) empty) sent) line;
        }

-- ---- turn after turn

module _ (v : Bool) (c : CatalogueView) (before : List ℕ) where
  abbrev here : ServiceState
  here = (served c (nothing_served v) before).serving

  text_both : (bytes : List ℕ) → served_text v c before ++ (served c here bytes).text ≡ served_text v c (before ++ bytes)
  text_both bytes = sym (ap (λ (t : Served). t.text) (served_parts c (nothing_served v) before bytes))

  take_both : (bytes : List ℕ) (k : ℕ) → served_text v c before ++ ((served c here (take k bytes)).text ++ no_memory_line) ≡ served_text v c (take (length before + k) (before ++ bytes)) ++ no_memory_line
  take_both bytes k =
      sym (append_assoc (served_text v c before) (served c here (take k bytes)).text no_memory_line)
      ∙ ap (λ (t : List ℕ). t ++ no_memory_line) (text_both (take k bytes) ∙ ap (served_text v c) (sym (take-append-add before bytes k)))

  -- all but the last read is before it
  in_last : (bytes : List ℕ) (k : ℕ) → length bytes ≤ ROOM_BYTES → IsInLastRead (before ++ bytes) (length before + k)
  in_last bytes k few = omega (arith, length-append before bytes, few)

  module _ (old now new : Option (List ℕ)) (P : ℕ → Type 0) (bytes : List ℕ) (few : length bytes ≤ ROOM_BYTES) (so_far : Appends old now (served_text v c before)) where
    pub answers_both : (status : Status) → AnswersBytes now new status P (λ b. (served c here b).text) bytes
        → AnswersBytes old new status (IsInLastRead (before ++ bytes)) (served_text v c) (before ++ bytes)
    answers_both statuses.Good a = subst (λ (t : List ℕ). Appends old new t) (text_both bytes) (appended old now new _ _ so_far a)
    answers_both statuses.CannotRead a = subst (λ (t : List ℕ). Appends old new t) (text_both bytes) (appended old now new _ _ so_far a)
    answers_both statuses.NoMemory a =
        (length before + a.0, in_last bytes a.0 few, subst (λ (t : List ℕ). Appends old new t) (take_both bytes a.0) (appended old now new _ _ so_far a.2))
    answers_both statuses.CannotWrite (inl a) = inl (subst (λ (t : List ℕ). AppendsBeginning old new t) (text_both bytes) (begins_both old now new _ _ so_far a))
    answers_both statuses.CannotWrite (inr a) =
        inr (length before + a.0, in_last bytes a.0 few, subst (λ (t : List ℕ). AppendsBeginning old new t) (take_both bytes a.0) (begins_both old now new _ _ so_far a.2))
    answers_both statuses.Refused a = a
    answers_both statuses.Differs a = a

-- nothing was read yet
pub going_first : (v : Bool) (c : CatalogueView) (service : Service) (given old : Option (List ℕ)) → Stands (nothing_served v) service → Going v c service (between given given old old)
going_first v c service given old stands =
    record {
      bytes = [];
      read = consumes_none given;
      answers = subst (λ (t : Served). Appends old old t.text) (sym (none_served c (nothing_served v))) (appends_none old);
      stands = subst (λ (t : Served). Stands t.serving service) (sym (none_served c (nothing_served v))) stands;
    }

module _ (v : Bool) (c at_turn : CatalogueView) (same : at_turn ≡ c) (service after : Service) (given left rest old now new : Option (List ℕ)) (going : Going v c service (between given left old now)) where
  pub goes_on : ((s : ServiceState) → Stands s service → Turns at_turn s after (between left rest now new) None) → Going v c after (between given rest old new)
  goes_on turns =
      let turn : Turns c (served c (nothing_served v) going.bytes).serving after (between left rest now new) None =
      subst (λ (x : CatalogueView). Turns x (served c (nothing_served v) going.bytes).serving after (between left rest now new) None) same (turns _ going.stands) in
      record {
        bytes = going.bytes ++ turn.bytes;
        read = consumes_both given left rest going.bytes turn.bytes going.read turn.read;
        answers = subst (λ (t : List ℕ). Appends old new t) (text_both v c going.bytes turn.bytes) (appended old now new _ _ going.answers turn.answers.0);
        stands = subst (λ (t : Served). Stands t.serving after) (sym (served_parts c (nothing_served v) going.bytes turn.bytes)) turn.answers.1;
      }

  -- the state that it stands behind
  stands_at : service.catalogue ≡ c → service.node.own.replica.state ≡ state_served v c going.bytes
  stands_at at =
      let history = (served c (nothing_served v) going.bytes).serving.history in
      subst (λ (x : CatalogueView). service.node.own.replica.state ≡ state_of x history) at (sym (run_turns.here ENDLESS service.catalogue history service.node going.stands.follows))

  -- is given back, since nothing was read where all is well
  back : (status : Status) (bytes : List ℕ) (state : Option StoreState) → service.catalogue ≡ c → (status ≡ statuses.Good → after ≡ service) → (status ≡ statuses.Good → bytes ≡ [])
      → state ≡ given_back status after.node.own.replica.state → state ≡ given_back status (state_served v c (going.bytes ++ bytes))
  back statuses.Good bytes state at kept none is =
      is ∙ ap (λ (x : Service). Some x.node.own.replica.state) (kept refl)
      ∙ ap (λ (x : StoreState). Some x) (stands_at at)
      ∙ ap (λ (x : List ℕ). Some (state_served v c x)) (sym (append-nil going.bytes) ∙ ap (λ (x : List ℕ). going.bytes ++ x) (sym (none refl)))
  back statuses.Refused bytes state at kept none is = is
  back statuses.NoMemory bytes state at kept none is = is
  back statuses.CannotRead bytes state at kept none is = is
  back statuses.CannotWrite bytes state at kept none is = is
  back statuses.Differs bytes state at kept none is = is

  pub ends_so : (status : Status) (ended : ServeEnd) → ended.status ≡ status → service.catalogue ≡ c → (Some status ≡ Some statuses.Good → after ≡ service)
      → ended.state ≡ given_back status after.node.own.replica.state → ((s : ServiceState) → Stands s service → Turns at_turn s after (between left rest now new) (Some status)) → Serves v c (between given rest old new) ended
  ends_so status ended told at kept given_state turns =
      let turn : Turns c (served c (nothing_served v) going.bytes).serving after (between left rest now new) (Some status) =
      subst (λ (x : CatalogueView). Turns x (served c (nothing_served v) going.bytes).serving after (between left rest now new) (Some status)) same (turns _ going.stands) in
      subst (λ (x : Status). Serves v c (between given rest old new) (record { status = x; state = ended.state })) (sym told)
      (record {
        bytes = going.bytes ++ turn.bytes;
        read = consumes_both given left rest going.bytes turn.bytes going.read turn.read;
        whole = λ good. (turn.whole (ap (λ (x : Status). Some x) good)).0;
        answers = answers_both v c going.bytes old now new (HasTaken c (served c (nothing_served v) going.bytes).serving turn.bytes after) turn.bytes turn.few going.answers status turn.answers;
        state = back status turn.bytes ended.state at (λ good. kept (ap (λ (x : Status). Some x) good)) (λ good. (turn.whole (ap (λ (x : Status). Some x) good)).1) given_state;
      })

-- past the last turn
pub ends_last : (v : Bool) (c : CatalogueView) (service : Service) (given left old now new : Option (List ℕ)) (got : Status) (ended : ServeEnd) → ended ≡ record { status = got; state = None }
    → Going v c service (between given left old now) → Sends now new got no_memory_line statuses.NoMemory → Serves v c (between given left old new) ended
ends_last v c service given left old now new got ended told going sends =
    subst (λ (x : ServeEnd). Serves v c (between given left old new) x) (sym told)
    record {
      bytes = going.bytes;
      read = going.read;
      whole = λ good. absurd (never_good now new got sends good);
      answers = no_memory_at old now new got (IsInLastRead going.bytes) (served_text v c) going.bytes (length going.bytes) (omega arith)
          (subst (λ (x : List ℕ). Appends old now (served_text v c x)) (sym (take-length going.bytes)) going.answers) sends;
      state = none_given now new got (state_served v c going.bytes) sends;
    }
