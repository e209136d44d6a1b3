-- What was copied is replayed and completed, and the replica is put back.
use Rattle.std.proofs.Common.{eq-eqb, if◌then◌else◌, ◌≡◌, ℕ, ◌+◌, ◌<◌, ◌≤◌, List, [], ◌∷◌, length, sym, refl, ap, ◌∙◌, subst, arith, Option, Some, None, slice_get, option_map}
use lib.ListN.{get_elem?}
use Rattle.ownlock.specs.Rules.{leader}
use Rattle.ownlock.specs.Seats.{At, tails_in, without, left_with, Continues, Run as RunOf}
use Rattle.ownlock.specs.Knowledge.{Possible, MayPut}
use Rattle.machine.specs.declared.running.Outcome.{Outcome}
use Rattle.loader.specs.CatalogueView.{CatalogueView}
use Rattle.oplog.specs.declared.records.Record.{Record}
use Rattle.oplog.specs.History.{reply_at}
use Rattle.replica.specs.StoreMeaning.{store_meaning}
use Rattle.replica.specs.Views.{RepliesView}
use Rattle.accounts.specs.declared.sessions.Progress.{Progress}
use Rattle.accounts.specs.declared.sessions.SessionNote.{SessionNote}
use Rattle.accounts.specs.Accounts.{Extends}
use Rattle.accounts.specs.Agreement.{replica_place}
use Rattle.accounts.specs.Picks.{put_progress, put_note}
use Rattle.accounts.specs.ReadNotes.{asked_with, heard_at}
use Rattle.oplog.specs.Operations.{Operation}
use Rattle.accounts.proofs.Export.{asked_may_put, heard_may_put, replica_may_put, replica_picked, replica_picks, puts_account, grown_long, sized_on}
use Rattle.node.specs.declared.following.NodeReplica.{NodeReplica}
use Rattle.store_steps.specs.declared.values.Value.{Value}
use Rattle.store_steps.specs.Lending.{with_replica}
use Rattle.store_steps.specs.Shelving.{view_of, IsSized, session_rules, session_noting, store_rules, replica_value}
use Rattle.store_steps.specs.Ready.{HasAskedRead, MayBegin}
use Rattle.store_steps.specs.Views.{RepliesThere, first_in}
use Rattle.store_steps.specs.Standing.{SessionKnown, Stands, Agrees, HoldsReplica, GoesOn, HasRaised, KeepsOutcomesOf, HasReached}
use Rattle.store_steps.proofs.StoreLaws.{session_laws, session_notes, store_laws}
use Rattle.store_steps.proofs.Parts.{log_seen, replica_put, replica_seen, replica_sizes}
use Rattle.store_steps.proofs.Taken.{TookLog, own_on}
use Rattle.store_steps.proofs.Followed.{HasAll}
use Rattle.store_steps.proofs.Played.{all_agrees}

abbrev K : Type 0
K = SessionKnown

abbrev L : Type 0
L = Progress CatalogueView

abbrev pub Picked : List K → Value → K → ℕ → Type 0
Picked sessions y t q = MayPut store_rules (put_progress sessions (view_of y)) (put_note session_noting sessions (view_of y)) t q y

-- what a session notes that puts the log back and asks a read there, by what the seat knows
abbrev pub asks_there : Option Operation → List K → SessionNote → SessionNote
asks_there asked sessions = asked_with asked (length (first_in sessions).progress.history)

-- what the session has become, once it has put y back
abbrev pub put_back : List K → Value → K → ℕ → Progress CatalogueView → RunOf L SessionNote Value → K
put_back sessions y t q l run = left_with t q y (put_progress sessions (view_of y) l) (put_note session_noting sessions (view_of y) t.note) run

-- the session still is what it was, but for the progress that it knows and the read that it has asked
pub record Same (asked : Option Operation) (k t f : K) : Type 0 where
  pub goes : GoesOn k f
  pub note : f.note ≡ asked_with asked (length t.progress.history) k.note
  pub on : Extends t.progress f.progress

pub holds_still : (k t : K) (w : Value) → t.session ≡ k.session → t.held ≡ k.held → Extends k.progress t.progress → HoldsReplica k w → HoldsReplica t w
holds_still k t w session held extends h = record {
  node = h.node;
  own = own_on k t h.node session extends h.own;
  held = held ∙ h.held;
  replica = h.replica;
  sized = sized_on view_of IsSized session_rules k.progress t.progress w extends.config extends.catalogue h.sized;
}

pub holds_on : (k t : K) (w : Value) → GoesOn k t → HoldsReplica k w → HoldsReplica t w
holds_on k t w g h = holds_still k t w g.session g.held g.extends h

-- what a session is that has this note, once its replica is back
pub record BackWith (n : SessionNote) (k f : K) : Type 0 where
  pub session : f.session ≡ k.session
  pub note : f.note ≡ n
  pub held : f.held ≡ []
  pub tails : tails_in f.steps ≡ tails_in k.steps
  pub extends : Extends k.progress f.progress
  pub stands : Stands f

abbrev pub Back : (k f : K) → Type 0
Back k f = BackWith k.note k f

abbrev pub held_first : List (ℕ × Value) → ℕ
held_first [] = 0
held_first (u ∷ us) = u.0

none_left : (n : ℕ) (w : Value) → without (1 + n) ((1 + n, w) ∷ []) ≡ []
none_left n w = ap (λ b. if b then [] else ((1 + n, w) ∷ [])) (eq-eqb (1 + n) (1 + n) refl)

module _ (k : K) (w : Value) (h : HoldsReplica k w) where
  here : At 0 (replica_place k.progress.config h.node, w) k.held
  here = ap (λ z. get_elem? z 0) h.held

  same_place : (q : ℕ) → k.held ≡ (q, w) ∷ [] → replica_place k.progress.config h.node ≡ q
  same_place q e = ap held_first (sym h.held ∙ e)

  -- the value with the replica as it is now
  module _ (sessions : List K) (is : sessions ≡ k ∷ []) (n : NodeReplica) (a : Agrees k.progress n) (low : n.replica.tail ≤ length k.progress.history) where
    abbrev v : Value
    v = with_replica w n

    picked : Picked sessions v k (replica_place k.progress.config h.node)
    picked =
        let s = replica_seen w h.replica in
        replica_picked session_laws view_of session_notes IsSized sessions k (replica_place k.progress.config h.node) 0 w v s.0 (replica_value n.replica) here s.1 (replica_put w n h.replica) (replica_sizes k.progress.config k.progress.catalogue w n h.replica h.sized a.1) low a.0 is

    pub may_put_replica : (q : ℕ) → k.held ≡ (q, w) ∷ [] → Picked sessions v k q
    may_put_replica q e = subst (λ z. Picked sessions v k z) (same_place q e) picked

    same_note : put_note session_noting sessions (view_of v) k.note ≡ k.note
    same_note = ap (λ f. f k.note) (replica_picks session_laws view_of session_notes IsSized sessions k v (replica_value n.replica) is (replica_put w n h.replica)).1

    back_zero : (l : L) (ns : List SessionNote) → Possible store_rules k l ns → (run : RunOf L SessionNote Value) → Continues k.run run → Back k (put_back sessions v k (replica_place k.progress.config h.node) l run)
    back_zero l ns may run on =
        let p = puts_account session_laws view_of session_notes IsSized (put_progress sessions (view_of v)) (put_note session_noting sessions (view_of v)) k (replica_place k.progress.config h.node) v l ns run picked may on in
        record {
          session = p.session;
          note = same_note;
          held = p.held ∙ (ap (λ z. without (replica_place k.progress.config h.node) z) h.held ∙ none_left h.node w);
          tails = ap tails_in p.steps.0;
          extends = p.extends;
          stands = record { notes = p.notes; accounts = p.accounts; here = p.here };
        }

    pub back : (q : ℕ) → k.held ≡ (q, w) ∷ [] → (l : L) (ns : List SessionNote) → Possible store_rules k l ns → (run : RunOf L SessionNote Value) → Continues k.run run → Back k (put_back sessions v k q l run)
    back q e l ns may run on = subst (λ z. Back k (put_back sessions v k z l run)) (same_place q e) (back_zero l ns may run on)

  -- the same, where it has asked a read, which replies so there
  module _ (n : NodeReplica) (a : Agrees k.progress n) (low : n.replica.tail ≤ length k.progress.history) (reply : ℕ) where
    abbrev pub IsHeard : Option Operation → Type 0
    IsHeard asked = (op : Operation) → asked ≡ Some op
        → (seen : ℕ) × (k.note.begun ≡ Some (record { op = op; seen = seen })) × (seen ≤ n.replica.tail) × RepliesThere k.progress.catalogue op n reply

    abbrev heard : Option Operation → SessionNote → SessionNote
    heard asked = heard_at asked n.replica.tail reply

    may_hear_zero : (asked : Option Operation) → IsHeard asked → MayPut store_rules (λ l. l) (heard asked) k (replica_place k.progress.config h.node) (with_replica w n)
    may_hear_zero None is =
        let s = replica_seen w h.replica in
        replica_may_put session_laws view_of IsSized k (replica_place k.progress.config h.node) 0 w (with_replica w n) s.0 (replica_value n.replica) here s.1 (replica_put w n h.replica)
        (replica_sizes k.progress.config k.progress.catalogue w n h.replica h.sized a.1) low a.0
    may_hear_zero (Some op) is =
        let s = replica_seen w h.replica in
        let t = is op refl in
        heard_may_put store_meaning view_of IsSized k (replica_place k.progress.config h.node) w (with_replica w n) (replica_value n.replica) (record { op = op; seen = t.0 }) reply
        (record {
          index = 0;
          held = here;
          x = s.0;
          was = s.1;
          becomes = replica_put w n h.replica;
          sizes = replica_sizes k.progress.config k.progress.catalogue w n h.replica h.sized a.1;
          within = low;
          agrees = a.0;
          begun = t.1;
          seen = t.2;
          replies = t.3;
        })

    pub may_hear : (asked : Option Operation) → IsHeard asked → (q : ℕ) → k.held ≡ (q, w) ∷ [] → MayPut store_rules (λ l. l) (heard asked) k q (with_replica w n)
    may_hear asked is q e = subst (λ z. MayPut store_rules (λ l. l) (heard asked) k z (with_replica w n)) (same_place q e) (may_hear_zero asked is)

    hears_zero : (asked : Option Operation) → IsHeard asked → (l : L) (ns : List SessionNote) → Possible store_rules k l ns → (run : RunOf L SessionNote Value) → Continues k.run run
        → BackWith (heard asked k.note) k (left_with k (replica_place k.progress.config h.node) (with_replica w n) l (heard asked k.note) run)
    hears_zero asked is l ns may run on =
        let p = puts_account session_laws view_of session_notes IsSized (λ l. l) (heard asked) k (replica_place k.progress.config h.node) (with_replica w n) l ns run (may_hear_zero asked is) may on in
        record {
          session = p.session;
          note = refl;
          held = p.held ∙ (ap (λ z. without (replica_place k.progress.config h.node) z) h.held ∙ none_left h.node w);
          tails = ap tails_in p.steps.0;
          extends = p.extends;
          stands = record { notes = p.notes; accounts = p.accounts; here = p.here };
        }

    pub hears : (asked : Option Operation) → IsHeard asked → (q : ℕ) → k.held ≡ (q, w) ∷ [] → (l : L) (ns : List SessionNote) → Possible store_rules k l ns → (run : RunOf L SessionNote Value) → Continues k.run run
        → BackWith (heard asked k.note) k (left_with k q (with_replica w n) l (heard asked k.note) run)
    hears asked is q e l ns may run on =
        subst (λ z. BackWith (heard asked k.note) k (left_with k z (with_replica w n) l (heard asked k.note) run)) (same_place q e) (hears_zero asked is l ns may run on)

-- the reply of a record that was replayed is kept
pub reply_kept : (a : K) (r : Record) (j i t : ℕ) (old new : RepliesView) → At i r a.progress.history → t ≤ i → old.first + j ≡ i → j < length old.outcomes → KeepsOutcomesOf a.progress t old new
    → (o : Outcome) × (slice_get new.outcomes j ≡ Some (Some o)) × (reply_at store_meaning a.progress.catalogue a.progress.history i r.op ≡ Some o.reply)
reply_kept a r j i t old new at low is some kept =
    let one = kept j i r some low at is in
    (one.0, one.1, ap (λ e. option_map (λ z. z.reply) e) one.2.takes ∙ ap (λ (o : Outcome). Some o.reply) (sym one.2.outcome))

module _ (k t : K) (m : NodeReplica) (x : Value) (b : TookLog k t m x) where
  pub log_catalogue : (c : CatalogueView) → k.progress.catalogue ≡ c → t.progress.catalogue ≡ c
  log_catalogue c is = sym b.extends.catalogue ∙ is

  -- the log goes back as it was taken, and the session asks a read there
  module _ (asked : Option Operation) (may_ask : MayBegin asked t) (sessions : List K) (is : sessions ≡ t ∷ []) where
    at_log : At 0 (0, x) t.held
    at_log = ap (λ z. get_elem? z 0) b.held

    abbrev noted : SessionNote → SessionNote
    noted = asked_with asked (length t.progress.history)

    put_zero : MayPut store_rules (λ l. l) noted t 0 x
    put_zero = let s = log_seen x b.some in asked_may_put store_meaning view_of IsSized asked t 0 x s.0 may_ask at_log s.1

    pub asked_put : (q : ℕ) → q ≡ leader → MayPut store_rules (λ l. l) (asks_there asked sessions) t q x
    asked_put q e = subst (λ z. MayPut store_rules (λ l. l) (asks_there asked z) t q x) (sym is) (subst (λ z. MayPut store_rules (λ l. l) noted t z x) (sym e) put_zero)

    back_at_zero : (l : L) (ns : List SessionNote) → Possible store_rules t l ns → (run : RunOf L SessionNote Value) → Continues t.run run → Same asked k t (left_with t 0 x l (noted t.note) run)
    back_at_zero l ns may run on =
        let p = puts_account session_laws view_of session_notes IsSized (λ l. l) noted t 0 x l ns run put_zero may on in
        record {
          goes = record { session = p.session ∙ b.session; held = p.held ∙ ap (λ z. without 0 z) b.held; tails = ap tails_in p.steps.0 ∙ ap tails_in b.steps.0; extends = store_laws.extends_on k.progress t.progress _ b.extends p.extends };
          note = ap noted b.note;
          on = p.extends;
        }

    pub asked_back : (q : ℕ) → q ≡ leader → (l : L) (ns : List SessionNote) → Possible store_rules t l ns → (run : RunOf L SessionNote Value) → Continues t.run run
        → Same asked k t (left_with t q x l (asks_there asked sessions t.note) run)
    asked_back q e l ns may run on =
        subst (λ (z : ℕ × List K). Same asked k t (left_with t z.0 x l (asks_there asked z.1 t.note) run)) (λ i. (sym e i, sym is i)) (back_at_zero l ns may run on)

  module _ (asked : Option Operation) (n : NodeReplica) (f after : K) (s : Same asked k t f) (all : HasAll t.progress n) where
    pub long_enough : n.replica.tail ≤ length f.progress.history
    long_enough = let tail = all.tail in let long = grown_long store_meaning t.progress f.progress s.on in omega (arith, tail, long)

    pub followed : HasRaised f after n.replica.tail → HasReached k after k.progress.completed n × HasAskedRead asked k after n
    followed up =
        let tail = all.tail in
        let on = store_laws.extends_on t.progress f.progress after.progress s.on up.goes.extends in
        let long = grown_long store_meaning t.progress after.progress on in
        let done = up.completed in
        let rise = b.extends.completed in
        let low = b.stands.accounts.completed in (
          record {
            goes = record { session = up.goes.session ∙ s.goes.session; held = up.goes.held ∙ s.goes.held; tails = up.goes.tails ∙ s.goes.tails; extends = store_laws.extends_on k.progress f.progress after.progress s.goes.extends up.goes.extends };
            agrees = all_agrees t.progress after.progress n on (omega (arith, tail, done)) all;
            within = omega (arith, tail, long);
            reached = omega (arith, tail, rise, low);
          },
          record { seen = length t.progress.history; low = omega (arith, tail); note = up.note ∙ s.note },
        )
