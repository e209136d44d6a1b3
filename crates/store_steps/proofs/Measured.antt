-- A session that holds its node's replica takes the log, reads the completed tail, and puts both back as they were.
use Rattle.std.proofs.Common.{eq-eqb, if◌then◌else◌, ◌≡◌, ℕ, ◌+◌, List, [], ◌∷◌, ◌++◌, append_assoc, Some, sym, refl, ap, ◌∙◌, subst}
use Rattle.std.proofs.lemmas.Option.{none-some, same_Some}
use lib.ListN.{get_elem?}
use Rattle.loader.specs.CatalogueView.{CatalogueView}
use Rattle.ownlock.specs.declared.known.ShelfStep.TheVariants.{Took, Put, Read}
use Rattle.ownlock.specs.Rules.{leader}
use Rattle.ownlock.proofs.Export.{stepped_by}
use Rattle.ownlock.specs.Seats.{Adds, At, Continues, HasStepped, having_read, tails_in, without, Run as RunOf}
use Rattle.ownlock.specs.Knowledge.{Possible}
use Rattle.oplog.specs.Logs.{Log as LogView}
use Rattle.replica.specs.StoreMeaning.{store_meaning}
use Rattle.oplog.specs.declared.configuration.Sizes.{Sizes}
use Rattle.oplog.specs.Sessions.{IsSessionOf}
use Rattle.accounts.specs.declared.sessions.Progress.{Progress}
use Rattle.accounts.specs.declared.sessions.SessionNote.{SessionNote}
use Rattle.accounts.specs.Accounts.{Extends, IsWellFormed}
use Rattle.accounts.specs.Picks.{put_progress, put_note}
use Rattle.accounts.proofs.Export.{puts_account, same_picked, same_picks}
use Rattle.node.specs.declared.following.NodeReplica.{NodeReplica}
use Rattle.store_steps.specs.declared.measuring.Stats.{Stats}
use Rattle.store_steps.specs.declared.steps.Caller.{Caller}
use Rattle.store_steps.specs.declared.values.Value.{Value}
use Rattle.store_steps.specs.declared.values.Value.TheVariants.{Log, Replica, Desk}
use Rattle.store_steps.specs.Doing.{ALog, AReplica, Did, Nothing}
use Rattle.store_steps.specs.Knowing.{HasReplica}
use Rattle.store_steps.specs.Lending.{log_of, replica_of, with_replica}
use Rattle.store_steps.specs.Measuring.{AreStats, HasFound, HasMeasured, find_deeds, measure_deeds}
use Rattle.store_steps.specs.Shelving.{IsSized, log_value, session_noting, store_rules, view_of}
use Rattle.store_steps.specs.Standing.{IsFree, IsLogOf, SessionKnown, Stands}
use Rattle.store_steps.specs.Trying.{IsStill}
use Rattle.store_steps.proofs.Doing.{did_one, did_then, log_part, nothing_on, replica_part}
use Rattle.store_steps.proofs.Finished.{Back, Picked, put_back}
use Rattle.store_steps.proofs.StoreLaws.{session_laws, session_notes, store_laws}
use Rattle.store_steps.proofs.Taken.{TookLog, TookReplica, log_is, well_formed}
use Rattle.store_steps.proofs.Tried.{low_enough, still_back}
use Rattle.store_steps.proofs.Whole.{agrees_on}

abbrev K : Type 0
K = SessionKnown

abbrev L : Type 0
L = Progress CatalogueView

-- ---- a value goes back as it was taken

-- the session has put it back, and holds these others still
pub record IsPutBack (t f : K) (us : List (ℕ × Value)) : Type 0 where
  pub session : f.session ≡ t.session
  pub note : f.note ≡ t.note
  pub held : f.held ≡ us
  pub tails : tails_in f.steps ≡ tails_in t.steps
  pub extends : Extends t.progress f.progress
  pub stands : Stands f

module _ (t : K) (p : ℕ) (x : Value) (us : List (ℕ × Value)) (held : t.held ≡ (p, x) ∷ us) (sessions : List K) (is : sessions ≡ t ∷ []) where
  at_first : At 0 (p, x) t.held
  at_first = ap (λ z. get_elem? z 0) held

  rest : without p t.held ≡ us
  rest = ap (without p) held ∙ ap (λ b. if b then us else ((p, x) ∷ without p us)) (eq-eqb p p refl)

  pub may_put_same : Picked sessions x t p
  may_put_same = same_picked session_laws view_of session_notes IsSized sessions t p 0 x x at_first refl (λ config c s. s) is

  pub same_put_back : (l : L) (ns : List SessionNote) → Possible store_rules t l ns → (run : RunOf L SessionNote Value) → Continues t.run run → IsPutBack t (put_back sessions x t p l run) us
  same_put_back l ns may run on =
      let e = puts_account session_laws view_of session_notes IsSized (put_progress sessions (view_of x)) (put_note session_noting sessions (view_of x)) t p x l ns run may_put_same may on in
      let s = same_picks session_laws view_of session_notes IsSized sessions t p 0 x x l ns is at_first refl may in
      record {
        session = e.session;
        note = s.1;
        held = e.held ∙ rest;
        tails = ap tails_in e.steps.0;
        extends = e.extends;
        stands = record { notes = e.notes; accounts = e.accounts; here = e.here };
      }

-- ---- the log

log_found : (l : L) (ns : List SessionNote) (x : Value) → store_rules.AgreesWith leader l ns x → IsWellFormed store_meaning l → (g : LogView) → log_of x ≡ Some g → IsLogOf l g
log_found l ns (Log h) a well g is = log_is l (Log h) (log_value h.value) well refl a.0.1 a.1 g is
log_found l ns (Replica n) a well g is = absurd (none-some g is)
log_found l ns (Desk d) a well g is = absurd (none-some g is)

-- the session has read the completed tail, which is that of the progress d, while it holds the log x
module _ (k t : K) (n : NodeReplica) (x : Value) (b : TookLog k t n x) (d : L) (ns : List SessionNote) (can : Possible store_rules t d ns) (done : ℕ) (run : RunOf L SessionNote Value) (on : Adds t (Read done) d t.note run) (q : ℕ) (at : q ≡ leader) where
  abbrev m : K
  m = having_read t d t.note done run

  pub held_log : m.held ≡ (q, x) ∷ k.held
  held_log = b.held ∙ ap (λ z. (z, x) ∷ k.held) (sym at)

  pub has_found : (g : LogView) → log_of x ≡ Some g → (stats : Stats) → AreStats stats done g n → done ≡ d.completed → (f : K) → IsPutBack m f k.held → HasStepped m (Put q x) f → HasFound n stats k f
  has_found g is stats are told f e put = record {
    session = e.session ∙ b.session;
    held = e.held;
    note = e.note ∙ b.note;
    moment = d;
    since = store_laws.extends_on k.progress t.progress d b.extends can.0.0;
    until = e.extends;
    log = g;
    log_is = log_found d ns x (can.3 0 (0, x) (ap (λ z. get_elem? z 0) b.held)) (well_formed d ns can.2) g is;
    are = subst (λ z. AreStats stats z g n) told are;
    did = subst (λ z. Did k f (find_deeds g z)) (sym are.completed_is)
        (did_then k t f (Took 0 (ALog g) ∷ []) (Read done ∷ Put 0 (ALog g) ∷ []) (did_one k t (Took 0 x) (Took 0 (ALog g)) b.steps (ap (Took 0) (log_part x g is)))
        (did_then t m f (Read done ∷ []) (Put 0 (ALog g) ∷ []) (did_one t m (Read done) (Read done) (stepped_by t m (Read done) refl refl on) refl) (did_one m f (Put q x) (Put 0 (ALog g)) put (λ i. Put (at i) (log_part x g is i)))));
  }

-- ---- the replica

same_replica : (w : Value) (n : NodeReplica) → replica_of w ≡ Some n → with_replica w n ≡ w
same_replica (Replica m) n is = ap (λ z. Replica (record m { value = z })) (sym (same_Some m.value n is))
same_replica (Log g) n is = absurd (none-some n is)
same_replica (Desk d) n is = absurd (none-some n is)

module _ (k t : K) (caller : Caller) (w : Value) (free : IsFree caller k) (b : TookReplica (1 + caller.node) k t w) (n : NodeReplica) (is : replica_of w ≡ Some n) (q : ℕ) (at : q ≡ 1 + caller.node) where
  pub has_node : HasReplica t n t.progress.catalogue
  has_node = record { value = w; holds = b.holds; agrees = b.agrees n is; stands = b.stands; catalogue = refl }

  pub held_node : t.held ≡ (q, w) ∷ []
  held_node = b.held ∙ ap (λ z. (z, w) ∷ []) (sym at)

  -- another session holds the log
  pub still_put : (f : K) → IsPutBack t f [] → HasStepped t (Put q w) f → IsStill k f
  still_put f e put =
      let there : Back t f = record { session = e.session; note = e.note; held = e.held; tails = e.tails; extends = e.extends; stands = e.stands } in
      still_back (1 + caller.node) q k t f w n b there is at (subst (λ z. HasStepped t (Put q z) f) (sym (same_replica w n is)) put)

  -- the log was found
  module _ (stats : Stats) (f : K) (found : HasFound n stats t f) where
    pub held_still : f.held ≡ (q, w) ∷ []
    held_still = found.held ∙ held_node

    pub has_measured : (z : K) → IsPutBack f z [] → HasStepped f (Put q w) z → HasMeasured stats k z
    has_measured z e put =
        let to = store_laws.extends_on k.progress t.progress found.moment b.extends found.since in
        let up = store_laws.extends_on found.moment f.progress z.progress found.until e.extends in
        let agrees = b.agrees n is in record {
          session = e.session ∙ (found.session ∙ b.session);
          held = e.held;
          note = e.note ∙ (found.note ∙ b.note);
          extends = store_laws.extends_on k.progress found.moment z.progress to up;
          well_formed = well_formed z.progress e.stands.notes e.stands.accounts;
          by = record {
            node = caller.node;
            mine = (caller.slot, free.within, free.own, free.near);
            moment = found.moment;
            since = to;
            until = up;
            log = found.log;
            log_is = found.log_is;
            own = n;
            own_is = agrees_on t.progress found.moment n found.since (low_enough t n agrees b.stands) agrees;
            are = found.are;
            tries = [];
            nothing = Nothing;
            did = did_then k t z (Took (1 + caller.node) (AReplica n) ∷ []) (find_deeds found.log stats.completed ++ Put (1 + caller.node) (AReplica n) ∷ []) (did_one k t (Took (1 + caller.node) w) (Took (1 + caller.node) (AReplica n)) b.steps (ap (Took (1 + caller.node)) (replica_part w n is)))
                (did_then t f z (find_deeds found.log stats.completed) (Put (1 + caller.node) (AReplica n) ∷ []) found.did (did_one f z (Put q w) (Put (1 + caller.node) (AReplica n)) put (λ i. Put (at i) (replica_part w n is i))));
          };
        }

-- ---- a place was held before

pub measured_since : (k m f : K) (stats : Stats) → IsStill k m → HasMeasured stats m f → HasMeasured stats k f
measured_since k m f stats s h = record {
  session = h.session ∙ s.session;
  held = h.held;
  note = h.note ∙ s.note;
  extends = store_laws.extends_on k.progress m.progress f.progress s.extends h.extends;
  well_formed = h.well_formed;
  by = record {
    node = h.by.node;
    mine = subst (λ (z : Sizes × ℕ). IsSessionOf z.0 h.by.node z.1) (λ i. (sym s.extends.config i, s.session i)) h.by.mine;
    moment = h.by.moment;
    since = store_laws.extends_on k.progress m.progress h.by.moment s.extends h.by.since;
    until = h.by.until;
    log = h.by.log;
    log_is = h.by.log_is;
    own = h.by.own;
    own_is = h.by.own_is;
    are = h.by.are;
    tries = s.tries ++ h.by.tries;
    nothing = nothing_on s.nothing h.by.nothing;
    did =
        let last = measure_deeds (1 + h.by.node) h.by.log h.by.own stats.completed in
        subst (Did k f) (sym (append_assoc s.tries h.by.tries last)) (did_then k m f s.tries (h.by.tries ++ last) s.did h.by.did);
  };
}
