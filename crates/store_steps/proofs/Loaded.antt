-- A session that has taken its node's replica and loads the completed tail: it may ask a read there.
use Rattle.std.proofs.Common.{◌≡◌, ℕ, ◌<◌, ◌≤◌, ◌+◌, ltb, true, if◌then◌else◌, List, [], ◌∷◌, ◌++◌, set, sym, refl, ap, ◌∙◌, subst, arith, Option, Some, None}
use Rattle.std.proofs.lemmas.Bool.{le-leb, lt-ltb, le-ltb, lt-leb}
use Rattle.atomic_table.proofs.Lists.{set_here}
use Rattle.ownlock.specs.declared.known.ShelfStep.TheVariants.{Read, Took}
use Rattle.ownlock.specs.Knowledge.{Acquired, MayAsk, Possible, Reads}
use Rattle.ownlock.specs.Seats.{Adds, IsSession, having_read, run_of, tails_in}
use Rattle.ownlock.proofs.Export.{at_below, stepped_by}
use Rattle.loader.specs.CatalogueView.{CatalogueView}
use Rattle.oplog.specs.Operations.{Operation}
use Rattle.replica.specs.StoreMeaning.{store_meaning}
use Rattle.accounts.specs.declared.sessions.Progress.{Progress}
use Rattle.accounts.specs.declared.sessions.SessionNote.{SessionNote}
use Rattle.accounts.specs.Accounts.{Extends}
use Rattle.accounts.specs.Moves.{IsAtRest}
use Rattle.accounts.specs.ReadNotes.{asked_at, asked_with}
use Rattle.accounts.proofs.Export.{may_ask_there}
use Rattle.node.specs.declared.following.NodeReplica.{NodeReplica}
use Rattle.store_steps.specs.declared.values.Value.{Value}
use Rattle.store_steps.specs.Doing.{AReplica, Did}
use Rattle.store_steps.specs.Lending.{replica_of, with_replica}
use Rattle.store_steps.specs.Knowing.{HasReplica}
use Rattle.store_steps.specs.Ready.{HasAskedRead, HoldsReady, MayBegin, MayRead}
use Rattle.store_steps.specs.Shelving.{IsSized, store_rules, view_of}
use Rattle.store_steps.specs.Standing.{Agrees, HasReached, HoldsReplica, IsFree, SessionKnown, Stands, StoreSeat}
use Rattle.store_steps.specs.Views.{first_in}
use Rattle.store_steps.specs.declared.steps.Caller.{Caller}
use Rattle.store_steps.specs.Whole.{FollowsBy}
use Rattle.store_steps.proofs.Doing.{did_one, did_then, replica_part}
use Rattle.store_steps.proofs.Finished.{holds_on, holds_still}
use Rattle.store_steps.proofs.StoreLaws.{store_laws}
use Rattle.store_steps.proofs.Stretches.{follows_none}
use Rattle.store_steps.proofs.Taken.{TookReplica, took_replica}
use Rattle.store_steps.proofs.Tried.{low_enough}
use Rattle.store_steps.proofs.Whole.{agrees_on}

abbrev K : Type 0
K = SessionKnown

abbrev L : Type 0
L = Progress CatalogueView

-- who waits for nothing may ask a read of the catalogue
pub may_begin : (asked : Option Operation) (k : K) (c : CatalogueView) → IsAtRest k.note → k.progress.catalogue ≡ c → MayRead c asked → MayBegin asked k
may_begin asked k c rests same may op is = (rests, subst (λ z. store_meaning.is_read z op ≡ true) (sym same) (may op is))

-- and still may, once it knows more
pub may_still : (asked : Option Operation) (k t : K) → t.note ≡ k.note → Extends k.progress t.progress → MayBegin asked k → MayBegin asked t
may_still asked k t note extends may op is =
    let m = may op is in (subst IsAtRest (sym note) m.0, subst (λ c. store_meaning.is_read c op ≡ true) extends.catalogue m.1)

pub may_load : (asked : Option Operation) (tail : ℕ) (k : K) → MayBegin asked k → MayAsk store_rules (asked_at asked tail) k
may_load asked tail k may = may_ask_there store_meaning view_of IsSized asked tail k may

noted_reached : (asked : Option Operation) (tail found : ℕ) (n : SessionNote) → found ≤ tail → asked_at asked tail found n ≡ asked_with asked found n
noted_reached asked tail found n low = ap (λ b. if b then asked_with asked found n else n) (le-leb found tail low)

noted_behind : (asked : Option Operation) (tail found : ℕ) (n : SessionNote) → tail < found → asked_at asked tail found n ≡ n
noted_behind asked tail found n low = ap (λ b. if b then asked_with asked found n else n) (lt-leb found tail low)

-- the tail of the replica that a session holds
abbrev tail_of : Option NodeReplica → ℕ
tail_of None = 0
tail_of (Some n) = n.replica.tail

abbrev tail_in : List (ℕ × Value) → ℕ
tail_in [] = 0
tail_in (u ∷ us) = tail_of (replica_of u.1)

abbrev pub tail_there : List K → ℕ
tail_there sessions = tail_in (first_in sessions).held

-- The session k took the replica n of its node, as w, and is t. Then it loaded the completed tail, which is done: it is `told` what stood then.
pub record HasLoaded (asked : Option Operation) (p : ℕ) (k : K) (w : Value) (n : NodeReplica) (done : ℕ) (now : StoreSeat) : Type 0 where
  pub t : K
  pub took : TookReplica p k t w
  pub some : replica_of w ≡ Some n
  pub may : MayBegin asked k
  pub tail : ℕ
  pub tail_is : tail ≡ n.replica.tail
  pub l : L
  pub ns : List SessionNote
  pub can : Possible store_rules t l ns
  pub done_is : done ≡ l.completed
  pub is : IsSession now (having_read t l (asked_at asked tail done t.note) done (run_of now.sessions))
  pub on : Adds t (Read done) l (asked_at asked tail done t.note) (run_of now.sessions)

-- by the clauses of the take and of the load
pub loaded : (asked : Option Operation) (caller : Caller) (k : K) (w : Value) (n : NodeReplica) (done : ℕ) (taken now : StoreSeat) → IsFree caller k → MayBegin asked k → replica_of w ≡ Some n
    → ((t : K) × Acquired store_rules (1 + caller.node) k t w × IsSession taken t) → Reads store_rules (asked_at asked (tail_there taken.sessions)) taken done now
    → HasLoaded asked (1 + caller.node) k w n done now
loaded asked caller k w n done taken now free may some t reads =
    let b = took_replica k t.0 caller w free t.1 in
    let d = reads t.0 t.2 in
    record {
      t = t.0;
      took = b;
      some = some;
      may = may;
      tail = tail_there taken.sessions;
      tail_is = ap tail_there t.2 ∙ (ap tail_in b.held ∙ ap tail_of some);
      l = d.0;
      ns = d.1.0;
      can = d.1.1;
      done_is = d.2;
      is = d.3;
      on = d.4;
    }

module _ {asked : Option Operation} {p : ℕ} {k : K} {w : Value} {n : NodeReplica} {done : ℕ} {now : StoreSeat} (h : HasLoaded asked p k w n done now) where
  abbrev b : TookReplica p k h.t w
  b = h.took

  abbrev pub told : K
  told = having_read h.t h.l (asked_at asked h.tail done h.t.note) done (run_of now.sessions)

  may_t : MayBegin asked h.t
  may_t = may_still asked k h.t b.note b.extends h.may

  extends_t : Extends h.t.progress h.l
  extends_t = h.can.0.0

  pub extends_k : Extends k.progress h.l
  extends_k = store_laws.extends_on k.progress h.t.progress h.l b.extends extends_t

  pub agrees_l : Agrees h.l n
  agrees_l = agrees_on h.t.progress h.l n extends_t (low_enough h.t n (b.agrees n h.some) b.stands) (b.agrees n h.some)

  pub stands_l : Stands told
  stands_l = let note : SessionNote = asked_at asked h.tail done h.t.note in record {
    notes = set h.ns h.t.session note;
    accounts = store_laws.asks_account h.t.session h.l h.t.note note h.ns
        (subst (λ z. store_rules.Asks h.t.session h.l h.t.note (asked_at asked h.tail z h.t.note)) (sym h.done_is) (may_load asked h.tail h.t may_t h.l h.ns h.can)) h.can.1 h.can.2;
    here = set_here h.ns h.t.session note (at_below h.ns h.t.session h.t.note h.can.1);
  }

  pub holds_l : HoldsReplica told w
  holds_l = holds_still h.t told w refl refl extends_t b.holds

  pub read_l : tails_in told.steps ≡ tails_in k.steps ++ done ∷ []
  read_l = ap (λ z. tails_in z ++ done ∷ []) b.steps.0

  pub did_l : Did k told (Took p (AReplica n) ∷ Read done ∷ [])
  did_l = did_then k h.t told (Took p (AReplica n) ∷ []) (Read done ∷ [])
      (did_one k h.t (Took p w) (Took p (AReplica n)) b.steps (ap (Took p) (replica_part w n h.some)))
      (did_one h.t told (Read done) (Read done) (stepped_by h.t told (Read done) refl refl h.on) refl)

  -- what it holds once its replica, m now, has reached that tail, and the read is asked
  ready_with : (r : K) (m : NodeReplica) → HasReached told r h.l.completed m → HasAskedRead asked k r m → FollowsBy (ltb n.replica.tail done) told r n m → (v : Value) → v ≡ with_replica w m → HoldsReady asked k r p v
  ready_with r m reached asks by v is = record {
    taking = told;
    grown = extends_k;
    begun = done;
    begun_is = h.done_is;
    stands = stands_l;
    value = w;
    own = n;
    own_is = agrees_l;
    node = m;
    on = reached.goes.extends;
    follows = by;
    agrees = reached.agrees;
    within = reached.within;
    reached = let far = reached.reached in let is = h.done_is in omega (arith, far, is);
    is = is;
    holds = holds_on told r w reached.goes holds_l;
    held = reached.goes.held ∙ b.held;
    session = reached.goes.session ∙ b.session;
    asks = asks;
    read = reached.goes.tails ∙ read_l;
    did = did_l;
    some = h.some;
  }

  -- the replica is ready: a read is asked
  pub ready_l : done ≤ n.replica.tail → (v : Value) → v ≡ with_replica w n → HoldsReady asked k told p v
  ready_l far = ready_with told n
      (record { goes = record { session = refl; held = refl; tails = refl; extends = store_laws.extends_self h.l }; agrees = agrees_l; within = low_enough told n agrees_l stands_l; reached = let is = h.done_is in omega (arith, far, is) })
      (record { seen = done; low = far; note = noted_reached asked h.tail done h.t.note (let is = h.tail_is in omega (arith, far, is)) ∙ ap (asked_with asked done) b.note })
      (subst (λ lacks. FollowsBy lacks told told n n) (sym (le-ltb n.replica.tail done far)) (follows_none told n agrees_l stands_l))

  -- the replica lacks something: nothing is asked yet
  module _ (low : n.replica.tail < done) where
    pub note_l : told.note ≡ k.note
    note_l = noted_behind asked h.tail done h.t.note (let is = h.tail_is in omega (arith, low, is)) ∙ b.note

    pub has_l : (c : CatalogueView) → k.progress.catalogue ≡ c → HasReplica told n c
    has_l c same = record { value = w; holds = holds_l; agrees = agrees_l; stands = stands_l; catalogue = sym extends_k.catalogue ∙ same }

    pub may_l : MayBegin asked told
    may_l = may_still asked k told note_l extends_k h.may

    pub followed_l : (r : K) (m : NodeReplica) → HasReached told r h.l.completed m → HasAskedRead asked told r m → FollowsBy true told r n m → (v : Value) → v ≡ with_replica w m → HoldsReady asked k r p v
    followed_l r m reached begun by = ready_with r m reached
        (record { seen = begun.seen; low = begun.low; note = begun.note ∙ ap (asked_with asked begun.seen) note_l })
        (subst (λ lacks. FollowsBy lacks told r n m) (sym (lt-ltb n.replica.tail done low)) by)
