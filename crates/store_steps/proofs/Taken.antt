-- The replica's place and the log's are taken.
use Rattle.std.proofs.Common.{◌≡◌, ℕ, zero, suc, ◌+◌, ◌<◌, [], ◌∷◌, map, sym, refl, ap, ◌∙◌, subst, arith, Some}
use Rattle.std.specs.Prelude.{IsSome}
use Rattle.std.proofs.lemmas.Option.{none-some, same_Some}
use Rattle.loader.specs.StoreState.{StoreState}
use Rattle.ownlock.specs.declared.known.ShelfStep.TheVariants.{Took}
use Rattle.ownlock.specs.Rules.{leader}
use Rattle.ownlock.specs.Seats.{At, IsSession, place_of, HasStepped}
use Rattle.ownlock.specs.Knowledge.{Acquired, MayTake}
use Rattle.loader.specs.CatalogueView.{CatalogueView}
use Rattle.oplog.specs.declared.configuration.Sizes.{Sizes}
use Rattle.oplog.specs.Logs.{Log as LogView}
use Rattle.oplog.specs.Sessions.{IsSessionOf, session as place}
use Rattle.replica.specs.StoreMeaning.{store_meaning}
use Rattle.accounts.specs.declared.sessions.Progress.{Progress}
use Rattle.accounts.specs.Values.{LogValue, ReplicaValue, StoreValue, TheLog, TheReplica, TheDesk}
use Rattle.accounts.specs.Accounts.{Accounts, Extends, IsWellFormed}
use Rattle.accounts.specs.Agreement.{LogAgrees, ReplicaAgrees}
use Rattle.accounts.specs.Moves.{HoldsBoth}
use Rattle.ownlock.proofs.Export.{one_known}
use Rattle.accounts.proofs.Export.{may_take_first, takes_log, takes_its_replica, tail_is, at_none}
use Rattle.store_steps.specs.declared.steps.Caller.{Caller}
use Rattle.store_steps.specs.declared.values.Value.{Value}
use Rattle.store_steps.specs.declared.values.Value.TheVariants.{Log, Replica, Desk}
use Rattle.store_steps.specs.Shelving.{view_of, IsSized, store_rules, log_value}
use Rattle.node.specs.declared.following.NodeReplica.{NodeReplica}
use Rattle.store_steps.specs.Lending.{log_of, replica_of}
use Rattle.store_steps.specs.Knowing.{HasReplica, Knows}
use Rattle.store_steps.specs.Standing.{SessionKnown, StoreSeat, Stands, Agrees, Follows, IsLogOf, HoldsReplica, HoldsLog, IsFree, IsOnShelf}
use Rattle.store_steps.proofs.Followed.{follows_on}
use Rattle.store_steps.proofs.Parts.{has_log, has_replica}
use Rattle.store_steps.proofs.StoreLaws.{session_laws}
use mathlib.Core.Option.{some-injective}
use lib.ListN.{get_elem?}

abbrev K : Type 0
K = SessionKnown

abbrev L : Type 0
L = Progress CatalogueView

-- what is known of a seat holds of its one session
pub known_as : (s : StoreSeat) (P : K → Type 0) → Knows s P → (k : K) → IsSession s k → P k
known_as s P i k is = subst P (one_known s i.0 k i.1 is) i.2

-- ---- the parts of values that agree

pub agrees_in : (l : L) (w : Value) (x : ReplicaValue StoreState) → view_of w ≡ TheReplica x → ReplicaAgrees store_meaning l x → IsSized l.config l.catalogue w → (n : NodeReplica) → replica_of w ≡ Some n → Agrees l n
agrees_in l (Replica m) x e a s n is = subst (Agrees l) (same_Some m.value n is) (subst (λ z. ReplicaAgrees store_meaning l z) (sym (ap (replica_or x) e)) a, s)
  where
    replica_or : ReplicaValue StoreState → StoreValue StoreState → ReplicaValue StoreState
    replica_or d (TheReplica x) = x
    replica_or d (TheLog x) = d
    replica_or d (TheDesk x) = d
agrees_in l (Log g) x e a s n is = absurd (none-some n is)
agrees_in l (Desk g) x e a s n is = absurd (none-some n is)

pub follows_agreed : (l : L) (n : NodeReplica) → IsWellFormed store_meaning l → Agrees l n → Follows l n
follows_agreed l n well a =
    let t = a.0.tail in let low = well.completed in
    record { within = omega (arith, t, low); state = a.0.state; sizes = a.1.0; window = ap (λ h. h.window) a.1.1; long = ap (λ h. h.long) a.1.1; begins = ap (λ h. h.begin) a.1.1; empty = ap (λ h. h.records) a.1.1 }

pub log_is : (l : L) (x : Value) (v : LogValue StoreState) → IsWellFormed store_meaning l → view_of x ≡ TheLog v → LogAgrees store_meaning l v → IsSized l.config l.catalogue x → (g : LogView) → log_of x ≡ Some g → IsLogOf l g
log_is l (Log h) v well e a s g is =
    let agrees : LogAgrees store_meaning l (log_value h.value) = subst (λ z. LogAgrees store_meaning l z) (sym (ap (log_or v) e)) a in
    subst (IsLogOf l) (same_Some h.value g is) (record { agrees = agrees; tail = tail_is store_meaning l (log_value h.value) well.completed agrees; sizes = s })
  where
    log_or : LogValue StoreState → StoreValue StoreState → LogValue StoreState
    log_or d (TheLog x) = x
    log_or d (TheReplica x) = d
    log_or d (TheDesk x) = d
log_is l (Replica n) v well e a s g is = absurd (none-some g is)
log_is l (Desk n) v well e a s g is = absurd (none-some g is)

pub well_formed : (l : L) (ns : _) → Accounts store_meaning l ns → IsWellFormed store_meaning l
well_formed l ns a = record { allowed = a.allowed; completed = a.completed; limit = a.limit }

-- ---- a session takes its node's replica

pub own_on : (k t : K) (node : ℕ) → t.session ≡ k.session → Extends k.progress t.progress → IsSessionOf k.progress.config node k.session → IsSessionOf t.progress.config node t.session
own_on k t node e g own = subst (λ z. IsSessionOf t.progress.config node z) (sym e) (subst (λ (z : Sizes). IsSessionOf z node k.session) g.config own)

pub may_take_replica : (k : K) (caller : Caller) → IsFree caller k → MayTake store_rules (1 + caller.node) k
may_take_replica k caller free = (may_take_first session_laws view_of IsSized k caller.node free.held (caller.slot, free.within, free.own, free.near)).0

-- what it is, once it has taken it
pub record TookReplica (p : ℕ) (k t : K) (w : Value) : Type 0 where
  pub held : t.held ≡ (p, w) ∷ []
  pub steps : HasStepped k (Took p w) t
  pub session : t.session ≡ k.session
  pub note : t.note ≡ k.note
  pub extends : Extends k.progress t.progress
  pub holds : HoldsReplica t w
  pub agrees : (n : NodeReplica) → replica_of w ≡ Some n → Agrees t.progress n
  pub stands : Stands t

pub took_replica : (k t : K) (caller : Caller) (w : Value) → IsFree caller k → Acquired store_rules (1 + caller.node) k t w → TookReplica (1 + caller.node) k t w
took_replica k t caller w free won =
    let taken = takes_its_replica session_laws view_of IsSized (1 + caller.node) caller.node k t w refl free.near won in
    let i = taken.0 in
    let held = i.held ∙ ap (λ z. (1 + caller.node, w) ∷ z) free.held in
    record {
      held = held;
      steps = i.steps;
      session = i.session;
      note = i.note;
      extends = i.extends;
      holds = record { node = caller.node; own = own_on k t caller.node i.session i.extends (caller.slot, free.within, free.own, free.near); held = held; replica = has_replica w taken.1.0 taken.1.1; sized = i.sized };
      agrees = agrees_in t.progress w taken.1.0 taken.1.1 taken.1.2 i.sized;
      stands = record { notes = i.notes; accounts = i.accounts; here = i.here };
    }

-- ---- and the log besides

only_one : (u : ℕ × Value) (a : ℕ) (v : ℕ × Value) → At a v (u ∷ []) → u ≡ v
only_one u a v e = one a e
  where
    one : (a : ℕ) → At a v (u ∷ []) → u ≡ v
    one zero e = some-injective u v e
    one (suc a) e = absurd (at_none a v e)

pub may_take_log : (k : K) (w : Value) → HoldsReplica k w → MayTake store_rules leader k
may_take_log k w h = (
  (λ a u at is. no_zero h.node (ap (λ z. z.0) (only_one (1 + h.node, w) a u (subst (λ z. At a u z) h.held at)) ∙ is)),
  session_laws.allows k.progress k.session _ (HoldsBoth h.node h.own (ap (λ z. leader ∷ map place_of z) h.held)),
)
  where
    no_zero : (n : ℕ) → 1 + n ≡ 0 → ⊥
    no_zero n e = omega (arith, e)

-- what it is, once it has taken the log x; the replica of n follows what the session knew
pub record TookLog (k t : K) (n : NodeReplica) (x : Value) : Type 0 where
  pub session : t.session ≡ k.session
  pub note : t.note ≡ k.note
  pub extends : Extends k.progress t.progress
  pub held : t.held ≡ (0, x) ∷ k.held
  pub steps : HasStepped k (Took 0 x) t
  pub some : IsSome (log_of x)
  pub log : (g : LogView) → log_of x ≡ Some g → IsLogOf t.progress g
  pub follows : Follows t.progress n
  pub stands : Stands t
  pub well : IsWellFormed store_meaning t.progress

pub took_log : (k t : K) (n : NodeReplica) (x : Value) (c : CatalogueView) → HasReplica k n c → Acquired store_rules leader k t x → TookLog k t n x
took_log k t n x c has won =
    let follows = follows_agreed k.progress n (well_formed k.progress has.stands.notes has.stands.accounts) has.agrees in
    let taken = takes_log session_laws view_of IsSized k t x won in
    let i = taken.0 in
    let well = well_formed t.progress i.notes i.accounts in
    record {
      session = i.session;
      note = i.note;
      extends = i.extends;
      held = i.held;
      steps = i.steps;
      some = has_log x taken.1.0 taken.1.1;
      log = log_is t.progress x taken.1.0 well taken.1.1 taken.1.2 i.sized;
      follows = follows_on k.progress t.progress n i.extends follows;
      stands = record { notes = i.notes; accounts = i.accounts; here = i.here };
      well = well;
    }

pub holds_log : (k t : K) (n : NodeReplica) (x : Value) → TookLog k t n x → HoldsLog t
holds_log k t n x b = (x, 0, ap (λ z. get_elem? z 0) b.held)

-- ---- what the session was free to do it is still

pub free_on : (caller : Caller) (k t : K) → t.session ≡ k.session → t.held ≡ [] → Extends k.progress t.progress → IsFree caller k → IsFree caller t
free_on caller k t session held grown free = record {
  own = session ∙ (free.own ∙ ap (λ c. place c caller.node caller.slot) grown.config);
  within = subst (λ (c : Sizes). caller.slot < c.slots) grown.config free.within;
  near = subst (λ (c : Sizes). caller.node < c.nodes) grown.config free.near;
  held = held;
}

pub shelf_on : (places nodes slots : ℕ) (c : CatalogueView) (k t : K) → Extends k.progress t.progress
    → IsOnShelf places nodes slots c k → IsOnShelf places nodes slots c t
shelf_on places nodes slots c k t grown on = record {
  places_are = on.places_are;
  few = on.few;
  nodes_are = sym (ap (λ (z : Sizes). z.nodes) grown.config) ∙ on.nodes_are;
  slots_are = (sym (ap (λ (z : Sizes). z.slots) grown.config) ∙ on.slots_are.0, on.slots_are.1);
  catalogue_is = sym grown.catalogue ∙ on.catalogue_is;
}
