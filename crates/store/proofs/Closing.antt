-- What a closed store leaves.
use Rattle.ownlock.specs.Runs.{Runs}
use Rattle.std.proofs.Common.{◌≡◌, ℕ, zero, suc, ◌+◌, ◌*◌, ◌<◌, List, [], ◌∷◌, length, take, sym, refl, ap, ◌∙◌, subst, arith, suc-mul, Option, Some}
use Rattle.std.proofs.lemmas.List.{length-replicate}
use Rattle.std.specs.Global.{Box}
use mathlib.Core.Option.{some-injective}
use Rattle.loader.specs.StoreState.{sizes_of}
use Rattle.ownlock.specs.Seats.{At, Opened}
use Rattle.ownlock.specs.Knowledge.{AllAgree, Closes}
use Rattle.loader.specs.CatalogueView.{CatalogueView, sizes_for}
use Rattle.oplog.specs.declared.configuration.Sizes.{Sizes}
use Rattle.oplog.specs.declared.records.Record.{Record}
use Rattle.oplog.specs.History.{after, state_after}
use Rattle.oplog.specs.Limits.{AreSizes}
use Rattle.oplog.specs.Logs.{Log as LogView}
use Rattle.replica.specs.StoreMeaning.{store_meaning}
use Rattle.replica.specs.Views.{ReplicaView}
use Rattle.accounts.specs.declared.sessions.Progress.{Progress}
use Rattle.accounts.specs.declared.sessions.SessionNote.{SessionNote}
use Rattle.accounts.specs.Accounts.{Extends, IsWellFormed}
use Rattle.accounts.specs.Agreement.{LogAgrees, ReplicaAgrees}
use Rattle.accounts.specs.LogSteps.{fresh_note}
use Rattle.accounts.proofs.Export.{ends, stand, at_none, at_there, tail_is}
use Rattle.node.specs.declared.following.NodeReplica.{NodeReplica}
use Rattle.store_steps.specs.declared.values.Setup.{Setup}
use Rattle.store_steps.specs.declared.values.Value.{Value}
use Rattle.store_steps.specs.declared.values.Value.TheVariants.{Log, Replica, Desk}
use Rattle.store_steps.specs.Shelving.{HasLogSizes, log_value, opening_notes, replica_value, sessions_of, store_rules, view_of, store_opening}
use Rattle.store_steps.specs.Views.{SessionView}
use Rattle.store.specs.Sessions.{StoreView, known_of}
use Rattle.store_steps.specs.Standing.{SessionKnown}
use Rattle.store.specs.Opening.{AreIdle, AreLeft, AreOf, IsClosed, IsLogFor, closed_view, known_back, log_in, replica_slots, replicas_in}
use Rattle.store.proofs.Joined.{back_has, back_is}
use Rattle.store.proofs.Last.{ends_in, is_log_for}
use Rattle.store_steps.proofs.Export.{session_laws}

abbrev L : Type 0
L = Progress CatalogueView

-- ---- what the places have

abbrev ReplicaFits : L → NodeReplica → Type 0
ReplicaFits l n = ReplicaAgrees store_meaning l (replica_value n.replica) × (sizes_of n.replica.state ≡ sizes_for l.catalogue)

log_at : (l : L) (ns : List SessionNote) (v : Value) → store_rules.AgreesWith 0 l ns v
    → (g : Box LogView) × (v ≡ Log g) × LogAgrees store_meaning l (log_value g.value) × HasLogSizes l.config l.catalogue g.value
log_at l ns (Log g) a = (g, refl, (session_laws.agrees 0 l ns (view_of (Log g)) a.0).1, a.1)
log_at l ns (Replica n) a = let it = session_laws.agrees 0 l ns (view_of (Replica n)) a.0 in absurd (other it.0 it.2)
  where
    other : (n : ℕ) → 0 ≡ 1 + n → ⊥
    other n e = omega (arith, e)
log_at l ns (Desk d) a = let it = session_laws.agrees 0 l ns (view_of (Desk d)) a.0 in absurd (other l.config.nodes d.value.node it.1)
  where
    other : (m n : ℕ) → 0 ≡ 1 + m + n → ⊥
    other m n e = omega (arith, e)

replica_at : (l : L) (ns : List SessionNote) (i : ℕ) (v : Value) → i < l.config.nodes
    → store_rules.AgreesWith (suc i) l ns v → (n : Box NodeReplica) × (v ≡ Replica n) × ReplicaFits l n.value
replica_at l ns i (Replica n) lt a = (n, refl, ((session_laws.agrees (suc i) l ns (view_of (Replica n)) a.0).3, a.1.0))
replica_at l ns i (Log g) lt a = absurd (other i (session_laws.agrees (suc i) l ns (view_of (Log g)) a.0).0)
  where
    other : (i : ℕ) → suc i ≡ 0 → ⊥
    other i e = omega (arith, e)
replica_at l ns i (Desk d) lt a = let it = session_laws.agrees (suc i) l ns (view_of (Desk d)) a.0 in absurd (other i l.config.nodes d.value.node lt it.1)
  where
    other : (i m n : ℕ) → i < m → suc i ≡ 1 + m + n → ⊥
    other i m n lt e = omega (arith, lt, e)

-- the replicas that the first n places have
pub record AreReplicas (l : L) (n : ℕ) (values : List (Option Value)) : Type 0 where
  pub nodes : List (Box NodeReplica)
  pub values_are : values ≡ replica_slots nodes
  pub many : length nodes ≡ n
  pub fit : (i : ℕ) (m : Box NodeReplica) → At i m nodes → ReplicaFits l m.value

first_replicas : (l : L) (n : ℕ) (values : List (Option Value))
    → ((i : ℕ) → i < n → (m : Box NodeReplica) × At i (Some (Replica m)) values × ReplicaFits l m.value)
    → AreReplicas l n (take n values)
first_replicas l zero values h = record { nodes = []; values_are = refl; many = refl; fit = λ i m at. absurd (at_none i m at) }
first_replicas l (suc n) [] h = let f = h 0 (omega arith) in absurd (at_none 0 (Some (Replica f.0)) f.1)
first_replicas l (suc n) (v ∷ vs) h =
    let f = h 0 (omega arith) in
    let r = first_replicas l n vs (λ i lt. h (suc i) (omega (arith, lt))) in
    record { nodes = f.0 ∷ r.nodes; values_are = λ i. some-injective v (Some (Replica f.0)) f.1 i ∷ r.values_are i; many = ap suc r.many; fit = by f.0 f.2 r.nodes r.fit }
  where
    by : (m : Box NodeReplica) → ReplicaFits l m.value → (ms : List (Box NodeReplica))
        → ((i : ℕ) (x : Box NodeReplica) → At i x ms → ReplicaFits l x.value) → (i : ℕ) (x : Box NodeReplica)
        → At i x (m ∷ ms) → ReplicaFits l x.value
    by m first ms rest zero x at = subst (λ (z : Box NodeReplica). ReplicaFits l z.value) (some-injective m x at) first
    by m first ms rest (suc i) x at = rest i x at

-- the log, and then the replicas
pub record IsLeft (l : L) (n : ℕ) (values : List (Option Value)) : Type 0 where
  pub log : Box LogView
  pub nodes : List (Box NodeReplica)
  pub values_are : values ≡ Some (Log log) ∷ replica_slots nodes
  pub many : length nodes ≡ n
  pub log_is : LogAgrees store_meaning l (log_value log.value)
  pub log_sizes : HasLogSizes l.config l.catalogue log.value
  pub fit : (i : ℕ) (m : Box NodeReplica) → At i m nodes → ReplicaFits l m.value

left : (l : L) (ns : List SessionNote) (values : List (Option Value))
    → length values ≡ 1 + l.config.nodes + l.config.nodes → AllAgree store_rules l ns values
    → IsLeft l l.config.nodes (take (suc l.config.nodes) values)
left l ns [] long all = absurd (none l.config.nodes long)
  where
    none : (n : ℕ) → 0 ≡ 1 + n + n → ⊥
    none n e = omega (arith, e)
left l ns (v ∷ vs) long all =
    let first = all 0 (omega arith) in
    let g = log_at l ns first.0 first.2 in
    let r = first_replicas l l.config.nodes vs there in
    record {
      log = g.0;
      nodes = r.nodes;
      values_are = λ i. (some-injective v (Some first.0) first.1 ∙ ap Some g.1) i ∷ r.values_are i;
      many = r.many;
      log_is = g.2;
      log_sizes = g.3;
      fit = r.fit;
    }
  where
    there : (i : ℕ) → i < l.config.nodes → (m : Box NodeReplica) × At i (Some (Replica m)) vs × ReplicaFits l m.value
    there i lt =
        let one = all (suc i) (omega (arith, lt, long)) in
        let n = replica_at l ns i one.0 lt one.2 in
        (n.0, subst (λ z. At i (Some z) vs) n.1 one.1, n.2)

pub is_left : (l : L) (ns : List SessionNote) (values : List (Option Value)) (n : ℕ) → l.config.nodes ≡ n
    → length values ≡ 1 + n + n → AllAgree store_rules l ns values → IsLeft l n (take (1 + n) values)
is_left l ns values n same long all = subst (λ z. IsLeft l z (take (1 + z) values)) same (subst (λ z. IsLeft l l.config.nodes (take z values)) (one_more l.config.nodes) (left l ns values (subst (λ z. length values ≡ 1 + z + z) (sym same) long) all))
  where
    one_more : (n : ℕ) → suc n ≡ 1 + n
    one_more n = omega arith

pub are_left : (l : L) (n : ℕ) (values : List (Option Value)) → IsLeft l n values → AreLeft values
are_left l n values p = (p.log, p.nodes, p.values_are)

-- ---- and how they are seen

many_seen : (ms : List (Box NodeReplica)) → length (replicas_in (replica_slots ms)) ≡ length ms
many_seen [] = refl
many_seen (m ∷ ms) = ap suc (many_seen ms)

seen_is : (ms : List (Box NodeReplica)) (i : ℕ) (r : ReplicaView) → At i r (replicas_in (replica_slots ms))
    → (m : Box NodeReplica) × At i m ms × (m.value.replica ≡ r)
seen_is [] i r at = absurd (at_none i r at)
seen_is (m ∷ ms) zero r at = (m, refl, some-injective m.value.replica r at)
seen_is (m ∷ ms) (suc i) r at = seen_is ms i r at

-- ---- how many sessions there are

some_product : (n m : ℕ) → 0 < n → 0 < m → 0 < n * m
some_product zero m low more = absurd (omega (arith, low))
some_product (suc n) m low more = let e = suc-mul n m in omega (arith, e, more)

pub some_sessions : (config : Sizes) → AreSizes config → 0 < sessions_of config
some_sessions config w = let n = w.nodes.0 in let m = w.slots.0 in some_product config.nodes config.slots (omega (arith, n)) (omega (arith, m))

pub all_notes : (shelf setup : Setup) → shelf ≡ setup → length (opening_notes shelf) ≡ sessions_of setup.config
all_notes shelf setup same = ap (λ (z : Setup). length (opening_notes z)) same ∙ length-replicate (sessions_of setup.config) fresh_note

-- ---- all sessions have brought what they know

module _ (store : StoreView) (sessions : List SessionView) (view : List SessionKnown) (opened : Opened L SessionNote) (slots : List (Option Value)) (own : AreOf store sessions) (some : 0 < length sessions) (known : view ≡ known_back sessions) (idle : AreIdle sessions)
    (a : Closes store_rules opened view slots) where
  abbrev l : L
  l = a.0

  mine : (j : ℕ) (s : SessionView) → At j s sessions → Extends s.progress l × At s.session s.note a.1
  mine j s at = let h = back_has sessions j s at in a.4 h.0 (known_of s) (subst (λ z. At h.0 (known_of s) z) (sym known) h.1)

  pub config_is : l.config ≡ store.config
  config_is = let s = at_there sessions 0 some in sym (mine 0 s.0 s.1).0.config ∙ (own 0 s.0 s.1).config

  pub catalogue_is : l.catalogue ≡ store.catalogue
  catalogue_is = let s = at_there sessions 0 some in sym (mine 0 s.0 s.1).0.catalogue ∙ (own 0 s.0 s.1).catalogue

  pub left_of : length slots ≡ 1 + store.config.nodes + store.config.nodes
      → IsLeft l store.config.nodes (take (1 + store.config.nodes) slots)
  left_of long = is_left l a.1 slots store.config.nodes (ap (λ (z : Sizes). z.nodes) config_is) long a.5

  is_back : (c : ℕ) → c < length opened.notes → (j : ℕ) × (s : SessionView) × At j s sessions × (s.session ≡ c)
  is_back c small =
      let q = a.6 c small in
      let b = back_is sessions q.0 q.1 (subst (λ z. At q.0 q.1 z) known q.2) in
      (b.0, b.1, b.2, sym (ap (λ (z : SessionKnown). z.session) b.3) ∙ q.3)

  author_of : (i : ℕ) (r : Record) → At i r l.history
      → (j : ℕ) × (s : SessionView) × At j s sessions × (r.author ≡ s.session)
  author_of i r at =
      let low = (ends store_meaning l a.1 a.2).1 i r at in
      let all = a.3 in
      let b = is_back r.author (omega (arith, low, all)) in
      (b.0, b.1, b.2, sym b.3)

  well : IsWellFormed store_meaning l
  well = record { allowed = a.2.allowed; completed = a.2.completed; limit = a.2.limit }

  pub log_for : (values : List (Option Value)) → IsLeft l store.config.nodes values
      → IsLogFor store.catalogue (log_in values)
  log_for values p =
      subst (λ z. IsLogFor z (log_in values)) catalogue_is
      (subst (λ z. IsLogFor l.catalogue (log_in z)) (sym p.values_are) (is_log_for l p.log.value p.log_is well p.log_sizes.2))

  known_by : (j : ℕ) (s : SessionView) → At j s sessions → (i : ℕ) × At i (known_of s) view
  known_by j s at = let h = back_has sessions j s at in (h.0, subst (λ z. At h.0 (known_of s) z) (sym known) h.1)

  pub is_closed : opened ≡ store_opening (record { config = store.config; catalogue = store.catalogue })
      → (values : List (Option Value)) → IsLeft l store.config.nodes values
      → IsClosed store sessions (closed_view store.catalogue values)
  is_closed opens values p = subst (λ z. IsClosed store sessions (closed_view store.catalogue z)) (sym p.values_are) (record {
    progress = l;
    of = (config_is, catalogue_is);
    well_formed = well;
    grown = λ j s at. (mine j s at).0;
    catalogue = refl;
    last = subst (λ z. after store_meaning z p.log.value.base_state p.log.value.records ≡ state_after store_meaning z l.history (length l.history)) catalogue_is (ends_in l p.log.value p.log_is);
    log_is = p.log_is;
    log_tail = tail_is store_meaning l (log_value p.log.value) a.2.completed p.log_is;
    log_sizes = subst (λ (z : Sizes × CatalogueView). HasLogSizes z.0 z.1 p.log.value) (λ i. (config_is i, catalogue_is i)) p.log_sizes;
    nodes = many_seen p.nodes ∙ p.many;
    replica_is = λ i r at. let m = seen_is p.nodes i r at in subst (λ z. ReplicaAgrees store_meaning l (replica_value z)) m.2 (p.fit i m.0 m.1).0;
    replica_sizes = λ i r at. let m = seen_is p.nodes i r at in ap (λ (z : ReplicaView). sizes_of z.state) (sym m.2) ∙ ((p.fit i m.0 m.1).1 ∙ ap sizes_for catalogue_is);
    notes = a.1;
    run = a.7.run;
    leads = subst (λ z. Runs store_rules z a.7.run l a.1) opens a.7.leads;
    noted = λ j s at. (mine j s at).1;
    goes_on = λ j s at. a.7.goes_on (known_of s) (known_by j s at);
    own = λ j s at. a.7.own (known_of s) (known_by j s at);
    ends = λ j s at. a.7.ends (known_of s) (known_by j s at);
    all = λ c small. is_back c (subst (λ n. c < n) (sym (ap (λ (z : Opened L SessionNote). length z.notes) opens ∙ length-replicate (sessions_of store.config) fresh_note)) small);
    records = λ j s at. (ends store_meaning l a.1 a.2).0 s.session s.note (mine j s at).1 (idle j s at);
    answered = λ j q s u at there. stand store_meaning l a.1 a.2 s.session s.note q u (mine j s at).1 there;
    authors = author_of;
  })
