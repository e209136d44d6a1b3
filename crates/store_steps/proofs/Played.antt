-- A replica applies the records in its hand, and what it has applied is completed.
use Rattle.std.proofs.Common.{◌≡◌, ℕ, ◌+◌, ◌-◌, ◌≤◌, [], List, length, take, drop, sym, refl, ap, ◌∙◌, subst, arith, Some, slice_get}
use Rattle.std.proofs.Math.Nat.{le-max_right}
use Rattle.loader.specs.StoreState.{sizes_of}
use Rattle.ownlock.specs.declared.known.ShelfStep.TheVariants.{Raised}
use Rattle.ownlock.specs.Rules.{leader}
use Rattle.ownlock.proofs.Export.{stepped_by}
use Rattle.ownlock.specs.Seats.{Adds, At, having_raised, Run as RunOf}
use Rattle.ownlock.specs.Knowledge.{Later, Possible}
use Rattle.loader.specs.CatalogueView.{CatalogueView, longest_part, sizes_for}
use Rattle.oplog.specs.Logs.{Log as LogView, HandView}
use Rattle.oplog.specs.History.{after, state_after}
use Rattle.replica.specs.StoreMeaning.{store_meaning}
use Rattle.replica.specs.Replaying.{IsAnswered, KeepsOutcomes}
use Rattle.replica.specs.Views.{RepliesView}
use Rattle.accounts.specs.declared.sessions.Progress.{Progress}
use Rattle.accounts.specs.declared.sessions.SessionNote.{SessionNote}
use Rattle.accounts.specs.Accounts.{Extends, IsWellFormed}
use Rattle.accounts.specs.Moves.{raised}
use Rattle.accounts.proofs.Export.{replays, replayed_agrees, grown_long, at_of, get_of}
use Rattle.node.specs.declared.following.NodeReplica.{NodeReplica}
use Rattle.store_steps.specs.declared.values.Value.{Value}
use Rattle.store_steps.specs.Shelving.{replica_value, store_rules}
use Rattle.node.specs.Following.{IsNext, copied, replayed}
use Rattle.store_steps.specs.Standing.{SessionKnown, Agrees, IsLogOf, Follows, HasOthers, HasRaised, KeepsOutcomesOf, HasReplayed}
use Rattle.store_steps.proofs.Doing.{did_one}
use Rattle.store_steps.proofs.Places.{at_drop, drop_at, long_drop, take_whole}
use Rattle.store_steps.proofs.Followed.{HasAll, others}

abbrev L : Type 0
L = Progress CatalogueView

abbrev K : Type 0
K = SessionKnown

-- the replica has the state after a beginning of the history, and its hand has all other records
pub record Rest (l : L) (n : NodeReplica) : Type 0 where
  within : n.replica.tail ≤ length l.history
  state : n.replica.state ≡ state_after store_meaning l.catalogue l.history n.replica.tail
  sizes : sizes_of n.replica.state ≡ sizes_for l.catalogue
  hand : n.hand ≡ (let full : HandView = record { begin = n.replica.tail; records = drop n.replica.tail l.history; window = l.config.window; long = longest_part l.catalogue } in full)

pub rest_of : (l : L) (n : NodeReplica) → HasOthers l n → Rest l n
rest_of l n h = record { within = h.within; state = h.state; sizes = h.sizes; hand = h.hand }

module _ (l : L) (n : NodeReplica) (h : Rest l n) where
  abbrev t : ℕ
  t = n.replica.tail

  pub records : n.hand.records ≡ drop t l.history
  records = ap (λ (z : HandView). z.records) h.hand

  pub all : t + length n.hand.records ≡ length l.history
  all = let long = ap length records in let rest = long_drop t l.history h.within in omega (arith, long, rest)

  -- the state after the first k of the hand's records are those after so many more operations
  pub state_in : (k : ℕ) → after store_meaning l.catalogue n.replica.state (take k n.hand.records) ≡ state_after store_meaning l.catalogue l.history (t + k)
  state_in k = ap (λ z. after store_meaning l.catalogue z (take k n.hand.records)) h.state
      ∙ (ap (λ z. after store_meaning l.catalogue (state_after store_meaning l.catalogue l.history t) (take k z)) records ∙ replays store_meaning l.catalogue l.history t k)

  pub has_all : (sizes_of (replayed l.catalogue n).replica.state ≡ sizes_of n.replica.state) → HasAll l (replayed l.catalogue n)
  has_all same = record {
    tail = all;
    state = ap (λ z. after store_meaning l.catalogue n.replica.state z) (sym (take_whole n.hand.records)) ∙ state_in (length n.hand.records);
    sizes = same ∙ h.sizes;
    hand = λ i. record { begin = t + length n.hand.records; records = []; window = (ap (λ (z : HandView). z.window) h.hand) i; long = (ap (λ (z : HandView). z.long) h.hand) i };
  }

  pub keeps : (old new : RepliesView) → KeepsOutcomes l.catalogue n.replica.state n.replica.tail n.hand.records old new → KeepsOutcomesOf l t old new
  keeps old new r k i s within from at is =
      let split : i ≡ t + (i - t) = omega (arith, from) in
      let one = r.replayed k (i - t) s within (subst (λ z. slice_get z (i - t) ≡ Some s) (sym records) (get_of (drop t l.history) (i - t) s (drop_at t l.history (i - t) s (subst (λ z. At z s l.history) split at)))) (is ∙ split) in
      (one.0, one.1, subst (λ m. IsAnswered l.catalogue s.op m one.0) (state_in (i - t) ∙ ap (state_after store_meaning l.catalogue l.history) (sym split)) one.2)

pub is_next : (l : L) (n : NodeReplica) → HasOthers l n → IsWellFormed store_meaning l → IsNext l.catalogue n
is_next l n h w =
    let rest = rest_of l n h in
    let full = all l n rest in record {
      begins = ap (λ (z : HandView). z.begin) h.hand;
      sizes = h.sizes;
      updates = λ k r e.
          w.allowed (n.replica.tail + k) r (at_drop n.replica.tail l.history k r (at_of (drop n.replica.tail l.history) k r (subst (λ z. slice_get z k ≡ Some r) (records l n rest) e)));
      short = let top = h.few in omega (arith, top, full);
    }

-- once they are applied
pub replayed_all : (l : L) (n m : NodeReplica) → HasOthers l n → m ≡ replayed l.catalogue n → sizes_of m.replica.state ≡ sizes_of n.replica.state → HasAll l m
replayed_all l n m h is same = subst (HasAll l) (sym is) (has_all l n (rest_of l n h) (ap (λ (z : NodeReplica). sizes_of z.replica.state) (sym is) ∙ same))

-- what was replayed as far as the known history agrees, once that is completed
pub all_agrees : (l m : L) (n : NodeReplica) → Extends l m → length l.history ≤ m.completed → HasAll l n → Agrees m n
all_agrees l m n g done h =
    let t = h.tail in (
      replayed_agrees store_meaning l m (replica_value n.replica) g (omega (arith, t)) h.state (omega (arith, t, done)),
      (h.sizes ∙ ap sizes_for g.catalogue, h.hand ∙ (λ i. record { begin = n.replica.tail; records = []; window = (ap (λ c. c.window) g.config) i; long = (ap longest_part g.catalogue) i })),
    )

-- a replica with the log beside it, once it has followed that
pub followed_all : (l : L) (g : LogView) (n m : NodeReplica) → IsLogOf l g → Follows l n → g.base ≤ n.replica.tail → m ≡ replayed l.catalogue (copied g n) → sizes_of m.replica.state ≡ sizes_of n.replica.state → HasAll l m
followed_all l g n m is f low e same =
    let full : Rest l (copied g n) = record {
      within = f.within;
      state = f.state;
      sizes = f.sizes;
      hand = λ i. record { begin = n.replica.tail; records = others l g n is f low i; window = f.window i; long = f.long i };
    } in
    subst (HasAll l) (sym e) (has_all l (copied g n) full (ap (λ (z : NodeReplica). sizes_of z.replica.state) (sym e) ∙ same))

-- ---- what is told of the replay and the raise

-- once the completed tail is raised to m
pub has_raised : (k : K) (before : L) (n m : ℕ) (run : RunOf L SessionNote Value) → Adds k (Raised m) (raised before m) k.note run → m ≡ n → Later store_rules k before → ((notes : List SessionNote) × Possible store_rules k (raised before m) notes) → HasRaised k (having_raised k (raised before m) m run) n
has_raised k before n m run on is first (notes, may) = record {
  goes = record { session = refl; held = refl; tails = refl; extends = may.0.0 };
  note = refl;
  stands = record { notes = notes; accounts = may.2; here = may.1 };
  completed = omega (arith, is, le-max_right before.completed m);
  still = λ h. may.0.1 h.1 (leader, h.0) h.2 refl;
  before = before;
  was = first.0;
  is = ap (raised before) is;
  did = did_one k _ (Raised m) (Raised n) (stepped_by k (having_raised k (raised before m) m run) (Raised m) refl refl on) (ap Raised is);
}

pub raised_as : (k after : K) (n m : ℕ) → HasRaised k after n → n ≡ m → HasRaised k after m
raised_as k after n m up is = subst (HasRaised k after) is up

-- the replica has applied all that the session k knew, and that is completed
pub has_replayed : (k after : K) (n m : NodeReplica) (c : CatalogueView) (old new : RepliesView) → k.progress.catalogue ≡ c → HasOthers k.progress n → m ≡ replayed c n → sizes_of m.replica.state ≡ sizes_of n.replica.state
    → KeepsOutcomes c n.replica.state n.replica.tail n.hand.records old new → HasRaised k after m.replica.tail → HasReplayed k after n m old new
has_replayed k after n m c old new same rest is sizes kept up =
    let all = replayed_all k.progress n m rest (is ∙ ap (λ z. replayed z n) (sym same)) sizes in
    let tail = all.tail in
    let done = up.completed in
    let long = grown_long store_meaning k.progress after.progress up.goes.extends in
    record {
      goes = up.goes;
      note = up.note;
      completed = omega (arith, tail, done);
      agrees = all_agrees k.progress after.progress m up.goes.extends (omega (arith, tail, done)) all;
      within = omega (arith, tail, long);
      first = kept.first;
      count = kept.count;
      replies = keeps k.progress n (rest_of k.progress n rest) old new (subst (λ z. KeepsOutcomes z n.replica.state n.replica.tail n.hand.records old new) (sym same) kept);
    }
