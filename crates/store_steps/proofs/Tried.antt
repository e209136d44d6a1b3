-- A session that found a place held: what it was free to do it still is, and what its last try tells holds from its first one on.
use Rattle.std.proofs.Common.{◌≡◌, ℕ, ◌+◌, ◌≤◌, Some, List, [], ◌∷◌, ◌++◌, length, append-nil, append_assoc, sym, refl, ap, ◌∙◌, subst, arith}
use Rattle.std.specs.Prelude.{nat_le}
use Rattle.std.proofs.lemmas.Bool.{and_from, and_parts, le-leb, leb-true}
use Rattle.ownlock.specs.declared.known.ShelfStep.{ShelfStep}
use Rattle.ownlock.specs.declared.known.ShelfStep.TheVariants.{Put, Read, Took}
use Rattle.ownlock.specs.Seats.{tails_in, HasStepped}
use Rattle.oplog.specs.declared.configuration.Sizes.{Sizes}
use Rattle.oplog.specs.Sessions.{IsSessionOf}
use Rattle.combiner.specs.Desks.{BatchView}
use Rattle.replica.specs.Views.{RepliesView}
use Rattle.accounts.specs.declared.sessions.SessionNote.{SessionNote}
use Rattle.node.specs.declared.following.NodeReplica.{NodeReplica}
use Rattle.store_steps.specs.declared.values.Value.{Value}
use Rattle.store_steps.specs.Combining.{HasAnswered, HasClaimed, HasCombined}
use Rattle.store_steps.specs.Sights.{HasSeen, Heard}
use Rattle.accounts.specs.Accounts.{Extends}
use Rattle.accounts.specs.ReadNotes.{looked_with}
use Rattle.store_steps.specs.Standing.{Agrees, SessionKnown, Stands}
use Rattle.store_steps.specs.Trying.{BeginsBelow, IsStill}
use Rattle.store_steps.specs.Whole.{AnswersBy, BetweenReplicas, LooksBy, answer_deeds, look_deeds}
use Rattle.store_steps.specs.Doing.{AReplica, Did, Nothing, Part, PutsBack, ReadsAndPutsBack, part_of}
use Rattle.store_steps.specs.Lending.{replica_of, with_replica}
use Rattle.store_steps.proofs.Doing.{did_both, did_none, did_one, did_then, nothing_on, replica_part, with_replica_part}
use Rattle.store_steps.proofs.Finished.{Back}
use Rattle.store_steps.proofs.StoreLaws.{store_laws}
use Rattle.store_steps.proofs.Stretches.{under}
use Rattle.store_steps.proofs.Taken.{TookReplica, well_formed}

abbrev K : Type 0
K = SessionKnown

pub low_enough : (k : K) (n : NodeReplica) → Agrees k.progress n → Stands k → n.replica.tail ≤ length k.progress.history
low_enough k n a s = let low = a.0.tail in let all = s.accounts.completed in omega (arith, low, all)

-- ---- it stays still

-- after tries, others and then some steps
tried_then : (k m f : K) (xs ys zs : List (ShelfStep Part)) → Did k m xs → Did m f (ys ++ zs) → Did k f ((xs ++ ys) ++ zs)
tried_then k m f xs ys zs a b = subst (Did k f) (sym (append_assoc xs ys zs)) (did_then k m f xs (ys ++ zs) a b)

pub still_self : (k : K) → k.held ≡ [] → IsStill k k
still_self k none = record {
  session = refl;
  held = none;
  note = refl;
  extends = store_laws.extends_self k.progress;
  well_formed = λ w. w;
  more = [];
  read = sym (append-nil (tails_in k.steps));
  below = tt;
  tries = [];
  nothing = Nothing;
  did = did_none k k refl;
}

-- the replica of the session's node was put back as it was taken
pub still_back : (p q : ℕ) (k t f : K) (w : Value) (n : NodeReplica) → TookReplica p k t w → Back t f → replica_of w ≡ Some n → q ≡ p → HasStepped t (Put q (with_replica w n)) f → IsStill k f
still_back p q k t f w n b e is at put = record {
  session = e.session ∙ b.session;
  held = e.held;
  note = e.note ∙ b.note;
  extends = store_laws.extends_on k.progress t.progress f.progress b.extends e.extends;
  well_formed = λ _. well_formed f.progress e.stands.notes e.stands.accounts;
  more = [];
  read = e.tails ∙ (ap tails_in b.steps.0 ∙ sym (append-nil (tails_in k.steps)));
  below = tt;
  tries = Took p (AReplica n) ∷ Put p (AReplica n) ∷ [];
  nothing = PutsBack p n [] Nothing;
  did = did_both k t f p q p w (with_replica w n) (AReplica n) (AReplica n) b.steps put refl at (replica_part w n is) (with_replica_part w n n is);
}

-- the same, where it has read the completed tail meanwhile, which is no more than it knows to be completed then
pub still_read : (p q : ℕ) (k t f : K) (n : NodeReplica) (tail : ℕ) (y : Value) → t.session ≡ k.session → t.note ≡ k.note → Extends k.progress t.progress → tail ≤ t.progress.completed
    → tails_in t.steps ≡ tails_in k.steps ++ tail ∷ [] → Did k t (Took p (AReplica n) ∷ Read tail ∷ []) → Back t f → q ≡ p → part_of y ≡ AReplica n → HasStepped t (Put q y) f → IsStill k f
still_read p q k t f n tail y session note extends low read did e at is put = record {
  session = e.session ∙ session;
  held = e.held;
  note = e.note ∙ note;
  extends = store_laws.extends_on k.progress t.progress f.progress extends e.extends;
  well_formed = λ _. well_formed f.progress e.stands.notes e.stands.accounts;
  more = tail ∷ [];
  read = e.tails ∙ read;
  below = let up = e.extends.completed in omega (arith, low, up);
  tries = Took p (AReplica n) ∷ Read tail ∷ Put p (AReplica n) ∷ [];
  nothing = ReadsAndPutsBack p n tail [] Nothing;
  did = did_then k t f (Took p (AReplica n) ∷ Read tail ∷ []) (Put p (AReplica n) ∷ []) did (did_one t f (Put q y) (Put p (AReplica n)) put (λ i. Put (at i) (is i)));
}

begins_on : (ms ns : List ℕ) (low high : ℕ) → low ≤ high → BeginsBelow ms low → BeginsBelow ns high → BeginsBelow (ms ++ ns) high
begins_on [] ns low high up first next = next
begins_on (m ∷ ms) ns low high up first next = omega (arith, up, first)

pub still_then : (k t f : K) → IsStill k t → IsStill t f → IsStill k f
still_then k t f a b = record {
  session = b.session ∙ a.session;
  held = b.held;
  note = b.note ∙ a.note;
  extends = store_laws.extends_on k.progress t.progress f.progress a.extends b.extends;
  well_formed = λ w. b.well_formed (a.well_formed w);
  more = a.more ++ b.more;
  read = b.read ∙ (ap (λ z. z ++ b.more) a.read ∙ append_assoc (tails_in k.steps) a.more b.more);
  below = begins_on a.more b.more t.progress.completed f.progress.completed b.extends.completed a.below b.below;
  tries = a.tries ++ b.tries;
  nothing = nothing_on a.nothing b.nothing;
  did = did_then k t f a.tries b.tries a.did b.did;
}

-- ---- and then its try went well

pub claimed_still : (k m : K) (b : BatchView) → IsStill k m → HasClaimed k b → HasClaimed m b
claimed_still k m b s c = record { noted = ap (λ (n : SessionNote). n.batch) s.note ∙ c.noted; some = c.some; ascend = c.ascend }

pub answered_since : (k m f : K) (b : BatchView) (kept : RepliesView) → IsStill k m → HasAnswered m f b kept → HasAnswered k f b kept
answered_since k m f b kept s a = record {
  session = a.session ∙ s.session;
  held = a.held;
  note = a.note ∙ ap (λ (n : SessionNote). record n { batch = [] }) s.note;
  extends = store_laws.extends_on k.progress m.progress f.progress s.extends a.extends;
  ready = a.ready;
  stands = a.stands;
}

-- what it found and left is the same then
abbrev ends_since : (k m f : K) → IsStill k m → BetweenReplicas m f → BetweenReplicas k f
ends_since k m f s e = record {
  logs = record { from = e.from; since = store_laws.extends_on k.progress m.progress e.from s.extends e.since; log = e.log; back = e.back; log_is = e.log_is; back_is = e.back_is };
  own = e.own;
  left = e.left;
  own_is = e.own_is;
  left_is = e.left_is;
}

-- its session has the node that it had
mine_since : (node : ℕ) (k m : K) → IsStill k m → IsSessionOf m.progress.config node m.session → IsSessionOf k.progress.config node k.session
mine_since node k m s own = subst (λ (z : Sizes × ℕ). IsSessionOf z.0 node z.1) (λ i. (sym s.extends.config i, s.session i)) own

pub answers_since : (node : ℕ) (k m f : K) (b : BatchView) (kept : RepliesView) → IsStill k m → AnswersBy node m f b kept → AnswersBy node k f b kept
answers_since node k m f b kept s a = record {
  mine = mine_since node k m s a.mine;
  combined = record {
    ends = ends_since k m f s a.ends;
    room = a.room;
    up = a.up;
    base = a.base;
    put = a.put;
    put_is = a.put_is;
    tries = s.tries ++ a.tries;
    nothing = nothing_on s.nothing a.nothing;
  };
  goes = λ d. under m.progress.catalogue k.progress.catalogue (sym s.extends.catalogue) (a.goes d);
  did = tried_then k m f s.tries a.tries (answer_deeds (1 + node) a.room a.put a.left) s.did a.did;
}

pub combined_then : (k f z : K) (b : BatchView) (kept : RepliesView) → HasAnswered k f b kept → HasCombined f z → HasCombined k z
combined_then k f z b kept a c = record {
  session = c.session ∙ a.session;
  held = c.held;
  note = c.note ∙ a.note;
  extends = store_laws.extends_on k.progress f.progress z.progress a.extends c.extends;
  stands = c.stands;
}

-- ---- a read, of all whose tries the first read of the completed tail counts

abbrev first_read : List ℕ → ℕ → ℕ
first_read [] n = n
first_read (m ∷ ms) n = m

abbrev later_reads : List ℕ → ℕ → List ℕ → List ℕ
later_reads [] n ns = ns
later_reads (m ∷ ms) n ns = ms ++ n ∷ ns

all_reads : (ms : List ℕ) (n : ℕ) (ns : List ℕ) → ms ++ n ∷ ns ≡ first_read ms n ∷ later_reads ms n ns
all_reads [] n ns = refl
all_reads (m ∷ ms) n ns = refl

first_below : (ms : List ℕ) (n low top : ℕ) → BeginsBelow ms low → low ≤ top → n ≤ top → first_read ms n ≤ top
first_below [] n low top below up last = last
first_below (m ∷ ms) n low top below up last = omega (arith, below, up)

module _ (k m f : K) (s : IsStill k m) where
  reads : (n : ℕ) (ns : List ℕ) → tails_in f.steps ≡ tails_in m.steps ++ n ∷ ns → tails_in f.steps ≡ tails_in k.steps ++ first_read s.more n ∷ later_reads s.more n ns
  reads n ns read = read ∙ (ap (λ z. z ++ n ∷ ns) s.read ∙ (append_assoc (tails_in k.steps) s.more (n ∷ ns) ∙ ap (λ z. tails_in k.steps ++ z) (all_reads s.more n ns)))

module _ (h : Heard) (k m f : K) (s : IsStill k m) where
  pub seen_since : (point : ℕ) → HasSeen h m f point → HasSeen h k f point
  seen_since point r =
      let up = s.extends.completed in let far = r.far in record {
        begun = first_read s.more r.begun;
        more = later_reads s.more r.begun r.more;
        read = reads k m f s r.begun r.more r.read;
        reached = first_below s.more r.begun m.progress.completed point s.below far r.reached;
        far = omega (arith, up, far);
        session = r.session ∙ s.session;
        held = r.held;
        note = r.note ∙ ap (looked_with h.asked point h.reply) s.note;
        extends = store_laws.extends_on k.progress m.progress f.progress s.extends r.extends;
        well_formed = r.well_formed;
      }

module _ (k m f : K) (s : IsStill k m) where
  -- the session looked at the same replica
  pub looks_since : (point : ℕ) → m.progress.completed ≤ point → (r : LooksBy m f point) → (by : LooksBy k f point) × (by.left ≡ r.left)
  looks_since point far r =
      let may = and_parts (nat_le r.seen r.left.replica.tail) (nat_le r.left.replica.tail f.progress.completed) r.may in
      let low = leb-true r.seen r.left.replica.tail may.0 in
      let at = r.at in (
        record {
          loads = record { seen = first_read s.more r.seen; more = later_reads s.more r.seen r.more; read = reads k m f s r.seen r.more r.read };
          ends = ends_since k m f s r.ends;
          begun = first_below s.more r.seen m.progress.completed r.from.completed s.below r.since.completed r.begun;
          up = r.up;
          goes = λ d. under m.progress.catalogue k.progress.catalogue (sym s.extends.catalogue) (r.goes d);
          may = and_from _ _ (le-leb (first_read s.more r.seen) r.left.replica.tail (first_below s.more r.seen m.progress.completed r.left.replica.tail s.below (omega (arith, far, at)) low)) may.1;
          at = at;
          shelf = record {
            node = r.node;
            mine = mine_since r.node k m s r.mine;
            tries = s.tries ++ r.tries;
            nothing = nothing_on s.nothing r.nothing;
            loaded = r.loaded;
            did = tried_then k m f s.tries r.tries (look_deeds (1 + r.node) r.loaded r.log r.own r.left) s.did r.did;
            stays = r.stays;
          };
        },
        refl,
      )
