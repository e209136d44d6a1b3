-- A session's inner calls as lists of its node's steps, with what others do between them.
use Rattle.std.proofs.Common.{Bool, true, false, not, ◌&&◌, ◌≡◌, ℕ, ◌+◌, ◌<◌, ◌≤◌, Some, List, [], ◌∷◌, ◌++◌, length, refl, sym, ap, ◌∙◌, subst, arith}
use Rattle.std.specs.Prelude.{cond, min, nat_le, nat_lt}
use Rattle.std.proofs.Math.Nat.{le-max_left}
use Rattle.std.proofs.lemmas.Bool.{le-leb, le-ltb}
use Rattle.std.proofs.lemmas.List.{append-nil, append_assoc}
use Rattle.loader.specs.CatalogueView.{CatalogueView}
use Rattle.ownlock.specs.declared.known.ShelfStep.TheVariants.{Put, Raised, Read, Took}
use Rattle.ownlock.specs.Rules.{leader}
use Rattle.ownlock.specs.Seats.{tails_in, HasStepped}
use Rattle.accounts.specs.Agreement.{desk_place}
use Rattle.oplog.specs.History.{History}
use Rattle.oplog.specs.Logs.{Log as LogView, HandView, left_of, room_in}
use Rattle.oplog.specs.declared.configuration.Sizes.{Sizes}
use Rattle.oplog.specs.Sessions.{IsSessionOf}
use Rattle.combiner.specs.Desks.{BatchView, DeskView, IsBatchOf, replied}
use Rattle.accounts.specs.Moves.{unplaced}
use Rattle.replica.specs.StoreMeaning.{store_meaning}
use Rattle.replica.specs.Views.{RepliesView}
use Rattle.accounts.specs.declared.sessions.Progress.{Progress}
use Rattle.accounts.specs.Accounts.{Extends, IsWellFormed}
use Rattle.node.specs.Answering.{answered_batch}
use Rattle.node.specs.Following.{copied, grown, has_next, may_append, may_rebase, no_records, rebased, reclaimed, replayed, replies_after, replies_for, told}
use Rattle.node.specs.Seen.{Goes, Ends, Meets, OthersDo}
use Rattle.node.specs.Steps.{NodeStep, Finishes, Rebases, Replays, Replies, Seen}
use Rattle.node.proofs.Export.{goes_on}
use Rattle.node.specs.declared.following.NodeReplica.{NodeReplica}
use Rattle.node.specs.declared.parts.NodeBatch.{NodeBatch}
use Rattle.node.specs.declared.parts.NodeBatch.TheVariants.{Absent, Held, InLog}
use Rattle.store_steps.specs.Standing.{SessionKnown, Agrees, Follows, HasRaised, HoldsLog, HoldsReplica, IsLogOf, Stands}
use Rattle.store_steps.specs.Rooms.{IsBaseDue}
use Rattle.store_steps.specs.Whole.{AnswersBy, AppendsBy, CombinesBy, FollowsBy, Stayed, HadRoom, HandsOver, LooksBy, MakesRoom, MovedBase, ReplaysBy, RoomMade, answer_deeds, append_deeds, append_steps, catch_up_steps, follow_deeds, look_deeds, read_steps, room_deeds, sees}
use Rattle.store_steps.specs.Doing.{ADesk, ALog, AReplica, Did, Nothing, takes_and_puts}
use Rattle.store_steps.specs.Lending.{log_of, replica_of, with_log, with_replica}
use Rattle.store_steps.specs.declared.values.Value.{Value}
use Rattle.store_steps.proofs.Doing.{did_both, did_none, did_one, did_then, log_part, replica_part, with_log_part, with_replica_part}
use Rattle.store_steps.proofs.StoreLaws.{store_laws}
use Rattle.store_steps.proofs.Followed.{above, kept_up}
use Rattle.store_steps.proofs.Taken.{well_formed}
use Rattle.store_steps.proofs.Whole.{agrees_on, append_step, catches_up, caught, finish_step, follow_step, if_any, later, later_is, log_from, log_from_is, others, others_complete, rebase_step, reclaim_step, replay_step, reply_step, still_log}

abbrev K : Type 0
K = SessionKnown

abbrev L : Type 0
L = Progress CatalogueView

-- ---- what is the same

module _ {s : Seen} {t : Seen} {xs : List NodeStep} where
  -- the steps of one catalogue
  pub under : (c d : CatalogueView) → c ≡ d → Goes c s xs t → Goes d s xs t
  under c d e goes = subst (λ z. Goes z s xs t) e goes

  -- what is seen last
  ends_as : (c : CatalogueView) (u : Seen) → t ≡ u → Goes c s xs t → Goes c s xs u
  ends_as c u e goes = subst (λ z. Goes c s xs z) e goes

-- others come after the last step
then_others : (c : CatalogueView) (s t u : Seen) (xs : List NodeStep) → Goes c s xs t → OthersDo c t u → Goes c s xs u
then_others c s t u xs goes others = subst (λ z. Goes c s z u) (append-nil xs) (goes_on goes (Meets t u u [] others (Ends u)))

-- what a session knows that stands is well formed
well_of : (k : K) → Stands k → IsWellFormed store_meaning k.progress
well_of k s = well_formed k.progress s.notes s.accounts

-- ---- a raise

-- the session saw the log g with the progress l; then it knew k, raised the completed tail, and is after
module _ (l : L) (k after : K) (g : LogView) (n : NodeReplica) (is : IsLogOf l g) (on : Extends l k.progress) (up : HasRaised k after n.replica.tail) where
  long_before : up.before.completed ≤ length up.before.history
  long_before =
      let all = ap (λ (z : L). length z.history) up.is in let done = ap (λ (z : L). z.completed) up.is in
      let low = up.stands.accounts.completed in let most = le-max_left up.before.completed n.replica.tail in
      omega (arith, all, done, low, most)

  pub grows : Extends l after.progress
  grows = store_laws.extends_on l k.progress after.progress on up.goes.extends

  pub raised_log : IsLogOf after.progress (later after.progress g)
  raised_log = later_is l after.progress g is grows

  -- what stood just before the raise differs in the completed tail alone
  well_before : IsWellFormed store_meaning up.before
  well_before = let w = subst (IsWellFormed store_meaning) up.is (well_of after up.stands) in record { allowed = w.allowed; completed = long_before; limit = w.limit }

  then_is : later up.before g ≡ later after.progress g
  then_is = ap (λ z. later z g) (sym up.is)

  pub raise_part : (b : NodeBatch) (d : DeskView) → Goes l.catalogue (sees l g n b d) (if_any (nat_lt up.before.completed n.replica.tail) Finishes) (sees after.progress (later after.progress g) n b d)
  raise_part b d =
      let grown = store_laws.extends_on l k.progress up.before on up.was in
      Meets (sees l g n b d) (sees up.before (later up.before g) n b d) _ _ (others l up.before g is grown well_before l.catalogue grown.catalogue n b d)
      (subst (λ z. Goes l.catalogue (sees up.before (later up.before g) n b d) (if_any (nat_lt up.before.completed n.replica.tail) Finishes) (sees after.progress z n b d)) then_is
      (finish_step l.catalogue up.before after.progress (later up.before g) n b d up.is))

-- ---- room is made

module _ (k : K) (g : LogView) (n u : NodeReplica) (is : IsLogOf k.progress g) (f : Follows k.progress n) (behind : may_rebase g n ≡ true → u ≡ rebased g n) (stays : may_rebase g n ≡ false → u ≡ n) where
  -- there was room
  pub makes_none : (want : ℕ) → min want (left_of g) ≤ room_in g → MakesRoom want k k g g n u
  makes_none want enough = record {
    room = HadRoom enough;
    goes = λ b d. rebase_step k.progress.catalogue k.progress g n u (Held b) d behind stays;
    is = refl;
    did = did_none k k refl;
  }

  abbrev c : CatalogueView
  c = k.progress.catalogue

  keeps : Follows k.progress u × (g.base ≤ u.replica.tail)
  keeps = kept_up k.progress g n is f u behind stays

  -- the replica comes up, or stays
  Comes : NodeReplica → Type 0
  Comes m = (next : Bool) × ((b : BatchView) (d : DeskView) → Goes c (sees k.progress g u (Held b) d) (if_any next Replays) (sees k.progress g m (Held b) d))

  comes : (m : NodeReplica) (up : Bool) → (up ≡ false → m ≡ u) → (up ≡ true → m ≡ replayed c (copied g u)) → Comes m
  unfolding Comes
  comes m false same ran = (false, λ b d. subst (λ z. Goes c (sees k.progress g u (Held b) d) [] (sees k.progress g z (Held b) d)) (sym (same refl)) (Ends (sees k.progress g u (Held b) d)))
  comes m true same ran = (has_next g u, λ b d. follow_step c k.progress g u m (above k.progress g u is keeps.0 keeps.1) keeps.0 (ran refl) (Held b) d (λ x. refl))

  -- there was none
  module _ (after : K) (m : NodeReplica) (came : Bool) (same : came ≡ false → m ≡ u) (ran : came ≡ true → m ≡ replayed c (copied g u)) (up : HasRaised k after m.replica.tail) (holds : HoldsLog k) (past : g.base < m.replica.tail) (h : LogView) (log : h ≡ reclaimed m (told m g)) (want : ℕ) (due : IsBaseDue want g n) where
    abbrev ahead : Bool
    ahead = nat_lt up.before.completed m.replica.tail

    same_log : later after.progress g ≡ g
    same_log = still_log k.progress after.progress g is up.goes.extends (up.still holds)

    raises : (b : BatchView) (d : DeskView) → Goes c (sees k.progress g m (Held b) d) (if_any ahead Finishes) (sees after.progress g m (Held b) d)
    raises b d = subst (λ z. Goes c (sees k.progress g m (Held b) d) (if_any ahead Finishes) (sees after.progress z m (Held b) d)) same_log (raise_part k.progress k after g m is (store_laws.extends_self k.progress) up (Held b) d)

    pub makes_room : MakesRoom want k after g h n m
    unfolding Comes
    makes_room = record {
      room = MovedBase due (caught (comes m came same ran).0 ahead);
      goes = λ b d. ends_as c (sees after.progress h m (Held b) d) (ap (λ z. sees after.progress z m (Held b) d) (sym log))
          (goes_on (goes_on (rebase_step c k.progress g n u (Held b) d behind stays) (catches_up c _ _ _ (comes m came same ran).0 ahead ((comes m came same ran).1 b d) (raises b d)))
          (reclaim_step c after.progress g m (Held b) d past up.completed));
      is = log;
      did = subst (λ z. Did k after (Raised z ∷ [])) (ap (λ (z : LogView). z.base) (sym log)) up.did;
    }

-- ---- the batch is appended

-- the session k took the log g, and is t then, m once there is room in h, and f once it has put it back
module _ (k t m f : K) (g h h2 : LogView) (n v v2 : NodeReplica) (rs : History) (kept : RepliesView) (took : Extends k.progress t.progress) (log_is : IsLogOf t.progress g) (room : MakesRoom (length rs) t m g h n v) (may : may_append rs h v ≡ true)
    (log : h2 ≡ grown rs h) (node : v2 ≡ copied h2 v) (replies : kept ≡ replies_for rs h) (back_is : IsLogOf f.progress h2) (rise : m.progress.completed ≤ f.progress.completed) (stands : Stands f)
    (x : Value) (x_is : log_of x ≡ Some g) (took_it : HasStepped k (Took leader x) t) (q : ℕ) (there : q ≡ leader) (put_it : HasStepped m (Put q (with_log x h2)) f) where
  room_did : {want : ℕ} (made : RoomMade want g n) → Did t m (room_deeds made h) → Did t m (room_deeds made h2)
  room_did (HadRoom enough) d = d
  room_did (MovedBase due up) d = subst (λ z. Did t m (Raised z ∷ [])) (ap (λ (z : LogView). z.base) (sym log)) d

  appends_did : {want : ℕ} (made : MakesRoom want t m g h n v) → Did k f (append_deeds made.room h2)
  appends_did made = did_then k t f (Took leader (ALog g) ∷ []) (room_deeds made.room h2 ++ Put leader (ALog h2) ∷ [])
      (did_one k t (Took leader x) (Took leader (ALog g)) took_it (ap (Took leader) (log_part x g x_is)))
      (did_then t m f (room_deeds made.room h2) (Put leader (ALog h2) ∷ []) (room_did made.room made.did)
      (did_one m f (Put q (with_log x h2)) (Put leader (ALog h2)) put_it (λ i. Put (there i) (with_log_part x g h2 x_is i))))

  module _ (b : BatchView) (same : b.records ≡ rs) where
    made : MakesRoom (length b.records) t m g h n v
    made = subst (λ (z : History). MakesRoom (length z) t m g h n v) (sym same) room

    pub appends_by : AppendsBy k f b n v2 kept
    appends_by = record {
      logs = record {
        from = t.progress;
        since = took;
        log = g;
        back = h2;
        log_is = log_is;
        back_is = back_is;
      };
      room = made.room;
      goes = λ d. under t.progress.catalogue k.progress.catalogue (sym took.catalogue)
          (goes_on (made.goes b d)
          (goes_on (append_step t.progress.catalogue m.progress h h2 v v2 b kept rs d same may log node replies)
          (Meets _ _ _ [] (others_complete t.progress.catalogue m.progress f.progress h2 v2 (InLog (record { batch = b; replies = kept })) d rise back_is (well_of f stands)) (Ends _))));
      base = v;
      is = log ∙ (λ i. grown (sym same i) (made.is i));
      did = appends_did made;
    }

-- ---- what was copied is replayed

module _ (k after : K) (g : LogView) (n m : NodeReplica) (old new : RepliesView) (is : IsLogOf k.progress g) (begins : n.hand.begin ≡ n.replica.tail) (own : m ≡ replayed k.progress.catalogue n) (kept : new ≡ replies_after k.progress.catalogue n old) (up : HasRaised k after m.replica.tail) where
  pub replays_by : ReplaysBy k after g n m old new
  replays_by = record {
    log = later after.progress g;
    log_is = raised_log k.progress k after g m is (store_laws.extends_self k.progress) up;
    up = caught (not (no_records n.hand.records)) (nat_lt up.before.completed m.replica.tail);
    goes = λ b d. catches_up k.progress.catalogue _ _ _ (not (no_records n.hand.records)) (nat_lt up.before.completed m.replica.tail) (replay_step k.progress.catalogue k.progress g n m b old new d begins own kept)
        (raise_part k.progress k after g m is (store_laws.extends_self k.progress) up (InLog (record { batch = b; replies = new })) d);
    did = up.did;
  }

-- ---- the answers are handed over

pub hands_over : (node : ℕ) (k after : K) (b : BatchView) (kept : RepliesView) (d : DeskView) → Extends k.progress after.progress → Stands after
    → IsSessionOf k.progress.config d.node k.session → IsBatchOf d b → d.node ≡ node → Did k after (takes_and_puts (desk_place k.progress.config node) (ADesk d) (ADesk (replied (answered_batch kept b) d)))
    → HandsOver node k after b kept
hands_over node k after b kept d grown stands mine claimed there did = record {
  desk = d;
  there = there;
  mine = mine;
  claimed = claimed;
  did = did;
  goes = λ g n is a.
      let tail = a.0.tail in let rise = grown.completed in (
        later after.progress g,
        later_is k.progress after.progress g is grown,
        Meets _ _ _ _ (others k.progress after.progress g is grown (well_of after stands) k.progress.catalogue grown.catalogue n (InLog (record { batch = b; replies = kept })) d)
            (reply_step k.progress.catalogue after.progress (later after.progress g) n b kept d (ap (λ (z : HandView). z.records) a.1.1) (omega (arith, tail, rise))),
      );
}

-- the answers are kept, and the replica is back
module _ (node : ℕ) (k t a r f : K) (mine : IsSessionOf k.progress.config node k.session) (b : BatchView) (n v m : NodeReplica) (old new : RepliesView) (took : Extends k.progress t.progress) (found : Agrees t.progress n) (stands : Stands t) (first : AppendsBy t a b n v old)
    (then : ReplaysBy a r first.back v m old new) (since : Extends t.progress a.progress) (up : Extends a.progress r.progress) (agrees : Agrees r.progress m) (back : Extends r.progress f.progress) (stands_f : Stands f) (within : m.replica.tail ≤ length r.progress.history)
    (w : Value) (w_is : replica_of w ≡ Some n) (took_it : HasStepped k (Took (1 + node) w) t) (q : ℕ) (there : q ≡ 1 + node) (put_it : HasStepped r (Put q (with_replica w m)) f) where
  answers_did : Did k f (answer_deeds (1 + node) first.room first.back m)
  answers_did = did_then k t f (Took (1 + node) (AReplica n) ∷ []) (append_deeds first.room first.back ++ Raised m.replica.tail ∷ Put (1 + node) (AReplica m) ∷ [])
      (did_one k t (Took (1 + node) w) (Took (1 + node) (AReplica n)) took_it (ap (Took (1 + node)) (replica_part w n w_is)))
      (did_then t a f (append_deeds first.room first.back) (Raised m.replica.tail ∷ Put (1 + node) (AReplica m) ∷ []) first.did
      (did_then a r f (Raised m.replica.tail ∷ []) (Put (1 + node) (AReplica m) ∷ []) then.did
      (did_one r f (Put q (with_replica w m)) (Put (1 + node) (AReplica m)) put_it (λ i. Put (there i) (with_replica_part w n m w_is i)))))

  abbrev c0 : CatalogueView
  c0 = k.progress.catalogue

  to_a : k.progress.catalogue ≡ a.progress.catalogue
  to_a = took.catalogue ∙ since.catalogue

  pub answers_by : AnswersBy node k f b new
  answers_by = record {
    mine = mine;
    combined = record {
      ends = record {
        logs = record {
          from = first.from;
          since = store_laws.extends_on k.progress t.progress first.from took first.since;
          log = first.log;
          back = later f.progress then.log;
          log_is = first.log_is;
          back_is = later_is r.progress f.progress then.log then.log_is back;
        };
        own = n;
        left = m;
        own_is = agrees_on t.progress first.from n first.since (let tail = found.0.tail in let low = stands.accounts.completed in omega (arith, tail, low)) found;
        left_is = agrees_on r.progress f.progress m back within agrees;
      };
      room = first.room;
      up = then.up;
      base = first.base;
      put = first.back;
      put_is = first.is;
      tries = [];
      nothing = Nothing;
    };
    goes = λ d. goes_on (under t.progress.catalogue c0 (sym took.catalogue) (first.goes d))
        (then_others c0 _ _ _ (catch_up_steps then.up) (under a.progress.catalogue c0 (sym to_a) (then.goes b d))
        (others r.progress f.progress then.log then.log_is back (well_of f stands_f) c0 (to_a ∙ (up.catalogue ∙ back.catalogue)) m (InLog (record { batch = b; replies = new })) d));
    did = answers_did;
  }

-- the whole combine: the session k was f when its answers were kept, and z once it had handed them over
module _ (node : ℕ) (k f z : K) (b : BatchView) (kept : RepliesView) (first : AnswersBy node k f b kept) (last : HandsOver node f z b kept) (on : Extends k.progress f.progress) (end : Extends f.progress z.progress) (stands : Stands f) where
  abbrev began : Seen
  began = sees first.from first.log first.own (Held b) last.desk

  -- with the log and the replica as the answers left them
  over : (log : LogView) × IsLogOf z.progress log
      × Goes f.progress.catalogue (sees f.progress first.back first.left (InLog (record { batch = b; replies = kept })) last.desk) (Replies ∷ [])
      (sees z.progress log first.left Absent (replied (answered_batch kept b) last.desk))
  over = last.goes first.back first.left first.back_is first.left_is

  abbrev ended : Seen
  ended = sees z.progress over.0 first.left Absent (replied (answered_batch kept b) last.desk)

  within_f : first.left.replica.tail ≤ length f.progress.history
  within_f = let tail = first.left_is.0.tail in let low = stands.accounts.completed in omega (arith, tail, low)

  -- at the node of the desk
  combines_did : Did k z (first.tries ++ (answer_deeds (1 + last.desk.node) first.room first.put first.left ++ takes_and_puts (desk_place k.progress.config last.desk.node) (ADesk last.desk) (ADesk (replied (answered_batch kept b) last.desk))))
  combines_did = subst
      (λ (u : ℕ × Sizes). Did k z (first.tries ++ (answer_deeds (1 + u.0) first.room first.put first.left ++ takes_and_puts (desk_place u.1 u.0) (ADesk last.desk) (ADesk (replied (answered_batch kept b) last.desk)))))
      (λ i. (sym last.there i, sym on.config i))
      (subst (Did k z) (append_assoc first.tries (answer_deeds (1 + node) first.room first.put first.left) _) (did_then k f z (first.tries ++ answer_deeds (1 + node) first.room first.put first.left) _ first.did last.did))

  pub combines_by : (answered : BatchView) → answered ≡ answered_batch kept b → k.note.batch ≡ unplaced b.records → f.session ≡ k.session → CombinesBy k z b answered
  combines_by answered answers noted same = record {
    noted = noted;
    combined = record {
      ends = record {
        logs = record {
          from = first.from;
          since = first.since;
          log = first.log;
          back = over.0;
          log_is = first.log_is;
          back_is = over.1;
        };
        own = first.own;
        left = first.left;
        own_is = first.own_is;
        left_is = agrees_on f.progress z.progress first.left end within_f first.left_is;
      };
      room = first.room;
      up = first.up;
      base = first.base;
      put = first.put;
      put_is = first.put_is;
      tries = first.tries;
      nothing = first.nothing;
    };
    kept = kept;
    answers = answers;
    desk = last.desk;
    mine = subst (λ (z : Sizes × ℕ). IsSessionOf z.0 last.desk.node z.1) (λ i. (sym on.config i, same i)) last.mine;
    claimed = last.claimed;
    goes = subst (λ xs. Goes k.progress.catalogue began xs ended) (append_assoc (append_steps first.room) (catch_up_steps first.up) (Replies ∷ []))
        (goes_on (first.goes last.desk) (under f.progress.catalogue k.progress.catalogue (sym on.catalogue) over.2));
    did = combines_did;
  }

-- ---- a read

-- a replica that is the base is not below it
never_below : (n : NodeReplica) (l : L) → may_rebase (log_from l n) n ≡ false
never_below n l = ap (λ z. z && no_records n.hand.records) (le-ltb n.replica.tail n.replica.tail (omega arith))

-- a replica that is ready follows nothing
pub follows_none : (k : K) (n : NodeReplica) → Agrees k.progress n → Stands k → FollowsBy false k k n n
follows_none k n a stands = record {
  logs = record {
    from = k.progress;
    since = store_laws.extends_self k.progress;
    log = log_from k.progress n;
    back = log_from k.progress n;
    log_is = log_from_is k.progress n stands.accounts.completed a;
    back_is = log_from_is k.progress n stands.accounts.completed a;
  };
  up = Stayed;
  goes = λ d. subst (λ q. Goes k.progress.catalogue (sees k.progress (log_from k.progress n) n Absent d) (cond q (Rebases ∷ []) [] ++ []) (sees k.progress (log_from k.progress n) n Absent d)) (sym (never_below n k.progress))
      (Ends (sees k.progress (log_from k.progress n) n Absent d));
  did = did_none k k refl;
  stays = λ same. refl;
}

-- the session k took the log g and is t then, f once it has put it back, and after once it has raised the completed tail
module _ (k t f after : K) (g : LogView) (n u m : NodeReplica) (took : Extends k.progress t.progress) (is : IsLogOf t.progress g) (follows : Follows t.progress n) (behind : may_rebase g n ≡ true → u ≡ rebased g n) (stays : may_rebase g n ≡ false → u ≡ n)
    (ran : m ≡ replayed t.progress.catalogue (copied g u)) (on : Extends t.progress f.progress) (up : HasRaised f after m.replica.tail)
    (x : Value) (x_is : log_of x ≡ Some g) (took_it : HasStepped k (Took leader x) t) (q : ℕ) (there : q ≡ leader) (put_it : HasStepped t (Put q x) f) where
  keeps_up : Follows t.progress u × (g.base ≤ u.replica.tail)
  keeps_up = kept_up t.progress g n is follows u behind stays

  abbrev c1 : CatalogueView
  c1 = t.progress.catalogue

  pub follows_by : FollowsBy true k after n m
  follows_by = record {
    logs = record {
      from = t.progress;
      since = took;
      log = g;
      back = later after.progress g;
      log_is = is;
      back_is = raised_log t.progress f after g m is on up;
    };
    up = caught (has_next g u) (nat_lt up.before.completed m.replica.tail);
    goes = λ d. under c1 k.progress.catalogue (sym took.catalogue)
        (goes_on (rebase_step c1 t.progress g n u Absent d behind stays)
        (catches_up c1 _ _ _ (has_next g u) (nat_lt up.before.completed m.replica.tail) (follow_step c1 t.progress g u m (above t.progress g u is keeps_up.0 keeps_up.1) keeps_up.0 ran Absent d (λ x. refl)) (raise_part t.progress f after g m is on up Absent d)));
    did = did_then k f after (Took leader (ALog g) ∷ Put leader (ALog g) ∷ []) (Raised m.replica.tail ∷ [])
        (did_both k t f leader q leader x x (ALog g) (ALog g) took_it put_it refl there (log_part x g x_is) (log_part x g x_is)) up.did;
    stays = λ wrong. cc;
  }

-- the whole look: the session k took its replica, loaded the completed tail, which was done, and is t then, r once the replica has come up, and f
-- once it has put it back
module _ (k t r f : K) (done : ℕ) (n m : NodeReplica) (point : ℕ) (grown : Extends k.progress t.progress) (done_is : done ≡ t.progress.completed) (found : Agrees t.progress n) (stands : Stands t) (first : FollowsBy (nat_lt n.replica.tail done) t r n m)
    (up : Extends t.progress r.progress) (agrees : Agrees r.progress m) (within : m.replica.tail ≤ length r.progress.history) (reached : done ≤ m.replica.tail) (back : Extends r.progress f.progress) (stands_f : Stands f)
    (w : Value) (w_is : replica_of w ≡ Some n) (h : HoldsReplica r w) (same : r.session ≡ k.session) (place : ℕ) (here : place ≡ 1 + h.node) (q : ℕ) (there : q ≡ 1 + h.node)
    (begins : Did k t (Took place (AReplica n) ∷ Read done ∷ [])) (put_it : HasStepped r (Put q (with_replica w m)) f) where
  abbrev lacks : Bool
  lacks = nat_lt n.replica.tail done

  looks_did : Did k f (look_deeds (1 + h.node) done first.log n m)
  looks_did = did_then k t f (Took (1 + h.node) (AReplica n) ∷ Read done ∷ []) (follow_deeds lacks first.log m ++ Put (1 + h.node) (AReplica m) ∷ [])
      (subst (λ z. Did k t (Took z (AReplica n) ∷ Read done ∷ [])) here begins)
      (did_then t r f (follow_deeds lacks first.log m) (Put (1 + h.node) (AReplica m) ∷ []) first.did
      (did_one r f (Put q (with_replica w m)) (Put (1 + h.node) (AReplica m)) put_it (λ i. Put (there i) (with_replica_part w n m w_is i))))

  abbrev c2 : CatalogueView
  c2 = k.progress.catalogue

  to_t : k.progress.catalogue ≡ t.progress.catalogue
  to_t = grown.catalogue

  all_config : k.progress.config ≡ r.progress.config
  all_config = grown.config ∙ up.config

  -- the replica that it looked at is m
  pub looks_by : tails_in f.steps ≡ tails_in k.steps ++ done ∷ [] → point ≡ m.replica.tail → (by : LooksBy k f point) × (by.left ≡ m)
  looks_by read at =
      let tail = agrees.0.tail in let rise = back.completed in let rise_s = first.since.completed in (
        record {
          loads = record { seen = done; more = []; read = read };
          ends = record {
            logs = record {
              from = first.from;
              since = store_laws.extends_on k.progress t.progress first.from grown first.since;
              log = first.log;
              back = later f.progress first.back;
              log_is = first.log_is;
              back_is = later_is r.progress f.progress first.back first.back_is back;
            };
            own = n;
            left = m;
            own_is = agrees_on t.progress first.from n first.since (let tail = found.0.tail in let low = stands.accounts.completed in omega (arith, tail, low)) found;
            left_is = agrees_on r.progress f.progress m back within agrees;
          };
          begun = omega (arith, done_is, rise_s);
          up = first.up;
          goes = λ d. then_others c2 _ _ _ (read_steps first.log n first.up) (under t.progress.catalogue c2 (sym to_t) (first.goes d))
              (others r.progress f.progress first.back first.back_is back (well_of f stands_f) c2 (to_t ∙ (up.catalogue ∙ back.catalogue)) m Absent d);
          may = ap (λ z. z && nat_le m.replica.tail f.progress.completed) (le-leb done m.replica.tail reached) ∙ le-leb m.replica.tail f.progress.completed (omega (arith, tail, rise));
          at = at;
          shelf = record {
            node = h.node;
            mine = subst (λ (z : Sizes × ℕ). IsSessionOf z.0 h.node z.1) (λ i. (sym all_config i, same i)) h.own;
            tries = [];
            nothing = Nothing;
            loaded = done;
            did = looks_did;
            stays = first.stays;
          };
        },
        refl,
      )
