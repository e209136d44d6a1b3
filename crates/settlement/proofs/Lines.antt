-- The steps of a node's list, one by one: what holds before each, and what holds then.
use Rattle.std.proofs.Common.{◌≡◌, ◌≢◌, ℕ, zero, suc, ◌+◌, ◌-◌, ◌≤◌, Bool, true, false, not, List, [], ◌∷◌, ◌++◌, length, map, take, Option, Some, None, refl, sym, ap, ◌∙◌, arith, subst, length-drop, length-append, length-take}
use Rattle.std.specs.Prelude.{cond, ◌&&◌, ◌||◌, nat_lt, nat_le, if◌then◌else◌}
use Rattle.std.specs.List.{list_any}
use Rattle.std.proofs.lemmas.Bool.{and_parts, or_parts, and_from, ltb-true, ltb-false, le-leb, false≢true, not-false}
use Rattle.std.proofs.lemmas.List.{length-map}
use Rattle.oplog.specs.declared.records.Record.{Record}
use Rattle.oplog.specs.History.{History}
use Rattle.oplog.specs.Logs.{Log, tail_of, room_in}
use Rattle.combiner.specs.declared.slots.Stage.{Stage}
use Rattle.combiner.specs.declared.slots.Stage.TheVariants.{Empty, Posted, Claimed, Answered}
use Rattle.combiner.specs.declared.slots.Slot.{Slot}
use Rattle.combiner.specs.Slots.{is_posted, is_claimed, claimed_slot, claimed_stage, requested, requests_from, answered_stage}
use Rattle.combiner.specs.declared.slots.Reply.{Reply}
use Rattle.combiner.specs.Desks.{DeskView, BatchView, first_author, has_request, batch_of, claimed, claimed_from, answer_for, answered_from, replied}
use Rattle.node.specs.declared.following.NodeReplica.{NodeReplica}
use Rattle.node.specs.declared.parts.NodeBatch.{NodeBatch}
use Rattle.node.specs.declared.parts.NodeBatch.TheVariants.{Absent, Held, InLog}
use Rattle.node.specs.Following.{no_records, room_for, is_above, with_next, to_run}
use Rattle.node.specs.Answering.{answered_batch}
use Rattle.node.specs.Steps.{NodeStep, Appends, Replays, Finishes, Reclaims, Rebases, Replies, may, next, batch_after, is_in_log, may_append_batch, append_batch, reply_batch}
use Rattle.schedule.specs.declared.parts.Opening.{Opening}
use Rattle.schedule.specs.declared.steps.Step.TheVariants.{Claim, Append, Replay, Finish, Reply as TheReply, Reclaim, Rebase}
use Rattle.schedule.specs.Worlds.{NodeView, own_of}
use Rattle.schedule.specs.Steps.{Part, inner, seen_of, put_seen, no_batch}
use Rattle.schedule.specs.Stands.{batch_in}
use Rattle.schedule.specs.Taking.{IsOfStore}
use Rattle.schedule.proofs.Export.{none_is}
use Rattle.settlement.proofs.OwnSteps.{Fact, Stays, Leads, log_after, node_after}

-- ---- what holds of a node between two steps

-- 0: no batch; 1: a batch is claimed; 2: it is in the log
abbrev pub kind_of : NodeBatch → ℕ
kind_of Absent = 0
kind_of (Held b) = 1
kind_of (InLog b) = 2

-- how many requests are posted at a desk, and how many are claimed
abbrev pub posted_at : DeskView → ℕ
posted_at d = length (requests_from (first_author d) d.slots)

abbrev pub claimed_at : DeskView → ℕ
claimed_at d = length (claimed_from (first_author d) d.slots)

-- how much is known of the log, the batch and the desk: by the base, the tail, the kind of the batch, and the desk
abbrev pub Side : Type 1
Side = ℕ → ℕ → ℕ → DeskView → Type 0

abbrev pub SideOf : Side → Log → NodeView → Type 0
SideOf S g node = S g.base (tail_of g) (kind_of node.batch) node.desk

-- the hand is empty
abbrev pub IsBare : Side → Fact
IsBare S g node = (node.hand.records ≡ []) × SideOf S g node

-- and the replica is not below the base
abbrev pub IsAbove : Side → Fact
IsAbove S g node = (node.hand.records ≡ []) × (g.base ≤ node.replica.tail) × SideOf S g node

-- and at the log's end
abbrev pub IsAtEnd : Side → Fact
IsAtEnd S g node = (node.hand.records ≡ []) × (g.base ≤ node.replica.tail) × (node.replica.tail ≡ tail_of g) × SideOf S g node

-- and all of the log is completed
abbrev pub IsUp : Side → Fact
IsUp S g node = (node.hand.records ≡ []) × (g.base ≤ node.replica.tail) × (node.replica.tail ≡ tail_of g) × (g.done ≡ tail_of g) × SideOf S g node

-- the hand leads to the log's end
abbrev pub HasRest : Side → Fact
HasRest S g node = (g.base ≤ node.replica.tail) × (node.replica.tail + length node.hand.records ≡ tail_of g) × SideOf S g node

-- ---- these stay

side_stays : (S : Side) (g h : Log) (node : NodeView) → tail_of h ≡ tail_of g → h.base ≡ g.base → SideOf S g node → SideOf S h node
side_stays S g h node t b s =
    subst (λ k. S h.base k (kind_of node.batch) node.desk) (sym t) (subst (λ k. S k (tail_of g) (kind_of node.batch) node.desk) (sym b) s)

pub any_stays : (S : Side) → Stays (SideOf S)
any_stays S g h node s t b within up = side_stays S g h node t b s

pub bare_stays : (S : Side) → Stays (IsBare S)
bare_stays S g h node (e, s) t b within up = (e, side_stays S g h node t b s)

pub above_stays : (S : Side) → Stays (IsAbove S)
above_stays S g h node (e, a, s) t b within up = (e, omega arith, side_stays S g h node t b s)

pub end_stays : (S : Side) → Stays (IsAtEnd S)
end_stays S g h node (e, a, i, s) t b within up = (e, omega arith, omega arith, side_stays S g h node t b s)

pub up_stays : (S : Side) → Stays (IsUp S)
up_stays S g h node (e, a, i, d, s) t b within up = (e, omega arith, omega arith, omega arith, side_stays S g h node t b s)

pub rest_stays : (S : Side) → Stays (HasRest S)
rest_stays S g h node (a, i, s) t b within up = (omega arith, omega arith, side_stays S g h node t b s)

-- ---- a step of the node, by whether it may be taken

pub by_guard : (m : Opening) (g : Log) (node : NodeView) (k : NodeStep) (Q : Fact)
    → (may k (seen_of g node) ≡ true → Q (next m.catalogue k (seen_of g node)).log (put_seen node (next m.catalogue k (seen_of g node))).node)
    → (may k (seen_of g node) ≡ false → Q g node)
    → Q (log_after (inner m k g node) g) (node_after (inner m k g node) node)
by_guard m g node k Q takes leaves = go (may k (seen_of g node)) takes leaves
  where
    go : (b : Bool) → (b ≡ true → Q (next m.catalogue k (seen_of g node)).log (put_seen node (next m.catalogue k (seen_of g node))).node) → (b ≡ false → Q g node)
        → Q (log_after (cond b (Some (put_seen node (next m.catalogue k (seen_of g node)))) None) g) (node_after (cond b (Some (put_seen node (next m.catalogue k (seen_of g node)))) None) node)
    go true y n = y refl
    go false y n = n refl

and_no : (a b : Bool) → a ≡ true → (a && b) ≡ false → b ≡ false
and_no true b e f = f
and_no false b e f = absurd (false≢true e)

pub and_yes : (a b : Bool) → b ≡ true → (a && b) ≡ false → a ≡ false
and_yes true b e f = absurd (false≢true (sym f ∙ e))
and_yes false b e f = refl

kind_kept : (m : Opening) (n : NodeReplica) (b : NodeBatch) → kind_of (batch_after m.catalogue n b) ≡ kind_of b
kind_kept m n Absent = refl
kind_kept m n (Held b) = refl
kind_kept m n (InLog b) = refl

replayed_side : (m : Opening) (S : Side) (g : Log) (node : NodeView) (n : NodeReplica) → SideOf S g node → S g.base (tail_of g) (kind_of (batch_after m.catalogue n node.batch)) node.desk
replayed_side m S g node n s = subst (λ k. S g.base (tail_of g) k node.desk) (sym (kind_kept m n node.batch)) s

-- ---- following

-- the hand is empty after a replay
pub replay_empties : (m : Opening) (n : ℕ) (S : Side) → Leads m (Replay n) (SideOf S) (IsBare S)
replay_empties m n S g node x s =
    by_guard m g node Replays (IsBare S)
    (λ e. (refl, replayed_side m S g node (with_next g (own_of node)) s))
    (λ e. (none_is node.hand.records (not-false (no_records node.hand.records) (or_parts (not (no_records node.hand.records)) _ e).0), s))

-- a replica that is below the base becomes the base
pub rebase_lifts : (m : Opening) (n : ℕ) (S : Side) → Leads m (Rebase n) (IsBare S) (IsAbove S)
rebase_lifts m n S g node x (empty, s) =
    by_guard m g node Rebases (IsAbove S)
    (λ e. (refl, omega arith, s))
    (λ e. (empty, ltb-false node.replica.tail g.base (and_yes (nat_lt node.replica.tail g.base) (no_records node.hand.records) (ap no_records empty) e), s))

-- a replay leads to the log's end
ran_to_end : (g : Log) (tail : ℕ) (rs : History) → rs ≡ [] → g.base ≤ tail → tail ≤ tail_of g → tail + length (to_run g tail rs) ≡ tail_of g
ran_to_end g tail [] e a b = let l = length-drop (tail - g.base) g.records in omega arith
ran_to_end g tail (r ∷ rs) e a b = let l : length (r ∷ rs) ≡ 0 = ap length e in absurd (omega arith)

pub replay_ends : (m : Opening) (n : ℕ) (S : Side) → Leads m (Replay n) (IsAbove S) (IsAtEnd S)
replay_ends m n S g node x (empty, above, s) =
    let within = x.stands.replica.tail in
    let ends = x.log.ends in
    let end = ran_to_end g node.replica.tail node.hand.records empty above (omega arith) in
    by_guard m g node Replays (IsAtEnd S)
    (λ e. (refl, omega arith, end, replayed_side m S g node (with_next g (own_of node)) s))
    (λ e.
    let o = or_parts (not (no_records node.hand.records)) _ e in
    let none = and_no (is_above g (own_of node)) (nat_lt node.replica.tail (tail_of g)) (le-leb g.base node.replica.tail above) o.1 in
    let l = ltb-false node.replica.tail (tail_of g) none in
    (empty, above, omega arith, s))

-- what the replica has applied is completed
pub finish_completes : (m : Opening) (n : ℕ) (S : Side) → Leads m (Finish n) (IsAtEnd S) (IsUp S)
finish_completes m n S g node x (empty, above, end, s) =
    let d = x.log.done in
    let ends = x.log.ends in
    by_guard m g node Finishes (IsUp S)
    (λ e. let l = ltb-true g.done node.replica.tail e in (empty, above, end, omega arith, s))
    (λ e. let l = ltb-false g.done node.replica.tail e in (empty, above, end, omega arith, s))

-- a replay of what an append has copied leads to the log's end, too
rest_to_end : (g : Log) (tail : ℕ) (rs : History) → g.base ≤ tail → tail + length rs ≡ tail_of g → tail + length (to_run g tail rs) ≡ tail_of g
rest_to_end g tail [] a b = let l = length-drop (tail - g.base) g.records in omega arith
rest_to_end g tail (r ∷ rs) a b = b

pub replay_rest : (m : Opening) (n : ℕ) (S : Side) → Leads m (Replay n) (HasRest S) (IsAtEnd S)
replay_rest m n S g node x (above, rest, s) =
    let end = rest_to_end g node.replica.tail node.hand.records above rest in
    by_guard m g node Replays (IsAtEnd S)
    (λ e. (refl, omega arith, end, replayed_side m S g node (with_next g (own_of node)) s))
    (λ e.
    let o = or_parts (not (no_records node.hand.records)) _ e in
    let empty = none_is node.hand.records (not-false (no_records node.hand.records) o.0) in
    let nil : length node.hand.records ≡ 0 = ap length empty in
    (empty, above, omega arith, s))

-- ---- the desk

-- requests are counted alike, whoever the first session is
pub requests_alike : (a b : ℕ) (xs : List Slot) → length (requests_from a xs) ≡ length (requests_from b xs)
requests_alike a b [] = refl
requests_alike a b (x ∷ xs) = go x.stage (requests_alike (suc a) (suc b) xs)
  where
    go : (st : Stage) → length (requests_from (suc a) xs) ≡ length (requests_from (suc b) xs) → length (requested a x.count st (requests_from (suc a) xs)) ≡ length (requested b x.count st (requests_from (suc b) xs))
    go Empty e = e
    go (Posted op) e = ap suc e
    go Claimed e = e
    go (Answered r) e = e

-- a slot is posted, or claimed, or neither
pub counts_fit : (a b : ℕ) (xs : List Slot) → length (claimed_from a xs) + length (requests_from b xs) ≤ length xs
counts_fit a b [] = omega arith
counts_fit a b (x ∷ xs) = go x.stage (counts_fit (suc a) (suc b) xs)
  where
    go : (st : Stage) → length (claimed_from (suc a) xs) + length (requests_from (suc b) xs) ≤ length xs
        → length (if is_claimed st then a ∷ claimed_from (suc a) xs else claimed_from (suc a) xs) + length (requested b x.count st (requests_from (suc b) xs)) ≤ suc (length xs)
    go Empty e = omega arith
    go (Posted op) e = omega arith
    go Claimed e = omega arith
    go (Answered r) e = omega arith

-- answers change no request that is posted
answered_posted : (a : ℕ) (b : BatchView) (xs : List Slot) → length (requests_from a (answered_from a b xs)) ≡ length (requests_from a xs)
answered_posted a b [] = refl
answered_posted a b (x ∷ xs) = go x.stage (answer_for a b.records b.answers) (answered_posted (suc a) b xs)
  where
    go : (st : Stage) (o : Option Reply) → length (requests_from (suc a) (answered_from (suc a) b xs)) ≡ length (requests_from (suc a) xs)
        → length (requested a x.count (answered_stage o st) (requests_from (suc a) (answered_from (suc a) b xs))) ≡ length (requested a x.count st (requests_from (suc a) xs))
    go Empty o e = e
    go (Posted op) o e = ap suc e
    go Claimed None e = e
    go Claimed (Some r) e = e
    go (Answered r) o e = e

pub replied_posted : (b : BatchView) (d : DeskView) → posted_at (replied b d) ≡ posted_at d
replied_posted b d = requests_alike (first_author (replied b d)) (first_author d) (answered_from (first_author d) b d.slots) ∙ answered_posted (first_author d) b d.slots

-- where nothing is posted, nothing is counted; and once all is claimed, nothing is posted
none_posted : (a : ℕ) (xs : List Slot) → list_any (λ (x : Slot). is_posted x.stage) xs ≡ false → length (requests_from a xs) ≡ 0
none_posted a [] e = refl
none_posted a (x ∷ xs) e = go x.stage (λ f. none_posted (suc a) xs f) e
  where
    go : (st : Stage) → (list_any (λ (x : Slot). is_posted x.stage) xs ≡ false → length (requests_from (suc a) xs) ≡ 0) → (is_posted st || list_any (λ (x : Slot). is_posted x.stage) xs) ≡ false
        → length (requested a x.count st (requests_from (suc a) xs)) ≡ 0
    go Empty rest f = rest f
    go (Posted op) rest f = absurd (false≢true (sym f))
    go Claimed rest f = rest f
    go (Answered r) rest f = rest f

claimed_posted : (a : ℕ) (xs : List Slot) → length (requests_from a (map claimed_slot xs)) ≡ 0
claimed_posted a [] = refl
claimed_posted a (x ∷ xs) = go x.stage (claimed_posted (suc a) xs)
  where
    go : (st : Stage) → length (requests_from (suc a) (map claimed_slot xs)) ≡ 0 → length (requested a x.count (claimed_stage st) (requests_from (suc a) (map claimed_slot xs))) ≡ 0
    go Empty e = e
    go (Posted op) e = e
    go Claimed e = e
    go (Answered r) e = e

-- what was posted is claimed then, with what was claimed
claims_count : (a b : ℕ) (xs : List Slot) → length (claimed_from a (map claimed_slot xs)) ≡ length (claimed_from b xs) + length (requests_from b xs)
claims_count a b [] = refl
claims_count a b (x ∷ xs) = go x.stage (claims_count (suc a) (suc b) xs)
  where
    go : (st : Stage) → length (claimed_from (suc a) (map claimed_slot xs)) ≡ length (claimed_from (suc b) xs) + length (requests_from (suc b) xs)
        → length (if is_claimed (claimed_stage st) then a ∷ claimed_from (suc a) (map claimed_slot xs) else claimed_from (suc a) (map claimed_slot xs))
        ≡ length (if is_claimed st then b ∷ claimed_from (suc b) xs else claimed_from (suc b) xs) + length (requested b x.count st (requests_from (suc b) xs))
    go Empty e = e
    go (Posted op) e = omega arith
    go Claimed e = omega arith
    go (Answered r) e = e

-- ---- the batch

not_logged : (b : NodeBatch) → is_in_log b ≡ false → kind_of b ≤ 1
not_logged Absent e = omega arith
not_logged (Held b) e = omega arith
not_logged (InLog b) e = absurd (false≢true (sym e))

pub no_kind : (b : NodeBatch) → kind_of b ≡ 0 → b ≡ Absent
no_kind Absent e = refl
no_kind (Held b) e = absurd (omega arith)
no_kind (InLog b) e = absurd (omega arith)

-- as many requests as slots that are claimed
pub as_claimed : {m : Opening} {g : Log} {node : NodeView} → IsOfStore m g node → length (batch_in node.batch).records ≡ claimed_at node.desk
as_claimed {m} {g} {node} x = sym (length-map (batch_in node.batch).records (λ (r : Record). r.author)) ∙ ap length x.stands.desk.own

module _ (m : Opening) (n : ℕ) (S R : Side) (given : (b t : ℕ) (d : DeskView) (y : BatchView) → S b t 2 d → R b t 0 (replied y d)) (kept : (b t k : ℕ) (d : DeskView) → k ≤ 1 → S b t k d → R b t k d) where
  -- a batch that is in the log is answered
  answered_up : (g : Log) (node : NodeView) (b : NodeBatch) → is_in_log b ≡ true → node.hand.records ≡ [] → g.base ≤ node.replica.tail → node.replica.tail ≡ tail_of g → g.done ≡ tail_of g
      → S g.base (tail_of g) (kind_of b) node.desk → IsUp R (reply_batch b (seen_of g node)).log (put_seen node (reply_batch b (seen_of g node))).node
  answered_up g node Absent e empty above end done s = absurd (false≢true e)
  answered_up g node (Held b) e empty above end done s = absurd (false≢true e)
  answered_up g node (InLog b) e empty above end done s = (empty, above, end, done, given g.base (tail_of g) node.desk (answered_batch b.replies b.batch) s)

  pub reply_ends : Leads m (TheReply n) (IsUp S) (IsUp R)
  reply_ends g node x (empty, above, end, done, s) =
      by_guard m g node Replies (IsUp R)
      (λ e. answered_up g node node.batch (and_parts (is_in_log node.batch) _ e).0 empty above end done s)
      (λ e.
      let ready : (no_records node.hand.records && nat_le node.replica.tail g.done) ≡ true = and_from (no_records node.hand.records) (nat_le node.replica.tail g.done) (ap no_records empty) (le-leb node.replica.tail g.done (omega arith)) in
      (empty, above, end, done, kept g.base (tail_of g) (kind_of node.batch) node.desk (not_logged node.batch (and_yes (is_in_log node.batch) _ ready e)) s))

-- ---- room

abbrev pub Any : Side
Any b t k d = Unit {0}

-- the batch is not in the log
abbrev pub NotLogged : Side
NotLogged b t k d = k ≤ 1

-- and the log keeps so few records that those of the batch and of what is posted have room, in as much as there are slots
abbrev pub HasRoomFor : ℕ → ℕ → Side
HasRoomFor size most b t k d = (k ≤ 1) × ((t + claimed_at d) + posted_at d ≤ b + size) × (posted_at d ≤ most)

-- the batch is in the log, or there is none; what is posted has room
abbrev pub LeavesRoomFor : ℕ → ℕ → Side
LeavesRoomFor size most b t k d = (k ≢ 1) × (t + posted_at d ≤ b + size) × (posted_at d ≤ most)

-- there is no batch
abbrev pub IsFree : ℕ → ℕ → Side
IsFree size most b t k d = (k ≡ 0) × (t + posted_at d ≤ b + size) × (posted_at d ≤ most)

pub reclaim_frees : (m : Opening) (n : ℕ) → Leads m (Reclaim n) (IsUp NotLogged) (IsUp (HasRoomFor m.config.slots m.config.slots))
reclaim_frees m n g node x (empty, above, end, done, s) =
    let fit = counts_fit (first_author node.desk) (first_author node.desk) node.desk.slots in
    let slots = x.stands.desk.slots in
    let l = length-drop (node.replica.tail - g.base) g.records in
    by_guard m g node Reclaims (IsUp (HasRoomFor m.config.slots m.config.slots))
    (λ e. (empty, omega arith, omega arith, omega arith, (s, omega arith, omega arith)))
    (λ e.
    let below = ltb-false g.base node.replica.tail (and_yes (nat_lt g.base node.replica.tail) (nat_le node.replica.tail g.done) (le-leb node.replica.tail g.done (omega arith)) e) in
    (empty, above, end, done, (s, omega arith, omega arith)))

module _ (m : Opening) (n most : ℕ) where
  -- a batch that is claimed is appended
  appended : (g : Log) (node : NodeView) (b : NodeBatch) → may_append_batch b g (own_of node) ≡ true → g.base ≤ node.replica.tail → node.replica.tail ≡ tail_of g → length (batch_in b).records ≡ claimed_at node.desk
      → HasRoomFor m.config.slots most g.base (tail_of g) (kind_of b) node.desk
      → HasRest (LeavesRoomFor m.config.slots most) (append_batch b (seen_of g node)).log (put_seen node (append_batch b (seen_of g node))).node
  appended g node Absent e above end count s = absurd (false≢true e)
  appended g node (InLog b) e above end count s = absurd (false≢true e)
  appended g node (Held b) e above end count s =
      let rs : History = take (room_for b.records g) b.records in
      let long = length-append g.records rs in
      let some = length-take (room_for b.records g) b.records in
      let rest = length-drop (node.replica.tail - g.base) (g.records ++ rs) in
      let room = s.1 in
      (above, omega arith, ((λ two. absurd (omega arith)), omega arith, s.2))

  -- nothing is claimed, where no batch may be appended
  nothing_held : (g : Log) (node : NodeView) (b : NodeBatch) → may_append_batch b g (own_of node) ≡ false → g.base ≤ node.replica.tail → length (batch_in b).records ≡ claimed_at node.desk
      → m.config.slots ≤ g.window → HasRoomFor m.config.slots most g.base (tail_of g) (kind_of b) node.desk → kind_of b ≡ 0
  nothing_held g node Absent e above count fits s = refl
  nothing_held g node (InLog b) e above count fits s = absurd (let k = s.0 in omega arith)
  nothing_held g node (Held b) e above count fits s =
      let room = s.1 in
      let enough : room_for b.records g ≤ room_in g = omega arith in
      absurd (false≢true (sym e ∙ and_from (is_above g (own_of node)) (nat_le (room_for b.records g) (room_in g)) (le-leb g.base node.replica.tail above) (le-leb (room_for b.records g) (room_in g) enough)))

  pub append_logs : Leads m (Append n) (IsUp (HasRoomFor m.config.slots most)) (HasRest (LeavesRoomFor m.config.slots most))
  append_logs g node x (empty, above, end, done, s) =
      let count = as_claimed x in
      let window = x.log.window in
      let few = (x.config.slots).1 in
      let wide = (x.config.window).0 in
      by_guard m g node Appends (HasRest (LeavesRoomFor m.config.slots most))
      (λ e. appended g node node.batch e above end count s)
      (λ e.
      let none = nothing_held g node node.batch e above count (omega arith) s in
      let nil : length node.hand.records ≡ 0 = ap length empty in
      let room = s.1 in
      (above, omega arith, ((λ one. absurd (omega arith)), omega arith, s.2)))

  -- a batch that is in the log is answered, and what is posted has room still
  pub batch_ends : Leads m (TheReply n) (IsUp (LeavesRoomFor m.config.slots most)) (IsUp (IsFree m.config.slots most))
  batch_ends = reply_ends m n (LeavesRoomFor m.config.slots most) (IsFree m.config.slots most)
      (λ b t d y s. let same = replied_posted y d in let room = s.1 in let few = s.2 in (refl, omega arith, omega arith))
      (λ b t k d le s. let ne = s.0 in (one_less k le ne, s.1, s.2))
    where
      one_less : (k : ℕ) → k ≤ 1 → k ≢ 1 → k ≡ 0
      one_less zero le ne = refl
      one_less (suc k) le ne = absurd (ne (omega arith))

  -- what is posted is claimed
  pub claim_takes : Leads m (Claim n) (IsUp (IsFree m.config.slots most)) (IsUp (HasRoomFor m.config.slots 0))
  claim_takes g node x (empty, above, end, done, s) = go (no_batch node.batch && has_request node.desk) refl
    where
      idle : node.batch ≡ Absent
      idle = no_kind node.batch s.0

      nobody : claimed_at node.desk ≡ 0
      nobody = sym (as_claimed x) ∙ ap (λ b. length (batch_in b).records) idle

      new : NodeView
      new = record node { desk = claimed node.desk; batch = Held (batch_of node.desk) }

      part : Option Part
      part = Some (record { log = g; node = new; event = None })

      go : (b : Bool) → (no_batch node.batch && has_request node.desk) ≡ b → IsUp (HasRoomFor m.config.slots 0) (log_after (cond b part None) g) (node_after (cond b part None) node)
      go true e =
          let count = claims_count (first_author (claimed node.desk)) (first_author node.desk) node.desk.slots in
          let none = claimed_posted (first_author (claimed node.desk)) node.desk.slots in
          let room = s.1 in
          let zero_claimed = nobody in
          (empty, above, end, done, (omega arith, omega arith, omega arith))
      go false e =
          let nothing = and_no (no_batch node.batch) (has_request node.desk) (ap no_batch idle) e in
          let none = none_posted (first_author node.desk) node.desk.slots nothing in
          let room = s.1 in
          let zero_claimed = nobody in
          (empty, above, end, done, (omega arith, omega arith, omega arith))
