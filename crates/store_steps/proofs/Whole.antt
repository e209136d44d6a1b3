-- Single steps of a node as a session takes them, and what others do between them.
use Rattle.std.proofs.Common.{Bool, true, false, not, ◌&&◌, ◌||◌, ◌≡◌, ℕ, suc, ◌+◌, ◌-◌, ◌<◌, ◌≤◌, List, [], ◌∷◌, ◌++◌, length, length-append, take, drop, refl, sym, ap, ◌∙◌, subst, arith}
use Rattle.std.specs.Prelude.{cond, nat_le, nat_lt}
use Rattle.std.proofs.Math.Nat.{max-eq_left}
use Rattle.std.proofs.lemmas.Bool.{le-leb, ltb-false}
use Rattle.std.proofs.lemmas.List.{append-nil, drop-append-le}
use Rattle.std.proofs.lemmas.Option.{none-some}
use Rattle.loader.specs.CatalogueView.{CatalogueView, longest_part, sizes_for}
use Rattle.oplog.specs.History.{History, after}
use Rattle.oplog.specs.Logs.{Log as LogView, tail_of}
use Rattle.oplog.specs.declared.configuration.Sizes.{Sizes}
use Rattle.ownlock.specs.Seats.{At}
use Rattle.combiner.specs.Desks.{BatchView, DeskView, replied}
use Rattle.replica.specs.StoreMeaning.{store_meaning, AreUpdates}
use Rattle.replica.specs.Views.{RepliesView}
use Rattle.accounts.specs.declared.sessions.Progress.{Progress}
use Rattle.accounts.specs.Accounts.{Extends, IsWellFormed}
use Rattle.accounts.specs.Moves.{raised}
use Rattle.accounts.proofs.Export.{at_behind, at_of, state_on}
use Rattle.node.specs.Answering.{answered_batch}
use Rattle.node.specs.Following.{copied, grown, has_next, is_above, may_append, may_rebase, no_records, rebased, reclaimed, replayed, replies_after, replies_for, to_run, told}
use Rattle.node.specs.Seen.{Goes, Ends, Does, OthersDo, moved_on}
use Rattle.node.specs.Steps.{NodeStep, Appends, Replays, Finishes, Reclaims, Rebases, Replies, Seen, batch_after, may, next}
use Rattle.node.proofs.Export.{goes_on}
use Rattle.node.specs.declared.following.NodeReplica.{NodeReplica}
use Rattle.node.specs.declared.parts.NodeBatch.{NodeBatch}
use Rattle.node.specs.declared.parts.NodeBatch.TheVariants.{Absent, Held, InLog}
use Rattle.store_steps.specs.Standing.{Agrees, Follows, IsLogOf}
use Rattle.store_steps.specs.Whole.{CatchUp, Stayed, Applied, Completed, AppliedAndCompleted, catch_up_steps, rebase_steps, sees}
use Rattle.store_steps.proofs.Exchanged.{no_more, plus_none}
use Rattle.store_steps.proofs.Places.{drop_all, long_drop}

abbrev L : Type 0
L = Progress CatalogueView

-- ---- what others do

-- the log with this base, once the progress is this
abbrev pub later : L → LogView → LogView
later l g = record g { records = drop g.base l.history }

-- records are added, and the base stays
stays : (c : CatalogueView) (g : LogView) (adds : History) (done : ℕ) → moved_on c adds g.base done g ≡ record g { records = g.records ++ adds; done = done }
stays c g adds done = ap (λ z. (let rs = g.records ++ adds in let moved : LogView = record g { base_state = after store_meaning c g.base_state (take z rs); records = drop z rs; done = done } in moved)) (no_more g.base)

-- the log of a progress keeps within the limit that the progress keeps within
within_limit : (l : L) (g : LogView) → IsLogOf l g → IsWellFormed store_meaning l → tail_of g ≤ g.limit
within_limit l g is well = let tail = is.tail in let limit = is.sizes.1 in let few = well.limit in omega (arith, tail, limit, few)

module _ (l m : L) (g : LogView) (is : IsLogOf l g) (grows : Extends l m) where
  base_low : g.base ≤ length l.history
  base_low = let t = is.tail in omega (arith, t)

  later_records : drop g.base m.history ≡ g.records ++ grows.history.0
  later_records = ap (drop g.base) grows.history.1 ∙ (drop-append-le g.base l.history grows.history.0 base_low ∙ ap (λ z. z ++ grows.history.0) (sym is.agrees.records))

  later_tail : tail_of (later m g) ≡ length m.history
  later_tail =
      let long = ap length later_records ∙ length-append g.records grows.history.0 in
      let all = ap length grows.history.1 ∙ length-append l.history grows.history.0 in
      let t = is.tail in
      omega (arith, long, all, t)

  pub later_is : IsLogOf m (later m g)
  later_is =
      let done = is.agrees.done in let rise = grows.completed in record {
        agrees = record {
          done = omega (arith, done, rise);
          base = is.agrees.base;
          base_state = is.agrees.base_state ∙ state_on store_meaning l m g.base grows base_low;
          records = refl;
        };
        tail = later_tail;
        sizes = (is.sizes.0 ∙ ap (λ (z : Sizes). z.window) grows.config, is.sizes.1 ∙ ap (λ (z : Sizes). z.limit) grows.config, is.sizes.2 ∙ ap sizes_for grows.catalogue, is.sizes.3 ∙ ap longest_part grows.catalogue);
      }

  -- what was added to the history are updates
  adds_updates : IsWellFormed store_meaning m → AreUpdates m.catalogue grows.history.0
  adds_updates well k r e = well.allowed (length l.history + k) r (subst (At (length l.history + k) r) (sym grows.history.1) (at_behind l.history grows.history.0 k r (at_of grows.history.0 k r e)))

  pub others : IsWellFormed store_meaning m → (c : CatalogueView) → c ≡ m.catalogue → (n : NodeReplica) (b : NodeBatch) (d : DeskView) → OthersDo c (sees l g n b d) (sees m (later m g) n b d)
  others well c same n b d =
      let done = is.agrees.done in let base = is.agrees.base in let rise = grows.completed in let tail = later_tail in let low = well.completed in record {
        adds = grows.history.0;
        updates = subst (λ z. AreUpdates z grows.history.0) (sym same) (adds_updates well);
        base = omega arith;
        done = rise;
        within = within_limit m (later m g) later_is well;
        log = ap (λ z. (let h : LogView = record g { records = z; done = m.completed } in h)) later_records ∙ sym (stays c (record g { done = l.completed }) grows.history.0 m.completed);
        reclaimed = omega (arith, base, done, rise);
        completed = omega (arith, low, tail);
        own = refl;
        batch = refl;
        claimed = refl;
      }

  -- where the history stands still, so does the log
  pub still_log : l.history ≡ m.history → later m g ≡ g
  still_log same = λ i. record g { records = (ap (drop g.base) (sym same) ∙ sym is.agrees.records) i }

-- ---- single steps

abbrev pub if_any : Bool → NodeStep → List NodeStep
if_any q step = cond q (step ∷ []) []

-- a step, if it may be taken; else what is seen is the same
pub if_may : (c : CatalogueView) (step : NodeStep) (s t : Seen) (q : Bool) → may step s ≡ q → (q ≡ true → t ≡ next c step s) → (q ≡ false → t ≡ s) → Goes c s (if_any q step) t
if_may c step s t true e does stays = Does step s t [] e (subst (λ z. Goes c z [] t) (does refl) (Ends t))
if_may c step s t false e does stays = subst (λ z. Goes c s [] z) (sym (stays refl)) (Ends s)

one_step : (c : CatalogueView) (step : NodeStep) (s t : Seen) → may step s ≡ true → t ≡ next c step s → Goes c s (step ∷ []) t
one_step c step s t e is = Does step s t [] e (subst (λ z. Goes c z [] t) is (Ends t))

-- a replica that is behind the base becomes it
pub rebase_step : (c : CatalogueView) (l : L) (g : LogView) (n m : NodeReplica) (b : NodeBatch) (d : DeskView) → (may_rebase g n ≡ true → m ≡ rebased g n) → (may_rebase g n ≡ false → m ≡ n)
    → Goes c (sees l g n b d) (rebase_steps g n) (sees l g m b d)
rebase_step c l g n m b d behind above = if_may c Rebases (sees l g n b d) (sees l g m b d) (may_rebase g n) refl (λ e. ap (λ z. sees l g z b d) (behind e)) (λ e. ap (λ z. sees l g z b d) (above e))

-- a replica whose hand gets no record, and applies what is there, stays as it is
abbrev ran : CatalogueView → NodeReplica → History → NodeReplica
ran c n rs = replayed c (record n { hand = record n.hand { begin = n.replica.tail; records = rs } })

ran_none : (c : CatalogueView) (n : NodeReplica) → n.hand.begin ≡ n.replica.tail → n.hand.records ≡ [] → ran c n [] ≡ n
ran_none c n begins empty = λ i. record {
  replica = record { tail = (plus_none n.replica.tail) i; state = n.replica.state };
  hand = record { begin = (plus_none n.replica.tail ∙ sym begins) i; records = (sym empty) i; window = n.hand.window; long = n.hand.long };
}

-- a replica with an empty hand applies what the log has and it lacks
module _ (c : CatalogueView) (l : L) (g : LogView) (n m : NodeReplica) (above : is_above g n ≡ true) (f : Follows l n) (ran_all : m ≡ replayed c (copied g n)) where
  next_is : has_next g n ≡ nat_lt n.replica.tail (tail_of g)
  next_is = ap (λ z. not (no_records z) || (is_above g n && nat_lt n.replica.tail (tail_of g))) f.empty ∙ ap (λ z. z && nat_lt n.replica.tail (tail_of g)) above

  none_next : has_next g n ≡ false → m ≡ n
  none_next e =
      let all = ltb-false n.replica.tail (tail_of g) (sym next_is ∙ e) in
      ran_all ∙ (ap (ran c n) (drop_all (n.replica.tail - g.base) g.records (omega (arith, all))) ∙ ran_none c n f.begins f.empty)

  abbrev taken : History → NodeReplica
  taken rs = record n { hand = record n.hand { begin = n.replica.tail; records = to_run g n.replica.tail rs } }

  pub follow_step : (b : NodeBatch) (d : DeskView) → ((x : NodeReplica) → batch_after c x b ≡ b) → Goes c (sees l g n b d) (if_any (has_next g n) Replays) (sees l g m b d)
  follow_step b d same = if_may c Replays (sees l g n b d) (sees l g m b d) (has_next g n) refl
      (λ e. (λ i. sees l g ((ran_all ∙ ap (λ z. replayed c (taken z)) (sym f.empty)) i) ((sym (same (taken n.hand.records))) i) d))
      (λ e. ap (λ z. sees l g z b d) (none_next e))

-- what the replica has applied is completed, if it is not yet
pub finish_step : (c : CatalogueView) (before l : L) (g : LogView) (n : NodeReplica) (b : NodeBatch) (d : DeskView) → l ≡ raised before n.replica.tail → Goes c (sees before g n b d) (if_any (nat_lt before.completed n.replica.tail) Finishes) (sees l g n b d)
finish_step c before l g n b d is = if_may c Finishes (sees before g n b d) (sees l g n b d) (nat_lt before.completed n.replica.tail) refl
    (λ e. ap (λ z. sees z g n b d) is)
    (λ e. let low = ltb-false before.completed n.replica.tail e in
    ap (λ z. sees z g n b d) is ∙ ap (λ z. (let l : L = record before { completed = z } in sees l g n b d)) (max-eq_left low))

-- the replica catches up: a step applies what it lacks, or none does; a step completes that, or none does
abbrev pub caught : (applies completes : Bool) → CatchUp
caught false false = Stayed
caught true false = Applied
caught false true = Completed
caught true true = AppliedAndCompleted

pub catches_up : (c : CatalogueView) (s t u : Seen) (applies completes : Bool) → Goes c s (if_any applies Replays) t → Goes c t (if_any completes Finishes) u → Goes c s (catch_up_steps (caught applies completes)) u
catches_up c s t u false false first last = goes_on first last
catches_up c s t u true false first last = goes_on first last
catches_up c s t u false true first last = goes_on first last
catches_up c s t u true true first last = goes_on first last

-- the replica becomes the base
pub reclaim_step : (c : CatalogueView) (l : L) (g : LogView) (n : NodeReplica) (b : NodeBatch) (d : DeskView) → g.base < n.replica.tail → n.replica.tail ≤ l.completed → Goes c (sees l g n b d) (Reclaims ∷ []) (sees l (reclaimed n (told n g)) n b d)
reclaim_step c l g n b d past done = one_step c Reclaims (sees l g n b d) _
    (ap (λ z. z && nat_le n.replica.tail l.completed) (le-leb (suc g.base) n.replica.tail (omega (arith, past))) ∙ le-leb n.replica.tail l.completed done) refl

-- the batch is appended
pub append_step : (c : CatalogueView) (l : L) (g h : LogView) (n m : NodeReplica) (b : BatchView) (kept : RepliesView) (rs : History) (d : DeskView) → b.records ≡ rs → may_append rs g n ≡ true → h ≡ grown rs g → m ≡ copied h n → kept ≡ replies_for rs g
    → Goes c (sees l g n (Held b) d) (Appends ∷ []) (sees l h m (InLog (record { batch = b; replies = kept })) d)
append_step c l g h n m b kept rs d same may log own replies =
    let log_is : h ≡ grown b.records g = log ∙ ap (λ z. grown z g) (sym same) in
    let own_is : m ≡ copied (grown b.records g) n = own ∙ ap (λ z. copied z n) log_is in
    let replies_is : kept ≡ replies_for b.records g = replies ∙ ap (λ z. replies_for z g) (sym same) in
    one_step c Appends (sees l g n (Held b) d) _ (ap (λ z. may_append z g n) same ∙ may) (λ i. sees l (log_is i) (own_is i) (InLog (record { batch = b; replies = replies_is i })) d)

module _ (c : CatalogueView) (l : L) (g : LogView) (n m : NodeReplica) (b : BatchView) (old new : RepliesView) (d : DeskView) (begins : n.hand.begin ≡ n.replica.tail) (own : m ≡ replayed c n) (kept : new ≡ replies_after c n old) where
  abbrev seen : NodeReplica → RepliesView → Seen
  seen x y = sees l g x (InLog (record { batch = b; replies = y })) d

  some_step : (rs : History) → n.hand.records ≡ rs → Goes c (seen n old) (if_any (not (no_records rs)) Replays) (seen m new)
  some_step [] e =
      let own_is : m ≡ n = own ∙ (λ i. replayed c (record n { hand = record n.hand { begin = begins i; records = e i } })) ∙ ran_none c n begins e in
      let new_is : new ≡ old = kept ∙ ap (λ z. replies_after c (record n { hand = record n.hand { records = z } }) old) e in
      subst (λ z. Goes c (seen n old) [] z) (λ i. seen (sym own_is i) (sym new_is i)) (Ends (seen n old))
  some_step (r ∷ rs) e =
      let with_is : n ≡ record n { hand = record n.hand { begin = n.replica.tail; records = to_run g n.replica.tail n.hand.records } } =
      (λ i. record n { hand = record n.hand { begin = begins i; records = (e ∙ ap (to_run g n.replica.tail) (sym e)) i } }) in
      one_step c Replays (seen n old) _ (ap (λ z. not (no_records z) || (is_above g n && nat_lt n.replica.tail (tail_of g))) e)
      (λ i. seen ((own ∙ ap (replayed c) with_is) i) ((kept ∙ ap (λ z. replies_after c z old) with_is) i))

  pub replay_step : Goes c (seen n old) (if_any (not (no_records n.hand.records)) Replays) (seen m new)
  replay_step = some_step n.hand.records refl

-- the answers are handed over
pub reply_step : (c : CatalogueView) (l : L) (g : LogView) (n : NodeReplica) (b : BatchView) (kept : RepliesView) (d : DeskView) → n.hand.records ≡ [] → n.replica.tail ≤ l.completed
    → Goes c (sees l g n (InLog (record { batch = b; replies = kept })) d) (Replies ∷ []) (sees l g n Absent (replied (answered_batch kept b) d))
reply_step c l g n b kept d empty done = one_step c Replies (sees l g n (InLog (record { batch = b; replies = kept })) d) _
    (ap (λ z. no_records z && nat_le n.replica.tail l.completed) empty ∙ le-leb n.replica.tail l.completed done) refl

-- ---- what stays

-- the log that the session put back stays, while others complete more
pub others_complete : (c : CatalogueView) (l m : L) (g : LogView) (n : NodeReplica) (b : NodeBatch) (d : DeskView) → l.completed ≤ m.completed → IsLogOf m g → IsWellFormed store_meaning m → OthersDo c (sees l g n b d) (sees m g n b d)
others_complete c l m g n b d rise is well =
    let done = is.agrees.done in let base = is.agrees.base in let tail = is.tail in let low = well.completed in record {
      adds = [];
      updates = λ k r e. absurd (none-some r e);
      base = omega arith;
      done = rise;
      within = within_limit m g is well;
      log = sym (stays c (record g { done = l.completed }) [] m.completed ∙ ap (λ z. (let h : LogView = record g { records = z; done = m.completed } in h)) (append-nil g.records));
      reclaimed = omega (arith, base, done);
      completed = omega (arith, low, tail);
      own = refl;
      batch = refl;
      claimed = refl;
    }

-- a replica that agrees agrees later too
pub agrees_on : (l m : L) (n : NodeReplica) → Extends l m → n.replica.tail ≤ length l.history → Agrees l n → Agrees m n
agrees_on l m n grown within a =
    let tail = a.0.tail in let rise = grown.completed in (
      record { tail = omega (arith, tail, rise); state = a.0.state ∙ state_on store_meaning l m n.replica.tail grown within },
      (a.1.0 ∙ ap sizes_for grown.catalogue, a.1.1 ∙ (λ i. record { begin = n.replica.tail; records = []; window = (ap (λ (z : Sizes). z.window) grown.config) i; long = (ap longest_part grown.catalogue) i })),
    )

-- the log whose base is the replica
abbrev pub log_from : L → NodeReplica → LogView
log_from l n = record { base = n.replica.tail; base_state = n.replica.state; records = drop n.replica.tail l.history; done = l.completed; window = l.config.window; long = longest_part l.catalogue; limit = l.config.limit }

pub log_from_is : (l : L) (n : NodeReplica) → l.completed ≤ length l.history → Agrees l n → IsLogOf l (log_from l n)
log_from_is l n low a =
    let tail = a.0.tail in record {
      agrees = record { done = omega arith; base = tail; base_state = a.0.state; records = refl };
      tail = long_drop n.replica.tail l.history (omega (arith, tail, low));
      sizes = (refl, refl, a.1.0, refl);
    }
