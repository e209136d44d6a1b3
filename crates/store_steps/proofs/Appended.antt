-- Records of the session's batch are appended to a log that has room for them, and the log is put back.
use Rattle.std.proofs.Common.{set, true, Some, ◌&&◌, ◌≡◌, ℕ, ◌+◌, ◌<◌, ◌≤◌, min, List, [], ◌∷◌, ◌++◌, map, length, length-append, take, drop, sym, refl, ap, ◌∙◌, subst, arith, ⊎_elim}
use Rattle.std.specs.Global.{Box}
use Rattle.std.proofs.lemmas.Bool.{cases_lt, le-leb}
use Rattle.std.proofs.lemmas.Option.{none-some, same_Some}
use Rattle.std.proofs.lemmas.List.{length-replicate, length-take-le}
use Rattle.std.specs.Prelude.{nat_le}
use Rattle.std.proofs.Math.Nat.{min-le_left, min-le_right, min-eq_left, min-eq_right}
use lib.ListN.{get_elem?}
use Rattle.loader.specs.StoreState.{sizes_of}
use Rattle.ownlock.specs.Rules.{leader}
use Rattle.ownlock.specs.Seats.{At, without, tails_in, Continues, Run as RunOf}
use Rattle.ownlock.specs.Knowledge.{Possible}
use Rattle.loader.specs.CatalogueView.{CatalogueView}
use Rattle.oplog.specs.declared.configuration.Sizes.{Sizes}
use Rattle.oplog.specs.History.{History, state_after}
use Rattle.oplog.specs.declared.configuration.TheConstants.{ENDLESS}
use Rattle.oplog.specs.Logs.{Log as LogView, left_of, room_in, tail_of}
use Rattle.replica.specs.StoreMeaning.{store_meaning}
use Rattle.accounts.specs.declared.sessions.Progress.{Progress}
use Rattle.accounts.specs.declared.sessions.SessionNote.{SessionNote}
use Rattle.accounts.specs.Accounts.{Extends}
use Rattle.accounts.specs.DeskNotes.{Looked}
use Rattle.accounts.specs.LogSteps.{LogStep}
use Rattle.accounts.specs.Moves.{placed_from, record_of, unplaced}
use Rattle.accounts.specs.Putting.{KeepsSizes}
use Rattle.accounts.specs.Picks.{put_progress, put_note, IsPut}
use Rattle.accounts.proofs.Export.{batch_noted, tail_is, log_picks, log_picked, puts_account, at_behind}
use Rattle.node.specs.declared.following.NodeReplica.{NodeReplica}
use Rattle.store_steps.specs.declared.values.Value.{Value}
use Rattle.store_steps.specs.declared.values.Value.TheVariants.{Log, Replica, Desk}
use Rattle.store_steps.specs.Shelving.{view_of, IsSized, session_rules, session_noting, store_rules, log_value}
use Rattle.node.specs.Following.{grown, copied, may_append, replies_for, room_for}
use Rattle.replica.specs.Views.{RepliesView}
use Rattle.store_steps.specs.Lending.{log_of, with_log}
use Rattle.store_steps.specs.Standing.{SessionKnown, GoesOn, IsLogOf, HasOthers, HasPlace, HasAppended}
use Rattle.store_steps.proofs.StoreLaws.{session_laws, session_notes, store_laws}
use Rattle.store_steps.proofs.Batched.{at_taken, at_unplaced, long_unplaced, taken_unplaced}
use Rattle.store_steps.proofs.Taken.{TookLog}
use Rattle.store_steps.proofs.Followed.{above, has_others, follows_on}
use Rattle.store_steps.proofs.Finished.{Picked, put_back}

abbrev K : Type 0
K = SessionKnown

abbrev L : Type 0
L = Progress CatalogueView

-- there is room for what the history may have of the records
pub may : (t after : K) (g h : LogView) (n : NodeReplica) (rs : History) → HasPlace t after (length rs) g h n → may_append rs h n ≡ true
may t after g h n rs p = ap (λ b. b && nat_le (room_for rs h) (room_in h)) (above after.progress h n p.log p.follows p.above) ∙ le-leb (room_for rs h) (room_in h) p.room

-- the smaller of two numbers is the second, if it isn't the first
is_second : (a b : ℕ) → min a b < a → min a b ≡ b
is_second a b lt = ⊎_elim
    (λ low. min-eq_right (omega (arith, low)))
    (λ high. let same : min a b ≡ a = min-eq_left high in absurd (omega (arith, lt, same)))
    (cases_lt b a)

-- the session k has taken the log g and is t then, and m once there is room; the records rs were appended to h, which gave h2
module _ (k t m : K) (n0 : NodeReplica) (g : Box LogView) (h : LogView) (h2 : Box LogView) (n n2 : NodeReplica) (rs : History) (kept : RepliesView) (b : TookLog k t n0 (Log g)) (p : HasPlace t m (length rs) g.value h n)
    (x : (h2.value ≡ grown rs h) × (n2 ≡ copied h2.value n) × (kept ≡ replies_for rs h) × (tail_of h2.value ≤ ENDLESS)) (noted : k.note.batch ≡ unplaced rs) (sessions : List K) (is : sessions ≡ m ∷ []) where
  at_log : At 0 (0, Log g) m.held
  at_log = ap (λ z. get_elem? z 0) (p.goes.held ∙ b.held)

  note_is : m.note ≡ k.note
  note_is = p.note ∙ b.note

  batch : m.note.batch ≡ unplaced rs
  batch = ap (λ (z : SessionNote). z.batch) note_is ∙ noted

  from_k : Extends k.progress m.progress
  from_k = store_laws.extends_on k.progress t.progress m.progress b.extends p.goes.extends

  keeps : KeepsSizes IsSized (Log g) (Log h2)
  keeps config c s =
      (ap (λ (z : LogView). z.window) x.0 ∙ (p.keeps.0 ∙ s.0), ap (λ (z : LogView). z.limit) x.0 ∙ (p.keeps.1 ∙ s.1), ap (λ (z : LogView). sizes_of z.base_state) x.0 ∙ (p.keeps.2 ∙ s.2), ap (λ (z : LogView). z.long) x.0 ∙ (p.keeps.3 ∙ s.3))

  -- ---- what is appended

  abbrev count : ℕ
  count = length kept.outcomes

  count_is : count ≡ room_for rs h
  count_is = ap (λ z. length z.outcomes) x.2 ∙ length-replicate (room_for rs h) _

  abbrev more : History
  more = map record_of (take count m.note.batch)

  more_is : more ≡ take count rs
  more_is = ap (λ z. map record_of (take count z)) batch ∙ taken_unplaced count rs

  count_low : count ≤ length rs
  count_low = let is = count_is in let low = min-le_left (length rs) (left_of h) in omega (arith, is, low)

  long_more : length more ≡ count
  long_more = ap length more_is ∙ length-take-le count rs count_low

  first_is : kept.first ≡ length m.progress.history
  first_is = ap (λ z. z.first) x.2 ∙ p.log.tail

  in_limit : length m.progress.history + count ≤ m.progress.config.limit
  in_limit =
      let is = count_is in let low = min-le_right (length rs) (left_of h) in let tail = p.log.tail in let limit = p.log.sizes.1 in let within = p.well.limit in
      omega (arith, is, low, tail, limit, within)

  step : LogStep store_meaning m.progress m.note (log_value h) count (log_value h2.value)
  step = record {
    unplaced = λ j c at. (at_unplaced rs j c (subst (λ z. At j c z) batch at)).1;
    count = let long = ap length batch ∙ long_unplaced rs in let low = count_low in omega (arith, long, low);
    limit = let long = length-append m.progress.history more in let add = long_more in let top = in_limit in omega (arith, long, add, top);
    log = record {
      done = let same = ap (λ (z : LogView). z.done) x.0 in let low = p.log.agrees.done in omega (arith, same, low);
      base = let same = ap (λ (z : LogView). z.done) x.0 in let here = ap (λ (z : LogView). z.base) x.0 in let low = p.log.agrees.base in omega (arith, same, here, low);
      below = let here = ap (λ (z : LogView). z.base) x.0 in let tail = p.log.tail in omega (arith, here, tail);
      base_state = ap (λ (z : LogView). z.base_state) x.0 ∙ (p.log.agrees.base_state ∙ ap (λ z. state_after store_meaning m.progress.catalogue m.progress.history z) (sym (ap (λ (z : LogView). z.base) x.0)));
      records = ap (λ (z : LogView). z.records) x.0
          ∙ (ap (λ z. z ++ take (min (length rs) (left_of h)) rs) (p.log.agrees.records ∙ ap (λ z. drop z m.progress.history) (sym (ap (λ (z : LogView). z.base) x.0)))
          ∙ ap (λ z. drop h2.value.base m.progress.history ++ z) (ap (λ z. take z rs) (sym count_is) ∙ sym more_is));
    };
  }

  picked : Picked sessions (Log h2) m 0
  picked = log_picked session_laws view_of session_notes IsSized sessions m 0 (Log g) (Log h2) (log_value g.value) (log_value h2.value) more at_log refl refl keeps (batch_noted store_meaning view_of IsSized Looked m.progress m.session m.note (log_value h) (log_value h2.value) count step) step.log is

  -- ---- what is put back

  module _ (l : L) (ns : List SessionNote) (may : Possible store_rules m l ns) (run : RunOf L SessionNote Value) (on : Continues m.run run) where
    abbrev f : K
    f = put_back sessions (Log h2) m 0 l run

    put : IsPut store_meaning session_rules session_noting view_of IsSized 0 (Log h2) m f
    put = puts_account session_laws view_of session_notes IsSized (put_progress sessions (view_of (Log h2))) (put_note session_noting sessions (view_of (Log h2))) m 0 (Log h2) l ns run picked may on

    log_f : IsLogOf f.progress h2.value
    log_f =
        let agree = (picked.3 l ns may).1 in
        let it = (session_laws.agrees 0 f.progress (set ns m.session (put_note session_noting sessions (view_of (Log h2)) m.note)) (view_of (Log h2)) agree.0).1 in
        record { agrees = it; tail = tail_is store_meaning f.progress (log_value h2.value) put.accounts.completed it; sizes = agree.1 }

    rest : HasOthers f.progress n2
    rest =
        let above = p.above in
        let base = ap (λ (z : LogView). z.base) x.0 in
        let top = x.3 in
        let tail = log_f.tail in
        subst (HasOthers f.progress) (sym x.1) (has_others f.progress h2.value n log_f (follows_on m.progress f.progress n put.extends p.follows) (omega (arith, above, base)) (omega (arith, top, tail)))

    goes : GoesOn k f
    goes = record {
      session = put.session ∙ (p.goes.session ∙ b.session);
      held = put.held ∙ ap (λ z. without 0 z) (p.goes.held ∙ b.held);
      tails = ap tails_in put.steps.0 ∙ (p.goes.tails ∙ ap tails_in b.steps.0);
      extends = store_laws.extends_on k.progress m.progress f.progress from_k put.extends;
    }

    picks : (put_progress sessions (view_of (Log h2)) ≡ (λ l. record l { history = l.history ++ more })) × (put_note session_noting sessions (view_of (Log h2)) ≡ (λ n. session_noting.appended (length m.progress.history) more n))
    picks = log_picks session_laws view_of session_notes IsSized sessions m (Log h2) (log_value h2.value) more is refl step.log

    history : f.progress.history ≡ m.progress.history ++ take count rs
    history = ap (λ q. (q l).history) picks.0 ∙ (ap (λ z. z ++ more) (sym (may.0.1 0 (0, Log g) at_log refl)) ∙ ap (λ z. m.progress.history ++ z) more_is)

    long_history : length f.progress.history ≡ length m.progress.history + count
    long_history = ap length history ∙ (length-append m.progress.history (take count rs) ∙ ap (λ z. length m.progress.history + z) (length-take-le count rs count_low))

    put_log : IsLogOf f.progress h2.value × Extends m.progress f.progress
    put_log = (log_f, put.extends)

    note : f.note ≡ record k.note { batch = placed_from kept.first count (unplaced rs) }
    note = ap (λ q. q m.note) picks.1 ∙ (λ i. record (note_is i) { batch = placed_from (sym first_is i) (long_more i) (batch i) })

    has_appended : HasAppended k f rs kept n2
    has_appended = record {
      goes = goes;
      stands = record { notes = put.notes; accounts = put.accounts; here = put.here };
      rest = rest;
      count = count_low;
      last = let first = first_is in let long = long_history in omega (arith, first, long);
      within = let top = x.3 in let tail = log_f.tail in let long = long_history in let first = first_is in omega (arith, top, tail, long, first);
      above = let stays = ap (λ (z : NodeReplica). z.replica.tail) x.1 in let low = p.follows.within in let first = first_is in omega (arith, stays, low, first);
      note = note;
      placed = λ j r lt at. subst (λ z. At (kept.first + j) r z) (sym history) (subst (λ z. At (z + j) r (m.progress.history ++ take count rs)) (sym first_is) (at_behind m.progress.history (take count rs) j r (at_taken count rs j r lt at)));
      ended = λ lt.
          let all : count ≡ left_of h = count_is ∙ is_second (length rs) (left_of h) (let is = count_is in omega (arith, is, lt)) in
          let tail = p.log.tail in let limit = p.log.sizes.1 in let within = p.well.limit in let long = long_history in let same = ap (λ (z : Sizes). z.limit) put.extends.config in
          omega (arith, all, tail, limit, within, long, same);
    }

-- ---- the same of the value that the session took

module _ (k t m : K) (n0 : NodeReplica) (g h : LogView) (n n2 : NodeReplica) (rs : History) (kept : RepliesView) (noted : k.note.batch ≡ unplaced rs) (sessions : List K) (is : sessions ≡ m ∷ []) where
  pub put_appended : (x : Value) → log_of x ≡ Some g → TookLog k t n0 x → HasPlace t m (length rs) g h n → (h2 : LogView) → (h2 ≡ grown rs h) × (n2 ≡ copied h2 n) × (kept ≡ replies_for rs h) × (tail_of h2 ≤ ENDLESS) → (q : ℕ) → q ≡ leader → Picked sessions (with_log x h2) m q
  put_appended (Log g1) e b p h2 a q at =
      subst (λ z. Picked sessions (with_log (Log g1) h2) m z) (sym at) (picked k t m n0 g1 h (record g1 { value = h2 }) n n2 rs kept b (subst (λ z. HasPlace t m (length rs) z h n) (sym (same_Some g1.value g e)) p) a noted sessions is)
  put_appended (Replica x) e b p h2 a q at = absurd (none-some g e)
  put_appended (Desk x) e b p h2 a q at = absurd (none-some g e)

  pub back_appended : (x : Value) → log_of x ≡ Some g → TookLog k t n0 x → HasPlace t m (length rs) g h n → (h2 : LogView) → (h2 ≡ grown rs h) × (n2 ≡ copied h2 n) × (kept ≡ replies_for rs h) × (tail_of h2 ≤ ENDLESS) → (q : ℕ) → q ≡ leader
      → (l : L) (ns : List SessionNote) → Possible store_rules m l ns → (run : RunOf L SessionNote Value) → Continues m.run run → HasAppended k (put_back sessions (with_log x h2) m q l run) rs kept n2
  back_appended (Log g1) e b p h2 a q at l ns may run on =
      subst (λ z. HasAppended k (put_back sessions (with_log (Log g1) h2) m z l run) rs kept n2) (sym at) (has_appended k t m n0 g1 h (record g1 { value = h2 }) n n2 rs kept b (subst (λ z. HasPlace t m (length rs) z h n) (sym (same_Some g1.value g e)) p) a noted sessions is l ns may run on)
  back_appended (Replica x) e b p h2 a q at l ns may run on = absurd (none-some g e)
  back_appended (Desk x) e b p h2 a q at l ns may run on = absurd (none-some g e)

  -- the log that was put back is that of what the session knows then
  pub back_log : (x : Value) → log_of x ≡ Some g → TookLog k t n0 x → HasPlace t m (length rs) g h n → (h2 : LogView) → (h2 ≡ grown rs h) × (n2 ≡ copied h2 n) × (kept ≡ replies_for rs h) × (tail_of h2 ≤ ENDLESS) → (q : ℕ) → q ≡ leader
      → (l : L) (ns : List SessionNote) → Possible store_rules m l ns → (run : RunOf L SessionNote Value) → Continues m.run run → (let f = put_back sessions (with_log x h2) m q l run in IsLogOf f.progress h2 × Extends m.progress f.progress)
  back_log (Log g1) e b p h2 a q at l ns may run on =
      put_log k t m n0 g1 h (record g1 { value = h2 }) n n2 rs kept b (subst (λ z. HasPlace t m (length rs) z h n) (sym (same_Some g1.value g e)) p) a noted sessions is l ns may run on
  back_log (Replica x) e b p h2 a q at l ns may run on = absurd (none-some g e)
  back_log (Desk x) e b p h2 a q at l ns may run on = absurd (none-some g e)
