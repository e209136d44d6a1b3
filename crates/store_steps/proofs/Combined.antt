-- What was appended and replayed are the answers of the batch, and these are handed over.
use Rattle.std.proofs.Common.{◌≡◌, ℕ, ◌+◌, ◌<◌, ◌≤◌, List, [], ◌∷◌, map, length, sym, refl, ap, ◌∙◌, subst, arith, ⊎_elim, Some, slice_get}
use Rattle.std.proofs.lemmas.Bool.{cases_lt}
use Rattle.std.proofs.lemmas.Option.{same_Some}
use Rattle.ownlock.specs.Seats.{At}
use Rattle.machine.specs.declared.running.Outcome.{Outcome}
use Rattle.oplog.specs.declared.configuration.Sizes.{Sizes}
use Rattle.oplog.specs.declared.records.Record.{Record}
use Rattle.oplog.specs.History.{History, reply_at}
use Rattle.combiner.specs.Desks.{BatchView, DeskView, replied}
use Rattle.combiner.specs.declared.slots.Reply.{Reply}
use Rattle.combiner.specs.declared.slots.Reply.TheVariants.{Placed, Ended}
use Rattle.replica.specs.StoreMeaning.{store_meaning}
use Rattle.replica.specs.Views.{RepliesView}
use Rattle.node.specs.Answering.{answered_batch, HaveRun}
use Rattle.node.proofs.Export.{answers_placed, answers_ended, get_some}
use Rattle.accounts.specs.declared.sessions.Claim.{Claim}
use Rattle.accounts.specs.declared.sessions.SessionNote.{SessionNote}
use Rattle.accounts.specs.Accounts.{Accounts, Extends}
use Rattle.accounts.specs.Batches.{Ascend}
use Rattle.accounts.specs.DeskSteps.{Gives}
use Rattle.accounts.specs.Moves.{placed_from, record_of, unplaced}
use Rattle.accounts.proofs.Export.{at_below, placed_back, at_there, reply_on}
use Rattle.store_steps.specs.declared.values.Value.{Value}
use Rattle.store_steps.specs.AtDesk.{IsReady}
use Rattle.store_steps.specs.Combining.{HasCombined}
use Rattle.node.specs.declared.following.NodeReplica.{NodeReplica}
use Rattle.store_steps.specs.Standing.{SessionKnown, HasAppended, HasReplayed, Stands}
use Rattle.store_steps.proofs.Batched.{at_unplaced, long_placed, long_unplaced, records_of_placed, records_of_unplaced}
use Rattle.store_steps.proofs.Finished.{Back, reply_kept}
use Rattle.store_steps.proofs.StoreLaws.{store_laws}
use Rattle.store_steps.specs.declared.steps.Caller.{Caller}
use Rattle.store_steps.specs.Lending.{desk_of, with_desk}
use Rattle.store_steps.specs.Visits.{HasDesk}
use Rattle.accounts.specs.DeskNotes.{RepliedThere}
use Rattle.store_steps.proofs.AtDesk.{reply_steps}
use Rattle.store_steps.proofs.Parts.{desk_put}
use Rattle.store_steps.proofs.Taken.{TookReplica}
use Rattle.store_steps.proofs.TakenDesk.{BackDesk, PutsDesk, puts_desk, same_desk}

abbrev K : Type 0
K = SessionKnown

-- ---- a batch that is ready stays so

pub ready_on : (k t : K) (b : BatchView) (kept : RepliesView) (ns : List SessionNote) → t.note ≡ k.note → Extends k.progress t.progress → Stands k → Accounts store_meaning t.progress ns → IsReady k b kept → IsReady t b kept
ready_on k t b kept ns note grown stands w r = record {
  some = subst (λ (n : SessionNote). 0 < length n.batch) (sym note) r.some;
  records = r.records ∙ ap (λ (n : SessionNote). map record_of n.batch) (sym note);
  ascend = r.ascend;
  within = r.within;
  run = r.run;
  gives = λ j c reply at o. gives_on c reply (r.gives j c reply (subst (λ (n : SessionNote). At j c n.batch) note at) o);
}
  where
    gives_on : (c : Claim) (reply : Reply) → Gives store_meaning k.progress c reply → Gives store_meaning t.progress c reply
    gives_on c (Placed i x) g =
        let lt = g.1 in let up = grown.completed in let low = stands.accounts.completed in
        (g.0, omega (arith, lt, up), sym (reply_on store_meaning k.progress t.progress i c.request.op grown (omega (arith, lt, low))) ∙ g.2)
    gives_on c Ended g =
        let at = g.1 in let up = grown.completed in let same = ap (λ (z : Sizes). z.limit) grown.config in let top = w.limit in let end = w.completed in
        (g.0, omega (arith, at, up, same, top, end))

-- ---- from what was appended and replayed to the answers

-- the session t has its replica, a once the records were appended, r once they are replayed
module _ (t a r : K) (rs : History) (old : RepliesView) (n m : NodeReplica) (new : RepliesView) (h : HasAppended t a rs old n) (c : HasReplayed a r n m old new) where
  reply_of : (j : ℕ) (q : Record) → j < length old.outcomes → At j q rs → (o : Outcome) × (slice_get new.outcomes j ≡ Some (Some o)) × (reply_at store_meaning a.progress.catalogue a.progress.history (old.first + j) q.op ≡ Some o.reply)
  reply_of j q lt at = let low = h.above in reply_kept a q j (old.first + j) n.replica.tail old new (h.placed j q lt at) (omega (arith, low)) refl lt c.replies

  module _ (f : K) (end : Back r f) (b : BatchView) (records : b.records ≡ rs) (some : 0 < length rs) (ascend : Ascend rs) where
    abbrev placed : List Claim
    placed = placed_from old.first (length old.outcomes) (unplaced rs)

    batch : f.note.batch ≡ placed
    batch = ap (λ (n : SessionNote). n.batch) (end.note ∙ (c.note ∙ h.note))

    to_f : Extends a.progress f.progress
    to_f = store_laws.extends_on a.progress r.progress f.progress c.goes.extends end.extends

    run : HaveRun new b
    run j lt below =
        let count = c.count in let long = ap length records in
        let q = at_there rs j (omega (arith, below, long)) in
        let o = reply_of j q.0 (omega (arith, lt, count)) q.1 in
        (o.0, o.1)

    gives : (j : ℕ) (u : Claim) (reply : Reply) → At j u placed → slice_get (answered_batch new b).answers j ≡ Some (Some reply) → Gives store_meaning f.progress u reply
    gives j u reply at set = ⊎_elim
        (λ has. let o = reply_of j u.request has there in subst (Gives store_meaning f.progress u) (sym (same (Placed (new.first + j) o.0.reply) (answers_placed b.records new.outcomes new.first j q.0 (Some o.0) q.1 o.1))) (given has))
        (λ late. let count = c.count in subst (Gives store_meaning f.progress u) (sym (same Ended (answers_ended b.records new.outcomes new.first j q.0 q.1 (omega (arith, late, count))))) (ended late))
        (cases_lt j (length old.outcomes))
      where
        p : (x : Claim) × At j x (unplaced rs) × (u.request ≡ x.request) × ((j < length old.outcomes) → u.index ≡ Some (old.first + j)) × ((length old.outcomes ≤ j) → u.index ≡ x.index)
        p = placed_back old.first (length old.outcomes) (unplaced rs) j u at

        there : At j u.request rs
        there = subst (λ z. At j z rs) (sym p.2) (at_unplaced rs j p.0 p.1).0

        q : (x : Record) × (slice_get b.records j ≡ Some x)
        q = let short = at_below rs j u.request there in let long = ap length records in get_some b.records j (omega (arith, short, long))

        same : (x : Reply) → slice_get (answered_batch new b).answers j ≡ Some (Some x) → reply ≡ x
        same x e = same_Some reply x (same_Some (Some reply) (Some x) (sym set ∙ e))

        given : (has : j < length old.outcomes) → Gives store_meaning f.progress u (Placed (new.first + j) (reply_of j u.request has there).0.reply)
        given has =
            let o = reply_of j u.request has there in
            let here : old.first + j ≡ new.first + j = ap (λ z. z + j) (sym c.first) in
            let below = at_below a.progress.history (old.first + j) u.request (h.placed j u.request has there) in
            let done = c.completed in
            let up = end.extends.completed in (
              p.3 has ∙ ap Some here,
              omega (arith, below, done, up, here),
              ap (λ z. reply_at store_meaning f.progress.catalogue f.progress.history z u.request.op) (sym here) ∙ (sym (reply_on store_meaning a.progress f.progress (old.first + j) u.request.op to_f (omega (arith, below))) ∙ o.2),
            )

        ended : length old.outcomes ≤ j → Gives store_meaning f.progress u Ended
        ended late =
            let short = at_below rs j u.request there in
            let full = h.ended (omega (arith, late, short)) in
            let done = c.completed in
            let up = end.extends.completed in
            let same = ap (λ (z : Sizes). z.limit) to_f.config in
            let top = end.stands.accounts.limit in
            let low = end.stands.accounts.completed in
            (p.4 late ∙ (at_unplaced rs j p.0 p.1).1, omega (arith, full, done, up, same, top, low))

    pub ready : IsReady f b new
    ready = record {
      some = subst (λ z. 0 < length z) (sym batch) (let long = long_placed old.first (length old.outcomes) (unplaced rs) ∙ long_unplaced rs in omega (arith, long, some));
      records = records ∙ (sym (records_of_unplaced rs) ∙ (sym (records_of_placed old.first (length old.outcomes) (unplaced rs)) ∙ ap (λ z. map record_of z) (sym batch)));
      ascend = subst Ascend (sym records) ascend;
      within = let first = c.first in let count = c.count in let top = h.within in omega (arith, first, count, top);
      run = run;
      gives = λ j u reply at. gives j u reply (subst (λ z. At j u z) batch at);
    }

    module _ (k : K) (p : ℕ) (x : Value) (took : TookReplica p k t x) where
      pub from_k : Extends k.progress f.progress
      from_k = store_laws.extends_on k.progress t.progress f.progress took.extends (store_laws.extends_on t.progress a.progress f.progress h.goes.extends to_f)

      pub session_is : f.session ≡ k.session
      session_is = end.session ∙ (c.goes.session ∙ (h.goes.session ∙ took.session))

-- ---- the answers are handed over

pub handed : (k t z : K) → t.note ≡ k.note → BackDesk k z (record t.note { batch = [] }) → HasCombined k z
handed k t z note b = record { session = b.session; held = b.held; note = b.note ∙ ap (λ (n : SessionNote). record n { batch = [] }) note; extends = b.extends; stands = b.stands }

-- the desk x was lent, and is put back as y, which has the answers
pub puts_replied : (caller : Caller) (k t : K) (p : ℕ) (v : Value) (batch : BatchView) (kept : RepliesView) (b : HasDesk caller k t p v) → IsReady t batch kept → (answered : BatchView) (x y : DeskView) → desk_of v ≡ Some x → answered ≡ answered_batch kept batch → y ≡ replied answered x
    → (sessions : List K) → sessions ≡ t ∷ [] → PutsDesk k t sessions RepliedThere (with_desk v y) (record t.note { batch = [] }) p
puts_replied caller k t p v batch kept b ready answered x y lent set out sessions is =
    let same = same_desk caller k t p v b x lent in
    let replies : y ≡ replied (answered_batch kept batch) b.desk = out ∙ ap (λ z. replied z x) set ∙ ap (replied (answered_batch kept batch)) (sym same) in
    puts_desk caller k t p v b sessions is RepliedThere (with_desk v y) y (record t.note { batch = [] }) (desk_put v x y lent) (reply_steps t batch kept ready b.desk y replies) refl p refl
