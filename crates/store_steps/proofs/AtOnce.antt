-- A session posts and has a turn in one hold of its desk: what it is between the two.
use Rattle.std.proofs.Common.{◌≡◌, ℕ, suc, ◌<◌, ◌^◌, length, refl, sym, ap, ◌∙◌, subst, Some, None}
use Rattle.std.specs.Option.{option_and_then, option_map}
use Rattle.atomic_table.proofs.Lists.{set_here}
use Rattle.ownlock.specs.Seats.{At}
use Rattle.oplog.specs.Operations.{Operation}
use Rattle.combiner.specs.Desks.{DeskView, answer_in, collected, posted, with_slot}
use Rattle.combiner.specs.Slots.{counted, slot as slot_with}
use Rattle.combiner.specs.declared.slots.Slot.{Slot}
use Rattle.combiner.specs.declared.slots.Stage.TheVariants.{Empty, Posted}
use Rattle.accounts.proofs.Export.{posted_is, at_below, get_of, some_none}
use Rattle.accounts.specs.declared.sessions.Pending.{Pending}
use Rattle.accounts.specs.declared.sessions.SessionNote.{SessionNote}
use Rattle.store_steps.specs.declared.steps.Caller.{Caller}
use Rattle.store_steps.specs.declared.values.Value.{Value}
use Rattle.store_steps.specs.AtDesk.{HasAsked}
use Rattle.ownlock.specs.Seats.{IsSession}
use Rattle.combiner.specs.Desks.{BatchView}
use Rattle.replica.specs.Views.{RepliesView}
use Rattle.store_steps.specs.declared.desks.Turn.{Turn}
use Rattle.store_steps.specs.declared.desks.Turn.TheVariants.{Collects, Combines, Waits}
use Rattle.store_steps.specs.AtDesk.{IsTurn}
use Rattle.store_steps.specs.AtOnce.{First, FoundNoAnswer, Gave, GivesAndTurns, HasGone, IsAlone, Looked, PostsAndTurns, StillWaits, Waited}
use Rattle.store_steps.specs.Combining.{HasAnswered, HasCombined}
use Rattle.store_steps.specs.Lending.{desk_of, with_desk}
use Rattle.store_steps.specs.Requests.{HasPosted, HasTurned}
use Rattle.store_steps.specs.Standing.{IsFree, SessionKnown, StoreSeat}
use Rattle.store_steps.specs.Updating.{Begins, Combines as CombinesIt, PostsBy, TurnsBy, Waits as WaitsIt}
use Rattle.store_steps.specs.Whole.{AnswersBy, HandsOver}
use Rattle.store_steps.specs.Visits.{PutsBack}
use Rattle.store_steps.specs.Shelving.{store_rules}
use Rattle.ownlock.specs.Knowledge.{Acquired}
use Rattle.ownlock.specs.Seats.{TookNext}
use Rattle.node.specs.Answering.{answered_batch}
use Rattle.store_steps.specs.declared.steps.Shared.{Shared}
use Rattle.store_steps.specs.Knowing.{IsOn}
use Rattle.store_steps.proofs.Parts.{desk_put, has_desk}
use Rattle.store_steps.proofs.Resumed.{free_back, free_then, has_claimed, resumed_combined, resumed_first, resumed_waited, shelf_then}
use Rattle.store_steps.proofs.Stretches.{combines_by}
use Rattle.store_steps.proofs.Tried.{combined_then}

abbrev K : Type 0
K = SessionKnown

-- ---- what was posted just now has no answer

pub posted_waits : (s : ℕ) (op : Operation) (x y : DeskView) → posted s op x ≡ Some y → collected s y ≡ None
posted_waits s op x y h =
    let p = posted_is s op x y h in
    let there = slot_with (Posted op) p.0.count in
    let at : At s there y.slots = subst (λ (z : DeskView). At s there z.slots) (sym p.3) (set_here x.slots s there (at_below x.slots s p.0 p.1)) in
    ap (option_and_then (λ (z : Slot). option_map (λ reply. record { reply = reply; desk = with_slot y s (slot_with Empty (counted reply z.count)) }) (answer_in z.stage))) (get_of y.slots s there at)

finds_none : (s : ℕ) (x z : DeskView) → collected s x ≡ None → (batch : BatchView) (turn : Turn) → IsTurn s x z batch turn → FoundNoAnswer turn
finds_none s x z none batch (Collects reply) t = some_none _ (collected s x) t none
finds_none s x z none batch Combines t = tt
finds_none s x z none batch Waits t = tt

pub no_answer : (s : ℕ) (op : Operation) (x y : DeskView) → posted s op x ≡ Some y → (v w : Value) → desk_of v ≡ Some x → w ≡ with_desk v y → (batch : BatchView) (turn : Turn) → ((u : DeskView) → desk_of w ≡ Some u → (z : DeskView) × IsTurn s u z batch turn)
    → FoundNoAnswer turn
no_answer s op x y h v w was is batch turn looks =
    let t = looks y (ap desk_of is ∙ has_desk (with_desk v y) y (desk_put v x y was)) in
    finds_none s y t.0 (posted_waits s op x y h) batch turn t.1

-- ---- behind a post

-- who has posted waits for the answer
pub asks : (k f : K) (op : Operation) → IsAlone k → (h : HasPosted k f op) → HasAsked f h.request
asks k f op a h = record {
  pending = ap (λ (n : SessionNote). n.pending) h.note;
  alone = ap (λ (n : SessionNote). n.batch) h.note ∙ a.alone;
  few = subst (λ (n : SessionNote). suc (length n.answered) < 2 ^ 64) (sym h.note) a.few;
}

-- ---- the same behind the answers of a batch

pub asks_still : (k f : K) (o : Pending) → StillWaits k o → HasCombined k f → HasAsked f o
asks_still k f o waits h = record {
  pending = ap (λ (n : SessionNote). n.pending) h.note ∙ waits.0;
  alone = ap (λ (n : SessionNote). n.batch) h.note;
  few = subst (λ (n : SessionNote). suc (length n.answered) < 2 ^ 64) (sym h.note) waits.1;
}

-- ---- a turn in the hold of a post, or of answers

module _ (caller : Caller) (p : ℕ) (v : Value) (now new : StoreSeat) (k between again : K) (took : Acquired store_rules p between again v) (next : TookNext between.run p v again) (batch : BatchView) (turn : Turn) where
  -- who had its desk again by the very step after that, and has had this turn there
  abbrev Turned : Pending → Type 0
  Turned o = (after : K) × IsSession new after × HasTurned between after o batch turn × TurnsBy between after batch turn × PutsBack again after

  pub posts_turn : (op : Operation) (posted : HasPosted k between op) → PostsBy k between op → Turned posted.request → PostsAndTurns now new k op batch turn
  posts_turn op posted posts f = record {
    asked = between;
    posted = posted;
    posts = posts;
    after = f.0;
    is = f.1;
    turned = f.2;
    turns = f.3;
    again = record { place = p; value = v; now = again; took = took; next = next; put = f.4 };
  }

  pub gives_turn : (o : Pending) (given : BatchView) (kept : RepliesView) → HasCombined k between → HandsOver caller.node k between given kept → Turned o → GivesAndTurns caller.node new k o given kept batch turn
  gives_turn o given kept has gives f = record {
    combined = between;
    has = has;
    gives = gives;
    after = f.0;
    is = f.1;
    turned = f.2;
    turns = f.3;
    again = record { place = p; value = v; now = again; took = took; next = next; put = f.4 };
  }

-- ---- turn after turn

-- who has claimed waits for its own answer still, and so does who has the answers of its batch
pub claimed_waits : (t : K) (o : Pending) (b : BatchView) (m : K) → HasTurned m t o b Combines → HasAsked m o
    → StillWaits t o
claimed_waits t o b m h a = (
  ap (λ (n : SessionNote). n.pending) h.turns.0
      ∙ a.pending,
  subst (λ (n : SessionNote). suc (length n.answered) < 2 ^ 64) (sym h.turns.0) a.few,
)

pub answered_waits : (t f : K) (o : Pending) (b : BatchView) (kept : RepliesView) → StillWaits t o
    → HasAnswered t f b kept → StillWaits f o
answered_waits t f o b kept waits e = (
  ap (λ (n : SessionNote). n.pending) e.note
      ∙ waits.0,
  subst (λ (n : SessionNote). suc (length n.answered) < 2 ^ 64) (sym e.note) waits.1,
)

pub still_waits : (t f : K) (o : Pending) (b : BatchView) (kept : RepliesView) (m : K) → HasTurned m t o b Combines → HasAsked m o → HasAnswered t f b kept → StillWaits f o
still_waits t f o b kept m h a e = answered_waits t f o b kept (claimed_waits t o b m h a) e

-- who has posted has had its first turn
abbrev pub first_turn : (old new : StoreSeat) (k : K) (op : Operation) (batch : BatchView) (turn : Turn)
    → (p : PostsAndTurns old new k op batch turn) → Waited new p.asked p.posted.request batch turn
first_turn old new k op batch turn p = record {
  waited = p.asked;
  resumed = resumed_first p.asked;
  rounds = Begins p.asked;
  now = p.after;
  is = p.is;
  turned = p.turned;
  turns = p.turns;
  held = First p.after batch turn p.turns p.again;
}

-- who has claimed a batch has answered it, handed it over, and had this turn
pub combined_on : (caller : Caller) (s new : StoreSeat) (asked : K) (o : Pending) (b batch : BatchView) (turn : Turn)
    (n : HasGone s caller asked o b Combines) (a : K) (kept : RepliesView)
    → HasAnswered n.waits.now a b kept → AnswersBy caller.node n.waits.now a b kept
    → GivesAndTurns caller.node new a o b kept batch turn → HasGone new caller asked o batch turn
combined_on caller s new asked o b batch turn n a kept has answers r = record {
  free = n.free;
  asks = n.asks;
  waits = record {
    waited = r.combined;
    resumed =
        resumed_combined caller asked w.waited w.now r.combined o b n.free n.asks w.resumed w.turned
        (combined_then w.now a r.combined b kept has r.has);
    rounds = CombinesIt asked w.waited w.now r.combined b (answered_batch kept b) w.rounds w.turns
        (combines_by caller.node w.now a r.combined b kept answers r.gives has.extends r.has.extends has.stands
        (answered_batch kept b) refl (has_claimed w.waited w.now o b w.turned).noted has.session);
    now = r.after;
    is = r.is;
    turned = r.turned;
    turns = r.turns;
    held = Gave w.now a r.combined r.after caller.node b batch kept turn w.held answers r.gives r.turns r.again;
  };
}
  where
    w : Waited s asked o b Combines
    w = n.waits

-- who waits has had another turn
pub waited_on : (caller : Caller) (s new : StoreSeat) (asked : K) (o : Pending) (b batch : BatchView) (turn : Turn)
    (n : HasGone s caller asked o b Waits) (t : K) → IsSession new t → HasTurned n.waits.now t o batch turn
    → TurnsBy n.waits.now t batch turn → HasGone new caller asked o batch turn
waited_on caller s new asked o b batch turn n t is turned turns = record {
  free = n.free;
  asks = n.asks;
  waits = record {
    waited = w.now;
    resumed = resumed_waited caller asked w.waited w.now o b n.free w.resumed w.turned;
    rounds = WaitsIt asked w.waited w.now b w.rounds w.turns;
    now = t;
    is = is;
    turned = turned;
    turns = turns;
    held = Looked w.now t b batch turn w.held turns;
  };
}
  where
    w : Waited s asked o b Waits
    w = n.waits

-- who has gone so far is free of places and on its store's shelf, at its last turn
pub gone_free : (caller : Caller) (s : StoreSeat) (asked : K) (o : Pending) (b : BatchView) (turn : Turn)
    (n : HasGone s caller asked o b turn) → IsFree caller n.waits.now
gone_free caller s asked o b turn n =
    free_back caller n.waits.waited n.waits.now (free_then caller asked n.waits.waited n.free n.waits.resumed)
    n.waits.turned.back

pub gone_on : (shared : Shared) (caller : Caller) (s : StoreSeat) (asked : K) (o : Pending) (b : BatchView)
    (turn : Turn) (n : HasGone s caller asked o b turn) → IsOn shared asked → IsOn shared n.waits.now
gone_on shared caller s asked o b turn n on =
    shelf_then _ _ _ _ n.waits.waited n.waits.now n.waits.turned.back.extends
    (shelf_then _ _ _ _ asked n.waits.waited n.waits.resumed.extends on)
