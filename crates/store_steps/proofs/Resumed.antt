-- A session waits for its answer, turn after turn.
use Rattle.std.proofs.Common.{◌≡◌, ℕ, suc, ◌<◌, ◌^◌, [], length, sym, refl, ap, ◌∙◌, subst}
use Rattle.loader.specs.CatalogueView.{CatalogueView}
use Rattle.combiner.specs.Desks.{BatchView}
use Rattle.combiner.specs.declared.slots.Reply.{Reply}
use Rattle.oplog.specs.declared.configuration.Sizes.{Sizes}
use Rattle.oplog.specs.Sessions.{session}
use Rattle.replica.specs.StoreMeaning.{store_meaning}
use Rattle.accounts.specs.declared.sessions.Pending.{Pending}
use Rattle.accounts.specs.declared.sessions.SessionNote.{SessionNote}
use Rattle.accounts.specs.Accounts.{Extends}
use Rattle.accounts.specs.Moves.{answered_with, unplaced}
use Rattle.accounts.specs.Told.{Tells}
use Rattle.store_steps.specs.declared.desks.Turn.TheVariants.{Collects, Combines, Waits}
use Rattle.store_steps.specs.declared.steps.Caller.{Caller}
use Rattle.store_steps.specs.AtDesk.{HasAsked}
use Rattle.store_steps.specs.AtOnce.{Resumed}
use Rattle.store_steps.specs.Combining.{HasClaimed, HasCombined}
use Rattle.store_steps.specs.Requests.{HasCompleted, HasTurned, IsBack}
use Rattle.store_steps.specs.Standing.{IsFree, IsOnShelf, SessionKnown}
use Rattle.store_steps.proofs.StoreLaws.{store_laws}
use Rattle.store_steps.proofs.Taken.{shelf_on}

abbrev K : Type 0
K = SessionKnown

pub resumed_first : (k : K) → Resumed k k
resumed_first k = record { session = refl; held = refl; note = refl; extends = store_laws.extends_self k.progress }

pub free_by : (caller : Caller) (k m : K) → m.session ≡ k.session → m.held ≡ [] → Extends k.progress m.progress → IsFree caller k → IsFree caller m
free_by caller k m session_is held extends f = record {
  own = session_is ∙ (f.own ∙ ap (λ (z : Sizes). session z caller.node caller.slot) extends.config);
  within = subst (λ (z : Sizes). caller.slot < z.slots) extends.config f.within;
  near = subst (λ (z : Sizes). caller.node < z.nodes) extends.config f.near;
  held = held;
}

pub free_then : (caller : Caller) (k m : K) → IsFree caller k → Resumed k m → IsFree caller m
free_then caller k m f r = free_by caller k m r.session (r.held ∙ f.held) r.extends f

pub free_back : (caller : Caller) (k m : K) → IsFree caller k → IsBack k m → IsFree caller m
free_back caller k m f b = free_by caller k m b.session b.held b.extends f

pub shelf_then : (places nodes slots : ℕ) (c : CatalogueView) (k m : K) → Extends k.progress m.progress
    → IsOnShelf places nodes slots c k → IsOnShelf places nodes slots c m
shelf_then places nodes slots c k m g s = shelf_on places nodes slots c k m g s

pub asked_by : (k m : K) (o : Pending) → m.note ≡ k.note → HasAsked k o → HasAsked m o
asked_by k m o note a = record {
  pending = ap (λ (n : SessionNote). n.pending) note ∙ a.pending;
  alone = ap (λ (n : SessionNote). n.batch) note ∙ a.alone;
  few = subst (λ (n : SessionNote). suc (length n.answered) < 2 ^ 64) (sym note) a.few;
}

-- a turn at which it claimed
pub has_claimed : (m t : K) (o : Pending) (b : BatchView) → HasTurned m t o b Combines → HasClaimed t b
has_claimed m t o b h = record { noted = ap (λ (n : SessionNote). n.batch) h.turns.0; some = h.turns.1; ascend = h.turns.2 }

-- the session waits on, once it has combined, and where there was nothing to do
pub resumed_combined : (caller : Caller) (k m t n : K) (o : Pending) (b : BatchView) → IsFree caller k → HasAsked k o → Resumed k m → HasTurned m t o b Combines → HasCombined t n → Resumed k n
resumed_combined caller k m t n o b free asked r h c = record {
  session = c.session ∙ (h.back.session ∙ r.session);
  held = c.held ∙ sym free.held;
  note = c.note ∙ (ap (λ (z : SessionNote). record z { batch = [] }) (h.turns.0 ∙ ap (λ (z : SessionNote). record z { batch = unplaced b.records }) r.note) ∙ λ i. record k.note { batch = sym asked.alone i });
  extends = store_laws.extends_on k.progress m.progress n.progress r.extends (store_laws.extends_on m.progress t.progress n.progress h.back.extends c.extends);
}

pub resumed_waited : (caller : Caller) (k m t : K) (o : Pending) (b : BatchView) → IsFree caller k → Resumed k m → HasTurned m t o b Waits → Resumed k t
resumed_waited caller k m t o b free r h = record {
  session = h.back.session ∙ r.session;
  held = h.back.held ∙ sym free.held;
  note = h.turns ∙ r.note;
  extends = store_laws.extends_on k.progress m.progress t.progress r.extends h.back.extends;
}

-- and it has its answer
pub has_completed : (k m t : K) (o : Pending) (b : BatchView) (reply : Reply) → Resumed k m → HasTurned m t o b (Collects reply) → HasCompleted k t o reply
has_completed k m t o b reply r h = record {
  back = record { session = h.back.session ∙ r.session; held = h.back.held; extends = store_laws.extends_on k.progress m.progress t.progress r.extends h.back.extends; stands = h.back.stands };
  note = h.turns.0 ∙ ap (λ (n : SessionNote). answered_with n o.op reply) r.note;
  tells = subst (λ (z : ℕ × SessionNote). Tells store_meaning t.progress z.0 (length z.1.answered) o reply) (λ i. (r.session i, r.note i)) h.turns.1;
}
