-- Where no call is open, each call of the trace has its answer.
use Rattle.std.proofs.Common.{◌≡◌, ◌≢◌, ℕ, zero, suc, ◌+◌, ◌≤◌, ◌<◌, true, length, take, Option, Some, None, refl, sym, ◌∙◌, inl, inr, ⊎_elim, arith, subst}
use Rattle.std.specs.Prelude.{slice_get, ◌⊎◌}
use Rattle.std.proofs.lemmas.Bool.{and_parts, cases_order}
use Rattle.std.proofs.lemmas.Option.{none-some, same_Some, slice_get_within}
use Rattle.verifier.specs.declared.refusal.Mode.{Mode}
use Rattle.oplog.specs.Operations.{Operation}
use Rattle.oplog.specs.History.{History}
use Rattle.oplog.specs.Sessions.{session}
use Rattle.combiner.specs.declared.slots.Stage.{Stage}
use Rattle.schedule.specs.declared.parts.Opening.{Opening}
use Rattle.schedule.specs.Trace.{Answer, Event, Call, Back, Trace, Positions, caller, IsOpen, IsIdle, Answers}
use Rattle.schedule.specs.Explains.{Explains}
use Rattle.schedule.specs.Worlds.{NodeView, WorldView}
use Rattle.schedule.specs.Steps.{is_idle, is_free, no_read}
use Rattle.schedule.specs.Stands.{NodeStands, StageStands, Stands}
use Rattle.schedule.proofs.Export.{get_take, get_taken, free_is, no_read_is}
use Rattle.settlement.specs.Settling.{IsSettledAt, AllAnswered, NodeAnswered}

-- ---- the first event of a session behind its call

-- none of the events that are so near behind c is the session's
abbrev NoneUpTo : Trace → ℕ → ℕ → ℕ → Type 0
NoneUpTo t x c count = (j : ℕ) (e : Event) → c < j → j ≤ c + count → slice_get t j ≡ Some e → caller e ≢ x

-- event b is the first one that is
record IsFirst (t : Trace) (x c : ℕ) : Type 0 where
  b : ℕ
  event : Event
  there : slice_get t b ≡ Some event
  behind : c < b
  own : caller event ≡ x
  none : (j : ℕ) (e : Event) → c < j → j < b → slice_get t j ≡ Some e → caller e ≢ x

look : (t : Trace) (x c count : ℕ) → NoneUpTo t x c count ⊎ IsFirst t x c
look t x c zero = inl (λ j e lt le at. absurd (omega arith))
look t x c (suc count) = ⊎_elim (λ none. there none (slice_get t (suc (c + count))) refl) inr (look t x c count)
  where
    further : NoneUpTo t x c count → ((e : Event) → slice_get t (suc (c + count)) ≡ Some e → caller e ≢ x) → NoneUpTo t x c (suc count)
    further none last j e lt le at =
        ⊎_elim (λ same. last e (subst (λ k. slice_get t k ≡ Some e) same at))
        (λ other. ⊎_elim (λ less. none j e lt (omega arith) at) (λ more. absurd (omega arith)) other)
        (cases_order j (suc (c + count)))

    there : NoneUpTo t x c count → (o : Option Event) → slice_get t (suc (c + count)) ≡ o → NoneUpTo t x c (suc count) ⊎ IsFirst t x c
    there none None is = inl (further none (λ e at. absurd (none-some e (sym is ∙ at))))
    there none (Some e) is =
        ⊎_elim
        (λ own. inr (record { b = suc (c + count); event = e; there = is; behind = omega arith; own = own; none = λ j f lt less at. none j f lt (omega arith) at }))
        (λ other. inl (further none (λ f at own. not_own (subst (λ (g : Event). caller g ≡ x) (same_Some f e (sym at ∙ is)) own) other)))
        (cases_order (caller e) x)
      where
        not_own : caller e ≡ x → (caller e < x) ⊎ (x < caller e) → ⊥
        not_own own other = ⊎_elim (λ less. absurd (omega arith)) (λ more. absurd (omega arith)) other

-- ---- its answer

-- a call of a session that waits for no answer has one
pub has_its_answer : (m : Opening) (h : History) (positions : Positions) (t : Trace) (x : ℕ) (mode : Mode) (op : Operation) (c : ℕ)
    → Explains m h positions t → IsIdle t x → slice_get t c ≡ Some (Call x mode op) → (b : ℕ) × (answer : Answer) × Answers t x mode op c b answer
has_its_answer m h positions t x mode op c explains idle call =
    ⊎_elim
    (λ none. absurd (idle mode op c (record { call = call; last = λ j e lt at. (let in_it = slice_get_within t j e at in none j e lt (omega arith) at) })))
    (λ first. by first first.event first.there first.own)
    (look t x c (length t))
  where
    open_till : (first : IsFirst t x c) → IsOpen (take first.b t) x mode op c
    open_till first = record {
      call = get_taken first.b t c (Call x mode op) call first.behind;
      last = λ j e lt at. (let g = get_take first.b t j e at in first.none j e lt g.1 g.0);
    }

    by : (first : IsFirst t x c) (e : Event) → slice_get t first.b ≡ Some e → caller e ≡ x → (b : ℕ) × (answer : Answer) × Answers t x mode op c b answer
    by first (Call y mode2 op2) at own = absurd (subst (λ z. IsIdle (take first.b t) z) own (explains.calls_in_turn first.b y mode2 op2 at) mode op c (open_till first))
    by first (Back y answer) at own = (first.b, answer, record { open_call = open_till first; back = subst (λ z. slice_get t first.b ≡ Some (Back z answer)) own at })

-- ---- where each node is settled

-- a slot that is idle has no open call
idle_slot : (m : Opening) (done : ℕ) (h : History) (positions : Positions) (t : Trace) (n : ℕ) (node : NodeView) (s : ℕ)
    → NodeStands m done h positions t n node → s < m.config.slots → is_idle node s ≡ true → IsIdle t (session m.config n s)
idle_slot m done h positions t n node s x inside idle =
    let tests = and_parts (is_free (slice_get node.desk.slots s)) (no_read (slice_get node.reads s)) idle in
    let y = free_is (slice_get node.desk.slots s) tests.0 in
    let none = no_read_is (slice_get node.reads s) tests.1 in
    let seat = x.seats s y.0 None y.1 none in
    (subst (λ (st : Stage). StageStands m done h positions t (session m.config n s) node.batch (y.0).count st None) y.2 seat).0

-- each call of a node's sessions has its answer where that node is settled
pub node_answers : (m : Opening) (w : WorldView) (h : History) (positions : Positions) (t : Trace) (n : ℕ) → Stands m w h positions t
    → IsSettledAt w n → NodeAnswered m.config n t
node_answers m w h positions t n stands at x mode op c own call =
    let node = stands.nodes n at.0 at.1 in
    let slots = node.desk.slots in
    let inside : own.0 < m.config.slots = own.1 in
    let idle = idle_slot m w.log.done h positions t n at.0 own.0 node inside (at.2 own.0 (omega arith)) in
    has_its_answer m h positions t x mode op c stands.explains (subst (λ y. IsIdle t y) (sym own.2) idle) call

pub settled_answers : (m : Opening) (w : WorldView) (h : History) (positions : Positions) (t : Trace) → Stands m w h positions t
    → ((n : ℕ) → n < m.config.nodes → IsSettledAt w n) → AllAnswered t
settled_answers m w h positions t stands settled x mode op c call =
    let who = stands.callers c x mode op call in
    node_answers m w h positions t who.0 stands (settled who.0 (who.1).3) x mode op c who.1 call
