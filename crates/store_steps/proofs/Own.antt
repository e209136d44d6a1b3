-- An update whose session finds no other request at its desk.
use Rattle.std.proofs.Common.{◌≡◌, ℕ, ap, ◌∙◌, sym}
use Rattle.ownlock.proofs.Export.{one_known}
use Rattle.oplog.specs.Operations.{Operation}
use Rattle.oplog.specs.declared.records.Record.{Record}
use Rattle.combiner.specs.Desks.{BatchView, only}
use Rattle.combiner.specs.declared.slots.Reply.{Reply}
use Rattle.replica.specs.Views.{RepliesView}
use Rattle.store_steps.specs.declared.desks.Turn.{Turn}
use Rattle.store_steps.specs.declared.desks.Turn.TheVariants.{Collects, Combines}
use Rattle.store_steps.specs.declared.steps.Caller.{Caller}
use Rattle.store_steps.specs.declared.steps.Shared.{Shared}
use Rattle.store_steps.specs.Alone.{AsksSoFar, GoesAlone, MayCombine, MayReply}
use Rattle.store_steps.specs.AtOnce.{AsksAtOnce, HasGone, IsAlone, PostsAndTurns}
use Rattle.store_steps.specs.Combining.{SessionAnswers}
use Rattle.store_steps.specs.Knowing.{IsOn}
use Rattle.store_steps.specs.Requests.{HasPosted}
use Rattle.store_steps.specs.Standing.{IsFree, SessionKnown, StoreSeat}
use Rattle.store_steps.specs.Updating.{PostsBy}
use Rattle.store_steps.proofs.AtOnce.{answered_waits, asks, claimed_waits, combined_on, first_turn, gone_free, gone_on}
use Rattle.store_steps.proofs.Resumed.{free_back, has_claimed, has_completed, shelf_then}
use Rattle.store_steps.proofs.Taken.{free_on, shelf_on}

-- ---- a post, and what may follow

-- who has posted has had its first turn
abbrev pub posted_so_far : (old new : StoreSeat) (k : SessionKnown) (op : Operation) (batch : BatchView) (turn : Turn)
    → PostsAndTurns old new k op batch turn → AsksSoFar new k op batch turn
posted_so_far old new k op batch turn p =
    record { asked = p.asked; posted = p.posted; posts = p.posts; waits = first_turn old new k op batch turn p }

module _ (caller : Caller) (k : SessionKnown) (op : Operation) (free : IsFree caller k) (alone : IsAlone k) where
  -- who has asked so far was free when it asked
  abbrev pub has_gone : (new : StoreSeat) (batch : BatchView) (turn : Turn) (a : AsksSoFar new k op batch turn)
      → HasGone new caller a.asked a.posted.request batch turn
  has_gone new batch turn a =
      record {
        free = free_back caller k a.asked free a.posted.back;
        asks = asks k a.asked op alone a.posted;
        waits =
            a.waits;
      }

  -- who has posted, and has claimed its own request alone, may combine it
  pub may_combine : (old new : StoreSeat) (shared : Shared) (r : Record) → IsOn shared k
      → PostsAndTurns old new k op (only r) Combines → r.author ≡ k.session → MayCombine new caller shared r
  may_combine old new shared r on p own =
      let n = has_gone new (only r) Combines (posted_so_far old new k op (only r) Combines p) in
      let o = p.posted.request in (
        p.after,
        p.is,
        (
          gone_free caller new p.asked o (only r) Combines n,
          has_claimed p.asked p.after o (only r) p.turned,
          gone_on shared caller new p.asked o (only r) Combines n
              (shelf_then _ _ _ _ k p.asked p.posted.back.extends on),
          own ∙ sym (p.turned.back.session ∙ p.posted.back.session),
          (o, claimed_waits p.after o (only r) p.asked p.turned n.asks),
        ),
      )

  -- and once it has, it has asked so far
  pub alone_so_far : (old mid new : StoreSeat) (r : Record) (batch : BatchView) (turn : Turn)
      (p : PostsAndTurns old mid k op (only r) Combines)
      → GoesAlone caller.node new p.after p.posted.request r batch turn → AsksSoFar new k op batch turn
  alone_so_far old mid new r batch turn p went =
      let n = has_gone mid (only r) Combines (posted_so_far old mid k op (only r) Combines p) in
      record {
        asked = p.asked;
        posted = p.posted;
        posts = p.posts;
        waits = (combined_on caller mid new p.asked p.posted.request (only r) batch turn n went.answered went.kept
            went.has went.answers went.gives).waits;
      }

-- ---- the answer

-- who has the answer of its own request may hand it over
pub may_reply : (node : ℕ) (s new : StoreSeat) (caller : Caller) (shared : Shared) (r : Record) (kept : RepliesView)
    → MayCombine s caller shared r → SessionAnswers node s new (only r) kept → MayReply new caller shared r kept
may_reply node s new caller shared r kept i answers =
    let a = answers i.0 i.1 in
    let o = i.2.4.0 in (
      (
        a.0,
        a.1,
        (
          free_on caller i.0 a.0 a.2.session a.2.held a.2.extends i.2.0,
          a.2.ready,
          shelf_on _ _ _ _ i.0 a.0 a.2.extends i.2.2,
          a.2.stands,
          (o, answered_waits i.0 a.0 o (only r) kept i.2.4.1 a.2),
        ),
      ),
      λ k is. i.2.3 ∙ (sym a.2.session ∙ ap (λ (z : SessionKnown). z.session) (one_known new a.0 k a.1 is)),
    )

-- who has gone to its answer has asked at once
pub asks_at_once : (caller : Caller) (new : StoreSeat) (k asked : SessionKnown) (op : Operation)
    (posted : HasPosted k asked op) → PostsBy k asked op → (batch : BatchView) (reply : Reply)
    → HasGone new caller asked posted.request batch (Collects reply) → AsksAtOnce new k op reply
asks_at_once caller new k asked op posted posts batch reply n =
    let w = n.waits in
    record {
      asked = asked;
      posted = posted;
      posts = posts;
      after = w.now;
      is = w.is;
      completed = has_completed asked w.waited w.now posted.request batch reply w.resumed w.turned;
      completes = record { waited = w.waited; rounds = w.rounds; batch = batch; collects = w.turns };
      held = record { asked = asked; posts = posts; batch = batch; holds = w.held };
    }
