-- What a session has done on the shelf that took its desk and put it back.
use Rattle.ownlock.specs.Seats.{HasStepped}
use Rattle.std.proofs.Common.{◌≡◌, ℕ, sym, ap, ◌∙◌, subst, Some}
use Rattle.ownlock.specs.declared.known.ShelfStep.TheVariants.{Put}
use Rattle.oplog.specs.Operations.{Operation}
use Rattle.oplog.specs.Sessions.{session}
use Rattle.combiner.specs.Desks.{BatchView, DeskView, posted}
use Rattle.accounts.specs.Agreement.{desk_place}
use Rattle.store_steps.specs.declared.desks.Turn.{Turn}
use Rattle.store_steps.specs.declared.steps.Caller.{Caller}
use Rattle.store_steps.specs.declared.values.Value.{Value}
use Rattle.store_steps.specs.AtDesk.{IsTurn}
use Rattle.store_steps.specs.Doing.{ADesk, Did, takes_and_puts}
use Rattle.store_steps.specs.Lending.{desk_of, with_desk}
use Rattle.store_steps.specs.Standing.{SessionKnown}
use Rattle.store_steps.specs.Updating.{AtItsDesk, PostsBy, TurnsBy}
use Rattle.store_steps.proofs.Doing.{desk_part, did_both, with_desk_part}
use Rattle.store_steps.specs.Visits.{HasDesk}
use Rattle.store_steps.proofs.TakenDesk.{same_desk}

abbrev K : Type 0
K = SessionKnown

pub desk_node : (caller : Caller) (k t : K) (p : ℕ) (v : Value) (b : HasDesk caller k t p v) (x : DeskView) → desk_of v ≡ Some x → x.node ≡ caller.node
desk_node caller k t p v b x is = ap (λ (z : DeskView). z.node) (sym (same_desk caller k t p v b x is)) ∙ b.node

-- the session k took its desk, which is x, from the place p, and is t then, and f once it has put it back as y
module _ (caller : Caller) (k t : K) (p : ℕ) (v : Value) (b : HasDesk caller k t p v) (x y : DeskView) (is : desk_of v ≡ Some x) (f : K) (put : HasStepped t (Put p (with_desk v y)) f) where
  pub did_at_desk : Did k f (takes_and_puts (desk_place k.progress.config caller.node) (ADesk x) (ADesk y))
  did_at_desk = did_both k t f p p (desk_place k.progress.config caller.node) v (with_desk v y) (ADesk x) (ADesk y) b.steps put b.place b.place (desk_part v x is) (with_desk_part v x y is)

  pub at_its_desk : AtItsDesk k f caller.slot x y
  at_its_desk = record {
    own = b.free.own ∙ ap (λ z. session k.progress.config z caller.slot) (sym (desk_node caller k t p v b x is));
    within = b.free.within;
    did = subst (λ z. Did k f (takes_and_puts (desk_place k.progress.config z) (ADesk x) (ADesk y))) (sym (desk_node caller k t p v b x is)) did_at_desk;
  }

  pub posts_by : (op : Operation) → posted caller.slot op x ≡ Some y → PostsBy k f op
  posts_by op e = record { slot = caller.slot; desk = x; back = y; at = at_its_desk; is = e }

  pub turns_by : (batch : BatchView) (turn : Turn) → IsTurn caller.slot x y batch turn → TurnsBy k f batch turn
  turns_by batch turn e = record { slot = caller.slot; desk = x; back = y; at = at_its_desk; is = e }
