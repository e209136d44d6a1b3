-- A replica that is held and has come up: what may be told of it, and what the session is once it is back as it was.
use Rattle.ownlock.specs.Seats.{HasStepped, Continues, Run as RunOf, left_with}
use Rattle.std.proofs.Common.{◌≡◌, ℕ, ◌+◌, List, [], ◌∷◌, sym, refl, ap, ◌∙◌, subst, arith, Option, Some, None}
use Rattle.std.specs.Prelude.{IsSome, option_map}
use Rattle.std.proofs.lemmas.Option.{none-some, same_Some}
use Rattle.loader.specs.CatalogueView.{CatalogueView}
use Rattle.ownlock.specs.declared.known.ShelfStep.TheVariants.{Put}
use Rattle.ownlock.specs.Knowledge.{MayPut, Possible}
use Rattle.accounts.specs.declared.sessions.Progress.{Progress}
use Rattle.accounts.specs.declared.sessions.SessionNote.{SessionNote}
use Rattle.accounts.specs.Accounts.{Extends}
use Rattle.accounts.specs.Moves.{IsAtRest, heard_with}
use Rattle.accounts.specs.ReadNotes.{asked_with, heard_at, looked_with}
use Rattle.accounts.specs.declared.sessions.BegunRead.{BegunRead}
use Rattle.oplog.specs.History.{ReadEffect}
use Rattle.replica.specs.StoreMeaning.{store_meaning}
use Rattle.accounts.proofs.Export.{whole_read}
use Rattle.oplog.specs.Operations.{Operation}
use Rattle.store_steps.specs.Views.{RepliesThere, first_in}
use Rattle.node.specs.declared.following.NodeReplica.{NodeReplica}
use Rattle.store_steps.specs.declared.values.Value.{Value}
use Rattle.store_steps.specs.declared.values.Value.TheVariants.{Log, Replica, Desk}
use Rattle.store_steps.specs.Lending.{replica_of, with_replica}
use Rattle.store_steps.specs.Ready.{HoldsReady}
use Rattle.store_steps.specs.Sights.{HasSeen}
use Rattle.store_steps.specs.Shelving.{store_rules}
use Rattle.store_steps.specs.Standing.{Agrees, SessionKnown}
use Rattle.store_steps.specs.Whole.{LooksBy}
use Rattle.store_steps.proofs.Finished.{BackWith, IsHeard, held_first, hears, may_hear}
use Rattle.store_steps.proofs.StoreLaws.{store_laws}
use Rattle.store_steps.proofs.Stretches.{looks_by}
use Rattle.store_steps.proofs.Taken.{well_formed}
use Rattle.store_steps.proofs.Whole.{agrees_on}

abbrev K : Type 0
K = SessionKnown

abbrev L : Type 0
L = Progress CatalogueView

-- ---- a value with its replica

has_it : (w : Value) (m : NodeReplica) → IsSome (replica_of w) → replica_of (with_replica w m) ≡ Some m
has_it (Replica n) m e = refl
has_it (Log g) m e = absurd cc
has_it (Desk d) m e = absurd cc

last_with : (w : Value) (m n : NodeReplica) → with_replica (with_replica w m) n ≡ with_replica w n
last_with (Replica x) m n = refl
last_with (Log g) m n = refl
last_with (Desk d) m n = refl

-- a read and its answer
both_noted : (asked : Option Operation) (seen point reply : ℕ) (n : SessionNote) → heard_at asked point reply (asked_with asked seen n) ≡ looked_with asked point reply n
both_noted None seen point reply n = refl
both_noted (Some op) seen point reply n = whole_read n op seen point reply

-- ---- what is noted of an answer, by what the seat knows and the value that is put back

abbrev reply_of : Option ReadEffect → ℕ
reply_of None = 0
reply_of (Some e) = e.reply

abbrev hear : Option BegunRead → CatalogueView → Option NodeReplica → SessionNote → SessionNote
hear None c m n = n
hear (Some read) c None n = n
hear (Some read) c (Some m) n = heard_with n m.replica.tail (reply_of (store_meaning.read c read.op m.replica.state))

abbrev pub hears_there : List K → Value → SessionNote → SessionNote
hears_there sessions y = hear (first_in sessions).note.begun (first_in sessions).progress.catalogue (replica_of y)

abbrev begun_of : Option Operation → ℕ → Option BegunRead
begun_of None seen = None
begun_of (Some op) seen = Some (record { op = op; seen = seen })

begun_so : (asked : Option Operation) (seen : ℕ) (n : SessionNote) → n.begun ≡ None → (asked_with asked seen n).begun ≡ begun_of asked seen
begun_so None seen n unread = unread
begun_so (Some op) seen n unread = refl

replies_so : (e : Option ReadEffect) (reply : ℕ) → option_map (λ z. z.reply) e ≡ Some reply → reply_of e ≡ reply
replies_so None reply is = absurd (none-some reply is)
replies_so (Some e) reply is = same_Some e.reply reply is

hears_so : (asked : Option Operation) (seen : ℕ) (c : CatalogueView) (m : NodeReplica) (reply : ℕ) → ((op : Operation) → asked ≡ Some op → RepliesThere c op m reply)
    → hear (begun_of asked seen) c (Some m) ≡ heard_at asked m.replica.tail reply
hears_so None seen c m reply replies = λ i n. n
hears_so (Some op) seen c m reply replies = λ i n. heard_with n m.replica.tail (replies_so (store_meaning.read c op m.replica.state) reply (replies op refl) i)

-- ---- the session holds it

module _ (asked : Option Operation) (k a : K) (p : ℕ) (v : Value) (h : HoldsReady asked k a p v) where
  pub all_along : Extends k.progress a.progress
  all_along = store_laws.extends_on k.progress h.taking.progress a.progress h.grown h.on

  here : replica_of v ≡ Some h.node
  here = ap replica_of h.is ∙ has_it h.value h.node h.holds.replica

  pub node_is : (n : NodeReplica) → replica_of v ≡ Some n → n ≡ h.node
  node_is n is = same_Some n h.node (sym is ∙ here)

  -- lent, and as it was
  pub lent_back : (n m : NodeReplica) → replica_of v ≡ Some n → m ≡ n → with_replica v m ≡ with_replica h.value h.node
  lent_back n m is same = ap (with_replica v) (same ∙ node_is n is) ∙ (ap (λ z. with_replica z h.node) h.is ∙ last_with h.value h.node h.node)

  -- it replies so to the read that was asked
  abbrev pub IsAnswer : ℕ → Type 0
  IsAnswer reply = (op : Operation) → asked ≡ Some op → RepliesThere k.progress.catalogue op h.node reply

  -- so it notes what it has heard
  pub hears_as : (sessions : List K) → sessions ≡ a ∷ [] → IsAtRest k.note → (reply : ℕ) → IsAnswer reply → (y : Value) → replica_of y ≡ Some h.node
      → hears_there sessions y ≡ heard_at asked h.node.replica.tail reply
  hears_as sessions is rests reply replies y y_is =
      (λ i. hear (first_in (is i)).note.begun (first_in (is i)).progress.catalogue (y_is i))
      ∙ ((λ i. hear ((ap (λ (n : SessionNote). n.begun) h.asks.note ∙ begun_so asked h.asks.seen k.note rests.1) i) a.progress.catalogue (Some h.node))
      ∙ hears_so asked h.asks.seen a.progress.catalogue h.node reply (λ op asked_is. subst (λ c. RepliesThere c op h.node reply) all_along.catalogue (replies op asked_is)))

  hears_it : (reply : ℕ) → IsAnswer reply → IsHeard a h.value h.holds h.node h.agrees h.within reply asked
  hears_it reply replies op is = (
    h.asks.seen,
    ap (λ (n : SessionNote). n.begun) (h.asks.note ∙ ap (λ z. asked_with z h.asks.seen k.note) is),
    h.asks.low,
    subst (λ c. RepliesThere c op h.node reply) all_along.catalogue (replies op is),
  )

  -- the replica is put back as it is, and the answer is noted
  module _ (sessions : List K) (is : sessions ≡ a ∷ []) (rests : IsAtRest k.note) (reply : ℕ) (replies : IsAnswer reply) (y : Value) (y_is : y ≡ with_replica h.value h.node) (q : ℕ) (at : q ≡ p) where
    abbrev noted : SessionNote → SessionNote
    noted = heard_at asked h.node.replica.tail reply

    held : a.held ≡ (q, h.value) ∷ []
    held = h.held ∙ ap (λ z. (z, h.value) ∷ []) (sym at)

    noted_is : hears_there sessions y ≡ noted
    noted_is = hears_as sessions is rests reply replies y (ap replica_of y_is ∙ has_it h.value h.node h.holds.replica)

    pub may_put_ready : MayPut store_rules (λ l. l) (hears_there sessions y) a q y
    may_put_ready = subst (λ (z : (SessionNote → SessionNote) × Value). MayPut store_rules (λ l. l) z.0 a q z.1) (λ i. (sym noted_is i, sym y_is i))
        (may_hear a h.value h.holds h.node h.agrees h.within reply asked (hears_it reply replies) q held)

    pub ready_back : (point : ℕ) → point ≡ h.node.replica.tail → (l : L) (ns : List SessionNote) → Possible store_rules a l ns → (run : RunOf L SessionNote Value) → Continues a.run run
        → BackWith (heard_at asked point reply a.note) a (left_with a q y l (hears_there sessions y a.note) run)
    ready_back point point_is l ns may run on =
        subst (λ (z : (SessionNote → SessionNote) × Value × ℕ). BackWith (heard_at asked z.2 reply a.note) a (left_with a q z.1 l (z.0 a.note) run)) (λ i. (sym noted_is i, sym y_is i, sym point_is i))
        (hears a h.value h.holds h.node h.agrees h.within reply asked (hears_it reply replies) q held l ns may run on)

  -- ---- and then it is back

  module _ (f : K) (reply point : ℕ) (at : point ≡ h.node.replica.tail) (b : BackWith (heard_at asked point reply a.note) a f) where
    pub has_seen : HasSeen (record { asked = asked; reply = reply }) k f point
    has_seen =
        let rise = h.grown.completed in let done = h.begun_is in let far = h.reached in record {
          begun = h.begun;
          more = [];
          read = b.tails ∙ h.read;
          reached = omega (arith, far, at);
          far = omega (arith, rise, done, far, at);
          session = b.session ∙ h.session;
          held = b.held;
          note = b.note ∙ (ap (heard_at asked point reply) h.asks.note ∙ both_noted asked h.asks.seen point reply k.note);
          extends = store_laws.extends_on k.progress a.progress f.progress all_along b.extends;
          well_formed = well_formed f.progress b.stands.notes b.stands.accounts;
        }

    -- the session has looked at that replica
    pub looks_ready : (q : ℕ) → q ≡ p → HasStepped a (Put q (with_replica h.value h.node)) f → (by : LooksBy k f point) × (by.left ≡ h.node)
    looks_ready q same put =
        let here : p ≡ 1 + h.holds.node = ap held_first (sym h.held ∙ h.holds.held) in
        looks_by k h.taking a f h.begun h.own h.node point h.grown h.begun_is h.own_is h.stands h.follows h.on h.agrees h.within h.reached b.extends b.stands h.value h.some h.holds h.session p here q (same ∙ here) h.did put
        (b.tails ∙ h.read) at

    pub agrees_now : Agrees f.progress h.node
    agrees_now = agrees_on a.progress f.progress h.node b.extends h.within h.agrees
