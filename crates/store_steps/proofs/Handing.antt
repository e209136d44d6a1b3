-- A session that holds its node's desk posts there, and settles there or hands the desk on.
use Rattle.std.proofs.Common.{◌≡◌, ℕ, ◌+◌, zero, suc, List, [], ◌∷◌, map, sym, refl, ap, ◌∙◌, subst, true, Some, arith}
use Rattle.ownlock.specs.Held.{held_place}
use Rattle.ownlock.specs.Knowledge.{Acquired, MayHandOn, MayTake, Possible}
use Rattle.ownlock.proofs.Export.{adds_on, stepped_by}
use Rattle.ownlock.specs.Seats.{At, HasStepped, HoldsNone, StepsTo, IsSession, Run as RunOf, TookNext, place_of, without}
use Rattle.ownlock.specs.declared.shelf.Held.{Held}
use Rattle.loader.specs.CatalogueView.{CatalogueView}
use Rattle.verifier.specs.declared.refusal.Mode.TheVariants.{Update}
use Rattle.oplog.specs.Operations.{Operation}
use Rattle.combiner.specs.Desks.{BatchView, DeskView, IsBatchOf, posted, replied}
use Rattle.replica.specs.StoreMeaning.{is_operation, store_meaning}
use Rattle.accounts.specs.Accounts.{IsAllowed}
use Rattle.accounts.proofs.Export.{at_below}
use Rattle.std.proofs.lemmas.Option.{same_Some}
use mathlib.Core.Option.{some-injective}
use Rattle.accounts.specs.Agreement.{desk_place}
use Rattle.accounts.specs.DeskNotes.{PostedThere, RepliedThere}
use Rattle.accounts.specs.declared.sessions.Progress.{Progress}
use Rattle.accounts.specs.declared.sessions.SessionNote.{SessionNote}
use Rattle.accounts.specs.Moves.{IsAtRest}
use Rattle.store_steps.specs.declared.steps.Caller.{Caller}
use Rattle.store_steps.specs.declared.steps.Here.{Here}
use Rattle.store_steps.specs.declared.values.Value.{Value}
use Rattle.store_steps.specs.AtDesk.{HasAsked, IsReady, IsTurn}
use Rattle.store_steps.specs.Knowing.{IsOn}
use Rattle.store_steps.specs.Lending.{desk_of, with_desk}
use Rattle.store_steps.specs.Pipelines.{HasDesk, HasLooked, IsDesk, IsNext, IsTurnThere, SessionTurnsThere, Stays, Visit}
use Rattle.store_steps.specs.Requests.{HasPosted, HasTurned}
use Rattle.store_steps.specs.Combining.{HasCombined}
use Rattle.store_steps.specs.Whole.{HandsOver}
use Rattle.store_steps.specs.declared.desks.Turn.{Turn}
use Rattle.accounts.specs.declared.sessions.Pending.{Pending}
use Rattle.oplog.specs.Sessions.{IsSessionOf, session}
use Rattle.store_steps.specs.Doing.{ADesk, Did, takes_and_puts}
use Rattle.store_steps.proofs.Doing.{desk_part, did_both}
use Rattle.store_steps.proofs.StoreLaws.{store_laws}
use Rattle.oplog.specs.declared.configuration.Sizes.{Sizes}
use Rattle.node.specs.Answering.{answered_batch}
use Rattle.replica.specs.Views.{RepliesView}
use Rattle.ownlock.specs.declared.known.ShelfStep.TheVariants.{Put}
use Rattle.store_steps.specs.Shelving.{session_noting, store_rules, view_of}
use Rattle.accounts.specs.Picks.{put_progress, put_note}
use Rattle.store_steps.specs.Standing.{IsFree, SessionKnown, Stands, StoreSeat}
use Rattle.store_steps.specs.Updating.{PostsBy, TurnsBy}
use Rattle.store_steps.specs.Visits.{HasDesk as TookDesk, PutsBack, TurnsThere as TurnsAndPuts}
use Rattle.store_steps.proofs.AtDesk.{is_batch}
use Rattle.store_steps.proofs.Combined.{handed, puts_replied, ready_on}
use Rattle.store_steps.proofs.Resumed.{asked_by, free_by, shelf_then}
use Rattle.store_steps.proofs.Stretches.{hands_over}
use Rattle.store_steps.proofs.Taken.{well_formed}
use Rattle.store_steps.proofs.Visiting.{desk_node, did_at_desk, posts_by, turns_by}
use Rattle.store_steps.proofs.TakenDesk.{BackDesk, back_same_desk, DeskMayBePut, PutsDesk, desk_back, is_at, may_take_its_desk, took_desk}
use Rattle.store_steps.proofs.Turning.{deed_in, has_posted, puts_posted, turns_there}

abbrev K : Type 0
K = SessionKnown

abbrev L : Type 0
L = Progress CatalogueView

-- what was taken at one place, and with one value, was taken at the same place with the same value
pub took_as : (k t : K) (p q : ℕ) (v w : Value) → q ≡ p → w ≡ v → Acquired store_rules p k t v → Acquired store_rules q k t w
took_as k t p q v w at same won = subst (λ (u : ℕ × Value). Acquired store_rules u.0 k t u.1) (λ i. (sym at i, sym same i)) won

pub next_as : (run : RunOf L SessionNote Value) (t : K) (p q : ℕ) (v w : Value) → q ≡ p → w ≡ v → TookNext run p v t → TookNext run q w t
next_as run t p q v w at same next = subst (λ (u : ℕ × Value). TookNext run u.0 u.1 t) (λ i. (sym at i, sym same i)) next

-- a value is one desk
pub desk_is : (v : Value) (x y : DeskView) → desk_of v ≡ Some x → desk_of v ≡ Some y → x ≡ y
desk_is v x y a b = same_Some x y (sym a ∙ b)

-- the session t, which was k, holds its desk
module _ (s : StoreSeat) (here : Here) (h : Held Value) (k t : K) (d : HasDesk s here h k t) (place : IsDesk here h) where
  pub spot : held_place h ≡ desk_place k.progress.config here.caller.node
  spot = place.0 ∙ ap (λ n. 1 + n + here.caller.node) (sym d.on.nodes_are)

  pub taken : TookDesk here.caller k t (held_place h) h.value
  taken = took_desk k t here.caller (held_place h) h.value d.free spot d.took

  module _ (op : Operation) (update : is_operation Update here.shared.catalogue.now op ≡ true) (rests : IsAtRest k.note) where
    pub allowed : IsAllowed store_meaning k.progress.catalogue op
    allowed = subst (λ z. IsAllowed store_meaning z op) (sym d.on.catalogue_is) update

    -- the desk x is y, once the operation is posted
    module _ (x y : DeskView) (is : desk_of h.value ≡ Some x) (posts : posted here.caller.slot op x ≡ Some y) (sessions : List K) (one : sessions ≡ t ∷ []) where
      pub may_put : DeskMayBePut PostedThere sessions t (held_place h) (with_desk h.value y)
      may_put = (puts_posted here.caller k t (held_place h) h.value op taken x y is posts sessions one k.progress.catalogue refl allowed rests).may

      -- it is `asked` then
      module _ (l : L) (ns : List SessionNote) (can : Possible store_rules t l ns) (run : RunOf L SessionNote Value) (on : StepsTo t (Put (held_place h) (with_desk h.value y)) (desk_back PostedThere sessions t (held_place h) (with_desk h.value y) l run)) where
        abbrev pub asked : K
        asked = desk_back PostedThere sessions t (held_place h) (with_desk h.value y) l run

        pub has_posted_so : HasPosted k asked op
        has_posted_so =
            has_posted here.caller k t (held_place h) h.value op taken x y is posts sessions one k.progress.catalogue refl allowed rests asked ((puts_posted here.caller k t (held_place h) h.value op taken x y is posts sessions one k.progress.catalogue refl allowed rests).back l ns can run (adds_on t _ _ _ _ on))

        pub posts_so : PostsBy k asked op
        posts_so = posts_by here.caller k t (held_place h) h.value taken x y is asked (stepped_by t asked (Put (held_place h) (with_desk h.value y)) refl refl on) op posts

        pub free_so : IsFree here.caller asked
        free_so = let back = has_posted_so.back in free_by here.caller k asked back.session back.held back.extends d.free

        pub on_so : IsOn here.shared asked
        on_so = shelf_then _ _ _ _ k asked has_posted_so.back.extends d.on

-- ---- the next session

none_there : (i : ℕ) (k : K) → At i k [] → ⊥
none_there i k at = let lt = at_below [] i k at in omega (arith, lt)

pub holds_none : (m : K) → m.held ≡ [] → HoldsNone (m ∷ [])
holds_none m none zero k at = ap (λ (z : K). z.held) (sym (some-injective m k at)) ∙ none
holds_none m none (suc i) k at = absurd (none_there i k at)

module _ (s : StoreSeat) (here : Here) (h : Held Value) (k t : K) (d : HasDesk s here h k t) (place : IsDesk here h) (next : StoreSeat) (m : K) (n : IsNext next here m) where
  abbrev next_caller : Caller
  next_caller = record { node = here.caller.node; slot = n.slot }

  next_may : MayTake store_rules (held_place h) m
  next_may =
      may_take_its_desk m next_caller (held_place h) n.free
      (place.0 ∙ ap (λ z. 1 + z + here.caller.node) (sym n.on.nodes_are))

  pub may_hand : MayHandOn store_rules (held_place h) t m []
  may_hand = (h.value, (taken s here h k t d place).held, holds_none m n.free.held, subst (λ l. store_rules.Allows m.progress m.session (held_place h ∷ map place_of l)) n.free.held next_may.1)

-- ---- a turn, and answers

module _ (s : StoreSeat) (here : Here) (h : Held Value) (k t : K) (d : HasDesk s here h k t) (place : IsDesk here h) (o : Pending) (asked : HasAsked k o) where
  pub asks_there : HasAsked t o
  asks_there = asked_by k t o (taken s here h k t d place).note asked

  module _ (x y : DeskView) (is : desk_of h.value ≡ Some x) (batch : BatchView) (turn : Turn) (had : IsTurn here.caller.slot x y batch turn) (sessions : List K) (one : sessions ≡ t ∷ []) where
    pub turn_may : DeskMayBePut (deed_in sessions (with_desk h.value y)) sessions t (held_place h) (with_desk h.value y)
    turn_may = (turns_there here.caller k t (held_place h) h.value o (taken s here h k t d place) sessions one asked x y is batch turn had).may

    module _ (l : L) (ns : List SessionNote) (can : Possible store_rules t l ns) (run : RunOf L SessionNote Value)
        (on : StepsTo t (Put (held_place h) (with_desk h.value y)) (desk_back (deed_in sessions (with_desk h.value y)) sessions t (held_place h) (with_desk h.value y) l run)) where
      abbrev pub turned : K
      turned = desk_back (deed_in sessions (with_desk h.value y)) sessions t (held_place h) (with_desk h.value y) l run

      pub has_turned_so : HasTurned k turned o batch turn
      has_turned_so = (turns_there here.caller k t (held_place h) h.value o (taken s here h k t d place) sessions one asked x y is batch turn had).back l ns can run (adds_on t _ _ _ _ on)

      pub turns_so : TurnsBy k turned batch turn
      turns_so = turns_by here.caller k t (held_place h) h.value (taken s here h k t d place) x y is turned (stepped_by t turned (Put (held_place h) (with_desk h.value y)) refl refl on) batch turn had

-- what a turn was, after which the desk is put back
pub was_turn : (here : Here) (h : Held Value) (batch : BatchView) (turn : Turn) → ((x : DeskView) → desk_of h.value ≡ Some x → (y : DeskView) × IsTurn here.caller.slot x y batch turn) → IsTurnThere here h batch turn (λ y. Unit {0})
was_turn here h batch turn had x is = let y = had x is in (y.0, y.1, tt)

pub session_turns : (s new : StoreSeat) (here : Here) (h : Held Value) → IsDesk here h → (batch : BatchView) (turn : Turn) → TurnsAndPuts s new here.caller (held_place h) h.value batch turn → SessionTurnsThere s here h batch turn (λ t f. IsSession new f × PutsBack t f)
session_turns s new here h place batch turn turns k t o d asked = let u = turns k t o d.is (taken s here h k t d place) asked in record { after = u.0; is = (u.1, u.4); turned = u.2; turns = u.3 }

module _ (s : StoreSeat) (here : Here) (h : Held Value) (k t : K) (d : HasDesk s here h k t) (place : IsDesk here h) (batch : BatchView) (kept : RepliesView) (ready : IsReady k batch kept) (stands : Stands k) where
  pub ready_there : IsReady t batch kept
  ready_there = let b = taken s here h k t d place in ready_on k t batch kept b.here.notes b.note b.extends stands b.here.accounts ready

  pub is_batch_there : (x : DeskView) → desk_of h.value ≡ Some x → IsBatchOf x (answered_batch kept batch)
  is_batch_there x is = is_batch t batch kept ready_there here.caller.slot x (is_at here.caller k t (held_place h) h.value (taken s here h k t d place) x is)

  module _ (x y : DeskView) (is : desk_of h.value ≡ Some x) (answered : BatchView) (so : answered ≡ answered_batch kept batch) (out : y ≡ replied answered x) (sessions : List K) (one : sessions ≡ t ∷ []) where
    gives : PutsDesk k t sessions RepliedThere (with_desk h.value y) (record t.note { batch = [] }) (held_place h)
    gives = puts_replied here.caller k t (held_place h) h.value batch kept (taken s here h k t d place) ready_there answered x y is so out sessions one

    pub give_may : DeskMayBePut RepliedThere sessions t (held_place h) (with_desk h.value y)
    give_may = gives.may

    module _ (l : L) (ns : List SessionNote) (can : Possible store_rules t l ns) (run : RunOf L SessionNote Value)
        (on : StepsTo t (Put (held_place h) (with_desk h.value y)) (desk_back RepliedThere sessions t (held_place h) (with_desk h.value y) l run)) where
      abbrev pub given : K
      given = desk_back RepliedThere sessions t (held_place h) (with_desk h.value y) l run

      pub has_given : HasCombined k given
      has_given = handed k t given (taken s here h k t d place).note (gives.back l ns can run (adds_on t _ _ _ _ on))

      pub gives_so : HandsOver here.caller.node k given batch kept
      gives_so =
          let b = taken s here h k t d place in
          let at = is_at here.caller k t (held_place h) h.value b x is in
          let becomes : y ≡ replied (answered_batch kept batch) x = out ∙ ap (λ z. replied z x) so in
          hands_over here.caller.node k given batch kept x has_given.extends has_given.stands
          (subst (λ (z : Sizes × ℕ). IsSessionOf z.0 x.node z.1) (λ j. (sym b.extends.config j, b.session j)) (here.caller.slot, at.within, at.own, at.near))
          (is_batch t batch kept ready_there here.caller.slot x at)
          (desk_node here.caller k t (held_place h) h.value b x is)
          (did_at_desk here.caller k t (held_place h) h.value b x (replied (answered_batch kept batch) x) is given (subst (λ z. HasStepped t (Put (held_place h) (with_desk h.value z)) given) becomes (stepped_by t given (Put (held_place h) (with_desk h.value y)) refl refl on)))

      pub free_given : IsFree here.caller given
      free_given = free_by here.caller k given has_given.session has_given.held has_given.extends d.free

      pub on_given : IsOn here.shared given
      on_given = shelf_then _ _ _ _ k given has_given.extends d.on

-- ---- a look, and nothing else

pub spot_of_desk : (here : Here) (k : K) → IsOn here.shared k → 1 + here.shared.nodes + here.caller.node ≡ desk_place k.progress.config here.caller.node
spot_of_desk here k on = ap (λ n. 1 + n + here.caller.node) (sym on.nodes_are)

-- the session has done nothing
pub not_looked : (k : K) → HasLooked k k
not_looked k = record { session = refl; held = refl; note = refl; extends = store_laws.extends_self k.progress; well_formed = λ w. w; visits = Stays k }

-- the session t, which was k, has put its desk back as it was, and is f
pub looked_back : (caller : Caller) (k t : K) (p : ℕ) (v : Value) (b : TookDesk caller k t p v) → IsFree caller k → p ≡ desk_place k.progress.config caller.node → (x : DeskView) → desk_of v ≡ Some x → (f : K) → BackDesk k f k.note → (q : ℕ) → q ≡ p → HasStepped t (Put q v) f → HasLooked k f
looked_back caller k t p v b free place x is f back q at put = record {
  session = back.session;
  held = back.held ∙ sym free.held;
  note = back.note;
  extends = back.extends;
  well_formed = λ _. well_formed f.progress back.stands.notes back.stands.accounts;
  visits = Visit k k f caller.slot x (Stays k) (record {
    own = free.own ∙ ap (λ z. session k.progress.config z caller.slot) (sym (desk_node caller k t p v b x is));
    within = free.within;
    did = subst (λ z. Did k f (takes_and_puts (desk_place k.progress.config z) (ADesk x) (ADesk x))) (sym (desk_node caller k t p v b x is))
        (did_both k t f p q (desk_place k.progress.config caller.node) v v (ADesk x) (ADesk x) b.steps put place (at ∙ place) (desk_part v x is) (desk_part v x is));
  });
}

module _ (caller : Caller) (k t : K) (p : ℕ) (v : Value) (b : TookDesk caller k t p v) (free : IsFree caller k) (place : p ≡ desk_place k.progress.config caller.node) (x : DeskView) (is : desk_of v ≡ Some x) (sessions : List K) (one : sessions ≡ t ∷ [])
    (l : L) (ns : List SessionNote) (can : Possible store_rules t l ns) (run : RunOf L SessionNote Value) where
  abbrev left_at : ℕ → K
  left_at q = record { session = t.session; progress = put_progress sessions (view_of v) l; note = put_note session_noting sessions (view_of v) t.note; held = without q t.held; steps = Put q v ∷ t.steps; run = run }

  pub looked_put : (q : ℕ) → q ≡ p → StepsTo t (Put q v) (left_at q) → HasLooked k (left_at q)
  looked_put q at = subst (λ z. StepsTo t (Put z v) (left_at z) → HasLooked k (left_at z)) (sym at)
      (λ on. looked_back caller k t p v b free place x is (left_at p) (back_same_desk caller k t p v b sessions one v refl l ns can run (adds_on t _ _ _ _ on)) p refl (stepped_by t (left_at p) (Put p v) refl refl on))
