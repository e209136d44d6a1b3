-- What a session did at its desk: it posted, or had its turn; and what it is, once the desk is back.
use Rattle.std.proofs.Common.{◌≡◌, ℕ, ◌+◌, ◌*◌, ◌-◌, ◌<◌, List, [], ◌∷◌, length, sym, refl, ap, ◌∙◌, subst, arith, Option, Some, None, slice_get}
use mathlib.Core.Bool.{false}
use Rattle.std.specs.Option.{option_and_then, option_map}
use Rattle.ownlock.specs.Seats.{At, Continues, Run as RunOf}
use Rattle.ownlock.specs.Knowledge.{Possible}
use Rattle.loader.specs.CatalogueView.{CatalogueView}
use Rattle.oplog.specs.Operations.{Operation}
use Rattle.oplog.specs.Sessions.{session}
use Rattle.combiner.specs.Slots.{claimed_slot}
use Rattle.combiner.specs.Desks.{BatchView, DeskView, answer_in, batch_of, claimed, collected, has_combiner, posted, with_slot}
use Rattle.combiner.specs.Slots.{counted, slot as slot_with}
use Rattle.combiner.specs.declared.slots.Reply.{Reply}
use Rattle.combiner.specs.declared.slots.Slot.{Slot}
use Rattle.combiner.specs.declared.slots.Stage.{Stage}
use Rattle.combiner.specs.declared.slots.Stage.TheVariants.{Empty, Posted, Claimed, Answered}
use Rattle.replica.specs.StoreMeaning.{store_meaning}
use Rattle.accounts.specs.declared.sessions.Pending.{Pending}
use Rattle.accounts.specs.declared.sessions.Progress.{Progress}
use Rattle.accounts.specs.declared.sessions.SessionNote.{SessionNote}
use Rattle.accounts.specs.Values.{TheDesk}
use Rattle.accounts.specs.Accounts.{Extends, IsAllowed}
use Rattle.accounts.specs.Agreement.{StageAgrees}
use Rattle.accounts.specs.DeskNotes.{ClaimedThere, CollectedThere, DeskDeed, Looked, PostedThere, desk_held, desk_in, desk_note, stage_at}
use Rattle.accounts.specs.Moves.{IsAtRest, answered_with, posted_with, unplaced}
use Rattle.accounts.specs.Told.{Tells}
use Rattle.accounts.proofs.Export.{claim_noted, collect_noted, desk_picks, post_noted, collected_is, none_claimed, grown_long, get_of, some_none, at_map}
use Rattle.store_steps.specs.declared.desks.Turn.{Turn}
use Rattle.store_steps.specs.declared.desks.Turn.TheVariants.{Collects, Combines, Waits}
use Rattle.store_steps.specs.declared.steps.Caller.{Caller}
use Rattle.store_steps.specs.declared.values.Value.{Value}
use Rattle.store_steps.specs.AtDesk.{HasAsked, IsAt, IsTurn, MayPost, Steps}
use Rattle.store_steps.specs.Lending.{desk_of, with_desk}
use Rattle.store_steps.specs.Requests.{HasPosted, HasTurned, IsBack, Turns}
use Rattle.store_steps.specs.Views.{request_of}
use Rattle.store_steps.specs.Shelving.{IsSized, store_rules, view_of}
use Rattle.store_steps.specs.Standing.{SessionKnown}
use Rattle.store_steps.specs.Visits.{HasDesk}
use Rattle.store_steps.proofs.AtDesk.{Own, own, post_steps, turn_steps}
use Rattle.store_steps.proofs.Parts.{desk_put}
use Rattle.store_steps.proofs.Resumed.{asked_by}
use Rattle.store_steps.proofs.Requested.{some_claimed, tells_on}
use Rattle.store_steps.proofs.TakenDesk.{BackDesk, DeskMayBePut, PutsDesk, back_desk, back_same_desk, desk_back, is_at, may_put_desk, may_put_same_desk, puts_desk, same_desk}

abbrev K : Type 0
K = SessionKnown

abbrev L : Type 0
L = Progress CatalogueView

pub is_back : (k f : K) (n : SessionNote) → BackDesk k f n → IsBack k f
is_back k f n b = record { session = b.session; held = b.held; extends = b.extends; stands = b.stands }

-- ---- a post

-- the desk x was lent, and is put back as y
module _ (caller : Caller) (k t : K) (p : ℕ) (v : Value) (op : Operation) (b : HasDesk caller k t p v) (x y : DeskView) (lent : desk_of v ≡ Some x) (h : posted caller.slot op x ≡ Some y) (sessions : List K) (is : sessions ≡ t ∷ []) (c : CatalogueView) (of : k.progress.catalogue ≡ c) (may : IsAllowed store_meaning c op) (rests : IsAtRest k.note) where
  abbrev request : Pending
  request = request_of t.progress op

  abbrev waiting : SessionNote
  waiting = posted_with t.note request

  there : posted caller.slot op b.desk ≡ Some y
  there = ap (posted caller.slot op) (same_desk caller k t p v b x lent) ∙ h

  step : Steps t b.desk waiting y
  step = post_steps caller.slot t b.desk y op there b.here (subst IsAtRest (sym b.note) rests) (subst (λ z. IsAllowed store_meaning z op) (sym of ∙ b.extends.catalogue) may)

  pub puts_posted : PutsDesk k t sessions PostedThere (with_desk v y) waiting p
  puts_posted = puts_desk caller k t p v b sessions is PostedThere (with_desk v y) y waiting (desk_put v x y lent) step (post_noted view_of t caller.slot op b.desk y t.note b.here.own there) p refl

  pub has_posted : (f : K) → BackDesk k f waiting → HasPosted k f op
  has_posted f back = record { back = is_back k f waiting back; request = request; op_is = refl; seen = grown_long store_meaning k.progress t.progress b.extends; note = back.note ∙ ap (λ (n : SessionNote). posted_with n request) b.note }

-- who waits for no answer may post there
pub may_post : (caller : Caller) (k t : K) (p : ℕ) (v : Value) (op : Operation) (b : HasDesk caller k t p v) (x : DeskView) → desk_of v ≡ Some x → IsAtRest k.note → (c : CatalogueView) → k.progress.catalogue ≡ c → IsAllowed store_meaning c op
    → (t : K) × IsAt caller.slot t x × MayPost t op
may_post caller k t p v op b x lent none c of may = (t, is_at caller k t p v b x lent, (subst IsAtRest (sym b.note) none, subst (λ z. IsAllowed store_meaning z op) (sym of ∙ b.extends.catalogue) may))

-- ---- a turn

-- what it was, read off the session's own slot
abbrev pub deed_by : Option Stage → Option Stage → DeskDeed
deed_by (Some (Answered reply)) after = CollectedThere
deed_by (Some (Posted op)) (Some Claimed) = ClaimedThere
deed_by before after = Looked

abbrev pub deed_in : List K → Value → DeskDeed
deed_in [] w = Looked
deed_in (k ∷ ks) w = deed_by (option_and_then (stage_at k) (desk_held view_of k.held)) (option_and_then (stage_at k) (desk_in (view_of w)))

own_place : (first s c : ℕ) → c ≡ first + s → c - (first + 0) ≡ s
own_place first s c e = omega (arith, e)

stage_is : (k : K) (s : ℕ) (slot : Slot) (x y : DeskView) → k.session ≡ session k.progress.config x.node s → At s slot y.slots → x.node ≡ y.node → stage_at k y ≡ Some slot.stage
stage_is k s slot x y own at node =
    let here = own_place (y.node * k.progress.config.slots) s k.session (own ∙ ap (λ z. session k.progress.config z s) node) in
    ap (λ i. option_map (λ (z : Slot). z.stage) (slice_get y.slots i)) here ∙ ap (λ o. option_map (λ (z : Slot). z.stage) o) (get_of y.slots s slot at)

module _ (caller : Caller) (k t : K) (p : ℕ) (v w : Value) (o : Pending) (b : HasDesk caller k t p v) (sessions : List K) (is : sessions ≡ t ∷ []) (asked : HasAsked k o) where
  asked_then : HasAsked t o
  asked_then = asked_by k t o b.note asked

  -- the deed, by the stage of the own slot before and after
  deed_is : (y : DeskView) (before after : Slot) → view_of w ≡ TheDesk y → At caller.slot before b.desk.slots → At caller.slot after y.slots → b.desk.node ≡ y.node → deed_in sessions w ≡ deed_by (Some before.stage) (Some after.stage)
  deed_is y before after isw at_x at_y node =
      let taken = ap (λ z. option_and_then (stage_at t) (desk_held view_of z)) b.held ∙ (ap (λ z. option_and_then (stage_at t) (desk_in z)) b.seen ∙ stage_is t caller.slot before b.desk b.desk b.here.own at_x refl) in
      let now = ap (λ z. option_and_then (stage_at t) (desk_in z)) isw ∙ stage_is t caller.slot after b.desk y b.here.own at_y node in
      ap (λ z. deed_in z w) is ∙ (λ i. deed_by (taken i) (now i))

  -- the own slot, where no answer waits
  no_answer : (slot : Slot) (reply : Reply) → At caller.slot slot b.desk.slots → collected caller.slot b.desk ≡ None → slot.stage ≡ Answered reply → ⊥
  no_answer slot reply at none e =
      some_none _ (collected caller.slot b.desk)
      (ap (option_and_then (λ (z : Slot). option_map (λ r. record { reply = r; desk = with_slot b.desk caller.slot (slot_with Empty (counted r z.count)) }) (answer_in z.stage))) (get_of b.desk.slots caller.slot slot at)
      ∙ ap (λ z. option_map (λ r. record { reply = r; desk = with_slot b.desk caller.slot (slot_with Empty (counted r slot.count)) }) (answer_in z)) e) none

  module _ (y : DeskView) (isw : view_of w ≡ TheDesk y) where
    claim_deed : collected caller.slot b.desk ≡ None → has_combiner b.desk ≡ false → y ≡ claimed b.desk → deed_in sessions w ≡ ClaimedThere
    claim_deed none free now = by m.found.stage refl m.stage
      where
        m : Own caller.slot t b.desk b.here
        m = own caller.slot t b.desk b.here

        by : (st : Stage) → m.found.stage ≡ st → StageAgrees store_meaning t.progress b.here.notes b.here.agrees.combiner t.session t.note st → deed_in sessions w ≡ ClaimedThere
        by Empty e waits = absurd (some_none o t.note.pending asked_then.pending waits)
        by (Posted op) e waits =
            deed_is y m.found (claimed_slot m.found) isw m.at (subst (λ (z : DeskView). At caller.slot (claimed_slot m.found) z.slots) (sym now) (at_map claimed_slot b.desk.slots caller.slot m.found m.at)) (ap (λ (z : DeskView). z.node) (sym now))
            ∙ ap (λ z. deed_by (Some z) (Some (claimed_slot (slot_with z m.found.count)).stage)) e
        by Claimed e waits = absurd (none_claimed b.desk.slots free caller.slot m.found m.at e)
        by (Answered reply) e waits = absurd (no_answer m.found reply m.at none e)

    look_deed : collected caller.slot b.desk ≡ None → y ≡ b.desk → deed_in sessions w ≡ Looked
    look_deed none same = deed_is y m.found m.found isw m.at (subst (λ (z : DeskView). At caller.slot m.found z.slots) (sym same) m.at) (ap (λ (z : DeskView). z.node) (sym same)) ∙ by m.found.stage refl
      where
        m : Own caller.slot t b.desk b.here
        m = own caller.slot t b.desk b.here

        by : (st : Stage) → m.found.stage ≡ st → deed_by (Some m.found.stage) (Some m.found.stage) ≡ Looked
        by Empty e = ap (λ z. deed_by (Some z) (Some z)) e
        by (Posted op) e = ap (λ z. deed_by (Some z) (Some z)) e
        by Claimed e = ap (λ z. deed_by (Some z) (Some z)) e
        by (Answered reply) e = absurd (no_answer m.found reply m.at none e)

    collect_deed : (reply : Reply) → collected caller.slot b.desk ≡ Some (record { reply = reply; desk = y }) → deed_in sessions w ≡ CollectedThere
    collect_deed reply collects =
        let m = collected_is caller.slot reply b.desk y collects in
        let taken = ap (λ z. option_and_then (stage_at t) (desk_held view_of z)) b.held ∙ (ap (λ z. option_and_then (stage_at t) (desk_in z)) b.seen ∙ stage_is t caller.slot m.0 b.desk b.desk b.here.own m.1 refl) in
        let after = option_and_then (stage_at t) (desk_in (view_of w)) in
        ap (λ z. deed_in z w) is ∙ (ap (λ z. deed_by z after) taken ∙ ap (λ z. deed_by (Some z) after) m.2)

  -- what the turn comes to
  pub record Put (batch : BatchView) (turn : Turn) : Type 0 where
    pub may : DeskMayBePut (deed_in sessions w) sessions t p w
    pub back : (l : L) (ns : List SessionNote) → Possible store_rules t l ns → (run : RunOf L SessionNote Value) → Continues t.run run → HasTurned k (desk_back (deed_in sessions w) sessions t p w l run) o batch turn

  -- one that is noted
  noted_put : (batch : BatchView) (turn : Turn) (deed : DeskDeed) (y : DeskView) (n : SessionNote) → view_of w ≡ TheDesk y → Steps t b.desk n y → desk_note view_of deed t y t.note ≡ n → deed_in sessions w ≡ deed
      → ((f : K) → f.note ≡ n → Extends t.progress f.progress → IsBack k f → Turns k f o batch turn) → Put batch turn
  noted_put batch turn deed y n isw step noted deed_eq tells = record {
    may = subst (λ d. DeskMayBePut d sessions t p w) (sym deed_eq) (may_put_desk caller k t p v b sessions is deed w y n isw step noted);
    back = λ l ns can run on.
        let f = back_desk caller k t p v b sessions is deed w y n isw step noted l ns can run on in
        let same = ap (λ g. g l) (desk_picks store_meaning view_of IsSized deed sessions t w y is isw).0 in
        subst (λ d. HasTurned k (desk_back d sessions t p w l run) o batch turn) (sym deed_eq)
        (record { back = is_back k _ n f; turns = tells _ f.note (subst (λ z. Extends t.progress z) (sym same) can.0.0) (is_back k _ n f) });
  }

  put_turn : (y : DeskView) → view_of w ≡ TheDesk y → (batch : BatchView) (turn : Turn) → IsTurn caller.slot b.desk y batch turn → Put batch turn
  put_turn y isw batch = by
    where
      by : (turn : Turn) → IsTurn caller.slot b.desk y batch turn → Put batch turn
      by (Collects reply) i =
          let steps = turn_steps caller.slot t o b.desk y batch (Collects reply) i b.here asked_then in
          noted_put batch (Collects reply) CollectedThere y (answered_with t.note o.op reply) isw steps.0 (collect_noted view_of t p caller.slot v o reply b.desk y t.note b.held b.seen b.here.own asked_then.pending i) (collect_deed y isw reply i)
          (λ f note on back. (
            note ∙ ap (λ (n : SessionNote). answered_with n o.op reply) b.note,
            subst (λ (z : ℕ × SessionNote). Tells store_meaning f.progress z.0 (length z.1.answered) o reply) (λ j. (b.session j, b.note j))
                (tells_on t.progress f.progress back.stands.notes t.session (length t.note.answered) o reply b.here.accounts.completed on back.stands.accounts steps.1),
          ))
      by Combines i =
          let steps = turn_steps caller.slot t o b.desk y batch Combines i b.here asked_then in
          let same : unplaced (batch_of b.desk).records ≡ unplaced batch.records = ap (λ (z : BatchView). unplaced z.records) (sym i.4) in
          noted_put batch Combines ClaimedThere y (record t.note { batch = unplaced batch.records }) isw steps.0 (claim_noted view_of t p v b.desk y t.note b.held b.seen ∙ ap (λ z. record t.note { batch = z }) same) (claim_deed y isw i.0 i.1 i.3)
          (λ f note on back. (
            note ∙ ap (λ (n : SessionNote). record n { batch = unplaced batch.records }) b.note,
            subst (λ (z : BatchView). 0 < length z.records) (sym i.4) (some_claimed b.desk i.2),
            steps.1,
          ))
      by Waits i =
          let same : view_of w ≡ view_of v = isw ∙ (ap TheDesk i.2 ∙ sym b.seen) in
          let deed = look_deed y isw i.0 i.2 in record {
            may = subst (λ d. DeskMayBePut d sessions t p w) (sym deed) (may_put_same_desk caller k t p v b sessions is w same);
            back = λ l ns can run on.
                let f = back_same_desk caller k t p v b sessions is w same l ns can run on in
                subst (λ d. HasTurned k (desk_back d sessions t p w l run) o batch Waits) (sym deed) (record { back = is_back k _ k.note f; turns = f.note });
          }

-- the desk x was lent, and is put back as y
pub turns_there : (caller : Caller) (k t : K) (p : ℕ) (v : Value) (o : Pending) (b : HasDesk caller k t p v) (sessions : List K) (is : sessions ≡ t ∷ []) (asked : HasAsked k o) (x y : DeskView) → desk_of v ≡ Some x → (batch : BatchView) (turn : Turn) → IsTurn caller.slot x y batch turn
    → Put caller k t p v (with_desk v y) o b sessions is asked batch turn
turns_there caller k t p v o b sessions is asked x y lent batch turn h =
    put_turn caller k t p v (with_desk v y) o b sessions is asked y (desk_put v x y lent) batch turn (subst (λ z. IsTurn caller.slot z y batch turn) (sym (same_desk caller k t p v b x lent)) h)
