-- What a session notes at its desk goes with the step that it did there.
use Rattle.std.proofs.Common.{◌≡◌, ℕ, ◌+◌, ◌*◌, ◌-◌, [], ◌∷◌, length, map, take, sym, refl, ap, ◌∙◌, subst, arith, Some, slice_get}
use Rattle.std.proofs.lemmas.List.{length-map, length-take-le}
use Rattle.std.specs.Option.{option_and_then, option_map}
use Rattle.atomic_table.proofs.Lists.{set_here}
use Rattle.ownlock.specs.declared.known.Known.{Known}
use Rattle.ownlock.specs.Seats.{At}
use Rattle.oplog.specs.declared.configuration.Sizes.{Sizes}
use Rattle.oplog.specs.Sessions.{session}
use Rattle.oplog.specs.History.{Meaning}
use Rattle.combiner.specs.Desks.{DeskView, answer_in}
use Rattle.combiner.specs.declared.slots.Slot.{Slot}
use Rattle.combiner.specs.declared.slots.Stage.TheVariants.{Posted}
use Rattle.accounts.specs.declared.sessions.Progress.{Progress}
use Rattle.accounts.specs.declared.sessions.SessionNote.{SessionNote}
use Rattle.accounts.specs.Values.{StoreValue, TheDesk}
use Rattle.accounts.specs.Moves.{desk_rules, placed_from, record_of, unplaced}
use Rattle.accounts.specs.StoreRules.{IsNoting, MayAppend}
use Rattle.accounts.specs.Picks.{put_progress, put_note}
use Rattle.accounts.specs.DeskNotes.{Looked, desk_noting, desk_in, desk_held, noted_answer, noted_request, request_in, requests_in, stage_at, PostNoted, ClaimNoted, CollectNoted, DeskPicked, DeskIs, BatchNoted}
use Rattle.accounts.proofs.Desks.{posted_is, collected_is}
use Rattle.accounts.proofs.Lists.{get_of}
use Rattle.accounts.proofs.Puts.{seen_desk_may_put}
use Rattle.accounts.proofs.StoreRules.{batch_appends, desk_store}
use Rattle.accounts.proofs.Picked.{picked}
use Rattle.ownlock.proofs.Export.{at_below}

-- the slot of a session, from the number of its node's first session
own_slot : (first a s c : ℕ) → c ≡ first + s → c - (first + 0) ≡ s
own_slot first a s c e = omega (arith, e)

module _ {C M V : Type 0} (view : V → StoreValue M) where
  stage_is : (k : Known (Progress C) SessionNote V) (s : ℕ) (slot : Slot) (x y : DeskView) → k.session ≡ session k.progress.config x.node s → At s slot y.slots → x.node ≡ y.node → stage_at k y ≡ Some slot.stage
  stage_is k s slot x y own at node =
      let here = own_slot (y.node * k.progress.config.slots) 0 s k.session (own ∙ ap (λ z. session k.progress.config z s) node) in
      ap (λ i. option_map (λ (z : Slot). z.stage) (slice_get y.slots i)) here ∙ ap (λ o. option_map (λ (z : Slot). z.stage) o) (get_of y.slots s slot at)

  pub post_noted : PostNoted C view
  post_noted k s op x y n own posts =
      let p = posted_is s op x y posts in
      let slot : Slot = record { stage = Posted op; count = p.0.count } in
      let at : At s slot y.slots = subst (λ (z : DeskView). At s slot z.slots) (sym p.3) (set_here x.slots s slot (at_below x.slots s p.0 p.1)) in
      let stage = stage_is k s slot x y own at (ap (λ (z : DeskView). z.node) (sym p.3)) in
      ap (λ o. noted_request (length k.progress.history) (option_and_then request_in o) n) stage

  desk_is : (k : Known (Progress C) SessionNote V) (p : ℕ) (v : V) (x : DeskView) → k.held ≡ (p, v) ∷ [] → view v ≡ TheDesk x → desk_held view k.held ≡ Some x
  desk_is k p v x held is = ap (desk_held view) held ∙ ap desk_in is

  pub claim_noted : ClaimNoted C view
  claim_noted k p v x y n held is = ap (λ o. record n { batch = unplaced (requests_in o) }) (desk_is k p v x held is)

  pub collect_noted : CollectNoted C view
  collect_noted k p s v o reply x y n held is own asked collects =
      let c = collected_is s reply x y collects in
      let stage = ap (λ d. option_and_then answer_in (option_and_then (stage_at k) d)) (desk_is k p v x held is) ∙ ap (option_and_then answer_in) (stage_is k s c.0 x x own c.1 refl ∙ ap Some c.2) in
      ap (λ a. noted_answer a n.pending n) stage ∙ ap (λ q. noted_answer (Some reply) q n) asked

  -- who only looks at a desk notes nothing of it
  pub desk_notes : IsNoting {C = C} view (desk_noting view Looked)
  desk_notes = record { none = λ i n. refl; same = λ k a p v y at is. refl }

module _ {C M V : Type 0} (E : Meaning C M) (view : V → StoreValue M) (IsSized : Sizes → C → V → Type 0) where
  pub desk_picks : DeskIs E view IsSized
  desk_picks deed sessions k w y is isw = (
    ap (λ s. put_progress s (view w)) is ∙ ap (λ z. put_progress (k ∷ []) z) isw,
    ap (λ s. put_note (desk_noting view deed) s (view w)) is ∙ ap (λ z. put_note (desk_noting view deed) (k ∷ []) z) isw,
  )

  pub desk_picked : DeskPicked E view IsSized
  desk_picked deed sessions k p v w x y n' h noted is =
      let e = desk_picks deed sessions k w y is h.becomes in
      picked (desk_store E) view (desk_notes view) IsSized _ _ (put_note (desk_noting view deed) sessions (view w)) (λ _. n') k p w e.0 (ap (λ g. g k.note) e.1 ∙ noted) (seen_desk_may_put E view IsSized k p v w x y n' h)

  pub batch_noted : BatchNoted E view IsSized
  batch_noted deed known c n x y k s =
      let long : length (map record_of (take k n.batch)) ≡ k = length-map (take k n.batch) record_of ∙ length-take-le k n.batch s.count in
      subst (λ i. MayAppend (desk_rules E) known c n (map record_of (take k n.batch)) (record n { batch = placed_from (length known.history) i n.batch })) (sym long) (batch_appends E known c n x y k s)
