-- The calls of a transcript agree, one after the other.
use Rattle.std.proofs.Common.{◌≡◌, ◌∙◌, ℕ, zero, suc, ◌<◌, ◌≤◌, Bool, true, false, eqb, ltb, ◌&&◌, List, [], ◌∷◌, ◌++◌, map, length, take, get_or, Option, Some, None, refl, sym, ap, ap₂, subst, arith}
use Rattle.std.specs.Prelude.{option_map, if◌then◌else◌}
use Rattle.std.specs.Option.{option_map_or}
use Rattle.std.specs.List.{All}
use Rattle.std.proofs.lemmas.Bool.{eq-eqb, lt-ltb}
use Rattle.std.proofs.lemmas.List.{length-append}
use Rattle.std.proofs.lemmas.List.Elements.{All-head, All-tail}
use mathlib.Core.Option.{some-injective}
use Rattle.ownlock.specs.Seats.{At}
use Rattle.accounts.proofs.Export.{at_below, at_none}
use Rattle.loader.specs.CatalogueView.{CatalogueView, opening_state}
use Rattle.loader.specs.StoreState.{StoreState}
use Rattle.oplog.specs.declared.configuration.TheConstants.{MAX_LIMIT}
use Rattle.oplog.specs.Operations.{Operation}
use Rattle.oplog.specs.declared.records.Record.{Record}
use Rattle.oplog.specs.History.{Effect, ReadEffect, History, left_by, after, state_after, reply_at, read_reply_at}
use Rattle.replica.specs.StoreMeaning.{store_meaning}
use Rattle.running.specs.RunAnswer.{with_operation}
use Rattle.replaying.specs.ReplayAnswer.{Replayed, Agrees, Differs, next_count, nothing_replayed, read_agrees, update_agrees, with_update}
use Rattle.running.proofs.Export.{whole}
use Rattle.stress.specs.Lines.{Said, Updated, Seen, Ended, ToldCall}
use Rattle.stress.specs.OneHistory.{Holds}
use Rattle.stress.specs.Playing.{IsSo}
use Rattle.stress.specs.Replayed.{Agree, TranscriptsAgree, told_outcome}
use Rattle.stress.proofs.Places.{StandFrom, Stands, Within, in_places, next_place}

-- ---- histories of the same operations

abbrev ops : History → List Operation
ops h = map (λ (r : Record). r.op) h

same_after : (c : CatalogueView) (s : StoreState) (xs ys : History) → ops xs ≡ ops ys → after store_meaning c s xs ≡ after store_meaning c s ys
same_after c s [] [] e = refl
same_after c s [] (y ∷ ys) e = absurd cc
same_after c s (x ∷ xs) [] e = absurd cc
same_after c s (x ∷ xs) (y ∷ ys) e =
    let first : x.op ≡ y.op = cc in
    let rest : ops xs ≡ ops ys = cc in
    ap (λ op. after store_meaning c (left_by (store_meaning.update c op s) s) xs) first ∙ same_after c (left_by (store_meaning.update c y.op s) s) xs ys rest

same_state : (c : CatalogueView) (g h : History) (u : ℕ) → ops g ≡ ops (take u h) → state_after store_meaning c g (length g) ≡ state_after store_meaning c h u
same_state c g h u e = whole c g ∙ same_after c (opening_state c) g (take u h) e

take_one : (h : History) (u : ℕ) (r : Record) → At u r h → take (suc u) h ≡ take u h ++ r ∷ []
take_one [] u r at = absurd (at_none u r at)
take_one (x ∷ h) zero r at = ap (λ y. y ∷ []) (some-injective x r at)
take_one (x ∷ h) (suc u) r at = ap (λ rest. x ∷ rest) (take_one h u r at)

ops_append : (xs ys : History) → ops (xs ++ ys) ≡ ops xs ++ ops ys
ops_append [] ys = refl
ops_append (x ∷ xs) ys = ap (λ rest. x.op ∷ rest) (ops_append xs ys)

-- ---- one line

both : (a b : Bool) → a ≡ true → b ≡ true → a && b ≡ true
both true true e f = refl
both true false e f = absurd cc
both false b e f = absurd cc

replies : (reply : ℕ) (o : Option ℕ) → o ≡ Some reply → option_map_or (λ r. eqb r reply) o false ≡ true
replies reply None e = absurd cc
replies reply (Some r) e = let same : r ≡ reply = cc in eq-eqb r reply same

agrees : (b : Bool) (to : Replayed) → b ≡ true → (if b then Agrees to else Differs) ≡ Agrees to
agrees true to e = refl
agrees false to e = absurd cc

module _ (c : CatalogueView) (limit : ℕ) (h : History) (few : length h ≤ limit) (small : limit ≤ MAX_LIMIT) where
  -- so much of the history was replayed
  abbrev Known : ℕ → Replayed → Type 0
  Known u at = (ops at.history ≡ ops (take u h)) × (length at.history ≡ u)

  abbrev Next : ℕ → Replayed → Operation → Said → Type 0
  Next u at op said = (next : Replayed) × (told_outcome c at op said ≡ Agrees next) × Known (next_place u said) next

  one_line : (u : ℕ) (at : Replayed) (op : Operation) (said : Said) → Known u at → Stands u said → Within 0 (length h) said → Holds c limit h op said → Next u at op said
  one_line u at op (Updated index reply) known stands within holds =
      let place : index ≡ length at.history = omega (arith, stands, known.1) in
      let room : length at.history < MAX_LIMIT = omega (arith, within.1, place) in
      let told : reply_at store_meaning c at.history (length at.history) op ≡ Some reply = ap (λ (s : StoreState). option_map (λ (e : Effect StoreState). e.reply) (store_meaning.update c op s)) (same_state c at.history h u known.0 ∙ ap (state_after store_meaning c h) (sym stands)) ∙ holds.1 in
      let good : update_agrees c at.history op index reply ≡ true = both (eqb index (length at.history)) _ (eq-eqb _ _ place) (both (ltb (length at.history) MAX_LIMIT) _ (lt-ltb _ _ room) (replies reply (reply_at store_meaning c at.history (length at.history) op) told)) in
      let r = holds.0.0 in
      let here : At u r h = subst (λ i. At i r h) stands holds.0.1 in
      let grown : ops (with_operation at.history op) ≡ ops (take (suc u) h) =
      ops_append at.history _ ∙ ap₂ (λ (xs : List Operation) (o : Operation). xs ++ o ∷ []) known.0 (sym holds.0.2) ∙ sym (ops_append (take u h) (r ∷ [])) ∙ ap ops (sym (take_one h u r here)) in
      let long : length (with_operation at.history op) ≡ suc u = omega (arith, length-append at.history (record { author = 0; seq = length at.history; op = op } ∷ []), known.1) in
      (with_update at op, agrees (update_agrees c at.history op index reply) (with_update at op) good, (grown, long))
  one_line u at op (Seen point reply) known stands within holds =
      let place : point ≡ length at.history = omega (arith, stands, known.1) in
      let told : read_reply_at store_meaning c at.history (length at.history) op ≡ Some reply = ap (λ (s : StoreState). option_map (λ (e : ReadEffect). e.reply) (store_meaning.read c op s)) (same_state c at.history h u known.0 ∙ ap (state_after store_meaning c h) (sym stands)) ∙ holds.1 in
      let good : read_agrees c at.history op point reply ≡ true = both (eqb point (length at.history)) _ (eq-eqb _ _ place) (replies reply (read_reply_at store_meaning c at.history (length at.history) op) told) in
      (record at { reads = next_count at.reads }, agrees (read_agrees c at.history op point reply) (record at { reads = next_count at.reads }) good, known)
  one_line u at op Ended known stands within holds = (record at { ended = next_count at.ended }, refl, known)

  -- ---- all lines

  all_lines : (u : ℕ) (at : Replayed) (told : List ToldCall) → Known u at → StandFrom u told → All (λ t. Within 0 (length h) t.said) told → All (IsSo c limit h) told → Agree c at told
  all_lines u at [] known stand within so = tt
  all_lines u at (t ∷ ts) known stand within so =
      let first = All-head (IsSo c limit h) t ts so in
      let inside = All-head (λ t. Within 0 (length h) t.said) t ts within in
      let line = one_line u at first.0 t.said known stand.0 inside first.2 in
      (first.0, line.0, first.1, line.1, all_lines (next_place u t.said) line.0 ts line.2 stand.1 (All-tail (λ t. Within 0 (length h) t.said) t ts within) (All-tail (IsSo c limit h) t ts so))

-- what holds of a call in a history is within it
held_within : (c : CatalogueView) (limit : ℕ) (h : History) (op : Operation) (said : Said) → Holds c limit h op said → Within 0 (length h) said
held_within c limit h op (Updated index reply) holds = (omega arith, at_below h index holds.0.0 holds.0.1)
held_within c limit h op (Seen point reply) holds = (omega arith, holds.0)
held_within c limit h op Ended holds = tt

pub transcripts_agree : TranscriptsAgree
transcripts_agree config c calls a sizes t =
    let one = t.of_one in
    let h = one.history in
    let within : All (λ t. Within 0 (length h) t.said) t.told = λ k d below. let so = one.so k d below in held_within c config.limit h so.0 (get_or t.told k d).said so.2 in
    let stand = in_places 0 (length h) t.told t.ordered within (λ i low below. one.shown i below) in
    all_lines c config.limit h one.within sizes.limit.1 0 nothing_replayed t.told (refl, refl) stand within one.so
