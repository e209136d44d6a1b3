-- One line of a transcript, from what the node answers.
use Rattle.std.proofs.Common.{◌≡◌, ℕ, Bool, true, false, eqb, ltb, length, Option, Some, refl, sym, ap, subst, ◌∙◌, arith, None}
use Rattle.std.specs.Prelude.{option_map}
use Rattle.std.specs.Option.{option_map_or}
use Rattle.std.proofs.lemmas.Bool.{ltb-true, eqb-true, false≢true, false_from_ne_true}
use Rattle.loader.specs.StoreState.{StoreState}
use Rattle.verifier.specs.declared.refusal.Mode.TheVariants.{Update, Read}
use Rattle.machine.specs.Effects.{effect_of}
use Rattle.machine.specs.declared.running.Outcome.{Outcome}
use Rattle.loader.specs.CatalogueView.{CatalogueView}
use Rattle.oplog.specs.declared.configuration.TheConstants.{MAX_LIMIT}
use Rattle.oplog.specs.Calls.{Call}
use Rattle.oplog.specs.Operations.{Operation}
use Rattle.oplog.specs.declared.records.Op.TheVariants.{Run}
use Rattle.oplog.specs.Logs.{tail_of}
use Rattle.oplog.specs.History.{Effect, reply_at, read_reply_at}
use Rattle.replica.specs.StoreMeaning.{run_of, store_meaning}
use Rattle.replaying.specs.declared.lines.Due.{Due}
use Rattle.replaying.specs.declared.lines.Replaying.{Replaying}
use Rattle.running.specs.declared.single_node.SingleNode.{SingleNode}
use Rattle.running.specs.Running.{Follows, IsUpdated, HasEnded}
use Rattle.replaying.specs.ReplayAnswer.{Replayed, update_agrees, read_agrees, with_update, next_count}
use Rattle.replaying.specs.Noted.{due_at}
use Rattle.replaying.specs.Replaying.{HasReplayed, IsCompared}
use Rattle.running.proofs.Export.{here, effect_here, has_room, updated_follows}

-- whether this reply was told
abbrev is_reply : ℕ → Option ℕ → Bool
is_reply reply o = option_map_or (λ r. eqb r reply) o false

same_index : (n : ℕ) → eqb n n ≡ true
same_index n = by_test (eqb n n) refl
  where
    by_test : (b : Bool) → eqb n n ≡ b → eqb n n ≡ true
    by_test true is = is
    by_test false is = grind (arith, is)

module _ (c : CatalogueView) (at : Replayed) (op : Operation) (index reply : ℕ) (old : Replaying) (has : HasReplayed c at old) where
  -- a line that tells another index
  away : (index ≡ tail_of old.node.log → ⊥) → eqb index (length at.history) ≡ false
  away other = false_from_ne_true (eqb index (length at.history)) (λ e. other (eqb-true index (length at.history) e ∙ sym has.placed.count))

  pub read_elsewhere : (new : Replaying) → (index ≡ tail_of old.node.log → ⊥) → IsCompared c (read_agrees c at.history op index reply) (record at { reads = next_count at.reads }) false new
  read_elsewhere new other = rw (away other) (record { told = refl; goes_on = λ on. absurd (false≢true on) })

  module _ (new : Replaying) (is : index ≡ tail_of old.node.log) where
    on_index : eqb index (length at.history) ≡ true
    on_index = subst (λ n. eqb index n ≡ true) (is ∙ has.placed.count) (same_index index)

    -- an update that was applied
    pub submitted : (o : Outcome) → IsUpdated c op old.node new.node o → new.reads ≡ old.reads → new.ended ≡ old.ended
        → IsCompared c (update_agrees c at.history op index reply) (with_update at op) (eqb o.reply reply) new
    submitted o u reads ended =
        let there = on_index in
        let room = has_room MAX_LIMIT c at.history old.node has.placed op new.node o u in
        let effect = effect_here MAX_LIMIT c at.history old.node has.placed op new.node o u in
        let replies : is_reply reply (reply_at store_meaning c at.history (length at.history) op) ≡ eqb o.reply reply =
        ap (λ (e : Option (Effect StoreState)). is_reply reply (option_map (λ x. x.reply) e)) effect ∙ ap (λ (x : Outcome). eqb x.reply reply) (sym u.outcome) in
        let agrees : update_agrees c at.history op index reply ≡ eqb o.reply reply = rw (there, room) replies in
        record {
          told = sym agrees;
          goes_on = λ on. record { placed = updated_follows MAX_LIMIT c at.history old.node has.placed op new.node o u; reads = reads ∙ has.reads; ended = ended ∙ has.ended };
        }

    -- a read
    pub queried : (call : Call) (o : Outcome) → op ≡ Run call → run_of Read c call old.node.own.replica.state ≡ Some (effect_of o.steps o.reply old.node.own.replica.state.maps)
        → new.node ≡ old.node → new.reads ≡ next_count old.reads → new.ended ≡ old.ended
        → IsCompared c (read_agrees c at.history op index reply) (record at { reads = next_count at.reads }) (eqb o.reply reply) new
    queried call o is_call ran node reads ended =
        let there = on_index in
        let told_here : read_reply_at store_meaning c at.history (length at.history) op ≡ Some o.reply =
        ap (λ (x : StoreState). option_map (λ e. e.reply) (store_meaning.read c op x)) (here MAX_LIMIT c at.history old.node has.placed) ∙ rw (is_call, ran) refl in
        let agrees : read_agrees c at.history op index reply ≡ eqb o.reply reply = rw there (ap (is_reply reply) told_here) in
        record {
          told = sym agrees;
          goes_on = λ on. record { placed = subst (λ n. Follows MAX_LIMIT c at.history n) (sym node) has.placed; reads = reads ∙ ap next_count has.reads; ended = ended ∙ has.ended };
        }

-- what an operation should tell, from what the node answers to it
module _ (c : CatalogueView) (at : Replayed) (op : Operation) (old : Replaying) (has : HasReplayed c at old) where
  -- an update that was applied
  pub due_applied : (m : SingleNode) (o : Outcome) → IsUpdated c op old.node m o → (due : Due) → due ≡ record { mode = Update; place = tail_of old.node.log; reply = Some o.reply } → due ≡ due_at c Update at.history op
  due_applied m o u due is =
      let room = has_room MAX_LIMIT c at.history old.node has.placed op m o u in
      let effect = effect_here MAX_LIMIT c at.history old.node has.placed op m o u in
      let replies : reply_at store_meaning c at.history (length at.history) op ≡ Some o.reply =
      ap (λ (e : Option (Effect StoreState)). option_map (λ x. x.reply) e) effect ∙ ap (λ (x : Outcome). Some x.reply) (sym u.outcome) in
      is ∙ rw (has.placed.count, room, replies) refl

  -- an update for which the history has no room
  pub due_full : (m : SingleNode) → HasEnded old.node m → (due : Due) → due ≡ record { mode = Update; place = tail_of old.node.log; reply = None } → due ≡ due_at c Update at.history op
  due_full m end due is =
      let limit = end.full ∙ has.placed.limit_is in
      let count = has.placed.count in
      let none : ltb (length at.history) MAX_LIMIT ≡ false = false_from_ne_true (ltb (length at.history) MAX_LIMIT) (λ e. let low = ltb-true (length at.history) MAX_LIMIT e in omega (arith, low, limit, count)) in
      is ∙ rw (count, none) refl

  -- a read
  pub due_queried : (call : Call) (o : Outcome) → op ≡ Run call → run_of Read c call old.node.own.replica.state ≡ Some (effect_of o.steps o.reply old.node.own.replica.state.maps)
      → (due : Due) → due ≡ record { mode = Read; place = tail_of old.node.log; reply = Some o.reply } → due ≡ due_at c Read at.history op
  due_queried call o is_call ran due is =
      let told_here : read_reply_at store_meaning c at.history (length at.history) op ≡ Some o.reply =
      ap (λ (x : StoreState). option_map (λ e. e.reply) (store_meaning.read c op x)) (here MAX_LIMIT c at.history old.node has.placed) ∙ rw (is_call, ran) refl in
      is ∙ rw (has.placed.count, told_here) refl
