-- What a call writes and leaves, from what the node answers.
use Rattle.std.proofs.Common.{◌≡◌, ℕ, ◌+◌, true, List, [], ◌∷◌, ◌++◌, length, Option, Some, Result, Ok, Err, refl, sym, ap, ◌∙◌, arith, ltb}
use Rattle.std.specs.Prelude.{OnOk, ◌==◌, if◌then◌else◌}
use Rattle.std.specs.Option.{option_map_or}
use Rattle.std.proofs.lemmas.Bool.{lt-ltb}
use Rattle.std.proofs.lemmas.List.{length-append, take_all}
use Rattle.loader.specs.StoreState.{StoreState}
use Rattle.machine.specs.declared.running.Outcome.{Outcome}
use Rattle.loader.specs.CatalogueView.{CatalogueView, opening_state}
use Rattle.oplog.specs.Operations.{Operation}
use Rattle.oplog.specs.Logs.{tail_of}
use Rattle.oplog.specs.History.{Meaning, Effect, History, left_by, after, state_after, effect_at}
use Rattle.replica.specs.StoreMeaning.{store_meaning}
use Rattle.running.specs.declared.single_node.SingleNode.{SingleNode}
use Rattle.verifier.specs.Accepted.{Checked}
use Rattle.oplog.specs.Calls.{Call}
use Rattle.oplog.specs.declared.records.Op.TheVariants.{Run}
use Rattle.replica.specs.declared.refusals.StoreRefused.TheVariants.{UnknownProgram, ArgumentLength}
use Rattle.running.specs.RunAnswer.{Turn, with_operation, update_text, install_text, performed, refused, submitted}
use Rattle.running.specs.Running.{Follows, IsUpdated, IsTaken}

-- the line of an effect: of an update, and of an install
abbrev pub update_told : ℕ → Effect StoreState → List ℕ
update_told index e = update_text index e.reply e.steps

abbrev pub install_told : ℕ → Effect StoreState → List ℕ
install_told index e = install_text index e.reply

-- what a call does, by its program
abbrev pub performed_by : ℕ → CatalogueView → History → Call → Option Checked → Turn
performed_by limit c h call o =
    option_map_or (λ program. if length call.argument == program.arg_len then performed limit c h (Run call) program.mode else refused h ArgumentLength) o (refused h UnknownProgram)

-- the state after one history and then another
pub after_append : {C M : Type 0} (E : Meaning C M) (c : C) (state : M) (h : History) (rs : History) → after E c state (h ++ rs) ≡ after E c (after E c state h) rs
after_append E c state [] rs = refl
after_append E c state (x ∷ h) rs = after_append E c (left_by (E.update c x.op state) state) h rs

-- the state after a whole history
pub whole : (c : CatalogueView) (h : History) → state_after store_meaning c h (length h) ≡ after store_meaning c (opening_state c) h
whole c h = ap (λ (x : History). after store_meaning c (opening_state c) x) (take_all (length h) h (omega arith))

on_ok : {A E : Type 0} (r : Result A E) (P Q : Type 0) → (P → Q) → OnOk r P → OnOk r Q
on_ok (Ok x) P Q f p = f p
on_ok (Err e) P Q f p = tt

module _ (limit : ℕ) (c : CatalogueView) (h : History) (n : SingleNode) (follows : Follows limit c h n) where
  pub here : state_after store_meaning c h (length h) ≡ n.own.replica.state
  here = whole c h ∙ sym follows.state

  -- the effect of an update that the node applied, and the history that it then has behind it
  module _ (op : Operation) (m : SingleNode) (o : Outcome) (u : IsUpdated c op n m o) where
    pub effect_here : effect_at store_meaning c h (length h) op ≡ Some u.done
    effect_here = ap (λ (x : StoreState). store_meaning.update c op x) here ∙ u.takes

    pub has_room : ltb (length h) limit ≡ true
    has_room =
        let low = u.room in
        let count = follows.count in
        let most = follows.limit_is in
        lt-ltb (length h) limit (omega (arith, low, count, most))

    pub updated_follows : Follows limit c (with_operation h op) m
    updated_follows =
        let count = follows.count in
        let grown = u.tail in
        let size : length (with_operation h op) ≡ length h + 1 = length-append h (record { author = 0; seq = length h; op = op } ∷ []) in
        let left : m.own.replica.state ≡ after store_meaning c (opening_state c) (with_operation h op) =
        u.state ∙ sym (ap (λ (e : Option (Effect StoreState)). left_by e n.own.replica.state) u.takes) ∙ ap (λ (x : StoreState). after store_meaning c x (record { author = 0; seq = length h; op = op } ∷ [])) follows.state
        ∙ sym (after_append store_meaning c (opening_state c) h (record { author = 0; seq = length h; op = op } ∷ [])) in
        record { limit_is = u.limit ∙ follows.limit_is; count = omega (arith, grown, count, size); state = left }

  module _ (op : Operation) where
    -- an update whose line was written
    submitted_turn : {A E : Type 0} (line : ℕ → Effect StoreState → List ℕ) (r : Result A E) (index : ℕ) (m : SingleNode) (o : Outcome) (old new : List ℕ) → index ≡ tail_of n.log → (u : IsUpdated c op n m o)
        → OnOk r (new ≡ old ++ line index u.done) → OnOk r (IsTaken limit c (submitted limit line c h op) m old new)
    submitted_turn line r index m o old new is u wrote =
        let at : index ≡ length h = is ∙ follows.count in
        let room = has_room op m o u in
        let text : option_map_or (line (length h)) (effect_at store_meaning c h (length h) op) [] ≡ line index u.done =
        ap (λ (e : Option (Effect StoreState)). option_map_or (line (length h)) e []) (effect_here op m o u) ∙ ap (λ (p : ℕ). line p u.done) (sym at) in
        on_ok r (new ≡ old ++ line index u.done) (IsTaken limit c (submitted limit line c h op) m old new)
        (λ w. rw room (record { written = w ∙ ap (λ t. old ++ t) (sym text); placed = updated_follows op m o u })) wrote

    -- of a call, and of an install
    pub update_turn : {A E : Type 0} (r : Result A E) (index : ℕ) (m : SingleNode) (o : Outcome) (old new : List ℕ) → index ≡ tail_of n.log → IsUpdated c op n m o
        → OnOk r (new ≡ old ++ update_text index o.reply o.steps) → OnOk r (IsTaken limit c (submitted limit update_told c h op) m old new)
    update_turn r index m o old new is u wrote =
        submitted_turn update_told r index m o old new is u
        (on_ok r (new ≡ old ++ update_text index o.reply o.steps) (new ≡ old ++ update_told index u.done) (λ w. w ∙ ap (λ (x : Outcome). old ++ update_text index x.reply x.steps) u.outcome) wrote)

    pub install_turn : {A E : Type 0} (r : Result A E) (index : ℕ) (m : SingleNode) (o : Outcome) (old new : List ℕ) → index ≡ tail_of n.log → IsUpdated c op n m o
        → OnOk r (new ≡ old ++ install_text index o.reply) → OnOk r (IsTaken limit c (submitted limit install_told c h op) m old new)
    install_turn r index m o old new is u wrote =
        submitted_turn install_told r index m o old new is u
        (on_ok r (new ≡ old ++ install_text index o.reply) (new ≡ old ++ install_told index u.done) (λ w. w ∙ ap (λ (x : Outcome). old ++ install_text index x.reply) u.outcome) wrote)
