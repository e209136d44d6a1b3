-- The loop that sets the answers of a batch.
use Rattle.std.proofs.Common.{◌≡◌, ℕ, zero, suc, ◌+◌, ◌<◌, ◌≤◌, List, [], ◌∷◌, length, Option, Some, refl, sym, ap, ◌∙◌, ⊎_elim, arith}
use Rattle.std.specs.Prelude.{slice_get, slice_set, option_map}
use Rattle.std.proofs.lemmas.Bool.{cases_lt, cases_eq}
use Rattle.std.proofs.lemmas.Option.{none-some, same_Some}
use Rattle.machine.specs.declared.running.Outcome.{Outcome}
use Rattle.oplog.specs.declared.records.Record.{Record}
use Rattle.oplog.specs.History.{History}
use Rattle.combiner.specs.declared.slots.Reply.{Reply}
use Rattle.combiner.specs.declared.slots.Reply.TheVariants.{Placed, Ended}
use Rattle.combiner.specs.Desks.{BatchView}
use Rattle.replica.specs.Views.{RepliesView}
use Rattle.node.specs.Answering.{answers_from, answered_batch, HaveRun}
use Rattle.node.proofs.Keeping.{same_lists}
use Rattle.maps.proofs.Export.{get_set_other}
use Rattle.machine.proofs.Export.{get_inside}

set_same : {A : Type 0} (xs : List A) (i : ℕ) (u v : A) → slice_get xs i ≡ Some u → slice_get (slice_set xs i v) i ≡ Some v
set_same [] i u v h = absurd (none-some u h)
set_same (x ∷ xs) zero u v h = refl
set_same (x ∷ xs) (suc i) u v h = set_same xs i u v h

-- the k-th answer of a batch
pub answers_placed : (rs : History) (outcomes : List (Option Outcome)) (index k : ℕ) (r : Record) (o : Option Outcome) → slice_get rs k ≡ Some r → slice_get outcomes k ≡ Some o
    → slice_get (answers_from index outcomes rs) k ≡ Some (option_map (λ y. Placed (index + k) y.reply) o)
answers_placed [] outcomes index k r o g f = absurd (none-some r g)
answers_placed (q ∷ rs) [] index k r o g f = absurd (none-some o f)
answers_placed (q ∷ rs) (outcome ∷ outcomes) index zero r o g f =
    let e : index ≡ index + 0 = omega arith in
    ap (λ y. Some (option_map (λ z. Placed index z.reply) y)) (same_Some outcome o f) ∙ ap (λ k. Some (option_map (λ z. Placed k z.reply) o)) e
answers_placed (q ∷ rs) (outcome ∷ outcomes) index (suc k) r o g f =
    let e : (index + 1) + k ≡ index + suc k = omega arith in
    answers_placed rs outcomes (index + 1) k r o g f ∙ ap (λ i. Some (option_map (λ z. Placed i z.reply) o)) e

pub answers_ended : (rs : History) (outcomes : List (Option Outcome)) (index k : ℕ) (r : Record) → slice_get rs k ≡ Some r → length outcomes ≤ k → slice_get (answers_from index outcomes rs) k ≡ Some (Some Ended)
answers_ended [] outcomes index k r g l = absurd (none-some r g)
answers_ended (q ∷ rs) [] index zero r g l = refl
answers_ended (q ∷ rs) [] index (suc k) r g l = answers_ended rs [] index k r g (omega arith)
answers_ended (q ∷ rs) (outcome ∷ outcomes) index zero r g l = absurd (omega arith)
answers_ended (q ∷ rs) (outcome ∷ outcomes) index (suc k) r g l = answers_ended rs outcomes (index + 1) k r g (omega arith)

pub answers_length : (index : ℕ) (outcomes : List (Option Outcome)) (rs : History) → length (answers_from index outcomes rs) ≡ length rs
answers_length index outcomes [] = refl
answers_length index [] (r ∷ rs) = ap suc (answers_length index [] rs)
answers_length index (outcome ∷ outcomes) (r ∷ rs) = ap suc (answers_length (index + 1) outcomes rs)

-- ---- the loop

-- what the k-th answer is
answer_set : (kept : RepliesView) (b : BatchView) (k : ℕ) (reply : Reply) → k < length b.records → HaveRun kept b
    → ((o : Outcome) → k < length kept.outcomes → slice_get kept.outcomes k ≡ Some (Some o) → reply ≡ Placed (kept.first + k) o.reply) → (length kept.outcomes ≤ k → reply ≡ Ended)
    → slice_get (answers_from kept.first kept.outcomes b.records) k ≡ Some (Some reply)
answer_set kept b k reply lt run placed ended =
    let r = get_inside b.records k lt in
    ⊎_elim
    (λ has. let o = run k has lt in answers_placed b.records kept.outcomes kept.first k r.0 (Some o.0) r.1 o.1 ∙ ap (λ y. Some (Some y)) (sym (placed o.0 has o.1)))
    (λ late. answers_ended b.records kept.outcomes kept.first k r.0 r.1 late ∙ ap (λ y. Some (Some y)) (sym (ended late)))
    (cases_lt k (length kept.outcomes))

-- one turn
pub answers_turn : (kept : RepliesView) (b : BatchView) (k : ℕ) (old : List (Option Reply)) (reply : Reply) → k < length b.records → length old ≡ length b.records → HaveRun kept b
    → ((o : Outcome) → k < length kept.outcomes → slice_get kept.outcomes k ≡ Some (Some o) → reply ≡ Placed (kept.first + k) o.reply) → (length kept.outcomes ≤ k → reply ≡ Ended)
    → ((j : ℕ) → j < k → slice_get old j ≡ slice_get (answers_from kept.first kept.outcomes b.records) j)
    → (j : ℕ) → j < k + 1 → slice_get (slice_set old k (Some reply)) j ≡ slice_get (answers_from kept.first kept.outcomes b.records) j
answers_turn kept b k old reply lt long run placed ended before j le =
    ⊎_elim
    (λ same. let u = get_inside old k (omega arith) in
    ap (λ i. slice_get (slice_set old k (Some reply)) i) same ∙ set_same old k u.0 (Some reply) u.1 ∙ sym (answer_set kept b k reply lt run placed ended)
    ∙ ap (λ i. slice_get (answers_from kept.first kept.outcomes b.records) i) (sym same))
    (λ ne. get_set_other old k j (Some reply) ne ∙ before j (omega arith))
    (cases_eq j k)

-- all turns
pub answers_whole : (kept : RepliesView) (b batch : BatchView) (k : ℕ) → batch.records ≡ b.records → length batch.answers ≡ length b.records → length b.records ≤ k
    → ((j : ℕ) → j < k → slice_get batch.answers j ≡ slice_get (answers_from kept.first kept.outcomes b.records) j) → batch ≡ answered_batch kept b
answers_whole kept b batch k records long all set =
    let same : batch.answers ≡ answers_from kept.first kept.outcomes b.records =
    same_lists batch.answers (answers_from kept.first kept.outcomes b.records) (long ∙ sym (answers_length kept.first kept.outcomes b.records)) (λ j lt. set j (omega arith)) in
    ap (λ rs. (let v : BatchView = record { records = rs; answers = batch.answers } in v)) records ∙ ap (λ xs. (let v : BatchView = record { records = b.records; answers = xs } in v)) same
