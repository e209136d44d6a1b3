-- What is known of parts that are there.
use Rattle.std.proofs.Common.{◌≡◌, ◌≢◌, ℕ, true, false, Bool, List, [], ◌∷◌, length, Option, Some, None, refl, sym, ap, ◌∙◌, arith}
use Rattle.std.specs.Prelude.{slice_get, cond, option_map, not, if◌then◌else◌}
use Rattle.std.specs.Option.{option_and_then}
use Rattle.std.proofs.lemmas.Option.{none-some, same_Some}
use Rattle.std.proofs.lemmas.Bool.{false≢true}
use Rattle.oplog.specs.declared.records.Record.{Record}
use Rattle.oplog.specs.Logs.{Log}
use Rattle.oplog.specs.Operations.{Operation}
use Rattle.combiner.specs.declared.slots.Reply.{Reply}
use Rattle.combiner.specs.declared.slots.Stage.{Stage}
use Rattle.combiner.specs.declared.slots.Stage.TheVariants.{Empty, Posted, Claimed, Answered}
use Rattle.combiner.specs.declared.slots.Slot.{Slot}
use Rattle.combiner.specs.Slots.{slot, is_empty, counted}
use Rattle.combiner.specs.Desks.{DeskView, BatchView, Collection, with_slot, posted, answer_in, collected}
use Rattle.node.specs.declared.following.NodeReplica.{NodeReplica}
use Rattle.node.specs.Following.{no_records, may_append}
use Rattle.node.specs.Steps.{may_append_batch, is_in_log}
use Rattle.schedule.specs.declared.parts.BegunRead.{BegunRead}
use Rattle.node.specs.declared.parts.Written.{Written}
use Rattle.node.specs.declared.parts.NodeBatch.{NodeBatch}
use Rattle.node.specs.declared.parts.NodeBatch.TheVariants.{Absent, Held, InLog}
use Rattle.schedule.specs.Steps.{is_free, no_read, no_batch}
use Rattle.machine.proofs.Export.{and_then_some}

-- ---- options

pub cond_gives : {A : Type 0} (b : Bool) (o : Option A) (v : A) → cond b o None ≡ Some v → (b ≡ true) × (o ≡ Some v)
cond_gives true o v e = (refl, e)
cond_gives false o v e = absurd (none-some v e)

pub map_gives : {A B : Type 0} (f : A → B) (o : Option A) (v : B) → option_map f o ≡ Some v → (a : A) × (o ≡ Some a) × (f a ≡ v)
map_gives f None v e = absurd (none-some v e)
map_gives f (Some a) v e = (a, refl, same_Some (f a) v e)

-- ---- slots and reads

empty_stage : (st : Stage) → is_empty st ≡ true → st ≡ Empty
empty_stage Empty e = refl
empty_stage (Posted op) e = absurd (false≢true e)
empty_stage Claimed e = absurd (false≢true e)
empty_stage (Answered r) e = absurd (false≢true e)

pub free_is : (o : Option Slot) → is_free o ≡ true → (x : Slot) × (o ≡ Some x) × (x.stage ≡ Empty)
free_is None e = absurd (false≢true e)
free_is (Some x) e = (x, refl, empty_stage x.stage e)

pub no_read_is : (o : Option (Option BegunRead)) → no_read o ≡ true → o ≡ Some None
no_read_is None e = absurd (false≢true e)
no_read_is (Some None) e = refl
no_read_is (Some (Some read)) e = absurd (false≢true e)

pub read_is : (o : Option (Option BegunRead)) (read : BegunRead) → option_and_then (λ r. r) o ≡ Some read → o ≡ Some (Some read)
read_is None read e = absurd (none-some read e)
read_is (Some r) read e = ap Some e

if_gives : {A : Type 0} (b : Bool) (u v : A) → (if b then Some u else None) ≡ Some v → u ≡ v
if_gives true u v e = same_Some u v e
if_gives false u v e = absurd (none-some v e)

pub posted_is : (s : ℕ) (op : Operation) (d e : DeskView) (x : Slot) → slice_get d.slots s ≡ Some x → posted s op d ≡ Some e → with_slot d s (slot (Posted op) x.count) ≡ e
posted_is s op d e x at is =
    let r = and_then_some (λ y. if is_empty y.stage then Some (with_slot d s (slot (Posted op) y.count)) else None) (slice_get d.slots s) e is in
    let same : r.0 ≡ x = same_Some r.0 x (sym r.1 ∙ at) in
    ap (λ y. with_slot d s (slot (Posted op) y.count)) (sym same) ∙ if_gives (is_empty (r.0).stage) (with_slot d s (slot (Posted op) (r.0).count)) e r.2

waits : (st : Stage) (reply : Reply) → answer_in st ≡ Some reply → st ≡ Answered reply
waits (Answered r) reply e = ap Answered (same_Some r reply e)
waits Empty reply e = absurd (none-some reply e)
waits (Posted op) reply e = absurd (none-some reply e)
waits Claimed reply e = absurd (none-some reply e)

pub collected_is : (s : ℕ) (d : DeskView) (c : Collection) → collected s d ≡ Some c
    → (x : Slot) × (slice_get d.slots s ≡ Some x) × (x.stage ≡ Answered c.reply) × (with_slot d s (slot Empty (counted c.reply x.count)) ≡ c.desk)
collected_is s d c e =
    let r = and_then_some (λ x. option_map (λ reply. (let k : Collection = record { reply = reply; desk = with_slot d s (slot Empty (counted reply x.count)) } in k)) (answer_in x.stage)) (slice_get d.slots s) c e in
    let q = map_gives (λ reply. (let k : Collection = record { reply = reply; desk = with_slot d s (slot Empty (counted reply (r.0).count)) } in k)) (answer_in (r.0).stage) c r.2 in
    let same : q.0 ≡ c.reply = ap (λ k. k.reply) q.2 in
    (r.0, r.1, waits (r.0).stage q.0 q.1 ∙ ap Answered same, ap (λ y. with_slot d s (slot Empty (counted y (r.0).count))) (sym same) ∙ ap (λ k. k.desk) q.2)

-- ---- batches

pub no_batch_is : (b : NodeBatch) → no_batch b ≡ true → b ≡ Absent
no_batch_is Absent e = refl
no_batch_is (Held b) e = absurd (false≢true e)
no_batch_is (InLog b) e = absurd (false≢true e)

pub claimed_is : (o : NodeBatch) (g : Log) (own : NodeReplica) → may_append_batch o g own ≡ true → (b : BatchView) × (o ≡ Held b) × (may_append b.records g own ≡ true)
claimed_is Absent g own e = absurd (false≢true e)
claimed_is (Held b) g own e = (b, refl, e)
claimed_is (InLog b) g own e = absurd (false≢true e)

pub appended_is : (o : NodeBatch) → is_in_log o ≡ true → (b : Written) × (o ≡ InLog b)
appended_is Absent e = absurd (false≢true e)
appended_is (Held b) e = absurd (false≢true e)
appended_is (InLog b) e = (b, refl)

pub none_is : (rs : List Record) → no_records rs ≡ true → rs ≡ []
none_is [] e = refl
none_is (r ∷ rs) e = absurd (false≢true e)

pub some_is : (rs : List Record) → not (no_records rs) ≡ true → rs ≢ []
some_is [] e = absurd (false≢true e)
some_is (r ∷ rs) e = λ n. let l : length (r ∷ rs) ≡ 0 = ap length n in absurd (omega arith)
