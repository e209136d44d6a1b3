-- What the steps of a desk come to, slot by slot.
use Rattle.std.proofs.Common.{◌≡◌, ◌≢◌, ℕ, zero, suc, ◌+◌, List, [], ◌∷◌, length, set, sym, refl, ap, ◌∙◌, subst, arith, eq-eqb, ne_eqb, if◌then◌else◌, Option, Some, None, slice_get, option_map}
use Rattle.std.specs.Option.{option_and_then}
use Rattle.std.specs.List.{list_any}
use mathlib.Core.Bool.{Bool, true, false, ◌||◌}
use Rattle.std.proofs.lemmas.Bool.{false≢true}
use Rattle.std.proofs.lemmas.Option.{same_Some}
use mathlib.Core.Option as kernel
use mathlib.Core.Option.{some-injective}
use Rattle.oplog.specs.Operations.{Operation}
use Rattle.oplog.specs.declared.records.Record.{Record}
use Rattle.ownlock.specs.Seats.{At}
use Rattle.combiner.specs.declared.slots.Reply.{Reply}
use Rattle.combiner.specs.declared.slots.Slot.{Slot}
use Rattle.combiner.specs.declared.slots.Stage.{Stage}
use Rattle.combiner.specs.declared.slots.Stage.TheVariants.{Empty, Posted, Claimed, Answered}
use Rattle.combiner.specs.Slots.{answered_slot, counted, is_claimed, is_empty, requested, requests_from}
use Rattle.combiner.specs.Desks.{BatchView, Collection, DeskView, answer_for, answer_in, answered_from, collected, posted, with_slot}
use Rattle.accounts.specs.Moves.{unplaced}
use Rattle.accounts.specs.declared.sessions.Claim.{Claim}
use Rattle.accounts.proofs.Lists.{at_none, at_of}
use Rattle.accounts.proofs.Moved.{some_none}

plus_zero : (n : ℕ) → n ≡ n + 0
plus_zero n = omega arith

moved : (n j : ℕ) → suc n + j ≡ n + suc j
moved n j = omega arith

-- ---- post

-- where something is posted, the slot was empty
abbrev pub WasEmpty : ℕ → Operation → DeskView → DeskView → Type 0
WasEmpty s op x y = (slot : Slot) × At s slot x.slots × (slot.stage ≡ Empty) × (y ≡ record { node = x.node; slots = set x.slots s (record { stage = Posted op; count = slot.count }) })

pub posted_is : (s : ℕ) (op : Operation) (x y : DeskView) → posted s op x ≡ Some y → WasEmpty s op x y
posted_is s op x y e = by_slot (slice_get x.slots s) refl e
  where
    by_stage : (slot : Slot) → At s slot x.slots → (st : Stage) → slot.stage ≡ st → (if is_empty st then Some (with_slot x s (record { stage = Posted op; count = slot.count })) else None) ≡ Some y → WasEmpty s op x y
    by_stage slot at Empty is f = (slot, at, is, sym (same_Some _ y f))
    by_stage slot at (Posted other) is f = absurd (some_none y None f refl)
    by_stage slot at Claimed is f = absurd (some_none y None f refl)
    by_stage slot at (Answered reply) is f = absurd (some_none y None f refl)

    by_slot : (o : Option Slot) → slice_get x.slots s ≡ o → option_and_then (λ (z : Slot). if is_empty z.stage then Some (with_slot x s (record { stage = Posted op; count = z.count })) else None) o ≡ Some y → WasEmpty s op x y
    by_slot None is f = absurd (some_none y None f refl)
    by_slot (Some slot) is f = by_stage slot (at_of x.slots s slot is) slot.stage refl f

-- ---- claim

-- where no combiner is at work, no slot is claimed
pub none_claimed : (xs : List Slot) → list_any (λ (z : Slot). is_claimed z.stage) xs ≡ false → (s : ℕ) (slot : Slot) → At s slot xs → slot.stage ≢ Claimed
none_claimed [] e s slot at is = at_none s slot at
none_claimed (x ∷ xs) e zero slot at is = false≢true (sym e ∙ ap (λ b. b || list_any (λ (z : Slot). is_claimed z.stage) xs) (ap (λ (z : Slot). is_claimed z.stage) (some-injective x slot at) ∙ ap is_claimed is))
none_claimed (x ∷ xs) e (suc s) slot at is = none_claimed xs (rest (is_claimed x.stage) (list_any (λ (z : Slot). is_claimed z.stage) xs) e) s slot at is
  where
    rest : (b c : Bool) → (b || c) ≡ false → c ≡ false
    rest false c e = e
    rest true c e = absurd (false≢true (sym e))

-- a posted slot's request is among those that are claimed
pub posted_on : (a : ℕ) (xs : List Slot) (j : ℕ) (slot : Slot) (op : Operation) → At j slot xs → slot.stage ≡ Posted op → (k : ℕ) × (t : Claim) × At k t (unplaced (requests_from a xs)) × (t.request.author ≡ a + j)
posted_on a [] j slot op h e = absurd (at_none j slot h)
posted_on a (x ∷ xs) zero slot op h e =
    subst (λ st. (k : ℕ) × (t : Claim) × At k t (unplaced (requested a x.count st (requests_from (suc a) xs))) × (t.request.author ≡ a + 0)) (sym (ap (λ (z : Slot). z.stage) (some-injective x slot h) ∙ e))
    (0, record { request = record { author = a; seq = x.count; op = op }; index = None }, refl, plus_zero a)
posted_on a (x ∷ xs) (suc j) slot op h e = by_stage x.stage (posted_on (suc a) xs j slot op h e)
  where
    by_stage : (st : Stage) → ((k : ℕ) × (t : Claim) × At k t (unplaced (requests_from (suc a) xs)) × (t.request.author ≡ suc a + j))
        → (k : ℕ) × (t : Claim) × At k t (unplaced (requested a x.count st (requests_from (suc a) xs))) × (t.request.author ≡ a + suc j)
    by_stage Empty r = (r.0, r.1, r.2, r.3 ∙ moved a j)
    by_stage Claimed r = (r.0, r.1, r.2, r.3 ∙ moved a j)
    by_stage (Answered reply) r = (r.0, r.1, r.2, r.3 ∙ moved a j)
    by_stage (Posted op2) r = (suc r.0, r.1, r.2, r.3 ∙ moved a j)

-- ---- reply

-- the slots once a batch is answered
pub answered_at : (a : ℕ) (b : BatchView) (xs : List Slot) (s : ℕ) (slot : Slot) → At s slot xs → At s (answered_slot (answer_for (a + s) b.records b.answers) slot) (answered_from a b xs)
answered_at a b [] s slot at = absurd (at_none s slot at)
answered_at a b (x ∷ xs) zero slot at =
    subst (λ z. At 0 (answered_slot (answer_for z b.records b.answers) slot) (answered_from a b (x ∷ xs))) (plus_zero a) (ap (λ (z : Slot). kernel.some (answered_slot (answer_for a b.records b.answers) z)) (some-injective x slot at))
answered_at a b (x ∷ xs) (suc s) slot at = subst (λ z. At (suc s) (answered_slot (answer_for z b.records b.answers) slot) (answered_from a b (x ∷ xs))) (moved a s) (answered_at (suc a) b xs s slot at)

pub answered_long : (a : ℕ) (b : BatchView) (xs : List Slot) → length (answered_from a b xs) ≡ length xs
answered_long a b [] = refl
answered_long a b (x ∷ xs) = ap suc (answered_long (suc a) b xs)

-- the answer to the one request of a session
pub answer_is : (a : ℕ) (rs : List Record) (answers : List (Option Reply)) (k : ℕ) (r : Record) (reply : Reply) → At k r rs → r.author ≡ a → slice_get answers k ≡ Some (Some reply)
    → ((j : ℕ) (q : Record) → At j q rs → q.author ≡ a → j ≡ k) → answer_for a rs answers ≡ Some reply
answer_is a [] answers k r reply at is has one = absurd (at_none k r at)
answer_is a (q ∷ rs) [] k r reply at is has one = absurd (some_none _ None has refl)
answer_is a (q ∷ rs) (o ∷ os) zero r reply at is has one =
    ap (λ b. if b then o else answer_for a rs os) (eq-eqb q.author a (ap (λ (z : Record). z.author) (some-injective q r at) ∙ is)) ∙ same_Some o (Some reply) has
answer_is a (q ∷ rs) (o ∷ os) (suc k) r reply at is has one =
    ap (λ b. if b then o else answer_for a rs os) (ne_eqb q.author a (λ e. far (one 0 q refl e))) ∙ answer_is a rs os k r reply at is has (λ j p there e. back j (one (suc j) p there e))
  where
    far : 0 ≡ suc k → ⊥
    far e = omega (arith, e)

    back : (j : ℕ) → suc j ≡ suc k → j ≡ k
    back j e = omega (arith, e)

-- ---- collect

abbrev reply_of : Collection → Reply
reply_of c = c.reply

abbrev desk_of : Collection → DeskView
desk_of c = c.desk

-- what is collected where this answer waits
abbrev one_of : ℕ → DeskView → Slot → Reply → Collection
one_of s x slot r = record { reply = r; desk = with_slot x s (record { stage = Empty; count = counted r slot.count }) }

-- where an answer is collected, it stood in the slot
abbrev pub WasAnswered : ℕ → Reply → DeskView → DeskView → Type 0
WasAnswered s reply x y = (slot : Slot) × At s slot x.slots × (slot.stage ≡ Answered reply) × (y ≡ record { node = x.node; slots = set x.slots s (record { stage = Empty; count = counted reply slot.count }) })

pub collected_is : (s : ℕ) (reply : Reply) (x y : DeskView) → collected s x ≡ Some (record { reply = reply; desk = y }) → WasAnswered s reply x y
collected_is s reply x y e = by_slot (slice_get x.slots s) refl e
  where
    by_stage : (slot : Slot) → At s slot x.slots → (st : Stage) → slot.stage ≡ st → option_map (λ r. one_of s x slot r) (answer_in st) ≡ Some (record { reply = reply; desk = y }) → WasAnswered s reply x y
    by_stage slot at (Answered r) is f =
        let one = same_Some (one_of s x slot r) (record { reply = reply; desk = y }) f in let same : r ≡ reply = ap reply_of one in
        (slot, at, is ∙ ap Answered same, sym (ap desk_of one) ∙ ap (λ z. with_slot x s (record { stage = Empty; count = counted z slot.count })) same)
    by_stage slot at Empty is f = absurd (some_none _ None f refl)
    by_stage slot at (Posted other) is f = absurd (some_none _ None f refl)
    by_stage slot at Claimed is f = absurd (some_none _ None f refl)

    by_slot : (o : Option Slot) → slice_get x.slots s ≡ o → option_and_then (λ (z : Slot). option_map (λ r. one_of s x z r) (answer_in z.stage)) o ≡ Some (record { reply = reply; desk = y }) → WasAnswered s reply x y
    by_slot None is f = absurd (some_none _ None f refl)
    by_slot (Some slot) is f = by_stage slot (at_of x.slots s slot is) slot.stage refl f
