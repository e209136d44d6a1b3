-- The batch of a combiner is that of the claimed slots of its desk.
use Rattle.std.proofs.Common.{◌≡◌, ◌≢◌, ℕ, zero, suc, ◌+◌, ◌<◌, ◌≤◌, List, [], ◌∷◌, map, sym, refl, ap, ◌∙◌, subst, arith, if◌then◌else◌}
use mathlib.Core.Option.{some-injective}
use Rattle.oplog.specs.History.{Meaning}
use Rattle.oplog.specs.declared.records.Record.{Record}
use Rattle.oplog.specs.declared.configuration.Sizes.{Sizes}
use Rattle.oplog.specs.Sessions.{IsSessionOf, session}
use Rattle.ownlock.specs.Seats.{At}
use Rattle.combiner.specs.Slots.{is_claimed, requested, requests_from}
use Rattle.combiner.specs.Desks.{DeskView, claimed_from, first_author}
use Rattle.combiner.specs.declared.slots.Slot.{Slot}
use Rattle.combiner.specs.declared.slots.Stage.{Stage}
use Rattle.combiner.specs.declared.slots.Stage.TheVariants.{Empty, Posted, Claimed, Answered}
use Rattle.accounts.specs.declared.sessions.Claim.{Claim}
use Rattle.accounts.specs.declared.sessions.SessionNote.{SessionNote}
use Rattle.accounts.specs.Agreement.{StageAgrees, SlotAgrees}
use Rattle.accounts.specs.Moves.{record_of}
use Rattle.accounts.specs.Batches.{Ascend, ClaimsAscend, BatchIs}
use Rattle.accounts.proofs.Lists.{at_none, one_node}
use Rattle.accounts.proofs.Moved.{some_none}
use Rattle.accounts.proofs.Parts.{author_is}
use Rattle.accounts.proofs.Puts.{at_there, at_map, at_mapped}
use Rattle.ownlock.proofs.Export.{at_one}

-- no record has a lower author
abbrev AreFrom : ℕ → List Record → Type 0
AreFrom a rs = (i : ℕ) (r : Record) → At i r rs → a ≤ r.author

-- ---- the posted requests

from_stage : (a count : ℕ) (rs : List Record) (st : Stage) → AreFrom (suc a) rs → AreFrom a (requested a count st rs)
from_stage a count rs Empty h i r at = let low = h i r at in omega (arith, low)
from_stage a count rs Claimed h i r at = let low = h i r at in omega (arith, low)
from_stage a count rs (Answered reply) h i r at = let low = h i r at in omega (arith, low)
from_stage a count rs (Posted op) h zero r at = let e = ap (λ (z : Record). z.author) (some-injective _ r at) in omega (arith, e)
from_stage a count rs (Posted op) h (suc i) r at = let low = h i r at in omega (arith, low)

asks_from : (a : ℕ) (xs : List Slot) → AreFrom a (requests_from a xs)
asks_from a [] = λ i r at. absurd (at_none i r at)
asks_from a (x ∷ xs) = from_stage a x.count (requests_from (suc a) xs) x.stage (asks_from (suc a) xs)

ascend_stage : (a count : ℕ) (rs : List Record) (st : Stage) → AreFrom (suc a) rs → Ascend rs → Ascend (requested a count st rs)
ascend_stage a count rs Empty h up i j r s at bt lt = up i j r s at bt lt
ascend_stage a count rs Claimed h up i j r s at bt lt = up i j r s at bt lt
ascend_stage a count rs (Answered reply) h up i j r s at bt lt = up i j r s at bt lt
ascend_stage a count rs (Posted op) h up zero zero r s at bt lt = absurd (omega (arith, lt))
ascend_stage a count rs (Posted op) h up zero (suc j) r s at bt lt = let e = ap (λ (z : Record). z.author) (some-injective _ r at) in let low = h j s bt in omega (arith, e, low)
ascend_stage a count rs (Posted op) h up (suc i) zero r s at bt lt = absurd (omega (arith, lt))
ascend_stage a count rs (Posted op) h up (suc i) (suc j) r s at bt lt = up i j r s at bt (omega (arith, lt))

asks_ascend : (a : ℕ) (xs : List Slot) → Ascend (requests_from a xs)
asks_ascend a [] = λ i j r s at bt lt. absurd (at_none i r at)
asks_ascend a (x ∷ xs) = ascend_stage a x.count (requests_from (suc a) xs) x.stage (asks_from (suc a) xs) (asks_ascend (suc a) xs)

pub claims_ascend : ClaimsAscend
claims_ascend x = asks_ascend (first_author x) x.slots

-- ---- records that are those of the claimed slots

-- a stage that is not claimed
abbrev IsNot : Stage → Type 0
IsNot Claimed = ⊥
IsNot Empty = Unit {0}
IsNot (Posted op) = Unit {0}
IsNot (Answered reply) = Unit {0}

-- each record's author has a claimed slot, and each claimed slot a record
abbrev HaveSlots : ℕ → List Record → List Slot → Type 0
HaveSlots a rs xs = (i : ℕ) (r : Record) → At i r rs → (s : ℕ) × (slot : Slot) × At s slot xs × (slot.stage ≡ Claimed) × (r.author ≡ a + s)

abbrev HaveRecords : ℕ → List Record → List Slot → Type 0
HaveRecords a rs xs = (s : ℕ) (slot : Slot) → At s slot xs → slot.stage ≡ Claimed → (i : ℕ) × (r : Record) × At i r rs × (r.author ≡ a + s)

abbrev authors_of : List Record → List ℕ
authors_of rs = map (λ (r : Record). r.author) rs

no_stage : (st other : Stage) → IsNot other → st ≡ other → st ≢ Claimed
no_stage st other n e f = absurd (subst IsNot (sym e ∙ f) n)

-- what holds of the slots behind the first one
abbrev Behind : ℕ → List Slot → Type 0
Behind a xs = (rs : List Record) → Ascend rs → HaveSlots a rs xs → HaveRecords a rs xs → authors_of rs ≡ claimed_from a xs

abbrev HasSlotAt : ℕ → Record → List Slot → Type 0
HasSlotAt a r xs = (s : ℕ) × (slot : Slot) × At s slot xs × (slot.stage ≡ Claimed) × (r.author ≡ a + s)

abbrev HasRecordAt : ℕ → ℕ → List Record → Type 0
HasRecordAt a s rs = (i : ℕ) × (r : Record) × At i r rs × (r.author ≡ a + s)

-- the first slot isn't claimed
past : (a : ℕ) (x : Slot) (xs : List Slot) (rs : List Record) → Behind (suc a) xs → x.stage ≢ Claimed → Ascend rs → HaveSlots a rs (x ∷ xs) → HaveRecords a rs (x ∷ xs) → authors_of rs ≡ claimed_from (suc a) xs
past a x xs rs later free up slots records = later rs up (λ i r at. shifted r (slots i r at)) before
  where
    shifted : (r : Record) → HasSlotAt a r (x ∷ xs) → HasSlotAt (suc a) r xs
    shifted r (zero, slot, at, is, e) = absurd (free (ap (λ (z : Slot). z.stage) (some-injective x slot at) ∙ is))
    shifted r (suc s, slot, at, is, e) = (s, slot, at, is, omega (arith, e))

    before : HaveRecords (suc a) rs xs
    before s slot at is = let h = records (suc s) slot at is in let e = h.3 in (h.0, h.1, h.2, omega (arith, e))

-- the first slot is claimed, and the first record is its
head_is : (a : ℕ) (r : Record) (rs : List Record) → Ascend (r ∷ rs) → a ≤ r.author → HasRecordAt a 0 (r ∷ rs) → r.author ≡ a
head_is a r rs up low (zero, q, at, e) = let f = ap (λ (z : Record). z.author) (some-injective r q at) in omega (arith, e, f)
head_is a r rs up low (suc i, q, at, e) = let lt : 0 < suc i = omega arith in let h = up 0 (suc i) r q refl at lt in absurd (omega (arith, h, e, low))

beyond : (a : ℕ) (r q : Record) (x : Slot) (xs : List Slot) → r.author ≡ a → r.author < q.author → HasSlotAt a q (x ∷ xs) → HasSlotAt (suc a) q xs
beyond a r q x xs head lt (zero, slot, at, is, e) = absurd (omega (arith, e, lt, head))
beyond a r q x xs head lt (suc s, slot, at, is, e) = (s, slot, at, is, omega (arith, e))

kept : (a s : ℕ) (r : Record) (rs : List Record) → r.author ≡ a → HasRecordAt a (suc s) (r ∷ rs) → HasRecordAt (suc a) s rs
kept a s r rs head (zero, q, at, e) = let f = ap (λ (z : Record). z.author) (some-injective r q at) in absurd (omega (arith, e, f, head))
kept a s r rs head (suc i, q, at, e) = (i, q, at, omega (arith, e))

first : (a : ℕ) (x : Slot) (xs : List Slot) (rs : List Record) → Behind (suc a) xs → x.stage ≡ Claimed → Ascend rs → HaveSlots a rs (x ∷ xs) → HaveRecords a rs (x ∷ xs) → authors_of rs ≡ a ∷ claimed_from (suc a) xs
first a x xs [] later is up slots records = let h = records 0 x refl is in absurd (at_none h.0 h.1 h.2)
first a x xs (r ∷ rs) later is up slots records = λ i. head i ∷ later rs rises behind before i
  where
    head : r.author ≡ a
    head = let e = (slots 0 r refl).4 in head_is a r rs up (omega (arith, e)) (records 0 x refl is)

    rises : Ascend rs
    rises i j p q at bt lt = let more : suc i < suc j = omega (arith, lt) in up (suc i) (suc j) p q at bt more

    behind : HaveSlots (suc a) rs xs
    behind i q at = let lt : 0 < suc i = omega arith in beyond a r q x xs head (up 0 (suc i) r q refl at lt) (slots (suc i) q at)

    before : HaveRecords (suc a) rs xs
    before s slot at is = kept a s r rs head (records (suc s) slot at is)

by_first : (a : ℕ) (x : Slot) (xs : List Slot) (rs : List Record) (st : Stage) → x.stage ≡ st → Behind (suc a) xs → Ascend rs → HaveSlots a rs (x ∷ xs) → HaveRecords a rs (x ∷ xs)
    → authors_of rs ≡ (if is_claimed st then a ∷ claimed_from (suc a) xs else claimed_from (suc a) xs)
by_first a x xs rs Claimed is later up slots records = first a x xs rs later is up slots records
by_first a x xs rs Empty is later up slots records = past a x xs rs later (no_stage x.stage Empty tt is) up slots records
by_first a x xs rs (Posted op) is later up slots records = past a x xs rs later (no_stage x.stage (Posted op) tt is) up slots records
by_first a x xs rs (Answered reply) is later up slots records = past a x xs rs later (no_stage x.stage (Answered reply) tt is) up slots records

claimed_are : (a : ℕ) (xs : List Slot) → Behind a xs
claimed_are a [] [] up slots records = refl
claimed_are a [] (r ∷ rs) up slots records = let h = slots 0 r refl in absurd (at_none h.0 h.1 h.2)
claimed_are a (x ∷ xs) rs up slots records = by_first a x xs rs x.stage refl (claimed_are (suc a) xs) up slots records

-- ---- the batch of the desk's combiner

-- a slot of the desk is claimed for this request, by its combiner c
record HasSlot (config : Sizes) (x : DeskView) (combiner c : ℕ) (t : Claim) : Type 0 where
  pub s : ℕ
  pub slot : Slot
  pub at : At s slot x.slots
  pub claimed : slot.stage ≡ Claimed
  pub author : t.request.author ≡ session config x.node s
  pub combines : combiner ≡ c

module _ {C M : Type 0} (E : Meaning C M) where
  pub batch_is : BatchIs E
  batch_is l ns c n x b k0 t0 w here mine desk first is up = claimed_are (first_author x) x.slots b.records up slots records
    where
      has_slot : (k : ℕ) (t : Claim) → At k t n.batch → HasSlot l.config x desk.combiner c t
      has_slot k t at = by_stage slot.0.stage refl there.3
        where
          mate : (node : ℕ) × IsSessionOf l.config node c × IsSessionOf l.config node t.request.author
          mate = w.near c k t (n, here, at)

          same_node : mate.0 ≡ x.node
          same_node = one_node mate.0 x.node mate.1.0 mine.0 l.config.slots mate.1.1 mine.1 (sym mate.1.2 ∙ mine.2)

          author : t.request.author ≡ session l.config x.node mate.2.0
          author = mate.2.2 ∙ ap (λ z. session l.config z mate.2.0) same_node

          slot : (a : Slot) × At mate.2.0 a x.slots
          slot = at_there x.slots mate.2.0 (let lt = mate.2.1 in let long = desk.slots in omega (arith, lt, long))

          there : SlotAgrees E l ns desk.combiner (session l.config x.node mate.2.0) slot.0
          there = desk.each mate.2.0 slot.0 slot.1

          by_stage : (st : Stage) → slot.0.stage ≡ st → StageAgrees E l ns desk.combiner (session l.config x.node mate.2.0) there.0 st → HasSlot l.config x desk.combiner c t
          by_stage Empty e h =
              let r = w.requested c k t (n, here, at) in
              let same : r.0 ≡ there.0 = at_one ns t.request.author r.0 there.0 r.1 (subst (λ z. At z there.0 ns) (sym author) there.1) in
              absurd (some_none r.2.0 r.0.pending r.2.1 (ap (λ (z : SessionNote). z.pending) same ∙ h))
          by_stage (Posted op) e h = absurd (h.4 c k t (n, here, at) author)
          by_stage (Answered reply) e h = absurd (h.3 c k t (n, here, at) author)
          by_stage Claimed e h = record { s = mate.2.0; slot = slot.0; at = slot.1; claimed = e; author = author; combines = (w.once desk.combiner c h.2.0 k h.2.1 t h.2.2 (n, here, at) (h.2.3 ∙ sym author)).0 }

      slots : HaveSlots (first_author x) b.records x.slots
      slots i r at =
          let t = at_mapped record_of n.batch i r (subst (λ z. At i r z) is at) in
          let h = has_slot i t.0 t.1 in
          (h.s, h.slot, h.at, h.claimed, ap (λ (z : Record). z.author) t.2 ∙ (h.author ∙ sym (author_is l.config x h.s desk.slots)))

      records : HaveRecords (first_author x) b.records x.slots
      records s slot at claimed =
          let there = desk.each s slot at in
          let h = subst (λ st. StageAgrees E l ns desk.combiner (session l.config x.node s) there.0 st) claimed there.3 in
          let by = h.2.2 in
          let note : At c by.0 ns = subst (λ z. At z by.0 ns) (has_slot k0 t0 first).combines by.1 in
          let in_batch : At h.2.0 h.2.1 n.batch = subst (λ (z : SessionNote). At h.2.0 h.2.1 z.batch) (at_one ns c by.0 n note here) by.2 in
          (h.2.0, h.2.1.request, subst (λ z. At h.2.0 h.2.1.request z) (sym is) (at_map record_of n.batch h.2.0 h.2.1 in_batch), h.2.3 ∙ sym (author_is l.config x s desk.slots))
