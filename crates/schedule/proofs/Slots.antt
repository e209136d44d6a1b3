-- The claimed slots of a desk, by their sessions.
use Rattle.std.proofs.Common.{◌≡◌, ℕ, zero, suc, ◌+◌, ◌<◌, true, false, Bool, List, [], ◌∷◌, length, map, Option, Some, refl, sym, ap, ◌∙◌, arith, subst}
use Rattle.std.specs.Prelude.{slice_get, slice_set, if◌then◌else◌}
use Rattle.std.proofs.lemmas.Option.{none-some, same_Some}
use Rattle.std.proofs.lemmas.Bool.{ne_eqb, eq-eqb}
use Rattle.oplog.specs.declared.records.Record.{Record}
use Rattle.oplog.specs.Operations.{Operation}
use Rattle.combiner.specs.declared.slots.Reply.{Reply}
use Rattle.combiner.specs.declared.slots.Stage.{Stage}
use Rattle.combiner.specs.declared.slots.Stage.TheVariants.{Empty, Posted, Claimed, Answered}
use Rattle.combiner.specs.declared.slots.Slot.{Slot}
use Rattle.combiner.specs.Slots.{is_claimed, claimed_stage, claimed_slot, requested, requests_from, answered_stage, answered_slot, with_answer}
use Rattle.combiner.specs.Desks.{BatchView, claimed_from, answer_for, answered_from}

-- a slot that is not claimed, and is not claimed afterwards
pub claimed_same : (a : ℕ) (xs : List Slot) (s : ℕ) (x y : Slot) → slice_get xs s ≡ Some x → is_claimed x.stage ≡ false → is_claimed y.stage ≡ false → claimed_from a (slice_set xs s y) ≡ claimed_from a xs
claimed_same a [] s x y at before now = refl
claimed_same a (z ∷ xs) zero x y at before now =
    let same : is_claimed z.stage ≡ false = ap (λ v. is_claimed v.stage) (same_Some z x at) ∙ before in
    ap (λ b. if b then a ∷ claimed_from (suc a) xs else claimed_from (suc a) xs) (now ∙ sym same)
claimed_same a (z ∷ xs) (suc s) x y at before now =
    ap (λ rs. if is_claimed z.stage then a ∷ rs else rs) (claimed_same (suc a) xs s x y at before now)

-- ---- which sessions are claimed

-- session p is that of a claimed slot
abbrev pub IsClaimedIn : List Slot → ℕ → ℕ → Type 0
IsClaimedIn xs a p = (s : ℕ) × (x : Slot) × (p ≡ a + s) × (slice_get xs s ≡ Some x) × (x.stage ≡ Claimed)

-- the k-th of the claimed sessions is that of a claimed slot
pub claimed_get : (xs : List Slot) (a k p : ℕ) → slice_get (claimed_from a xs) k ≡ Some p → IsClaimedIn xs a p
claimed_get [] a k p g = absurd (none-some p g)
claimed_get (x ∷ xs) a k p g = go (λ j f. claimed_get xs (suc a) j p f) x.stage refl k g
  where
    later : ((j : ℕ) → slice_get (claimed_from (suc a) xs) j ≡ Some p → IsClaimedIn xs (suc a) p) → (k : ℕ) → slice_get (claimed_from (suc a) xs) k ≡ Some p → IsClaimedIn (x ∷ xs) a p
    later rest k g = let r = rest k g in (suc r.0, r.1, (let e = r.2 in omega arith), r.3, r.4)

    go : ((j : ℕ) → slice_get (claimed_from (suc a) xs) j ≡ Some p → IsClaimedIn xs (suc a) p) → (st : Stage) → x.stage ≡ st → (k : ℕ)
        → slice_get (if is_claimed st then a ∷ claimed_from (suc a) xs else claimed_from (suc a) xs) k ≡ Some p → IsClaimedIn (x ∷ xs) a p
    go rest Empty is k g = later rest k g
    go rest (Posted op) is k g = later rest k g
    go rest (Answered r) is k g = later rest k g
    go rest Claimed is zero g = let e = same_Some a p g in (0, x, omega arith, refl, is)
    go rest Claimed is (suc k) g = later rest k g

-- a claimed slot's session is among them
pub claimed_has : (xs : List Slot) (a s : ℕ) (x : Slot) → slice_get xs s ≡ Some x → x.stage ≡ Claimed → (k : ℕ) × (slice_get (claimed_from a xs) k ≡ Some (a + s))
claimed_has [] a s x at is = absurd (none-some x at)
claimed_has (y ∷ xs) a zero x at is =
    let st : y.stage ≡ Claimed = ap (λ v. v.stage) (same_Some y x at) ∙ is in
    let e : a ≡ a + 0 = omega arith in
    (0, subst (λ v. slice_get (if is_claimed v then a ∷ claimed_from (suc a) xs else claimed_from (suc a) xs) 0 ≡ Some (a + 0)) (sym st) (ap Some e))
claimed_has (y ∷ xs) a (suc s) x at is =
    let r = claimed_has xs (suc a) s x at is in
    let e : suc a + s ≡ a + suc s = omega arith in
    let there : slice_get (claimed_from (suc a) xs) r.0 ≡ Some (a + suc s) = r.1 ∙ ap Some e in
    by (is_claimed y.stage) r.0 there
  where
    by : (b : Bool) (k : ℕ) → slice_get (claimed_from (suc a) xs) k ≡ Some (a + suc s) → (k : ℕ) × (slice_get (if b then a ∷ claimed_from (suc a) xs else claimed_from (suc a) xs) k ≡ Some (a + suc s))
    by true k g = (suc k, g)
    by false k g = (k, g)

-- no session stands twice among them
pub claimed_once : (xs : List Slot) (a k j p : ℕ) → slice_get (claimed_from a xs) k ≡ Some p → slice_get (claimed_from a xs) j ≡ Some p → k ≡ j
claimed_once [] a k j p f g = absurd (none-some p f)
claimed_once (x ∷ xs) a k j p f g = go (is_claimed x.stage) (λ k j f g. claimed_once xs (suc a) k j p f g) k j f g
  where
    late : (i : ℕ) → slice_get (claimed_from (suc a) xs) i ≡ Some p → a < p
    late i g = let r = claimed_get xs (suc a) i p g in let e = r.2 in omega arith

    go : (b : Bool) → ((k j : ℕ) → slice_get (claimed_from (suc a) xs) k ≡ Some p → slice_get (claimed_from (suc a) xs) j ≡ Some p → k ≡ j) → (k j : ℕ)
        → slice_get (if b then a ∷ claimed_from (suc a) xs else claimed_from (suc a) xs) k ≡ Some p → slice_get (if b then a ∷ claimed_from (suc a) xs else claimed_from (suc a) xs) j ≡ Some p → k ≡ j
    go false rest k j f g = rest k j f g
    go true rest zero zero f g = refl
    go true rest zero (suc j) f g = let e = same_Some a p f in let l = late j g in absurd (omega arith)
    go true rest (suc k) zero f g = let e = same_Some a p g in let l = late k f in absurd (omega arith)
    go true rest (suc k) (suc j) f g = ap suc (rest k j f g)

-- ---- claiming

-- where no slot was claimed, the sessions of the posted requests are those that are claimed then
pub claims_own : (xs : List Slot) (a : ℕ) → claimed_from a xs ≡ [] → map (λ (r : Record). r.author) (requests_from a xs) ≡ claimed_from a (map claimed_slot xs)
claims_own [] a free = refl
claims_own (x ∷ xs) a free = go (λ f. claims_own xs (suc a) f) x.stage free
  where
    go : (claimed_from (suc a) xs ≡ [] → map (λ (r : Record). r.author) (requests_from (suc a) xs) ≡ claimed_from (suc a) (map claimed_slot xs)) → (st : Stage)
        → (if is_claimed st then a ∷ claimed_from (suc a) xs else claimed_from (suc a) xs) ≡ []
        → map (λ (r : Record). r.author) (requested a x.count st (requests_from (suc a) xs))
        ≡ (if is_claimed (claimed_stage st) then a ∷ claimed_from (suc a) (map claimed_slot xs) else claimed_from (suc a) (map claimed_slot xs))
    go rest Empty free = rest free
    go rest (Posted op) free = ap (λ rs. a ∷ rs) (rest free)
    go rest Claimed free = let l : length (a ∷ claimed_from (suc a) xs) ≡ 0 = ap length free in absurd (omega arith)
    go rest (Answered r) free = rest free

requested_later : (a count : ℕ) (st : Stage) (rs : List Record) (k : ℕ) (r : Record) → slice_get rs k ≡ Some r → (j : ℕ) × (slice_get (requested a count st rs) j ≡ Some r)
requested_later a count (Posted op) rs k r g = (suc k, g)
requested_later a count Empty rs k r g = (k, g)
requested_later a count Claimed rs k r g = (k, g)
requested_later a count (Answered reply) rs k r g = (k, g)

abbrev pub request_of : ℕ → ℕ → Operation → Record
request_of a count op = record { author = a; op = op; seq = count }

-- a posted request is among those that are claimed
pub requests_have : (xs : List Slot) (a s : ℕ) (x : Slot) (op : Operation) → slice_get xs s ≡ Some x → x.stage ≡ Posted op → (k : ℕ) × (slice_get (requests_from a xs) k ≡ Some (request_of (a + s) x.count op))
requests_have [] a s x op at is = absurd (none-some x at)
requests_have (y ∷ xs) a zero x op at is =
    let e : y ≡ x = same_Some y x at in
    let i : a ≡ a + 0 = omega arith in
    let first : slice_get (requested a y.count (Posted op) (requests_from (suc a) xs)) 0 ≡ Some (request_of (a + 0) x.count op) = ap (λ k. Some (request_of k y.count op)) i ∙ ap (λ z. Some (request_of (a + 0) z.count op)) e in
    (0, subst (λ st. slice_get (requested a y.count st (requests_from (suc a) xs)) 0 ≡ Some (request_of (a + 0) x.count op)) (sym (ap (λ z. z.stage) e ∙ is)) first)
requests_have (y ∷ xs) a (suc s) x op at is =
    let r = requests_have xs (suc a) s x op at is in
    let i : suc a + s ≡ a + suc s = omega arith in
    requested_later a y.count y.stage (requests_from (suc a) xs) r.0 (request_of (a + suc s) x.count op) (r.1 ∙ ap (λ k. Some (request_of k x.count op)) i)

-- ---- answering

-- what stands in a slot once the batch is answered
pub answered_get : (a : ℕ) (b : BatchView) (xs : List Slot) (s : ℕ) (y : Slot) → slice_get (answered_from a b xs) s ≡ Some y
    → (x : Slot) × (slice_get xs s ≡ Some x) × (answered_slot (answer_for (a + s) b.records b.answers) x ≡ y)
answered_get a b [] s y g = absurd (none-some y g)
answered_get a b (x ∷ xs) zero y g = let e : a + 0 ≡ a = omega arith in (x, refl, ap (λ k. answered_slot (answer_for k b.records b.answers) x) e ∙ same_Some (answered_slot (answer_for a b.records b.answers) x) y g)
answered_get a b (x ∷ xs) (suc s) y g =
    let r = answered_get (suc a) b xs s y g in
    let e : a + suc s ≡ suc a + s = omega arith in
    (r.0, r.1, ap (λ k. answered_slot (answer_for k b.records b.answers) r.0) e ∙ r.2)

pub answered_length : (a : ℕ) (b : BatchView) (xs : List Slot) → length (answered_from a b xs) ≡ length xs
answered_length a b [] = refl
answered_length a b (x ∷ xs) = ap suc (answered_length (suc a) b xs)

-- each claimed slot has its answer
abbrev pub AllAnswered : ℕ → BatchView → List Slot → Type 0
AllAnswered a b xs = (s : ℕ) (x : Slot) → slice_get xs s ≡ Some x → x.stage ≡ Claimed → (reply : Reply) × (answer_for (a + s) b.records b.answers ≡ Some reply)

-- then no slot is claimed any more
pub none_claimed : (a e : ℕ) (b : BatchView) (xs : List Slot) → AllAnswered a b xs → claimed_from e (answered_from a b xs) ≡ []
none_claimed a e b [] all = refl
none_claimed a e b (x ∷ xs) all = go x.stage refl (none_claimed (suc a) (suc e) b xs later)
  where
    later : AllAnswered (suc a) b xs
    later s y at is =
        let r = all (suc s) y at is in
        let i : a + suc s ≡ suc a + s = omega arith in
        (r.0, ap (λ k. answer_for k b.records b.answers) (sym i) ∙ r.1)

    go : (st : Stage) → x.stage ≡ st → claimed_from (suc e) (answered_from (suc a) b xs) ≡ []
        → (if is_claimed (answered_stage (answer_for a b.records b.answers) st) then e ∷ claimed_from (suc e) (answered_from (suc a) b xs) else claimed_from (suc e) (answered_from (suc a) b xs)) ≡ []
    go Empty is rest = rest
    go (Posted op) is rest = rest
    go (Answered r) is rest = rest
    go Claimed is rest =
        let r = all 0 x refl is in
        let i : a + 0 ≡ a = omega arith in
        let known : answer_for a b.records b.answers ≡ Some r.0 = ap (λ k. answer_for k b.records b.answers) (sym i) ∙ r.1 in
        ap (λ o. if is_claimed (with_answer o) then e ∷ claimed_from (suc e) (answered_from (suc a) b xs) else claimed_from (suc e) (answered_from (suc a) b xs)) known ∙ rest

-- the answer to a request that is the only one of its session
pub answer_found : (rs : List Record) (answers : List (Option Reply)) (k : ℕ) (r : Record) (o : Option Reply) → slice_get rs k ≡ Some r → slice_get answers k ≡ Some o
    → ((j : ℕ) (q : Record) → slice_get rs j ≡ Some q → q.author ≡ r.author → j ≡ k) → answer_for r.author rs answers ≡ o
answer_found [] answers k r o g f only = absurd (none-some r g)
answer_found (q ∷ rs) [] k r o g f only = absurd (none-some o f)
answer_found (q ∷ rs) (answer ∷ answers) zero r o g f only =
    let yes = eq-eqb q.author r.author (ap (λ y. y.author) (same_Some q r g)) in
    rw yes (same_Some answer o f)
answer_found (q ∷ rs) (answer ∷ answers) (suc k) r o g f only =
    let no = ne_eqb q.author r.author (λ same. (let l : ◌≡◌ {A = ℕ} 0 (suc k) = only 0 q refl same in absurd (omega arith))) in
    rw no (answer_found rs answers k r o g f (λ j p at same. (let l = only (suc j) p at same in omega arith)))
