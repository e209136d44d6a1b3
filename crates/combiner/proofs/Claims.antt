-- Claiming slot by slot.
use Rattle.std.proofs.Common.{◌≡◌, ℕ, zero, suc, ◌+◌, ◌*◌, ◌<◌, ◌≤◌, List, [], ◌∷◌, ◌++◌, length, map, false, Option, Some, None, refl, sym, ap, ap₂, ◌∙◌, subst, arith}
use Rattle.std.specs.Prelude.{slice_get, slice_set}
use Rattle.std.specs.List.{list_any}
use Rattle.std.proofs.lemmas.Option.{none-some, same_Some}
use Rattle.std.proofs.lemmas.List.{map-append}
use Rattle.std.proofs.lemmas.Bool.{false≢true, or_parts}
use Rattle.oplog.specs.declared.records.Record.{Record}
use Rattle.combiner.specs.declared.slots.Stage.{Stage}
use Rattle.combiner.specs.declared.slots.Stage.TheVariants.{Empty, Posted, Claimed, Answered}
use Rattle.combiner.specs.declared.slots.Slot.{Slot}
use Rattle.combiner.specs.Slots.{slot, is_posted, claimed_slot, requested, requests_from}
use Rattle.combiner.specs.declared.slots.Reply.{Reply}
use Rattle.combiner.specs.Desks.{DeskView, BatchView, first_author, with_slot, has_request, claimed, batch_of}
use Rattle.combiner.specs.Claiming.{ClaimsSlot, claimed_up_to, requests_up_to, claimed_to}

abbrev desk_of : ℕ → List Slot → DeskView
desk_of node xs = record { node = node; slots = xs }

abbrev pub batch_with : List Record → List (Option Reply) → BatchView
batch_with records answers = record { records = records; answers = answers }

-- the next slot is still as it was
pub next_is : (n : ℕ) (xs : List Slot) (x : Slot) → slice_get xs n ≡ Some x → slice_get (claimed_up_to n xs) n ≡ Some x
next_is zero xs x h = h
next_is (suc n) [] x h = absurd (none-some x h)
next_is (suc n) (y ∷ xs) x h = next_is n xs x h

pub one_more_claimed : (n : ℕ) (xs : List Slot) (x : Slot) → slice_get xs n ≡ Some x → slice_set (claimed_up_to n xs) n (claimed_slot x) ≡ claimed_up_to (suc n) xs
one_more_claimed zero [] x h = absurd (none-some x h)
one_more_claimed zero (y ∷ xs) x h = ap (λ z. claimed_slot z ∷ xs) (sym (same_Some y x h))
one_more_claimed (suc n) [] x h = absurd (none-some x h)
one_more_claimed (suc n) (y ∷ xs) x h = ap (λ zs. claimed_slot y ∷ zs) (one_more_claimed n xs x h)

pub all_claimed : (xs : List Slot) → claimed_up_to (length xs) xs ≡ map claimed_slot xs
all_claimed [] = refl
all_claimed (x ∷ xs) = ap (λ zs. claimed_slot x ∷ zs) (all_claimed xs)

pub claimed_length : (n : ℕ) (xs : List Slot) → length (claimed_up_to n xs) ≡ length xs
claimed_length zero xs = refl
claimed_length (suc n) [] = refl
claimed_length (suc n) (x ∷ xs) = ap suc (claimed_length n xs)

requested_onto : (a count : ℕ) (stage : Stage) (rs qs : List Record) → requested a count stage (rs ++ qs) ≡ requested a count stage rs ++ qs
requested_onto a count Empty rs qs = refl
requested_onto a count (Posted op) rs qs = refl
requested_onto a count Claimed rs qs = refl
requested_onto a count (Answered reply) rs qs = refl

pub one_more_request : (a n : ℕ) (xs : List Slot) (x : Slot) → slice_get xs n ≡ Some x → requests_up_to a (suc n) xs ≡ requests_up_to a n xs ++ requested (a + n) x.count x.stage []
one_more_request a zero [] x h = absurd (none-some x h)
one_more_request a zero (y ∷ xs) x h =
    let here : a ≡ a + 0 = omega arith in
    ap (λ z. requested a z.count z.stage []) (same_Some y x h) ∙ ap (λ b. requested b x.count x.stage []) here
one_more_request a (suc n) [] x h = absurd (none-some x h)
one_more_request a (suc n) (y ∷ xs) x h =
    let there : suc a + n ≡ a + suc n = omega arith in
    ap (requested a y.count y.stage) (one_more_request (suc a) n xs x h ∙ ap (λ b. requests_up_to (suc a) n xs ++ requested b x.count x.stage []) there)
    ∙ requested_onto a y.count y.stage (requests_up_to (suc a) n xs) (requested (a + suc n) x.count x.stage [])

pub all_requests : (a : ℕ) (xs : List Slot) → requests_up_to a (length xs) xs ≡ requests_from a xs
all_requests a [] = refl
all_requests a (x ∷ xs) = ap (requested a x.count x.stage) (all_requests (suc a) xs)

requested_few : (a count : ℕ) (stage : Stage) (rs : List Record) (n : ℕ) → length rs ≤ n → length (requested a count stage rs) ≤ suc n
requested_few a count Empty rs n h = omega arith
requested_few a count (Posted op) rs n h = omega arith
requested_few a count Claimed rs n h = omega arith
requested_few a count (Answered reply) rs n h = omega arith

pub requests_few : (a n : ℕ) (xs : List Slot) → length (requests_up_to a n xs) ≤ n
requests_few a zero xs = omega arith
requests_few a (suc n) [] = omega arith
requests_few a (suc n) (x ∷ xs) = requested_few a x.count x.stage (requests_up_to (suc a) n xs) n (requests_few (suc a) n xs)

pub some_at : (xs : List Slot) (n : ℕ) → n < length xs → (x : Slot) × (slice_get xs n ≡ Some x)
some_at [] n h = absurd (omega arith)
some_at (x ∷ xs) zero h = (x, refl)
some_at (x ∷ xs) (suc n) h = some_at xs n (omega arith)

-- a slot that is put back as it was changes nothing
same_slots : (xs : List Slot) (n : ℕ) (x : Slot) → slice_get xs n ≡ Some x → slice_set xs n x ≡ xs
same_slots [] n x h = absurd (none-some x h)
same_slots (y ∷ xs) zero x h = ap (λ z. z ∷ xs) (sym (same_Some y x h))
same_slots (y ∷ xs) (suc n) x h = ap (λ zs. y ∷ zs) (same_slots xs n x h)

pub put_same : (d : DeskView) (s : ℕ) (x : Slot) → slice_get d.slots s ≡ Some x → d ≡ with_slot d s x
put_same d s x h = ap (desk_of d.node) (sym (same_slots d.slots s x h))

-- ---- one turn

pub desk_turn : (old now new : DeskView) (n : ℕ) → n < length old.slots → now ≡ claimed_to n old
    → ((x : Slot) → slice_get now.slots n ≡ Some x → new ≡ with_slot now n (claimed_slot x)) → new ≡ claimed_to (n + 1) old
desk_turn old now new n lt is turned =
    let there = some_at old.slots n lt in
    let next : suc n ≡ n + 1 = omega arith in
    subst (λ d. (x : Slot) → slice_get d.slots n ≡ Some x → new ≡ with_slot d n (claimed_slot x)) is turned there.0 (next_is n old.slots there.0 there.1)
    ∙ ap (λ xs. desk_of old.node xs) (one_more_claimed n old.slots there.0 there.1)
    ∙ ap (λ k. claimed_to k old) next

-- what the turn puts into the batch
turn : (old now : DeskView) (before after : BatchView) (n : ℕ) → n < length old.slots → now ≡ claimed_to n old
    → ((x : Slot) → slice_get now.slots n ≡ Some x → ClaimsSlot x (first_author now + n) before after)
    → (x : Slot) × (slice_get old.slots n ≡ Some x) × ClaimsSlot x (first_author old + n) before after
turn old now before after n lt is claims =
    let there = some_at old.slots n lt in
    let first : first_author (claimed_to n old) ≡ first_author old = ap (λ k. old.node * k) (claimed_length n old.slots) in
    let claim : ClaimsSlot there.0 (first_author (claimed_to n old) + n) before after =
    subst (λ d. (x : Slot) → slice_get d.slots n ≡ Some x → ClaimsSlot x (first_author d + n) before after) is claims there.0 (next_is n old.slots there.0 there.1) in
    (there.0, there.1, subst (λ a. ClaimsSlot there.0 (a + n) before after) first claim)

pub records_turn : (old now : DeskView) (before after : BatchView) (n : ℕ) → n < length old.slots → now ≡ claimed_to n old
    → ((x : Slot) → slice_get now.slots n ≡ Some x → ClaimsSlot x (first_author now + n) before after)
    → before.records ≡ requests_up_to (first_author old) n old.slots → after.records ≡ requests_up_to (first_author old) (n + 1) old.slots
records_turn old now before after n lt is claims records =
    let t = turn old now before after n lt is claims in
    let next : suc n ≡ n + 1 = omega arith in
    t.2.records ∙ ap (λ rs. rs ++ requested (first_author old + n) t.0.count t.0.stage []) records
    ∙ sym (one_more_request (first_author old) n old.slots t.0 t.1)
    ∙ ap (λ k. requests_up_to (first_author old) k old.slots) next

pub answers_turn : (old now : DeskView) (before after : BatchView) (n : ℕ) → n < length old.slots → now ≡ claimed_to n old
    → ((x : Slot) → slice_get now.slots n ≡ Some x → ClaimsSlot x (first_author now + n) before after)
    → before.answers ≡ map (λ r. None) before.records → after.answers ≡ map (λ r. None) after.records
answers_turn old now before after n lt is claims answers =
    let t = turn old now before after n lt is claims in
    let more : List Record = requested (first_author old + n) t.0.count t.0.stage [] in
    t.2.answers ∙ ap (λ xs. xs ++ map (λ r. None) more) answers
    ∙ sym (map-append (λ r. None) before.records more)
    ∙ ap (map (λ r. None)) (sym t.2.records)

-- what a turn tells of a place, of the slot that lies there
pub claims_there : (x y : Slot) (a k : ℕ) (before after : BatchView) → ClaimsSlot y a before after → a ≡ k → y ≡ x → ClaimsSlot x k before after
claims_there x y a k before after claims author same = subst (λ z. ClaimsSlot z k before after) same (subst (λ b. ClaimsSlot y b before after) author claims)

-- ---- all turns

pub claimed_whole : (old now : DeskView) (n : ℕ) → n ≡ length old.slots → now ≡ claimed_to n old → now ≡ claimed old
claimed_whole old now n all is = is ∙ ap (λ k. claimed_to k old) all ∙ ap (desk_of old.node) (all_claimed old.slots)

pub batch_whole : (old : DeskView) (b : BatchView) (n : ℕ) → n ≡ length old.slots → b.records ≡ requests_up_to (first_author old) n old.slots
    → b.answers ≡ map (λ r. None) b.records → b ≡ batch_of old
batch_whole old b n all records answers =
    let whole : b.records ≡ requests_from (first_author old) old.slots =
    records ∙ ap (λ k. requests_up_to (first_author old) k old.slots) all ∙ all_requests (first_author old) old.slots in
    ap (batch_with b.records) answers ∙ ap (λ rs. batch_with rs (map (λ r. None) rs)) whole

-- ---- all turns that are left would find nothing

quiet_slot : (stage : Stage) (count : ℕ) → is_posted stage ≡ false → slot stage count ≡ claimed_slot (slot stage count)
quiet_slot Empty count h = refl
quiet_slot (Posted op) count h = absurd (false≢true (sym h))
quiet_slot Claimed count h = refl
quiet_slot (Answered reply) count h = refl

pub quiet_request : (a count : ℕ) (stage : Stage) (rs : List Record) → is_posted stage ≡ false → rs ≡ requested a count stage rs
quiet_request a count Empty rs h = refl
quiet_request a count (Posted op) rs h = absurd (false≢true (sym h))
quiet_request a count Claimed rs h = refl
quiet_request a count (Answered reply) rs h = refl

claimed_early : (n : ℕ) (xs : List Slot) → list_any (λ x. is_posted x.stage) (claimed_up_to n xs) ≡ false → claimed_up_to n xs ≡ map claimed_slot xs
claimed_early zero [] none = refl
claimed_early zero (x ∷ xs) none =
    let each = or_parts (is_posted x.stage) (list_any (λ y. is_posted y.stage) xs) none in
    ap₂ (λ y ys. y ∷ ys) (quiet_slot x.stage x.count each.0) (claimed_early zero xs each.1)
claimed_early (suc n) [] none = refl
claimed_early (suc n) (x ∷ xs) none =
    let each = or_parts (is_posted (claimed_slot x).stage) (list_any (λ y. is_posted y.stage) (claimed_up_to n xs)) none in
    ap (λ zs. claimed_slot x ∷ zs) (claimed_early n xs each.1)

pub requests_early : (a n : ℕ) (xs : List Slot) → list_any (λ x. is_posted x.stage) (claimed_up_to n xs) ≡ false → requests_up_to a n xs ≡ requests_from a xs
requests_early a zero [] none = refl
requests_early a zero (x ∷ xs) none =
    let each = or_parts (is_posted x.stage) (list_any (λ y. is_posted y.stage) xs) none in
    requests_early (suc a) zero xs each.1 ∙ quiet_request a x.count x.stage (requests_from (suc a) xs) each.0
requests_early a (suc n) [] none = refl
requests_early a (suc n) (x ∷ xs) none =
    let each = or_parts (is_posted (claimed_slot x).stage) (list_any (λ y. is_posted y.stage) (claimed_up_to n xs)) none in
    ap (requested a x.count x.stage) (requests_early (suc a) n xs each.1)

pub claimed_then : (old now : DeskView) (n : ℕ) → now ≡ claimed_to n old → has_request now ≡ false → now ≡ claimed old
claimed_then old now n is none = is ∙ ap (desk_of old.node) (claimed_early n old.slots (sym (ap has_request is) ∙ none))

pub batch_then : (old now : DeskView) (b : BatchView) (n : ℕ) → now ≡ claimed_to n old → has_request now ≡ false → b.records ≡ requests_up_to (first_author old) n old.slots
    → b.answers ≡ map (λ r. None) b.records → b ≡ batch_of old
batch_then old now b n is none records answers =
    let whole : b.records ≡ requests_from (first_author old) old.slots =
    records ∙ requests_early (first_author old) n old.slots (sym (ap has_request is) ∙ none) in
    ap (batch_with b.records) answers ∙ ap (λ rs. batch_with rs (map (λ r. None) rs)) whole
