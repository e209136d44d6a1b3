-- A desk where one slot has the only request without an answer.
use Rattle.std.proofs.Common.{◌≡◌, ℕ, zero, suc, ◌+◌, Bool, true, false, nat_lt, not, refl, sym, ap, ◌∙◌, subst, arith}
use Rattle.std.proofs.Common.{List, [], ◌∷◌, length, map, Option, Some, None, if◌then◌else◌}
use Rattle.std.specs.Prelude.{slice_get, slice_set}
use Rattle.std.specs.List.{list_any}
use Rattle.std.specs.Option.{option_map}
use Rattle.std.proofs.lemmas.Option.{none-some, same_Some, slice_get-map, slice_get_within, option_and_then_some}
use Rattle.std.proofs.lemmas.List.{map-set}
use Rattle.std.proofs.lemmas.Bool.{false≢true, or_parts, and_parts, not-true}
use Rattle.oplog.specs.Operations.{Operation}
use Rattle.oplog.specs.declared.records.Record.{Record}
use Rattle.combiner.specs.declared.slots.Reply.{Reply}
use Rattle.combiner.specs.declared.slots.Stage.{Stage}
use Rattle.combiner.specs.declared.slots.Stage.TheVariants.{Empty, Posted, Claimed, Answered}
use Rattle.combiner.specs.declared.slots.Slot.{Slot}
use Rattle.combiner.specs.declared.places.Place.{Place}
use Rattle.combiner.specs.declared.places.PlaceStage.{PlaceStage}
use Rattle.combiner.specs.declared.places.PlaceStage.TheVariants as places
use Rattle.combiner.specs.declared.desks.Desk.TheInside.{Inside}
use Rattle.combiner.specs.Slots.{slot, is_empty, is_posted, is_claimed, claimed_slot, requests_from, answered_slot}
use Rattle.combiner.specs.Desks.{DeskView, BatchView, first_author, with_slot, has_combiner, has_request, IsOnlyAt}
use Rattle.combiner.specs.Desks.{batch_of, claimed, only, only_answered, claimed_from, IsBatchOf, IsAnswered, replied}
use Rattle.combiner.specs.Answering.{answer_no, answered_by, uses, used_by, answered_up_to}
use Rattle.combiner.specs.Places.{slot_in, stage_in, as_number, how_many}
use Rattle.combiner.proofs.Claims.{batch_with, put_same, quiet_request, requests_early, claimed_then}
use Rattle.combiner.proofs.Counts.{how_many_set, any_counted, post_counts, claim_kept, answer_kept}
use Rattle.combiner.proofs.Counts.{Before, Holds, slots_with, slot_at}
use Rattle.combiner.proofs.Placed.{desk_of, desk_in, place_of, place_there}
use Rattle.combiner.proofs.Replies.{head_or, one_more_answered, one_more_used, used_at_most, used_in_all, replied_then}

-- ---- the place of a slot

-- the slot that lies in a place
pub slot_of_place : (a : Inside) (s : ℕ) (o : Place) (x : Slot) (d : DeskView) → desk_in a ≡ d
    → slice_get d.slots s ≡ Some x → slot_at a s o ≡ x
slot_of_place a s o x d is at =
    same_Some (slot_at a s o) x (sym (place_there a s o d is (slice_get_within d.slots s x at)) ∙ at)

-- a place where a request is posted
pub place_posted : (stage : PlaceStage) (op : Operation) (reply : Reply)
    → is_posted (stage_in stage op reply) ≡ true → stage ≡ places.Posted
place_posted places.Posted op reply h = refl
place_posted places.Empty op reply h = absurd (false≢true h)
place_posted places.Claimed op reply h = absurd (false≢true h)
place_posted places.Answered op reply h = absurd (false≢true h)

-- a place whose request is claimed
pub place_claimed : (stage : PlaceStage) (op : Operation) (reply : Reply)
    → is_claimed (stage_in stage op reply) ≡ true → stage ≡ places.Claimed
place_claimed places.Claimed op reply h = refl
place_claimed places.Empty op reply h = absurd (false≢true h)
place_claimed places.Posted op reply h = absurd (false≢true h)
place_claimed places.Answered op reply h = absurd (false≢true h)

-- ---- claim

-- no slot passes the test
none_pass : (test : Stage → Bool) (xs : List Slot) → list_any (λ x. test x.stage) xs ≡ false → how_many test xs ≡ 0
none_pass test [] none = refl
none_pass test (x ∷ xs) none =
    let each = or_parts (test x.stage) (list_any (λ y. test y.stage) xs) none in
    let first = ap as_number each.0 in
    let rest = none_pass test xs each.1 in
    omega arith

abbrev request : ℕ → Operation → ℕ → Record
request author op count = record { author = author; op = op; seq = count }

-- a request that is posted where none was is the only one
one_request : (a s : ℕ) (xs : List Slot) (x : Slot) (op : Operation) (count : ℕ)
    → list_any (λ y. is_posted y.stage) xs ≡ false → slice_get xs s ≡ Some x
    → requests_from a (slice_set xs s (slot (Posted op) count)) ≡ request (a + s) op count ∷ []
one_request a s [] x op count none at = absurd (none-some x at)
one_request a zero (y ∷ xs) x op count none at =
    let each = or_parts (is_posted y.stage) (list_any (λ z. is_posted z.stage) xs) none in
    let here : a ≡ a + 0 = omega arith in
    ap (λ rs. request a op count ∷ rs) (sym (requests_early (suc a) zero xs each.1))
    ∙ ap (λ b. request b op count ∷ []) here
one_request a (suc s) (y ∷ xs) x op count none at =
    let each = or_parts (is_posted y.stage) (list_any (λ z. is_posted z.stage) xs) none in
    let there : suc a + s ≡ a + suc s = omega arith in
    sym (quiet_request a y.count y.stage (requests_from (suc a) (slice_set xs s (slot (Posted op) count))) each.0)
    ∙ one_request (suc a) s xs x op count each.1 at
    ∙ ap (λ b. request b op count ∷ []) there

-- slot s has the only request without an answer, and so many answers were collected there
abbrev pub HasOnly : ℕ → Operation → ℕ → DeskView → Type 0
HasOnly s op count d = (slice_get d.slots s ≡ Some (slot (Posted op) count))
    × (how_many is_posted d.slots ≡ 1)
    × (how_many is_claimed d.slots ≡ 0)
    × (requests_from (first_author d) d.slots ≡ request (first_author d + s) op count ∷ [])

slot_got : (xs : List Slot) (s : ℕ) (x y : Slot) → slice_get xs s ≡ Some x → slice_get (slice_set xs s y) s ≡ Some y
slot_got [] s x y at = absurd (none-some x at)
slot_got (z ∷ xs) zero x y at = refl
slot_got (z ∷ xs) (suc s) x y at = slot_got xs s x y at

abbrev posted_if : Bool → DeskView → ℕ → Operation → Slot → Option DeskView
posted_if b d s op x = if b then Some (with_slot d s (slot (Posted op) x.count)) else None

pub has_only : (s : ℕ) (op : Operation) (d : DeskView) → IsOnlyAt s op d → (count : ℕ) × HasOnly s op count d
has_only s op d h =
    option_and_then_some (λ x. posted_if (is_empty x.stage) old s op x) (slice_get old.slots s) d h.2
    (λ x at is. by_empty x at (is_empty x.stage) refl is)
  where
    old : DeskView
    old = h.0

    by_empty : (x : Slot) → slice_get old.slots s ≡ Some x → (b : Bool) → is_empty x.stage ≡ b
        → posted_if b old s op x ≡ Some d → (count : ℕ) × HasOnly s op count d
    by_empty x at false empty is = absurd (none-some d is)
    by_empty x at true empty is =
        let y : Slot = slot (Posted op) x.count in
        let idle = and_parts (not (has_request old)) (not (has_combiner old)) h.1 in
        let unposted = not-true (has_request old) idle.0 in
        let no_posted = none_pass is_posted old.slots unposted in
        let no_claimed = none_pass is_claimed old.slots (not-true (has_combiner old) idle.1) in
        let change = post_counts op x y (ap (λ b. if b then Some y else None) empty) in
        let posted_more = change.0 in
        let claimed_same = change.1 in
        let posted_set = how_many_set is_posted old.slots s x y at in
        let claimed_set = how_many_set is_claimed old.slots s x y at in
        let one : how_many is_posted (slice_set old.slots s y) ≡ 1 = omega arith in
        let none : how_many is_claimed (slice_set old.slots s y) ≡ 0 = omega arith in
        let request = one_request (first_author (with_slot old s y)) s old.slots x op x.count unposted at in
        subst (λ e. (count : ℕ) × HasOnly s op count e) (same_Some (with_slot old s y) d is)
        (x.count, (slot_got old.slots s x y at, one, none, request))

pub only_free : (s : ℕ) (op : Operation) (count : ℕ) (d : DeskView) → HasOnly s op count d
    → (has_combiner d ≡ false) × (has_request d ≡ true)
only_free s op count d has = (
  sym (any_counted is_claimed d.slots) ∙ ap (nat_lt 0) has.2,
  sym (any_counted is_posted d.slots) ∙ ap (nat_lt 0) has.1,
)

-- the desk once that request is claimed: claiming it again would change nothing
pub only_claimed : (s : ℕ) (op : Operation) (count : ℕ) (d : DeskView) → HasOnly s op count d
    → with_slot d s (slot Claimed count) ≡ claimed d
only_claimed s op count d has =
    let y : Slot = slot Claimed count in
    let one = has.1 in
    let put = how_many_set is_posted d.slots s (slot (Posted op) count) y has.0 in
    let none : how_many is_posted (slice_set d.slots s y) ≡ 0 = omega arith in
    let no_request = sym (any_counted is_posted (slice_set d.slots s y)) ∙ ap (nat_lt 0) none in
    claimed_then (with_slot d s y) (with_slot d s y) 0 refl no_request
    ∙ ap (desk_of d.node) (map-set claimed_slot d.slots s y)
    ∙ sym (put_same (claimed d) s y (slice_get-map claimed_slot d.slots s ∙ ap (option_map claimed_slot) has.0))

-- its place is written
pub claimed_place : (a : Inside) (s : ℕ) (o p : Place) (op : Operation) (count : ℕ) (d : DeskView) → desk_in a ≡ d
    → HasOnly s op count d → p ≡ record (place_of a s o) { stage = places.Claimed }
    → slot_in a.beside.items p ≡ slot Claimed count
claimed_place a s o p op count d is has put =
    ap (slot_in a.beside.items) put
    ∙ ap (λ x. slot Claimed x.count) (slot_of_place a s o (slot (Posted op) count) d is has.0)

pub only_claim_kept : (a : Inside) (rest : List Place) (s : ℕ) (o p : Place) (op : Operation) (count : ℕ) (d : DeskView)
    → Before a s d → HasOnly s op count d → slot_in a.beside.items p ≡ slot Claimed count
    → Holds a.node a.count 0 1 (slots_with a rest s p)
only_claim_kept a rest s o p op count d is has put =
    let was : slot_at a s o ≡ slot (Posted op) count = slot_of_place a s o (slot (Posted op) count) d is.0 has.0 in
    let number = ap (λ x. as_number (is_posted x.stage)) (sym was) in
    let kept = (claim_kept a rest s o p d 1 is (put ∙ ap claimed_slot (sym was)) number).1 in
    let posted : a.posted_count ≡ 1 = is.3.2 ∙ ap (λ e. how_many is_posted e.slots) is.0 ∙ has.1 in
    let claimed : a.claimed_count ≡ 0 = is.3.3 ∙ ap (λ e. how_many is_claimed e.slots) is.0 ∙ has.2 in
    let posted_kept = kept.2 in
    let claimed_kept = kept.3 in
    (kept.0, kept.1, omega arith, omega arith)

pub only_batch : (s : ℕ) (op : Operation) (count seq : ℕ) (d : DeskView) → HasOnly s op count d → count ≡ seq
    → batch_of d ≡ only (request (first_author d + s) op seq)
only_batch s op count seq d has same =
    ap (λ rs. batch_with rs (map (λ r. None) rs)) has.3 ∙ ap (λ n. only (request (first_author d + s) op n)) same

-- ---- reply

abbrev Found : ℕ → ℕ → List Slot → Type 0
Found a n xs = (s : ℕ) × (count : ℕ) × (n ≡ a + s) × (slice_get xs s ≡ Some (slot Claimed count))

-- the slot of the first session whose request is claimed
first_claimed : (a n : ℕ) (ns : List ℕ) (xs : List Slot) → claimed_from a xs ≡ n ∷ ns → Found a n xs
first_claimed a n ns [] is = let none : 0 ≡ suc (length ns) = ap length is in absurd (omega arith)
first_claimed a n ns (x ∷ xs) is = by_stage x.stage x.count (first_claimed (suc a) n ns xs) is
  where
    later : (y : Slot) → Found (suc a) n xs → Found a n (y ∷ xs)
    later y found = let far = found.2 in (suc found.0, found.1, omega arith, found.3)

    by_stage : (stage : Stage) (count : ℕ) → (claimed_from (suc a) xs ≡ n ∷ ns → Found (suc a) n xs)
        → claimed_from a (slot stage count ∷ xs) ≡ n ∷ ns → Found a n (slot stage count ∷ xs)
    by_stage Empty count rest is = later (slot Empty count) (rest is)
    by_stage (Posted op) count rest is = later (slot (Posted op) count) (rest is)
    by_stage (Answered reply) count rest is = later (slot (Answered reply) count) (rest is)
    by_stage Claimed count rest is = let first : a ≡ n = ap (head_or a) is in (0, count, omega arith, refl)

claimed_counted : (a : ℕ) (xs : List Slot) → how_many is_claimed xs ≡ length (claimed_from a xs)
claimed_counted a [] = refl
claimed_counted a (x ∷ xs) = at (is_claimed x.stage) (claimed_counted (suc a) xs)
  where
    at : (b : Bool) → how_many is_claimed xs ≡ length (claimed_from (suc a) xs)
        → as_number b + how_many is_claimed xs
        ≡ length (if b then a ∷ claimed_from (suc a) xs else claimed_from (suc a) xs)
    at true h = omega arith
    at false h = omega arith

-- slots that take no answer stay as they are
unused_same : (n : ℕ) (answers : List (Option Reply)) (xs : List Slot) → used_by n xs ≡ 0
    → xs ≡ answered_up_to n answers xs
unused_same zero answers xs none = refl
unused_same (suc n) answers [] none = refl
unused_same (suc n) answers (x ∷ xs) none = by_stage x.stage x.count (unused_same n answers xs) none
  where
    by_stage : (stage : Stage) (count : ℕ) → (used_by n xs ≡ 0 → xs ≡ answered_up_to n answers xs)
        → uses stage + used_by n xs ≡ 0
        → slot stage count ∷ xs ≡ answered_up_to (suc n) answers (slot stage count ∷ xs)
    by_stage Empty count rest none = ap (λ ys. slot Empty count ∷ ys) (rest (omega arith))
    by_stage (Posted op) count rest none = ap (λ ys. slot (Posted op) count ∷ ys) (rest (omega arith))
    by_stage (Answered reply) count rest none = ap (λ ys. slot (Answered reply) count ∷ ys) (rest (omega arith))
    by_stage Claimed count rest none = absurd (omega arith)

-- slot s has the only request that is claimed, and so many answers were collected there
abbrev pub HasOnlyClaimed : ℕ → ℕ → DeskView → Type 0
HasOnlyClaimed s count d = (slice_get d.slots s ≡ Some (slot Claimed count))
    × (how_many is_claimed d.slots ≡ 1)
    × (used_by s d.slots ≡ 0)

pub has_only_claimed : (s : ℕ) (r : Record) (d : DeskView) → r.author ≡ first_author d + s → IsBatchOf d (only r)
    → (count : ℕ) × HasOnlyClaimed s count d
has_only_claimed s r d author own =
    let a : ℕ = first_author d in
    let found = first_claimed a r.author [] d.slots (sym own) in
    let far = found.2 in
    let same : found.0 ≡ s = omega arith in
    let there = subst (λ k. slice_get d.slots k ≡ Some (slot Claimed found.1)) same found.3 in
    let one : 1 ≡ length (claimed_from a d.slots) = ap length own in
    let counted = claimed_counted a d.slots in
    let used = used_in_all a d.slots in
    let here = one_more_used s d.slots (slot Claimed found.1) there in
    let most = used_at_most (suc s) d.slots in
    (found.1, (there, omega arith, omega arith))

-- its place is written
pub answered_place : (a : Inside) (s : ℕ) (o p : Place) (count : ℕ) (reply : Reply) (d : DeskView) → desk_in a ≡ d
    → HasOnlyClaimed s count d → p ≡ record (place_of a s o) { stage = places.Answered; reply = reply }
    → slot_in a.beside.items p ≡ slot (Answered reply) count
answered_place a s o p count reply d is has put =
    ap (slot_in a.beside.items) put
    ∙ ap (λ x. slot (Answered reply) x.count) (slot_of_place a s o (slot Claimed count) d is has.0)

pub only_answer_kept : (a : Inside) (rest : List Place) (s : ℕ) (o p : Place) (count : ℕ) (reply : Reply) (d : DeskView)
    → Before a s d → HasOnlyClaimed s count d → slot_in a.beside.items p ≡ slot (Answered reply) count
    → Holds a.node a.count a.posted_count 0 (slots_with a rest s p)
only_answer_kept a rest s o p count reply d is has put =
    let b : BatchView = batch_with [] (Some reply ∷ []) in
    let was : slot_at a s o ≡ slot Claimed count = slot_of_place a s o (slot Claimed count) d is.0 has.0 in
    let answered = put ∙ ap (answered_by b 0) (sym was) in
    let number = ap (λ x. 0 + uses x.stage) (sym was) in
    let kept = (answer_kept a rest s o p d b 0 1 is (λ _. (reply, refl)) answered number).1 in
    let claimed : a.claimed_count ≡ 1 = is.3.3 ∙ ap (λ e. how_many is_claimed e.slots) is.0 ∙ has.1 in
    let claimed_kept = kept.3 in
    (kept.0, kept.1, kept.2, omega arith)

pub only_replied : (s count : ℕ) (r : Record) (reply : Reply) (d : DeskView) → HasOnlyClaimed s count d
    → IsBatchOf d (only_answered r reply)
    → with_slot d s (slot (Answered reply) count) ≡ replied (only_answered r reply) d
only_replied s count r reply d has own =
    let xs : List Slot = d.slots in
    let x : Slot = slot Claimed count in
    let y : Slot = slot (Answered reply) count in
    let answers : List (Option Reply) = Some reply ∷ [] in
    let one = has.1 in
    let put = how_many_set is_claimed xs s x y has.0 in
    let none : how_many is_claimed (slice_set xs s y) ≡ 0 = omega arith in
    let slots : slice_set xs s y ≡ answered_up_to (suc s) answers xs =
    ap (λ zs. slice_set zs s y) (unused_same s answers xs has.2)
    ∙ ap (λ k. slice_set (answered_up_to s answers xs) s (answered_slot (answer_no k answers) x)) (sym has.2)
    ∙ one_more_answered s answers xs x has.0 in
    let no_combiner = sym (any_counted is_claimed (slice_set xs s y)) ∙ ap (nat_lt 0) none in
    let answered = ap (desk_of d.node) slots in
    replied_then d (with_slot d s y) (only_answered r reply) (suc s) answered no_combiner own is_answered
  where
    is_answered : IsAnswered (only_answered r reply)
    is_answered zero lt = (reply, refl)
    is_answered (suc k) lt = absurd (omega arith)
