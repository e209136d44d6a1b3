-- How many slots are at a stage.
use Rattle.std.proofs.Common.{◌≡◌, ℕ, zero, suc, ◌+◌, ◌-◌, ◌<◌, ◌≤◌, Bool, true, false, nat_lt, List, [], ◌∷◌, ◌++◌, length, map, take, replicate, Option, Some, None, refl, sym, ap, ◌∙◌, subst, arith, ◌||◌, if◌then◌else◌}
use Rattle.std.specs.Prelude.{slice_get, slice_set, slice_index_or, MatchOption}
use Rattle.std.specs.List.{list_any}
use Rattle.std.specs.Option.{option_and_then}
use Rattle.std.proofs.lemmas.Option.{none-some, same_Some}
use Rattle.std.proofs.lemmas.List.{map-set, length-map, length-set, length-take-le, take_at}
use Rattle.std.proofs.lemmas.Bool.{lt-ltb}
use Rattle.oplog.specs.Operations.{Operation}
use Rattle.oplog.specs.declared.configuration.TheConstants.{MAX_NODES, MAX_NODE_SLOTS}
use Rattle.combiner.specs.declared.slots.Reply.{Reply}
use Rattle.combiner.specs.declared.slots.Stage.{Stage}
use Rattle.combiner.specs.declared.slots.Stage.TheVariants.{Empty, Posted, Claimed, Answered}
use Rattle.combiner.specs.declared.slots.Slot.{Slot}
use Rattle.combiner.specs.declared.places.Place.{Place}
use Rattle.combiner.specs.declared.desks.Desk.TheInside.{Inside}
use Rattle.combiner.specs.Slots.{slot, is_empty, is_posted, is_claimed, claimed_stage, claimed_slot, with_answer, answered_stage, counted}
use Rattle.combiner.specs.Desks.{DeskView, BatchView, HasAnswer, answer_in}
use Rattle.combiner.specs.Answering.{answer_no, answered_by, uses}
use Rattle.combiner.specs.Places.{slot_in, posted_slot, as_number, how_many}
use Rattle.combiner.proofs.Placed.{desk_in, place_there}

one_at_most : (b : Bool) → as_number b ≤ 1
one_at_most true = omega arith
one_at_most false = omega arith

how_many_few : (test : Stage → Bool) (xs : List Slot) → how_many test xs ≤ length xs
how_many_few test [] = omega arith
how_many_few test (x ∷ xs) = let rest = how_many_few test xs in let one = one_at_most (test x.stage) in omega arith

-- no slot is both
one_of : (stage : Stage) → as_number (is_posted stage) + as_number (is_claimed stage) ≤ 1
one_of Empty = omega arith
one_of (Posted op) = omega arith
one_of Claimed = omega arith
one_of (Answered reply) = omega arith

how_many_both : (xs : List Slot) → how_many is_posted xs + how_many is_claimed xs ≤ length xs
how_many_both [] = omega arith
how_many_both (x ∷ xs) = let rest = how_many_both xs in let one = one_of x.stage in omega (arith, rest, one)

-- no more slots pass the test than there are
pub number_few : (test : Stage → Bool) (a : Inside) (n : ℕ) → a.count ≤ length a.places → n ≡ how_many test (map (slot_in a.beside.items) (take a.count a.places)) → n ≤ a.count
number_few test a n fits is =
    let few = how_many_few test (map (slot_in a.beside.items) (take a.count a.places)) in
    let same : length (map (slot_in a.beside.items) (take a.count a.places)) ≡ a.count = length-map (take a.count a.places) (slot_in a.beside.items) ∙ length-take-le a.count a.places fits in
    omega arith

pub how_many_set : (test : Stage → Bool) (xs : List Slot) (s : ℕ) (x y : Slot) → slice_get xs s ≡ Some x
    → how_many test (slice_set xs s y) + as_number (test x.stage) ≡ how_many test xs + as_number (test y.stage)
how_many_set test [] s x y at = absurd (none-some x at)
how_many_set test (z ∷ xs) zero x y at = let same = ap (λ w. as_number (test w.stage)) (same_Some z x at) in omega arith
how_many_set test (z ∷ xs) (suc s) x y at = let rest = how_many_set test xs s x y at in omega arith

-- one place is written: the count changes by that place alone
pub count_put : (test : Stage → Bool) (a : Inside) (rest : List Place) (s : ℕ) (o p : Place) (d : DeskView) → desk_in a ≡ d → a.count ≤ length a.places → s < length d.slots
    → how_many test (map (slot_in a.beside.items) (take a.count (slice_set (take a.count a.places) s p ++ rest))) + as_number (test (slot_in a.beside.items (slice_index_or (take a.count a.places) s o)).stage)
    ≡ how_many test (map (slot_in a.beside.items) (take a.count a.places)) + as_number (test (slot_in a.beside.items p).stage)
count_put test a rest s o p d is fits lt =
    let ps : List Place = take a.count a.places in
    let f : Place → Slot = slot_in a.beside.items in
    let old : Slot = f (slice_index_or ps s o) in
    let front : length (slice_set ps s p) ≡ a.count = length-set ps s p ∙ length-take-le a.count a.places fits in
    ap (λ qs. how_many test (map f qs) + as_number (test old.stage)) (take_at (slice_set ps s p) rest a.count front)
    ∙ ap (λ xs. how_many test xs + as_number (test old.stage)) (map-set f ps s p)
    ∙ how_many_set test (map f ps) s old (f p) (ap (λ e. slice_get e.slots s) is ∙ place_there a s o d is lt)

any_onto : (b : Bool) (rest : ℕ) (any : Bool) → nat_lt 0 rest ≡ any → nat_lt 0 (as_number b + rest) ≡ (b || any)
any_onto true rest any is = lt-ltb 0 (1 + rest) (omega arith)
any_onto false rest any is = let same : 0 + rest ≡ rest = omega arith in ap (nat_lt 0) same ∙ is

pub any_counted : (test : Stage → Bool) (xs : List Slot) → nat_lt 0 (how_many test xs) ≡ list_any (λ x. test x.stage) xs
any_counted test [] = refl
any_counted test (x ∷ xs) = any_onto (test x.stage) (how_many test xs) (list_any (λ y. test y.stage) xs) (any_counted test xs)

-- some slot passes the test, if the count is not 0
pub any_there : (test : Stage → Bool) (a : Inside) (n : ℕ) (d : DeskView) → n ≡ how_many test (map (slot_in a.beside.items) (take a.count a.places)) → desk_in a ≡ d
    → nat_lt 0 n ≡ list_any (λ x. test x.stage) d.slots
any_there test a n d count is =
    ap (nat_lt 0) count ∙ any_counted test (map (slot_in a.beside.items) (take a.count a.places)) ∙ ap (λ e. list_any (λ x. test x.stage) e.slots) is

-- no slot of a new desk passes the test
pub none_opened : (test : Stage → Bool) (n : ℕ) → test Empty ≡ false → 0 ≡ how_many test (replicate n (slot Empty 0))
none_opened test zero not = refl
none_opened test (suc n) not = let rest = none_opened test n not in let first = ap as_number not in omega arith

-- ---- what each change does to both counts

abbrev Same : Slot → Slot → Type 0
Same x y = (as_number (is_posted y.stage) ≡ as_number (is_posted x.stage)) × (as_number (is_claimed y.stage) ≡ as_number (is_claimed x.stage))

pub post_counts : (op : Operation) (x y : Slot) → posted_slot op x ≡ Some y
    → (as_number (is_posted y.stage) ≡ as_number (is_posted x.stage) + 1) × (as_number (is_claimed y.stage) ≡ as_number (is_claimed x.stage))
post_counts op x y h = at x.stage h
  where
    at : (stage : Stage) → (if is_empty stage then Some (slot (Posted op) x.count) else None) ≡ Some y
        → (as_number (is_posted y.stage) ≡ as_number (is_posted stage) + 1) × (as_number (is_claimed y.stage) ≡ as_number (is_claimed stage))
    at Empty is = (ap (λ z. as_number (is_posted z.stage)) (sym (same_Some _ y is)), ap (λ z. as_number (is_claimed z.stage)) (sym (same_Some _ y is)))
    at (Posted other) is = absurd (none-some y is)
    at Claimed is = absurd (none-some y is)
    at (Answered reply) is = absurd (none-some y is)

claim_counts : (stage : Stage)
    → (as_number (is_posted (claimed_stage stage)) ≡ 0) × (as_number (is_claimed (claimed_stage stage)) ≡ as_number (is_claimed stage) + as_number (is_posted stage))
claim_counts Empty = (refl, refl)
claim_counts (Posted op) = (refl, refl)
claim_counts Claimed = (refl, refl)
claim_counts (Answered reply) = (refl, refl)

answer_counts : (b : BatchView) (next : ℕ) (stage : Stage) → (is_claimed stage ≡ true → HasAnswer b next)
    → (as_number (is_claimed stage) ≡ uses stage)
    × (as_number (is_claimed (answered_stage (answer_no next b.answers) stage)) ≡ 0)
    × (as_number (is_posted (answered_stage (answer_no next b.answers) stage)) ≡ as_number (is_posted stage))
answer_counts b next Empty has = (refl, refl, refl)
answer_counts b next (Posted op) has = (refl, refl, refl)
answer_counts b next (Answered reply) has = (refl, refl, refl)
answer_counts b next Claimed has =
    let answer = (has refl).1 in (
      refl,
      ap (λ found. as_number (is_claimed (with_answer (option_and_then (λ a. a) found)))) answer,
      ap (λ found. as_number (is_posted (with_answer (option_and_then (λ a. a) found)))) answer,
    )

answered_quiet : (stage : Stage) (reply : Reply) → Some reply ≡ answer_in stage → (0 ≡ as_number (is_posted stage)) × (0 ≡ as_number (is_claimed stage))
answered_quiet Empty reply h = absurd (none-some reply (sym h))
answered_quiet (Posted op) reply h = absurd (none-some reply (sym h))
answered_quiet Claimed reply h = absurd (none-some reply (sym h))
answered_quiet (Answered other) reply h = (refl, refl)

collect_counts : (b : List ℕ) (answer : Option Reply) (p q : Place) → answer ≡ answer_in (slot_in b p).stage → MatchOption answer (q ≡ p) (λ reply. slot_in b q ≡ slot Empty (counted reply p.count))
    → Same (slot_in b p) (slot_in b q)
collect_counts b None p q from left = (ap (λ r. as_number (is_posted (slot_in b r).stage)) left, ap (λ r. as_number (is_claimed (slot_in b r).stage)) left)
collect_counts b (Some reply) p q from left =
    let quiet = answered_quiet (slot_in b p).stage reply from in
    (ap (λ x. as_number (is_posted x.stage)) left ∙ quiet.0, ap (λ x. as_number (is_claimed x.stage)) left ∙ quiet.1)

-- ---- the counts are right after each change

-- a desk's numbers fit its slots
abbrev pub Holds : ℕ → ℕ → ℕ → ℕ → List Slot → Type 0
Holds node count posted claimed xs = (node < MAX_NODES) × (count ≤ MAX_NODE_SLOTS) × (posted ≡ how_many is_posted xs) × (claimed ≡ how_many is_claimed xs)

-- the slots, and those once a place is written
abbrev slots_of : Inside → List Slot
slots_of a = map (slot_in a.beside.items) (take a.count a.places)

abbrev pub slots_with : Inside → List Place → ℕ → Place → List Slot
slots_with a rest s p = map (slot_in a.beside.items) (take a.count (slice_set (take a.count a.places) s p ++ rest))

abbrev pub slot_at : Inside → ℕ → Place → Slot
slot_at a s o = slot_in a.beside.items (slice_index_or (take a.count a.places) s o)

abbrev pub Before : Inside → ℕ → DeskView → Type 0
Before a s d = (desk_in a ≡ d) × (a.count ≤ length a.places) × (s < length d.slots) × Holds a.node a.count a.posted_count a.claimed_count (slots_of a)

abbrev posted_put : (a : Inside) (rest : List Place) (s : ℕ) (o p : Place) (d : DeskView) → Before a s d
    → how_many is_posted (slots_with a rest s p) + as_number (is_posted (slot_at a s o).stage) ≡ how_many is_posted (slots_of a) + as_number (is_posted (slot_in a.beside.items p).stage)
posted_put a rest s o p d is = count_put is_posted a rest s o p d is.0 is.1 is.2

abbrev claimed_put : (a : Inside) (rest : List Place) (s : ℕ) (o p : Place) (d : DeskView) → Before a s d
    → how_many is_claimed (slots_with a rest s p) + as_number (is_claimed (slot_at a s o).stage) ≡ how_many is_claimed (slots_of a) + as_number (is_claimed (slot_in a.beside.items p).stage)
claimed_put a rest s o p d is = count_put is_claimed a rest s o p d is.0 is.1 is.2

-- one more request: the slots change by that place alone, also where its argument was written
posted_more : (test : Stage → Bool) (xs ys : List Slot) (s : ℕ) (x y : Slot) → slice_get xs s ≡ Some x → ys ≡ slice_set xs s y → how_many test ys + as_number (test x.stage) ≡ how_many test xs + as_number (test y.stage)
posted_more test xs ys s x y at is = ap (λ zs. how_many test zs + as_number (test x.stage)) is ∙ how_many_set test xs s x y at

pub post_kept : (a : Inside) (ys : List Slot) (s : ℕ) (o : Place) (y : Slot) (d : DeskView) (op : Operation) → Before a s d → ys ≡ slice_set (slots_of a) s y → posted_slot op (slot_at a s o) ≡ Some y
    → Holds a.node a.count (a.posted_count + 1) a.claimed_count ys
post_kept a ys s o y d op is put h =
    let there : slice_get (slots_of a) s ≡ Some (slot_at a s o) = ap (λ e. slice_get e.slots s) is.0 ∙ place_there a s o d is.0 is.2 in
    let change = post_counts op (slot_at a s o) y h in
    let more = change.0 in
    let same = change.1 in
    let posted = posted_more is_posted (slots_of a) ys s (slot_at a s o) y there put in
    let claimed = posted_more is_claimed (slots_of a) ys s (slot_at a s o) y there put in
    let first = is.3.2 in
    let second = is.3.3 in
    (is.3.0, is.3.1, omega arith, omega arith)

pub claim_kept : (a : Inside) (rest : List Place) (s : ℕ) (o p : Place) (d : DeskView) (n : ℕ) → Before a s d → slot_in a.beside.items p ≡ claimed_slot (slot_at a s o) → n ≡ as_number (is_posted (slot_at a s o).stage)
    → (n ≤ a.posted_count) × Holds a.node a.count (a.posted_count - n) (a.claimed_count + n) (slots_with a rest s p)
claim_kept a rest s o p d n is h number =
    let change = claim_counts (slot_at a s o).stage in
    let none : as_number (is_posted (slot_in a.beside.items p).stage) ≡ 0 = ap (λ x. as_number (is_posted x.stage)) h ∙ change.0 in
    let more : as_number (is_claimed (slot_in a.beside.items p).stage) ≡ as_number (is_claimed (slot_at a s o).stage) + as_number (is_posted (slot_at a s o).stage) =
    ap (λ x. as_number (is_claimed x.stage)) h ∙ change.1 in
    let posted = posted_put a rest s o p d is in
    let claimed = claimed_put a rest s o p d is in
    let first = is.3.2 in
    let second = is.3.3 in
    (omega arith, (is.3.0, is.3.1, omega arith, omega arith))

-- the same, where what is known of the place is said of bytes that are the desk's
pub claims_kept : (a : Inside) (rest : List Place) (s : ℕ) (o p : Place) (d : DeskView) (n : ℕ) (bytes : List ℕ) → Before a s d → bytes ≡ a.beside.items
    → slot_in bytes p ≡ claimed_slot (slot_in bytes (slice_index_or (take a.count a.places) s o)) → n ≡ as_number (is_posted (slot_in bytes (slice_index_or (take a.count a.places) s o)).stage)
    → (n ≤ a.posted_count) × (a.claimed_count + n ≤ a.count) × Holds a.node a.count (a.posted_count - n) (a.claimed_count + n) (slots_with a rest s p)
claims_kept a rest s o p d n bytes is same h number =
    let q : Place = slice_index_or (take a.count a.places) s o in
    let kept = claim_kept a rest s o p d n is (subst (λ b. slot_in b p ≡ claimed_slot (slot_in b q)) same h) (subst (λ b. n ≡ as_number (is_posted (slot_in b q).stage)) same number) in
    let both = how_many_both (slots_of a) in
    let posted = is.3.2 in
    let claimed = is.3.3 in
    let few = kept.0 in
    let long : length (slots_of a) ≡ a.count = length-map (take a.count a.places) (slot_in a.beside.items) ∙ length-take-le a.count a.places is.1 in
    (kept.0, omega (arith, both, posted, claimed, few, long), kept.1)

pub answer_kept : (a : Inside) (rest : List Place) (s : ℕ) (o p : Place) (d : DeskView) (b : BatchView) (next after : ℕ) → Before a s d
    → (is_claimed (slot_at a s o).stage ≡ true → HasAnswer b next) → slot_in a.beside.items p ≡ answered_by b next (slot_at a s o) → after ≡ next + uses (slot_at a s o).stage
    → (after - next ≤ a.claimed_count) × Holds a.node a.count a.posted_count (a.claimed_count - (after - next)) (slots_with a rest s p)
answer_kept a rest s o p d b next after is has h number =
    let change = answer_counts b next (slot_at a s o).stage has in
    let used = change.0 in
    let none : as_number (is_claimed (slot_in a.beside.items p).stage) ≡ 0 = ap (λ x. as_number (is_claimed x.stage)) h ∙ change.1 in
    let same : as_number (is_posted (slot_in a.beside.items p).stage) ≡ as_number (is_posted (slot_at a s o).stage) = ap (λ x. as_number (is_posted x.stage)) h ∙ change.2 in
    let posted = posted_put a rest s o p d is in
    let claimed = claimed_put a rest s o p d is in
    let first = is.3.2 in
    let second = is.3.3 in
    (omega arith, (is.3.0, is.3.1, omega arith, omega arith))

pub collect_kept : (a : Inside) (rest : List Place) (s : ℕ) (o p : Place) (d : DeskView) (answer : Option Reply) → Before a s d
    → answer ≡ answer_in (slot_at a s o).stage → MatchOption answer (p ≡ slice_index_or (take a.count a.places) s o) (λ reply. slot_in a.beside.items p ≡ slot Empty (counted reply (slice_index_or (take a.count a.places) s o).count))
    → Holds a.node a.count a.posted_count a.claimed_count (slots_with a rest s p)
collect_kept a rest s o p d answer is from left =
    let change = collect_counts a.beside.items answer (slice_index_or (take a.count a.places) s o) p from left in
    let first_same = change.0 in
    let second_same = change.1 in
    let posted = posted_put a rest s o p d is in
    let claimed = claimed_put a rest s o p d is in
    let first = is.3.2 in
    let second = is.3.3 in
    (is.3.0, is.3.1, omega arith, omega arith)
