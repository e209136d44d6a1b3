-- Answering slot by slot.
use Rattle.std.proofs.Common.{◌≡◌, ◌≢◌, ℕ, zero, suc, ◌+◌, ◌<◌, ◌≤◌, true, false, List, [], ◌∷◌, length, map, Option, Some, refl, sym, ap, ap₂, ◌∙◌, eq-eqb, nat_eq, ⊎_elim, subst, arith, if◌then◌else◌}
use Rattle.std.specs.Prelude.{slice_get, slice_set}
use Rattle.std.specs.List.{list_any}
use Rattle.std.proofs.lemmas.Option.{none-some, same_Some}
use Rattle.std.proofs.lemmas.List.{length-map}
use Rattle.std.proofs.lemmas.Bool.{false≢true, or_parts}
use Rattle.std.proofs.lemmas.Bool.Decides.{eqb_tells}
use Rattle.oplog.specs.declared.records.Record.{Record}
use Rattle.combiner.specs.declared.slots.Reply.{Reply}
use Rattle.combiner.specs.declared.slots.Stage.{Stage}
use Rattle.combiner.specs.declared.slots.Stage.TheVariants.{Empty, Posted, Claimed, Answered}
use Rattle.combiner.specs.declared.slots.Slot.{Slot}
use Rattle.combiner.specs.Slots.{slot, is_claimed, answered_slot}
use Rattle.combiner.specs.Desks.{DeskView, BatchView, first_author, with_slot, has_combiner, claimed_from, answer_for, answered_from, replied, IsBatchOf, IsAnswered}
use Rattle.combiner.specs.Answering.{answer_no, uses, behind, used_by, answered_up_to, answered_to}
use Rattle.combiner.proofs.Claims.{some_at}

abbrev desk_of : ℕ → List Slot → DeskView
desk_of node xs = record { node = node; slots = xs }

-- ---- the slots

-- the answer behind those that a slot takes
no_behind : (stage : Stage) (k : ℕ) (answers : List (Option Reply)) → answer_no (uses stage + k) answers ≡ answer_no k (behind stage answers)
no_behind Empty k answers = ap (λ j. answer_no j answers) (omega arith)
no_behind (Posted op) k answers = ap (λ j. answer_no j answers) (omega arith)
no_behind (Answered reply) k answers = ap (λ j. answer_no j answers) (omega arith)
no_behind Claimed k [] = refl
no_behind Claimed k (answer ∷ answers) = let e : 1 + k ≡ suc k = omega arith in ap (λ j. answer_no j (answer ∷ answers)) e

pub next_answered : (n : ℕ) (answers : List (Option Reply)) (xs : List Slot) (x : Slot) → slice_get xs n ≡ Some x → slice_get (answered_up_to n answers xs) n ≡ Some x
next_answered zero answers xs x h = h
next_answered (suc n) answers [] x h = absurd (none-some x h)
next_answered (suc n) answers (y ∷ xs) x h = next_answered n (behind y.stage answers) xs x h

pub one_more_answered : (n : ℕ) (answers : List (Option Reply)) (xs : List Slot) (x : Slot) → slice_get xs n ≡ Some x
    → slice_set (answered_up_to n answers xs) n (answered_slot (answer_no (used_by n xs) answers) x) ≡ answered_up_to (suc n) answers xs
one_more_answered zero answers [] x h = absurd (none-some x h)
one_more_answered zero answers (y ∷ xs) x h = ap (λ z. answered_slot (answer_no 0 answers) z ∷ xs) (sym (same_Some y x h))
one_more_answered (suc n) answers [] x h = absurd (none-some x h)
one_more_answered (suc n) answers (y ∷ xs) x h =
    let first : Slot = answered_slot (answer_no 0 answers) y in
    ap (λ answer. first ∷ slice_set (answered_up_to n (behind y.stage answers) xs) n (answered_slot answer x)) (no_behind y.stage (used_by n xs) answers)
    ∙ ap (λ zs. first ∷ zs) (one_more_answered n (behind y.stage answers) xs x h)

pub answered_length : (n : ℕ) (answers : List (Option Reply)) (xs : List Slot) → length (answered_up_to n answers xs) ≡ length xs
answered_length zero answers xs = refl
answered_length (suc n) answers [] = refl
answered_length (suc n) answers (x ∷ xs) = ap suc (answered_length n (behind x.stage answers) xs)

-- ---- how many answers are used

pub one_more_used : (n : ℕ) (xs : List Slot) (x : Slot) → slice_get xs n ≡ Some x → used_by (suc n) xs ≡ used_by n xs + uses x.stage
one_more_used zero [] x h = absurd (none-some x h)
one_more_used zero (y ∷ xs) x h = let e = ap (λ z. uses z.stage) (same_Some y x h) in omega arith
one_more_used (suc n) [] x h = absurd (none-some x h)
one_more_used (suc n) (y ∷ xs) x h = let e = one_more_used n xs x h in omega arith

pub used_few : (n : ℕ) (xs : List Slot) → used_by n xs ≤ n
used_few zero xs = omega arith
used_few (suc n) [] = omega arith
used_few (suc n) (x ∷ xs) = let e = used_few n xs in let one = uses_one x.stage in omega arith
  where
    uses_one : (stage : Stage) → uses stage ≤ 1
    uses_one Empty = omega arith
    uses_one (Posted op) = omega arith
    uses_one Claimed = omega arith
    uses_one (Answered reply) = omega arith

pub used_at_most : (n : ℕ) (xs : List Slot) → used_by n xs ≤ used_by (length xs) xs
used_at_most zero xs = omega arith
used_at_most (suc n) [] = omega arith
used_at_most (suc n) (x ∷ xs) = let e = used_at_most n xs in omega arith

pub used_in_all : (a : ℕ) (xs : List Slot) → used_by (length xs) xs ≡ length (claimed_from a xs)
used_in_all a [] = refl
used_in_all a (x ∷ xs) = by_stage x.stage (used_in_all (suc a) xs)
  where
    by_stage : (stage : Stage) → used_by (length xs) xs ≡ length (claimed_from (suc a) xs) → uses stage + used_by (length xs) xs ≡ length (if is_claimed stage then a ∷ claimed_from (suc a) xs else claimed_from (suc a) xs)
    by_stage Empty h = omega arith
    by_stage (Posted op) h = omega arith
    by_stage Claimed h = omega arith
    by_stage (Answered reply) h = omega arith

claimed_uses : (stage : Stage) → is_claimed stage ≡ true → uses stage ≡ 1
claimed_uses Claimed h = refl
claimed_uses Empty h = absurd (false≢true h)
claimed_uses (Posted op) h = absurd (false≢true h)
claimed_uses (Answered reply) h = absurd (false≢true h)

-- ---- one turn

-- the next slot of the desk as it was
same_slot : (old now : DeskView) (answers : List (Option Reply)) (n : ℕ) → n < length old.slots → now ≡ answered_to n answers old
    → (x : Slot) × (slice_get old.slots n ≡ Some x) × (slice_get now.slots n ≡ Some x)
same_slot old now answers n lt is =
    let there = some_at old.slots n lt in
    (there.0, there.1, subst (λ d. slice_get d.slots n ≡ Some there.0) (sym is) (next_answered n answers old.slots there.0 there.1))

pub desk_turn : (old now new : DeskView) (answers : List (Option Reply)) (n next : ℕ) → n < length old.slots → now ≡ answered_to n answers old → next ≡ used_by n old.slots
    → ((x : Slot) → slice_get now.slots n ≡ Some x → new ≡ with_slot now n (answered_slot (answer_no next answers) x)) → new ≡ answered_to (n + 1) answers old
desk_turn old now new answers n next lt is used turned =
    let there = same_slot old now answers n lt is in
    let more : suc n ≡ n + 1 = omega arith in
    turned there.0 there.2
    ∙ ap (λ d. with_slot d n (answered_slot (answer_no next answers) there.0)) is
    ∙ ap (λ k. with_slot (answered_to n answers old) n (answered_slot (answer_no k answers) there.0)) used
    ∙ ap (desk_of old.node) (one_more_answered n answers old.slots there.0 there.1)
    ∙ ap (λ k. answered_to k answers old) more

pub next_turn : (old now : DeskView) (answers : List (Option Reply)) (n next after : ℕ) → n < length old.slots → now ≡ answered_to n answers old → next ≡ used_by n old.slots
    → ((x : Slot) → slice_get now.slots n ≡ Some x → after ≡ next + uses x.stage) → after ≡ used_by (n + 1) old.slots
next_turn old now answers n next after lt is used turned =
    let there = same_slot old now answers n lt is in
    let more : suc n ≡ n + 1 = omega arith in
    turned there.0 there.2 ∙ ap (λ k. k + uses there.0.stage) used ∙ sym (one_more_used n old.slots there.0 there.1) ∙ ap (λ k. used_by k old.slots) more

-- there is an answer for the next slot, if it is claimed
pub answer_there : (old now : DeskView) (b : BatchView) (n next : ℕ) → n < length old.slots → now ≡ answered_to n b.answers old → next ≡ used_by n old.slots → IsBatchOf old b → IsAnswered b
    → (x : Slot) → slice_get now.slots n ≡ Some x → is_claimed x.stage ≡ true → (reply : Reply) × (slice_get b.answers next ≡ Some (Some reply))
answer_there old now b n next lt is used own answered x at claimed =
    let there = same_slot old now b.answers n lt is in
    let same : there.0 ≡ x = same_Some there.0 x (sym there.2 ∙ at) in
    let here : is_claimed there.0.stage ≡ true = subst (λ y. is_claimed y.stage ≡ true) (sym same) claimed in
    let one = claimed_uses there.0.stage here in
    let more = one_more_used n old.slots there.0 there.1 in
    let most = used_at_most (suc n) old.slots in
    let all = used_in_all (first_author old) old.slots in
    let count : length b.records ≡ length (claimed_from (first_author old) old.slots) = sym (length-map b.records (λ r. r.author)) ∙ ap length own in
    answered next (omega arith)

-- ---- all turns

unequal : (m n : ℕ) → m ≢ n → nat_eq m n ≡ false
unequal m n other = ⊎_elim (λ yes_. absurd (other yes_.1)) (λ no_. no_.0) (eqb_tells m n)

-- a request of a lower session does not matter
skips : (a : ℕ) (r : Record) (answer : Option Reply) (rs : List Record) (answers : List (Option Reply)) (xs : List Slot) → r.author < a
    → answered_from a (record { records = r ∷ rs; answers = answer ∷ answers }) xs ≡ answered_from a (record { records = rs; answers = answers }) xs
skips a r answer rs answers [] lt = refl
skips a r answer rs answers (x ∷ xs) lt =
    let other : r.author ≢ a = λ e. absurd (omega arith) in
    ap₂ (λ found zs. answered_slot found x ∷ zs) (ap (λ b. if b then answer else answer_for a rs answers) (unequal r.author a other)) (skips (suc a) r answer rs answers xs (omega arith))

abbrev pub head_or : ℕ → List ℕ → ℕ
head_or d [] = d
head_or d (n ∷ ns) = n

abbrev tail_of : List ℕ → List ℕ
tail_of [] = []
tail_of (n ∷ ns) = ns

abbrev HasAnswers : List Record → List (Option Reply) → Type 0
HasAnswers rs answers = (k : ℕ) → k < length rs → (reply : Reply) × (slice_get answers k ≡ Some (Some reply))

by_stage : (stage : Stage) (count a : ℕ) (rs : List Record) (answers : List (Option Reply)) (xs : List Slot)
    → ((qs : List Record) (others : List (Option Reply)) → HasAnswers qs others → map (λ r. r.author) qs ≡ claimed_from (suc a) xs → answered_up_to (length xs) others xs ≡ answered_from (suc a) (record { records = qs; answers = others }) xs)
    → HasAnswers rs answers → map (λ r. r.author) rs ≡ claimed_from a (slot stage count ∷ xs)
    → answered_up_to (length (slot stage count ∷ xs)) answers (slot stage count ∷ xs) ≡ answered_from a (record { records = rs; answers = answers }) (slot stage count ∷ xs)
by_stage Empty count a rs answers xs rest has own = ap (λ zs. slot Empty count ∷ zs) (rest rs answers has own)
by_stage (Posted op) count a rs answers xs rest has own = ap (λ zs. slot (Posted op) count ∷ zs) (rest rs answers has own)
by_stage (Answered reply) count a rs answers xs rest has own = ap (λ zs. slot (Answered reply) count ∷ zs) (rest rs answers has own)
by_stage Claimed count a [] answers xs rest has own = let e : 0 ≡ suc (length (claimed_from (suc a) xs)) = ap length own in absurd (omega arith)
by_stage Claimed count a (r ∷ rs) [] xs rest has own = let none = (has 0 (omega arith)).1 in absurd (none-some _ none)
by_stage Claimed count a (r ∷ rs) (answer ∷ answers) xs rest has own =
    let author : r.author ≡ a = ap (head_or a) own in
    let others : map (λ r. r.author) rs ≡ claimed_from (suc a) xs = ap tail_of own in
    let found : answer ≡ answer_for a (r ∷ rs) (answer ∷ answers) = sym (ap (λ b. if b then answer else answer_for a rs answers) (eq-eqb r.author a author)) in
    ap₂ (λ here zs. answered_slot here (slot Claimed count) ∷ zs) found
    (rest rs answers (λ k lt. has (suc k) (omega arith)) others ∙ sym (skips (suc a) r answer rs answers xs (omega arith)))

-- in their order the answers go to the slots of their own requests
by_order : (a : ℕ) (rs : List Record) (answers : List (Option Reply)) (xs : List Slot) → HasAnswers rs answers → map (λ r. r.author) rs ≡ claimed_from a xs
    → answered_up_to (length xs) answers xs ≡ answered_from a (record { records = rs; answers = answers }) xs
by_order a rs answers [] has own = refl
by_order a rs answers (x ∷ xs) has own = by_stage x.stage x.count a rs answers xs (λ qs others. by_order (suc a) qs others xs) has own

pub replied_whole : (old now : DeskView) (b : BatchView) (n : ℕ) → n ≡ length old.slots → now ≡ answered_to n b.answers old → IsBatchOf old b → IsAnswered b → now ≡ replied b old
replied_whole old now b n all is own answered =
    is ∙ ap (λ k. answered_to k b.answers old) all ∙ ap (desk_of old.node) (by_order (first_author old) b.records b.answers old.slots answered own)

-- ---- all turns that are left would find nothing

quiet_slot : (answer : Option Reply) (stage : Stage) (count : ℕ) → is_claimed stage ≡ false → slot stage count ≡ answered_slot answer (slot stage count)
quiet_slot answer Empty count h = refl
quiet_slot answer (Posted op) count h = refl
quiet_slot answer Claimed count h = absurd (false≢true (sym h))
quiet_slot answer (Answered reply) count h = refl

quiet_behind : (stage : Stage) (answers : List (Option Reply)) → is_claimed stage ≡ false → answers ≡ behind stage answers
quiet_behind Empty answers h = refl
quiet_behind (Posted op) answers h = refl
quiet_behind Claimed answers h = absurd (false≢true (sym h))
quiet_behind (Answered reply) answers h = refl

answered_early : (n : ℕ) (answers : List (Option Reply)) (xs : List Slot) → list_any (λ x. is_claimed x.stage) (answered_up_to n answers xs) ≡ false
    → answered_up_to n answers xs ≡ answered_up_to (length xs) answers xs
answered_early zero answers [] none = refl
answered_early zero answers (x ∷ xs) none =
    let each = or_parts (is_claimed x.stage) (list_any (λ y. is_claimed y.stage) xs) none in
    ap₂ (λ y ys. y ∷ ys) (quiet_slot (answer_no 0 answers) x.stage x.count each.0)
    (answered_early zero answers xs each.1 ∙ ap (λ others. answered_up_to (length xs) others xs) (quiet_behind x.stage answers each.0))
answered_early (suc n) answers [] none = refl
answered_early (suc n) answers (x ∷ xs) none =
    let first : Slot = answered_slot (answer_no 0 answers) x in
    let others : List (Option Reply) = behind x.stage answers in
    let each = or_parts (is_claimed first.stage) (list_any (λ y. is_claimed y.stage) (answered_up_to n others xs)) none in
    ap (λ zs. first ∷ zs) (answered_early n others xs each.1)

pub replied_then : (old now : DeskView) (b : BatchView) (n : ℕ) → now ≡ answered_to n b.answers old → has_combiner now ≡ false → IsBatchOf old b → IsAnswered b → now ≡ replied b old
replied_then old now b n is none own answered =
    let whole : answered_up_to n b.answers old.slots ≡ answered_up_to (length old.slots) b.answers old.slots =
    answered_early n b.answers old.slots (sym (ap has_combiner is) ∙ none) in
    is ∙ ap (desk_of old.node) (whole ∙ by_order (first_author old) b.records b.answers old.slots answered own)
