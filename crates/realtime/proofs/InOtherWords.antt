-- What the definitions of a history say, in other words.
use Rattle.std.proofs.Common.{◌≡◌, ◌↔◌, ◌⊎◌, ℕ, ◌+◌, ◌<◌, ◌≤◌, Bool, true, false, List, length, get_or, cond, ltb, Option, Some, None, refl, sym, ap, ◌∙◌, arith, Contains, position, ⊎_elim, inl, inr}
use Rattle.std.specs.Option.{option_map_or}
use Rattle.std.specs.List.{list_any, position_or_len}
use Rattle.std.proofs.lemmas.Bool.{ltb-true, ltb-false, leb-true, eqb-true, eq-eqb, lt-ltb, le-leb, and_from, and_parts, or_left, or_right, or_cases, cases_lt, false_from_ne_true}
use Rattle.std.proofs.lemmas.Option.{slice_get-get_or}
use Rattle.std.proofs.lemmas.List.Folds.{Any-from_list_any}
use Rattle.std.proofs.lemmas.List.Sums.{position_or_len_is, fails_before_first}
use Rattle.std.proofs.lemmas.List.Quantifiers.{position-Some}
use Rattle.realtime.specs.declared.histories.Timed.{Timed}
use Rattle.realtime.specs.RealTime.{is_out_of_turn, first_out_of_turn, is_misplaced, first_misplaced, AreInTurn, InRealTime}
use Rattle.engine.specs.declared.replies.Verdict.TheVariants as verdicts
use Rattle.engine.specs.Answer.{Answer}
use Rattle.realtime.specs.TimedAnswer.{bad_history, differing_history}
use Rattle.realtime.specs.Laws.{IsShown, GoodIsReal, DiffersIsShown}
use Rattle.realtime.proofs.Turning.{hinders, some_passes, contains_at}
use Rattle.realtime.proofs.Misplaced.{stands_behind}

-- ---- where no element passes a test

no_place : {X : Type 0} (p : X → Bool) (xs : List X) → position p xs ≡ None → length xs ≤ position_or_len p xs
no_place p xs e = by (ltb (position_or_len p xs) (length xs)) refl e
  where
    by : (b : Bool) → ltb (position_or_len p xs) (length xs) ≡ b → cond b (Some (position_or_len p xs)) None ≡ None → length xs ≤ position_or_len p xs
    by true is none = absurd cc
    by false is none = omega (arith, ltb-false _ _ is)

none_passes : (p : Timed → Bool) (calls : List Timed) → position p calls ≡ None → (a : Timed) → Contains calls a → p a ≡ false
none_passes p calls e a has =
    let past = no_place p calls e in
    sym (ap p has.2) ∙ fails_before_first p calls has.0 a (let within = has.1 in omega (arith, past, within))

nowhere : (p : Timed → Bool) (calls : List Timed) → ((a : Timed) → Contains calls a → p a ≡ false) → position p calls ≡ None
nowhere p calls none =
    let zero : Timed = record { session = 0; line = 0; begun = 0; ended = 0; rank = 0 } in
    let at : position_or_len p calls ≡ length calls =
    position_or_len_is p calls (length calls) zero (omega arith) (λ k lt. none (get_or calls k zero) (contains_at calls k zero lt)) (λ lt. absurd (omega (arith, lt))) in
    let over : ltb (position_or_len p calls) (length calls) ≡ false = false_from_ne_true _ (λ e. let lt = ltb-true _ _ e in omega (arith, at, lt)) in
    rw over refl

-- a test of pairs that none of these passes with any other
no_other : (test : Timed → Bool) (calls : List Timed) → list_any test calls ≡ false → (b : Timed) → Contains calls b → test b ≡ false
no_other test calls none b has = false_from_ne_true _ (λ e. let some = some_passes test calls b has e in absurd cc)

-- ---- turns

hinders_by : (call earlier : Timed) → earlier.session ≡ call.session → earlier.begun < call.begun → (call.begun < earlier.ended) ⊎ (call.line ≤ earlier.line) → hinders call earlier ≡ true
hinders_by call earlier session begun why =
    and_from _ _ (eq-eqb _ _ session) (and_from _ _ (lt-ltb _ _ begun)
    (⊎_elim (λ lt. or_left _ _ (lt-ltb _ _ lt)) (λ le. or_right _ _ (le-leb _ _ le)) why))

in_turn_from : (calls : List Timed) → first_out_of_turn calls ≡ None → AreInTurn calls
in_turn_from calls e a b has_a has_b session begun =
    let none = no_other (hinders b) calls (none_passes (is_out_of_turn calls) calls e b has_b) a has_a in
    let wrong : (b.begun < a.ended) ⊎ (b.line ≤ a.line) → ⊥ = λ why. (let yes = hinders_by b a session begun why in absurd cc) in
    (⊎_elim (λ lt. absurd (wrong (inl lt))) (λ le. le) (cases_lt b.begun a.ended), ⊎_elim (λ lt. lt) (λ le. absurd (wrong (inr le))) (cases_lt a.line b.line))

in_turn_to : (calls : List Timed) → AreInTurn calls → first_out_of_turn calls ≡ None
in_turn_to calls turns = nowhere (is_out_of_turn calls) calls (λ b has_b. false_from_ne_true _ (λ out.
    let some = Any-from_list_any (hinders b) calls out in
    let a : Timed = some.1 in
    let has_a : Contains calls a = (some.0, some.2, some.3) in
    let first = and_parts _ _ some.4 in
    let second = and_parts _ _ first.1 in
    let begun : a.begun < b.begun = ltb-true _ _ second.0 in
    let so = turns a b has_a has_b (eqb-true _ _ first.0) begun in
    let back : a.ended ≤ b.begun = so.0 in
    let later : a.line < b.line = so.1 in
    ⊎_elim
    (λ e. let lt : b.begun < a.ended = ltb-true _ _ e in omega (arith, lt, back))
    (λ e. let le : b.line ≤ a.line = leb-true _ _ e in omega (arith, le, later))
    (or_cases _ _ second.1)))

pub turns_are_taken : (calls : List Timed) → (first_out_of_turn calls ≡ None) ↔ AreInTurn calls
turns_are_taken calls = (in_turn_from calls, in_turn_to calls)

-- ---- places

real_from : (calls : List Timed) → first_misplaced calls ≡ None → InRealTime calls
real_from calls e a b has_a has_b back =
    let none = no_other (stands_behind a) calls (none_passes (is_misplaced calls) calls e a has_a) b has_b in
    ⊎_elim (λ less. absurd (let yes : stands_behind a b ≡ true = and_from _ _ (lt-ltb _ _ back) (lt-ltb _ _ less) in cc)) (λ le. le) (cases_lt b.rank a.rank)

real_to : (calls : List Timed) → InRealTime calls → first_misplaced calls ≡ None
real_to calls real = nowhere (is_misplaced calls) calls (λ a has_a. false_from_ne_true _ (λ out.
    let some = Any-from_list_any (stands_behind a) calls out in
    let b : Timed = some.1 in
    let parts = and_parts _ _ some.4 in
    let less : b.rank < a.rank = ltb-true _ _ parts.1 in
    let le = real a b has_a (some.0, some.2, some.3) (ltb-true _ _ parts.0) in
    omega (arith, less, le)))

pub places_are_real : (calls : List Timed) → (first_misplaced calls ≡ None) ↔ InRealTime calls
places_are_real calls = (real_from calls, real_to calls)

pub misplaced_is_shown : (calls : List Timed) (k : ℕ) → first_misplaced calls ≡ Some k → IsShown calls k
misplaced_is_shown calls k e =
    let zero : Timed = record { session = 0; line = 0; begun = 0; ended = 0; rank = 0 } in
    let first = position-Some (is_misplaced calls) calls k zero e in
    let a : Timed = get_or calls k zero in
    let some = Any-from_list_any (stands_behind a) calls first.1 in
    let parts = and_parts _ _ some.4 in
    (a, some.1, slice_get-get_or calls k zero first.0, (some.0, some.2, some.3), ltb-true _ _ parts.0, ltb-true _ _ parts.1)

-- ---- the answers

-- no line has a fault where the answer is good
-- the answer by the indices of a line that is out of turn and of one that is misplaced
abbrev by_faults : Option ℕ → Option ℕ → Answer → Answer
by_faults out wrong answer = option_map_or (λ k. bad_history (k + 1)) out (option_map_or (λ k. differing_history (k + 1)) wrong answer)

faultless : (out wrong : Option ℕ) (answer : Answer) → (by_faults out wrong answer).verdict ≡ verdicts.Good → (out ≡ None) × (wrong ≡ None)
faultless None None answer e = (refl, refl)
faultless None (Some k) answer e = absurd cc
faultless (Some k) wrong answer e = absurd cc

pub good_is_real : GoodIsReal
good_is_real answer calls good = (
  λ e. (let none = faultless (first_out_of_turn calls) (first_misplaced calls) answer e in (in_turn_from calls none.0, real_from calls none.1)),
  λ h. rw (in_turn_to calls h.0, real_to calls h.1) good,
)

differing : (calls : List Timed) (out wrong : Option ℕ) (answer : Answer) → answer.verdict ≡ verdicts.Good → first_misplaced calls ≡ wrong
    → (by_faults out wrong answer).verdict ≡ verdicts.Differs
    → (k : ℕ) × (by_faults out wrong answer ≡ differing_history (k + 1)) × IsShown calls k
differing calls None None answer good is e = absurd cc
differing calls None (Some k) answer good is e = (k, refl, misplaced_is_shown calls k is)
differing calls (Some k) wrong answer good is e = absurd cc

pub differs_is_shown : DiffersIsShown
differs_is_shown answer calls good e = differing calls (first_out_of_turn calls) (first_misplaced calls) answer good refl e
