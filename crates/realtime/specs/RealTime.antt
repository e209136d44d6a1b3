-- Whether the calls of a transcript stand in the order in which they were made (Herlihy and Wing, "Linearizability", TOPLAS 1990: the order in
-- real time of a history of a shared object).
use Rattle.std.specs.Prelude.{◌≡◌, ℕ, ◌<◌, ◌≤◌, Bool, ◌&&◌, ◌||◌, List, Option, position, nat_lt, nat_le, ◌==◌, Contains}
use Rattle.std.specs.List.{list_any}
use Rattle.realtime.specs.declared.histories.Timed.{Timed}

-- a call of the same session began earlier, and was not back yet or doesn't stand on an earlier line of the script
abbrev pub is_out_of_turn : List Timed → Timed → Bool
is_out_of_turn calls call =
    list_any (λ earlier. (earlier.session == call.session) && (nat_lt earlier.begun call.begun && (nat_lt call.begun earlier.ended || nat_le call.line earlier.line))) calls

-- the index of the first line whose session had not finished with the lines of the script before
abbrev pub first_out_of_turn : List Timed → Option ℕ
first_out_of_turn calls = position (is_out_of_turn calls) calls

-- the call was back before another began, but stands behind it
abbrev pub is_misplaced : List Timed → Timed → Bool
is_misplaced calls call = list_any (λ later. nat_lt call.ended later.begun && nat_lt later.rank call.rank) calls

-- the index of the first line whose call was back before another began that it stands behind
abbrev pub first_misplaced : List Timed → Option ℕ
first_misplaced calls = position (is_misplaced calls) calls

-- each session makes its calls one after the other, in the order of their lines in the script
abbrev pub AreInTurn : List Timed → Type 0
AreInTurn calls =
    (a b : Timed) → Contains calls a → Contains calls b → a.session ≡ b.session → a.begun < b.begun → (a.ended ≤ b.begun) × (a.line < b.line)

-- of two calls, one that was back before the other began has no higher rank
abbrev pub InRealTime : List Timed → Type 0
InRealTime calls = (a b : Timed) → Contains calls a → Contains calls b → a.ended < b.begun → a.rank ≤ b.rank
