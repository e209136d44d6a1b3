-- Where the words and the slots of a shelf stand among those of its table, and what the word of a line says.
use Rattle.std.specs.Prelude.{◌≡◌, ℕ, zero, suc, ◌-◌, ◌*◌, ◌/◌, ◌^◌, ◌<◌, List, slice_index, nat_lt, nat_eq, if◌then◌else◌, bit_and}
use Rattle.std.specs.Int.{bit_at}
use Rattle.atomic_table.specs.Seated.{TableId}
use Rattle.ownlock.specs.declared.words.Spot.{Spot}

-- ---- lines

-- the word of a line of places: eight words of eight bytes are a cache line, so that no two lines share one
abbrev pub word_of : ℕ → ℕ
word_of line = 8 * line

-- the word of the completed tail stands behind those of the lines
abbrev pub completed_word : ℕ → ℕ
completed_word places = word_of places

-- the places after the leader stand in two rows, of which the first has so many, and the second has the rest
abbrev pub row_length : ℕ → ℕ
row_length places = places / 2

-- The n-th places of both rows are on line n, from 1 on. The leader is on line 0; where there is one other line, on
-- that.
abbrev pub line_of : (places p : ℕ) → ℕ
line_of places zero = if nat_eq (row_length places) 1 then 1 else 0
line_of places (suc n) = if nat_lt n (row_length places) then suc n else suc n - row_length places

-- the bit of a place in the word of its line
abbrev pub bit_of : (places p : ℕ) → ℕ
bit_of places zero = 2
bit_of places (suc n) = if nat_lt n (row_length places) then 0 else 1

-- the word of a place's line
abbrev pub line_word : (places p : ℕ) → ℕ
line_word places p = word_of (line_of places p)

-- ---- what a word says

-- the mark of a place is set
abbrev pub IsMarked : (places : ℕ) → List ℕ → ℕ → Type 0
IsMarked places words p = bit_at (slice_index words (line_word places p)) (bit_of places p) ≡ 1

-- the number, and one, of the session that has won the line; 0 if none has
abbrev pub winner_in : ℕ → ℕ
winner_in word = word / 256

abbrev pub winner_at : (places : ℕ) → List ℕ → ℕ → ℕ
winner_at places words p = winner_in (slice_index words (line_word places p))

-- the word of a line that this session has won, and where no place is marked
abbrev pub won_by : ℕ → ℕ
won_by session = 256 * suc session

-- the place of this mark is free by this word: it isn't marked, and nobody has won the line
abbrev pub IsFree : (word mark : ℕ) → Type 0
IsFree word mark = (bit_and word mark ≡ 0) × (word < 256)

-- ---- spots

-- this is a place of so many, with the word of its line, and its mark there
abbrev pub IsPlace : (places p word mark : ℕ) → Type 0
IsPlace places p word mark = (p < places) × (word ≡ line_word places p) × (mark ≡ 2 ^ bit_of places p)

-- this is where a place of so many is, and its usual word is one by which it is free
abbrev pub IsSpot : (places : ℕ) → Spot → Type 0
IsSpot places spot = IsPlace places spot.place spot.word spot.mark × IsFree spot.usual spot.mark

-- the slot of a place: eight slots of 24 bytes are three cache lines, so that no line has parts of two values
abbrev pub slot_of : ℕ → ℕ
slot_of p = 8 * p

-- the table has a line of words for each place, and one more for the completed tail, and eight slots for each place
abbrev pub HasLines : ℕ → TableId → Type 0
HasLines places id = (id.words ≡ word_of (suc places)) × (id.slots ≡ slot_of places) × (id.words < 2 ^ 64)

-- the table has this place
abbrev pub HasPlace : TableId → (p word mark : ℕ) → Type 0
HasPlace id p word mark = (places : ℕ) × HasLines places id × IsPlace places p word mark

-- the table has this spot
abbrev pub HasSpot : TableId → Spot → Type 0
HasSpot id spot = HasPlace id spot.place spot.word spot.mark × IsFree spot.usual spot.mark
