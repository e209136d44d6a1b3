-- What a reader may rely on between any two atomic steps on a shelf.
use Rattle.std.specs.Prelude.{◌≡◌, ℕ, suc, ◌<◌, ◌⊎◌, List, map, length, slice_index, Option, Some}
use mathlib.Core.Option as kernel
use Rattle.atomic_table.specs.Table.{State}
use Rattle.ownlock.specs.declared.known.Known.{Known}
use Rattle.ownlock.specs.Rules.{Rules, leader}
use Rattle.ownlock.specs.Words.{IsMarked, completed_word, slot_of, winner_at}
use Rattle.ownlock.specs.Knowledge.{IsOneRun}
use Rattle.ownlock.specs.Seats.{At, View, Opened, place_of}

-- a shelf between two atomic steps: its words and slots, and what each seat knows
abbrev pub ShelfState : Type 0 → Type 0 → Type 0 → Type 0
ShelfState P N V = State (Option V) (View P N V)

module _ {P N V : Type 0} (s : ShelfState P N V) where
  -- the session k, the i-th of the seat j, holds the place p as the a-th of its places, and took x from there
  abbrev pub Holds : ℕ → ℕ → ℕ → Known P N V → ℕ → V → Type 0
  Holds j i a k p x = (v : View P N V) × At j v s.views × At i k v × At a (p, x) k.held

  -- nobody holds the place
  abbrev pub HeldByNobody : ℕ → Type 0
  HeldByNobody p = (j i a : ℕ) (k : Known P N V) (x : V) → Holds j i a k p x → ⊥

  -- this holding of the place is the only one
  abbrev pub HeldOnce : ℕ → ℕ → ℕ → ℕ → Type 0
  HeldOnce j i a p = (j' i' a' : ℕ) (k' : Known P N V) (x' : V) → Holds j' i' a' k' p x' → (j' ≡ j) × (i' ≡ i) × (a' ≡ a)

module _ {P N V : Type 0} (R : Rules P N V) (s : ShelfState P N V) (progress : P) (notes : List N) where
  -- of so many places this one is not marked, its value is on the shelf and agrees, and nobody holds the place
  abbrev pub IsHome : (places : ℕ) → ℕ → Type 0
  IsHome places p =
      (IsMarked places s.words p → ⊥)
      × ((x : V) × At (slot_of p) (kernel.some (Some x)) s.homes × R.AgreesWith p progress notes x)
      × HeldByNobody s p

  -- the place is marked, or this session has won its line
  abbrev pub IsClaimed : (places : ℕ) → Known P N V → ℕ → Type 0
  IsClaimed places k p = IsMarked places s.words p ⊎ (winner_at places s.words p ≡ suc k.session)

  -- nothing is on the shelf, and one session of one seat holds the place; the value that it took agrees
  abbrev pub IsHeld : (places : ℕ) → ℕ → Type 0
  IsHeld places p =
      At (slot_of p) kernel.none s.homes
      × ((j i a : ℕ) × (k : Known P N V) × (x : V) × Holds s j i a k p x × HeldOnce s j i a p
      × R.AgreesWith p progress notes x × IsClaimed places k p)

  abbrev pub IsHomeOrHeld : (places : ℕ) → ℕ → Type 0
  IsHomeOrHeld places p = IsHome places p ⊎ IsHeld places p

  -- the progress has grown from what the session knows, the session's note is the one that it knows, and it may hold what it holds
  abbrev pub IsKnown : Known P N V → Type 0
  IsKnown k = R.Extends k.progress progress × At k.session k.note notes × R.Allows k.progress k.session (map place_of k.held)

  -- the word behind those of the places is the progress's completed tail
  abbrev pub IsCompletedTail : ℕ → Type 0
  IsCompletedTail places = slice_index s.words (completed_word places) ≡ R.completed progress

  -- while a session holds the leader, the history is the one that it knows
  abbrev pub HistoryStandsStill : Type 0
  HistoryStandsStill = (j i a : ℕ) (k : Known P N V) (x : V) → Holds s j i a k leader x → R.SameHistory k.progress progress

-- One progress and the notes of all sessions stand for everything that the seats know and that lies on the shelf. The progress has grown
-- from the one that the shelf was opened with, and there are the places and the sessions that it was opened for. One run of the steps of all
-- sessions leads there.
abbrev pub Between : {P N V : Type 0} → Rules P N V → ShelfState P N V → Opened P N → Type 0
Between {P} {N} {V} R s opened =
    (progress : P) × (notes : List N) × R.Accounts progress notes
    × R.Extends opened.progress progress × (length s.homes ≡ slot_of opened.places) × (length notes ≡ length opened.notes)
    × ((p : ℕ) → p < opened.places → IsHomeOrHeld R s progress notes opened.places p)
    × ((j i : ℕ) (v : View P N V) (k : Known P N V) → At j v s.views → At i k v → IsKnown R s progress notes k)
    × IsCompletedTail R s progress notes opened.places
    × HistoryStandsStill R s progress notes
    × IsOneRun R opened progress notes (λ k. (j i : ℕ) × (v : View P N V) × At j v s.views × At i k v)
