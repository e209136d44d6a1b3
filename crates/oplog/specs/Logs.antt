-- The log of operations, and the buffer that its records are copied into, as their users see them.
use Rattle.std.specs.Prelude.{ℕ, zero, suc, ◌+◌, ◌-◌, ◌≤◌, ◌==◌, Bool, [], ◌∷◌, length, drop, if◌then◌else◌}
use Rattle.maps.specs.Maps.{shapes_of, HasShapes}
use Rattle.loader.specs.StoreState.{StoreState}
use Rattle.oplog.specs.History.{History}
use Rattle.oplog.specs.Limits.{IsWindow, IsLimit}

-- a log: the records of the history that are kept, and the state before the first of them
pub record Log : Type 0 where
  -- the index of the first record kept
  pub base : ℕ
  -- the state before it
  pub base_state : StoreState
  -- the records from there on
  pub records : History
  -- so many operations are completed, as far as the log was told
  pub done : ℕ
  -- how many records it keeps at most
  pub window : ℕ
  -- how many bytes what is too long for a record may have
  pub long : ℕ
  -- how many records the history may have
  pub limit : ℕ

-- the length of the history
abbrev pub tail_of : Log → ℕ
tail_of g = g.base + length g.records

-- the records of the history from an index on, which is not below the base
abbrev pub records_from : Log → ℕ → History
records_from g index = drop (index - g.base) g.records

-- as many records with one more in front, which is the author's or not: it counts where it is, or where one behind it does
abbrev pub up_by : (own : Bool) → ℕ → ℕ
up_by own zero = if own then 1 else 0
up_by own (suc n) = suc (suc n)

-- how many records there are up to the last one of an author: none where he has none
abbrev pub up_to_last : ℕ → History → ℕ
up_to_last author [] = 0
up_to_last author (r ∷ rs) = up_by (r.author == author) (up_to_last author rs)

-- how many records fit, until the base moves
abbrev pub room_in : Log → ℕ
room_in g = g.window - length g.records

-- how many records the history may still have
abbrev pub left_of : Log → ℕ
left_of g = g.limit - tail_of g

-- what is true of every log
pub record IsLog (g : Log) : Type 0 where
  pub shapes : HasShapes (shapes_of g.base_state.maps) g.base_state.maps
  pub reclaimed : g.base ≤ g.done
  pub completed : g.done ≤ tail_of g
  pub kept : length g.records ≤ g.window
  pub within : tail_of g ≤ g.limit
  pub window : IsWindow g.window
  pub limit : IsLimit g.limit

-- a new log on this state: no record yet
abbrev pub opened_log : StoreState → ℕ → ℕ → ℕ → Log
opened_log state window long limit = record { base = 0; base_state = state; records = []; done = 0; window = window; long = long; limit = limit }

-- a buffer: records, and the index of the first in the history
pub record HandView : Type 0 where
  pub begin : ℕ
  pub records : History
  -- the window of the logs whose records it has room for, and how many bytes what is too long for one may have there
  pub window : ℕ
  pub long : ℕ

-- a new buffer: no record yet
abbrev pub opened_hand : ℕ → ℕ → HandView
opened_hand window long = record { begin = 0; records = []; window = window; long = long }
