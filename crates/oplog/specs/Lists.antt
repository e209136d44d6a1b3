-- A list of records as its users see it.
use Rattle.std.specs.Prelude.{ℕ, []}
use Rattle.oplog.specs.History.{History}

-- the records, how many there is room for, and how many bytes what is too long for one may have
pub record RecordListView : Type 0 where
  pub records : History
  pub room : ℕ
  pub long : ℕ

-- a new list: no record yet
abbrev pub new_list : ℕ → ℕ → RecordListView
new_list room long = record { records = []; room = room; long = long }
