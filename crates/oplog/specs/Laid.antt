-- Operations and records as they lie in memory. A long operation is one whose argument, or whose program, is too long for a record: its bytes
-- lie among bytes next to the records.
use Rattle.std.specs.Prelude.{◌≡◌, ℕ, ◌+◌, ◌-◌, ◌≤◌, List, [], ◌∷◌, ◌++◌, length, map, nat_le, ◌⊎◌, if◌then◌else◌}
use Rattle.maps.specs.declared.shapes.TheConstants.{MAX_ARG_LEN, MOST_ARG_LEN}
use Rattle.oplog.specs.declared.laid.LaidOp.{LaidOp}
use Rattle.oplog.specs.declared.laid.LaidOp.TheVariants.{Short, Long, Install}
use Rattle.oplog.specs.declared.records.TheConstants.{MAX_INSTALLED_BYTES}
use Rattle.oplog.specs.declared.records.Op.TheVariants.{Run as run, Install as install}
use Rattle.oplog.specs.declared.records.Record.{Record}
use Rattle.oplog.specs.declared.rows.Row.{Row}
use Rattle.oplog.specs.Operations.{Operation, long_part}
use Rattle.oplog.specs.Long.{long_op, text_in}
use Rattle.oplog.specs.History.{History}

-- ---- an operation

-- the operation that lies here, next to these bytes
abbrev pub op_in : List ℕ → LaidOp → Operation
op_in beside (Short call) = run call
op_in beside (Long long) = long_op long.head (text_in beside long)
op_in beside (Install new) = install new

-- a long operation has its bytes within the first n; any other has room in a record
abbrev pub IsWithin : ℕ → LaidOp → Type 0
IsWithin n (Short call) = length call.argument ≤ MAX_ARG_LEN
IsWithin n (Long long) = (long.begin + long.len ≤ n) × (long.len ≤ MOST_ARG_LEN)
IsWithin n (Install new) = length new.bytes ≤ MAX_INSTALLED_BYTES

-- a long operation has the bytes from `begin` to `end`; any other has none, and room in a record
abbrev pub IsNext : ℕ → LaidOp → ℕ → Type 0
IsNext begin (Short call) end = (end ≡ begin) × (length call.argument ≤ MAX_ARG_LEN)
IsNext begin (Long long) end = (long.begin ≡ begin) × (long.begin + long.len ≡ end) × (long.len ≤ MOST_ARG_LEN)
IsNext begin (Install new) end = (end ≡ begin) × (length new.bytes ≤ MAX_INSTALLED_BYTES)

-- the operation lies here, and the bytes of a long one after those that there were
pub record IsPutAfter (op : Operation) (old : List ℕ) (to : LaidOp) (new : List ℕ) : Type 0 where
  pub same : op_in new to ≡ op
  pub bytes : new ≡ old ++ long_part op
  pub place : IsNext (length old) to (length new)

-- a long operation has the bytes from there on
abbrev pub IsFrom : ℕ → LaidOp → Type 0
IsFrom begin (Short call) = Unit {0}
IsFrom begin (Long long) = (long.begin ≡ begin) × (long.len ≤ MOST_ARG_LEN)
IsFrom begin (Install new) = Unit {0}

-- a long operation has no bytes in the room of another that begins there
abbrev pub IsApart : ℕ → LaidOp → Type 0
IsApart begin (Short call) = Unit {0}
IsApart begin (Long long) = (long.begin + long.len ≤ begin) ⊎ (begin + MOST_ARG_LEN ≤ long.begin)
IsApart begin (Install new) = Unit {0}

-- what lies apart from there is the same operation next to both
abbrev pub KeepsApart : ℕ → List ℕ → List ℕ → Type 0
KeepsApart begin old new = (op : LaidOp) → IsWithin (length old) op → IsApart begin op → op_in new op ≡ op_in old op

-- a long operation has its bytes behind the first n
abbrev pub IsAfter : ℕ → LaidOp → Type 0
IsAfter n (Short call) = Unit {0}
IsAfter n (Long long) = n ≤ long.begin
IsAfter n (Install new) = Unit {0}

-- the operation where so many bytes were dropped in front
abbrev pub pulled : ℕ → LaidOp → LaidOp
pulled gap (Short call) = Short call
pulled gap (Long long) = Long (record long { begin = long.begin - gap })
pulled gap (Install new) = Install new

-- ---- records

abbrev pub record_in : List ℕ → Row → Record
record_in beside r = record { author = r.author; op = op_in beside r.op; seq = r.seq }

abbrev pub records_in : List ℕ → List Row → History
records_in beside rows = map (record_in beside) rows

-- each long operation has its bytes within the first n
abbrev pub AreWithin : ℕ → List Row → Type 0
AreWithin n [] = Unit {0}
AreWithin n (r ∷ rs) = IsWithin n r.op × AreWithin n rs

abbrev pub pulled_row : ℕ → Row → Row
pulled_row gap r = record r { op = pulled gap r.op }

abbrev pub pulled_rows : ℕ → List Row → List Row
pulled_rows gap rows = map (pulled_row gap) rows

-- where the bytes of an operation begin, if those behind it begin there
abbrev pub begin_by : LaidOp → ℕ → ℕ
begin_by (Short call) next = next
begin_by (Long long) next = long.begin
begin_by (Install new) next = next

-- where the bytes of these rows begin, if they end there
abbrev pub begin_of : List Row → ℕ → ℕ
begin_of [] end = end
begin_of (r ∷ rs) end = begin_by r.op (begin_of rs end)

-- a long operation has at most `most` bytes, which end there; any other has room in a record
abbrev pub EndsAt : ℕ → LaidOp → ℕ → Type 0
EndsAt most (Short call) next = length call.argument ≤ MAX_ARG_LEN
EndsAt most (Long long) next = (long.begin + long.len ≡ next) × (long.len ≤ most)
EndsAt most (Install new) next = length new.bytes ≤ MAX_INSTALLED_BYTES

-- each long operation has at most so many bytes, which end where those of the next begin; those of the last end there
abbrev pub AreLaid : ℕ → List Row → ℕ → Type 0
AreLaid long [] end = Unit {0}
AreLaid long (r ∷ rs) end = EndsAt long r.op (begin_of rs end) × AreLaid long rs end

-- what was laid out so is it still
abbrev pub StayLaid : List Row → ℕ → List Row → ℕ → Type 0
StayLaid old end new last = (long : ℕ) → AreLaid long old end → AreLaid long new last

-- how many bytes a list keeps for each record, if so many may be asked for
abbrev pub each_of : ℕ → ℕ
each_of long = if nat_le long MAX_ARG_LEN then 0 else long
