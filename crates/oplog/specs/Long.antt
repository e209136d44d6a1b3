-- Operations with more bytes than a record has room for, as they lie in memory. Only the models of these types cite this module.
use Rattle.std.specs.Prelude.{ℕ, ◌≤◌, List, take, drop}
use Rattle.maps.specs.declared.shapes.TheConstants.{MOST_ARG_LEN}
use Rattle.oplog.specs.declared.long.LongHead.{LongHead}
use Rattle.oplog.specs.declared.long.LongHead.TheVariants.{Run, Install}
use Rattle.oplog.specs.declared.records.Op.TheVariants.{Run as run, Install as install}
use Rattle.oplog.specs.Operations.{Operation}

-- the operation without its bytes, how many they are, and where they begin among those next to it
pub record LongView : Type 0 where
  pub head : LongHead
  pub len : ℕ
  pub begin : ℕ

-- the argument of a program is no longer than any may be
abbrev pub IsHead : LongHead → Type 0
IsHead (Run program) = Unit {0}
IsHead (Install mode arg_len) = arg_len ≤ MOST_ARG_LEN

-- the bytes of the operation, among these
abbrev pub text_in : List ℕ → LongView → List ℕ
text_in beside o = take o.len (drop o.begin beside)

-- the operation with this head and these bytes
abbrev pub long_op : LongHead → List ℕ → Operation
long_op (Run program) text = run (record { program = program; argument = text })
long_op (Install mode arg_len) text = install (record { mode = mode; arg_len = arg_len; bytes = text })
