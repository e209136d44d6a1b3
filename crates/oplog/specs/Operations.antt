-- An operation as its users see it.
use Rattle.std.specs.Prelude.{ℕ, ◌≤◌, List, [], length, nat_le, if◌then◌else◌}
use Rattle.maps.specs.declared.shapes.TheConstants.{MAX_ARG_LEN}
use Rattle.verifier.specs.declared.refusal.Mode.{Mode}
use Rattle.oplog.specs.declared.records.TheConstants.{MAX_INSTALLED_BYTES}
use Rattle.oplog.specs.declared.records.Op.{Op}
use Rattle.oplog.specs.declared.records.Op.TheVariants.{Run, Install}

-- the run of a call, or the installing of a program
abbrev pub Operation : Type 0
Operation = Op

-- the installing of a program by its parts
abbrev pub installing : Mode → ℕ → List ℕ → Operation
installing mode arg_len bytes = Install (record { mode = mode; arg_len = arg_len; bytes = bytes })

-- what is too long for a record: the argument of a call, or the bytes of a program, if a record has no room for all of them
abbrev pub long_part : Operation → List ℕ
long_part (Run call) = if nat_le (length call.argument) MAX_ARG_LEN then [] else call.argument
long_part (Install new) = if nat_le (length new.bytes) MAX_INSTALLED_BYTES then [] else new.bytes

-- the operation fits where what is too long for a record may have so many bytes
abbrev pub FitsIn : ℕ → Operation → Type 0
FitsIn long op = length (long_part op) ≤ long
