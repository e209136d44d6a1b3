-- What is lent of an operation, as an operation. No public clause but those of the parts cites this module.
use Rattle.std.specs.Prelude.{◌≤◌, length}
use Rattle.maps.specs.declared.shapes.TheConstants.{MOST_ARG_LEN}
use Rattle.oplog.specs.Operations.{Operation}
use Rattle.loader.specs.declared.installed.TheConstants.{MOST_LONG}
use Rattle.oplog.specs.declared.records.Op.TheVariants.{Run as run, Install as install}
use Rattle.oplog.specs.declared.parts.OpParts.{OpParts}
use Rattle.oplog.specs.declared.parts.OpParts.TheVariants.{Run, Install}

-- the operation of these parts
abbrev pub op_of : OpParts → Operation
op_of (Run program argument) = run (record { program = program; argument = argument.now })
op_of (Install mode arg_len bytes) = install (record { mode = mode; arg_len = arg_len; bytes = bytes.now })

-- they are no longer than those of any operation
abbrev pub AreWithin : OpParts → Type 0
AreWithin (Run program argument) = length argument.now ≤ MOST_ARG_LEN
AreWithin (Install mode arg_len bytes) = (arg_len ≤ MOST_ARG_LEN) × (length bytes.now ≤ MOST_LONG)
