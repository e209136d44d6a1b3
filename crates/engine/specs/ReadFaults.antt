-- Why a text was not read.
use Rattle.std.specs.Prelude.{⊤, Result, Ok, Err}
use Rattle.engine.specs.declared.transfer.ReadFault.{ReadFault}
use Rattle.engine.specs.declared.transfer.ReadFault.TheVariants as faults

-- P is so if the answer says that a read failed
abbrev pub IfCannotRead : {X : Type 0} → Result X ReadFault → Type 0 → Type 0
IfCannotRead (Ok x) P = ⊤
IfCannotRead (Err faults.NoMemory) P = ⊤
IfCannotRead (Err faults.CannotRead) P = P
