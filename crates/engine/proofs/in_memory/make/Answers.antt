use Rattle.std.specs.Prelude.{Some}
use Rattle.engine.specs.declared.in_memory.Held.{Held}
use Rattle.engine.specs.declared.in_memory.HeldFiles.{HeldFiles}
use Rattle.engine.specs.Memory.{found_file}
use Rattle.engine.proofs.InTurn.{never_failed}
use Rattle.engine.proofs.in_memory.make.Goals as goal

pub unreachable-requires : goal.unreachable-requires
unreachable-requires g c =
    never_failed (λ (f : HeldFiles). Some (found_file f.0.now)) (λ (s : Held). Some s.0.now) c.args.inputs c.prepare.new.inputs
    (rw c.in-Err-CannotRead.field-0-is at c.in-Err-CannotRead.ensures.failed)
