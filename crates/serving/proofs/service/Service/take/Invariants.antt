use Rattle.std.proofs.Common.{◌≡◌, ◌++◌, take}
use Rattle.running.specs.Running.{IsSteady}
use Rattle.serving.specs.ServeAnswer.{ServiceState, served}
use Rattle.serving.specs.ServiceKept.{Stands}
use Rattle.serving.proofs.service.Service.take.Given as goal

abbrev pub invariant-loop-byte : goal.invariant-loop-byte
invariant-loop-byte l =
    IsSteady l.self.catalogue l.self.node
    × (l.self.catalogue ≡ l.fn.self.catalogue)
    × ((s : ServiceState) → Stands s l.fn.self
    → (l.out.items ≡ l.fn.out.items ++ (served l.fn.self.catalogue s (take l.byte-index l.bytes)).text) × Stands (served l.fn.self.catalogue s (take l.byte-index l.bytes)).serving l.self)
