use Rattle.std.proofs.Common.{◌≡◌, drop}
use Rattle.loader.specs.Loading.{is_taken}
use Rattle.loader.proofs.loading.is_taken.Given as goal

abbrev pub invariant-loop-program : goal.invariant-loop-program
invariant-loop-program l = is_taken (drop l.program-index l.programs) l.name ≡ is_taken l.programs l.name
