use Rattle.std.proofs.Common.{◌≡◌, None}
use Rattle.store_steps.specs.Views.{op_of}
use Rattle.host_calls.specs.Views.{AttachedView}
use Rattle.example_raw_calls.specs.Raw.{Has}
use Rattle.example_raw_calls.proofs.Called.{IsWorking, words}
use Rattle.example_raw_calls.proofs.update.Given as goal

abbrev pub invariant-loop : goal.invariant-loop
invariant-loop g l = record {
  asked : l.handle.asked ≡ words 0 l.program;
  works : (a : AttachedView) → Has l.initial.handle a → a.session.note.pending ≡ None → IsWorking a (op_of l.program l.argument) l.handle;
}
