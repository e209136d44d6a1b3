use Rattle.std.proofs.Common.{◌≡◌, None}
use Rattle.host_calls.specs.Views.{AttachedView}
use Rattle.example_raw_calls.specs.Raw.{Has}
use Rattle.example_raw_calls.proofs.Called.{words}
use Rattle.example_raw_calls.proofs.Reading.{IsReading}
use Rattle.example_raw_calls.proofs.read.Given as goal

abbrev pub invariant-loop : goal.invariant-loop
invariant-loop g l = record {
  asked : l.handle.asked ≡ words 1 l.program;
  reads : (a : AttachedView) → Has l.initial.handle a → a.session.note.pending ≡ None → IsReading a l.handle;
}
