use Rattle.std.proofs.Common.{sym}
use Rattle.maps.proofs.Export.{are_bytes}
use Rattle.verifier.specs.Accepted.{checked_in}
use Rattle.replica.specs.StoreMeaning.{call_of}
use Rattle.replica.proofs.Export.{tests_offered}
use Rattle.running.proofs.calls.run_numbered.Goals as goal

pub perform-requires-clause-call : goal.perform-requires-clause-call
perform-requires-clause-call c =
    tests_offered c.mode.result c.args.catalogue.now (call_of c.in-Some.number c.args.argument.now) (record {
      program = checked_in c.in-Ok.program.now;
      named = c.in-Ok.ensures.found;
      mode_is = sym c.mode.ensures;
      length_is = c.in-Ok.ensures.length.0;
      bytes = are_bytes c.args.argument.now c.type_inv.argument;
    })
