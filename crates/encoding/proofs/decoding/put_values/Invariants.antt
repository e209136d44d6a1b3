use Rattle.std.proofs.Common.{◌≡◌, drop}
use Rattle.encoding.specs.Decoded.{values_of}
use Rattle.encoding.proofs.DecodeSteps.{with_values}
use Rattle.encoding.proofs.decoding.put_values.Given as goal

abbrev pub invariant-loop-part : goal.invariant-loop-part
invariant-loop-part l = with_values l.out.items (values_of (drop l.part-index l.parts) l.left) ≡ with_values l.initial.out.items (values_of l.parts l.bytes)
