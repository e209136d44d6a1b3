use Rattle.std.proofs.Common.{◌≡◌, ◌++◌, drop, map}
use Rattle.std.specs.Prelude.{decimal}
use Rattle.json.specs.Token.{number}
use Rattle.findings.proofs.objects.put_slots.Given as goal

abbrev pub invariant-loop-slot : goal.invariant-loop-slot
invariant-loop-slot l =
    (l.out.before ≡ l.initial.out.before)
    × (l.out.tokens ++ map (λ s. number (decimal s)) (drop l.slot-index l.slots) ≡ l.initial.out.tokens ++ map (λ s. number (decimal s)) l.slots)
