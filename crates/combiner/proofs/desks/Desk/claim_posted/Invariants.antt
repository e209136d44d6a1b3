use Rattle.std.proofs.Common.{◌≡◌, map, None}
use Rattle.combiner.specs.Desks.{first_author}
use Rattle.combiner.specs.Claiming.{claimed_up_to, requests_up_to}
use Rattle.combiner.proofs.desks.Desk.claim_posted.Given as goal

abbrev pub invariant-loop-slot : goal.invariant-loop-slot
invariant-loop-slot l = record {
  desk : l.self ≡ record { node = l.initial.self.node; slots = claimed_up_to l.slot l.initial.self.slots };
  records : l.batch.records ≡ requests_up_to (first_author l.initial.self) l.slot l.initial.self.slots;
  answers : l.batch.answers ≡ map (λ r. None) l.batch.records;
}
