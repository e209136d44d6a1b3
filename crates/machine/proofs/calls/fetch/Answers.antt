use Rattle.std.proofs.Common.{rules, ◌∙◌}
use Rattle.machine.proofs.calls.fetch.Goals as goal

pub part-requires : goal.part-requires
part-requires c = record { inside = (c.locate-spot.ensures.part _ c.requires.told.0 c.requires.some c.requires.told.1).inside }

pub returns : goal.returns
returns c = record {
  copied = λ bs told. c.copy_from_slice.ensures.after ∙ (c.part.ensures.bytes ∙ (c.locate-spot.ensures.part _ bs c.requires.some told).same);
  count = search rules;
}
