use Rattle.std.proofs.Common.{◌∙◌}
use Rattle.stress.specs.Lines.{is_ended}
use Rattle.stress.specs.Timed.{is_updated, is_seen}
use Rattle.stress.proofs.Told.{as_many}
use Rattle.stress.proofs.lines.counted.Goals as goal

pub returns : goal.returns
returns c = record {
  updates = c.updates_in.ensures ∙ as_many is_updated c.args.told.now;
  reads = c.reads_in.ensures ∙ as_many is_seen c.args.told.now;
  ended = c.ended_in.ensures ∙ as_many is_ended c.args.told.now;
}
