use Rattle.std.proofs.Common.{refl}
use Rattle.maps.specs.Blocks.{stored}
use Rattle.maps.proofs.EntriesAt.{given_more, given_same}
use Rattle.maps.proofs.table.Table.entry_into.Goals as goal

pub returns-then-not-key_into-clause-given : goal.returns-then-not-key_into-clause-given
returns-then-not-key_into-clause-given c =
    given_same (stored c.args.self.now) c.args.n c.args.place c.args.keys.now c.key_into.new.keys c.args.values.now c.if-not-key_into.ensures.others (c.if-not-key_into.ensures.free refl)

pub returns-clause-given : goal.returns-clause-given
returns-clause-given c =
    given_more (stored c.args.self.now) c.args.n c.args.place c.args.keys.now c.key_into.new.keys c.args.values.now c.value_into.new.values c.if-not-key_into.ensures.others c.value_into.ensures.others
    (c.if-not-key_into.ensures.there refl) c.value_into.ensures.value
