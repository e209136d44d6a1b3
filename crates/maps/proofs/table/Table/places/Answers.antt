use Rattle.std.proofs.Common.{◌∙◌, sym}
use Rattle.maps.proofs.Stored.{many_places}
use Rattle.maps.proofs.table.Table.places.Goals as goal

pub returns-clause-places : goal.returns-clause-places
returns-clause-places c =
    let t = c.args.self.now in c.entry_count.ensures.entries ∙ sym (many_places t.shape t.index c.requires.table.index)
