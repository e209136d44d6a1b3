use Rattle.accounts.proofs.StoreLaws.{laws_seen}
use Rattle.accounts.proofs.law.seen_laws.Goals as goal

pub returns : goal.returns
returns g c = laws_seen g.S.Viewed.are_rules g.S.Viewed.view g.S.Viewed.is_sized
