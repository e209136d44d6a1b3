use Rattle.accounts.proofs.ReadNotes.{asked_may_put, heard_may_put, may_ask_there}
use Rattle.accounts.proofs.law.read_notes.Goals as goal

pub returns-clause-asks : goal.returns-clause-asks
returns-clause-asks g c = may_ask_there g.S.Viewed.meaning g.S.Viewed.view g.S.Viewed.is_sized

pub returns-clause-log : goal.returns-clause-log
returns-clause-log g c = asked_may_put g.S.Viewed.meaning g.S.Viewed.view g.S.Viewed.is_sized

pub returns-clause-heard : goal.returns-clause-heard
returns-clause-heard g c = heard_may_put g.S.Viewed.meaning g.S.Viewed.view g.S.Viewed.is_sized
