use Rattle.accounts.proofs.DeskNotes.{desk_notes, post_noted, claim_noted, collect_noted, batch_noted, desk_picked, desk_picks}
use Rattle.accounts.proofs.law.desk_notes.Goals as goal

pub returns-clause-notes : goal.returns-clause-notes
returns-clause-notes g c = desk_notes g.S.Viewed.view

pub returns-clause-post : goal.returns-clause-post
returns-clause-post g c = post_noted g.S.Viewed.view

pub returns-clause-claim : goal.returns-clause-claim
returns-clause-claim g c = claim_noted g.S.Viewed.view

pub returns-clause-collect : goal.returns-clause-collect
returns-clause-collect g c = collect_noted g.S.Viewed.view

pub returns-clause-batch : goal.returns-clause-batch
returns-clause-batch g c = batch_noted g.S.Viewed.meaning g.S.Viewed.view g.S.Viewed.is_sized

pub returns-clause-desk : goal.returns-clause-desk
returns-clause-desk g c = desk_picked g.S.Viewed.meaning g.S.Viewed.view g.S.Viewed.is_sized

pub returns-clause-desk_is : goal.returns-clause-desk_is
returns-clause-desk_is g c = desk_picks g.S.Viewed.meaning g.S.Viewed.view g.S.Viewed.is_sized
