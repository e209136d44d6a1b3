use Rattle.std.proofs.Common.{◌∙◌, ◌++◌, ◌*◌, take, drop, sym, ap, subst, length}
use Rattle.ownlock.specs.Seats.{At}
use Rattle.store.proofs.Export.{lent_back}
use Rattle.stress.specs.Teams.{AreVacant}
use Rattle.stress.proofs.EachTeam.{all_seated}
use Rattle.stress.proofs.sharing.play_all.Goals as goal

pub play_together-requires-clause-new : goal.play_together-requires-clause-new
play_together-requires-clause-new g c κs within i t at =
    let ground = c.args.ground.now in
    let long = c.enter.auto.teams ∙ c.deref_mut.ensures.len in
    let here = c.deref_mut-2.ensures.value ∙ lent_back c.args.teams.len c.enter.new.teams c.args.teams.items long in
    let all = ap (λ k. k * ground.together) (c.enter.auto.teams ∙ ap length c.deref_mut.ensures.value) ∙ c.requires.rooms.1 in
    all_seated ground.store.now ground.sessions ground.together c.args.sessions.now.items c.enter.new.teams c.requires.all all c.enter.ensures.seated i t (subst (At i t) here at)

pub leave-told-requires-clause-played : goal.leave-told-requires-clause-played
leave-told-requires-clause-played g c i t at =
    let seated = take c.args.teams.len (c.enter.new.teams ++ drop (length c.enter.new.teams) c.args.teams.items) in
    let long = c.play_together.auto.teams ∙ c.deref_mut-2.ensures.len in
    let here = c.deref_mut-3.ensures.value ∙ lent_back c.args.teams.len c.play_together.new.teams seated long in
    c.play_together.ensures i t (subst (At i t) here at)

pub dissolve-requires : goal.dissolve-requires
dissolve-requires g c =
    let seated = take c.args.teams.len (c.enter.new.teams ++ drop (length c.enter.new.teams) c.args.teams.items) in
    let played = take c.args.teams.len (c.play_together.new.teams ++ drop (length c.play_together.new.teams) seated) in
    let long = c.leave-told.auto.teams ∙ c.deref_mut-3.ensures.len in
    record { vacant = subst AreVacant (sym (lent_back c.args.teams.len c.leave-told.new.teams played long)) c.leave-told.ensures.vacant }
