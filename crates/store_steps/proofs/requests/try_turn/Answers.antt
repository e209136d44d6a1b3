use Rattle.store_steps.proofs.requests.try_turn.Goals as goal

pub try_take_desk-requires-clause-idle : goal.try_take_desk-requires-clause-idle
try_take_desk-requires-clause-idle c = let i = c.requires.asked in (i.0, i.2, (i.3, i.5))

pub turn_and_put-requires-clause-asked : goal.turn_and_put-requires-clause-asked
turn_and_put-requires-clause-asked c = let i = c.requires.asked in let t = c.in-Some.ensures.taken i.0 i.2 in (i.0, t.0, i.1, t.1, t.2, i.4)

pub returns-clause-turned : goal.returns-clause-turned
returns-clause-turned c k o is asked =
    let t = c.in-Some.ensures.taken k is in
    let f = c.turn_and_put.ensures.turned k t.0 o t.1 t.2 asked in
    (f.0, f.1, f.2, f.3)
