use Rattle.std.proofs.Common.{ap, ◌∙◌}
use Rattle.accounts.specs.ReadNotes.{looked_with}
use Rattle.store_steps.specs.Seen.{holds}
use Rattle.store_steps.specs.Sights.{heard_by}
use Rattle.store.proofs.Looked.{HasLooked, has_looked, idle_goes_on, idle_now, idle_seen, idle_still, kept_note, may_look, noted_seen, sight_seen}
use Rattle.store.proofs.polled.Polled.try_see.Goals as goal

pub try_look-requires-clause-idle : goal.try_look-requires-clause-idle
try_look-requires-clause-idle g c =
    let s = c.self.inside in
    let e = c.shared.ensures in
    may_look s.seat s.caller s.batch s.replies s.stage c.self.invariant.0 c.args.self.now c.self.view_is c.requires.idle c.shared.result c.args.store.now c.requires.own e.places e.nodes e.catalogue

pub returns-in_default-clause-session : goal.returns-in_default-clause-session
returns-in_default-clause-session g c =
    let s = c.self.inside in
    let i = idle_now s.seat s.caller s.batch s.replies s.stage c.self.invariant.0 c.args.self.now c.self.view_is c.requires.idle in
    let t = c.in_default.ensures.stays i.known i.is in
    idle_goes_on c.args.store.now s.seat c.try_look.new.seat s.caller c.args.self.now c.self.view_is c.requires.own c.try_look.ensures.same (idle_still s.seat c.try_look.new.seat s.caller i t.0 t.1 t.2)

pub returns-clause-told : goal.returns-clause-told
returns-clause-told g c none =
    let s = c.self.inside in
    let i = idle_now s.seat s.caller s.batch s.replies s.stage c.self.invariant.0 c.args.self.now c.self.view_is c.requires.idle in
    let t = c.in-Ok.ensures.told i.known i.is in
    sight_seen (heard_by g.L.Look.asks c.args.look.now (g.L.Look.replies c.in-Ok.told)) s.seat c.try_look.new.seat i.known t.0 i.is t.1 c.args.self.now c.self.view_is i.free.held (holds (g.L.Look.sees c.args.look.now c.try_look.new.look c.in-Ok.told)) (g.L.Look.point c.in-Ok.told) t.2 t.3

looked : (g : _) (c : goal.In-Ok g)
    → HasLooked c.args.store.now c.args.self.now c.try_look.new.seat c.self.inside.caller c.self.inside.batch c.self.inside.replies c.self.inside.stage c.self.inside.room
looked g c =
    let s = c.self.inside in
    let new = c.try_look.new.seat in
    let i = idle_now s.seat s.caller s.batch s.replies s.stage c.self.invariant.0 c.args.self.now c.self.view_is c.requires.idle in
    let t = c.in-Ok.ensures.told i.known i.is in
    has_looked s.seat s.caller s.batch s.replies s.stage c.self.invariant.0 c.args.self.now c.self.view_is c.requires.idle c.args.store.now new s.room c.requires.own c.try_look.ensures.same c.self.invariant.1 (idle_seen (heard_by g.L.Look.asks c.args.look.now (g.L.Look.replies c.in-Ok.told)) s.seat new s.caller i t.0 t.1 _ t.2.0 t.3.0)

pub returns-clause-session : goal.returns-clause-session
returns-clause-session g c = (looked g c).session

pub invariant_of-self-2 : goal.invariant_of-self-2
invariant_of-self-2 g c = (looked g c).polled

pub returns-clause-note : goal.returns-clause-note
returns-clause-note g c =
    let s = c.self.inside in
    let i = idle_now s.seat s.caller s.batch s.replies s.stage c.self.invariant.0 c.args.self.now c.self.view_is c.requires.idle in
    let t = c.in-Ok.ensures.told i.known i.is in
    let h = heard_by g.L.Look.asks c.args.look.now (g.L.Look.replies c.in-Ok.told) in
    noted_seen h s.seat c.try_look.new.seat s.caller i t.0 t.1 (g.L.Look.point c.in-Ok.told) t.2.0 c.args.self.now c.self.view_is

pub returns-clause-quiet : goal.returns-clause-quiet
returns-clause-quiet g c none =
    let s = c.self.inside in
    let i = idle_now s.seat s.caller s.batch s.replies s.stage c.self.invariant.0 c.args.self.now c.self.view_is c.requires.idle in
    let t = c.in-Ok.ensures.told i.known i.is in
    let h = heard_by g.L.Look.asks c.args.look.now (g.L.Look.replies c.in-Ok.told) in
    noted_seen h s.seat c.try_look.new.seat s.caller i t.0 t.1 (g.L.Look.point c.in-Ok.told) t.2.0 c.args.self.now c.self.view_is
    ∙ ap (λ z. looked_with z (g.L.Look.point c.in-Ok.told) (g.L.Look.replies c.in-Ok.told) c.args.self.now.note) none

pub returns-in_default-clause-quiet : goal.returns-in_default-clause-quiet
returns-in_default-clause-quiet g c none =
    let s = c.self.inside in
    let i = idle_now s.seat s.caller s.batch s.replies s.stage c.self.invariant.0 c.args.self.now c.self.view_is c.requires.idle in
    let t = c.in_default.ensures.stays i.known i.is in
    kept_note s.seat c.try_look.new.seat i.known t.0 i.is t.1 t.2.note c.args.self.now c.self.view_is

pub returns-in_default-clause-still : goal.returns-in_default-clause-still
returns-in_default-clause-still g c =
    let s = c.self.inside in
    let i = idle_now s.seat s.caller s.batch s.replies s.stage c.self.invariant.0 c.args.self.now c.self.view_is c.requires.idle in
    let t = c.in_default.ensures.stays i.known i.is in
    kept_note s.seat c.try_look.new.seat i.known t.0 i.is t.1 t.2.note c.args.self.now c.self.view_is
