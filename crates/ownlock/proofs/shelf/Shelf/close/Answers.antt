use Rattle.std.proofs.Common.{◌≡◌, length, sym, ap, ◌∙◌, subst}
use Rattle.std.specs.Mem.Slots.{slots_items, slots_counts}
use Rattle.ownlock.specs.Words.{slot_of}
use Rattle.ownlock.specs.Seats.{HoldsNone, opened_with}
use Rattle.ownlock.specs.Knowledge.{Closes}
use Rattle.ownlock.proofs.Ends.{closes, ends_gaps}
use Rattle.ownlock.proofs.shelf.Shelf.close.Goals as goal

pub returns-clause-values : goal.returns-clause-values
returns-clause-values g c =
    let R = g.V.Shelved.rules in
    let opened_for = λ (z : g.row.V-Setup.Denot). opened_with (g.V.Shelved.first_progress z) (g.V.Shelved.places z) (g.V.Shelved.first_notes z) in
    let slots = slots_items c.close_with.result.slots in
    let values = c.unload.result.items in
    let wide : length slots ≡ slot_of c.self.inside.places = sym (slots_counts c.close_with.result.slots).0 ∙ (c.close_with.ensures.counts.1 ∙ c.self.invariant.0.1) in
    let setup = ap (λ z. z.setup) c.self.view_is in
    let known = ap (λ z. z.0) c.into_pass.ensures.sessions in
    let ends = closes R _ (slots_items c.close_with.result.words) slots values c.into_pass.result.id c.into_pass.result.me.0 (wide ∙ ap slot_of (sym c.unload.ensures.places)) c.unload.ensures.values
    (ap length known ∙ (c.requires.all ∙ ap (λ z. length (g.V.Shelved.first_notes z)) (sym setup))) (subst (λ v. HoldsNone v) (sym known) c.requires.idle) c.close_with.ensures.values.2 in
    subst (λ v. Closes R (opened_for c.args.self.setup) v values) known (subst (λ z. Closes R (opened_for z) c.into_pass.result.me.0 values) setup ends)

pub unload-requires-clause-gaps : goal.unload-requires-clause-gaps
unload-requires-clause-gaps g c =
    let wide : length (slots_items c.close_with.result.slots) ≡ slot_of c.self.inside.places = sym (slots_counts c.close_with.result.slots).0 ∙ (c.close_with.ensures.counts.1 ∙ c.self.invariant.0.1) in
    ends_gaps g.V.Shelved.rules _ (slots_items c.close_with.result.words) (slots_items c.close_with.result.slots) c.into_pass.result.id _ c.into_pass.result.me.0 wide c.close_with.ensures.values.2
