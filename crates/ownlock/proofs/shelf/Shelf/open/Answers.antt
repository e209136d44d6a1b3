use Rattle.std.proofs.Common.{rules, arith, suc, replicate, ◌+◌, [], ◌≡◌, ◌<◌, ◌≤◌, ◌^◌, vec_capacity, length, subst, sym, ap, ◌∙◌}
use Rattle.std.proofs.lemmas.List.{length-replicate}
use Rattle.atomic_table.specs.Table.{opening}
use Rattle.ownlock.specs.Words.{word_of, slot_of}
use Rattle.ownlock.specs.Seats.{opened_with, all_sessions}
use Rattle.ownlock.specs.Invariant.{LockInvariant}
use Rattle.ownlock.proofs.Spread.{one_spread, long_spread}
use Rattle.ownlock.proofs.Seats.{opens, fresh_idle}
use Rattle.ownlock.proofs.shelf.Shelf.open.Goals as goal

pub new-requires : goal.new-requires
new-requires g c =
    let R = g.V.Shelved.rules in
    let setup = c.args.setup.now in
    subst (λ l. LockInvariant R (opened_with (g.V.Shelved.first_progress setup) (g.V.Shelved.places setup) (g.V.Shelved.first_notes setup)) (opening c.as_slice.result.now l (all_sessions (g.V.Shelved.first_progress setup) 0 (g.V.Shelved.first_notes setup))))
    (sym c.spread.ensures)
    (opens R g.V.Shelved.laws _ _ c.args.values.items c.as_slice.result.now (search rules) c.requires.none c.requires.accounts c.requires.agree _ c.requires.places)

pub invariant_of-result-in-Ok-new : goal.invariant_of-result-in-Ok-new
invariant_of-result-in-Ok-new g c = fresh_idle c.in-Ok-new.pass.me _ _ (c.in-Ok-new.ensures.ok).4

pub invariant_of-result : goal.invariant_of-result
invariant_of-result g c =
    let ok = c.in-Ok-new.ensures.ok.1 in
    let row = ap length c.spread.ensures in
    let long = long_spread c.args.values.items in
    let places = c.len-places.ensures in
    let values = c.args.values.ok.0 in
    let wide : c.in-Ok-new.table.shared.table_id.slots ≡ slot_of c.len-places.result = omega (arith, ok, row, long, places, values) in
    let all = c.in-Ok-new.ensures.ok.0 in
    let blank : c.as_slice.result.now ≡ replicate (word_of (length c.args.values.items + 1)) 0 = search rules in
    let blanks = ap length blank in
    let count : length c.as_slice.result.now ≡ word_of (length c.args.values.items + 1) = blanks ∙ length-replicate (word_of (length c.args.values.items + 1)) _ in
    let words : c.in-Ok-new.table.shared.table_id.words ≡ word_of (suc c.len-places.result) = omega (arith, all, count, places, values) in
    let fits : c.in-Ok-new.table.shared.table_id.words < 2 ^ 64 = search rules in
    let leads : 0 < c.len-places.result = search rules in
    let empty : c.in-Ok-with_capacity.room.items ≡ [] = search rules in
    let room : c.len-places.result ≤ vec_capacity c.in-Ok-with_capacity.room = search rules in
    ((words, wide, fits), leads, search rules, search rules, search rules, empty, room)

pub returns-clause-refused : goal.returns-clause-refused
returns-clause-refused g c =
    c.not_opened-in-Err.ensures ∙ one_spread c.gather.result.items c.args.values.items (sym c.gather.ensures ∙ (c.in-Err.ensures.err ∙ c.spread.ensures))
