use Rattle.std.proofs.Common.{◌≡◌, length, refl, sym, subst, ◌∙◌, true, Some, slice_get, rules}
use Rattle.std.proofs.lemmas.Option.{slice_get_read}
use Rattle.realtime.specs.Histories.{fits}
use Rattle.realtime.proofs.Reading.{behind_some, has_next}
use Rattle.realtime.proofs.histories.Taken.take.Goals as goal

pub returns : goal.returns
returns c =
    let ranks = c.args.ranks.now in
    let rank = c.in-Some.rank.now in
    let call = c.in-Some-timed_line.call in
    let before = c.args.self.now.calls.items in
    let read = c.in-Some.ensures.lookup.3 in
    let at : slice_get ranks (length before) ≡ Some rank = subst (λ n. slice_get ranks n ≡ Some rank) (c.len.ensures ∙ c.args.self.now.calls.ok.0) (slice_get_read ranks (length ranks) c.len.result rank refl read.0 (read.1 rank)) in
    let free : fits (length c.args.self.now.used.items) before call ≡ true = search rules in
    let some = behind_some ranks before c.args.line.now rank call at (sym c.in-Some-timed_line.ensures) (rw (sym c.requires.taken.numbers) free) in
    record { taken = rw some (refl, c.in_ok-push.ensures.items, has_next ranks c.args.self.now _ call c.requires.taken rank at c.in_ok-push.ensures.items refl) }
