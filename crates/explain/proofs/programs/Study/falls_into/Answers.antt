use Rattle.std.proofs.Common.{◌≡◌, ◌++◌, length, refl, sym, ap, ◌∙◌, arith}
use Rattle.std.specs.Prelude.{filter, is_some}
use Rattle.verifier.specs.Joined.{frame_in}
use Rattle.explain.proofs.Slots.{kept_all, kept_more, some_mapped}
use Rattle.explain.proofs.programs.Study.falls_into.Goals as goal

pub loop-from-init : goal.loop-from-init
loop-from-init c =
    let frames = c.args.self.now.known.frames.items in
    ap (λ xs. xs ++ filter (λ s. is_some (frame_in frames s)) c.deref-from-items.result.now) c.new-known.ensures.items

pub loop-from-preserved : goal.loop-from-preserved
loop-from-preserved c =
    let frames = c.args.self.now.known.frames.items in
    let is = c.is_some.ensures ∙ sym (some_mapped (λ f. f.now) c.frame_at.result) ∙ ap is_some c.frame_at.ensures in
    kept_more (λ s. is_some (frame_in frames s)) c.deref-from-items.result.now c.loop-from.from-index 0 _ c.loop-from-test.true refl _ _ _ c.loop-from.invariant (rw is at c.in_ok-push_if.ensures)

pub returns : goal.returns
returns c = λ has.
    let frames = c.args.self.now.known.frames.items in
    let past = c.loop-from-test.false in
    let upto = c.loop-from.auto.from-index-end in
    let end : c.loop-from.from-index ≡ length c.deref-from-items.result.now = omega arith in
    kept_all (λ s. is_some (frame_in frames s)) c.deref-from-items.result.now c.loop-from.from-index _ _ end c.loop-from.invariant
    ∙ ap (filter (λ s. is_some (frame_in frames s))) (c.deref-from-items.ensures.value ∙ c.in_ok-falls.ensures has.few has.within)
