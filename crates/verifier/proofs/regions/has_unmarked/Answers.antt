use Rattle.std.proofs.Common.{◌≡◌, ℕ, Bool, true, sym, ap, ◌∙◌, subst, rules}
use Rattle.std.specs.Prelude.{ℤ, pos, negsuc, ◌+ℤ◌, not, ◌&&◌}
use Rattle.regkind.specs.declared.frames.Kind.{Kind}
use Rattle.regkind.specs.declared.frames.Kind.TheVariants.{Stack}
use Rattle.regkind.specs.Frames.{Frame, all_marked}
use Rattle.verifier.specs.Signature.{Signature}
use Rattle.verifier.specs.Regions.{lies_in, stack_index, has_unmarked}
use Rattle.verifier.proofs.regions.has_unmarked.Goals as goal

at_stack : (l : Signature) (f : Frame) (kind : Kind) (o d z : ℤ) (n first : ℕ) (r : Bool) → kind ≡ Stack o → z ≡ o +ℤ d → true ≡ lies_in (negsuc 511) (pos 0) z n → first ≡ stack_index z → r ≡ all_marked f first n → not r ≡ has_unmarked l f kind d n
at_stack l f kind o d z n first r is at within place marked =
    subst (λ k. not r ≡ has_unmarked l f k d n) (sym is)
    (subst (λ y. not r ≡ lies_in (negsuc 511) (pos 0) y n && not (all_marked f (stack_index y) n)) at
    (subst (λ w. not r ≡ w && not (all_marked f (stack_index z) n)) within (ap not (marked ∙ ap (λ j. all_marked f j n) place))))

pub returns-in-Some : goal.returns-in-Some
returns-in-Some c = λ l.
    let z = c.moved.result in
    let at : z ≡ c.in-Stack.offset +ℤ c.args.distance = search rules in
    let within : true ≡ lies_in (negsuc 511) (pos 0) z c.args.bytes = search rules in
    let place : c.in-Some.first ≡ stack_index z = search rules in
    at_stack l c.args.f.now c.args.kind c.in-Stack.offset c.args.distance z c.args.bytes c.in-Some.first _ c.in-Stack.is at within place c.are_marked.ensures.marked
