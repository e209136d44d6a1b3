use Rattle.std.proofs.Common.{◌≡◌, ◌<◌, [], ◌∷◌, length, take, arith, refl, subst, sym, ap, ◌∙◌}
use Rattle.std.proofs.Math.Seq.{take-append_seam}
use Rattle.std.proofs.lemmas.Option.{slice_get_within}
use Rattle.std.proofs.lemmas.List.{length-map}
use Rattle.maps.specs.Shapes.{AreShapesWithin}
use Rattle.loader.specs.declared.refusals.LoadFault.TheVariants.{BadLine, TooMany}
use Rattle.explain.specs.Explanation.{above_of}
use Rattle.explain.proofs.MapLines.{behind_program, first_none, no_truth, takes_map, too_many, refuses_map}
use Rattle.explain.proofs.files.manifest.Explanation.take_map.Goals as goal

pub returns-in-Some-clause-taken : goal.returns-in-Some-clause-taken
returns-in-Some-clause-taken c =
    let l = c.args.self.now.limits in
    let a = above_of c.args.self.now in
    let items = c.args.self.now.names.items in
    let inside : 0 < length items = rw c.deref.ensures.value at (slice_get_within _ 0 _ (sym c.in-Some.ensures.value)) in
    let some : 0 < length a.names = omega (arith, length-map items (λ n. n.0.now), inside) in
    refuses_map l a c.args.shape BadLine c.requires.within (behind_program l a c.args.shape some)

pub returns-in-Ok-clause-taken : goal.returns-in-Ok-clause-taken
returns-in-Ok-clause-taken c =
    let l = c.args.self.now.limits in
    let a = above_of c.args.self.now in
    let items = c.args.self.now.names.items in
    let none : length a.names ≡ 0 = length-map items (λ n. n.0.now) ∙ first_none items (rw c.deref.ensures.value at (sym c.in_default.ensures.value)) in
    let pushed = c.deref-2.ensures.value ∙ c.in_ok-push.ensures.items in
    rw c.in_ok-push.ensures.items (takes_map l a c.args.shape c.requires.within.limits_are none (subst (AreShapesWithin l) pushed (c.in-Ok.ensures.ok.0 refl)))

pub returns-in-Err-clause-taken : goal.returns-in-Err-clause-taken
returns-in-Err-clause-taken c =
    let l = c.args.self.now.limits in
    let a = above_of c.args.self.now in
    let s = c.args.shape in
    let items = c.args.self.now.names.items in
    let none : length a.names ≡ 0 = length-map items (λ n. n.0.now) ∙ first_none items (rw c.deref.ensures.value at (sym c.in_default.ensures.value)) in
    let pushed = c.deref-2.ensures.value ∙ c.in_ok-push.ensures.items in
    let same : c.truncate.new.self.items ≡ a.shapes =
    c.truncate.ensures.items ∙ ap (λ n. take n c.push.new.self.items) (ap length c.as_slice-count.ensures.value) ∙ ap (λ xs. take (length a.shapes) xs) c.in_ok-push.ensures.items ∙ take-append_seam a.shapes (s ∷ []) in
    rw same (refuses_map l a s TooMany c.requires.within (too_many l a s none c.requires.within c.requires.shape (λ ok. no_truth (c.in-Err.ensures.ok.1 (subst (AreShapesWithin l) (sym pushed) ok)))))
