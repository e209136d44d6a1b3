use Rattle.std.proofs.Common.{◌≡◌, [], ◌∷◌, length, take, refl, subst, sym, ap, ◌∙◌, arith, tests}
use Rattle.std.proofs.Math.Seq.{take-append_seam}
use Rattle.std.proofs.lemmas.List.{length-map}
use Rattle.maps.specs.Shapes.{AreShapesWithin}
use Rattle.loader.specs.declared.refusals.LoadFault.TheVariants.{TooMany}
use Rattle.explain.proofs.Export.{no_truth, too_many}
use Rattle.findings.specs.Search.{above_of}
use Rattle.findings.proofs.Lines.{refuses_map}
use Rattle.findings.proofs.search.Search.take_shape.Goals as goal

pub returns-in-Err-clause-taken : goal.returns-in-Err-clause-taken
returns-in-Err-clause-taken c =
    let s = c.args.shape in
    let l = c.args.self.now.limits in
    let items = c.args.self.now.names.items in
    let a = above_of c.args.self.now in
    let empty : length items ≡ 0 = grind (arith, tests, c.is_empty.ensures, c.if-not-is_empty.ensures) in
    let none : length a.names ≡ 0 = length-map items (λ n. n.now) ∙ empty in
    let pushed = c.deref.ensures.value ∙ c.in_ok-push.ensures.items in
    let same : c.truncate.new.self.items ≡ a.shapes =
    c.truncate.ensures.items ∙ ap (λ n. take n c.push.new.self.items) (ap length c.as_slice-count.ensures.value) ∙ ap (λ xs. take (length a.shapes) xs) c.in_ok-push.ensures.items ∙ take-append_seam a.shapes (s ∷ []) in
    rw same (refuses_map l a s TooMany c.requires.within (too_many l a s none c.requires.within c.requires.shape (λ ok. no_truth (c.in-Err.ensures.ok.1 (subst (AreShapesWithin l) (sym pushed) ok)))))
