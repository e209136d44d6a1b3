use Rattle.std.proofs.Common.{true, false, refl, sym, ap, ◌∙◌, subst}
use Rattle.std.specs.Prelude.{is_some}
use Rattle.maps.specs.Maps.{value_at}
use Rattle.maps.specs.Values.{Num}
use Rattle.maps.specs.MapSets.{maps_of}
use Rattle.helpers.specs.Helpers.{einval, enoent, delete_error, DeleteCall, HelperAnswers}
use Rattle.helpers.proofs.MapChanges.{named_map, its_shape, delete_refused, delete_done}
use Rattle.helpers.proofs.changes.delete.Goals as goal

pub returns-in-Array-clause-answers : goal.returns-in-Array-clause-answers
returns-in-Array-clause-answers c =
    let before = c.args.maps.now in let m = c.args.m in let key = c.args.key.now in
    let has = is_some (value_at (maps_of before) m key) in
    let map = named_map before m key has c.requires.map refl in
    delete_refused before m key has map.0 einval c.negative.result map.1 (ap (λ k. delete_error k has) (its_shape before m key has map.0 c.shape.result map.1 c.shape.ensures.shape ∙ c.in-Array.is)) c.negative.ensures.number

pub returns-then-remove-clause-answers : goal.returns-then-remove-clause-answers
returns-then-remove-clause-answers c =
    let before = c.args.maps.now in let m = c.args.m in let key = c.args.key.now in
    let map = named_map before m key true c.requires.map (sym c.remove.ensures.was ∙ c.if-remove.true) in
    delete_done before c.remove.new.self m key true map.0 map.1 (ap (λ k. delete_error k true) (its_shape before m key true map.0 c.shape.result map.1 c.shape.ensures.shape ∙ c.in-Hash.is)) c.remove.ensures.removed

pub returns-else-remove-clause-answers : goal.returns-else-remove-clause-answers
returns-else-remove-clause-answers c =
    let before = c.args.maps.now in let m = c.args.m in let key = c.args.key.now in
    let map = named_map before m key false c.requires.map (sym c.remove.ensures.was ∙ c.if-remove.false) in
    let r = c.negative-else-remove.result in
    subst (λ d. HelperAnswers (DeleteCall m key) (maps_of before) (Num r) (maps_of d)) (sym (c.remove.ensures.unchanged c.if-remove.false))
    (delete_refused before m key false map.0 enoent r map.1 (ap (λ k. delete_error k false) (its_shape before m key false map.0 c.shape.result map.1 c.shape.ensures.shape ∙ c.in-Hash.is)) c.negative-else-remove.ensures.number)
