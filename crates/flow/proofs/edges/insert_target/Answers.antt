use Rattle.std.proofs.Common.{◌≡◌, to_z, of_z, w64, rules, sym, ◌∙◌, arith}
use Rattle.std.specs.Prelude.{pos, ◌≤ℤ◌}
use Rattle.std.proofs.lemmas.Int.{ints, to_z-of_z}
use Rattle.flow.specs.Faults.{jump_target}
use Rattle.flow.proofs.Steps.{own_slot}
use Rattle.flow.proofs.edges.insert_target.Goals as goal

pub insert-requires : goal.insert-requires
insert-requires c =
    let z = c.in-Some.target in
    let same : to_z w64 (of_z w64 z) ≡ z = search (rules, to_z-of_z) in
    let above : pos 0 ≤ℤ to_z w64 (of_z w64 z) = omega (arith, ints) in
    c.requires.within _ (own_slot (jump_target c.args.form c.args.slot) z (to_z w64 (of_z w64 z)) (sym c.target_of.ensures ∙ c.in-Some.is) same above)
