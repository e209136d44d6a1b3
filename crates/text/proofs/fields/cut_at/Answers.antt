use Rattle.std.proofs.Common.{◌≡◌, ◌-◌, ◌∙◌, take, Some, ap, ap₂, arith}
use Rattle.std.specs.List.{position_from}
use Rattle.std.proofs.lemmas.Str.{IsCharBoundary-before_ascii, IsCharBoundary-after_ascii}
use Rattle.text.proofs.ByteCuts.{is_byte, first_is, cut_some, cut_none}
use Rattle.text.proofs.fields.cut_at.Goals as goal

pub range-requires-clause-end_boundary : goal.range-requires-clause-end_boundary
range-requires-clause-end_boundary c =
    let s = first_is c.args.wanted c.args.text.now c.in-Some.at (c.in-Some.ensures ∙ ap (position_from (is_byte c.args.wanted) 0) c.as_bytes.ensures.value) in
    IsCharBoundary-before_ascii c.args.text.now c.in-Some.at s.inside (omega (arith, s.there, c.requires))

pub range_from-requires : goal.range_from-requires
range_from-requires c =
    let s = first_is c.args.wanted c.args.text.now c.in-Some.at (c.in-Some.ensures ∙ ap (position_from (is_byte c.args.wanted) 0) c.as_bytes.ensures.value) in
    λ _. IsCharBoundary-after_ascii c.args.text.now c.in-Some.at c.utf8.text s.inside (omega (arith, s.there, c.requires))

pub returns-in-Some-clause-fields : goal.returns-in-Some-clause-fields
returns-in-Some-clause-fields c =
    let s = first_is c.args.wanted c.args.text.now c.in-Some.at (c.in-Some.ensures ∙ ap (position_from (is_byte c.args.wanted) 0) c.as_bytes.ensures.value) in
    let same : c.in-Some.at - 0 ≡ c.in-Some.at = omega arith in
    let front : c.range.result.now ≡ take c.in-Some.at c.args.text.now = c.range.ensures.value ∙ ap (λ k. take k c.args.text.now) same in
    ap₂ (λ u v. Some (u, v)) front c.range_from.ensures.value ∙ cut_some c.args.wanted c.args.text.now c.in-Some.at s

pub returns-in-None-clause-fields : goal.returns-in-None-clause-fields
returns-in-None-clause-fields c = cut_none c.args.wanted c.args.text.now (c.in-None.ensures ∙ ap (position_from (is_byte c.args.wanted) 0) c.as_bytes.ensures.value)
