use Rattle.std.proofs.Common.{◌≡◌, ◌+◌, ◌∙◌, ap, take}
use Rattle.std.specs.Prelude.{decimal}
use Rattle.std.specs.List.{flat_map}
use Rattle.std.specs.String.{string_bytes}
use Rattle.asm.specs.Places.{place_in}
use Rattle.explain.specs.Assembly.{below, line_in, shown}
use Rattle.explain.proofs.Assembly.{told_whole}
use Rattle.explain.proofs.files.assembly.told.Goals as goal

pub returns : goal.returns
returns c =
    let e = c.args.refusal in
    let line = line_in c.args.text.now e.line in
    let is = c.line_at-line.ensures in
    let at : c.place_of-at.result.at ≡ (place_in e.why line).at = ap (λ p. p.at) (c.place_of-at.ensures.place ∙ ap (place_in e.why) is) in
    record {
      wanted = string_bytes c.in_ok-wanted.wanted;
      whole =
          told_whole e (place_in e.why line).at (string_bytes c.in_ok-wanted.wanted) line _ _ _ _ _ _ _ _ _ c.new-out.ensures.bytes (ap decimal (c.from-number.ensures ∙ c.number.ensures.number))
          (c.format-column.ensures.text ∙ ap decimal (c.column_of.ensures ∙ ap (λ n. n + 1) at)) c.as_str.ensures.value (c.shown.ensures ∙ ap shown is)
          (c.as_str-2.ensures.value ∙ c.in_ok-space.ensures ∙ ap (λ n. flat_map below (take n c.line_at-line.result.now)) at ∙ ap (λ l. flat_map below (take (place_in e.why line).at l)) is)
          c.in_ok-put_numbers.ensures c.in_ok-put_all.ensures c.in_ok-put_all-2.ensures;
    }
