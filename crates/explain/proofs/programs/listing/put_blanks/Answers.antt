use Rattle.std.proofs.Common.{◌≡◌, ◌++◌, ap, ◌∙◌, arith}
use Rattle.std.specs.Prelude.{replicate}
use Rattle.std.specs.String.{string_bytes}
use Rattle.explain.proofs.Lines.{blank_more}
use Rattle.explain.proofs.programs.listing.put_blanks.Goals as goal

pub loop-blank-preserved : goal.loop-blank-preserved
loop-blank-preserved c = blank_more c.loop-blank._blank (string_bytes c.args.out.now) _ _ c.loop-blank.invariant c.in_ok-push_str.ensures.bytes

pub returns : goal.returns
returns c =
    let past = c.loop-blank-test.false in
    let upto = c.loop-blank.auto._blank-end in
    let end : c.loop-blank._blank ≡ c.args.count = omega arith in
    c.loop-blank.invariant ∙ ap (λ n. string_bytes c.args.out.now ++ replicate n 32) end
