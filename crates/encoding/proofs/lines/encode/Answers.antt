use Rattle.std.proofs.Common.{◌≡◌, rules, ◌++◌}
use Rattle.std.specs.Prelude.{codes, string_bytes}
use Rattle.encoding.specs.Encoded.{encoded_text}
use Rattle.encoding.specs.Shown.{line_text}
use Rattle.encoding.proofs.EncodedLines.{onto-nil, good_line, bad_line, no_line}
use Rattle.encoding.proofs.lines.encode.Goals as goal

pub loop-line-init : goal.loop-line-init
unfolding encoded_text
loop-line-init c = rw (c.new-out.ensures.bytes, c.new-lines.ensures.all) (onto-nil _)

pub loop-line-preserved : goal.loop-line-preserved
loop-line-preserved c =
    let taken = c.in-Some.ensures.taken in
    let items : string_bytes c.put_line.new.out ≡ string_bytes c.loop-line.out ++ (line_text c.in-Some.text.now c.in-Ok.said ++ codes "\n") = search rules in
    good_line c.loop-line.lines.number c.in-Some.line c.loop-line.lines.lines c.in-Some.text.now c.take_line.new.self.lines (string_bytes c.loop-line.out) (encoded_text c.args.text.now)
    taken.0 taken.1 c.loop-line.invariant c.take_line.new.self.number (line_text c.in-Some.text.now c.in-Ok.said) (string_bytes c.put_line.new.out) taken.2 c.in-Ok.ensures items

pub returns-in-Err : goal.returns-in-Err
returns-in-Err c =
    let taken = c.in-Some.ensures.taken in
    record {
      encoded =
          bad_line c.loop-line.lines.number c.in-Some.line c.loop-line.lines.lines c.in-Some.text.now c.take_line.new.self.lines (string_bytes c.loop-line.out) (encoded_text c.args.text.now)
          taken.0 taken.1 c.loop-line.invariant c.in-Err.fault c.in-Err.ensures;
    }

pub returns : goal.returns
returns c = record { encoded = no_line c.loop-line.lines.number c.loop-line.lines.lines (string_bytes c.loop-line.out) (encoded_text c.args.text.now) (search rules) c.loop-line.invariant }
