use Rattle.std.proofs.Common.{◌≡◌, [], ◌∙◌, true, false, ap, rules}
use Rattle.text.specs.Lines.{LinesLeft, lines_of}
use Rattle.oplog.specs.declared.configuration.TheConstants.{MAX_LIMIT}
use Rattle.running.specs.RunAnswer.{behind, lines_answer}
use Rattle.running.specs.KeptRun.{lines_left}
use Rattle.running.proofs.RunLines.{good_on, bad_here, bad_left, all_done, all_left}
use Rattle.running.proofs.lines.take_lines.Goals as goal

pub loop-number-init : goal.loop-number-init
loop-number-init c =
    let begin = ap (λ (l : LinesLeft). behind c.args.out.now.items (lines_answer MAX_LIMIT c.args.catalogue.now l.number [] l.lines)) c.new-lines.ensures.all in
    let left = ap (λ (l : LinesLeft). lines_left MAX_LIMIT c.args.catalogue.now [] l.lines) c.new-lines.ensures.all in
    (c.requires.steady, ([], c.requires.nothing, begin, left))

pub returns-then-not-is_good-clause-answered : goal.returns-then-not-is_good-clause-answered
returns-then-not-is_good-clause-answered c =
    let h = c.loop-number.invariant.1 in
    let taken = c.in-Some.ensures.taken in
    let off : c.in_ok-is_good.is_good ≡ false = search rules in
    bad_here MAX_LIMIT c.args.catalogue.now c.loop-number.lines.number h.0 c.loop-number.out.items c.loop-number.lines.lines c.in-Some.line.now c.take_line.new.self.lines taken.0 c.take_line-in-Some.new.node
    c.take_line-in-Some.new.out.items c.put_bad_line.new.out.items (rw off at (c.in_ok-is_good.ensures.taken MAX_LIMIT h.0 h.1)) (rw taken.1 at c.in_ok-put_bad_line.ensures) ∙ h.2

pub returns-then-not-is_good-clause-left : goal.returns-then-not-is_good-clause-left
returns-then-not-is_good-clause-left c =
    let h = c.loop-number.invariant.1 in
    let taken = c.in-Some.ensures.taken in
    let off : c.in_ok-is_good.is_good ≡ false = search rules in
    bad_left MAX_LIMIT c.args.catalogue.now c.loop-number.lines.number h.0 c.loop-number.out.items c.loop-number.lines.lines c.in-Some.line.now c.take_line.new.self.lines taken.0 c.take_line-in-Some.new.node
    c.take_line-in-Some.new.out.items (lines_left MAX_LIMIT c.args.catalogue.now [] (lines_of c.args.script.now)) c.take_line-in-Some.new.node (rw off at (c.in_ok-is_good.ensures.taken MAX_LIMIT h.0 h.1)) h.3

pub loop-number-preserved : goal.loop-number-preserved
loop-number-preserved c =
    let h = c.loop-number.invariant.1 in
    let taken = c.in-Some.ensures.taken in
    let on : c.in_ok-is_good.is_good ≡ true = search rules in (
      c.in_ok-is_good.ensures.steady,
      rw taken.2 (good_on MAX_LIMIT c.args.catalogue.now c.loop-number.lines.number h.0 c.loop-number.out.items c.loop-number.lines.lines c.in-Some.line.now c.take_line.new.self.lines taken.0
          c.take_line-in-Some.new.node c.take_line-in-Some.new.out.items _ _ (rw on at (c.in_ok-is_good.ensures.taken MAX_LIMIT h.0 h.1)) h.2 h.3),
    )

pub returns-clause-answered : goal.returns-clause-answered
returns-clause-answered c =
    let h = c.loop-number.invariant.1 in
    let taken = c.in_default.ensures.taken in
    all_done MAX_LIMIT c.args.catalogue.now c.loop-number.lines.number h.0 c.loop-number.out.items c.loop-number.lines.lines taken.0 ∙ h.2

pub returns-clause-left : goal.returns-clause-left
returns-clause-left c =
    let h = c.loop-number.invariant.1 in
    let taken = c.in_default.ensures.taken in
    all_left MAX_LIMIT c.args.catalogue.now h.0 c.loop-number.lines.lines _ c.loop-number.node taken.0 h.1 h.3
