use Rattle.std.proofs.Common.{◌≤◌, length, rules, subst}
use Rattle.std.proofs.lemmas.List.{take_all}
use Rattle.std.proofs.lemmas.List.Elements.{All-more}
use Rattle.std.specs.Str.{IsUtf8}
use Rattle.host_calls.specs.declared.handles.File.{File}
use Rattle.host_calls.specs.Openings.{AreUtf8}
use Rattle.host_calls.proofs.FileTexts.{one_more}
use Rattle.host_calls.proofs.opening.texts.Goals as goal

pub loop-k-preserved : goal.loop-k-preserved
loop-k-preserved c = record {
  texts = one_more c.args.files.now c.loop-k.k _ c.loop-k-test.true c.loop-k.texts.items c.push.new.self.items c.in-Some.text c.in_ok-push.ensures.items c.loop-k.invariant.texts c.in-Some.ensures.text;
  clear = All-more (λ (f : File). IsUtf8 f.name.now × IsUtf8 f.text.now) c.args.files.now c.loop-k.k _ c.loop-k-test.true c.loop-k.invariant.clear c.in-Some.ensures.clear;
}

pub returns-in_default : goal.returns-in_default
returns-in_default c = record { texts = λ all. c.in_default.ensures.unclear (all c.loop-k.k _ c.loop-k-test.true); clear = tt }

pub returns-clause-clear : goal.returns-clause-clear
returns-clause-clear c =
    let files = c.args.files.now in
    let end : length files ≤ c.loop-k.k = search rules in
    subst AreUtf8 (take_all c.loop-k.k files end) c.loop-k.invariant.clear
