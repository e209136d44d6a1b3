use Rattle.std.proofs.Common.{◌≤◌, ◌<◌, length, map, arith, tests}
use Rattle.std.proofs.lemmas.List.{length-map}
use Rattle.explain.specs.Explanation.{above_of}
use Rattle.explain.proofs.Judged.{full, not_full}
use Rattle.explain.proofs.Pieces.{on_ok}
use Rattle.explain.proofs.Texts.{adds_nothing, adds_so, if_false, if_true}
use Rattle.explain.proofs.files.manifest.Explanation.put_beyond.Goals as goal

pub returns-then-len-lt-MAX_PROGRAMS : goal.returns-then-len-lt-MAX_PROGRAMS
returns-then-len-lt-MAX_PROGRAMS c =
    let items = c.args.self.now.names.items in
    let below = c.if-len-lt-MAX_PROGRAMS.true in
    let count = c.len.ensures in
    let same = length-map items (λ n. n.0.now) in
    let few : length (map (λ n. n.0.now) items) < 256 = grind (arith, tests, below, count, same) in
    adds_nothing _ _ (if_false _ _ (not_full (above_of c.args.self.now) few))

pub returns : goal.returns
returns c =
    let items = c.args.self.now.names.items in
    let past = c.if-len-lt-MAX_PROGRAMS.false in
    let count = c.len.ensures in
    let same = length-map items (λ n. n.0.now) in
    let many : 256 ≤ length (map (λ n. n.0.now) items) = grind (arith, tests, past, count, same) in
    on_ok c.put_fault.result (λ told. adds_so _ _ _ _ (λ t begins. if_true _ _ t (full (above_of c.args.self.now) many) begins) told) c.put_fault.ensures
