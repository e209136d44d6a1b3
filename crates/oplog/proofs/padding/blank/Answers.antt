use Rattle.std.proofs.Common.{◌≡◌, ◌+◌, ◌-◌, ◌++◌, length, take, drop, replicate, List, ℕ, ap, ◌∙◌, arith}
use Rattle.std.proofs.lemmas.List.{length-take-le, length-drop, drop-drop, drop_at, replicate-append-replicate}
use Rattle.oplog.proofs.Rooms.{zeros_from}
use Rattle.oplog.proofs.padding.blank.Goals as goal

pub returns-then-from-to : goal.returns-then-from-to
returns-then-from-to c =
    let from : ℕ = c.args.from in
    let to : ℕ = c.args.to in
    let before : List ℕ = c.args.bytes.now in
    let count : length (take to before) ≡ to = length-take-le to before (omega (arith, c.told-bytes, c.requires.within)) in
    let written : c.fill.new.self ≡ replicate (length (take (to - from) (drop from before))) 0 = c.fill.ensures.after (λ y e. e) in
    let many : length (take (to - from) (drop from before)) ≡ to - from = length-take-le (to - from) (drop from before) (omega (arith, length-drop from before, c.told-bytes, c.requires.within)) in
    let rest : drop (to - from) (drop from before) ≡ replicate (64 - to) 0 =
    drop-drop (to - from) from before ∙ zeros_from 64 to (from + (to - from)) before count c.requires.zeros (omega (arith, c.if-from-to.true)) ∙ ap (λ n. replicate (64 - n) 0) (omega (arith, c.if-from-to.true)) in
    record {
      zeros = drop_at (take from before) _ from (length-take-le from before (omega (arith, c.told-bytes, c.requires.within, c.if-from-to.true)))
          ∙ ap (λ ys. ys ++ drop (to - from) (drop from before)) (written ∙ ap (λ n. replicate n 0) many)
          ∙ ap (λ zs. replicate (to - from) 0 ++ zs) rest
          ∙ replicate-append-replicate (to - from) (64 - to) 0
          ∙ ap (λ n. replicate n 0) (omega (arith, c.requires.within, c.if-from-to.true));
    }

pub returns-else-from-to : goal.returns-else-from-to
returns-else-from-to c =
    record { zeros = zeros_from 64 c.args.to c.args.from c.args.bytes.now (length-take-le c.args.to c.args.bytes.now (omega (arith, c.told-bytes, c.requires.within))) c.requires.zeros (omega (arith, c.if-from-to.false)) }
