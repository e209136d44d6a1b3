use Rattle.std.proofs.Common.{◌≤◌, ◌∙◌, arith}
use Rattle.dumps.proofs.Remaining.{later_same}
use Rattle.dumps.proofs.pieces.put_line.Goals as goal

pub returns-clause-rest : goal.returns-clause-rest
returns-clause-rest c =
    let a = c.put-number in
    let b = c.put-first in
    let k = c.put_hex-key_end in
    let s = c.put-second in
    let v = c.put_hex-value_end in
    let e = c.put.result in
    let end = c.put.ensures.end in
    let v_end = v.ensures.end in
    let s_end = s.ensures.end in
    let k_end = k.ensures.end in
    let b_end = b.ensures.end in
    let from_v : v.result ≤ e = omega (arith, end) in
    let from_s : s.result ≤ e = omega (arith, v_end, from_v) in
    let from_k : k.result ≤ e = omega (arith, s_end, from_s) in
    let from_b : b.result ≤ e = omega (arith, k_end, from_k) in
    let from_a : a.result ≤ e = omega (arith, b_end, from_b) in
    c.put.ensures.rest
    ∙ later_same v.result e v.new.room s.new.room from_v v.ensures.rest
    ∙ later_same s.result e s.new.room k.new.room from_s s.ensures.rest
    ∙ later_same k.result e k.new.room b.new.room from_k k.ensures.rest
    ∙ later_same b.result e b.new.room a.new.room from_b b.ensures.rest
    ∙ later_same a.result e a.new.room c.args.room.now from_a a.ensures.rest
