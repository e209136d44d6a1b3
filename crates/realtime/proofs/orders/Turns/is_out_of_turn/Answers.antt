use Rattle.std.proofs.Common.{◌<◌, ◌≤◌, get_or, sym, ◌∙◌, ⊎_elim, arith}
use Rattle.std.proofs.lemmas.Bool.{cases_lt, lt-ltb, le-leb, lt-leb}
use Rattle.realtime.proofs.Turning.{not_back, not_later, in_turn}
use Rattle.realtime.proofs.orders.Turns.is_out_of_turn.Goals as goal

pub returns-then-call-self : goal.returns-then-call-self
returns-then-call-self c = λ calls h only.
    let call = c.args.call.now in
    let turns = c.args.self.now in
    let late : call.begun < get_or turns.ended call.session 0 = omega arith in
    lt-ltb _ _ late ∙ sym (not_back calls call turns h only late)

pub returns-else-call-self : goal.returns-else-call-self
returns-else-call-self c = λ calls h only.
    let call = c.args.call.now in
    let turns = c.args.self.now in
    let last = get_or turns.line call.session 0 in
    let back : get_or turns.ended call.session 0 ≤ call.begun = omega arith in
    ⊎_elim
    (λ later. lt-leb call.line last later ∙ sym (in_turn calls call turns h only back later))
    (λ le. le-leb call.line last le ∙ sym (not_later calls call turns h only le))
    (cases_lt last call.line)
