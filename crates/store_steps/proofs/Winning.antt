-- A line that a session has won, by what the session knows.
use Rattle.std.proofs.Common.{◌≡◌, ◌+◌, ◌*◌, ◌<◌, sym, ap, ◌∙◌, arith}
use Rattle.std.proofs.lemmas.Nat.{mul-le}
use Rattle.ownlock.specs.declared.winning.Won.{Won}
use Rattle.ownlock.specs.Held.{IsBy}
use Rattle.ownlock.specs.Seats.{IsSession}
use Rattle.ownlock.specs.Words.{row_length, won_by}
use Rattle.ownlock.proofs.Export.{one_known}
use Rattle.store_steps.specs.declared.steps.Here.{Here}
use Rattle.store_steps.specs.Knowing.{IsOn}
use Rattle.store_steps.specs.Standing.{IsFree, SessionKnown, StoreSeat}
use Rattle.store_steps.specs.Winning.{IsWonBy}

abbrev K : Type 0
K = SessionKnown

-- its node has its places in both rows
pub node_there : (here : Here) (k : K) → IsFree here.caller k → IsOn here.shared k → here.caller.node < row_length here.shared.shelf.now.places
node_there here k free on = let near = free.near in let nodes = on.nodes_are in let places = on.places_are in omega (arith, near, nodes, places)

-- the number of the session of a slot
pub number_of : (here : Here) (k : K) → IsFree here.caller k → IsOn here.shared k
    → k.session ≡ here.caller.node * here.shared.slots + here.caller.slot
number_of here k free on = free.own ∙ ap (λ z. here.caller.node * z + here.caller.slot) on.slots_are.0

-- is small
pub number_small : (here : Here) (k : K) → IsFree here.caller k → IsOn here.shared k
    → here.caller.node * here.shared.slots + here.caller.slot < 256
number_small here k free on =
    let near = free.near in
    let few = on.few in
    let nodes = on.nodes_are in
    let within = free.within in
    let slots = on.slots_are.0 in
    let small = on.slots_are.1 in
    let product =
    mul-le here.caller.node here.shared.slots 8 16 (omega (arith, near, few, nodes)) (omega (arith, small)) in
    omega (arith, product, within, slots, small)

pub is_by : (here : Here) (w : Won) (s : StoreSeat) (k : K) → IsSession s k → IsFree here.caller k → IsOn here.shared k
    → IsWonBy here w
    → IsBy here.shared.shelf.now w s
is_by here w s k is free on won = (
  won.0,
  λ z at. won.1
      ∙ ap won_by (sym (number_of here k free on) ∙ ap (λ (y : K). y.session) (one_known s k z is at)),
)
