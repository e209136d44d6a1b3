use Rattle.std.proofs.Common.{rules, of_calls}
use Rattle.std.proofs.lemmas.Fn.{always_returns_same}
use Rattle.dumps.proofs.KeyOrder.{is_below, is_order, sorted_are}
use Rattle.dumps.proofs.sorting.sorted_places.Goals as goal

pub returns : goal.returns
returns c = λ s at.
    let maps = c.args.maps.now in
    let by_keys = c.sort_unstable_by.ensures.sorted (is_below maps c.args.m) (is_order maps c.args.m) (always_returns_same _ _ _ (λ a r f k. search (rules, of_calls))) in
    sorted_are maps c.args.m s c.in_ok-places.places.items c.sort_unstable_by.new.self.items at (c.in_ok-places.ensures s at) c.sort_unstable_by.ensures.permutation by_keys
