use Rattle.std.proofs.Common.{rules, ◌≡◌, ◌∙◌, ap, Some, bytes_eq}
use Rattle.std.specs.Prelude.{string_bytes}
use Rattle.std.specs.BTreeMap.{get_by_text}
use Rattle.std.specs.Map.{update}
use Rattle.std.proofs.lemmas.Map.Text.{btree_map_updates_text}
use Rattle.loader.proofs.numbering.put_number.Goals as goal

pub returns : goal.returns
returns c = λ q.
    let same : string_bytes c.in_ok-key.key ≡ c.args.name.now = search rules in
    btree_map_updates_text (string_bytes c.in_ok-key.key) c.args.numbers.now c.insert.new.self (Some c.args.k) c.in_ok-insert.ensures.updates q
    ∙ ap (λ bs. update bytes_eq (get_by_text c.args.numbers.now) bs (Some c.args.k) q) same
