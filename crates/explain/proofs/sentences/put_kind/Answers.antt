use Rattle.std.proofs.Common.{◌≡◌, [], ◌∷◌, rules, to_z, of_z, w16}
use Rattle.std.specs.Prelude.{codes, decimal}
use Rattle.std.proofs.lemmas.Int.{to_z-of_z}
use Rattle.explain.specs.Words.{offset_words}
use Rattle.explain.proofs.Pieces.{both, on_ok}
use Rattle.explain.proofs.sentences.put_kind.Goals as goal

pub returns-in_ok-push_str-in-Value : goal.returns-in_ok-push_str-in-Value
returns-in_ok-push_str-in-Value c =
    let map = c.in-Value.map in
    let by = c.in-Value.offset in
    let same : to_z w16 (of_z w16 by) ≡ by = search (rules, to_z-of_z) in
    rw c.in-Value.is
    (on_ok c.put_offset-in-Value.result
    (λ put. both (codes "value of map " ∷ []) (decimal map ∷ offset_words by ∷ []) _ _ _ c.in_ok-push_str-in-Value.ensures.bytes (rw (c.format-in-Value.ensures.text, same) at put))
    c.put_offset-in-Value.ensures)
