use Rattle.std.proofs.Common.{[], ◌∷◌, ◌++◌, drop, sym, ap, ◌∙◌, subst}
use Rattle.std.specs.Prelude.{codes}
use Rattle.std.specs.List.{concat}
use Rattle.std.specs.String.{string_bytes}
use Rattle.explain.proofs.Pieces.{on_ok}
use Rattle.explain.proofs.Slots.{Separated, sources_put, sources_separated}
use Rattle.explain.proofs.programs.slots.put_sources.Goals as goal

pub after_separator-requires-clause-begins : goal.after_separator-requires-clause-begins
after_separator-requires-clause-begins c =
    let jumps = c.args.jumps.now in
    let falls = c.args.falls.now in
    let put = sources_put jumps falls _ _ _ _ _ _ _ c.new-slots.ensures.bytes c.min.ensures c.split_at.ensures.front c.split_at.ensures.back_len c.in_ok-put_slots.ensures c.in_ok-put_more.ensures c.in_ok-put_slots-2.ensures in
    subst (Separated (codes ", ")) (sym (c.as_str.ensures.value ∙ put)) (sources_separated jumps falls)

pub returns : goal.returns
returns c =
    let jumps = c.args.jumps.now in
    let falls = c.args.falls.now in
    let made = sources_put jumps falls _ _ _ _ _ _ _ c.new-slots.ensures.bytes c.min.ensures c.split_at.ensures.front c.split_at.ensures.back_len c.in_ok-put_slots.ensures c.in_ok-put_more.ensures c.in_ok-put_slots-2.ensures in
    on_ok c.put_all.result
    (λ put. put ∙ ap (λ r. string_bytes c.args.out.now ++ concat (codes "from " ∷ r ∷ codes ": " ∷ [])) (c.after_separator.ensures ∙ ap (drop 2) (c.as_str.ensures.value ∙ made))) c.put_all.ensures
