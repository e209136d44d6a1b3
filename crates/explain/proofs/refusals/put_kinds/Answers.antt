use Rattle.std.proofs.Common.{[], ◌∷◌}
use Rattle.std.specs.Prelude.{codes}
use Rattle.explain.specs.Listing.{refusal_text}
use Rattle.explain.proofs.Pieces.{on_ok}
use Rattle.explain.proofs.Reasons.{kinds_told}
use Rattle.explain.proofs.refusals.put_kinds.Goals as goal

pub returns : goal.returns
returns c = on_ok c.put_all.result (kinds_told (refusal_text c.args.refused) (codes " The way: ") (_ ∷ []) _ _ _ c.in_ok-put_number.ensures) c.put_all.ensures
