use Rattle.std.proofs.Common.{[], ◌∷◌}
use Rattle.std.specs.Prelude.{codes}
use Rattle.explain.proofs.Texts.{begins_front}
use Rattle.explain.proofs.files.faults.explain_stranger.Goals as goal

pub returns : goal.returns
returns c = record { named = begins_front (codes "\n" ∷ c.args.name.now ∷ codes ": not UTF-8\n" ∷ []) (codes "      " ∷ _ ∷ []) _ _ c.new-out.ensures.bytes c.in_ok-put_all.ensures }
