-- What was opened, lent.
use Rattle.std.proofs.Common.{◌≡◌, Option, Some, None, Result, sym, ap, subst, ◌∙◌}
use Rattle.std.specs.Prelude.{IfSome, option_map}
use Rattle.std.specs.Option.{option_copied}
use Rattle.std.specs.Result.{result_map_both}
use Rattle.std.specs.Borrow.{Bor}
use Rattle.dumps.specs.Loading.{Outcome}
use Rattle.loader.specs.CatalogueView.{CatalogueView, MayOpenOn, OpensOn, opened_on, sizes_for}
use Rattle.loader.specs.StoreState.{StoreState, with_room}
use Rattle.engine.specs.declared.opening.Opened.TheVariants.{On}
use Rattle.engine.specs.Opening.{IsOpened}
use Rattle.engine.specs.declared.replies.Verdict.TheVariants.{Refused}
use Rattle.engine.specs.Answer.{Answer}
use Rattle.engine.specs.StateAnswer.{refusal_text}

pub opens_on : (c : CatalogueView) (lent : Option (Bor StoreState)) (state : Option StoreState) → option_copied lent ≡ state → IsOpened (On c state) → OpensOn c lent
opens_on c None state is opened = opened.1 ∙ ap (option_map (λ s. with_room s (sizes_for c))) (sym is)
opens_on c (Some s) state is opened = opened.1 ∙ ap (option_map (λ x. with_room x (sizes_for c))) (sym is)

pub fits_on : (c : CatalogueView) (lent : Option (Bor StoreState)) (state : Option StoreState) → option_copied lent ≡ state → IsOpened (On c state) → IfSome lent (λ s. MayOpenOn c s.now)
fits_on c None state is opened = tt
fits_on c (Some s) state is opened = subst (λ o. IfSome o (MayOpenOn c)) (sym is) opened.0

-- the catalogue on what was loaded, or the answer to the refusal, as `on_text` says
abbrev pub on_loaded : CatalogueView → Outcome → Result CatalogueView Answer
on_loaded c o = result_map_both (opened_on c) (λ refusal. record { text = refusal_text refusal; verdict = Refused }) o
