use Rattle.std.proofs.Common.{◌≡◌, Result, Ok, Err, Some, subst, true}
use Rattle.std.proofs.lemmas.Option.{same_Some}
use Rattle.std.specs.Prelude.{IfOk}
use Rattle.loader.specs.CatalogueView.{CatalogueView}
use Rattle.oplog.specs.Operations.{Operation}
use Rattle.replica.specs.StoreMeaning.{store_meaning}
use Rattle.store_steps.specs.Ready.{MayRead}
use Rattle.store_steps.proofs.questions.QuestionLook.check.Goals as goal

by_verdict : {A E : Type 0} (r : Result A E) (c : CatalogueView) (op : Operation) → IfOk r (λ _. store_meaning.is_read c op ≡ true) → IfOk r (λ _. MayRead c (Some op))
by_verdict (Ok a) c op may = λ other is. subst (λ z. store_meaning.is_read c z ≡ true) (same_Some op other is) may
by_verdict (Err e) c op may = tt

first_of : {A E : Type 0} (r : Result A E) (P Q : Type 0) → IfOk r (λ _. P × Q) → IfOk r (λ _. P)
first_of (Ok a) P Q may = may.0
first_of (Err e) P Q may = tt

pub returns-clause-asks : goal.returns-clause-asks
returns-clause-asks c = by_verdict c.check_one.result c.args.catalogue.now _ (first_of c.check_one.result _ _ c.check_one.ensures.may)
