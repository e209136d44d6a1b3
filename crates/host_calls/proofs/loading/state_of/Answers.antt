use Rattle.std.proofs.Common.{None, subst, sym}
use Rattle.loader.specs.declared.refusals.LoadError.{LoadError}
use Rattle.host_calls.specs.declared.opening.NotOpened.{NotOpened}
use Rattle.host_calls.specs.declared.loading.NotLoaded.TheVariants.{Manifest}
use Rattle.host_calls.specs.Loadings.{IsLoadReason}
use Rattle.host_calls.specs.Openings.{IsReason}
use Rattle.host_calls.proofs.Reasons.{of_manifest}
use Rattle.host_calls.proofs.loading.state_of.Goals as goal

pub returns-in-Err-BadLimits : goal.returns-in-Err-BadLimits
returns-in-Err-BadLimits c =
    record { loaded = subst (λ (why : NotOpened). IsReason c.args.opening.now None why) c.in-Err-BadLimits.field-0-is (c.in-Err-BadLimits.ensures.loaded None) }

pub returns-in-Err-NoText : goal.returns-in-Err-NoText
returns-in-Err-NoText c =
    let unclear = subst (λ (why : NotOpened). IsReason c.args.opening.now None why) c.in-Err-NoText.field-0-is (c.in-Err-NoText.ensures.loaded None) in
    record { loaded = λ both. unclear both.0 }

pub returns-in-Err-Loading : goal.returns-in-Err-Loading
returns-in-Err-Loading c =
    let reason = subst (λ (why : NotOpened). IsReason c.args.opening.now None why) c.in-Err-Loading.field-0-is (c.in-Err-Loading.ensures.loaded None) in
    let manifest = of_manifest c.args.opening.now c.args.text.now c.in-Err-Loading.error reason in
    record { loaded = subst (λ (e : LoadError). IsLoadReason c.args.opening.now c.args.text.now (Manifest e)) (sym c.in-Err-Loading.error-is) manifest }
