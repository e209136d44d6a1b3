use Rattle.std.proofs.Common.{◌≡◌, ◌∙◌, Some, refl, slice_get, subst, sym}
use Rattle.loader.specs.StoreState.{StoreState}
use Rattle.oplog.specs.declared.records.Record.{Record}
use Rattle.oplog.specs.Operations.{Operation}
use Rattle.replica.specs.Grounds.{state_in}
use Rattle.replica.specs.StoreMeaning.{answered, updated}
use Rattle.replica.proofs.Afters.{after_one_more}
use Rattle.replica.proofs.Kept.{keeps_one_more, is_answered, leaves}
use Rattle.replica.proofs.operations.perform_each.Goals as goal

pub loop-k-preserved : goal.loop-k-preserved
loop-k-preserved c =
    let opening : StoreState = state_in c.args.on.now in
    let before : StoreState = state_in c.loop-k.on in
    let after : StoreState = state_in c.perform-outcome.new.on in
    let r : Record = c.op-op.ensures.op.0 in
    let there : slice_get c.args.records.now c.loop-k.k ≡ Some r = c.op-op.ensures.op.1 in
    let does : updated c.args.catalogue.now r.op before ≡ Some (answered c.perform-outcome.result after) =
    subst (λ (op : Operation). updated c.args.catalogue.now op before ≡ Some (answered c.perform-outcome.result after)) (sym c.op-op.ensures.op.2) c.perform-outcome.ensures.updated in
    record {
      shapes = c.perform-outcome.ensures.shapes;
      sizes = (c.perform-outcome.ensures.sizes.0 ∙ c.loop-k.invariant.sizes.0, c.perform-outcome.ensures.sizes.1 ∙ c.loop-k.invariant.sizes.1, c.perform-outcome.ensures.sizes.2 ∙ c.loop-k.invariant.sizes.2);
      state = after_one_more c.args.catalogue.now opening before after c.args.records.now c.loop-k.k r there c.loop-k.invariant.state (leaves c.args.catalogue.now r.op before after c.perform-outcome.result does);
      kept =
          keeps_one_more c.args.catalogue.now opening before c.args.first c.args.first c.args.records.now
          c.args.replies.now c.loop-k.replies c.keep.new.self c.loop-k.k r c.perform-outcome.result
          c.loop-k.invariant.kept there c.loop-k.invariant.state
          (is_answered c.args.catalogue.now r.op before after c.perform-outcome.result does)
          refl c.keep.ensures.kept;
    }
