use Rattle.std.proofs.Common.{◌≡◌, ◌∙◌, Some, subst, sym}
use Rattle.loader.specs.StoreState.{StoreState}
use Rattle.oplog.specs.declared.records.Record.{Record}
use Rattle.oplog.specs.Operations.{Operation}
use Rattle.replica.specs.Grounds.{state_in}
use Rattle.replica.specs.StoreMeaning.{answered, updated}
use Rattle.replica.proofs.Afters.{after_one_more}
use Rattle.replica.proofs.Kept.{leaves}
use Rattle.replica.proofs.operations.perform_all.Goals as goal

pub loop-k-preserved : goal.loop-k-preserved
loop-k-preserved c =
    let opening : StoreState = state_in c.args.on.now in
    let before : StoreState = state_in c.loop-k.on in
    let after : StoreState = state_in c.perform.new.on in
    let r : Record = c.op-op.ensures.op.0 in
    let does : updated c.args.catalogue.now r.op before ≡ Some (answered c.perform.result after) =
    subst (λ (op : Operation). updated c.args.catalogue.now op before ≡ Some (answered c.perform.result after)) (sym c.op-op.ensures.op.2) c.perform.ensures.updated in
    record {
      shapes = c.perform.ensures.shapes;
      programs = (c.perform.ensures.sizes.0 ∙ c.loop-k.invariant.programs.0, c.perform.ensures.sizes.2 ∙ c.loop-k.invariant.programs.1);
      state =
          after_one_more c.args.catalogue.now opening before after c.args.records.now c.loop-k.k r c.op-op.ensures.op.1 c.loop-k.invariant.state
          (leaves c.args.catalogue.now r.op before after c.perform.result does);
    }
