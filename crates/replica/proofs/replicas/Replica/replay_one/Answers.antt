use Rattle.std.proofs.Common.{◌≡◌, ◌∙◌, [], ◌∷◌, Some, ap, length, subst, sym, take, arith}
use Rattle.std.proofs.lemmas.List.{nil_from_length, take_all}
use Rattle.loader.specs.StoreState.{StoreState}
use Rattle.oplog.specs.History.{after}
use Rattle.oplog.specs.Operations.{Operation}
use Rattle.replica.specs.Grounds.{state_in}
use Rattle.replica.specs.StoreMeaning.{answered, store_meaning, updated}
use Rattle.replica.proofs.Joined.{after_joined}
use Rattle.replica.proofs.Kept.{is_answered, leaves}
use Rattle.replica.proofs.replicas.Replica.replay_one.Goals as goal
use Rattle.replica.proofs.replicas.Replica.replay_one.Goals.{then-not-is_empty, else-not-is_empty}

-- the operation is performed behind the records of the hand
does : (c : goal.After-clear)
    → updated c.args.catalogue.now c.args.new.now.op
    (after store_meaning c.args.catalogue.now c.args.self.now.state c.args.hand.now.records)
    ≡ Some (answered c.perform-outcome.result (state_in c.perform-outcome.new.on))
does c =
    let behind : StoreState = after store_meaning c.args.catalogue.now c.args.self.now.state c.args.hand.now.records in
    let left = Some (answered c.perform-outcome.result (state_in c.perform-outcome.new.on)) in
    let before : state_in c.self.inside.ground ≡ behind =
    ap (λ r. r.state) c.self.view_is ∙ (elim c.if-not-is_empty.branch [
      | then-not-is_empty w ↦ ap (λ r. r.state) w.self-is ∙ w.replay_first.ensures.state
          ∙ ap (after store_meaning c.args.catalogue.now c.args.self.now.state)
          (ap (λ n. take n c.args.hand.now.records) w.len.ensures.len ∙ take_all (length c.args.hand.now.records) c.args.hand.now.records (omega arith))
      | else-not-is_empty w ↦ (
          let none = nil_from_length c.args.hand.now.records (c.is_empty.ensures.empty.0 w.if-not-is_empty.false) in
          ap (λ r. r.state) w.self-is ∙ sym (ap (after store_meaning c.args.catalogue.now c.args.self.now.state) none))
    ]) in
    subst (λ (op : Operation). updated c.args.catalogue.now op behind ≡ left) (ap (λ r. r.op) c.new.view_is)
    (subst (λ (s : StoreState). updated c.args.catalogue.now c.new.inside.op.now s ≡ left) before
    c.perform-outcome.ensures.updated)

pub returns-clause-state : goal.returns-clause-state
returns-clause-state c =
    leaves c.args.catalogue.now c.args.new.now.op _ _ c.perform-outcome.result (does c)
    ∙ sym (after_joined c.args.catalogue.now c.args.self.now.state c.args.hand.now.records (c.args.new.now ∷ []))

pub returns-clause-outcome : goal.returns-clause-outcome
returns-clause-outcome c = is_answered c.args.catalogue.now c.args.new.now.op _ _ c.perform-outcome.result (does c)
