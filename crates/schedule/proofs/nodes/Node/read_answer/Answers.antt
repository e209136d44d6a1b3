use Rattle.std.proofs.Common.{◌≡◌, ◌∙◌, ap, sym, subst, true, rules, Some}
use Rattle.std.specs.Prelude.{option_map}
use Rattle.loader.specs.CatalogueView.{sizes_for}
use Rattle.loader.specs.StoreState.{sizes_of}
use Rattle.oplog.specs.History.{ReadEffect}
use Rattle.oplog.specs.declared.records.Op.TheVariants.{Run}
use Rattle.replica.specs.StoreMeaning.{store_meaning}
use Rattle.node.specs.Following.{may_answer}
use Rattle.schedule.specs.Worlds.{NodeView, own_of}
use Rattle.schedule.specs.Steps.{read_at}
use Rattle.schedule.proofs.Owned.{own_sizes}
use Rattle.schedule.proofs.Answers.{read_taken}
use Rattle.schedule.proofs.nodes.Node.read_answer.Goals as goal

pub answer_to-given-requires : goal.answer_to-given-requires
answer_to-given-requires c = record {
  sizes = subst (λ (n : NodeView). sizes_of n.replica.state ≡ sizes_for c.args.catalogue.now) (sym c.self.view_is) (own_sizes c.args.catalogue.now c.requires.own.2 c.requires.own.3);
}

pub returns : goal.returns
returns c = record {
  answered = λ m same g done.
      let at : read_at c.args.self.now c.args.slot ≡ Some c.in-Some.read = search rules in
      let may : may_answer c.in-Some.read.seen g.done (own_of c.args.self.now) ≡ true = search rules in
      let point : c.answer_to-given.result.point ≡ c.args.self.now.replica.tail = search rules in
      read_taken m g c.args.self.now _ c.args.slot c.in-Some.read c.answer_to-given.result at may point
      (ap (λ k. option_map (λ (e : ReadEffect). e.reply) (store_meaning.read k (Run c.in-Some.read.call) c.args.self.now.replica.state)) same
      ∙ subst (λ (n : NodeView). option_map (λ (e : ReadEffect). e.reply) (store_meaning.read c.args.catalogue.now (Run c.in-Some.read.call) n.replica.state) ≡ Some c.answer_to-given.result.reply) c.self.view_is c.answer_to-given.ensures.reply)
      (search rules);
}
