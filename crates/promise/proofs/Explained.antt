-- What explains a trace by the functions explains it by the relations.
use Rattle.std.proofs.Common.{◌≡◌, ℕ, ◌≤◌, List, [], length, append-nil, take, Some, sym, ap, ◌∙◌, subst, true, arith}
use Rattle.verifier.specs.declared.refusal.Mode.{Mode}
use Rattle.verifier.specs.declared.refusal.Mode.TheVariants.{Update}
use Rattle.machine.specs.Soundness.{TypableProgramsRun}
use Rattle.loader.specs.CatalogueView.{CatalogueView, IsCatalogue}
use Rattle.oplog.specs.Operations.{Operation}
use Rattle.oplog.specs.History.{History, state_after}
use Rattle.combiner.specs.declared.slots.Reply.TheVariants.{Placed, Ended}
use Rattle.replica.specs.StoreMeaning.{is_operation, store_meaning}
use Rattle.schedule.specs.declared.parts.Opening.{Opening}
use Rattle.schedule.specs.Explains.{Explains as SchedExplains}
use Rattle.schedule.specs.Trace.{Answer, Answers, Call, Positions, ReadBack, Trace, Updated}
use Rattle.schedule.proofs.Export.{answers_in, in_trace, take_all_front}
use Rattle.schedule.specs.declared.steps.Step.{Step}
use Rattle.schedule.specs.declared.steps.StepAnswer.{StepAnswer}
use Rattle.schedule.specs.Headline.{StepsAreExplained}
use Rattle.schedule.specs.ReadOff.{read_off}
use Rattle.schedule.specs.Stands.{Stands}
use Rattle.schedule.specs.Taking.{WorldState, opened_store}
use Rattle.promise.specs.Linearized.{Explains, IsLinearized, IsRight}
use Rattle.promise.specs.Operations.{After}
use Rattle.promise.proofs.Effects.{read_replies_at, replies_at, state_is}

module _ (always : TypableProgramsRun) (m : Opening) (h : History) (positions : Positions) (t : Trace) (whole : IsCatalogue m.catalogue) (x : SchedExplains m h positions t) (few : length h ≤ m.config.limit) where
  abbrev c : CatalogueView
  c = m.catalogue

  all : take (length h) h ≡ h
  all = ap (take (length h)) (sym (append-nil h)) ∙ take_all_front h []

  right : (s : ℕ) (mode : Mode) (op : Operation) (call back : ℕ) (answer : Answer)
      → Answers t s mode op call back answer
      → IsRight c m.config.limit h positions call op answer
  right s mode op call back (Updated (Placed i reply)) answers =
      let was = x.right s mode op call back (Updated (Placed i reply)) answers in
      let there = in_trace x i call was.0 in
      let called = (answers_in answers).2 in
      let op_is : there.2.0.op ≡ op =
      (let e : Some (Call there.2.0.author Update there.2.0.op) ≡ Some (Call s mode op) = sym there.2.2 ∙ called in cc) in
      let is = subst (λ (z : Operation). is_operation Update c z ≡ true) op_is (x.updates i there.2.0 there.2.1) in
      (was.0, replies_at always c whole h x.updates i op reply (omega (arith, there.0)) is was.1)
  right s mode op call back (ReadBack a) answers =
      let was = x.right s mode op call back (ReadBack a) answers in
      (was.0, read_replies_at always c whole h x.updates a.point op a.reply was.0 was.1)
  right s mode op call back (Updated Ended) answers = x.right s mode op call back (Updated Ended) answers

  -- the state that all operations leave
  pub leaves : After c h (state_after store_meaning c h (length h))
  leaves = subst (λ (z : History). After c z (state_after store_meaning c h (length h))) all (state_is always c whole h x.updates (length h) (omega arith))

  pub explains : Explains c m.config.limit h positions t
  explains = record {
    within = few;
    effects = (state_after store_meaning c h (length h), leaves);
    each_placed = x.each_placed;
    calls = λ i call r at placed. x.calls i call r at placed;
    once = x.once;
    right = right;
    placed_later = x.placed_later;
    read_later = x.read_later;
    calls_in_turn = x.calls_in_turn;
    answers_in_turn = x.answers_in_turn;
  }

-- so what is read off the steps of a new store and their answers
pub steps_linearized : TypableProgramsRun
    → (m : Opening) (old new : WorldState) (steps : List Step) (answers : List StepAnswer)
    → old ≡ opened_store m → Stands old.opening old.world [] [] [] → StepsAreExplained old steps answers new
    → IsLinearized m.catalogue m.config.limit (read_off m.config steps answers)
steps_linearized always m old new steps answers opened stands told =
    let t : Trace = read_off m.config steps answers in
    let is : old.opening ≡ m = ap (λ (s : WorldState). s.opening) opened in
    let e = told.goes_on [] [] [] stands in
    let here = e.3.explains in
    let there = subst (λ (z : Opening). SchedExplains new.opening e.0 e.1 (read_off z.config steps answers)) is here in
    let x : SchedExplains m e.0 e.1 t = subst (λ (z : Opening). SchedExplains z e.0 e.1 t) (told.opening ∙ is) there in
    let few = subst (λ (z : Opening). length e.0 ≤ z.config.limit) (told.opening ∙ is) e.2.log.within in
    (e.0, e.1, explains always m e.0 e.1 t (subst (λ (z : Opening). IsCatalogue z.catalogue) is stands.catalogue) x few)
