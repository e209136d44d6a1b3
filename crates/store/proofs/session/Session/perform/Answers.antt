use Rattle.std.proofs.Common.{◌+◌, ◌≤◌, sym, ap, ◌∙◌, subst, refl}
use Rattle.std.proofs.lemmas.Bool.{true≢false}
use Rattle.loader.specs.CatalogueView.{CatalogueView}
use Rattle.oplog.specs.declared.configuration.Sizes.{Sizes}
use Rattle.oplog.specs.declared.configuration.TheConstants.{MAX_NODES, MAX_NODE_SLOTS}
use Rattle.store.specs.Sessions.{TellsUpdate}
use Rattle.store_steps.proofs.Export.{goes_seen, seen_as}
use Rattle.store_steps.specs.Views.{SessionView, session_view}
use Rattle.store_steps.specs.AtOnce.{UpdatesInHolds}
use Rattle.store_steps.specs.Updating.{UpdatesBy}
use Rattle.store.proofs.Gone.{update_goes}
use Rattle.store.proofs.Linear.{adds_update}
use Rattle.store.proofs.Invoked.{goes_on, has_asked, has_grown, invoked, is_idle, may_ask, tells_update}
use Rattle.store.proofs.session.Session.perform.Goals as goal

-- ---- by four takes

pub ask_at_once-given-requires-clause-idle : goal.ask_at_once-given-requires-clause-idle
ask_at_once-given-requires-clause-idle g c =
    let i = c.self.invariant.0 in
    let k = i.known in
    let was = sym c.self.view_is ∙ seen_as c.self.inside.seat k i.is in
    let config = ap (λ (z : SessionView). z.progress.config) (sym was) ∙ c.requires.own.config in (
      k,
      i.is,
      i.free,
      may_ask k c.args.store.now.config config c.shared-shared.ensures.config (i.pending, i.unread) i.batch i.within i.well_formed,
      record {
        places_are = c.shared-shared.ensures.places ∙ ap (λ n. 1 + n + n) (sym c.shared-shared.ensures.nodes.0);
        few = subst (λ n. n ≤ MAX_NODES) (sym c.shared-shared.ensures.nodes.0) c.shared-shared.ensures.nodes.1;
        nodes_are = ap (λ (z : Sizes). z.nodes) config ∙ sym c.shared-shared.ensures.nodes.0;
        slots_are = (
          ap (λ (z : Sizes). z.slots) config
              ∙ sym c.shared-shared.ensures.nodes.2,
          subst (λ n. n ≤ MAX_NODE_SLOTS)
              (sym c.shared-shared.ensures.nodes.2) c.shared-shared.ensures.nodes.3,
        );
        catalogue_is = ap (λ (z : SessionView). z.progress.catalogue) (sym was) ∙ (c.requires.own.catalogue ∙ sym c.shared-shared.ensures.catalogue);
      },
    )

pub invariant_of-self : goal.invariant_of-self
invariant_of-self g c =
    let k = c.self.invariant.0.known in
    let op = c.args.op.now in
    let a = (c.ask_at_once-given.ensures.asked k c.self.invariant.0.is) in
    let v = invoked k a.asked a.after op c.ask_at_once-given.result a.posted a.completed in
    let old = c.self.inside.seat in
    let seat = c.ask_at_once-given.new.seat in
    let grown = has_grown c.args.store.now (session_view old) (session_view seat) old.shelf seat.shelf k a.after op c.ask_at_once-given.result v (seen_as old k c.self.invariant.0.is) (seen_as seat a.after a.is) in (
      is_idle k a.after op c.ask_at_once-given.result v old seat c.self.inside.caller c.self.invariant.0 refl a.is,
      (c.self.invariant.1.0 ∙ ap (λ (x : CatalogueView). x.shapes) grown.catalogue, c.self.invariant.1.1 ∙ ap (λ (x : CatalogueView). x.long) grown.catalogue, c.self.invariant.1.2),
    )

pub returns-then-at_once : goal.returns-then-at_once
returns-then-at_once g c =
    let k = c.self.invariant.0.known in
    let op = c.args.op.now in
    let a = (c.ask_at_once-given.ensures.asked k c.self.invariant.0.is) in
    let v = invoked k a.asked a.after op c.ask_at_once-given.result a.posted a.completed in
    let was = sym c.self.view_is ∙ seen_as c.self.inside.seat k c.self.invariant.0.is in
    let seat = c.ask_at_once-given.new.seat in
    let new = session_view seat in
    let now = seen_as seat a.after a.is in
    let same = c.ask_at_once-given.ensures.same ∙ ap (λ (z : SessionView). z.shelf) c.self.view_is in
    let by = goes_seen (λ k f. UpdatesBy k f op c.ask_at_once-given.result) c.self.inside.seat seat c.args.self.now k a.after c.self.invariant.0.is c.self.invariant.0.free.held c.self.view_is a.is v.held (record { asked = a.asked; posts = a.posts; completes = a.completes }) in
    let on = goes_on c.args.store.now c.args.self.now new c.self.inside.seat.shelf seat.shelf k a.after op c.ask_at_once-given.result v was now c.requires.own same (update_goes _ _ op _ by) in
    let told = subst (λ r. TellsUpdate c.args.self.now new op r) (sym c.answer_of.ensures.said) (tells_update c.args.store.now c.args.self.now new c.self.inside.seat.shelf seat.shelf k a.after op c.ask_at_once-given.result v was now c.self.invariant.0.pending c.self.invariant.0.batch) in
    record {
      session = on;
      answered = told;
      adds = adds_update c.args.store.now c.args.self.now new op on c.answer_of.result told;
      goes = (
        c.ask_at_once-given.result,
        c.answer_of.ensures.said,
        by,
      );
      held = λ yes. (
        c.ask_at_once-given.result,
        c.answer_of.ensures.said,
        goes_seen (λ k f. UpdatesInHolds k f op c.ask_at_once-given.result) c.self.inside.seat seat c.args.self.now k a.after c.self.invariant.0.is c.self.invariant.0.free.held c.self.view_is a.is v.held a.held,
      );
    }

-- ---- by six

pub invariant_of-self-2 : goal.invariant_of-self-2
invariant_of-self-2 g c =
    let k = c.self.invariant.0.known in
    let op = c.args.op.now in
    let p = c.post.ensures.posted k c.self.invariant.0.is in
    let was = sym c.self.view_is ∙ seen_as c.self.inside.seat k c.self.invariant.0.is in
    let config = ap (λ (z : SessionView). z.progress.config) (sym was) ∙ c.requires.own.config in
    let asked = has_asked k p.0 op c.args.store.now.config p.2 config c.shared-shared.ensures.config c.self.invariant.0.batch c.self.invariant.0.within c.self.invariant.0.well_formed in
    let f = c.complete-reply.ensures.completed p.0 p.2.request p.1 asked in
    let v = invoked k p.0 f.0 op c.complete-reply.result p.2 f.2 in
    let old = c.self.inside.seat in
    let seat = c.complete-reply.new.seat in
    let grown = has_grown c.args.store.now (session_view old) (session_view seat) old.shelf seat.shelf k f.0 op c.complete-reply.result v (seen_as old k c.self.invariant.0.is) (seen_as seat f.0 f.1) in (
      is_idle k f.0 op c.complete-reply.result v old seat c.self.inside.caller c.self.invariant.0 refl f.1,
      (c.self.invariant.1.0 ∙ ap (λ (x : CatalogueView). x.shapes) grown.catalogue, c.self.invariant.1.1 ∙ ap (λ (x : CatalogueView). x.long) grown.catalogue, c.self.invariant.1.2),
    )

pub returns : goal.returns
returns g c =
    let k = c.self.invariant.0.known in
    let op = c.args.op.now in
    let p = c.post.ensures.posted k c.self.invariant.0.is in
    let was = sym c.self.view_is ∙ seen_as c.self.inside.seat k c.self.invariant.0.is in
    let config = ap (λ (z : SessionView). z.progress.config) (sym was) ∙ c.requires.own.config in
    let asked = has_asked k p.0 op c.args.store.now.config p.2 config c.shared-shared.ensures.config c.self.invariant.0.batch c.self.invariant.0.within c.self.invariant.0.well_formed in
    let f = c.complete-reply.ensures.completed p.0 p.2.request p.1 asked in
    let v = invoked k p.0 f.0 op c.complete-reply.result p.2 f.2 in
    let seat = c.complete-reply.new.seat in
    let new = session_view seat in
    let now = seen_as seat f.0 f.1 in
    let same = c.complete-reply.ensures.same ∙ (c.post.ensures.same ∙ ap (λ (z : SessionView). z.shelf) c.self.view_is) in
    let by = goes_seen (λ k f. UpdatesBy k f op c.complete-reply.result) c.self.inside.seat seat c.args.self.now k f.0 c.self.invariant.0.is c.self.invariant.0.free.held c.self.view_is f.1 v.held (record { asked = p.0; posts = p.3; completes = f.3 }) in
    let on = goes_on c.args.store.now c.args.self.now new c.self.inside.seat.shelf seat.shelf k f.0 op c.complete-reply.result v was now c.requires.own same (update_goes _ _ op _ by) in
    let told = subst (λ r. TellsUpdate c.args.self.now new op r) (sym c.answer_of-2.ensures.said) (tells_update c.args.store.now c.args.self.now new c.self.inside.seat.shelf seat.shelf k f.0 op c.complete-reply.result v was now c.self.invariant.0.pending c.self.invariant.0.batch) in
    record {
      session = on;
      answered = told;
      adds = adds_update c.args.store.now c.args.self.now new op on c.answer_of-2.result told;
      goes = (
        c.complete-reply.result,
        c.answer_of-2.ensures.said,
        by,
      );
      held = λ yes. absurd (true≢false (sym yes ∙ c.if-at_once.false));
    }
