use Rattle.std.proofs.Common.{IfSome, [], ◌∷◌, ◌≡◌, subst, sym, ap, ◌∙◌}
use Rattle.ownlock.specs.Words.{won_by}
use Rattle.ownlock.proofs.Passing.{is_out, taken_from}
use Rattle.ownlock.proofs.steps.is_taken.Goals as goal

pub returns-then-look_won-won-clause-tried : goal.returns-then-look_won-won-clause-tried
returns-then-look_won-won-clause-tried g c k sits =
    let by =
    subst (λ o. IfSome o (λ w. (k : _) → c.args.pass.now.me.0 ≡ k ∷ [] → w.now.word ≡ won_by k.session))
    c.in-Some.is c.requires.by in
    is_out g.V.Shelved.rules c.args.spot.place k _ _
    ((c.look_won.ensures.tried k sits).1 (c.if-look_won-won.true ∙ by k (ap (λ m. m.0) sits)))

pub mark-requires-2-clause-may : goal.mark-requires-2-clause-may
mark-requires-2-clause-may g c =
    let m = c.requires.may in
    let by =
    subst (λ o. IfSome o (λ w. (k : _) → c.args.pass.now.me.0 ≡ k ∷ [] → w.now.word ≡ won_by k.session))
    c.in-Some.is c.requires.by in (
      m.0,
      (c.look_won.ensures.tried m.0 m.1).0 (λ e. c.if-look_won-won.false (e ∙ sym (by m.0 (ap (λ m. m.0) m.1))))
          ∙ m.1,
      m.2,
    )

pub returns-clause-tried : goal.returns-clause-tried
returns-clause-tried g c k sits =
    let by =
    subst (λ o. IfSome o (λ w. (k : _) → c.args.pass.now.me.0 ≡ k ∷ [] → w.now.word ≡ won_by k.session))
    c.in-Some.is c.requires.by in
    let same =
    (c.look_won.ensures.tried k sits).0 (λ e. c.if-look_won-won.false (e ∙ sym (by k (ap (λ m. m.0) sits)))) in
    taken_from g.V.Shelved.rules c.args.spot.place k _ _ _ _ same (c.mark-2.ensures.tried k (same ∙ sits))
