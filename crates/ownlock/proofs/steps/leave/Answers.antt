use Rattle.std.proofs.Common.{rules, IfSome, [], ◌∷◌, ◌≡◌, subst, sym, ap, ◌∙◌}
use Rattle.ownlock.specs.Words.{won_by}
use Rattle.ownlock.proofs.Frees.{frees_won}
use Rattle.ownlock.proofs.Spots.{word_inside}
use Rattle.ownlock.proofs.steps.leave.Goals as goal

pub load-requires : goal.load-requires
load-requires g c =
    let m = c.requires.may in
    let h = c.requires.there.0 in (
      search rules,
      word_inside c.args.steps.now.table_id _ _ _ h,
      frees_won g.V.Shelved.rules g.V.Shelved.laws _ _ h.0 _ c.args.spot.place _ _ m.0 m.1 m.2 g.M.Change.progress g.M.Change.note h.1.1 h.2.0 h.2.1 m.3 m.4,
    )

pub unmark-requires-then-load-won-clause-may : goal.unmark-requires-then-load-won-clause-may
unmark-requires-then-load-won-clause-may g c =
    let m = c.requires.may in
    let by = subst (λ o. IfSome o (λ w. (k : _) → c.args.pass.now.me.0 ≡ k ∷ [] → w.now.word ≡ won_by k.session)) c.in-Some.is c.requires.by in
    let same = (c.load.ensures.2 m.0 c.args.spot.place m.1 m.2 m.3).0 (λ e. c.if-load-won.true (e ∙ sym (by m.0 (ap (λ z. z.0) m.3)))) in
    (m.0, m.1, m.2, same ∙ m.3, m.4)

pub returns-then-load-won-clause-left : goal.returns-then-load-won-clause-left
returns-then-load-won-clause-left g c k y out is =
    let by = subst (λ o. IfSome o (λ w. (k : _) → c.args.pass.now.me.0 ≡ k ∷ [] → w.now.word ≡ won_by k.session)) c.in-Some.is c.requires.by in
    let same = (c.load.ensures.2 k c.args.spot.place y out is).0 (λ e. c.if-load-won.true (e ∙ sym (by k (ap (λ z. z.0) is)))) in
    c.unmark-then-load-won.ensures.left k y out (same ∙ is)

pub returns-else-load-won-clause-left : goal.returns-else-load-won-clause-left
returns-else-load-won-clause-left g c k y out is =
    let by = subst (λ o. IfSome o (λ w. (k : _) → c.args.pass.now.me.0 ≡ k ∷ [] → w.now.word ≡ won_by k.session)) c.in-Some.is c.requires.by in
    (c.load.ensures.2 k c.args.spot.place y out is).1 (c.if-load-won.false ∙ by k (ap (λ z. z.0) is))
