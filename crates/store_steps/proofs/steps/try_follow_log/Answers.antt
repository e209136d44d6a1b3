use Rattle.ownlock.proofs.Export.{adds_on, stepped_by}
use Rattle.std.proofs.Common.{refl, ap, sym, subst, ◌∙◌, arith}
use Rattle.loader.specs.CatalogueView.{sizes_for}
use Rattle.node.specs.Following.{replayed, copied}
use Rattle.replica.specs.StoreMeaning.{AreUpdates}
use Rattle.oplog.specs.Logs.{records_from}
use Rattle.store_steps.specs.Knowing.{HasReplica}
use Rattle.store_steps.specs.Ready.{MayBegin}
use Rattle.store_steps.proofs.Taken.{known_as, may_take_log, took_log}
use Rattle.store_steps.proofs.Followed.{above, fits, kept_up, updates}
use Rattle.store_steps.proofs.Played.{followed_all, raised_as}
use Rattle.store_steps.proofs.Finished.{log_catalogue, asked_put, asked_back, long_enough, followed}
use Rattle.store_steps.proofs.Loaded.{may_still}
use Rattle.store_steps.proofs.Stretches.{follows_by}
use Rattle.store_steps.proofs.steps.try_follow_log.Goals as goal

pub take_log-requires-clause-may : goal.take_log-requires-clause-may
take_log-requires-clause-may g c =
    let i = c.requires.holds in
    (i.0, i.1, may_take_log i.0 i.2.0.value i.2.0.holds)

pub log-log-requires : goal.log-log-requires
log-log-requires g c =
    let i = c.requires.holds in
    let t = c.in-Some.ensures.taken i.0 i.1 in
    let b = took_log i.0 t.0 c.args.node.now c.in-Some.held.value c.args.catalogue.now i.2.0 t.1 in
    record { log = b.some }

pub rebase_if_behind-requires : goal.rebase_if_behind-requires
rebase_if_behind-requires g c =
    let i = c.requires.holds in
    let t = c.in-Some.ensures.taken i.0 i.1 in
    let b = took_log i.0 t.0 c.args.node.now c.in-Some.held.value c.args.catalogue.now i.2.0 t.1 in
    let is = b.log c.log-log.result.now c.log-log.ensures.log in
    record { sizes = is.sizes.2 ∙ sym b.follows.sizes }

pub follow-requires : goal.follow-requires
follow-requires g c =
    let i = c.requires.holds in let n = c.args.node.now in let x = c.in-Some.held.value in
    let h = c.log-log.result.now in let y = c.rebase_if_behind.new.node in
    let t = c.in-Some.ensures.taken i.0 i.1 in
    let b = took_log i.0 t.0 n x c.args.catalogue.now i.2.0 t.1 in
    let is = b.log h c.log-log.ensures.log in
    let u = kept_up t.0.progress h n is b.follows y c.rebase_if_behind.ensures.behind c.rebase_if_behind.ensures.above in
    let same = log_catalogue i.0 t.0 n x b c.args.catalogue.now i.2.0.catalogue in
    record {
      above = above t.0.progress h y is u.0 u.1;
      fits = fits t.0.progress h y is u.0;
      sizes = u.0.sizes ∙ ap sizes_for same;
      updates = subst (λ d. AreUpdates d (records_from h y.replica.tail)) same (updates t.0.progress h y is u.0 u.1 b.well);
    }

pub put-requires-clause-may : goal.put-requires-clause-may
put-requires-clause-may g c =
    let i = c.requires.holds in let n = c.args.node.now in let x = c.in-Some.held.value in
    let t = c.in-Some.ensures.taken i.0 i.1 in
    let b = took_log i.0 t.0 n x c.args.catalogue.now i.2.0 t.1 in
    (t.0, t.2, asked_put i.0 t.0 n x b g.A.Asked.read (may_still g.A.Asked.read i.0 t.0 b.note b.extends i.2.1) c.take_log.new.seat.sessions t.2 _ c.in-Some.ensures.place)

pub raise_to-requires-clause-known : goal.raise_to-requires-clause-known
raise_to-requires-clause-known g c =
    let i = c.requires.holds in let n = c.args.node.now in let x = c.in-Some.held.value in
    let h = c.log-log.result.now in let y = c.rebase_if_behind.new.node in let v = c.follow.new.node in
    let t = c.in-Some.ensures.taken i.0 i.1 in
    let b = took_log i.0 t.0 n x c.args.catalogue.now i.2.0 t.1 in
    let is = b.log h c.log-log.ensures.log in
    let u = kept_up t.0.progress h n is b.follows y c.rebase_if_behind.ensures.behind c.rebase_if_behind.ensures.above in
    let same = sym (log_catalogue i.0 t.0 n x b c.args.catalogue.now i.2.0.catalogue) in
    let all = followed_all t.0.progress h y v is u.0 u.1 (c.follow.ensures.node ∙ ap (λ d. replayed d (copied h y)) same) c.follow.ensures.sizes in
    let p = c.put.ensures.put t.0 t.2 in
    let s = asked_back i.0 t.0 n x b g.A.Asked.read (may_still g.A.Asked.read i.0 t.0 b.note b.extends i.2.1) c.take_log.new.seat.sessions t.2 _ c.in-Some.ensures.place p.0 p.1.0 p.1.1 _ (adds_on t.0 _ _ _ _ p.3) in
    let low = long_enough i.0 t.0 n x b g.A.Asked.read v _ i.0 s all in
    let here = c.tail-followed.ensures.tail in
    (_, p.2, omega (arith, low, here))

pub returns-clause-reached : goal.returns-clause-reached
returns-clause-reached g c k is =
    let n = c.args.node.now in let x = c.in-Some.held.value in
    let h = c.log-log.result.now in let y = c.rebase_if_behind.new.node in let v = c.follow.new.node in
    let knows = known_as c.args.seat.now (λ z. HasReplica z n c.args.catalogue.now × MayBegin g.A.Asked.read z) c.requires.holds k is in
    let has = knows.0 in
    let t = c.in-Some.ensures.taken k is in let b = took_log k t.0 n x c.args.catalogue.now has t.1 in
    let log_is = b.log h c.log-log.ensures.log in
    let u = kept_up t.0.progress h n log_is b.follows y c.rebase_if_behind.ensures.behind c.rebase_if_behind.ensures.above in
    let same = sym (log_catalogue k t.0 n x b c.args.catalogue.now has.catalogue) in
    let all = followed_all t.0.progress h y v log_is u.0 u.1 (c.follow.ensures.node ∙ ap (λ d. replayed d (copied h y)) same) c.follow.ensures.sizes in
    let p = c.put.ensures.put t.0 t.2 in
    let s = asked_back k t.0 n x b g.A.Asked.read (may_still g.A.Asked.read k t.0 b.note b.extends knows.1) c.take_log.new.seat.sessions t.2 _ c.in-Some.ensures.place p.0 p.1.0 p.1.1 _ (adds_on t.0 _ _ _ _ p.3) in
    let r = c.raise_to.ensures.raised _ p.2 in
    let here = c.tail-followed.ensures.tail in
    let up = raised_as _ r.0 _ v.replica.tail r.2 (omega (arith, here)) in (
      r.0,
      r.1,
      followed k t.0 n x b g.A.Asked.read v _ r.0 s all up,
      follows_by k t.0 _ r.0 h n y v b.extends log_is b.follows c.rebase_if_behind.ensures.behind c.rebase_if_behind.ensures.above (c.follow.ensures.node ∙ ap (λ d. replayed d (copied h y)) same) s.on up x c.log-log.ensures.log b.steps _ c.in-Some.ensures.place (stepped_by t.0 _ _ refl refl p.3),
    )
