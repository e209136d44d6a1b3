use Rattle.std.proofs.Common.{refl, sym, ap, ◌∙◌, subst, ◌∷◌, ◌++◌, []}
use Rattle.loader.specs.StoreState.{StoreState}
use Rattle.store_steps.specs.Views.{op_of}
use Rattle.store_steps.specs.declared.values.Setup.{Setup}
use Rattle.store.specs.Sessions.{fresh_session}
use Rattle.host_calls.specs.Views.{AttachedView}
use Rattle.example_calls.specs.Heard.{AreExplained, HasUpdated, HasUpdatedTwice, call_and_back, read_and_back}
use Rattle.example_calls.specs.declared.heard.Heard.{Heard}
use Rattle.example_calls.proofs.Export.{are_explained, noted_by, sees_it}
use Rattle.example_raw_calls.proofs.Called.{same_then}
use Rattle.example_raw_calls.proofs.Two.{attached_both, detached_first, detached_second, its_own, last_of, some_then}
use Rattle.example_raw_calls.proofs.answers_of_two.Goals as goal

pub update_twice-told-requires : goal.update_twice-told-requires
update_twice-told-requires g c =
    let a = some_then c.attach-waits.result.own c.if-is_none.ensures in
    let b = some_then c.attach-other.result.own c.if-is_none-2.ensures in
    let t = attached_both a.0 b.0 c.open-store.ensures.opened c.requires.two c.attach-waits.ensures.gives a.1
    c.attach-other.ensures.gives b.1 in
    record { rests = (a.0, a.1, ap (λ (z : AttachedView). z.session.note.pending) t.first) }

pub read-look-requires : goal.read-look-requires
read-look-requires g c =
    let a = some_then c.attach-waits.result.own c.if-is_none.ensures in
    let m = c.update_twice-told.ensures.rests a.0 a.1 in
    record { rests = (m.0, m.1, m.3) }

pub update-answer-requires : goal.update-answer-requires
update-answer-requires g c =
    let a = some_then c.attach-waits.result.own c.if-is_none.ensures in
    let b = some_then c.attach-other.result.own c.if-is_none-2.ensures in
    let t = attached_both a.0 b.0 c.open-store.ensures.opened c.requires.two c.attach-waits.ensures.gives a.1
    c.attach-other.ensures.gives b.1 in
    record { rests = (b.0, b.1, ap (λ (z : AttachedView). z.session.note.pending) t.second) }

pub detach-requires : goal.detach-requires
detach-requires g c =
    let a = some_then c.attach-waits.result.own c.if-is_none.ensures in
    let u = c.update_twice-told.ensures.rests a.0 a.1 in
    let m = c.read-look.ensures.rests u.0 u.1 in
    let same = same_then a.0 u.0 m.0 u.2 m.2 in
    let b = some_then c.attach-other.result.own c.if-is_none-2.ensures in
    let t = attached_both a.0 b.0 c.open-store.ensures.opened c.requires.two c.attach-waits.ensures.gives a.1
    c.attach-other.ensures.gives b.1 in
    record {
      own = its_own c.attach-other.new.handle c.read-look.new.handle t.store _ _ m.0 t.handle m.1
          (same.store ∙ ap (λ (z : AttachedView). z.store) t.first);
    }

pub detach-requires-2 : goal.detach-requires-2
detach-requires-2 g c =
    let a = some_then c.attach-waits.result.own c.if-is_none.ensures in
    let b = some_then c.attach-other.result.own c.if-is_none-2.ensures in
    let t = attached_both a.0 b.0 c.open-store.ensures.opened c.requires.two c.attach-waits.ensures.gives a.1
    c.attach-other.ensures.gives b.1 in
    let u = c.update_twice-told.ensures.rests a.0 a.1 in
    let m = c.read-look.ensures.rests u.0 u.1 in
    let same = same_then a.0 u.0 m.0 u.2 m.2 in
    let d = detached_first m.0 t.handle c.detach.ensures.takes m.1 m.3
    (same.place ∙ ap (λ (z : AttachedView). z.place) t.first) in
    let n = c.update-answer.ensures.rests b.0 b.1 in
    record {
      own = its_own c.detach.new.handle c.update-answer.new.handle t.store _ _ n.0 d n.1
          (n.2.store ∙ ap (λ (z : AttachedView). z.store) t.second);
    }

pub returns : goal.returns
returns g c =
    let op = op_of c.args.programs.update c.args.argument.now in
    let look = op_of c.args.programs.read c.args.argument.now in
    let seen = c.in_ok-seen.seen in
    let a = some_then c.attach-waits.result.own c.if-is_none.ensures in
    let state = c.in_ok-state.state in
    let b = some_then c.attach-other.result.own c.if-is_none-2.ensures in
    let n = c.update-answer.ensures.rests b.0 b.1 in
    let heard : Heard =
    record { first = c.in_ok-told.field-0.0; second = c.in_ok-told.field-0.1; polled = c.in_ok-polled.polled } in
    let t = attached_both a.0 b.0 c.open-store.ensures.opened c.requires.two c.attach-waits.ensures.gives a.1
    c.attach-other.ensures.gives b.1 in
    let u = c.update_twice-told.ensures.rests a.0 a.1 in
    let w = subst (λ (z : AttachedView). HasUpdatedTwice z.session u.0.session op heard.first heard.second) t.first
    (c.in_ok-told.ensures.told a.0 u.0 a.1 u.1) in
    let m = c.read-look.ensures.rests u.0 u.1 in
    let same = same_then a.0 u.0 m.0 u.2 m.2 in
    let d = detached_first m.0 t.handle c.detach.ensures.takes m.1 m.3
    (same.place ∙ ap (λ (z : AttachedView). z.place) t.first) in
    let e = detached_second m.0 n.0 d c.detach-2.ensures.takes n.1 n.3
    (n.2.place ∙ ap (λ (z : AttachedView). z.place) t.second) in
    let last = last_of c.detach-2.new.handle c.close_into.new.handle c.close_into.result t.store m.0 n.0 state e
    c.close_into.ensures.leaves c.in_ok-state.was in
    let r = c.in_ok-seen.ensures.told u.0 m.0 u.1 m.1 in
    let p = subst (λ (z : AttachedView). HasUpdated z.session n.0.session op heard.polled) t.second
    (c.in_ok-polled.ensures.told b.0 n.0 b.1 n.1) in
    let x = fresh_session t.store.id t.store.config t.store.catalogue 0 in
    let y = fresh_session t.store.id t.store.config t.store.catalogue 1 in
    let first = noted_by x w.between op heard.first w.once in
    let second = noted_by w.between u.0.session op heard.second w.again in
    let zero = w.again.session ∙ w.once.session in
    let waits = second ∙ (λ k. first k ++ call_and_back (w.once.session k) op heard.second) in
    let reads = r.adds.own ∙ (λ k. waits k ++ read_and_back (zero k) look seen) in
    let events = read_and_back 0 look seen in
    let explained = are_explained t.store op events heard (n.0.session ∷ m.0.session ∷ []) last.0 last.1 m.0.session
    n.0.session 1 0 refl refl x u.0.session w (r.adds.same ∙ zero) reads p.session
    (noted_by y n.0.session op heard.polled p) in
    record {
      explained = record {
        catalogue = t.is.catalogue;
        says = t.is.says;
        explained = subst (λ (z : Setup × StoreState). AreExplained z.0 op (read_and_back 0 look seen) heard z.1)
            (λ i. (record { config = t.is.config i; catalogue = t.is.offers i }, sym last.2 i)) explained;
      };
      sees = sees_it w.between u.0.session op heard.second seen.point w.again r.sees;
    }
