use Rattle.std.proofs.Common.{refl, ◌≡◌, [], ◌∷◌, ◌++◌, ◌∙◌, sym, ap, subst}
use Rattle.std.specs.Option.{option_to_list}
use Rattle.store_steps.specs.Views.{SessionView, op_of}
use Rattle.store_steps.specs.declared.values.Setup.{Setup}
use Rattle.store.specs.Linear.{Adds}
use Rattle.store.specs.Opening.{last_state}
use Rattle.store.specs.Sessions.{fresh_session}
use Rattle.example_calls.specs.Heard.{AreExplained, HasUpdatedTwice, call_and_back, read_and_back, two_calls}
use Rattle.example_calls.specs.declared.heard.Heard.{Heard}
use Rattle.store.proofs.Export.{adds_then}
use Rattle.example_calls.proofs.Told.{are_explained, last_one, last_two, ok_holds, sees_it}
use Rattle.example_calls.proofs.answers_of_two.Goals as goal

pub returns : goal.returns
returns g c =
    let store = c.in_ok-store.store in
    let op = op_of c.args.programs.update c.args.argument.now in
    let look = op_of c.args.programs.read c.args.argument.now in
    let is = sym c.ok.ensures.value ∙ c.in_ok-store.was in
    let opened = ok_holds _ c.open.result _ is c.open.ensures.store in
    let fresh = fresh_session store.id store.config store.catalogue in
    let items : c.in_ok-store.sessions.items ≡ fresh 0 ∷ fresh 1 ∷ [] =
    ok_holds _ c.open.result _ is c.open.ensures.sessions in
    let popped = last_two c.pop.new.self.items (fresh 0) (fresh 1) c.in-Some.other
    (sym items ∙ (c.pop.ensures.items ∙ ap (λ r. c.pop.new.self.items ++ option_to_list r) c.in-Some.is)) in
    let first : c.in-Some-pop.session ≡ fresh 0 =
    last_one c.pop-2.new.self.items (fresh 0) c.in-Some-pop.session
    (sym popped.0 ∙ (c.pop-2.ensures.items ∙ ap (λ r. c.pop-2.new.self.items ++ option_to_list r) c.in-Some-pop.is))
    in
    let second : c.new-polled.result ≡ fresh 1 = c.new-polled.ensures.same ∙ popped.1 in
    let updated = c.update_twice-told.new.session in
    let waiting = c.read-look.new.session in
    let polls = c.poll-answer.new.polled in
    let heard : Heard = record {
      first = c.in_ok-told.field-0.0;
      second = c.in_ok-told.field-0.1;
      polled =
          c.in_ok-polled.polled;
    } in
    let seen = c.in_ok-seen.seen in
    let w = subst (λ (s : SessionView). HasUpdatedTwice s updated op heard.first heard.second) first
    c.in_ok-told.ensures.told in
    let told = subst (λ (s : SessionView). Adds s updated (two_calls s.session op heard.first heard.second)) first
    c.in_ok-told.ensures.adds in
    let r = c.in_ok-seen.ensures.told in
    let waits = adds_then (fresh 0) updated waiting (two_calls 0 op heard.first heard.second)
    (read_and_back 0 look seen) told
    (subst (λ x. Adds updated waiting (read_and_back x look seen)) told.same r.adds) in
    let answered = subst (λ (s : SessionView). Adds s polls (call_and_back s.session op heard.polled)) second
    c.in_ok-polled.ensures.adds in
    record {
      explained = subst (λ (z : Setup). AreExplained z op (read_and_back 0 look seen) heard
          (last_state c.close-closed.result)) (λ i. record { config = opened.0 i; catalogue = opened.1 i })
          (are_explained store op (read_and_back 0 look seen) heard
          (waiting ∷ polls ∷ []) c.close-closed.result c.close-closed.ensures.explained
          waiting polls 0 1 refl refl (fresh 0) updated w waits.same waits.own answered.same answered.own);
      sees = sees_it w.between updated op heard.second seen.point w.again r.sees;
    }
